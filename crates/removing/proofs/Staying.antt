-- Which nodes stay when an item is removed: those of the mask without the item, and column c's header. Assumes nothing.
use Prim.Native.Nat.{ℕ, ◌<◌}
use native.Mathlib.Omega.{arith}
use mathlib.Core.Path.{◌≡◌, ◌∙◌, ap, sym, subst}
use mathlib.Core.Logic.{◌⊎◌, inl, inr, ⊎_elim, ◌≢◌}
use mathlib.Core.Bool.{Bool, true, not, ◌&&◌, ◌||◌}
use mathlib.Core.List.{Memᴰ as In}
use borrow.Author.Tests.{lt-ltb, ltb-true}
use lib.Dec.{T, ltb, eqb, T_not}
use Rattle.theorems.proofs.Words.Tests.{T_and, and_T, T-or, or_left, or_right, T-imp, imp-T, T_true, true-T, T-same, T-dec, neqb→ne, ne→neqb}
use Rattle.links.specs.Plan.{start, EntryOf}
use Rattle.links.specs.Ground.{Ground, Tidy, taken}
use Rattle.links.specs.Shown.{Ready}
use Rattle.links.specs.Taking.{gather_to, holds_column, leaving, off_column, mask_without}
use Rattle.links.proofs.Stores.{less?}
use Rattle.links.proofs.Plans.{entry-from, entry-till}
use Rattle.links.proofs.Taken.{taken-on, on-taken}
use Rattle.links.proofs.Rows.{others-In}
use Rattle.links.proofs.Gathering.{gather-In}
use Rattle.links.proofs.Descending.{on-entry}
use Rattle.removing.proofs.OffColumn.{off→, off←}
use Rattle.removing.proofs.Leaving.{holds→, holds←, column-header, leaving-is, Goes, goes}

-- an option that held c and does not hold p does not stay
abbrev pub keeps : Ground → ℕ → ℕ → ℕ → Bool
keeps g c p y = not (holds_column g (g.plan.number y) c) || holds_column g (g.plan.number y) p

-- The mask, taken apart and put together.
module _ (g : Ground) (c p y : ℕ) where
  pub stays→ : mask_without g c p y ≡ true → (g.on y ≡ true) × ((y < start g.plan) ⊎ ((g.plan.col y ≢ c) × T (keeps g c p y)))
  unfolding mask_without
  stays→ e =
      let a = T_and (g.on y) (ltb y (start g.plan) || (not (eqb (g.plan.col y) c) && keeps g c p y)) (true-T e) in (
        T_true (g.on y) a.0,
        ⊎_elim (λ b. inl (ltb-true y (start g.plan) (T_true (ltb y (start g.plan)) b)))
            (λ b. let d = T_and (not (eqb (g.plan.col y) c)) (keeps g c p y) b in inr (neqb→ne (g.plan.col y) c d.0, d.1))
            (T-or (ltb y (start g.plan)) (not (eqb (g.plan.col y) c) && keeps g c p y) a.1),
      )

  pub →stays : g.on y ≡ true → (y < start g.plan) ⊎ ((g.plan.col y ≢ c) × T (keeps g c p y)) → mask_without g c p y ≡ true
  unfolding mask_without
  →stays o w =
      T_true (g.on y && (ltb y (start g.plan) || (not (eqb (g.plan.col y) c) && keeps g c p y)))
      (and_T (g.on y) (ltb y (start g.plan) || (not (eqb (g.plan.col y) c) && keeps g c p y)) (true-T o)
      (⊎_elim (λ b. or_left (ltb y (start g.plan)) (not (eqb (g.plan.col y) c) && keeps g c p y) (true-T (lt-ltb y (start g.plan) b)))
      (λ b. or_right (ltb y (start g.plan)) (not (eqb (g.plan.col y) c) && keeps g c p y) (and_T (not (eqb (g.plan.col y) c)) (keeps g c p y) (ne→neqb (g.plan.col y) c b.0) b.1))
      w))

module _ (g : Ground) (R : Ready g) (c p : ℕ) where
  t : Tidy g
  t = R.tidy

  -- when all that go are gone, what is in sight is what stays, but for the header of column c
  pub stays_same : (y : ℕ) → y ≢ c → mask_without g c p y ≡ (taken (off_column g c) (gather_to (leaving g c p) g g.plan.N)).on y
  stays_same y n = T-same (mask_without g c p y) ((taken (off_column g c) (gather_to (leaving g c p) g g.plan.N)).on y)
      (λ h. true-T (to (T_true (mask_without g c p y) h))) (λ h. true-T (from (T_true _ h)))
    where
      to : mask_without g c p y ≡ true → (taken (off_column g c) (gather_to (leaving g c p) g g.plan.N)).on y ≡ true
      to h =
          let w = stays→ g c p y h in
          taken-on (off_column g c) (gather_to (leaving g c p) g g.plan.N) y (λ m. gone (goes g R c p g.plan.N m) w.1)
          ∙ off← g c y w.0 (⊎_elim (λ l q. n (sym (column-header g t y w.0 l) ∙ q)) (λ d. d.0) w.1)
        where
          gone : Goes g R c p g.plan.N y → (y < start g.plan) ⊎ ((g.plan.col y ≢ c) × T (keeps g c p y)) → ⊥
          gone v (inl l) = omega (arith, entry-from g.plan t.planned y v.own-entry, l)
          gone v (inr d) =
              let h = T-imp (holds_column g (g.plan.number y) c) (holds_column g (g.plan.number y) p) d.1
              (subst (λ (k : ℕ). T (holds_column g k c)) (sym v.one-option) (holds← g t v.j c v.entry v.on v.col)) in
              T_not (holds_column g (g.plan.number v.j) p) v.lacks (subst (λ (k : ℕ). T (holds_column g k p)) v.one-option h)

      from : (taken (off_column g c) (gather_to (leaving g c p) g g.plan.N)).on y ≡ true → mask_without g c p y ≡ true
      from h =
          let w = on-taken (off_column g c) (gather_to (leaving g c p) g g.plan.N) y h in
          let v = off→ g c y w.0 in
          →stays g c p y v.0 (⊎_elim (λ l. inl l) (λ l. inr (v.1, kept (on-entry g t y v.0 l) v.0 v.1 w.1)) (less? y (start g.plan)))
        where
          kept : EntryOf g.plan y → g.on y ≡ true → g.plan.col y ≢ c → (In y (gather_to (leaving g c p) g g.plan.N) → ⊥) → T (keeps g c p y)
          kept e o d out = imp-T (holds_column g (g.plan.number y) c) (holds_column g (g.plan.number y) p)
              (λ h. ⊎_elim (λ k. k) (λ k. absurd (out (left h k))) (T-dec (holds_column g (g.plan.number y) p)))
            where
              left : T (holds_column g (g.plan.number y) c) → T (not (holds_column g (g.plan.number y) p)) → In y (gather_to (leaving g c p) g g.plan.N)
              left h k =
                  let z = holds→ g t (g.plan.number y) c e.option h in
                  let ch = leaving-is g R c p z.0 z.1 z.3 z.4 ∙ T_true (not (holds_column g (g.plan.number z.0) p)) (subst (λ (i : ℕ). T (not (holds_column g i p))) (sym z.2) k) in
                  gather-In (leaving g c p) g g.plan.N z.0 (entry-till g.plan t.planned z.0 z.1) ch
                  (others-In g t z.0 z.1 e (sym z.2) (λ q. d (ap g.plan.col q ∙ z.4)) (t.full y e o))
