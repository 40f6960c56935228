-- The masks of what is laid out: one node more below x + 1 where x is an entry, none where it is not. Assumes nothing.
use Rattle.std.proofs.Common.{◌≡◌, ℕ, ◌+◌, ◌<◌, ◌≤◌, Bool, true, false, ◌&&◌, T, ltb, leb, ◌≢◌, ◌⊎◌, sym, refl, ap, ◌∙◌, inl, inr, ⊎_elim, arith, le→leb, ltb→lt, lt→ltb, leb→le}
use mathlib.Core.Path.{fun_ext}
use Rattle.theorems.proofs.Words.Tests.{T_true, true-T, T_and, and_T, T-or, or_left, or_right}
use Rattle.links.specs.Column.{without}
use Rattle.links.specs.Plan.{Plan, start, lo, hi, EntryOf, Header, Planned}
use Rattle.links.proofs.Stores.{same-test}
use Rattle.links.proofs.Rings.{without→, without←}
use Rattle.links.proofs.Plans.{entry-from, entry-till, header-before}
use Rattle.building.specs.Laid.{is_header, is_entry, every, below}

module _ (P : Plan) where
  pub every→ : (y : ℕ) → every P y ≡ true → Header P y ⊎ EntryOf P y
  unfolding every
  every→ y e = ⊎_elim (λ t. inl (head t)) (λ t. inr (entry t)) (T-or (is_header P y) (is_entry P y) (true-T e))
    where
      head : T (is_header P y) → Header P y
      head t = let w = T_and (ltb 0 y) (leb y P.n) t in record { above = ltb→lt 0 y w.0; below = leb→le y P.n w.1 }

      entry : T (is_entry P y) → EntryOf P y
      entry t =
          let w = T_and (ltb (P.number y) P.M && leb (lo P y) y) (ltb y (hi P y)) t in
          let v = T_and (ltb (P.number y) P.M) (leb (lo P y) y) w.0 in
          record { option = ltb→lt (P.number y) P.M v.0; from = leb→le (lo P y) y v.1; till = ltb→lt y (hi P y) w.1 }

  pub header-every : (y : ℕ) → Header P y → every P y ≡ true
  unfolding every
  header-every y h = T_true (every P y) (or_left (is_header P y) (is_entry P y) (and_T (ltb 0 y) (leb y P.n) (lt→ltb 0 y h.above) (le→leb y P.n h.below)))

  pub entry-every : (y : ℕ) → EntryOf P y → every P y ≡ true
  unfolding every
  entry-every y e =
      T_true (every P y) (or_right (is_header P y) (is_entry P y)
      (and_T (ltb (P.number y) P.M && leb (lo P y) y) (ltb y (hi P y))
      (and_T (ltb (P.number y) P.M) (leb (lo P y) y) (lt→ltb (P.number y) P.M e.option) (le→leb (lo P y) y e.from))
      (lt→ltb y (hi P y) e.till)))

  pub below→ : (x y : ℕ) → below P x y ≡ true → (every P y ≡ true) × (y < x)
  unfolding below
  below→ x y e = let w = T_and (every P y) (ltb y x) (true-T e) in (T_true (every P y) w.0, ltb→lt y x w.1)

  pub below← : (x y : ℕ) → every P y ≡ true → y < x → below P x y ≡ true
  unfolding below
  below← x y e h = T_true (below P x y) (and_T (every P y) (ltb y x) (true-T e) (lt→ltb y x h))

  pub below-off : (x y : ℕ) → x ≤ y → below P x y ≡ false
  below-off x y h = go (below P x y) refl
    where
      go : (b : Bool) → below P x y ≡ b → b ≡ false
      go true e = absurd (omega (arith, (below→ x y e).1))
      go false e = refl

  -- x is an entry, and is the one that is new below x + 1
  pub below-less-at : (x y : ℕ) → without (below P (x + 1)) x y ≡ below P x y
  below-less-at x y = same-test (without (below P (x + 1)) x y) (below P x y)
      (λ e. let w = without→ (below P (x + 1)) x y e in let v = below→ (x + 1) y w.1 in below← x y v.0 (omega (arith, v.1, w.0)))
      (λ e. let v = below→ x y e in without← (below P (x + 1)) x y (λ q. omega (arith, v.1, q)) (below← (x + 1) y v.0 (omega (arith, v.1))))

  pub below_less : (x : ℕ) → without (below P (x + 1)) x ≡ below P x
  below_less x = fun_ext (below-less-at x)

  -- x is neither an entry nor a header
  pub below-same : (x : ℕ) → (Header P x → ⊥) → (EntryOf P x → ⊥) → below P (x + 1) ≡ below P x
  below-same x nh ne = fun_ext (λ y. same-test (below P (x + 1) y) (below P x y)
      (λ e. let v = below→ (x + 1) y e in let d : y ≢ x = λ q. ⊎_elim nh ne (every→ x (ap (every P) (sym q) ∙ v.0)) in below← x y v.0 (omega (arith, v.1)))
      (λ e. let v = below→ x y e in below← (x + 1) y v.0 (omega (arith, v.1))))

  module _ (W : Planned P) where
    -- every node lies below N
    pub below_all : below P P.N ≡ every P
    below_all = fun_ext (λ y. same-test (below P P.N y) (every P y) (λ e. (below→ P.N y e).0)
        (λ e. below← P.N y e (⊎_elim (λ h. omega (arith, header-before P W y h, W.room)) (λ n. entry-till P W y n) (every→ y e))))

    -- before any entry, the headers
    pub below-headers : (y : ℕ) → below P (start P) y ≡ true → Header P y
    below-headers y e = let v = below→ (start P) y e in ⊎_elim (λ h. h) (λ n. absurd (omega (arith, entry-from P W y n, v.1))) (every→ y v.0)

    pub header-below : (x y : ℕ) → start P ≤ x → Header P y → below P x y ≡ true
    header-below x y s h = below← x y (header-every y h) (omega (arith, header-before P W y h))
