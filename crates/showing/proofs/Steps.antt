-- What the nodes show after a step is the state that the rules have after it: an item removed, and the condemned options deleted.
-- Assumes nothing.
use Prim.Native.Nat.{ℕ, ◌+◌, ◌<◌}
use native.Mathlib.Omega.{arith}
use mathlib.Core.Path.{◌≡◌, refl, ◌∙◌, ap, sym, subst}
use mathlib.Core.Logic.{◌⊎◌, inl, inr}
use mathlib.Core.Bool.{Bool, true, false, ◌&&◌, ◌||◌, not, cond}
use mathlib.Core.List.Memᴰ.{head as here}
use mathlib.Core.List.Memᴰ.{not-nil}
use mathlib.Core.List.{List, [], ◌∷◌, Memᴰ as In}
use borrow.Author.Tests.{le-ltb, lt-ltb}
use lib.Dec.{T, ltb, eqb, T_not, not_T}
use lib.ListN.{length}
use Rattle.rules.specs.Lists.{any, keep, up_to}
use Rattle.rules.specs.Problem.{Entry}
use Rattle.rules.specs.State.{option_at, holds}
use Rattle.rules.specs.Redundant.{without_item, shortened, state_without}
use Rattle.rules.specs.Blocked.{condemned, state_spared}
use Rattle.theorems.proofs.Words.Tests.{T-dec, T_true, T_false}
use borrow.Author.Tests.{ne_eqb}
use Rattle.theorems.proofs.Words.Lists.{any←, any_none, keep→, keep←, map-In, In-map, up_to-In, reverse-In, In-reverse}
use Rattle.theorems.proofs.Steps.Redundancy.{Fate, stays, loses, leaves, fate, shortened_same, shortened-short, shortened-deleted}
use Rattle.theorems.proofs.Steps.Blocking.{spare-same, spare-gone}
use Rattle.links.specs.Plan.{start, EntryOf, Planned}
use Rattle.links.specs.Ground.{Ground, taken}
use Rattle.links.specs.Shown.{shown_row, shown, Ready}
use Rattle.links.specs.Taking.{holds_column, mask_without}
use Rattle.links.proofs.Plans.{entry-from}
use Rattle.links.proofs.Taken.{off-taken, taken-off, taken-on}
use Rattle.showing.specs.Showing.{state_of, deletes, Condemns}
use Rattle.showing.proofs.Shows.{shown-at, node-holds, option-In, In-option}
use Rattle.showing.proofs.Masks.{row_same, row-emptied, row-without, shown-each}
use Rattle.showing.proofs.Columns.{column-holds}
use Rattle.showing.proofs.Deleting.{In-deletes, deletes-In}

-- three ways that the mask's test can go
and-stays : (a b : Bool) → (a ≡ true → b ≡ false) → (a && (not b && true)) ≡ a
and-stays true b h = rw (h refl)
and-stays false b h = refl

and-short : (a b : Bool) → (a && (not b && true)) ≡ (a && not b)
and-short true true = refl
and-short true false = refl
and-short false b = refl

and-gone : (a b : Bool) → (a && (not b && false)) ≡ false
and-gone true true = refl
and-gone true false = refl
and-gone false b = refl

module _ (g : Ground) (R : Ready g) where
  W : Planned g.plan
  W = R.tidy.planned

  -- Removing item c, which is redundant for p.
  module _ (c p : ℕ) where
    -- an entry's place in the mask, by its option
    mask-entry : (k y : ℕ) → EntryOf g.plan y → g.plan.number y ≡ k
        → mask_without g (c + 1) (p + 1) y ≡ (g.on y && (not (eqb (g.plan.col y) (c + 1)) && (not (holds c (option_at (state_of g) k)) || holds p (option_at (state_of g) k))))
    unfolding mask_without
    mask-entry k y e n =
        ap (λ (b : Bool). g.on y && (b || (not (eqb (g.plan.col y) (c + 1)) && (not (holds_column g (g.plan.number y) (c + 1)) || holds_column g (g.plan.number y) (p + 1)))))
        (le-ltb y (start g.plan) (entry-from g.plan W y e))
        ∙ ap (λ (b : Bool). g.on y && (not (eqb (g.plan.col y) (c + 1)) && (not b || holds_column g (g.plan.number y) (p + 1)))) (column-holds g R.tidy (g.plan.number y) c e.option)
        ∙ ap (λ (b : Bool). g.on y && (not (eqb (g.plan.col y) (c + 1)) && (not (holds c (option_at (state_of g) (g.plan.number y))) || b)))
        (column-holds g R.tidy (g.plan.number y) p e.option)
        ∙ ap (λ (j : ℕ). g.on y && (not (eqb (g.plan.col y) (c + 1)) && (not (holds c (option_at (state_of g) j)) || holds p (option_at (state_of g) j)))) n

    row-after : (k : ℕ) → k < g.plan.M → shown_row g.plan (mask_without g (c + 1) (p + 1)) k ≡ shortened c p (shown_row g.plan g.on k)
    row-after k h = subst (λ (o : List Entry). shown_row g.plan (mask_without g (c + 1) (p + 1)) k ≡ shortened c p o) (shown-at g.plan W g.on k h) (go (fate c p o))
      where
        o : List Entry
        o = option_at (state_of g) k

        row : shown_row g.plan g.on k ≡ o
        row = sym (shown-at g.plan W g.on k h)

        go : Fate c p o → shown_row g.plan (mask_without g (c + 1) (p + 1)) k ≡ shortened c p o
        go (stays t) = row_same g.plan W g.on (mask_without g (c + 1) (p + 1)) k h same ∙ row ∙ sym (shortened_same c p o t)
          where
            same : (y : ℕ) → EntryOf g.plan y → g.plan.number y ≡ k → mask_without g (c + 1) (p + 1) y ≡ g.on y
            same y e n =
                mask-entry k y e n
                ∙ ap (λ (b : Bool). g.on y && (not (eqb (g.plan.col y) (c + 1)) && (not b || holds p o))) (T_false (holds c o) t)
                ∙ and-stays (g.on y) (eqb (g.plan.col y) (c + 1)) (λ q.
                ne_eqb (g.plan.col y) (c + 1) (λ i. T_not (holds c o) t (node-holds g.plan W g.on k y c (record { entry = e; option = n; is-on = q }) i)))
        go (loses t u) = row-without g.plan W g.on (mask_without g (c + 1) (p + 1)) k h c short ∙ ap (without_item c) row ∙ sym (shortened-short c p o t u)
          where
            short : (y : ℕ) → EntryOf g.plan y → g.plan.number y ≡ k → mask_without g (c + 1) (p + 1) y ≡ (g.on y && not (eqb (g.plan.col y) (c + 1)))
            short y e n =
                mask-entry k y e n
                ∙ ap (λ (b : Bool). g.on y && (not (eqb (g.plan.col y) (c + 1)) && (not b || holds p o))) (T_true (holds c o) t)
                ∙ ap (λ (b : Bool). g.on y && (not (eqb (g.plan.col y) (c + 1)) && b)) (T_true (holds p o) u)
                ∙ and-short (g.on y) (eqb (g.plan.col y) (c + 1))
        go (leaves t u) = row-emptied g.plan W g.on (mask_without g (c + 1) (p + 1)) k h gone ∙ sym (shortened-deleted c p o t u)
          where
            gone : (y : ℕ) → EntryOf g.plan y → g.plan.number y ≡ k → mask_without g (c + 1) (p + 1) y ≡ false
            gone y e n =
                mask-entry k y e n
                ∙ ap (λ (b : Bool). g.on y && (not (eqb (g.plan.col y) (c + 1)) && (not b || holds p o))) (T_true (holds c o) t)
                ∙ ap (λ (b : Bool). g.on y && (not (eqb (g.plan.col y) (c + 1)) && b)) (T_false (holds p o) u)
                ∙ and-gone (g.on y) (eqb (g.plan.col y) (c + 1))

    pub without-shown : shown g.plan (mask_without g (c + 1) (p + 1)) ≡ state_without c p (state_of g)
    without-shown = shown-each g.plan W g.on (mask_without g (c + 1) (p + 1)) (shortened c p) row-after

  -- Deleting the condemned options, by their first nodes.
  module _ (np c : ℕ) (rs : List ℕ) (C : Condemns np c g rs) where
    abbrev doomed : ℕ → Bool
    doomed k = condemned np (state_of g) c (option_at (state_of g) k)

    -- the numbers of the listed nodes are those of the condemned options
    listed : (k : ℕ) → k < g.plan.M → T (condemned np (state_of g) c (option_at (state_of g) k)) → (r : ℕ) × In r rs × (k ≡ g.plan.number r)
    listed k h t =
        In-map g.plan.number rs (subst (λ (l : List ℕ). In k l) (sym C.numbers) (reverse-In (keep doomed (up_to g.plan.M)) (keep← doomed (up_to g.plan.M) (up_to-In g.plan.M h) t)))

    pub listed-condemned : {r : ℕ} → In r rs → T (condemned np (state_of g) c (option_at (state_of g) (g.plan.number r)))
    listed-condemned {r} m =
        (keep→ doomed (up_to g.plan.M) (In-reverse (keep doomed (up_to g.plan.M)) (subst (λ (l : List ℕ). In (g.plan.number r) l) C.numbers (map-In g.plan.number rs m)))).1

    row-left : (k : ℕ) → k < g.plan.M → shown_row g.plan (taken g (deletes g rs)).on k ≡ cond (condemned np (state_of g) c (shown_row g.plan g.on k)) [] (shown_row g.plan g.on k)
    row-left k h = subst (λ (o : List Entry). shown_row g.plan (taken g (deletes g rs)).on k ≡ cond (condemned np (state_of g) c o) [] o) (shown-at g.plan W g.on k h) (go (T-dec (doomed k)))
      where
        gone : T (doomed k) → (y : ℕ) → EntryOf g.plan y → g.plan.number y ≡ k → (taken g (deletes g rs)).on y ≡ false
        gone t y e n = let w = listed k h t in was (g.on y) refl w.0 w.1 (n ∙ w.2)
          where
            was : (b : Bool) → g.on y ≡ b → (r : ℕ) → In r rs → g.plan.number y ≡ g.plan.number r → (taken g (deletes g rs)).on y ≡ false
            was true o r m q = taken-off g (deletes g rs) (deletes-In g R rs m (C.entry r m) y e o q)
            was false o r m q = off-taken g (deletes g rs) y o

        same : T (not (doomed k)) → (y : ℕ) → EntryOf g.plan y → g.plan.number y ≡ k → (taken g (deletes g rs)).on y ≡ g.on y
        same t y e n =
            taken-on g (deletes g rs) y (λ m.
            let w = In-deletes g R rs C.entry m in
            T_not (doomed k) t (subst (λ (j : ℕ). T (doomed j)) (sym w.3 ∙ n) (listed-condemned w.1)))

        go : T (doomed k) ⊎ T (not (doomed k)) → shown_row g.plan (taken g (deletes g rs)).on k ≡ cond (doomed k) [] (option_at (state_of g) k)
        go (inl t) = row-emptied g.plan W g.on (taken g (deletes g rs)).on k h (gone t) ∙ sym (spare-gone np (state_of g) c (option_at (state_of g) k) t)
        go (inr t) =
            row_same g.plan W g.on (taken g (deletes g rs)).on k h (same t)
            ∙ sym (shown-at g.plan W g.on k h)
            ∙ sym (spare-same np (state_of g) c (option_at (state_of g) k) t)

    pub spared-shown : shown g.plan (taken g (deletes g rs)).on ≡ state_spared np (state_of g) c
    spared-shown = shown-each g.plan W g.on (taken g (deletes g rs)).on (λ o. cond (condemned np (state_of g) c o) [] o) row-left

    -- whether there was one
    pub any-condemned : any (condemned np (state_of g) c) (state_of g) ≡ ltb 0 (length rs)
    any-condemned = go rs refl
      where
        all-out : (o : List Entry) → In o (state_of g) → T (condemned np (state_of g) c o) → (r : ℕ) × In r rs
        all-out o m t =
            let w = In-option g.plan W g.on m in
            let v = listed w.0 w.1 (subst (λ (x : List Entry). T (condemned np (state_of g) c x)) (sym w.2) t) in
            (v.0, v.1)

        one_out : (r : ℕ) → In r rs → any (condemned np (state_of g) c) (state_of g) ≡ true
        one_out r m =
            T_true (any (condemned np (state_of g) c) (state_of g))
            (any← (condemned np (state_of g) c) (state_of g) (option-In g.plan W g.on (g.plan.number r) (C.entry r m).option) (listed-condemned m))

        go : (l : List ℕ) → rs ≡ l → any (condemned np (state_of g) c) (state_of g) ≡ ltb 0 (length l)
        go [] e =
            T_false (any (condemned np (state_of g) c) (state_of g))
            (any_none (condemned np (state_of g) c) (state_of g) (λ o m.
            not_T (condemned np (state_of g) c o) (λ t. let w = all-out o m t in not-nil (subst (λ (l : List ℕ). In w.0 l) e w.1))))
        go (r ∷ l) e = one_out r (subst (λ (x : List ℕ). In r x) (sym e) (here refl)) ∙ sym (lt-ltb 0 (length (r ∷ l)) (omega arith))
