-- The first live entry of an option: its node is the first that is full, and every live option has one such node. Assumes nothing.
use Prim.Native.Nat.{ℕ, ◌+◌, ◌-◌, ◌<◌, ◌≤◌}
use native.Mathlib.Omega.{arith}
use mathlib.Core.Path.{◌≡◌, refl, ◌∙◌, ap, sym, subst}
use mathlib.Core.Logic.{⊎_elim, ◌≢◌}
use mathlib.Core.Bool.{Bool, true, false, ◌&&◌, not}
use mathlib.Core.List.Memᴰ.{head as here}
use mathlib.Core.List.Memᴰ.{not-nil}
use mathlib.Core.List.Memᴰ.{tail as next}
use mathlib.Core.List.{List, [], ◌∷◌, ◌++◌, map, Memᴰ as In}
use lib.Dec.{T, eqb, T_not, not_T}
use Rattle.rules.specs.Lists.{keep}
use Rattle.rules.specs.Problem.{Entry}
use Rattle.rules.specs.State.{option_at, is, is_uncoloured, begins}
use Rattle.theorems.proofs.Words.Tests.{T_true, T_false, true-T, false-T, T_and}
use borrow.Author.Tests.{eq-eqb, ne_eqb}
use Rattle.theorems.proofs.Words.Lists.{any→, any←, any_none, keep←}
use Rattle.theorems.proofs.Words.Order.{Ordered, ordered-keep}
use Rattle.theorems.proofs.Words.Rising.{from-rises}
use Rattle.links.specs.Plan.{lo, Planned}
use Rattle.links.specs.Ground.{Ground}
use Rattle.links.specs.Row.{span, full}
use Rattle.links.specs.Shown.{entry_at, row_of, Ready}
use Rattle.links.proofs.Stores.{same?, less?}
use Rattle.links.proofs.Plans.{row-entry}
use Rattle.links.proofs.Spans.{In-span, span-In}
use Rattle.showing.specs.Showing.{state_of, full_before}
use Rattle.showing.proofs.Shows.{Linked, col-item, linked-below, row-linked, linked-row}
use Rattle.showing.proofs.Around.{full-on, full-linked, option-parts, option-first, before-other}

begins-plain : (c : ℕ) (o : List Entry) → T (begins (is_uncoloured c) o) → T (begins (is c) o)
begins-plain c [] t = t
begins-plain c (e ∷ o) t = (T_and (is c e) (eqb e.colour 0) t).0

module _ (g : Ground) (R : Ready g) where
  W : Planned g.plan
  W = R.tidy.planned

  -- a full node of y's option before y
  before-linked : {k y : ℕ} → Linked g.plan g.on k y → {z : ℕ} → In z (span (lo g.plan y) y) → T (full g.heads z) → Linked g.plan g.on k z × (z < y)
  before-linked {k} {y} l {z} m t =
      let r = In-span (lo g.plan y) y m in
      let h = linked-below g.plan W g.on l in
      let a : g.plan.first k ≤ z = subst (λ (j : ℕ). g.plan.first j ≤ z) l.option r.0 in
      let b : z < g.plan.past k = omega (arith, r.1, subst (λ (j : ℕ). y < g.plan.past j) l.option l.entry.till) in
      let e = row-entry g.plan W k z h a b in
      let n = W.numbered k z h a b in
      (record { entry = e; option = n; is-on = sym (full-linked g R l z e n) ∙ T_true (full g.heads z) t }, r.1)

  linked-before : {k y z : ℕ} → Linked g.plan g.on k y → Linked g.plan g.on k z → z < y → T (full_before g y)
  linked-before {k} {y} {z} l m h =
      any← (full g.heads) (span (lo g.plan y) y)
      (span-In (lo g.plan y) y (subst (λ (j : ℕ). g.plan.first j ≤ z) (m.option ∙ sym l.option) m.entry.from) h) (full-on g R z m.entry m.is-on)

  -- The first node of an option: there is one where there is a node in its column, and only one.
  pub one-first : {k y z : ℕ} → Linked g.plan g.on k y → full_before g y ≡ false → Linked g.plan g.on k z → full_before g z ≡ false → y ≡ z
  one-first {k} {y} {z} l a m b = ⊎_elim (λ e. e) (λ n. ⊎_elim (λ h. absurd (T_not (full_before g z) (false-T b) (linked-before m l h))) (λ h. later n h) (less? y z)) (same? y z)
    where
      later : y ≢ z → z ≤ y → y ≡ z
      later n h = absurd (T_not (full_before g y) (false-T a) (linked-before l m (omega arith)))

  pub some_first : {k y : ℕ} → Linked g.plan g.on k y → (r : ℕ) × Linked g.plan g.on k r × (full_before g r ≡ false)
  some_first {k} {y} l =
      go (row_of g.plan g.on k) (linked-row g.plan W g.on k y l) (λ z m. row-linked g.plan W g.on k (linked-below g.plan W g.on l) m)
      (λ z j. linked-row g.plan W g.on k z j) (ordered-keep ◌<◌ g.on (span (g.plan.first k) (g.plan.past k)) (from-rises (g.plan.first k) (g.plan.past k - g.plan.first k)))
    where
      go : (row : List ℕ) → In y row → ((z : ℕ) → In z row → Linked g.plan g.on k z) → ((z : ℕ) → Linked g.plan g.on k z → In z row) → Ordered ◌<◌ row
          → (r : ℕ) × Linked g.plan g.on k r × (full_before g r ≡ false)
      go [] m of to S = absurd (not-nil m)
      go (r ∷ row) m of to S = (
        r,
        of r (here refl),
        T_false (full_before g r)
            (any_none (full g.heads) (span (lo g.plan r) r) (λ z n. not_T (full g.heads z) (λ t. let w = before-linked (of r (here refl)) n t in least z (to z w.0) w.1))),
      )
        where
          least : (z : ℕ) → In z (r ∷ row) → z < r → ⊥
          least z (here e) h = omega arith
          least z (next n) h = let b = S.0 z n in omega arith

  module _ {k y : ℕ} (l : Linked g.plan g.on k y) where
    -- The option begins with y's entry if no node before y is full, ..
    pub begins-first : full_before g y ≡ false → (f : Entry → Bool) → begins f (option_at (state_of g) k) ≡ f (entry_at g.plan y)
    begins-first b f = ap (begins f) (option-first g R l b)

    -- .. else with one of another item.
    pub begins-other : (c : ℕ) → g.plan.col y ≡ c + 1 → full_before g y ≡ true → begins (is c) (option_at (state_of g) k) ≡ false
    begins-other c e b = ap (begins (is c)) (option-parts g R l) ∙ go (keep g.on (span (g.plan.first k) y)) some (before-other g R l c e)
      where
        some : (z : ℕ) × In z (keep g.on (span (g.plan.first k) y))
        some =
            let w = any→ (full g.heads) (span (lo g.plan y) y) (true-T b) in
            let v = before-linked l w.1 w.2 in
            (w.0, keep← g.on (span (g.plan.first k) y) (span-In (g.plan.first k) y (subst (λ (j : ℕ). g.plan.first j ≤ w.0) v.0.option v.0.entry.from) v.1) (true-T v.0.is-on))

        go : (before : List ℕ) → (z : ℕ) × In z before → ((d : Entry) → In d (map (entry_at g.plan) before) → d.item ≢ c)
            → begins (is c) (map (entry_at g.plan) before ++ (entry_at g.plan y ∷ map (entry_at g.plan) (keep g.on (span (y + 1) (g.plan.past k))))) ≡ false
        go [] w h = absurd (not-nil w.1)
        go (a ∷ before) w h = ne_eqb (entry_at g.plan a).item c (h (entry_at g.plan a) (here refl))

    pub begins-node : (c : ℕ) → g.plan.col y ≡ c + 1 → begins (is c) (option_at (state_of g) k) ≡ not (full_before g y)
    begins-node c e = go (full_before g y) refl
      where
        go : (b : Bool) → full_before g y ≡ b → begins (is c) (option_at (state_of g) k) ≡ not b
        go true h = begins-other c e h
        go false h = begins-first h (is c) ∙ eq-eqb (g.plan.col y - 1) c (col-item g.plan W y c e)

    pub begins-uncoloured : (c : ℕ) → g.plan.col y ≡ c + 1 → begins (is_uncoloured c) (option_at (state_of g) k) ≡ (not (full_before g y) && eqb (g.plan.tint y) 0)
    begins-uncoloured c e = go (full_before g y) refl
      where
        go : (b : Bool) → full_before g y ≡ b → begins (is_uncoloured c) (option_at (state_of g) k) ≡ (not b && eqb (g.plan.tint y) 0)
        go true h = T_false (begins (is_uncoloured c) (option_at (state_of g) k))
            (not_T (begins (is_uncoloured c) (option_at (state_of g) k))
            (λ t. T_not (begins (is c) (option_at (state_of g) k)) (false-T (begins-other c e h)) (begins-plain c (option_at (state_of g) k) t)))
        go false h = begins-first h (is_uncoloured c) ∙ ap (λ (b : Bool). b && eqb (g.plan.tint y) 0) (eq-eqb (g.plan.col y - 1) c (col-item g.plan W y c e))
