-- Which options are condemned, at nodes: those whose node of column c + 1 is the first of its option, uncoloured, and blocked. Walking down the
-- column finds them in the order of their numbers. Assumes nothing.
use Prim.Native.Nat.{ℕ, ◌+◌}
use mathlib.Core.Path.{◌≡◌, refl, ◌∙◌, ap, sym, subst}
use mathlib.Core.Bool.{Bool, true, false, ◌&&◌, not}
use mathlib.Core.List.{List, map, reverse, Memᴰ as In}
use mathlib.Core.Option.{none}
use lib.Dec.{T, eqb, eqb→eq, T_not, not_T}
use Rattle.rules.specs.Lists.{keep, up_to}
use Rattle.rules.specs.State.{option_at, holds}
use Rattle.rules.specs.Redundant.{chosen}
use Rattle.rules.specs.Blocked.{blocked, condemned}
use Rattle.theorems.proofs.Words.Tests.{T_true, T_false, true-T, T_and, and_T}
use Rattle.theorems.proofs.Words.Lists.{keep→, In-reverse}
use Rattle.theorems.proofs.Steps.States.{uncoloured-holds}
use Rattle.theorems.proofs.Steps.Blocking.{condemned-holds}
use Rattle.links.specs.Plan.{EntryOf, Planned}
use Rattle.links.specs.Ground.{Ground, taken}
use Rattle.links.specs.Shown.{Ready}
use Rattle.links.specs.Taking.{in_column, hides, node_blocked}
use Rattle.showing.specs.Showing.{state_of, full_before, Condemns, condemned_at}
use Rattle.showing.proofs.Lists.{map-reverse}
use Rattle.showing.proofs.Shows.{Linked, own-option, holds-node}
use Rattle.showing.proofs.InOrder.{numbers-in-order}
use Rattle.showing.proofs.Begins.{begins-uncoloured}
use Rattle.showing.proofs.Columns.{column→, column←}
use Rattle.showing.proofs.Blocked.{blocked-shown}

module _ (g : Ground) (R : Ready g) (np c : ℕ) (n : chosen np (state_of g) c ≡ none) where
  W : Planned g.plan
  W = R.tidy.planned

  -- an option that has a node of column c + 1
  pub condemned-node : (k y : ℕ) → Linked g.plan g.on k y → g.plan.col y ≡ c + 1
      → condemned np (state_of g) c (option_at (state_of g) k) ≡ (not (full_before g y) && eqb (g.plan.tint y) 0 && node_blocked (taken g (hides g (c + 1))) y np)
  unfolding condemned
  condemned-node k y l i =
      ap (λ (b : Bool). b && blocked np (state_of g) c (option_at (state_of g) k)) (begins-uncoloured g R l c i)
      ∙ go (full_before g y) refl (eqb (g.plan.tint y) 0) refl
    where
      go : (a : Bool) → full_before g y ≡ a → (b : Bool) → eqb (g.plan.tint y) 0 ≡ b
          → (not a && b && blocked np (state_of g) c (option_at (state_of g) k)) ≡ (not a && b && node_blocked (taken g (hides g (c + 1))) y np)
      go true f b z = refl
      go false f true z =
          ap (λ (j : ℕ). blocked np (state_of g) c (option_at (state_of g) j)) (sym l.option)
          ∙ sym (blocked-shown g R c y l.entry l.is-on i np n (eqb→eq (g.plan.tint y) 0 (true-T z)) f)
      go false f false z = refl

  -- and one that has none
  pub condemned-other : (k : ℕ) → T (not (holds c (option_at (state_of g) k))) → condemned np (state_of g) c (option_at (state_of g) k) ≡ false
  condemned-other k t =
      T_false (condemned np (state_of g) c (option_at (state_of g) k))
      (not_T (condemned np (state_of g) c (option_at (state_of g) k)) (λ u.
      T_not (holds c (option_at (state_of g) k)) t (uncoloured-holds c (option_at (state_of g) k) (condemned-holds np (state_of g) c (option_at (state_of g) k) u))))

  -- The walk's test, at a node.
  pub condemned→ : (y : ℕ) → condemned_at np c g y ≡ true → EntryOf g.plan y × (g.on y ≡ true) × (g.plan.col y ≡ c + 1) × (full_before g y ≡ false)
      × T (condemned np (state_of g) c (option_at (state_of g) (g.plan.number y)))
  condemned→ y e =
      let w = T_and (in_column g (c + 1) y) (not (full_before g y) && eqb (g.plan.tint y) 0 && node_blocked (taken g (hides g (c + 1))) y np) (true-T e) in
      let v = column→ g R.tidy (c + 1) y w.0 in
      let f = (T_and (not (full_before g y)) (eqb (g.plan.tint y) 0) (T_and (not (full_before g y) && eqb (g.plan.tint y) 0) (node_blocked (taken g (hides g (c + 1))) y np) w.1).0).0 in
      (v.0, v.1, v.2, T_false (full_before g y) f, subst (λ (b : Bool). T b) (sym (condemned-node (g.plan.number y) y (own-option g.plan W g.on v.0 v.1) v.2)) w.1)

  pub condemned← : (k y : ℕ) → Linked g.plan g.on k y → g.plan.col y ≡ c + 1 → T (condemned np (state_of g) c (option_at (state_of g) k)) → condemned_at np c g y ≡ true
  condemned← k y l i t =
      T_true (condemned_at np c g y)
      (and_T (in_column g (c + 1) y) (not (full_before g y) && eqb (g.plan.tint y) 0 && node_blocked (taken g (hides g (c + 1))) y np)
      (column← g R.tidy (c + 1) y l.entry l.is-on i) (subst (λ (b : Bool). T b) (condemned-node k y l i) t))

  -- All that the walk finds, in its order: the numbers of the condemned options, upward.
  pub condemned-numbers : map g.plan.number (keep (condemned_at np c g) (up_to g.plan.N)) ≡ keep (λ k. condemned np (state_of g) c (option_at (state_of g) k)) (up_to g.plan.M)
  condemned-numbers =
      numbers-in-order g.plan W (condemned_at np c g) (c + 1) (λ k. condemned np (state_of g) c (option_at (state_of g) k)) (λ y e. let w = condemned→ y e in (w.0, w.2, w.4))
      (λ k h t.
      let o = option_at (state_of g) k in
      let w = holds-node g.plan W g.on k c (uncoloured-holds c o (condemned-holds np (state_of g) c o t)) in
      (w.0, w.1.entry, w.1.option, condemned← k w.0 w.1 w.2 t))

  -- So, from the last to the first, they are what deleting asks for.
  pub condemns : (rs : List ℕ) → rs ≡ reverse (keep (condemned_at np c g) (up_to g.plan.N)) → Condemns np c g rs
  condemns rs e = record {
    entry = λ r m. (facts r m).0;
    on = λ r m. (facts r m).1;
    first = λ r m. (facts r m).3;
    numbers = ap (map g.plan.number) e ∙ map-reverse g.plan.number (keep (condemned_at np c g) (up_to g.plan.N)) ∙ ap reverse condemned-numbers;
  }
    where
      facts : (r : ℕ) → In r rs → EntryOf g.plan r × (g.on r ≡ true) × (g.plan.col r ≡ c + 1) × (full_before g r ≡ false)
          × T (condemned np (state_of g) c (option_at (state_of g) (g.plan.number r)))
      facts r m =
          condemned→ r
          (T_true (condemned_at np c g r)
          (keep→ (condemned_at np c g) (up_to g.plan.N) (In-reverse (keep (condemned_at np c g) (up_to g.plan.N)) (subst (λ (l : List ℕ). In r l) e m))).1)
