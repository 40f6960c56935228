-- The tests that the walks make at nodes, as facts: a node is an entry of a column, and an option has an entry in a column. Assumes nothing.
use Prim.Native.Nat.{ℕ, ◌+◌, ◌<◌}
use mathlib.Core.Path.{◌≡◌}
use mathlib.Core.Bool.{true, ◌&&◌}
use lib.Dec.{T, eqb, eqb→eq}
use Rattle.rules.specs.State.{option_at, holds}
use Rattle.theorems.proofs.Words.Tests.{T_true, true-T, T_and, and_T, T-same, eq→eqb}
use Rattle.theorems.proofs.Words.Lists.{any→, any←}
use Rattle.links.specs.Plan.{EntryOf}
use Rattle.links.specs.Ground.{Ground, Tidy}
use Rattle.links.specs.Taking.{in_column, holds_column}
use Rattle.links.proofs.Plans.{entry-from}
use Rattle.links.proofs.Descending as Descending
use Rattle.links.proofs.Descending.{column-entry}
use Rattle.showing.specs.Showing.{state_of}
use Rattle.showing.proofs.Shows.{holds-node, node-holds}
use Rattle.showing.proofs.InOrder.{nodes_in, In-nodes, nodes-In}

module _ (g : Ground) (t : Tidy g) where
  -- an entry of column i
  pub column→ : (i y : ℕ) → T (in_column g i y) → EntryOf g.plan y × (g.on y ≡ true) × (g.plan.col y ≡ i)
  column→ i y u = column-entry g t i y (T_true (in_column g i y) u)

  pub column← : (i y : ℕ) → EntryOf g.plan y → g.on y ≡ true → g.plan.col y ≡ i → T (in_column g i y)
  column← i y e o c = true-T (Descending.column← g i y o c (entry-from g.plan t.planned y e))

  -- an option with an entry in the column of item q
  pub column-holds : (k q : ℕ) → k < g.plan.M → holds_column g k (q + 1) ≡ holds q (option_at (state_of g) k)
  column-holds k q h = T-same (holds_column g k (q + 1)) (holds q (option_at (state_of g) k)) forth back
    where
      forth : T (holds_column g k (q + 1)) → T (holds q (option_at (state_of g) k))
      forth u =
          let w = any→ (λ z. g.on z && eqb (g.plan.col z) (q + 1)) (nodes_in g.plan k) u in
          let v = T_and (g.on w.0) (eqb (g.plan.col w.0) (q + 1)) w.2 in
          let n = In-nodes g.plan t.planned k h w.1 in
          node-holds g.plan t.planned g.on k w.0 q (record { entry = n.0; option = n.1; is-on = T_true (g.on w.0) v.0 }) (eqb→eq (g.plan.col w.0) (q + 1) v.1)

      back : T (holds q (option_at (state_of g) k)) → T (holds_column g k (q + 1))
      back u =
          let w = holds-node g.plan t.planned g.on k q u in
          any← (λ z. g.on z && eqb (g.plan.col z) (q + 1)) (nodes_in g.plan k) (nodes-In g.plan t.planned k w.1.entry w.1.option)
          (and_T (g.on w.0) (eqb (g.plan.col w.0) (q + 1)) (true-T w.1.is-on) (eq→eqb (g.plan.col w.0) (q + 1) w.2))
