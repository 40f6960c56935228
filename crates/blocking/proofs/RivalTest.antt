-- The test of who is a rival in a column: what it says where it holds, and what makes it hold. Assumes nothing.
use Prim.Native.Nat.{ℕ, ◌≤◌}
use mathlib.Core.Path.{◌≡◌}
use mathlib.Core.Bool.{true, false, not, and-eq-true_iff}
use borrow.Author.Tests.{not-true}
use Rattle.rules.specs.Blocked.{agree}
use Rattle.links.specs.Plan.{start}
use Rattle.links.specs.Ground.{Ground}
use Rattle.links.specs.Taking.{in_column, rival_at}
use Rattle.links.proofs.Descending.{column→, column←}

-- What it is to be a rival.
module _ (g : Ground) (i x k : ℕ) where
  pub rival→ : rival_at g i x k ≡ true → (g.on k ≡ true) × (g.plan.col k ≡ i) × (start g.plan ≤ k) × (agree x (g.plan.tint k) ≡ false)
  rival→ e =
      let a = (and-eq-true_iff (in_column g i k) (not (agree x (g.plan.tint k)))).0 e in
      let b = column→ g i k a.0 in
      (b.0, b.1, b.2, not-true (agree x (g.plan.tint k)) a.1)

  pub rival← : g.on k ≡ true → g.plan.col k ≡ i → start g.plan ≤ k → agree x (g.plan.tint k) ≡ false → rival_at g i x k ≡ true
  rival← o c s n = rw (column← g i k o c s, n)
