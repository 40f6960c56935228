-- Where the deletion stands in the chain: the node that an end of the chain names, 0 if there is none, falls along it. Assumes nothing.
use Rattle.std.proofs.Common.{◌≡◌, ℕ, ℤ, List, zero, suc, refl, Option, Some, None}
use Rattle.links.specs.Ground.{Ground}
use Rattle.links.specs.Nodes.{column}
use Rattle.condemning.proofs.Sparing.{Deletes}

abbrev pub node_in : Option ℕ → ℕ
node_in None = 0
node_in (Some r) = r

pub node_column : (z : ℕ) → node_in (column z) ≡ z
node_column zero = refl
node_column (suc i) = refl

-- The deletion stands at the node that o names.
abbrev pub DeletesAt : Ground → ℕ → ℕ → List ℕ → List ℤ → List ℕ → List ℕ → Option ℕ → Type 0
DeletesAt g i np tints heads up down o = (w : ℕ) × (o ≡ column w) × Deletes g i np tints heads up down w

module _ {g : Ground} {i np : ℕ} {tints : List ℕ} {heads : List ℤ} {up down : List ℕ} {o : Option ℕ} (d : DeletesAt g i np tints heads up down o) where
  pub at_end : ((r : ℕ) → o ≡ Some r → ⊥) → Deletes g i np tints heads up down 0
  at_end n = go d.0 d.1 d.2
    where
      go : (w : ℕ) → o ≡ column w → Deletes g i np tints heads up down w → Deletes g i np tints heads up down 0
      go zero e a = a
      go (suc r) e a = absurd (n (suc r) e)
