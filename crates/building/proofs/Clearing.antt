-- What the lists hold while the headers are cleared one after another. Assumes nothing.
use Rattle.std.proofs.Common.{◌≡◌, ℕ, ◌+◌, ◌<◌, List, ℤ, pos}
use Rattle.links.specs.Head.{head}
use Rattle.links.specs.Column.{at}

-- The first boundary and the nodes before i are cleared.
pub record Upto (n i : ℕ) (heads : List ℤ) (up down : List ℕ) : Type 0 where
  pub last : head heads (n + 1) ≡ pos 0
  pub empty : (y : ℕ) → y < i → head heads y ≡ pos 0
  pub above : (y : ℕ) → y < i → at up y ≡ y
  pub beneath : (y : ℕ) → y < i → at down y ≡ y
