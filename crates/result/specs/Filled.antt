-- A list whose front has been written. Assumes nothing.
use Rattle.std.specs.Prelude.{ℕ, ◌≡◌, List, length}
use Rattle.rules.specs.Lists.{written}

-- The front of old has been written over by xs, and `at` is the place behind them.
pub record Filled (old xs list : List ℕ) (at : ℕ) : Type 0 where
  pub list-is : list ≡ written xs old
  pub at-is : at ≡ length xs
