-- What checks 10 to 16 leave for the checks of the entries. Assumes nothing.
use Rattle.std.specs.Prelude.{ℕ, ◌+◌, ◌<◌, ◌≤◌, ◌≡◌, List, length}
use Rattle.std.proofs.Math.Option.{none}
use Rattle.rules.specs.Bounds.{word_bound}
use Rattle.rules.specs.Problem.{figures}
use Rattle.rules.specs.Checks.{check16}

-- As many items as there are marks, lists of one length, counts that are numbers of 32 bits, and ends that cut the entries into options.
pub record Checkable (n : ℕ) (items colours ends : List ℕ) : Type 0 where
  pub few-items : n ≤ figures.items
  pub few-options : length ends + 1 < word_bound
  pub few-entries : length items < word_bound
  pub lengths : length items ≡ length colours
  pub ends-rise : check16 (length items) ends ≡ none
