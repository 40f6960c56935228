-- The four lists of the options that are left, and how far they are written. Assumes nothing.
use Rattle.std.specs.Prelude.{ℕ, ◌≤◌, ◌<◌, List, length}
use Rattle.rules.specs.Bounds.{word_bound}
use Rattle.rules.specs.Lists.{each}
use Rattle.rules.specs.State.{items_of}
use Rattle.rules.specs.Result.{Numbered, ends_from, numbers_of, colours_of}
use Rattle.result.specs.Filled.{Filled}

pub record FourLists : Type 0 where
  pub ends : List ℕ
  pub numbers : List ℕ
  pub items : List ℕ
  pub colours : List ℕ

abbrev pub out : List ℕ → List ℕ → List ℕ → List ℕ → FourLists
out ends numbers items colours = record { ends = ends; numbers = numbers; items = items; colours = colours }

-- the items and the colours of options, one option behind another
abbrev pub items_in : List Numbered → List ℕ
items_in xs = each (λ x. items_of x.entries) xs

abbrev pub colours_in : List Numbered → List ℕ
colours_in xs = each (λ x. colours_of x.entries) xs

-- The options xs stand in the fronts of the lists, which were old; so many options and entries are written.
pub record Written (old lists : FourLists) (xs : List Numbered) (option entry : ℕ) : Type 0 where
  pub ends : Filled old.ends (ends_from 0 xs) lists.ends option
  pub numbers : Filled old.numbers (numbers_of xs) lists.numbers option
  pub items : Filled old.items (items_in xs) lists.items entry
  pub colours : Filled old.colours (colours_in xs) lists.colours entry

-- The lists are long enough for the options xs, and the number of entries fits.
pub record Suffices (old : FourLists) (xs : List Numbered) : Type 0 where
  pub ends : length xs ≤ length old.ends
  pub numbers : length xs ≤ length old.numbers
  pub items : length (items_in xs) ≤ length old.items
  pub colours : length (items_in xs) ≤ length old.colours
  pub small : length (items_in xs) < word_bound
