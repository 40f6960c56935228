-- The result: kept items, and the options that are left, under original numbers. Document 01, "The rounds", Result, and
-- "What comes back". Assumes nothing.
use Rattle.std.specs.Prelude.{ℕ, suc, ◌+◌, not, List, [], ◌∷◌, map, ltb, length}
use Rattle.rules.specs.Lists.{keep, count, each, up_to, place}
use Rattle.rules.specs.Problem.{Entry, Problem}
use Rattle.rules.specs.Rooms.{Results}
use Rattle.rules.specs.State.{State, is, begins, in_live, items_of}

-- kept items (those in a live option) upward, primaries first
unfoldable pub kept_items : ℕ → State → List ℕ
kept_items n s = keep (λ c. in_live c s) (up_to n)

abbrev pub primaries_of : ℕ → List ℕ → ℕ
primaries_of np kept = count (λ c. ltb c np) kept

abbrev pub secondaries_of : ℕ → List ℕ → ℕ
secondaries_of np kept = count (λ c. not (ltb c np)) kept

-- an option with its original number
pub record Numbered : Type 0 where
  pub number : ℕ
  pub entries : List Entry

abbrev pub numbered : ℕ → State → List Numbered
numbered k [] = []
numbered k (o ∷ s) = record { number = k; entries = o } ∷ numbered (suc k) s

-- options by first live item upward, then by option number; entries in given order
unfoldable pub kept_options : ℕ → State → List Numbered
kept_options n s = each (λ c. keep (λ x. begins (is c) x.entries) (numbered 0 s)) (up_to n)

-- the ends of their entries, a being the end before
abbrev pub ends_from : ℕ → List Numbered → List ℕ
ends_from a [] = []
ends_from a (x ∷ xs) = let b = a + length x.entries in b ∷ ends_from b xs

abbrev pub numbers_of : List Numbered → List ℕ
numbers_of xs = map (λ x. x.number) xs

abbrev pub colours_of : List Entry → List ℕ
colours_of o = map (λ e. e.colour) o

-- the five lists, under original item numbers, with original option numbers beside
unfoldable pub results_of : ℕ → State → Results
results_of n s =
    let xs = kept_options n s in
    record {
      kept = kept_items n s;
      ends = ends_from 0 xs;
      numbers = numbers_of xs;
      items = each (λ x. items_of x.entries) xs;
      colours = each (λ x. colours_of x.entries) xs;
    }

-- The compact problem: an item is its place in the kept list, and an option its place in the result.
abbrev pub renamed : List ℕ → List Entry → List Entry
renamed kept o = map (λ e. record { item = place kept e.item; colour = e.colour }) o

unfoldable pub compact_of : ℕ → ℕ → State → Problem
compact_of np n s =
    let kept = kept_items n s in
    record { np = primaries_of np kept; n = length kept; options = map (λ x. renamed kept x.entries) (kept_options n s) }
