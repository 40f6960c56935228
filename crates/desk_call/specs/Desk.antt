-- The desk's call: lists of bytes, figures of its own and working room of its own. Document 01, "What comes back", on the desk program.
-- Assumes nothing.
use Rattle.std.specs.Prelude.{ℕ, ◌+◌, Bool, List, [], ◌∷◌, replicate, pos}
use Rattle.std.proofs.Math.Option.{Option, none, some}
use Rattle.rules.specs.Lists.{any}
use Rattle.rules.specs.Problem.{desk_figures, nodes_at, marks_at, problem_of}
use Rattle.rules.specs.Rooms.{Room, Results, Handed}
use Rattle.rules.specs.Checks.{Refusal, refusal_of}
use Rattle.rules.specs.Rounds.{Finding, reduced, infeasible, reduce}
use Rattle.rules.specs.Result.{results_of}
use Rattle.rules.specs.Paper.{Said}
use Rattle.rules.specs.Outcome.{fronts, outcome_at}
use Rattle.words.specs.Bytes.{numbers_of, bytes_of, ragged}

-- This face has working room of its own: n + 2 + E + M and n + 1 numbers, at its figures.
unfoldable pub desk_room : Room
desk_room =
    let nodes = nodes_at desk_figures in
    record { heads = replicate nodes (pos 0); up = replicate nodes 0; down = replicate nodes 0; tints = replicate nodes 0; marks = replicate (marks_at desk_figures) 0 }

-- five byte lists as lists of numbers, four bytes to a number, and back
abbrev pub numbers_in : Results → Results
numbers_in r = record {
  kept = numbers_of r.kept;
  ends = numbers_of r.ends;
  numbers = numbers_of r.numbers;
  items = numbers_of r.items;
  colours = numbers_of r.colours;
}

abbrev pub bytes_in : Results → Results
bytes_in r = record {
  kept = bytes_of r.kept;
  ends = bytes_of r.ends;
  numbers = bytes_of r.numbers;
  items = bytes_of r.items;
  colours = bytes_of r.colours;
}

-- A byte list, of input or result, whose length isn't a multiple of four
abbrev pub any_ragged : List ℕ → List ℕ → List ℕ → Results → Bool
any_ragged items colours ends r = any ragged (items ∷ colours ∷ ends ∷ r.kept ∷ r.ends ∷ r.numbers ∷ r.items ∷ r.colours ∷ [])

-- what is handed in, in whole fours
abbrev pub handed_bytes : ℕ → ℕ → ℕ → List ℕ → List ℕ → List ℕ → Results → Handed
handed_bytes np ns cap items colours ends results = record {
  np = np;
  ns = ns;
  cap = cap;
  items = numbers_of items;
  colours = numbers_of colours;
  ends = numbers_of ends;
  room = desk_room;
  results = numbers_in results;
}

-- What the desk's call comes to: what it says, and the five byte lists of the result afterwards.
pub record Served : Type 0 where
  pub said : Said
  pub results : Results

-- A refusal writes nothing, infeasible writes no result, and reduced writes the front of each list and nothing behind it.
abbrev pub bytes_after : ℕ → Option Refusal → Finding → Results → Results
bytes_after n (some r) finding bytes = bytes
bytes_after n none (reduced s rounds settled) bytes = fronts (bytes_in (results_of n s)) bytes
bytes_after n none (infeasible item cause round) bytes = bytes

abbrev pub serving : Said → Results → Served
serving said results = record { said = said; results = results }

unfoldable pub served : Bool → Handed → Results → Served
served ragged h bytes =
    let finding = reduce (problem_of h.np h.ns h.items h.colours h.ends) h.cap in
    record { said = (outcome_at desk_figures ragged h).said; results = bytes_after (h.np + h.ns) (refusal_of desk_figures ragged h) finding bytes }

-- of the whole call
abbrev pub desk_outcome : ℕ → ℕ → ℕ → List ℕ → List ℕ → List ℕ → Results → Served
desk_outcome np ns cap items colours ends results =
    served (any_ragged items colours ends results) (handed_bytes np ns cap items colours ends results) results
