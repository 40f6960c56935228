-- The starred samples of document 01, and some that pin what those leave open, as one list. Each is handed in with working room
-- and result room filled with other numbers, a place more than is asked for, so that its outcome shows what was
-- written and what was not. Assumes nothing.
use Rattle.std.specs.Prelude.{ℕ, suc, ◌+◌, ◌-◌, ◌≡◌, List, [], ◌∷◌, ◌++◌, map, length, replicate, pos}
use Rattle.rules.specs.Lists.{each}
use Rattle.rules.specs.Problem.{Entry}
use Rattle.rules.specs.Rooms.{Room, Results, Handed}
use Rattle.rules.specs.State.{items_of}
use Rattle.rules.specs.Result.{colours_of, primaries_of}
use Rattle.rules.specs.Renumber.{compact_outcome, crate_outcome}
use Rattle.rules.specs.Paper.{Said}
use Rattle.rules.specs.Outcome.{Outcome, outcome_of}

-- an entry with no colour, and one with a colour: 4:1 is `coloured 4 1`
abbrev pub plain : ℕ → Entry
plain i = record { item = i; colour = 0 }

abbrev pub coloured : ℕ → ℕ → Entry
coloured i c = record { item = i; colour = c }

-- What is handed in, and what must come back: the answer and the fronts of the result lists; and, of the kept items and the
-- result's items, the two renumberings.
pub record Sample : Type 0 where
  pub np : ℕ
  pub ns : ℕ
  pub cap : ℕ
  pub options : List (List Entry)
  pub said : Said
  pub fronts : Results
  pub compact : List ℕ
  pub crate : List ℕ

-- the options as flat lists, beside room of one place more than is asked for, filled with 7 and with 9
abbrev pub ends_of : ℕ → List (List Entry) → List ℕ
ends_of a [] = []
ends_of a (o ∷ os) = let b = a + length o in b ∷ ends_of b os

abbrev pub roomy : ℕ → ℕ → Room
roomy size n = record
    { heads = replicate size (pos 7); up = replicate size 7; down = replicate size 7; tints = replicate size 7; marks = replicate (n + 2) 7 }

abbrev pub nines : ℕ → ℕ → ℕ → Results
nines n E M = record {
  kept = replicate (suc n) 9;
  ends = replicate (suc M) 9;
  numbers = replicate (suc M) 9;
  items = replicate (suc E) 9;
  colours = replicate (suc E) 9;
}

abbrev pub handed : Sample → Handed
handed x =
    let items = each items_of x.options in
    let n = x.np + x.ns in
    let E = length items in
    let M = length x.options in
    record {
      np = x.np;
      ns = x.ns;
      cap = x.cap;
      items = items;
      colours = each colours_of x.options;
      ends = ends_of 0 x.options;
      room = roomy (n + 3 + E + M) n;
      results = nines n E M;
    }

-- the front, and 9 behind it
abbrev pub front : List ℕ → ℕ → List ℕ
front l size = l ++ replicate (suc size - length l) 9

abbrev pub expected : Sample → Outcome
expected x =
    let n = x.np + x.ns in
    let E = length (each items_of x.options) in
    let M = length x.options in
    let size = n + 3 + E + M in
    record {
      said = x.said;
      room = record
          { heads = replicate size (pos 0); up = replicate size 0; down = replicate size 0; tints = replicate size 0; marks = replicate (n + 2) 0 };
      results = record {
        kept = front x.fronts.kept n;
        ends = front x.fronts.ends M;
        numbers = front x.fronts.numbers M;
        items = front x.fronts.items E;
        colours = front x.fronts.colours E;
      };
    }

-- the two renumberings of the kept items and the items that must come back
abbrev pub compacted : Sample → List ℕ
compacted x =
    (compact_outcome x.fronts.kept (primaries_of x.np x.fronts.kept) x.fronts.items x.fronts.items).out

abbrev pub crated : Sample → List ℕ
crated x = (crate_outcome x.fronts.kept (primaries_of x.np x.fronts.kept) x.fronts.items x.fronts.items).out

-- How a sample is written down.
abbrev pub sample : ℕ → ℕ → ℕ → List (List Entry) → Said → Results → List ℕ → List ℕ → Sample
sample np ns cap options said fronts compact crate =
    record { np = np; ns = ns; cap = cap; options = options; said = said; fronts = fronts; compact = compact; crate = crate }

-- the paper's number and values, in the table's order
abbrev pub says : ℕ → List ℕ → Said
says number values = record { number = number; values = values }

abbrev pub lists : List ℕ → List ℕ → List ℕ → List ℕ → List ℕ → Results
lists kept ends numbers items colours = record { kept = kept; ends = ends; numbers = numbers; items = items; colours = colours }

abbrev pub nothing : Results
nothing = lists [] [] [] [] []

abbrev pub samples : List Sample
samples =
    -- 1
    sample 1 0 1 ((plain 0 ∷ []) ∷ [])
    (says 0 (1 ∷ 0 ∷ 1 ∷ 1 ∷ 1 ∷ 1 ∷ []))
    (lists (0 ∷ []) (1 ∷ []) (0 ∷ []) (0 ∷ []) (0 ∷ [])) (0 ∷ []) (0 ∷ [])
    -- 2, and with cap 1
    ∷ sample 2 0 2 ((plain 0 ∷ plain 1 ∷ []) ∷ (plain 1 ∷ []) ∷ [])
    (says 0 (1 ∷ 0 ∷ 1 ∷ 1 ∷ 2 ∷ 1 ∷ []))
    (lists (0 ∷ []) (1 ∷ []) (0 ∷ []) (0 ∷ []) (0 ∷ [])) (0 ∷ []) (0 ∷ [])
    ∷ sample 2 0 1 ((plain 0 ∷ plain 1 ∷ []) ∷ (plain 1 ∷ []) ∷ [])
    (says 0 (1 ∷ 0 ∷ 1 ∷ 1 ∷ 1 ∷ 0 ∷ []))
    (lists (0 ∷ []) (1 ∷ []) (0 ∷ []) (0 ∷ []) (0 ∷ [])) (0 ∷ []) (0 ∷ [])
    -- 3, and with cap 0
    ∷ sample 3 0 1 ((plain 0 ∷ plain 1 ∷ []) ∷ (plain 0 ∷ plain 2 ∷ []) ∷ (plain 1 ∷ plain 2 ∷ []) ∷ [])
    (says 1 (0 ∷ 3 ∷ 1 ∷ []))
    (nothing) [] []
    ∷ sample 3 0 0 ((plain 0 ∷ plain 1 ∷ []) ∷ (plain 0 ∷ plain 2 ∷ []) ∷ (plain 1 ∷ plain 2 ∷ []) ∷ [])
    (says 0 (3 ∷ 0 ∷ 3 ∷ 6 ∷ 0 ∷ 0 ∷ []))
    (lists (0 ∷ 1 ∷ 2 ∷ []) (2 ∷ 4 ∷ 6 ∷ []) (0 ∷ 1 ∷ 2 ∷ []) (0 ∷ 1 ∷ 0 ∷ 2 ∷ 1 ∷ 2 ∷ []) (0 ∷ 0 ∷ 0 ∷ 0 ∷ 0 ∷ 0 ∷ [])) (0 ∷ 1 ∷ 0 ∷ 2 ∷ 1 ∷ 2 ∷ []) (0 ∷ 1 ∷ 0 ∷ 2 ∷ 1 ∷ 2 ∷ [])
    -- 4
    ∷ sample 3 0 1 ((plain 0 ∷ plain 1 ∷ []) ∷ (plain 0 ∷ plain 2 ∷ []) ∷ [])
    (says 1 (1 ∷ 2 ∷ 1 ∷ []))
    (nothing) [] []
    -- 5
    ∷ sample 2 0 0 ((plain 0 ∷ []) ∷ [])
    (says 1 (1 ∷ 1 ∷ 0 ∷ []))
    (nothing) [] []
    -- 6
    ∷ sample 1 1 1 ((plain 1 ∷ []) ∷ (plain 0 ∷ []) ∷ [])
    (says 0 (1 ∷ 0 ∷ 1 ∷ 1 ∷ 1 ∷ 1 ∷ []))
    (lists (0 ∷ []) (1 ∷ []) (1 ∷ []) (0 ∷ []) (0 ∷ [])) (0 ∷ []) (0 ∷ [])
    -- 7
    ∷ sample 2 1 1 ((plain 2 ∷ plain 0 ∷ []) ∷ (plain 1 ∷ coloured 2 1 ∷ []) ∷ (plain 0 ∷ []) ∷ [])
    (says 0 (2 ∷ 1 ∷ 3 ∷ 5 ∷ 1 ∷ 1 ∷ []))
    (lists (0 ∷ 1 ∷ 2 ∷ []) (1 ∷ 3 ∷ 5 ∷ []) (2 ∷ 1 ∷ 0 ∷ []) (0 ∷ 1 ∷ 2 ∷ 2 ∷ 0 ∷ []) (0 ∷ 0 ∷ 1 ∷ 0 ∷ 0 ∷ [])) (0 ∷ 1 ∷ 2 ∷ 2 ∷ 0 ∷ []) (0 ∷ 1 ∷ 2 ∷ 2 ∷ 0 ∷ [])
    -- 8
    ∷ sample 3 2 2 ((plain 0 ∷ plain 1 ∷ coloured 4 1 ∷ []) ∷ (plain 2 ∷ []) ∷ [])
    (says 0 (2 ∷ 1 ∷ 2 ∷ 3 ∷ 2 ∷ 1 ∷ []))
    (lists (1 ∷ 2 ∷ 4 ∷ []) (2 ∷ 3 ∷ []) (0 ∷ 1 ∷ []) (1 ∷ 4 ∷ 2 ∷ []) (0 ∷ 1 ∷ 0 ∷ [])) (0 ∷ 2 ∷ 1 ∷ []) (1 ∷ 3 ∷ 2 ∷ [])
    -- the last of several p, cyclically from the entry after c, of the highest option
    ∷ sample 3 0 1 ((plain 0 ∷ plain 2 ∷ []) ∷ (plain 2 ∷ plain 0 ∷ plain 1 ∷ []) ∷ [])
    (says 0 (1 ∷ 0 ∷ 1 ∷ 1 ∷ 1 ∷ 0 ∷ []))
    (lists (1 ∷ []) (1 ∷ []) (1 ∷ []) (1 ∷ []) (0 ∷ [])) (0 ∷ []) (1 ∷ [])
    ∷ sample 3 0 1 ((plain 2 ∷ plain 0 ∷ []) ∷ (plain 0 ∷ plain 1 ∷ plain 2 ∷ []) ∷ [])
    (says 0 (1 ∷ 0 ∷ 1 ∷ 1 ∷ 1 ∷ 0 ∷ []))
    (lists (1 ∷ []) (1 ∷ []) (1 ∷ []) (1 ∷ []) (0 ∷ [])) (0 ∷ []) (1 ∷ [])
    ∷ sample 3 0 1 ((plain 2 ∷ plain 0 ∷ []) ∷ (plain 1 ∷ plain 0 ∷ plain 2 ∷ []) ∷ [])
    (says 0 (1 ∷ 0 ∷ 1 ∷ 1 ∷ 1 ∷ 0 ∷ []))
    (lists (2 ∷ []) (1 ∷ []) (1 ∷ []) (2 ∷ []) (0 ∷ [])) (0 ∷ []) (2 ∷ [])
    ∷ sample 3 0 1 ((plain 1 ∷ plain 2 ∷ []) ∷ (plain 1 ∷ plain 0 ∷ []) ∷ [])
    (says 1 (2 ∷ 2 ∷ 1 ∷ []))
    (nothing) [] []
    -- the first emptied in cyclic order from the entry after c
    ∷ sample 4 1 2 ((plain 2 ∷ plain 3 ∷ plain 1 ∷ []) ∷ (plain 1 ∷ plain 2 ∷ []) ∷ (plain 1 ∷ plain 0 ∷ []) ∷ [])
    (says 1 (3 ∷ 2 ∷ 1 ∷ []))
    (nothing) [] []
    -- an option with a coloured first item is not tested
    ∷ sample 2 1 1 ((coloured 2 1 ∷ plain 0 ∷ []) ∷ (plain 1 ∷ coloured 2 2 ∷ []) ∷ (plain 0 ∷ []) ∷ [])
    (says 0 (2 ∷ 1 ∷ 3 ∷ 5 ∷ 1 ∷ 1 ∷ []))
    (lists (0 ∷ 1 ∷ 2 ∷ []) (1 ∷ 3 ∷ 5 ∷ []) (2 ∷ 1 ∷ 0 ∷ []) (0 ∷ 1 ∷ 2 ∷ 2 ∷ 0 ∷ []) (0 ∷ 0 ∷ 2 ∷ 1 ∷ 0 ∷ [])) (0 ∷ 1 ∷ 2 ∷ 2 ∷ 0 ∷ []) (0 ∷ 1 ∷ 2 ∷ 2 ∷ 0 ∷ [])
    -- coloured holders of a redundant item are deleted; an item that is held coloured is not redundant
    ∷ sample 3 1 1 ((plain 3 ∷ plain 2 ∷ plain 1 ∷ []) ∷ (coloured 3 1 ∷ plain 0 ∷ []) ∷ [])
    (says 1 (0 ∷ 2 ∷ 1 ∷ []))
    (nothing) [] []
    ∷ sample 1 1 1 ((coloured 1 1 ∷ plain 0 ∷ []) ∷ [])
    (says 0 (1 ∷ 1 ∷ 1 ∷ 2 ∷ 1 ∷ 1 ∷ []))
    (lists (0 ∷ 1 ∷ []) (2 ∷ []) (0 ∷ []) (1 ∷ 0 ∷ []) (1 ∷ 0 ∷ [])) (1 ∷ 0 ∷ []) (1 ∷ 0 ∷ [])
    -- colours 0 and 0 do not agree: the first option blocks, and deleting it is all that the round does
    ∷ sample 2 1 1 ((plain 1 ∷ plain 2 ∷ []) ∷ (plain 1 ∷ plain 0 ∷ []) ∷ (plain 2 ∷ plain 0 ∷ []) ∷ [])
    (says 0 (2 ∷ 0 ∷ 1 ∷ 2 ∷ 1 ∷ 0 ∷ []))
    (lists (0 ∷ 1 ∷ []) (2 ∷ []) (1 ∷ []) (1 ∷ 0 ∷ []) (0 ∷ 0 ∷ [])) (1 ∷ 0 ∷ []) (1 ∷ 0 ∷ [])
    -- a secondary item may be left in no option by a removal
    ∷ sample 2 1 1 ((plain 2 ∷ plain 1 ∷ []) ∷ (plain 0 ∷ plain 1 ∷ []) ∷ [])
    (says 0 (1 ∷ 0 ∷ 1 ∷ 1 ∷ 1 ∷ 0 ∷ []))
    (lists (0 ∷ []) (1 ∷ []) (1 ∷ []) (0 ∷ []) (0 ∷ [])) (0 ∷ []) (0 ∷ [])
    -- entries leave cyclically from the one after c; an item emptied in the second round; the lowest item that is in no option
    ∷ sample 4 0 1 ((plain 1 ∷ plain 0 ∷ plain 3 ∷ []) ∷ (plain 2 ∷ plain 0 ∷ []) ∷ [])
    (says 1 (3 ∷ 2 ∷ 1 ∷ []))
    (nothing) [] []
    ∷ sample 3 1 2 ((plain 3 ∷ plain 2 ∷ plain 0 ∷ []) ∷ (plain 3 ∷ plain 1 ∷ plain 0 ∷ []) ∷ (plain 1 ∷ plain 2 ∷ []) ∷ [])
    (says 1 (2 ∷ 2 ∷ 2 ∷ []))
    (nothing) [] []
    ∷ sample 3 0 0 ((plain 0 ∷ []) ∷ [])
    (says 1 (1 ∷ 1 ∷ 0 ∷ []))
    (nothing) [] []
    -- the crate's numbers lower every secondary item by the same
    ∷ sample 1 4 1 ((plain 0 ∷ coloured 2 1 ∷ coloured 4 1 ∷ []) ∷ [])
    (says 0 (1 ∷ 2 ∷ 1 ∷ 3 ∷ 1 ∷ 1 ∷ []))
    (lists (0 ∷ 2 ∷ 4 ∷ []) (3 ∷ []) (0 ∷ []) (0 ∷ 2 ∷ 4 ∷ []) (0 ∷ 1 ∷ 1 ∷ [])) (0 ∷ 1 ∷ 2 ∷ []) (0 ∷ 1 ∷ 3 ∷ [])
    -- one equal colour above 0 is no clash
    ∷ sample 2 1 2 ((plain 0 ∷ coloured 2 1 ∷ []) ∷ (plain 1 ∷ coloured 2 1 ∷ []) ∷ (plain 0 ∷ []) ∷ [])
    (says 0 (2 ∷ 1 ∷ 3 ∷ 5 ∷ 1 ∷ 1 ∷ []))
    (lists (0 ∷ 1 ∷ 2 ∷ []) (2 ∷ 3 ∷ 5 ∷ []) (0 ∷ 2 ∷ 1 ∷ []) (0 ∷ 2 ∷ 0 ∷ 1 ∷ 2 ∷ []) (0 ∷ 1 ∷ 0 ∷ 0 ∷ 1 ∷ [])) (0 ∷ 2 ∷ 0 ∷ 1 ∷ 2 ∷ []) (0 ∷ 2 ∷ 0 ∷ 1 ∷ 2 ∷ [])
    -- a rival through another item than c, where it holds c coloured
    ∷ sample 2 1 1 ((plain 2 ∷ plain 0 ∷ []) ∷ (plain 0 ∷ plain 1 ∷ coloured 2 1 ∷ []) ∷ (plain 2 ∷ plain 1 ∷ []) ∷ [])
    (says 0 (2 ∷ 1 ∷ 1 ∷ 3 ∷ 1 ∷ 0 ∷ []))
    (lists (0 ∷ 1 ∷ 2 ∷ []) (3 ∷ []) (1 ∷ []) (0 ∷ 1 ∷ 2 ∷ []) (0 ∷ 0 ∷ 1 ∷ [])) (0 ∷ 1 ∷ 2 ∷ []) (0 ∷ 1 ∷ 2 ∷ [])
    -- the highest option that holds c need not hold a candidate
    ∷ sample 2 0 1 ((plain 0 ∷ plain 1 ∷ []) ∷ (plain 0 ∷ []) ∷ [])
    (says 0 (1 ∷ 0 ∷ 1 ∷ 1 ∷ 1 ∷ 0 ∷ []))
    (lists (1 ∷ []) (1 ∷ []) (0 ∷ []) (1 ∷ []) (0 ∷ [])) (0 ∷ []) (1 ∷ [])
    -- as many rounds as there are items
    ∷ sample 3 0 9 ((plain 1 ∷ plain 0 ∷ plain 2 ∷ []) ∷ (plain 1 ∷ plain 2 ∷ []) ∷ (plain 2 ∷ plain 0 ∷ []) ∷ [])
    (says 0 (1 ∷ 0 ∷ 1 ∷ 1 ∷ 3 ∷ 1 ∷ []))
    (lists (1 ∷ []) (1 ∷ []) (0 ∷ []) (1 ∷ []) (0 ∷ [])) (0 ∷ []) (1 ∷ [])
    -- a cap of 0 still puts the options in order, and drops skipped options and unused secondary items
    ∷ sample 2 0 0 ((plain 1 ∷ []) ∷ (plain 0 ∷ []) ∷ [])
    (says 0 (2 ∷ 0 ∷ 2 ∷ 2 ∷ 0 ∷ 0 ∷ []))
    (lists (0 ∷ 1 ∷ []) (1 ∷ 2 ∷ []) (1 ∷ 0 ∷ []) (0 ∷ 1 ∷ []) (0 ∷ 0 ∷ [])) (0 ∷ 1 ∷ []) (0 ∷ 1 ∷ [])
    ∷ sample 1 1 0 ((plain 1 ∷ []) ∷ (plain 0 ∷ []) ∷ [])
    (says 0 (1 ∷ 0 ∷ 1 ∷ 1 ∷ 0 ∷ 0 ∷ []))
    (lists (0 ∷ []) (1 ∷ []) (1 ∷ []) (0 ∷ []) (0 ∷ [])) (0 ∷ []) (0 ∷ [])
    ∷ sample 1 1 0 ((plain 0 ∷ []) ∷ [])
    (says 0 (1 ∷ 0 ∷ 1 ∷ 1 ∷ 0 ∷ 0 ∷ []))
    (lists (0 ∷ []) (1 ∷ []) (0 ∷ []) (0 ∷ []) (0 ∷ [])) (0 ∷ []) (0 ∷ [])
    ∷ []

-- Every sample comes out as it must.
pub record SamplesHold : Type 0 where
  pub outcomes : map (λ x. outcome_of (handed x)) samples ≡ map expected samples
  pub compacts : map compacted samples ≡ map (λ x. x.compact) samples
  pub crates : map crated samples ≡ map (λ x. x.crate) samples
