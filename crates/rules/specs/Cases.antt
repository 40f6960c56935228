-- Each check of document 01's table, taken and refused, with its place and its turn, as one list. The figures are small here, so
-- that their last and the next can both be shown; the checks are the same at any. And the two renumberings with their refusals.
-- Assumes nothing.
use Rattle.std.specs.Prelude.{ℕ, ◌≡◌, false, List, [], ◌∷◌, map, get_or, replicate, pos}
use Rattle.std.proofs.Math.Option.{Option, none, some}
use Rattle.rules.specs.Problem.{Figures}
use Rattle.rules.specs.Rooms.{Handed}
use Rattle.rules.specs.Checks.{Refusal, refusal_of}
use Rattle.rules.specs.Renumber.{Renumbered, compact_outcome, crate_outcome}

abbrev pub small_figures : Figures
small_figures = record { items = 2; options = 3; entries = 3; colour = 1 }

pub record Case : Type 0 where
  pub handed : Handed
  pub refusal : Option Refusal

-- How a case is written down: the numbers and lists; how long the ten lists lent are, the five of the working room (heads, up, down,
-- tints, marks) and the five of the result (kept, ends, numbers, items, colours); what must come back.
abbrev pub case : ℕ → ℕ → List ℕ → List ℕ → List ℕ → List ℕ → Option Refusal → Case
case np ns items colours ends sizes refusal = record {
  handed = record {
    np = np;
    ns = ns;
    cap = 1;
    items = items;
    colours = colours;
    ends = ends;
    room = record {
      heads = replicate (get_or sizes 0 0) (pos 0);
      up = replicate (get_or sizes 1 0) 0;
      down = replicate (get_or sizes 2 0) 0;
      tints = replicate (get_or sizes 3 0) 0;
      marks = replicate (get_or sizes 4 0) 0;
    };
    results = record {
      kept = replicate (get_or sizes 5 0) 0;
      ends = replicate (get_or sizes 6 0) 0;
      numbers = replicate (get_or sizes 7 0) 0;
      items = replicate (get_or sizes 8 0) 0;
      colours = replicate (get_or sizes 9 0) 0;
    };
  };
  refusal = refusal;
}

abbrev pub refused : ℕ → ℕ → Option Refusal
refused number place = some (record { number = number; place = place })

abbrev pub cases : List Case
cases =
    -- taken, with exactly the room that is asked for
    case 1 1 (0 ∷ 1 ∷ []) (0 ∷ 1 ∷ []) (2 ∷ [])
    (7 ∷ 7 ∷ 7 ∷ 7 ∷ 3 ∷ 2 ∷ 1 ∷ 1 ∷ 2 ∷ 2 ∷ []) none
    -- 10, before all else
    ∷ case 0 4294967295 (5 ∷ []) [] []
    (3 ∷ 3 ∷ 3 ∷ 3 ∷ 1 ∷ 0 ∷ 0 ∷ 0 ∷ 1 ∷ 1 ∷ []) (refused 10 0)
    -- 11: the true sum; a figure's last is taken, the next is not
    ∷ case 2 1 (0 ∷ 1 ∷ []) (0 ∷ 1 ∷ []) (2 ∷ [])
    (8 ∷ 8 ∷ 8 ∷ 8 ∷ 4 ∷ 3 ∷ 1 ∷ 1 ∷ 2 ∷ 2 ∷ []) (refused 11 0)
    ∷ case 4294967295 4294967295 (0 ∷ 1 ∷ []) (0 ∷ 1 ∷ []) (2 ∷ [])
    (5 ∷ 5 ∷ 5 ∷ 5 ∷ 1 ∷ 0 ∷ 1 ∷ 1 ∷ 2 ∷ 2 ∷ []) (refused 11 0)
    ∷ case 2 0 (0 ∷ 1 ∷ []) (0 ∷ 0 ∷ []) (2 ∷ [])
    (7 ∷ 7 ∷ 7 ∷ 7 ∷ 3 ∷ 2 ∷ 1 ∷ 1 ∷ 2 ∷ 2 ∷ []) none
    -- 11 before 12
    ∷ case 2 1 [] [] []
    (5 ∷ 5 ∷ 5 ∷ 5 ∷ 4 ∷ 3 ∷ 0 ∷ 0 ∷ 0 ∷ 0 ∷ []) (refused 11 0)
    -- 12, before 14
    ∷ case 1 1 [] [] []
    (4 ∷ 4 ∷ 4 ∷ 4 ∷ 3 ∷ 2 ∷ 0 ∷ 0 ∷ 0 ∷ 0 ∷ []) (refused 12 0)
    ∷ case 1 1 [] (0 ∷ []) []
    (4 ∷ 4 ∷ 4 ∷ 4 ∷ 3 ∷ 2 ∷ 0 ∷ 0 ∷ 0 ∷ 0 ∷ []) (refused 12 0)
    -- 13
    ∷ case 1 1 (0 ∷ 1 ∷ []) (0 ∷ 1 ∷ []) (0 ∷ 0 ∷ 0 ∷ 2 ∷ [])
    (10 ∷ 10 ∷ 10 ∷ 10 ∷ 3 ∷ 2 ∷ 4 ∷ 4 ∷ 2 ∷ 2 ∷ []) (refused 13 0)
    ∷ case 1 1 (0 ∷ 1 ∷ []) (0 ∷ 1 ∷ []) (0 ∷ 0 ∷ 2 ∷ [])
    (9 ∷ 9 ∷ 9 ∷ 9 ∷ 3 ∷ 2 ∷ 3 ∷ 3 ∷ 2 ∷ 2 ∷ []) none
    -- 13 before 14
    ∷ case 1 1 (0 ∷ 1 ∷ []) (0 ∷ []) (0 ∷ 0 ∷ 0 ∷ 2 ∷ [])
    (10 ∷ 10 ∷ 10 ∷ 10 ∷ 3 ∷ 2 ∷ 4 ∷ 4 ∷ 2 ∷ 2 ∷ []) (refused 13 0)
    -- 14
    ∷ case 1 1 (0 ∷ 1 ∷ []) (0 ∷ []) (2 ∷ [])
    (7 ∷ 7 ∷ 7 ∷ 7 ∷ 3 ∷ 2 ∷ 1 ∷ 1 ∷ 2 ∷ 2 ∷ []) (refused 14 0)
    ∷ case 1 1 (0 ∷ 1 ∷ []) (0 ∷ 1 ∷ 0 ∷ []) (2 ∷ [])
    (7 ∷ 7 ∷ 7 ∷ 7 ∷ 3 ∷ 2 ∷ 1 ∷ 1 ∷ 2 ∷ 2 ∷ []) (refused 14 0)
    -- 14 before 15
    ∷ case 1 1 (0 ∷ 1 ∷ 0 ∷ 1 ∷ []) (0 ∷ 0 ∷ 0 ∷ []) (2 ∷ 4 ∷ [])
    (10 ∷ 10 ∷ 10 ∷ 10 ∷ 3 ∷ 2 ∷ 2 ∷ 2 ∷ 4 ∷ 4 ∷ []) (refused 14 0)
    -- 15
    ∷ case 1 1 (0 ∷ 1 ∷ 0 ∷ 1 ∷ []) (0 ∷ 0 ∷ 0 ∷ 0 ∷ []) (2 ∷ 4 ∷ [])
    (10 ∷ 10 ∷ 10 ∷ 10 ∷ 3 ∷ 2 ∷ 2 ∷ 2 ∷ 4 ∷ 4 ∷ []) (refused 15 0)
    ∷ case 1 1 (0 ∷ 1 ∷ 0 ∷ []) (0 ∷ 0 ∷ 0 ∷ []) (2 ∷ 3 ∷ [])
    (9 ∷ 9 ∷ 9 ∷ 9 ∷ 3 ∷ 2 ∷ 2 ∷ 2 ∷ 3 ∷ 3 ∷ []) none
    -- 15 before 16
    ∷ case 1 1 (0 ∷ 1 ∷ 0 ∷ 1 ∷ []) (0 ∷ 0 ∷ 0 ∷ 0 ∷ []) (2 ∷ 3 ∷ [])
    (10 ∷ 10 ∷ 10 ∷ 10 ∷ 3 ∷ 2 ∷ 2 ∷ 2 ∷ 4 ∷ 4 ∷ []) (refused 15 0)
    -- 16: below the one before, above E, the last that isn't E; the first such option
    ∷ case 1 1 (0 ∷ 1 ∷ []) (0 ∷ 1 ∷ []) (2 ∷ 1 ∷ [])
    (8 ∷ 8 ∷ 8 ∷ 8 ∷ 3 ∷ 2 ∷ 2 ∷ 2 ∷ 2 ∷ 2 ∷ []) (refused 16 1)
    ∷ case 1 1 (0 ∷ 1 ∷ []) (0 ∷ 1 ∷ []) (3 ∷ [])
    (7 ∷ 7 ∷ 7 ∷ 7 ∷ 3 ∷ 2 ∷ 1 ∷ 1 ∷ 2 ∷ 2 ∷ []) (refused 16 0)
    ∷ case 1 1 (0 ∷ 1 ∷ []) (0 ∷ 1 ∷ []) (1 ∷ [])
    (7 ∷ 7 ∷ 7 ∷ 7 ∷ 3 ∷ 2 ∷ 1 ∷ 1 ∷ 2 ∷ 2 ∷ []) (refused 16 0)
    ∷ case 1 1 (0 ∷ []) (0 ∷ []) (9 ∷ 0 ∷ [])
    (7 ∷ 7 ∷ 7 ∷ 7 ∷ 3 ∷ 2 ∷ 2 ∷ 2 ∷ 1 ∷ 1 ∷ []) (refused 16 0)
    ∷ case 1 1 (0 ∷ []) (0 ∷ []) (0 ∷ 5 ∷ 0 ∷ [])
    (8 ∷ 8 ∷ 8 ∷ 8 ∷ 3 ∷ 2 ∷ 3 ∷ 3 ∷ 1 ∷ 1 ∷ []) (refused 16 1)
    ∷ case 1 1 (0 ∷ []) (0 ∷ []) (0 ∷ 0 ∷ 0 ∷ [])
    (8 ∷ 8 ∷ 8 ∷ 8 ∷ 3 ∷ 2 ∷ 3 ∷ 3 ∷ 1 ∷ 1 ∷ []) (refused 16 2)
    -- 16 before 17
    ∷ case 1 1 (0 ∷ 1 ∷ []) (0 ∷ 1 ∷ []) (1 ∷ [])
    (6 ∷ 7 ∷ 7 ∷ 7 ∷ 3 ∷ 2 ∷ 1 ∷ 1 ∷ 2 ∷ 2 ∷ []) (refused 16 0)
    -- skipped options count in the room that is asked for
    ∷ case 1 0 (0 ∷ []) (0 ∷ []) (1 ∷ 1 ∷ [])
    (5 ∷ 6 ∷ 6 ∷ 6 ∷ 2 ∷ 1 ∷ 2 ∷ 2 ∷ 1 ∷ 1 ∷ []) (refused 17 0)
    ∷ case 1 0 (0 ∷ []) (0 ∷ []) (1 ∷ 1 ∷ [])
    (6 ∷ 6 ∷ 6 ∷ 6 ∷ 2 ∷ 1 ∷ 1 ∷ 2 ∷ 1 ∷ 1 ∷ []) (refused 18 0)
    ∷ case 1 0 (0 ∷ []) (0 ∷ []) (1 ∷ 1 ∷ [])
    (6 ∷ 6 ∷ 6 ∷ 6 ∷ 2 ∷ 1 ∷ 2 ∷ 2 ∷ 1 ∷ 1 ∷ []) none
    -- 17, before 18
    ∷ case 1 1 (0 ∷ 1 ∷ []) (0 ∷ 1 ∷ []) (2 ∷ [])
    (6 ∷ 7 ∷ 7 ∷ 7 ∷ 3 ∷ 0 ∷ 0 ∷ 0 ∷ 0 ∷ 0 ∷ []) (refused 17 0)
    ∷ case 1 1 (0 ∷ 1 ∷ []) (0 ∷ 1 ∷ []) (2 ∷ [])
    (7 ∷ 6 ∷ 7 ∷ 7 ∷ 3 ∷ 2 ∷ 1 ∷ 1 ∷ 2 ∷ 2 ∷ []) (refused 17 0)
    ∷ case 1 1 (0 ∷ 1 ∷ []) (0 ∷ 1 ∷ []) (2 ∷ [])
    (7 ∷ 7 ∷ 6 ∷ 7 ∷ 3 ∷ 2 ∷ 1 ∷ 1 ∷ 2 ∷ 2 ∷ []) (refused 17 0)
    ∷ case 1 1 (0 ∷ 1 ∷ []) (0 ∷ 1 ∷ []) (2 ∷ [])
    (7 ∷ 7 ∷ 7 ∷ 6 ∷ 3 ∷ 2 ∷ 1 ∷ 1 ∷ 2 ∷ 2 ∷ []) (refused 17 0)
    ∷ case 1 1 (0 ∷ 1 ∷ []) (0 ∷ 1 ∷ []) (2 ∷ [])
    (7 ∷ 7 ∷ 7 ∷ 7 ∷ 2 ∷ 2 ∷ 1 ∷ 1 ∷ 2 ∷ 2 ∷ []) (refused 17 0)
    -- 18
    ∷ case 1 1 (0 ∷ 1 ∷ []) (0 ∷ 1 ∷ []) (2 ∷ [])
    (7 ∷ 7 ∷ 7 ∷ 7 ∷ 3 ∷ 1 ∷ 1 ∷ 1 ∷ 2 ∷ 2 ∷ []) (refused 18 0)
    ∷ case 1 1 (0 ∷ 1 ∷ []) (0 ∷ 1 ∷ []) (2 ∷ [])
    (7 ∷ 7 ∷ 7 ∷ 7 ∷ 3 ∷ 2 ∷ 0 ∷ 1 ∷ 2 ∷ 2 ∷ []) (refused 18 0)
    ∷ case 1 1 (0 ∷ 1 ∷ []) (0 ∷ 1 ∷ []) (2 ∷ [])
    (7 ∷ 7 ∷ 7 ∷ 7 ∷ 3 ∷ 2 ∷ 1 ∷ 0 ∷ 2 ∷ 2 ∷ []) (refused 18 0)
    ∷ case 1 1 (0 ∷ 1 ∷ []) (0 ∷ 1 ∷ []) (2 ∷ [])
    (7 ∷ 7 ∷ 7 ∷ 7 ∷ 3 ∷ 2 ∷ 1 ∷ 1 ∷ 1 ∷ 2 ∷ []) (refused 18 0)
    ∷ case 1 1 (0 ∷ 1 ∷ []) (0 ∷ 1 ∷ []) (2 ∷ [])
    (7 ∷ 7 ∷ 7 ∷ 7 ∷ 3 ∷ 2 ∷ 1 ∷ 1 ∷ 2 ∷ 1 ∷ []) (refused 18 0)
    -- 18 before 19
    ∷ case 1 1 (0 ∷ 2 ∷ []) (0 ∷ 1 ∷ []) (2 ∷ [])
    (7 ∷ 7 ∷ 7 ∷ 7 ∷ 3 ∷ 2 ∷ 0 ∷ 1 ∷ 2 ∷ 2 ∷ []) (refused 18 0)
    -- 19, with the place in the whole list, also in an option that will be skipped
    ∷ case 1 1 (0 ∷ 2 ∷ []) (0 ∷ 1 ∷ []) (2 ∷ [])
    (7 ∷ 7 ∷ 7 ∷ 7 ∷ 3 ∷ 2 ∷ 1 ∷ 1 ∷ 2 ∷ 2 ∷ []) (refused 19 1)
    ∷ case 1 0 (0 ∷ 1 ∷ []) (0 ∷ 0 ∷ []) (1 ∷ 2 ∷ [])
    (7 ∷ 7 ∷ 7 ∷ 7 ∷ 2 ∷ 1 ∷ 2 ∷ 2 ∷ 2 ∷ 2 ∷ []) (refused 19 1)
    -- 20
    ∷ case 1 1 (0 ∷ 1 ∷ []) (0 ∷ 2 ∷ []) (2 ∷ [])
    (7 ∷ 7 ∷ 7 ∷ 7 ∷ 3 ∷ 2 ∷ 1 ∷ 1 ∷ 2 ∷ 2 ∷ []) (refused 20 1)
    -- 21
    ∷ case 1 1 (0 ∷ 1 ∷ []) (1 ∷ 1 ∷ []) (2 ∷ [])
    (7 ∷ 7 ∷ 7 ∷ 7 ∷ 3 ∷ 2 ∷ 1 ∷ 1 ∷ 2 ∷ 2 ∷ []) (refused 21 0)
    -- 22, whatever the colours; of an item that is in another option, no
    ∷ case 1 1 (1 ∷ 1 ∷ []) (0 ∷ 1 ∷ []) (2 ∷ [])
    (7 ∷ 7 ∷ 7 ∷ 7 ∷ 3 ∷ 2 ∷ 1 ∷ 1 ∷ 2 ∷ 2 ∷ []) (refused 22 1)
    ∷ case 1 1 (1 ∷ 1 ∷ []) (0 ∷ 1 ∷ []) (1 ∷ 2 ∷ [])
    (8 ∷ 8 ∷ 8 ∷ 8 ∷ 3 ∷ 2 ∷ 2 ∷ 2 ∷ 2 ∷ 2 ∷ []) none
    -- entry by entry, and within an entry by number
    ∷ case 1 1 (0 ∷ 9 ∷ []) (1 ∷ 9 ∷ []) (2 ∷ [])
    (7 ∷ 7 ∷ 7 ∷ 7 ∷ 3 ∷ 2 ∷ 1 ∷ 1 ∷ 2 ∷ 2 ∷ []) (refused 21 0)
    ∷ case 1 1 (0 ∷ 9 ∷ []) (0 ∷ 9 ∷ []) (2 ∷ [])
    (7 ∷ 7 ∷ 7 ∷ 7 ∷ 3 ∷ 2 ∷ 1 ∷ 1 ∷ 2 ∷ 2 ∷ []) (refused 19 1)
    ∷ case 1 1 (0 ∷ 0 ∷ []) (0 ∷ 2 ∷ []) (2 ∷ [])
    (7 ∷ 7 ∷ 7 ∷ 7 ∷ 3 ∷ 2 ∷ 1 ∷ 1 ∷ 2 ∷ 2 ∷ []) (refused 20 1)
    ∷ case 1 1 (0 ∷ 0 ∷ []) (0 ∷ 1 ∷ []) (2 ∷ [])
    (7 ∷ 7 ∷ 7 ∷ 7 ∷ 3 ∷ 2 ∷ 1 ∷ 1 ∷ 2 ∷ 2 ∷ []) (refused 21 1)
    ∷ []

-- A renumbering: the kept list, its count of primaries, the items, how many places the list for the outcome has, all of them 9; what must come
-- back: the refusal, and that list, compact and in the crate's numbers.
pub record Renumbering : Type 0 where
  pub kept : List ℕ
  pub primaries : ℕ
  pub items : List ℕ
  pub out : List ℕ
  pub compact : Renumbered
  pub crate : Renumbered

abbrev pub renumbering : List ℕ → ℕ → List ℕ → ℕ → Option Refusal → List ℕ → List ℕ → Renumbering
renumbering kept primaries items size refusal compact crate = record {
  kept = kept;
  primaries = primaries;
  items = items;
  out = replicate size 9;
  compact = record { refusal = refusal; out = compact };
  crate = record { refusal = refusal; out = crate };
}

abbrev pub renumberings : List Renumbering
renumberings =
    -- 24: not strictly rising, a count of 0 or above the length; an empty kept list
    renumbering (1 ∷ 1 ∷ []) 1 (1 ∷ []) 1 (refused 24 0) (9 ∷ []) (9 ∷ [])
    ∷ renumbering (2 ∷ 1 ∷ []) 1 [] 0 (refused 24 0) [] []
    ∷ renumbering (0 ∷ 1 ∷ []) 0 [] 0 (refused 24 0) [] []
    ∷ renumbering (0 ∷ 1 ∷ []) 3 [] 0 (refused 24 0) [] []
    ∷ renumbering [] 0 [] 0 (refused 24 0) [] []
    ∷ renumbering [] 1 [] 0 (refused 24 0) [] []
    -- 24 before 18, and 18 before 25
    ∷ renumbering (1 ∷ 1 ∷ []) 1 (7 ∷ []) 0 (refused 24 0) [] []
    ∷ renumbering (0 ∷ 1 ∷ []) 1 (7 ∷ []) 0 (refused 18 0) [] []
    -- 18: one place short, and enough
    ∷ renumbering (0 ∷ 1 ∷ []) 1 (1 ∷ 0 ∷ []) 1 (refused 18 0) (9 ∷ []) (9 ∷ [])
    ∷ renumbering (0 ∷ 1 ∷ []) 1 (1 ∷ 0 ∷ []) 2 none (1 ∷ 0 ∷ []) (1 ∷ 0 ∷ [])
    -- 25: the first item that is not kept
    ∷ renumbering (0 ∷ 2 ∷ []) 1 (0 ∷ 1 ∷ 3 ∷ []) 3 (refused 25 1) (9 ∷ 9 ∷ 9 ∷ []) (9 ∷ 9 ∷ 9 ∷ [])
    ∷ renumbering (0 ∷ 2 ∷ []) 1 (2 ∷ 0 ∷ 3 ∷ []) 3 (refused 25 2) (9 ∷ 9 ∷ 9 ∷ []) (9 ∷ 9 ∷ 9 ∷ [])
    -- the front is filled and nothing behind it; an empty list of items is taken
    ∷ renumbering (1 ∷ 4 ∷ 6 ∷ []) 1 (4 ∷ 1 ∷ 6 ∷ 4 ∷ []) 5 none (1 ∷ 0 ∷ 2 ∷ 1 ∷ 9 ∷ []) (2 ∷ 1 ∷ 4 ∷ 2 ∷ 9 ∷ [])
    ∷ renumbering (3 ∷ []) 1 [] 1 none (9 ∷ []) (9 ∷ [])
    -- the primaries are the first of the kept list
    ∷ renumbering (0 ∷ 2 ∷ []) 1 (2 ∷ []) 1 none (1 ∷ []) (1 ∷ [])
    ∷ renumbering (0 ∷ 2 ∷ []) 2 (2 ∷ []) 1 none (1 ∷ []) (2 ∷ [])
    ∷ []

-- Every case is refused, or taken, as it must be.
pub record CasesHold : Type 0 where
  pub refusals : map (λ x. refusal_of small_figures false x.handed) cases ≡ map (λ x. x.refusal) cases
  pub compacts : map (λ x. compact_outcome x.kept x.primaries x.items x.out) renumberings ≡ map (λ x. x.compact) renumberings
  pub crates : map (λ x. crate_outcome x.kept x.primaries x.items x.out) renumberings ≡ map (λ x. x.crate) renumberings
