-- The second run: the compact result of a settled run, handed in again. Document 01's demand 3: the compact result run again with any
-- cap of 1 or more answers reduced with every item, option and entry in the same order, numbers from 0, 1 round, settled. Assumes nothing.
use Rattle.std.specs.Prelude.{ℕ, suc, ◌+◌, ◌≡◌, true, false, not, map, T, length}
use Rattle.std.proofs.Math.Option.{none}
use Rattle.rules.specs.Lists.{up_to}
use Rattle.rules.specs.Problem.{Figures, problem_of}
use Rattle.rules.specs.Rooms.{Room, Results, Handed}
use Rattle.rules.specs.Checks.{short_room, short_results, refusal_of}
use Rattle.rules.specs.State.{State}
use Rattle.rules.specs.Rounds.{reduced, reduce}
use Rattle.rules.specs.Result.{kept_items, primaries_of, secondaries_of, results_of}
use Rattle.rules.specs.Renumber.{compact_item}
use Rattle.rules.specs.Outcome.{cleared, fronts, said_of, outcome_at}

-- The compact result of state s, handed in: the kept items are the items, each under its place in the kept list; colours and ends are
-- those of the result.
unfoldable pub handed_again : Handed → State → ℕ → Room → Results → Handed
handed_again h s cap room results =
    let n = h.np + h.ns in
    let kept = kept_items n s in
    let primaries = primaries_of h.np kept in
    record {
      np = primaries;
      ns = secondaries_of h.np kept;
      cap = cap;
      items = map (compact_item kept primaries) (results_of n s).items;
      colours = (results_of n s).colours;
      ends = (results_of n s).ends;
      room = room;
      results = results;
    }

-- The working room and the result room of what is handed in are large enough for it.
pub record Roomy (h : Handed) : Type 0 where
  pub room : T (not (short_room (h.np + h.ns) (length h.items) (length h.ends) h.room))
  pub results : T (not (short_results (h.np + h.ns) (length h.items) (length h.ends) h.results))

-- every item, option and entry that is handed in, in the same order, items and options numbered from 0
abbrev pub all_of : Handed → Results
all_of h = record { kept = up_to (h.np + h.ns); ends = h.ends; numbers = up_to (length h.ends); items = h.items; colours = h.colours }

-- If the run of h ended settled in s, the second run answers with the same counts, 1 round, settled, and gives back all of what it was
-- handed.
abbrev pub RunsAgain : Figures → Handed → Type 0
RunsAgain f h =
    refusal_of f false h ≡ none → (s : State) (r : ℕ) → reduce (problem_of h.np h.ns h.items h.colours h.ends) h.cap ≡ reduced s r true
    → (cap : ℕ) (room : Room) (results : Results) → Roomy (handed_again h s (suc cap) room results)
    → outcome_at f false (handed_again h s (suc cap) room results) ≡ record {
      said = said_of h.np (h.np + h.ns) s 1 true;
      room = cleared room;
      results = fronts (all_of (handed_again h s (suc cap) room results)) results;
    }
