-- A problem that can be built, so that what the building asks for is not empty, and where its nodes lie. Assumes nothing.
use Rattle.std.proofs.Common.{◌≡◌, false, [], ◌∷◌, replicate, pos, refl, arith}
use mathlib.Core.Option.{none}
use Rattle.rules.specs.Problem.{figures, problem_of}
use Rattle.rules.specs.Rooms.{Handed}
use Rattle.rules.specs.Checks.{check16, short_room, short_results, check_entry, refusal_of}
use Rattle.rules.specs.Rounds.{start as starting}
use Rattle.links.specs.Plan.{Plan}
use Rattle.building.specs.Layout.{plan_for, plan_of}
use Rattle.building.specs.Build.{Buildable}
use Rattle.building.proofs.Premises.{buildable}

-- One primary item and one other; option 0 holds both, option 1 only the other, and is skipped. The lists hold what they happen to hold.
abbrev pub handed : Handed
handed = record {
  np = 1;
  ns = 1;
  cap = 1;
  items = 0 ∷ 1 ∷ 1 ∷ [];
  colours = 0 ∷ 2 ∷ 0 ∷ [];
  ends = 2 ∷ 3 ∷ [];
  room = record { heads = replicate 9 (pos 7); up = replicate 9 7; down = replicate 9 7; tints = replicate 9 7; marks = replicate 3 7 };
  results = record { kept = replicate 2 7; ends = replicate 2 7; numbers = replicate 2 7; items = replicate 3 7; colours = replicate 3 7 };
}

pub not-refused : refusal_of figures false handed ≡ none
unfolding refusal_of check16 short_room short_results check_entry
not-refused = refl

pub met : Buildable figures 1 1 2 handed.items handed.colours handed.ends handed.room.heads handed.room.up handed.room.down handed.room.tints handed.room.marks
met = buildable figures (omega arith) handed false not-refused

-- the plan has option 0 at nodes 4 and 5 with its boundary at 6, and no node of option 1
abbrev plan : Plan
plan = plan_of (problem_of 1 1 handed.items handed.colours handed.ends)

pub laid_out : plan.N ∷ plan.first 0 ∷ plan.past 0 ∷ plan.first 1 ∷ plan.past 1 ∷ plan.col 4 ∷ plan.col 5 ∷ plan.tint 5 ∷ [] ≡ 7 ∷ 4 ∷ 6 ∷ 7 ∷ 7 ∷ 1 ∷ 2 ∷ 2 ∷ []
unfolding plan_for starting problem_of
laid_out = refl
