-- The core in the desk's own room: whatever it finds, that room is cleared. Assumes nothing.
use mathlib.Core.Path.{◌≡◌, refl, ap, ◌∙◌}
use Rattle.rules.specs.Rooms.{Handed}
use Rattle.rules.specs.Problem.{problem_of}
use Rattle.rules.specs.Rounds.{Finding, reduced, infeasible, reduce}
use Rattle.rules.specs.Outcome.{Outcome, cleared, concluded}
use Rattle.engine.specs.Call.{outcome}

-- what the rounds find of what is handed in
abbrev pub found_of : Handed → Finding
found_of h = reduce (problem_of h.np h.ns h.items h.colours h.ends) h.cap

pub room-cleared : (h : Handed) {o : Outcome} → o ≡ concluded h (found_of h) → outcome o.said (cleared h.room) o.results ≡ concluded h (found_of h)
room-cleared h e = ap (λ (o : Outcome). outcome o.said (cleared h.room) o.results) e ∙ go (found_of h)
  where
    go : (x : Finding) → outcome (concluded h x).said (cleared h.room) (concluded h x).results ≡ concluded h x
    go (reduced s rounds settled) = refl
    go (infeasible item cause round) = refl
