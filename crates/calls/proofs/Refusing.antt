-- The two ways out of the call: what a check refuses, and what the core answers. Assumes nothing.
use mathlib.Core.Path.{◌≡◌, refl, sym, ◌∙◌}
use mathlib.Core.Bool.{false}
use Rattle.std.specs.Prelude.{Result, Ok, Err}
use Rattle.rules.specs.declared.problem.Problem.{Problem}
use Rattle.rules.specs.declared.refusal.Refusal.{Refusal}
use Rattle.rules.specs.Problem.{figures, problem_of}
use Rattle.rules.specs.Rooms.{Handed}
use Rattle.rules.specs.Rounds.{reduce}
use Rattle.rules.specs.Checks.{refusal_of}
use Rattle.rules.specs.Refusals.{as_paper, refusal_in}
use Rattle.rules.specs.Paper.{said_refused}
use Rattle.rules.specs.Outcome.{Outcome, concluded, outcome_of}
use Rattle.theorems.proofs.Answers.OneOutcome.{refused-nothing-written, outcome-found}
use Rattle.engine.specs.Call.{outcome}
use Rattle.checking.proofs.Telling.{refuses, passes}

module _ (h : Handed) {c : Result Problem Refusal} (told : refusal_in c ≡ refusal_of figures false h) where
  -- a refusal writes nothing
  pub refused : {r : Refusal} → c ≡ Err r → outcome (said_refused (as_paper r)) h.room h.results ≡ outcome_of h
  refused k = sym (refused-nothing-written h _ (refuses told k))

  -- all else is what the rounds find
  pub found : {p : Problem} → c ≡ Ok p → {o : Outcome} → o ≡ concluded h (reduce (problem_of h.np h.ns h.items h.colours h.ends) h.cap) → o ≡ outcome_of h
  found k e = e ∙ sym (outcome-found figures false h _ (passes told k) refl)
