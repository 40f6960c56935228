-- What the one outcome of a call is, case by case, and that it leaves the program's answer no choice. Document 01, "What comes back".
-- Assumes nothing.
use Prim.Native.Nat.{ℕ, ◌+◌}
use mathlib.Core.Path.{◌≡◌, refl, sym, ap, ◌∙◌}
use mathlib.Core.Bool.{Bool, false}
use mathlib.Core.Option.{none, some}
use Rattle.rules.specs.declared.answer.Answer.{Answer}
use Rattle.rules.specs.Problem.{Figures, figures, problem_of}
use Rattle.rules.specs.Rooms.{Handed}
use Rattle.rules.specs.Checks.{Refusal, refusal_of}
use Rattle.rules.specs.State.{State}
use Rattle.rules.specs.Rounds.{Finding, reduced, infeasible, reduce}
use Rattle.rules.specs.Result.{results_of}
use Rattle.rules.specs.Paper.{said_infeasible, said_refused, paper}
use Rattle.rules.specs.Outcome.{Outcome, cleared, fronts, said_of, concluded, outcome_at, outcome_of}
use Rattle.theorems.proofs.Checks.Paper.{paper-one}

-- At any figures: a refusal, and what is found where there is none
pub outcome-refused : (f : Figures) (ragged : Bool) (h : Handed) (r : Refusal) → refusal_of f ragged h ≡ some r
    → outcome_at f ragged h ≡ record { said = said_refused r; room = h.room; results = h.results }
unfolding outcome_at
outcome-refused f ragged h r e = rw e

pub outcome-found : (f : Figures) (ragged : Bool) (h : Handed) (x : Finding) → refusal_of f ragged h ≡ none
    → reduce (problem_of h.np h.ns h.items h.colours h.ends) h.cap ≡ x → outcome_at f ragged h ≡ concluded h x
unfolding outcome_at
outcome-found f ragged h x e k = rw (e, k)

-- Of the call over lists. The program's answer says what the outcome says, and so there is no second answer.
pub answer-one : (h : Handed) (x y : Answer) → paper x ≡ (outcome_of h).said → paper y ≡ (outcome_of h).said → x ≡ y
answer-one h x y e k = paper-one x y (e ∙ sym k)

-- A refusal writes nothing anywhere.
pub refused-nothing-written : (h : Handed) (r : Refusal) → refusal_of figures false h ≡ some r
    → outcome_of h ≡ record { said = said_refused r; room = h.room; results = h.results }
refused-nothing-written h r e = outcome-refused figures false h r e

-- Infeasible writes no result.
pub infeasible-no-result : (h : Handed) → refusal_of figures false h ≡ none
    → (item cause round : ℕ) → reduce (problem_of h.np h.ns h.items h.colours h.ends) h.cap ≡ infeasible item cause round
    → outcome_of h ≡ record { said = said_infeasible item cause round; room = cleared h.room; results = h.results }
infeasible-no-result h e item cause round k = outcome-found figures false h (infeasible item cause round) e k

-- Reduced writes the front of each result list and nothing behind it.
pub reduced-fronts-written : (h : Handed) → refusal_of figures false h ≡ none
    → (s : State) (rounds : ℕ) (settled : Bool) → reduce (problem_of h.np h.ns h.items h.colours h.ends) h.cap ≡ reduced s rounds settled
    → outcome_of h ≡ record {
      said = said_of h.np (h.np + h.ns) s rounds settled;
      room = cleared h.room;
      results = fronts (results_of (h.np + h.ns) s) h.results;
    }
reduced-fronts-written h e s rounds settled k = outcome-found figures false h (reduced s rounds settled) e k

-- After 0 or 1 every number of the working lists is zero, also past the part that was needed.
pub answered-cleared : (h : Handed) → refusal_of figures false h ≡ none → (outcome_of h).room ≡ cleared h.room
answered-cleared h e = go (reduce (problem_of h.np h.ns h.items h.colours h.ends) h.cap) refl
  where
    go : (x : Finding) → reduce (problem_of h.np h.ns h.items h.colours h.ends) h.cap ≡ x → (outcome_of h).room ≡ cleared h.room
    go (reduced s rounds settled) k = ap (λ (o : Outcome). o.room) (reduced-fronts-written h e s rounds settled k)
    go (infeasible item cause round) k = ap (λ (o : Outcome). o.room) (infeasible-no-result h e item cause round k)
