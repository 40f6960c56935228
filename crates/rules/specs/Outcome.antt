-- The one outcome of the whole call: the answer, and every list that was lent, as it is afterwards. Document 01, "What comes
-- back". Assumes nothing.
use Rattle.std.specs.Prelude.{ℕ, ◌+◌, Bool, false, map, length, pos}
use Rattle.std.proofs.Math.Option.{Option, none, some}
use Rattle.rules.specs.Lists.{written}
use Rattle.rules.specs.Problem.{Figures, figures, problem_of}
use Rattle.rules.specs.Rooms.{Room, Results, Handed}
use Rattle.rules.specs.Checks.{Refusal, refusal_of}
use Rattle.rules.specs.State.{State}
use Rattle.rules.specs.Rounds.{Finding, reduced, infeasible, reduce}
use Rattle.rules.specs.Result.{kept_items, kept_options, primaries_of, secondaries_of, results_of}
use Rattle.rules.specs.Paper.{Said, said_reduced, said_infeasible, said_refused}

pub record Outcome : Type 0 where
  pub said : Said
  pub room : Room
  pub results : Results

-- After 0 or 1 every number of the working lists is zero, also past the part that was needed.
unfoldable pub cleared : Room → Room
cleared r = record {
  heads = map (λ x. pos 0) r.heads;
  up = map (λ x. 0) r.up;
  down = map (λ x. 0) r.down;
  tints = map (λ x. 0) r.tints;
  marks = map (λ x. 0) r.marks;
}

-- Reduced writes the front of each result list and nothing behind it.
unfoldable pub fronts : Results → Results → Results
fronts new old = record {
  kept = written new.kept old.kept;
  ends = written new.ends old.ends;
  numbers = written new.numbers old.numbers;
  items = written new.items old.items;
  colours = written new.colours old.colours;
}

-- what the answer says of a state that the rounds ended in
unfoldable pub said_of : ℕ → ℕ → State → ℕ → Bool → Said
said_of np n s rounds settled =
    let kept = kept_items n s in
    said_reduced (primaries_of np kept) (secondaries_of np kept) (length (kept_options n s)) (length (results_of n s).items) rounds settled

-- Infeasible writes no result.
abbrev pub concluded : Handed → Finding → Outcome
concluded h (reduced s rounds settled) = record
    { said = said_of h.np (h.np + h.ns) s rounds settled; room = cleared h.room; results = fronts (results_of (h.np + h.ns) s) h.results }
concluded h (infeasible item cause round) = record { said = said_infeasible item cause round; room = cleared h.room; results = h.results }

-- A refusal writes nothing anywhere.
abbrev pub refused_or : Handed → Option Refusal → Finding → Outcome
refused_or h (some r) finding = record { said = said_refused r; room = h.room; results = h.results }
refused_or h none finding = concluded h finding

-- at any figures, for what may be ragged
unfoldable pub outcome_at : Figures → Bool → Handed → Outcome
outcome_at f ragged h =
    let finding = reduce (problem_of h.np h.ns h.items h.colours h.ends) h.cap in
    refused_or h (refusal_of f ragged h) finding

-- of the call over lists
abbrev pub outcome_of : Handed → Outcome
outcome_of h = outcome_at figures false h
