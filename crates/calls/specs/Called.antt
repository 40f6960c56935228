-- What the contract of `calls::reduce` comes to: no second outcome, and document 01's starred samples. A run is what comes back: the answer and
-- the ten lists as they are then. It meets the contract for what was handed in if it satisfies the one equation of the `ensures`.
-- Assumes nothing.
use Rattle.std.specs.Prelude.{◌≡◌}
use mathlib.Core.List.{Memᴰ as In}
use Rattle.rules.specs.declared.answer.Answer.{Answer}
use Rattle.rules.specs.Rooms.{Room, Results, Handed}
use Rattle.rules.specs.Paper.{paper}
use Rattle.rules.specs.Outcome.{Outcome, outcome_of}
use Rattle.rules.specs.Samples.{Sample, samples, handed, expected}
use Rattle.engine.specs.Call.{outcome}

pub record Run : Type 0 where
  pub answer : Answer
  pub room : Room
  pub results : Results

abbrev pub came : Run → Outcome
came r = outcome (paper r.answer) r.room r.results

abbrev pub Meets : Handed → Run → Type 0
Meets h r = came r ≡ outcome_of h

-- For any input there is one possible outcome: the answer, the working room and the results.
abbrev pub OneRun : Type 0
OneRun = (h : Handed) (r s : Run) → Meets h r → Meets h s → r ≡ s

-- Every sample, handed to the call with room of one place more than is asked for, all of it filled with other numbers, gives what is
-- written down for it: answer, cleared room, results, and nothing behind them.
abbrev pub SamplesCalled : Type 0
SamplesCalled = (x : Sample) → In x samples → (r : Run) → Meets (handed x) r → came r ≡ expected x
