-- How an item's step ends by the number of the column that it empties, where 0 says that there is none, with the cause. Assumes nothing.
use Rattle.std.specs.Prelude.{ℕ, zero, suc, Result, Ok, Err}
use Rattle.rules.specs.declared.answer.Cause.{Cause}
use Rattle.preproc.specs.declared.stop.Stop.{Stop}

abbrev pub stopping : ℕ → Cause → Result (Unit {0}) Stop
stopping zero cause = Ok tt
stopping (suc i) cause = Err (record { item = record { 0 = i }; cause = cause })
