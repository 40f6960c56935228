-- What a walk that deletes answers: an error with the first primary item that it left in no option, by the number of its column, where 0 says that there
-- is none. Assumes nothing.
use Rattle.std.specs.Prelude.{ℕ, zero, suc, Result, Ok, Err}
use Rattle.links.specs.declared.emptied.Emptied.{Emptied}

abbrev pub ending : ℕ → Result (Unit {0}) Emptied
ending zero = Ok tt
ending (suc i) = Err (record { item = record { 0 = i } })
