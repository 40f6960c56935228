-- What the answer of a renumbering call says: the refusal in it, in the paper's terms. Document 01, "Two renumberings of a result", and for 14
-- "The desk program calls through C". Assumes nothing.
use Rattle.std.specs.Prelude.{ℕ, List, Result, Ok, Err}
use Rattle.std.proofs.Math.Option.{Option, none, some}
use Rattle.rules.specs.Checks.{Refusal}
use Rattle.rules.specs.Renumber.{Renumbered}
use Rattle.renumbering.specs.declared.answer.Unnumbered.{Unnumbered}
use Rattle.renumbering.specs.declared.answer.Unnumbered.TheVariants.{Ragged, BadKept, ShortOutcome, NotKept}

-- the refusal that each reason is
abbrev pub refused : Unnumbered → Refusal
refused Ragged = record { number = 14; place = 0 }
refused BadKept = record { number = 24; place = 0 }
refused ShortOutcome = record { number = 18; place = 0 }
refused (NotKept place) = record { number = 25; place = place }

-- a call's answer, and the refusal in it
abbrev pub Renumbering : Type 0
Renumbering = Result (Unit {0}) Unnumbered

abbrev pub refusal : Renumbering → Option Refusal
refusal (Ok done) = none
refusal (Err reason) = some (refused reason)

-- what a call comes to: the refusal in its answer, and the list for the outcome afterwards
abbrev pub outcome : Renumbering → List ℕ → Renumbered
outcome r out = record { refusal = refusal r; out = out }
