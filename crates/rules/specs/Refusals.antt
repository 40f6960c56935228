-- The program's refusals in the paper's terms: document 01 gives each check a number. Assumes nothing.
use Rattle.std.specs.Prelude.{ℕ, Result, Ok, Err}
use Rattle.std.proofs.Math.Option.{Option, none, some}
use Rattle.rules.specs.declared.refusal.Check.{Check}
use Rattle.rules.specs.declared.refusal.Check.TheVariants.{NoPrimary, TooManyItems, NoOption, TooManyOptions, Uneven, TooManyEntries, WrongEnd, ShortRoom, ShortResult, NoSuchItem, ColourTooHigh, ColouredPrimary, ItemTwice}
use Rattle.rules.specs.declared.refusal.Refusal.{Refusal}
use Rattle.rules.specs.Checks.{Refusal as PaperRefusal}

-- the number of each check
abbrev pub number_of : Check → ℕ
number_of NoPrimary = 10
number_of TooManyItems = 11
number_of NoOption = 12
number_of TooManyOptions = 13
number_of Uneven = 14
number_of TooManyEntries = 15
number_of WrongEnd = 16
number_of ShortRoom = 17
number_of ShortResult = 18
number_of NoSuchItem = 19
number_of ColourTooHigh = 20
number_of ColouredPrimary = 21
number_of ItemTwice = 22

abbrev pub as_paper : Refusal → PaperRefusal
as_paper r = record { number = number_of r.check; place = r.place }

-- what a check of the program says, whatever it gives where nothing is refused
abbrev pub refusal_in : {A : Type 0} → Result A Refusal → Option PaperRefusal
refusal_in (Ok x) = none
refusal_in (Err r) = some (as_paper r)
