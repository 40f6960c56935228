-- The marks of the items, by which an item that is already in an option is known. Assumes nothing.
use Rattle.std.specs.Prelude.{ℕ, ◌<◌, ◌≡◌, List, eqb, get_or}
use Rattle.rules.specs.Lists.{mem}

-- the items that have this mark are those seen
abbrev pub Seen : ℕ → List ℕ → List ℕ → Type 0
Seen mark marks seen = (i : ℕ) → mem i seen ≡ eqb (get_or marks i 0) mark

-- every mark is below this one
abbrev pub BelowMark : ℕ → List ℕ → Type 0
BelowMark mark marks = (i : ℕ) → get_or marks i 0 < mark
