-- Where the test of option r breaks off. Assumes nothing.
use Rattle.std.specs.Prelude.{ℕ, ◌-◌, Bool, not, ◌&&◌, List, leb, eqb, ℤ}
use Rattle.links.specs.Head.{item_of, head}
use Rattle.links.specs.Column.{at}

-- one entry less empties column i, which is that of a primary item that r does not hold
abbrev pub stops_at : List ℤ → List ℕ → ℕ → ℕ → ℕ → Bool
stops_at heads marks i r np = eqb (item_of (head heads i) - 1) 0 && leb i np && not (eqb (at marks i) r)
