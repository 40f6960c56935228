-- What hiding an item asks of the lists, and what it leaves and answers. Assumes nothing.
use Rattle.std.specs.Prelude.{ℕ, ◌≡◌, ℤ}
use mathlib.Core.List.{List, Memᴰ as In}
use Rattle.links.specs.Plan.{start, EntryOf, Header}
use Rattle.links.specs.Ground.{Ground, Tidy, Within, taken, Holds}
use Rattle.links.specs.Row.{others}
use Rattle.links.specs.Shown.{Ready, Tinted}
use Rattle.links.specs.Taking.{last_out}

-- rr is an entry whose option's other entries are in their columns.
pub record Around (g : Ground) (rr : ℕ) : Type 0 where
  pub tidy : Tidy g
  pub entry : EntryOf g.plan rr
  pub within : (y : ℕ) → In y (others g rr) → Within g y

-- c is the header of a column, from which a walk goes down.
pub record Column (g : Ground) (tints : List ℕ) (c first : ℕ) : Type 0 where
  pub ready : Ready g
  pub tinted : Tinted g.plan tints
  pub header : Header g.plan c
  pub begins : first ≡ start g.plan

-- The lists after the nodes xs were taken out, and the last primary column so emptied, or z.
pub record Taken (g : Ground) (xs : List ℕ) (np z : ℕ) (heads : List ℤ) (up down : List ℕ) (r : ℕ) : Type 0 where
  pub holds : Holds (taken g xs) heads up down
  pub last : r ≡ last_out g np xs z
