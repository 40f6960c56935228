-- What deleting an option asks of the lists, and what it answers and leaves. Assumes nothing.
use Rattle.std.specs.Prelude.{ℕ, ◌≡◌, ℤ}
use mathlib.Core.List.{List, Memᴰ as In}
use Rattle.links.specs.Plan.{EntryOf}
use Rattle.links.specs.Ground.{Ground, Tidy, Within, taken, Holds}
use Rattle.links.specs.Row.{others}
use Rattle.links.specs.Taking.{first_out}

-- x is in its column.
pub record Sitting (g : Ground) (x : ℕ) (heads : List ℤ) (up down : List ℕ) : Type 0 where
  pub tidy : Tidy g
  pub within : Within g x
  pub holds : Holds g heads up down

-- The other entries of r's option are in their columns.
pub record Deleting (g : Ground) (r : ℕ) (heads : List ℤ) (up down : List ℕ) : Type 0 where
  pub tidy : Tidy g
  pub entry : EntryOf g.plan r
  pub others-in : (y : ℕ) → In y (others g r) → Within g y
  pub holds : Holds g heads up down

-- The nodes xs were taken out: the lists are those without xs, and the answer is the first primary column that this emptied.
pub record Deleted (g : Ground) (np : ℕ) (xs : List ℕ) (heads : List ℤ) (up down : List ℕ) (z : ℕ) : Type 0 where
  pub answer : z ≡ first_out g np xs
  pub holds : Holds (taken g xs) heads up down
