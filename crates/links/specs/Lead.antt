-- What is asked and what is found by the walk back from an entry. Assumes nothing.
use Rattle.std.specs.Prelude.{ℕ, ◌-◌, ◌<◌, ◌≡◌, true, List, eqb, ℤ}
use Rattle.links.specs.Head.{item_of, head}
use Rattle.links.specs.Plan.{lo, EntryOf}
use Rattle.links.specs.Ground.{Ground, Tidy}
use Rattle.links.specs.Row.{first_live}

-- r is an entry of a tidy ground, whose heads and ways down these are
pub record Led (g : Ground) (r : ℕ) (heads : List ℤ) (down : List ℕ) : Type 0 where
  pub tidy : Tidy g
  pub entry : EntryOf g.plan r
  pub heads-are : heads ≡ g.heads
  pub down-are : down ≡ g.down

-- z has no item exactly if r is the first live entry, and is then the boundary before the option
pub record Leads (g : Ground) (r z : ℕ) : Type 0 where
  pub inside : z < g.plan.N
  pub first : eqb (item_of (head g.heads z)) 0 ≡ first_live g r
  pub before : first_live g r ≡ true → z ≡ lo g.plan r - 1
