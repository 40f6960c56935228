-- What removing an item asks of the lists, and what it answers and leaves. Assumes nothing.
use Rattle.std.specs.Prelude.{ℕ, ◌+◌, ◌-◌, ◌≡◌, ◌≢◌, Bool, cond, List, [], eqb, set, ℤ, pos}
use Rattle.rules.specs.Lists.{any}
use Rattle.links.specs.Head.{head}
use Rattle.links.specs.Plan.{start, EntryOf, Header}
use Rattle.links.specs.Ground.{Ground, Tidy, taken, Holds}
use Rattle.links.specs.Row.{others}
use Rattle.links.specs.Shown.{Ready}
use Rattle.links.specs.Taking.{first_out, off_column, leaves, mask_without}

-- A walk round r's option, which reads these two lists only.
pub record Walking (g : Ground) (r : ℕ) (heads : List ℤ) (up : List ℕ) : Type 0 where
  pub tidy : Tidy g
  pub entry : EntryOf g.plan r
  pub heads-are : heads ≡ g.heads
  pub up-are : up ≡ g.up

-- r's option has an entry of column p besides r
abbrev pub holds_other : Ground → ℕ → ℕ → Bool
holds_other g r p = any (λ y. eqb (g.plan.col y) p) (others g r)

-- r is shortened; it was in no column that is in sight
unfoldable pub shortened : Ground → ℕ → Ground
shortened g r = record { plan = g.plan; on = g.on; heads = set g.heads r (pos 0); up = set g.up r (r + 1); down = set g.down r (r - 1) }

-- what an option that holds r, an entry of the item removed, loses besides r, and what it leaves
abbrev pub dropping : Ground → ℕ → ℕ → List ℕ
dropping g r p = cond (holds_other g r p) [] (others g r)

abbrev pub dropped : Ground → ℕ → ℕ → Ground
dropped g r p = cond (holds_other g r p) (shortened g r) (taken g (others g r))

-- The option lost what it was to lose, and the answer is the first primary column that this emptied.
pub record Dropped (g : Ground) (np r p : ℕ) (heads : List ℤ) (up down : List ℕ) (z : ℕ) : Type 0 where
  pub answer : z ≡ first_out g np (dropping g r p)
  pub holds : Holds (dropped g r p) heads up down

-- Item c is to be removed, and p is another (columns); entries have numbers from `first` on.
pub record Removing (g : Ground) (c p first : ℕ) (heads : List ℤ) (up down : List ℕ) : Type 0 where
  pub ready : Ready g
  pub item : Header g.plan c
  pub apart : c ≢ p
  pub starts : first ≡ start g.plan
  pub holds : Holds g heads up down

-- the ground that the lists hold then
abbrev pub removed : Ground → ℕ → ℕ → List ℤ → List ℕ → List ℕ → Ground
removed g c p heads up down = record { plan = g.plan; on = mask_without g c p; heads = heads; up = up; down = down }

-- The answer is the first primary column that this empties; if there is none, the lists hold the ground without c.
pub record Removed (g : Ground) (c p np : ℕ) (heads : List ℤ) (up down : List ℕ) (z : ℕ) : Type 0 where
  pub answer : z ≡ first_out (off_column g c) np (leaves g c p)
  pub ready : z ≡ 0 → Ready (removed g c p heads up down)
  -- entries of other columns keep their heads
  pub same : z ≡ 0 → (y : ℕ) → EntryOf g.plan y → g.plan.col y ≢ c → head heads y ≡ head g.heads y
