-- What the marks say. The Rust never clears them: a mark may be older than the round. Assumes nothing.
use Rattle.std.specs.Prelude.{ℕ, ◌+◌, ◌≤◌, ◌≡◌, Bool, true, List, length, ℤ, pos}
use Rattle.links.specs.Head.{head}
use Rattle.links.specs.Column.{at}
use Rattle.links.specs.Plan.{EntryOf}
use Rattle.links.specs.Ground.{Ground, Tidy}
use Rattle.links.specs.Row.{first_live}

-- y's item is in the option of node m, not shortened there
pub record HeldBy (g : Ground) (m y : ℕ) : Type 0 where
  pub entry : EntryOf g.plan m
  pub mate : ℕ
  pub mate-entry : EntryOf g.plan mate
  pub row : g.plan.number mate ≡ g.plan.number m
  pub full : head g.heads mate ≡ pos (g.plan.col mate)
  pub item : g.plan.col mate ≡ g.plan.col y

-- A mark of an item of which the mask has an entry is 0 or names an option that holds the item.
pub record Known (g : Ground) (on : ℕ → Bool) (marks : List ℕ) : Type 0 where
  pub room : g.plan.n + 1 ≤ length marks
  pub names : (y : ℕ) → EntryOf g.plan y → on y ≡ true → (at marks (g.plan.col y) ≡ 0 → ⊥) → HeldBy g (at marks (g.plan.col y)) y

-- what is asked before r's items are marked; the mask has at least what is in the columns
pub record Marking (g : Ground) (on : ℕ → Bool) (r : ℕ) (heads : List ℤ) (marks : List ℕ) : Type 0 where
  pub tidy : Tidy g
  pub entry : EntryOf g.plan r
  pub first : first_live g r ≡ true
  pub wider : (y : ℕ) → g.on y ≡ true → on y ≡ true
  pub heads-are : heads ≡ g.heads
  pub known : Known g on marks
