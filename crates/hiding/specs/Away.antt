-- The lists while nodes are away from their columns and come back in the order in which they went, not in the reverse: a node that is back may then
-- point to one that is still away, and the columns are whole again only when all are back. Assumes nothing.
use Rattle.std.specs.Prelude.{ℕ, ◌<◌, ◌≡◌, false, length, ℤ}
use mathlib.Core.List.{List, [], ◌∷◌, ◌++◌, Memᴰ as In}
use Rattle.links.specs.Column.{at}
use Rattle.links.specs.Plan.{EntryOf}
use Rattle.links.specs.Ground.{Ground, Tidy, Within, taken}
use Rattle.links.specs.Row.{others}

-- The nodes are in their columns in g, and those of one column rise along the list.
abbrev pub Rising : Ground → List ℕ → Type 0
Rising g [] = Unit {0}
Rising g (x ∷ xs) = Within g x × ((y : ℕ) → In y xs → g.plan.col y ≡ g.plan.col x → x < y) × Rising g xs

-- The lists beside those of g, while the nodes out are away: the heads are those of the ground without them; a link of a node that was in no column is as
-- it was, and so is a link to a node that is not away; and a node that is away keeps its own link down.
pub record Away (g : Ground) (out : List ℕ) (heads : List ℤ) (up down : List ℕ) : Type 0 where
  pub heads-are : heads ≡ (taken g out).heads
  pub ups : length up ≡ length g.up
  pub downs : length down ≡ length g.down
  pub up-off : (y : ℕ) → g.on y ≡ false → at up y ≡ at g.up y
  pub down-off : (y : ℕ) → g.on y ≡ false → at down y ≡ at g.down y
  pub up-kept : (y : ℕ) → (In (at g.up y) out → ⊥) → at up y ≡ at g.up y
  pub down-kept : (y : ℕ) → (In (at g.down y) out → ⊥) → at down y ≡ at g.down y
  pub down-own : (y : ℕ) → In y out → at down y ≡ at g.down y

-- The other entries of rr's option are away, and come back before the rest.
pub record Returning (g : Ground) (rr : ℕ) (rest : List ℕ) : Type 0 where
  pub tidy : Tidy g
  pub entry : EntryOf g.plan rr
  pub rising : Rising g (others g rr ++ rest)
