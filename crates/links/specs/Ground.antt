-- What the lists hold: a plan, and a mask that says which of its nodes are in their columns. Assumes nothing.
use Rattle.std.specs.Prelude.{ℕ, ◌+◌, ◌-◌, ◌<◌, ◌≤◌, ◌≡◌, ◌⊎◌, Bool, true, false, ◌&&◌, List, [], ◌∷◌, eqb, length, set, ℤ, pos, negsuc}
use Rattle.rules.specs.Lists.{count, from}
use Rattle.links.specs.Head.{item_of, head}
use Rattle.links.specs.Column.{at, cut_up, cut_down, without, Ring}
use Rattle.links.specs.Plan.{Plan, start, EntryOf, Header, Planned}

pub record Ground : Type 0 where
  pub plan : Plan
  pub on : ℕ → Bool
  pub heads : List ℤ
  pub up : List ℕ
  pub down : List ℕ

-- how many entries of column i the mask has
unfoldable pub tally : Plan → (ℕ → Bool) → ℕ → ℕ
tally P on i = count (λ y. on y && eqb (P.col y) i) (from (start P) (P.N - start P))

-- A shortened entry: a walk steps over it either way.
pub record Short (g : Ground) (y : ℕ) : Type 0 where
  pub none : head g.heads y ≡ pos 0
  pub ahead : at g.up y ≡ y + 1
  pub back : at g.down y ≡ y - 1
  pub off : g.on y ≡ false

-- The boundary after an option's entries leads back to the first, and the one before them to the last.
pub record Edge (g : Ground) (k : ℕ) : Type 0 where
  pub number : head g.heads (g.plan.past k) ≡ negsuc k
  pub to-first : at g.up (g.plan.past k) ≡ g.plan.first k
  pub none : item_of (head g.heads (g.plan.first k - 1)) ≡ 0
  pub to_last : at g.down (g.plan.first k - 1) ≡ g.plan.past k - 1

-- The lists hold what plan and mask say.
pub record Tidy (g : Ground) : Type 0 where
  pub planned : Planned g.plan
  pub masked : (y : ℕ) → g.on y ≡ true → Header g.plan y ⊎ EntryOf g.plan y
  pub ring : Ring g.plan.N g.plan.col g.on g.up g.down
  pub heads-in : g.plan.N ≤ length g.heads
  -- a header's head is the length of its column, and an entry's its column, or it is shortened
  pub counts : (i : ℕ) → Header g.plan i → g.on i ≡ true → head g.heads i ≡ pos (tally g.plan g.on i)
  pub full : (y : ℕ) → EntryOf g.plan y → g.on y ≡ true → head g.heads y ≡ pos (g.plan.col y)
  pub rows : (y : ℕ) → EntryOf g.plan y → (head g.heads y ≡ pos (g.plan.col y)) ⊎ Short g y
  pub edge : (k : ℕ) → k < g.plan.M → g.plan.first k < g.plan.past k → Edge g k

-- An entry that is in its column, whose header is there.
pub record Within (g : Ground) (x : ℕ) : Type 0 where
  pub entry : EntryOf g.plan x
  pub on : g.on x ≡ true
  pub header : g.on (g.plan.col x) ≡ true

-- x is taken out of its column, which is one shorter then
abbrev pub cut_heads : Ground → ℕ → List ℤ
cut_heads g x = set g.heads (g.plan.col x) (pos (item_of (head g.heads (g.plan.col x)) - 1))

unfoldable pub cut_one : Ground → ℕ → Ground
cut_one g x =
    record { plan = g.plan; on = without g.on x; heads = cut_heads g x; up = cut_up g.up g.down x; down = cut_down g.up g.down x }

-- nodes are taken out one after another
abbrev pub taken : Ground → List ℕ → Ground
taken g [] = g
taken g (x ∷ xs) = taken (cut_one g x) xs

-- the same, with the plan that is still that of g written out
abbrev pub after : Ground → List ℕ → Ground
after g xs = record { plan = g.plan; on = (taken g xs).on; heads = (taken g xs).heads; up = (taken g xs).up; down = (taken g xs).down }

-- each is in its column when its turn comes
abbrev pub Fresh : Ground → List ℕ → Type 0
Fresh g [] = Unit {0}
Fresh g (x ∷ xs) = Within g x × Fresh (cut_one g x) xs

-- the three lists are those of the ground
pub record Holds (g : Ground) (heads : List ℤ) (up down : List ℕ) : Type 0 where
  pub heads-are : heads ≡ g.heads
  pub up-are : up ≡ g.up
  pub down-are : down ≡ g.down
