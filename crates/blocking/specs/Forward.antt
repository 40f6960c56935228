-- What the test of one option finds at each place of its walk. Assumes nothing.
use Rattle.std.specs.Prelude.{ℕ, ◌<◌, ◌≤◌, ◌≡◌, ◌⊎◌, ◌≢◌, true, false, ℤ, pos}
use mathlib.Core.List.{List, Memᴰ as In}
use Rattle.rules.specs.Blocked.{agree}
use Rattle.links.specs.Head.{item_of, head}
use Rattle.links.specs.Column.{at}
use Rattle.links.specs.Plan.{lo, hi, EntryOf, Header, start}
use Rattle.links.specs.Ground.{Ground, taken, Fresh, Holds, after}
use Rattle.links.specs.Row.{walked, others}
use Rattle.links.specs.declared.shape.Shape.{Shape}
use Rattle.links.specs.Way.{reach}
use Rattle.links.specs.Shown.{Tinted}
use Rattle.links.specs.Taking.{length_of, gather_to, rival_at, testing, Tested, Marked}
use Rattle.blocking.specs.Stops.{stops_at}

-- What the test of r asks of the ground h in which it runs, and of the other lists.
pub record Test (h : Ground) (tints marks : List ℕ) (r : ℕ) (shape : Shape) : Type 0 where
  pub tested : Tested h r
  pub tinted : Tinted h.plan tints
  pub marked : Marked h r marks
  pub starts : shape.start ≡ start h.plan
  pub few : shape.np ≤ h.plan.n

-- Node rr is of an option that clashes with one of the items qs of r.
pub record Clash (h : Ground) (qs : List ℕ) (rr : ℕ) : Type 0 where
  pub item : ℕ
  pub among : In item qs
  pub entry : EntryOf h.plan rr
  pub on : h.on rr ≡ true
  pub col : h.plan.col rr ≡ h.plan.col item
  pub differ : agree (h.plan.tint item) (h.plan.tint rr) ≡ false

-- Node y was taken out: its option was met at another node, and has lost all others.
pub record Out (h : Ground) (qs xs : List ℕ) (y : ℕ) : Type 0 where
  pub met : ℕ
  pub clash : Clash h qs met
  pub one : In y (others h met)
  pub all : (z : ℕ) → In z (others h met) → In z xs

-- The items qs of r were tested: the nodes xs are out, each with its option, and no clash was left.
pub record Stage (h : Ground) (qs xs : List ℕ) : Type 0 where
  pub fresh : Fresh h xs
  pub out : (y : ℕ) → In y xs → Out h qs xs y
  pub met : (rr : ℕ) → Clash h qs rr → In rr xs ⊎ ((z : ℕ) → In z (others h rr) → In z xs)

-- no primary column that r does not hold was emptied
abbrev pub Alive : Ground → List ℕ → ℕ → ℕ → List ℤ → Type 0
Alive h marks r np heads = (i : ℕ) → Header h.plan i → i ≤ np → at marks i ≢ r → 0 < length_of h i → 0 < item_of (head heads i)

-- the nodes taken out, and the ground, when the walk round r's option is at q
abbrev pub out_at : Ground → ℕ → ℕ → List ℕ
out_at h r q = testing h (walked h r q)

abbrev pub ground_at : Ground → ℕ → ℕ → Ground
ground_at h r q = after h (out_at h r q)

-- At the item of q.
pub record Outer (h : Ground) (tints marks : List ℕ) (r : ℕ) (shape : Shape) (q : ℕ) (heads : List ℤ) (up down : List ℕ) : Type 0 where
  pub test : Test h tints marks r shape
  pub from : lo h.plan r ≤ q
  pub till : q ≤ hi h.plan r
  pub stage : Stage h (walked h r q) (out_at h r q)
  pub alive : Alive h marks r shape.np heads
  pub holds : Holds (taken h (out_at h r q)) heads up down

-- q is another item of r, which is tested now
pub record AtItem (h : Ground) (tints marks : List ℕ) (r : ℕ) (shape : Shape) (q : ℕ) : Type 0 where
  pub test : Test h tints marks r shape
  pub from : lo h.plan r ≤ q
  pub till : q < hi h.plan r
  pub other : q ≢ r
  pub full : head h.heads q ≡ pos (h.plan.col q)
  pub stage : Stage h (walked h r q) (out_at h r q)

-- the nodes taken out in q's column above node k, of the ground when the walk came to q
abbrev pub rivals_to : Ground → ℕ → ℕ → ℕ → List ℕ
rivals_to h r q k = gather_to (rival_at (ground_at h r q) (h.plan.col q) (h.plan.tint q)) (ground_at h r q) k

-- and the ground then
abbrev pub ground_to : Ground → ℕ → ℕ → ℕ → Ground
ground_to h r q k = after (ground_at h r q) (rivals_to h r q k)

-- At node rr of q's column.
pub record Middle (h : Ground) (tints marks : List ℕ) (r : ℕ) (shape : Shape) (q rr : ℕ) (heads : List ℤ) (up down : List ℕ) : Type 0 where
  pub item : AtItem h tints marks r shape q
  pub on : (ground_at h r q).on rr ≡ true
  pub col : h.plan.col rr ≡ h.plan.col q
  pub alive : Alive h marks r shape.np heads
  pub holds : Holds (taken (ground_at h r q) (rivals_to h r q (reach h.plan rr))) heads up down

-- At node qq of the rival rr.
pub record Inner (h : Ground) (tints marks : List ℕ) (r : ℕ) (shape : Shape) (q rr qq : ℕ) (heads : List ℤ) (up down : List ℕ) : Type 0 where
  pub item : AtItem h tints marks r shape q
  pub rival : rival_at (ground_at h r q) (h.plan.col q) (h.plan.tint q) rr ≡ true
  pub from : lo h.plan rr ≤ qq
  pub till : qq ≤ hi h.plan rr
  pub fresh : Fresh (ground_to h r q rr) (walked (ground_to h r q rr) rr qq)
  pub alive : Alive h marks r shape.np heads
  pub holds : Holds (taken (ground_to h r q rr) (walked (ground_to h r q rr) rr qq)) heads up down

-- There the walk breaks off.
pub record Stopped (h : Ground) (tints marks : List ℕ) (r : ℕ) (shape : Shape) (q rr qq : ℕ) (heads : List ℤ) (up down : List ℕ) : Type 0 where
  pub inner : Inner h tints marks r shape q rr qq heads up down
  pub other : qq ≢ rr
  pub full : item_of (head heads qq) ≢ 0
  pub stops : stops_at heads marks (item_of (head heads qq)) r shape.np ≡ true
