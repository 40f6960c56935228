-- What the lists hold while the nodes are laid out: the headers, and all that the plan has below a node. Assumes nothing.
use Rattle.std.specs.Prelude.{◌≡◌, ℕ, zero, suc, ◌-◌, ◌<◌, ◌≤◌, Bool, ◌&&◌, ◌||◌, ◌⊎◌, List, length, ℤ, pos, negsuc, nat_le, nat_lt, slice_set}
use Rattle.links.specs.Head.{item_of, head}
use Rattle.links.specs.Column.{at, Ring}
use Rattle.links.specs.Plan.{Plan, lo, hi, EntryOf, Header}
use Rattle.links.specs.Ground.{Ground, tally}

-- the mask of every header and every entry
abbrev pub is_header : Plan → ℕ → Bool
is_header P y = nat_lt 0 y && nat_le y P.n

abbrev pub is_entry : Plan → ℕ → Bool
is_entry P y = nat_lt (P.number y) P.M && nat_le (lo P y) y && nat_lt y (hi P y)

unfoldable pub every : Plan → ℕ → Bool
every P y = is_header P y || is_entry P y

-- of those below x
unfoldable pub below : Plan → ℕ → ℕ → Bool
below P x y = every P y && nat_lt y x

-- The boundary after an option has its number and leads back to its first entry, and the one before it leads to its last.
pub record Closed (P : Plan) (k : ℕ) (heads : List ℤ) (up down : List ℕ) : Type 0 where
  pub number : head heads (P.past k) ≡ negsuc k
  pub to-first : at up (P.past k) ≡ P.first k
  pub to_last : at down (P.first k - 1) ≡ P.past k - 1

-- The lists hold what the plan has below x, the headers and the first boundary among it.
pub record Laid (P : Plan) (x : ℕ) (heads : List ℤ) (up down tints : List ℕ) : Type 0 where
  pub ring : Ring P.N P.col (below P x) up down
  pub heads-in : P.N ≤ length heads
  pub tints-in : P.N ≤ length tints
  pub counts : (i : ℕ) → Header P i → head heads i ≡ pos (tally P (below P x) i)
  pub full : (y : ℕ) → EntryOf P y → y < x → head heads y ≡ pos (P.col y)
  pub tint : (y : ℕ) → EntryOf P y → y < x → at tints y ≡ P.tint y
  -- the boundary before an option, of which no entry need be there yet
  pub spacer : (k : ℕ) → k < P.M → P.first k < P.past k → P.first k ≤ x → item_of (head heads (P.first k - 1)) ≡ 0
  pub edge : (k : ℕ) → k < P.M → P.first k < P.past k → P.past k < x → Closed P k heads up down

-- y is the last node of a column, of those behind the first i
pub record Last (P : Plan) (i : ℕ) (up : List ℕ) (y : ℕ) : Type 0 where
  pub column : ℕ
  pub header : Header P column
  pub behind : i < column
  pub there : y ≡ at up column

-- The lists are laid out but for the way down from the last nodes of those columns, which is written when everything else is there.
pub record Open (P : Plan) (i x : ℕ) (heads : List ℤ) (up down tints : List ℕ) : Type 0 where
  pub closed : List ℕ
  pub laid : Laid P x heads up closed tints
  pub long : length down ≡ length closed
  pub same : (y : ℕ) → (at down y ≡ at closed y) ⊎ Last P i up y

-- the ways down when those of the first i columns are written
abbrev pub closing : ℕ → List ℕ → List ℕ → List ℕ
closing zero up down = down
closing (suc i) up down = slice_set (closing i up down) (at up (suc i)) (suc i)

-- everything is in its column
abbrev pub whole : Plan → List ℤ → List ℕ → List ℕ → Ground
whole P heads up down = record { plan = P; on = every P; heads = heads; up = up; down = down }
