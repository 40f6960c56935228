-- What a head says: the item of an entry, the length of a column, or the option before a boundary. Assumes nothing.
use Rattle.std.specs.Prelude.{ℕ, ◌+◌, ◌<◌, ◌≡◌, Bool, true, false, List, eqb, length, get_or, ℤ, pos, negsuc}
use Rattle.rules.specs.Bounds.{node_bound}

-- above 0 the item + 1, else 0
abbrev pub item_of : ℤ → ℕ
item_of (pos i) = i
item_of (negsuc k) = 0

-- at a boundary, minus (k + 1), the option number k
abbrev pub option_of : ℤ → ℕ
option_of (pos i) = 0
option_of (negsuc k) = k

-- it is 0; it is below 0
abbrev pub zero_head : ℤ → Bool
zero_head (pos i) = eqb i 0
zero_head (negsuc k) = false

abbrev pub below_zero : ℤ → Bool
below_zero (pos i) = false
below_zero (negsuc k) = true

-- the head at a node
abbrev pub head : List ℤ → ℕ → ℤ
head heads x = get_or heads x (pos 0)

-- the head at i counts a column that may grow by one: it is there, small, and not below 0
abbrev pub Growing : List ℤ → ℕ → Type 0
Growing heads i = (i < length heads) × (item_of (head heads i) + 1 < node_bound) × (below_zero (head heads i) ≡ false)
