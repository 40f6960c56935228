-- The plan of the nodes, which no step changes: where each option's entries lie, and of each node its option, its column and its colour.
-- Assumes nothing.
use Rattle.std.specs.Prelude.{ℕ, ◌+◌, ◌<◌, ◌≤◌, ◌≡◌}
use Rattle.rules.specs.Bounds.{node_bound}

pub record Plan : Type 0 where
  -- how many items, options and nodes there are
  pub n : ℕ
  pub M : ℕ
  pub N : ℕ
  -- option k has its entries from node `first k` on, and its boundary at `past k`; a skipped option has none, and the two are equal
  pub first : ℕ → ℕ
  pub past : ℕ → ℕ
  -- the option of an entry; the column of an entry, its item + 1, and of a header, its own number; the colour of an entry
  pub number : ℕ → ℕ
  pub col : ℕ → ℕ
  pub tint : ℕ → ℕ

-- the first node behind the headers and the first boundary
abbrev pub start : Plan → ℕ
start P = P.n + 2

-- the first node of a node's option, and its boundary
abbrev pub lo : Plan → ℕ → ℕ
lo P y = P.first (P.number y)

abbrev pub hi : Plan → ℕ → ℕ
hi P y = P.past (P.number y)

-- Node y is an entry.
pub record EntryOf (P : Plan) (y : ℕ) : Type 0 where
  pub option : P.number y < P.M
  pub from : lo P y ≤ y
  pub till : y < hi P y

-- Node i is a header.
pub record Header (P : Plan) (i : ℕ) : Type 0 where
  pub above : 0 < i
  pub below : i ≤ P.n

pub record Planned (P : Plan) : Type 0 where
  pub small : P.N < node_bound
  pub options-small : P.M < node_bound
  pub room : start P ≤ P.N
  -- a column's number is at most its nodes'
  pub low : (x : ℕ) → P.col x ≤ x
  pub header : (i : ℕ) → Header P i → P.col i ≡ i
  pub entry : (y : ℕ) → EntryOf P y → Header P (P.col y)
  -- the rows lie behind the headers, in order, with a boundary between them
  pub from : (k : ℕ) → k < P.M → start P ≤ P.first k
  pub order : (k : ℕ) → k < P.M → P.first k ≤ P.past k
  pub till : (k : ℕ) → k < P.M → P.first k < P.past k → P.past k < P.N
  pub apart : (k l : ℕ) → k < l → l < P.M → P.first k < P.past k → P.first l < P.past l → P.past k < P.first l
  pub numbered : (k y : ℕ) → k < P.M → P.first k ≤ y → y < P.past k → P.number y ≡ k
  -- no option holds an item twice
  pub once : (y z : ℕ) → EntryOf P y → EntryOf P z → P.number y ≡ P.number z → P.col y ≡ P.col z → y ≡ z
