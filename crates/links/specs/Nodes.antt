-- The nodes as they are lent: three lists and the shape of the problem. What a definition says of lists, said of nodes; and that a function leaves the
-- nodes the same ones, whatever it writes in them. Assumes nothing.
use Rattle.std.specs.Prelude.{ℕ, zero, suc, ◌≡◌, List, length, ℤ, pos, negsuc, Option, Some, None}
use Rattle.rules.specs.declared.number.Opt.{Opt}
use Rattle.links.specs.declared.nodes.Nodes.{Nodes}

-- what is said of heads, links up and links down, in that order, said of the nodes
abbrev pub in_nodes : {A : Type 1} → (List ℤ → List ℕ → List ℕ → A) → Nodes → A
in_nodes say nodes = say nodes.heads.now nodes.up.now nodes.down.now

-- b is what a became: the same three lists, as long as they were, and the same shape
pub record SameNodes (a b : Nodes) : Type 0 where
  pub heads : b.heads.ghost_name ≡ a.heads.ghost_name
  pub up : b.up.ghost_name ≡ a.up.ghost_name
  pub down : b.down.ghost_name ≡ a.down.ghost_name
  pub heads-long : length b.heads.now ≡ length a.heads.now
  pub up-long : length b.up.now ≡ length a.up.now
  pub down-long : length b.down.now ≡ length a.down.now
  pub shape : b.shape ≡ a.shape

-- what they hold is what they held
abbrev pub Untouched : Nodes → Nodes → Type 0
Untouched a b = (b.heads.now ≡ a.heads.now) × (b.up.now ≡ a.up.now) × (b.down.now ≡ a.down.now)

-- a column's number, where 0 says that there is none
abbrev pub column : ℕ → Option ℕ
column zero = None
column (suc i) = Some (suc i)

-- the column of a head: above 0 the item + 1, else there is none
abbrev pub column_in : ℤ → Option ℕ
column_in (pos i) = column i
column_in (negsuc k) = None

-- the option of a head: at a boundary behind an option its number, else there is none
abbrev pub option_in : ℤ → Option Opt
option_in (pos i) = None
option_in (negsuc k) = Some (record { 0 = k })
