-- What is asked where the result is read off the nodes: the kept items; one option, one column, all columns. Assumes nothing.
use Rattle.std.specs.Prelude.{ℕ, ◌≤◌, ◌≡◌, List, [], ◌∷◌, ◌++◌, length, ℤ}
use Rattle.rules.specs.Lists.{written}
use Rattle.rules.specs.Rooms.{Results}
use Rattle.rules.specs.Result.{Numbered}
use Rattle.links.specs.Plan.{EntryOf, Header}
use Rattle.links.specs.Ground.{Ground, Tidy}
use Rattle.links.specs.Shown.{Tinted, Ready}
use Rattle.links.specs.declared.nodes.Nodes.{Nodes}
use Rattle.result.specs.Left.{option_from, column_options}
use Rattle.result.specs.Writing.{FourLists, Written, Suffices}

-- The heads are those of a ground between an item's step and the next, with n items.
pub record HeadsRead (g : Ground) (n : ℕ) (heads : List ℤ) : Type 0 where
  pub ready : Ready g
  pub items-are : n ≡ g.plan.n
  pub heads-are : heads ≡ g.heads

-- And so are the ways down and the colours.
pub record NodesRead (g : Ground) (nodes : Nodes) (tints : List ℕ) : Type 0 where
  pub standing : HeadsRead g nodes.shape.n nodes.heads.now
  pub down-are : nodes.down.now ≡ g.down
  pub tinted : Tinted g.plan tints

-- Node r is an entry, the options xs are written, and there is room for r's option behind them.
pub record OptionAt (g : Ground) (old lists : FourLists) (xs : List Numbered) (heads : List ℤ) (tints : List ℕ) (r option entry : ℕ) : Type 0 where
  pub tidy : Tidy g
  pub tinted : Tinted g.plan tints
  pub heads-are : heads ≡ g.heads
  pub node : EntryOf g.plan r
  pub room : Suffices old (xs ++ (option_from g r ∷ []))
  pub written : Written old lists xs option entry

-- The options xs are written, and there is room behind them for those met in column c.
pub record ColumnAt (g : Ground) (old lists : FourLists) (xs : List Numbered) (nodes : Nodes) (tints : List ℕ) (c option entry : ℕ) : Type 0 where
  pub laid : NodesRead g nodes tints
  pub column : Header g.plan c
  pub room : Suffices old (xs ++ column_options g c)
  pub written : Written old lists xs option entry

-- The lists are long enough for the result.
pub record LongEnough (new : Results) (old : FourLists) : Type 0 where
  pub ends : length new.ends ≤ length old.ends
  pub numbers : length new.numbers ≤ length old.numbers
  pub items : length new.items ≤ length old.items
  pub colours : length new.colours ≤ length old.colours

-- The result stands in the fronts of the lists, and what is behind it is as it was.
pub record Returned (new : Results) (old lists : FourLists) : Type 0 where
  pub ends : lists.ends ≡ written new.ends old.ends
  pub numbers : lists.numbers ≡ written new.numbers old.numbers
  pub items : lists.items ≡ written new.items old.items
  pub colours : lists.colours ≡ written new.colours old.colours
