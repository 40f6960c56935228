-- The state that plan and mask show: of each option, the live entries. And what holds of the lists between an item's step and the next.
-- Assumes nothing.
use Rattle.std.specs.Prelude.{ℕ, ◌-◌, ◌≤◌, ◌≡◌, Bool, true, List, map, length, pos}
use Rattle.rules.specs.Lists.{keep, up_to}
use Rattle.rules.specs.Problem.{Entry}
use Rattle.rules.specs.State.{State}
use Rattle.links.specs.Head.{head}
use Rattle.links.specs.Column.{at}
use Rattle.links.specs.Plan.{Plan, EntryOf, Header}
use Rattle.links.specs.Ground.{Ground, Tidy}
use Rattle.links.specs.Row.{span}

-- the entry that a node stands for
abbrev pub entry_at : Plan → ℕ → Entry
entry_at P y = record { item = P.col y - 1; colour = P.tint y }

-- the nodes of option k that are in their columns, and its live entries
abbrev pub row_of : Plan → (ℕ → Bool) → ℕ → List ℕ
row_of P on k = keep on (span (P.first k) (P.past k))

abbrev pub shown_row : Plan → (ℕ → Bool) → ℕ → List Entry
shown_row P on k = map (entry_at P) (row_of P on k)

unfoldable pub shown : Plan → (ℕ → Bool) → State
shown P on = map (shown_row P on) (up_to P.M)

-- Every header is in its column, and an option of which one entry is linked is wholly linked, but for its shortened entries.
pub record Whole (g : Ground) : Type 0 where
  pub headers : (i : ℕ) → Header g.plan i → g.on i ≡ true
  pub mates : (y z : ℕ) → EntryOf g.plan y → EntryOf g.plan z → g.plan.number y ≡ g.plan.number z → g.on y ≡ true
      → head g.heads z ≡ pos (g.plan.col z) → g.on z ≡ true

-- The fourth list has the entries' colours.
pub record Tinted (P : Plan) (tints : List ℕ) : Type 0 where
  pub room : P.N ≤ length tints
  pub tint : (y : ℕ) → EntryOf P y → at tints y ≡ P.tint y

pub record Ready (g : Ground) : Type 0 where
  pub tidy : Tidy g
  pub whole : Whole g
