-- What the building of the lists asks for, and what it ensures. Assumes nothing.
use Rattle.std.specs.Prelude.{◌≡◌, ℕ, ◌+◌, ◌<◌, ◌≤◌, Bool, true, cond, List, length, ℤ, pos, nat_lt}
use Rattle.std.proofs.Math.Option.{none}
use Rattle.rules.specs.Bounds.{node_bound}
use Rattle.rules.specs.Lists.{any}
use Rattle.rules.specs.Problem.{Problem, Figures, problem_of}
use Rattle.rules.specs.Checks.{check16}
use Rattle.rules.specs.Rounds.{start as starting}
use Rattle.rules.specs.Promises.{Accepted}
use Rattle.links.specs.Head.{head}
use Rattle.links.specs.Column.{at}
use Rattle.links.specs.Plan.{Plan, EntryOf, Planned}
use Rattle.links.specs.Ground.{Ground}
use Rattle.links.specs.Shown.{Ready, Tinted, shown}
use Rattle.building.specs.Layout.{plan_of}
use Rattle.building.specs.Laid.{every, Open, whole}

-- some item of an option is primary
abbrev pub primary_in : ℕ → List ℕ → Bool
primary_in np items = any (λ i. nat_lt i np) items

-- The headers stand alone in their columns, no column has an entry, the first boundary is no entry, and no item is marked.
pub record Cleared (n : ℕ) (heads : List ℤ) (up down marks : List ℕ) : Type 0 where
  pub empty : (i : ℕ) → i ≤ n + 1 → head heads i ≡ pos 0
  pub above : (i : ℕ) → i ≤ n → at up i ≡ i
  pub beneath : (i : ℕ) → i ≤ n → at down i ≡ i
  pub unmarked : (i : ℕ) → i ≤ n → at marks i ≡ 0

-- Node x is the entry of the plan at place j of an option's lists.
pub record Spelled (P : Plan) (x j : ℕ) (items colours : List ℕ) : Type 0 where
  pub entry : EntryOf P x
  pub col : P.col x ≡ at items j + 1
  pub tint : P.tint x ≡ at colours j

-- Everything below node edge + 1 is laid out, and from there on the plan has the entries of an option's lists.
pub record Filling (P : Plan) (edge : ℕ) (items colours : List ℕ) (heads : List ℤ) (up down tints : List ℕ) : Type 0 where
  pub planned : Planned P
  pub spelled : (j : ℕ) → j < length items → Spelled P (edge + 1 + j) j items colours
  pub so_far : Open P 0 (edge + 1) heads up down tints

-- Option k is next, behind the boundary edge: the plan has the entries of its lists if one of them is primary.
pub record Turn (P : Plan) (np k edge : ℕ) (items colours : List ℕ) (heads : List ℤ) (up down tints : List ℕ) : Type 0 where
  pub planned : Planned P
  pub option : k < P.M
  pub first : P.first k ≡ edge + 1
  pub past : primary_in np items ≡ true → P.past k ≡ edge + 1 + length items
  pub spelled : primary_in np items ≡ true → (j : ℕ) → j < length items → Spelled P (edge + 1 + j) j items colours
  pub so_far : Open P 0 (edge + 1) heads up down tints

-- the boundary behind it, where the next option is to go
abbrev pub behind : ℕ → ℕ → List ℕ → ℕ
behind np edge items = cond (primary_in np items) (edge + 1 + length items) edge

-- What is handed in is accepted, and the lists are long enough: four of at least n + 2 + E + M numbers and one of at least n + 1.
pub record Buildable (f : Figures) (np ns n : ℕ) (items colours ends : List ℕ) (heads : List ℤ) (up down tints marks : List ℕ) : Type 0 where
  pub total : n ≡ np + ns
  pub accepted : Accepted f (problem_of np ns items colours ends)
  pub lengths : length items ≡ length colours
  pub ends-rise : check16 (length items) ends ≡ none
  pub small : n + 2 + length items + length ends < node_bound
  pub heads-room : n + 2 + length items + length ends ≤ length heads
  pub up_room : n + 2 + length items + length ends ≤ length up
  pub down-room : n + 2 + length items + length ends ≤ length down
  pub tints-room : n + 2 + length items + length ends ≤ length tints
  pub marks-room : n + 1 ≤ length marks

-- the ground of a problem: its plan, with every header and every entry in its column
abbrev pub built : Problem → List ℤ → List ℕ → List ℕ → Ground
built a heads up down = whole (plan_of a) heads up down

-- The lists hold the problem, of n items and M options: its ground, which shows the live options that it starts with, the colours, and no
-- mark.
pub record Built (a : Problem) (n M : ℕ) (heads : List ℤ) (up down tints marks : List ℕ) : Type 0 where
  pub ready : Ready (built a heads up down)
  pub tinted : Tinted (plan_of a) tints
  pub unmarked : (i : ℕ) → i ≤ n → at marks i ≡ 0
  pub items : (plan_of a).n ≡ n
  pub options : (plan_of a).M ≡ M
  pub shows : shown (plan_of a) (every (plan_of a)) ≡ starting a
