-- The tests of item i, whose column is i + 1, while it is hidden: what is asked, and what is found. The options found blocked are kept in a chain, the highest
-- first: the colour of the boundary before an option's entries names the one found before it. Assumes nothing.
use Rattle.std.specs.Prelude.{ℕ, zero, suc, ◌+◌, ◌-◌, ◌≤◌, ◌≡◌, Bool, true, cond, List, [], ◌∷◌, ◌++◌, ℤ}
use Rattle.links.specs.declared.shape.Shape.{Shape}
use Rattle.links.specs.Column.{at}
use Rattle.links.specs.Plan.{Plan, start, lo, Header}
use Rattle.links.specs.Ground.{Ground, Holds, taken}
use Rattle.links.specs.Shown.{Ready, Tinted}
use Rattle.links.specs.Taking.{in_column, hides, first_out}
use Rattle.showing.specs.Showing.{deletes, condemned_at, Condemns}
use Rattle.condemning.specs.Marks.{Known}

-- the numbers below k that pass, the highest first
abbrev pub down_to : (ℕ → Bool) → ℕ → List ℕ
down_to f zero = []
down_to f (suc k) = let r = down_to f k in cond (f k) (k ∷ r) r

-- the chain that begins at z
abbrev pub Chain : Plan → List ℕ → ℕ → List ℕ → Type 0
Chain P tints z [] = z ≡ 0
Chain P tints z (r ∷ rs) = (z ≡ r) × Chain P tints (at tints (lo P r - 1)) rs

-- g is the ground before item i, of column c, was hidden
pub record BeforeHiding (g : Ground) (i c : ℕ) (shape : Shape) : Type 0 where
  pub ready : Ready g
  pub column : c ≡ i + 1
  pub header : Header g.plan c
  pub begins : shape.start ≡ start g.plan
  pub few : shape.np ≤ g.plan.n

-- the lists while it is hidden
pub record Hiding (g : Ground) (i : ℕ) (heads : List ℤ) (up down tints marks : List ℕ) : Type 0 where
  pub holds : Holds (taken g (hides g (i + 1))) heads up down
  pub tinted : Tinted g.plan tints
  pub known : Known g g.on marks

-- The options below node k are tested, and the chain at z has those found.
pub record Tried (g : Ground) (i np k z : ℕ) (tints marks : List ℕ) : Type 0 where
  pub tinted : Tinted g.plan tints
  pub known : Known g g.on marks
  pub chain : Chain g.plan tints z (down_to (condemned_at np i g) k)

-- The test of the option of node r: what is asked.
pub record Trying (g : Ground) (i r : ℕ) (shape : Shape) (z : ℕ) (heads : List ℤ) (up down tints marks : List ℕ) : Type 0 where
  pub ready : Ready g
  pub begins : shape.start ≡ start g.plan
  pub few : shape.np ≤ g.plan.n
  pub holds : Holds (taken g (hides g (i + 1))) heads up down
  pub column : in_column g (i + 1) r ≡ true
  pub tried : Tried g i shape.np r z tints marks

-- The deletion of what was found, after the item is shown again: what is asked.
pub record Sparing (g : Ground) (i np z : ℕ) (heads : List ℤ) (up down tints : List ℕ) : Type 0 where
  pub ready : Ready g
  pub tinted : Tinted g.plan tints
  pub condemns : Condemns np i g (down_to (condemned_at np i g) g.plan.N)
  pub chain : Chain g.plan tints z (down_to (condemned_at np i g) g.plan.N)
  pub holds : Holds g heads up down

-- What comes of it: the options `done`, the highest of those found, are deleted whole, and z is the first primary column that this emptied. If there is
-- none, they are all that were found; else some may be left, and with those gone too z would be the same.
pub record Spared (g : Ground) (i np : ℕ) (heads : List ℤ) (up down : List ℕ) (z : ℕ) : Type 0 where
  pub done : List ℕ
  pub left : List ℕ
  pub split : down_to (condemned_at np i g) g.plan.N ≡ done ++ left
  pub all : z ≡ 0 → left ≡ []
  pub holds : Holds (taken g (deletes g done)) heads up down
  pub emptied : z ≡ first_out g np (deletes g done)
  pub answer : z ≡ first_out g np (deletes g (down_to (condemned_at np i g) g.plan.N))
