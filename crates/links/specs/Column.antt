-- Columns of linked nodes, up and down. Assumes nothing.
use Rattle.std.specs.Prelude.{ℕ, ◌<◌, ◌≤◌, ◌≡◌, ◌⊎◌, Bool, true, false, cond, List, eqb, length, get_or, set}

-- the number at a place, 0 past the end
abbrev pub at : List ℕ → ℕ → ℕ
at l x = get_or l x 0

-- the links when x is taken out
abbrev pub cut_up : List ℕ → List ℕ → ℕ → List ℕ
cut_up up down x = set up (at down x) (at up x)

abbrev pub cut_down : List ℕ → List ℕ → ℕ → List ℕ
cut_down up down x = set down (at up x) (at down x)

-- and when it is put back
abbrev pub tie_up : List ℕ → List ℕ → ℕ → List ℕ
tie_up up down x = set up (at down x) x

abbrev pub tie_down : List ℕ → List ℕ → ℕ → List ℕ
tie_down up down x = set down (at up x) x

-- a mask without x
abbrev pub without : (ℕ → Bool) → ℕ → ℕ → Bool
without on x y = cond (eqb y x) false (on y)

-- What the links say of a node x that is in its column: its neighbours are in the column too, each is the other's neighbour, and numbers rise
-- downwards, but for the step from the last node back to the header, whose number is the column's.
pub record Tied (N : ℕ) (col : ℕ → ℕ) (on : ℕ → Bool) (up down : List ℕ) (x : ℕ) : Type 0 where
  pub inside : x < N
  pub below_on : on (at down x) ≡ true
  pub above_on : on (at up x) ≡ true
  pub below-col : col (at down x) ≡ col x
  pub below_up : at up (at down x) ≡ x
  pub above_down : at down (at up x) ≡ x
  pub rises : (x < at down x) ⊎ (at down x ≡ col x)

-- The lists hold the columns of the nodes that the mask has, headers among them.
pub record Ring (N : ℕ) (col : ℕ → ℕ) (on : ℕ → Bool) (up down : List ℕ) : Type 0 where
  pub ups : N ≤ length up
  pub downs : N ≤ length down
  pub tied : (x : ℕ) → on x ≡ true → Tied N col on up down x
