-- Tests and choices over lists, as functions that compute: the small words in which the other definitions are written.
-- Assumes nothing.
use Rattle.std.specs.Prelude.{ℕ, zero, suc, Bool, true, false, ◌&&◌, ◌||◌, cond, List, [], ◌∷◌, ◌++◌, ltb, eqb, length, drop}
use Rattle.std.proofs.Math.Option.{Option, none, some}

module _ {A : Type 0} where
  -- some element passes the test
  abbrev pub any : (A → Bool) → List A → Bool
  any f [] = false
  any f (x ∷ xs) = f x || any f xs

  -- every element passes
  abbrev pub all : (A → Bool) → List A → Bool
  all f [] = true
  all f (x ∷ xs) = f x && all f xs

  -- those that pass, in their order
  abbrev pub keep : (A → Bool) → List A → List A
  keep f [] = []
  keep f (x ∷ xs) = let r = keep f xs in cond (f x) (x ∷ r) r

  -- how many pass
  abbrev pub count : (A → Bool) → List A → ℕ
  count f [] = 0
  count f (x ∷ xs) = let r = count f xs in cond (f x) (suc r) r

  -- the first of two that is there
  abbrev pub or_else : Option A → Option A → Option A
  or_else none r = r
  or_else (some x) r = some x

  -- the first that passes, and the last
  abbrev pub first_that : (A → Bool) → List A → Option A
  first_that f [] = none
  first_that f (x ∷ xs) = let r = first_that f xs in cond (f x) (some x) r

  abbrev pub last_that : (A → Bool) → List A → Option A
  last_that f [] = none
  last_that f (x ∷ xs) = let r = cond (f x) (some x) none in or_else (last_that f xs) r

  -- the first of several that is there
  abbrev pub first_of : List (Option A) → Option A
  first_of [] = none
  first_of (x ∷ xs) = let r = first_of xs in or_else x r

-- the lists that f makes of the elements, one behind another
abbrev pub each : {A B : Type 0} → (A → List B) → List A → List B
each f [] = []
each f (x ∷ xs) = f x ++ each f xs

-- i, i + 1, ..: n numbers
abbrev pub from : ℕ → ℕ → List ℕ
from i zero = []
from i (suc n) = i ∷ from (suc i) n

-- 0 .. n - 1
abbrev pub up_to : ℕ → List ℕ
up_to n = from 0 n

-- the number is in the list
abbrev pub mem : ℕ → List ℕ → Bool
mem a l = any (eqb a) l

-- the greater of two, and the greatest of a list, 0 if it is empty
abbrev pub greater : ℕ → ℕ → ℕ
greater a b = cond (ltb a b) b a

abbrev pub greatest : List ℕ → ℕ
greatest [] = 0
greatest (a ∷ l) = greater a (greatest l)

-- each number is above the one before it, a at first
abbrev pub rising_above : ℕ → List ℕ → Bool
rising_above a [] = true
rising_above a (b ∷ l) = ltb a b && rising_above b l

-- strictly rising: the form in which a set of numbers is written
abbrev pub rising : List ℕ → Bool
rising [] = true
rising (a ∷ l) = rising_above a l

-- the place of a number in a list, counted from 0; the list's length if it is not there
abbrev pub place : List ℕ → ℕ → ℕ
place [] a = 0
place (b ∷ l) a = let r = place l a in cond (eqb b a) 0 (suc r)

-- the front of a list written over, what is behind it as it was
abbrev pub written : {A : Type 0} → List A → List A → List A
written new old = new ++ drop (length new) old
