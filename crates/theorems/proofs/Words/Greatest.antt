-- The greater of two numbers, and the greatest of a list: it is one of the list, and none is above it. Assumes nothing.
use Prim.Native.Nat.{ℕ, ◌≤◌}
use native.Mathlib.Omega.{arith}
use mathlib.Core.Path.{◌≡◌, refl}
use mathlib.Core.Bool.{Bool, true, false, cond}
use mathlib.Core.List.Memᴰ.{head as here}
use mathlib.Core.List.Memᴰ.{not-nil}
use mathlib.Core.List.Memᴰ.{tail as next}
use mathlib.Core.List.{List, [], ◌∷◌, Memᴰ as In}
use lib.Dec.{ltb, ltb→lt, nltb→le}
use borrow.Author.Tests.{le-ltb}
use Rattle.rules.specs.Lists.{greater, greatest}

pub greatest-In : (a : ℕ) (l : List ℕ) → In (greatest (a ∷ l)) (a ∷ l)
greatest-In a [] = here {x = a} (rw (le-ltb a 0 (omega arith)))
greatest-In a (b ∷ l) = go (ltb a (greatest (b ∷ l))) (greatest-In b l)
  where
    go : (d : Bool) → In (greatest (b ∷ l)) (b ∷ l) → In (cond d (greatest (b ∷ l)) a) (a ∷ b ∷ l)
    go true m = next m
    go false m = here refl

-- neither is above the greater
greater-both : (a b : ℕ) → (a ≤ greater a b) × (b ≤ greater a b)
greater-both a b = go (ltb a b) refl
  where
    go : (d : Bool) → ltb a b ≡ d → (a ≤ cond d b a) × (b ≤ cond d b a)
    go true e = let h = ltb→lt a b (rw e tt) in (omega arith, omega arith)
    go false e = let h = nltb→le a b (rw e tt) in (omega arith, h)

pub greater-left : (a b : ℕ) → a ≤ greater a b
greater-left a b = (greater-both a b).0

pub greater-right : (a b : ℕ) → b ≤ greater a b
greater-right a b = (greater-both a b).1

pub greatest-above : (l : List ℕ) {x : ℕ} → In x l → x ≤ greatest l
greatest-above [] {x = x} x3 = elim x3 [ ]
greatest-above (a ∷ l) {x} (here e) = let h = greater-left a (greatest l) in omega arith
greatest-above (a ∷ l) {x} (next m) = let h = greater-right a (greatest l) in let k = greatest-above l m in omega arith

pub greatest-of : (l : List ℕ) {x : ℕ} → In x l → In (greatest l) l
greatest-of [] m = absurd (not-nil m)
greatest-of (a ∷ l) m = greatest-In a l
