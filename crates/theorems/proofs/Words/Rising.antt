-- Rising lists of numbers, the form in which a set of numbers is written: each number is below all that stand behind it. Assumes nothing.
use Prim.Native.Nat.{ℕ, zero, suc, ◌<◌}
use native.Mathlib.Omega.{arith}
use mathlib.Core.Path.{◌≡◌, refl, sym}
use mathlib.Core.Bool.{Bool}
use mathlib.Core.List.Memᴰ.{head as here}
use mathlib.Core.List.Memᴰ.{not-nil}
use mathlib.Core.List.Memᴰ.{tail as next}
use mathlib.Core.List.{List, [], ◌∷◌, Memᴰ as In}
use lib.Dec.{T, ltb, ltb→lt, lt→ltb}
use Rattle.rules.specs.Lists.{keep, from, up_to, rising_above, rising}
use Rattle.rules.specs.Promises.{distinct}
use Rattle.theorems.proofs.Words.Tests.{T_and, and_T}
use Rattle.theorems.proofs.Words.Lists.{In-from}
use Rattle.theorems.proofs.Words.Order.{Ordered, ordered-keep}
use Rattle.theorems.proofs.Words.Distinct.{distinct←}

-- the test is of neighbours only
above→ : (a : ℕ) (l : List ℕ) → T (rising_above a l) → Ordered ◌<◌ (a ∷ l)
above→ a [] t = (λ y m. absurd (not-nil m), tt)
above→ a (b ∷ l) t =
    let w = T_and (ltb a b) (rising_above b l) t in
    let lt = ltb→lt a b w.0 in
    let r = above→ b l w.1 in
    (λ y m. go lt r.0 y m, r)
  where
    go : a < b → ((y : ℕ) → In y l → b < y) → (y : ℕ) → In y (b ∷ l) → a < y
    go lt r y (here e) = omega arith
    go lt r y (next m) = let h = r y m in omega arith

above← : (a : ℕ) (l : List ℕ) → Ordered ◌<◌ (a ∷ l) → T (rising_above a l)
above← a [] S = tt
above← a (b ∷ l) S = and_T (ltb a b) (rising_above b l) (lt→ltb a b (S.0 b (here refl))) (above← b l S.1)

pub rising→ : (l : List ℕ) → T (rising l) → Ordered ◌<◌ l
rising→ [] t = tt
rising→ (a ∷ l) t = above→ a l t

pub rising← : (l : List ℕ) → Ordered ◌<◌ l → T (rising l)
rising← [] S = tt
rising← (a ∷ l) S = above← a l S

-- numbers in a row, and some of them
pub from-rises : (i n : ℕ) → Ordered ◌<◌ (from i n)
from-rises i zero = tt
from-rises i (suc n) = (λ y m. let w = In-from (suc i) n m in omega arith, from-rises (suc i) n)

pub some-rise : (f : ℕ → Bool) (n : ℕ) → Ordered ◌<◌ (keep f (up_to n))
some-rise f n = ordered-keep ◌<◌ f (up_to n) (from-rises 0 n)

-- no number stands twice
pub rising-distinct : (l : List ℕ) → Ordered ◌<◌ l → T (distinct l)
rising-distinct [] S = tt
rising-distinct (a ∷ l) S = distinct← a l (λ m. let lt = S.0 a m in omega arith) (rising-distinct l S.1)

pub up_to-distinct : (n : ℕ) → T (distinct (up_to n))
up_to-distinct n = rising-distinct (up_to n) (from-rises 0 n)

-- Rising lists with the same numbers are the same.
pub rising-same : (l m : List ℕ) → Ordered ◌<◌ l → Ordered ◌<◌ m → ((x : ℕ) → In x l → In x m) → ((x : ℕ) → In x m → In x l) → l ≡ m
rising-same [] [] S R f g = refl
rising-same [] (b ∷ m) S R f g = absurd (not-nil (g b (here refl)))
rising-same (a ∷ l) [] S R f g = absurd (not-nil (f a (here refl)))
rising-same (a ∷ l) (b ∷ m) S R f g = rw (first, rising-same l m S.1 R.1 (λ x i. later x i (f x (next i))) (λ x i. later' x i (g x (next i))))
  where
    first : a ≡ b
    first = go (f a (here refl)) (g b (here refl))
      where
        go : In a (b ∷ m) → In b (a ∷ l) → a ≡ b
        go (here e) j = e
        go (next i) (here e) = sym e
        go (next i) (next j) = let p = R.0 a i in let q = S.0 b j in absurd (omega arith)

    later : (x : ℕ) → In x l → In x (b ∷ m) → In x m
    later x i (here e) = let h = S.0 x i in let q = first in absurd (omega arith)
    later x i (next j) = j

    later' : (x : ℕ) → In x m → In x (a ∷ l) → In x l
    later' x i (here e) = let h = R.0 x i in let q = first in absurd (omega arith)
    later' x i (next j) = j
