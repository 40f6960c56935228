-- A list that rises: neighbour by neighbour, and at any two places. Assumes nothing.
use Prim.Native.Nat.{ℕ, zero, suc, ◌+◌, ◌≤◌, ◌<◌}
use native.Mathlib.Nat.{eq-or-lt_of_le}
use native.Mathlib.Omega.{arith}
use mathlib.Core.Path.{◌≡◌, refl, sym}
use mathlib.Core.Logic.{⊎_elim}
use mathlib.Core.Bool.{Bool, true, false}
use mathlib.Core.List.{List, [], ◌∷◌, map}
use lib.Dec.{ltb, not_T}
use lib.ListN.{length, get_or, length-map}
use borrow.Author.Tests.{lt-ltb}
use Rattle.std.specs.List.{IsAllAdjacentAnswer}
use Rattle.std.proofs.lemmas.List.{get_or-map}
use Rattle.rules.specs.Lists.{rising_above, rising}
use Rattle.theorems.proofs.Words.Tests.{T_false, true-T}
use Rattle.theorems.proofs.Words.Lists.{get_or-In}
use Rattle.theorems.proofs.Words.Order.{Ordered}
use Rattle.theorems.proofs.Words.Rising.{rising→}

-- At any two places of a rising list the number behind is the greater.
ordered-rises : (l : List ℕ) → Ordered ◌<◌ l → (j k : ℕ) → j < k → k < length l → get_or l j 0 < get_or l k 0
ordered-rises [] o j k h w = absurd (omega arith)
ordered-rises (a ∷ l) o j zero h w = absurd (omega arith)
ordered-rises (a ∷ l) o zero (suc k) h w = o.0 (get_or l k 0) (get_or-In l k 0 (omega arith))
ordered-rises (a ∷ l) o (suc j) (suc k) h w = ordered-rises l o.1 j k (omega arith) (omega arith)

module _ (l : List ℕ) (r : rising l ≡ true) where
  pub rises : (j k : ℕ) → j < k → k < length l → get_or l j 0 < get_or l k 0
  rises j k h w = ordered-rises l (rising→ l (true-T r)) j k h w

  pub rises-to : (j k : ℕ) → j ≤ k → k < length l → get_or l j 0 ≤ get_or l k 0
  rises-to j k h w = ⊎_elim (λ e. rw e (omega arith)) (λ lt. let m = rises j k lt w in omega arith) (eq-or-lt_of_le h)

  -- so no number is below its place
  pub place-below-number : (k : ℕ) → k < length l → k ≤ get_or l k 0
  place-below-number zero w = omega arith
  place-below-number (suc k) w = let i = place-below-number k (omega arith) in let m = rises k (suc k) (omega arith) w in omega arith

-- The test of each number and the next, of a list of what stands for numbers.
module _ {A : Type 0} (v : A → ℕ) where
  climbs : (a : A) (l : List A) → ((k : ℕ) (d : A) → k + 1 < suc (length l) → true ≡ ltb (v (get_or (a ∷ l) k d)) (v (get_or (a ∷ l) (k + 1) d))) → true ≡ rising_above (v a) (map v l)
  climbs a [] C = refl
  climbs a (b ∷ l) C = rw (sym (C 0 a (omega arith))) (climbs b l (λ k d h. further k d h))
    where
      further : (k : ℕ) (d : A) → k + 1 < suc (length l) → true ≡ ltb (v (get_or (b ∷ l) k d)) (v (get_or (b ∷ l) (k + 1) d))
      further k d h = let e : suc k + 1 ≡ suc (k + 1) = omega arith in rw e at (C (suc k) d (omega arith))

  stops : (l : List A) (k : ℕ) → k + 1 < length l → ((d : A) → false ≡ ltb (v (get_or l k d)) (v (get_or l (k + 1) d))) → false ≡ rising (map v l)
  stops [] k h differs = absurd (omega arith)
  stops (a ∷ l) k h differs = sym (T_false (rising (map v (a ∷ l)))
      (not_T (rising (map v (a ∷ l))) (λ t. fails (ordered-rises (map v (a ∷ l)) (rising→ (map v (a ∷ l)) t) k (k + 1) (omega arith) (omega (arith, length-map (a ∷ l) v))))))
    where
      fails : get_or (map v (a ∷ l)) k 0 < get_or (map v (a ∷ l)) (k + 1) 0 → ⊥
      fails lt =
          let e = get_or-map v (a ∷ l) k a 0 (omega arith) in
          let f = get_or-map v (a ∷ l) (k + 1) a 0 (omega arith) in
          let up : v (get_or (a ∷ l) k a) < v (get_or (a ∷ l) (k + 1) a) = omega arith in
          let t = lt-ltb (v (get_or (a ∷ l) k a)) (v (get_or (a ∷ l) (k + 1) a)) up in
          let n = differs a in
          cc

  pub rising-answer : (l : List A) (r : Bool) → IsAllAdjacentAnswer (λ x y b. b ≡ ltb (v x) (v y)) l r → r ≡ rising (map v l)
  rising-answer [] true C = refl
  rising-answer (a ∷ l) true C = climbs a l C
  rising-answer l false C = stops l C.0 C.1 C.2
