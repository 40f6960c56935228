-- How many numbers a byte list has, and how many bytes a list of numbers. Assumes nothing.
use Prim.Native.Nat.{ℕ, suc, ◌+◌, ◌*◌, ◌/◌, ◌%◌, ◌≤◌, ◌<◌}
use native.Mathlib.Omega.{arith}
use mathlib.Core.Path.{◌≡◌, refl, sym, ap, ◌∙◌}
use mathlib.Core.Bool.{false}
use mathlib.Core.List.{List, [], ◌∷◌, map}
use lib.ListN.{length, get_or}
use borrow.Author.Tests.{not-false, eqb-true}
use Rattle.std.proofs.lemmas.List.{get_or-map, length-map}
use Rattle.std.specs.Simd.{first_chunks}
use Rattle.words.specs.Bytes.{four, numbers_of, bytes_of, ragged_length, ragged}

-- the whole fours, ..
pub fours : (l : List ℕ) → length (numbers_of l) ≡ length l / 4
fours [] = refl
fours (a ∷ []) = refl
fours (a ∷ b ∷ []) = refl
fours (a ∷ b ∷ c ∷ []) = refl
fours (a ∷ b ∷ c ∷ d ∷ l) = let e = fours l in omega arith

pub fours-numbers : (l : List ℕ) → map four (first_chunks 4 (length l / 4) l) ≡ numbers_of l
fours-numbers [] = refl
fours-numbers (a ∷ []) = refl
fours-numbers (a ∷ b ∷ []) = refl
fours-numbers (a ∷ b ∷ c ∷ []) = refl
fours-numbers (a ∷ b ∷ c ∷ d ∷ l) =
    let e : suc (suc (suc (suc (length l)))) / 4 ≡ suc (length l / 4) = omega arith in
    rw (e, fours-numbers l)

-- .. and one by one, ..
module _ (fs : List (List ℕ)) (l : List ℕ) (e : map four fs ≡ numbers_of l) where
  pub fours-count : length fs ≡ length (numbers_of l)
  fours-count = sym (length-map fs four) ∙ ap (λ (z : List ℕ). length z) e

  pub four-at : (k : ℕ) (d : List ℕ) → k < length fs → four (get_or fs k d) ≡ get_or (numbers_of l) k 0
  four-at k d h = sym (get_or-map four fs k d 0 h) ∙ ap (λ (z : List ℕ). get_or z k 0) e

-- .. which leave a rest of three bytes at most, ..
pub fours-fit : (l : List ℕ) → 4 * length (numbers_of l) ≤ length l
fours-fit l = let e = fours l in omega arith

pub fours-rest : (l : List ℕ) → length l < 4 * length (numbers_of l) + 4
fours-rest l = let e = fours l in omega arith

-- .. and none if the list is not ragged.
pub even : (n : ℕ) → ragged_length n ≡ false → n % 4 ≡ 0
even n e = eqb-true (n % 4) 0 (not-false _ e)

pub fours-all : (l : List ℕ) → ragged l ≡ false → 4 * length (numbers_of l) ≡ length l
fours-all l r = let e = fours l in let z = even (length l) r in omega arith

pub length-bytes : (l : List ℕ) → length (bytes_of l) ≡ 4 * length l
length-bytes [] = refl
length-bytes (n ∷ l) = let e = length-bytes l in omega arith
