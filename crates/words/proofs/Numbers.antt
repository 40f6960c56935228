-- Bytes to numbers and back: each is the other's undoing, for numbers below 2 ^ 32 and byte lists that are not ragged. Assumes nothing.
use Prim.Native.Nat.{ℕ, zero, suc, ◌+◌, ◌*◌, ◌/◌, ◌%◌, ◌<◌}
use native.Mathlib.Nat.{div-div-eq-div-mul, mod-add-div, mod-eq_of_lt}
use native.Mathlib.Omega.{arith}
use mathlib.Core.Path.{◌≡◌, refl, ap, ◌∙◌}
use mathlib.Core.Bool.{false}
use mathlib.Core.List.Memᴰ.{head as here}
use mathlib.Core.List.Memᴰ.{tail as next}
use mathlib.Core.List.{List, [], ◌∷◌, ◌++◌, Memᴰ as In}
use lib.ListN.{length, get_or, drop}
use Rattle.rules.specs.Bounds.{word_bound}
use Rattle.rules.specs.Lists.{written}
use Rattle.words.specs.Bytes.{number_of, numbers_of, bytes_of, ragged}
use Rattle.words.proofs.Counting.{even, length-bytes}

-- every element is below m
abbrev pub Below : ℕ → List ℕ → Type 0
Below m l = (k : ℕ) → get_or l k 0 < m

-- A number, by its four bytes, is below 2 ^ 32.
pub number_small : (a b c d : ℕ) → a < 256 → b < 256 → c < 256 → d < 256 → number_of a b c d < word_bound
number_small a b c d p q r s = omega arith

pub numbers-small : (l : List ℕ) → Below 256 l → Below word_bound (numbers_of l)
numbers-small [] h k = omega arith
numbers-small (a ∷ []) h k = omega arith
numbers-small (a ∷ b ∷ []) h k = omega arith
numbers-small (a ∷ b ∷ c ∷ []) h k = omega arith
numbers-small (a ∷ b ∷ c ∷ d ∷ l) h zero = number_small a b c d (h 0) (h 1) (h 2) (h 3)
numbers-small (a ∷ b ∷ c ∷ d ∷ l) h (suc k) = numbers-small l (λ j. h (suc (suc (suc (suc j))))) k

-- Numbers to bytes and back.
digits : (n a q b r c s d : ℕ) → a + 256 * q ≡ n → b + 256 * r ≡ q → c + 256 * s ≡ r → d ≡ s → number_of a b c d ≡ n
digits n a q b r c s d e f g h = omega arith

pub number-back : (n : ℕ) → n < word_bound → number_of (n % 256) (n / 256 % 256) (n / 65536 % 256) (n / 16777216 % 256) ≡ n
number-back n h =
    let e = div-div-eq-div-mul n 256 256 in
    let f = div-div-eq-div-mul n 65536 256 in
    digits n (n % 256) (n / 256) (n / 256 % 256) (n / 65536) (n / 65536 % 256) (n / 16777216) (n / 16777216 % 256)
    (mod-add-div n 256) (split (n / 256) (n / 65536) e) (split (n / 65536) (n / 16777216) f) (mod-eq_of_lt (top n h))
  where
    split : (q r : ℕ) → q / 256 ≡ r → q % 256 + 256 * r ≡ q
    split q r e = omega arith

    top : (n : ℕ) → n < word_bound → n / 16777216 < 256
    top n h = omega arith

pub numbers-front : (ns rest : List ℕ) → Below word_bound ns → numbers_of (bytes_of ns ++ rest) ≡ ns ++ numbers_of rest
numbers-front [] rest h = refl
numbers-front (n ∷ ns) rest h = rw (number-back n (h 0), numbers-front ns rest (λ k. h (suc k)))

pub numbers-bytes : (ns : List ℕ) → Below word_bound ns → numbers_of (bytes_of ns) ≡ ns
numbers-bytes [] h = refl
numbers-bytes (n ∷ ns) h = rw (number-back n (h 0), numbers-bytes ns (λ k. h (suc k)))

-- Bytes to numbers and back.
byte-back : (a b c d : ℕ) → a < 256 → b < 256 → c < 256 → d < 256
    → (number_of a b c d % 256 ≡ a) × (number_of a b c d / 256 % 256 ≡ b) × (number_of a b c d / 65536 % 256 ≡ c) × (number_of a b c d / 16777216 % 256 ≡ d)
byte-back a b c d p q r s = (omega arith, omega arith, omega arith, omega arith)

pub bytes-numbers : (l : List ℕ) → ragged l ≡ false → Below 256 l → bytes_of (numbers_of l) ≡ l
bytes-numbers l r h = go l (even (length l) r) h
  where
    go : (l : List ℕ) → length l % 4 ≡ 0 → Below 256 l → bytes_of (numbers_of l) ≡ l
    go [] e h = refl
    go (a ∷ []) e h = absurd (omega arith)
    go (a ∷ b ∷ []) e h = absurd (omega arith)
    go (a ∷ b ∷ c ∷ []) e h = absurd (omega arith)
    go (a ∷ b ∷ c ∷ d ∷ l) e h =
        let w = byte-back a b c d (h 0) (h 1) (h 2) (h 3) in
        rw (w.0, w.1, w.2, w.3, go l (omega arith) (λ k. h (suc (suc (suc (suc k))))))

-- Bytes of one list behind another's.
pub bytes-append : (m n : List ℕ) → bytes_of (m ++ n) ≡ bytes_of m ++ bytes_of n
bytes-append [] n = refl
bytes-append (a ∷ m) n = rw (bytes-append m n)

-- The numbers behind the first k.
pub numbers-drop : (k : ℕ) (l : List ℕ) → numbers_of (drop (4 * k) l) ≡ drop k (numbers_of l)
numbers-drop zero l = refl
numbers-drop (suc k) l = let e : 4 * suc k ≡ suc (suc (suc (suc (4 * k)))) = omega arith in rw e (go l (λ r. numbers-drop k r))
  where
    go : (l : List ℕ) → ((r : List ℕ) → numbers_of (drop (4 * k) r) ≡ drop k (numbers_of r)) → numbers_of (drop (suc (suc (suc (suc (4 * k))))) l) ≡ drop (suc k) (numbers_of l)
    go [] f = refl
    go (a ∷ []) f = refl
    go (a ∷ b ∷ []) f = refl
    go (a ∷ b ∷ c ∷ []) f = refl
    go (a ∷ b ∷ c ∷ d ∷ l) f = f l

-- Numbers written to the front of a byte list are written to the front of its numbers.
pub numbers-written : (new old : List ℕ) → Below word_bound new → numbers_of (written (bytes_of new) old) ≡ written new (numbers_of old)
numbers-written new old h =
    numbers-front new (drop (length (bytes_of new)) old) h
    ∙ ap (λ (k : ℕ). new ++ numbers_of (drop k old)) (length-bytes new)
    ∙ ap (λ (l : List ℕ). new ++ l) (numbers-drop (length new) old)

-- every element below m, said of the elements
pub below_each : (m : ℕ) (l : List ℕ) → 0 < m → ((x : ℕ) → In x l → x < m) → Below m l
below_each m [] z h k = z
below_each m (a ∷ l) z h zero = h a (here refl)
below_each m (a ∷ l) z h (suc k) = below_each m l z (λ x i. h x (next i)) k
