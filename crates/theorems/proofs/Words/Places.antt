-- Places in a list of numbers: a number is found at its place, and where none stands twice, a place has one number. In a rising list places
-- rise with the numbers, and those below a bound come first. Assumes nothing.
use Prim.Native.Nat.{ℕ, zero, suc, ◌≤◌, ◌<◌}
use native.Mathlib.Nat.{lt_of_not-le}
use native.Mathlib.Omega.{arith}
use mathlib.Core.Path.{◌≡◌, refl, sym, ap, ◌∙◌}
use mathlib.Core.Logic.{◌⊎◌, inl, inr, ◌≢◌}
use mathlib.Core.Bool.{Bool, true, false, not, cond}
use mathlib.Core.List.Memᴰ
use mathlib.Core.List.Memᴰ.{head as here}
use mathlib.Core.List.Memᴰ.{not-nil}
use mathlib.Core.List.Memᴰ.{tail as next}
use mathlib.Core.List.{List, [], ◌∷◌, Memᴰ as In}
use lib.Dec.{T, ltb, eqb, eqb→eq}
use lib.ListN.{length, get_or}
use borrow.Author.Tests.{eq-eqb, ne_eqb, lt-ltb, le-ltb}
use Rattle.rules.specs.Lists.{count, place}
use Rattle.rules.specs.Promises.{distinct}
use Rattle.theorems.proofs.Words.Tests.{T-dec, neqb→ne, le→nltb}
use Rattle.theorems.proofs.Words.Lists.{get_or-In, any_none}
use Rattle.theorems.proofs.Words.Counts.{count_none}
use Rattle.theorems.proofs.Words.Order.{Ordered}
use Rattle.theorems.proofs.Words.Distinct.{distinct→}

-- the place of the first, and of the others
pub place-first : (b : ℕ) (l : List ℕ) {a : ℕ} → a ≡ b → place (b ∷ l) a ≡ 0
place-first b l {a} e = rw (eq-eqb b a (sym e))

pub place-later : (b : ℕ) (l : List ℕ) {a : ℕ} → a ≢ b → place (b ∷ l) a ≡ suc (place l a)
place-later b l {a} ne = rw (ne_eqb b a (λ e. ne (sym e)))

-- a member is the first, or another one further on
data Where (b : ℕ) (l : List ℕ) (a : ℕ) : Type 0 where
  first : a ≡ b → Where b l a
  later : a ≢ b → In a l → Where b l a

member-at : (b : ℕ) (l : List ℕ) {a : ℕ} → In a (b ∷ l) → Where b l a
member-at b l {a} m = go m (T-dec (eqb a b))
  where
    go : In a (b ∷ l) → T (eqb a b) ⊎ T (not (eqb a b)) → Where b l a
    go m (inl t) = first (eqb→eq a b t)
    go (here e) (inr t) = first e
    go (next k) (inr t) = later (neqb→ne a b t) k

-- A member is found at its place.
pub place_found : (l : List ℕ) {a : ℕ} → In a l → (place l a < length l) × (get_or l (place l a) 0 ≡ a)
place_found [] m = absurd (not-nil m)
place_found (b ∷ l) {a} m = go (member-at b l m) (λ k. place_found l k)
  where
    go : Where b l a → (In a l → (place l a < length l) × (get_or l (place l a) 0 ≡ a)) → (place (b ∷ l) a < suc (length l)) × (get_or (b ∷ l) (place (b ∷ l) a) 0 ≡ a)
    go (first e) r = rw (place-first b l e) (omega arith, sym e)
    go (later ne k) r = let w = r k in let h = w.0 in rw (place-later b l ne) (omega arith, w.1)

pub place-inj : (l : List ℕ) {a b : ℕ} → In a l → In b l → place l a ≡ place l b → a ≡ b
place-inj l m k e = sym (place_found l m).1 ∙ ap (λ (i : ℕ). get_or l i 0) e ∙ (place_found l k).1

-- where no number stands twice, each stands at its place
pub place-get_or : (l : List ℕ) → T (distinct l) → (k : ℕ) → k < length l → place l (get_or l k 0) ≡ k
place-get_or [] t k h = absurd (omega arith)
place-get_or (b ∷ l) t zero h = place-first b l refl
place-get_or (b ∷ l) t (suc k) h =
    let w = distinct→ b l t in
    let m = get_or-In l k 0 (omega arith) in
    place-later b l (λ e. w.0 (Memᴰ.cast (sym e) m)) ∙ ap suc (place-get_or l w.1 k (omega arith))

pub get_or-inj : (l : List ℕ) → T (distinct l) → {i j : ℕ} → i < length l → j < length l → get_or l i 0 ≡ get_or l j 0 → i ≡ j
get_or-inj l t {i} {j} p q e = sym (place-get_or l t i p) ∙ ap (place l) e ∙ place-get_or l t j q

-- In a rising list places rise with the numbers, ..
pub place_mono : (l : List ℕ) → Ordered ◌<◌ l → {a b : ℕ} → In a l → In b l → a ≤ b → place l a ≤ place l b
place_mono [] o m k h = absurd (not-nil m)
place_mono (d ∷ l) o {a} {b} m k h = go (member-at d l m) (member-at d l k) (λ i j. place_mono l o.1 i j h)
  where
    go : Where d l a → Where d l b → (In a l → In b l → place l a ≤ place l b) → place (d ∷ l) a ≤ place (d ∷ l) b
    go (first e) w r = rw (place-first d l e) (omega arith)
    go (later ne i) (first e) r = let lt = o.0 a i in absurd (omega arith)
    go (later ne i) (later ne' j) r = let le = r i j in rw (place-later d l ne, place-later d l ne') (omega arith)

pub place-rises : (l : List ℕ) → Ordered ◌<◌ l → {a b : ℕ} → In a l → In b l → a < b → place l a < place l b
place-rises l o {a} {b} i j lt =
    let le = place_mono l o i j (omega arith) in
    let ne : place l a ≢ place l b = λ e. let q = place-inj l i j e in absurd (omega arith) in
    omega arith

-- .. and the numbers below m come first.
pub place-below : (l : List ℕ) → Ordered ◌<◌ l → (m : ℕ) {a : ℕ} → In a l → a < m → place l a < count (λ c. ltb c m) l
place-below [] o m k h = absurd (not-nil k)
place-below (b ∷ l) o m {a} k h = go (member-at b l k) (λ i. place-below l o.1 m i h)
  where
    go : Where b l a → (In a l → place l a < count (λ c. ltb c m) l) → place (b ∷ l) a < count (λ c. ltb c m) (b ∷ l)
    go (first e) r = rw (place-first b l e, lt-ltb b m (omega arith)) (omega arith)
    go (later ne i) r = let lt = o.0 a i in let le = r i in rw (place-later b l ne, lt-ltb b m (omega arith)) (omega arith)

pub place-above : (l : List ℕ) → Ordered ◌<◌ l → (m : ℕ) {a : ℕ} → In a l → m ≤ a → count (λ c. ltb c m) l ≤ place l a
place-above [] o m k h = absurd (not-nil k)
place-above (b ∷ l) o m {a} k h = go (member-at b l k) (λ i. place-above l o.1 m i h)
  where
    none_below : m ≤ b → count (λ c. ltb c m) l ≡ 0
    none_below g = count_none (λ c. ltb c m) l (any_none (λ c. ltb c m) l (λ c i. let lt = o.0 c i in le→nltb c m (omega arith)))

    wider : (t : Bool) → count (λ c. ltb c m) l ≤ place l a → cond t (suc (count (λ c. ltb c m) l)) (count (λ c. ltb c m) l) ≤ suc (place l a)
    wider true g = omega arith
    wider false g = omega arith

    go : Where b l a → (In a l → count (λ c. ltb c m) l ≤ place l a) → count (λ c. ltb c m) (b ∷ l) ≤ place (b ∷ l) a
    go (first e) r = let z = none_below (omega arith) in rw (place-first b l e, le-ltb b m (omega arith)) (omega arith)
    go (later ne i) r = rw (place-later b l ne) (wider (ltb b m) (r i))

pub below-place : (l : List ℕ) → Ordered ◌<◌ l → (m : ℕ) {a : ℕ} → In a l → place l a < count (λ c. ltb c m) l → a < m
below-place l o m k h = lt_of_not-le (λ le. let g = place-above l o m k le in absurd (omega arith))
