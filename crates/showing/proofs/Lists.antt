-- More laws of lists: an element of a map by its place, lists made one behind another, keeping in parts, and the same backwards.
-- Assumes nothing.
use Prim.Native.Nat.{ℕ, zero, suc, ◌+◌, ◌<◌}
use native.Mathlib.Omega.{arith}
use mathlib.Core.Path.{◌≡◌, refl, sym, ap, ◌∙◌}
use mathlib.Core.Logic.{◌⊎◌, inl, inr}
use mathlib.Core.Bool.{Bool, true, false, ◌&&◌, cond}
use mathlib.Core.List.Memᴰ.{append_cases as In-append}
use mathlib.Core.List.Memᴰ.{head as here}
use mathlib.Core.List.Memᴰ.{not-nil}
use mathlib.Core.List.Memᴰ.{tail as next}
use mathlib.Core.List.{List, [], ◌∷◌, ◌++◌, map, map-append, append-nil, reverse, reverse-cons, Memᴰ as In}
use lib.Dec.{T}
use lib.ListN.{length, get_or, length-append}
use Rattle.rules.specs.Lists.{keep, count, each}
use Rattle.rules.specs.Promises.{distinct}
use Rattle.theorems.proofs.Words.Lists.{In-map, In-reverse, each_append, keep_append}
use Rattle.theorems.proofs.Words.Distinct.{distinct→, distinct←, distinct_append}
use Rattle.theorems.proofs.Words.Order.{Ordered}
use Rattle.theorems.proofs.Words.Rising.{rising-same}

pub keep-reverse : {A : Type 0} (f : A → Bool) (l : List A) → keep f (reverse l) ≡ reverse (keep f l)
keep-reverse f [] = refl
keep-reverse f (x ∷ l) =
    ap (keep f) (reverse-cons x l) ∙ keep_append f (reverse l) (x ∷ []) ∙ ap (λ (z : List _). z ++ keep f (x ∷ [])) (keep-reverse f l) ∙ go (f x)
  where
    go : (b : Bool) → reverse (keep f l) ++ cond b (x ∷ []) [] ≡ reverse (cond b (x ∷ keep f l) (keep f l))
    go true = sym (reverse-cons x (keep f l))
    go false = append-nil (reverse (keep f l))

-- keeping twice
pub keep-both : {A : Type 0} (f g : A → Bool) (l : List A) → keep f (keep g l) ≡ keep (λ x. g x && f x) l
keep-both f g [] = refl
keep-both f g (x ∷ l) = go (g x) (keep-both f g l)
  where
    go : (b : Bool) → keep f (keep g l) ≡ keep (λ x. g x && f x) l → keep f (cond b (x ∷ keep g l) (keep g l)) ≡ cond (b && f x) (x ∷ keep (λ x. g x && f x) l) (keep (λ x. g x && f x) l)
    go true e = ap (λ (z : List _). cond (f x) (x ∷ z) z) e
    go false e = e

module _ {A B : Type 0} where
  pub keep-map : (f : B → Bool) (g : A → B) (l : List A) → keep f (map g l) ≡ map g (keep (λ x. f (g x)) l)
  keep-map f g [] = refl
  keep-map f g (x ∷ l) = go (f (g x)) (keep-map f g l)
    where
      go : (b : Bool) → keep f (map g l) ≡ map g (keep (λ x. f (g x)) l)
          → cond b (g x ∷ keep f (map g l)) (keep f (map g l)) ≡ map g (cond b (x ∷ keep (λ x. f (g x)) l) (keep (λ x. f (g x)) l))
      go true e = ap (λ (z : List B). g x ∷ z) e
      go false e = e

  -- an element of a map, by its place
  pub get_or-map-in : (f : A → B) (l : List A) (k : ℕ) (a : A) (b : B) → k < length l → get_or (map f l) k b ≡ f (get_or l k a)
  get_or-map-in f [] k a b h = absurd (omega arith)
  get_or-map-in f (x ∷ l) zero a b h = refl
  get_or-map-in f (x ∷ l) (suc k) a b h = get_or-map-in f l k a b (omega arith)

  pub map-reverse : (f : A → B) (l : List A) → map f (reverse l) ≡ reverse (map f l)
  map-reverse f [] = refl
  map-reverse f (x ∷ l) =
      ap (map f) (reverse-cons x l) ∙ map-append f (reverse l) (x ∷ []) ∙ ap (λ (z : List B). z ++ (f x ∷ [])) (map-reverse f l) ∙ sym (reverse-cons (f x) (map f l))

  -- some elements left out, before or while lists are made of them
  pub each_keep : (t : A → Bool) (f : A → List B) (l : List A) → each f (keep t l) ≡ each (λ x. cond (t x) (f x) []) l
  each_keep t f [] = refl
  each_keep t f (x ∷ l) = go (t x) (each_keep t f l)
    where
      go : (b : Bool) → each f (keep t l) ≡ each (λ x. cond (t x) (f x) []) l → each f (cond b (x ∷ keep t l) (keep t l)) ≡ cond b (f x) [] ++ each (λ x. cond (t x) (f x) []) l
      go true e = ap (λ (z : List B). f x ++ z) e
      go false e = e

  pub each_none : (f : A → List B) (l : List A) → ((x : A) → In x l → f x ≡ []) → each f l ≡ []
  each_none f [] h = refl
  each_none f (x ∷ l) h = rw (h x (here refl)) (each_none f l (λ y m. h y (next m)))

module _ {A B C : Type 0} where
  pub each-each : (g : A → List B) (f : B → List C) (l : List A) → each f (each g l) ≡ each (λ x. each f (g x)) l
  each-each g f [] = refl
  each-each g f (x ∷ l) = each_append f (g x) (each g l) ∙ ap (λ (z : List C). each f (g x) ++ z) (each-each g f l)

-- lists of at most one element, counted
pub length-each : {A B : Type 0} (f : A → List B) (t : A → Bool) (l : List A) → ((x : A) → In x l → length (f x) ≡ cond (t x) 1 0) → length (each f l) ≡ count t l
length-each f t [] h = refl
length-each f t (x ∷ l) h = length-append (f x) (each f l) ∙ go (t x) (h x (here refl)) (length-each f t l (λ y m. h y (next m)))
  where
    go : (b : Bool) → length (f x) ≡ cond b 1 0 → length (each f l) ≡ count t l → length (f x) + length (each f l) ≡ cond b (suc (count t l)) (count t l)
    go true e r = omega arith
    go false e r = omega arith

-- none stands twice where a map tells the elements apart
pub distinct-map : (f : ℕ → ℕ) (l : List ℕ) → T (distinct l) → ((x y : ℕ) → In x l → In y l → f x ≡ f y → x ≡ y) → T (distinct (map f l))
distinct-map f [] d h = tt
distinct-map f (x ∷ l) d h =
    let w = distinct→ x l d in
    distinct← (f x) (map f l) (λ m. let v = In-map f l m in w.0 (rw (h x v.0 (here refl) (next v.1) v.2) v.1)) (distinct-map f l w.1 (λ y z m n. h y z (next m) (next n)))

pub distinct-reverse : (l : List ℕ) → T (distinct l) → T (distinct (reverse l))
distinct-reverse [] d = tt
distinct-reverse (x ∷ l) d =
    let w = distinct→ x l d in
    rw (reverse-cons x l) (distinct_append (reverse l) (x ∷ []) (distinct-reverse l w.1) tt (λ y m n. w.0 (only y n (In-reverse l m))))
  where
    only : (y : ℕ) → In y (x ∷ []) → In y l → In x l
    only y (here e) m = rw e at m
    only y (next n) m = absurd (not-nil n)

-- one behind another, rising lists of rising numbers rise
pub sorted-append : (l m : List ℕ) → Ordered ◌<◌ l → Ordered ◌<◌ m → ((x y : ℕ) → In x l → In y m → x < y) → Ordered ◌<◌ (l ++ m)
sorted-append [] m s t h = t
sorted-append (x ∷ l) m s t h = (first, sorted-append l m s.1 t (λ y z i j. h y z (next i) j))
  where
    first : (y : ℕ) → In y (l ++ m) → x < y
    first y i = of (In-append l i)
      where
        of : In y l ⊎ In y m → x < y
        of (inl j) = s.0 y j
        of (inr j) = h x y (here refl) j

-- the only one
pub sorted-one : (l : List ℕ) → Ordered ◌<◌ l → {x : ℕ} → In x l → ((y : ℕ) → In y l → y ≡ x) → l ≡ x ∷ []
sorted-one l s {x} m h = rising-same l (x ∷ []) s (λ y n. absurd (not-nil n), tt) (λ y n. here (h y n)) (λ y n. one y n)
  where
    one : (y : ℕ) → In y (x ∷ []) → In y l
    one y (here e) = rw e m
    one y (next n) = absurd (not-nil n)
