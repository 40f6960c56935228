-- How many elements of a list pass a test. Assumes nothing.
use Prim.Native.Nat.{ℕ, suc, ◌+◌, ◌≤◌, ◌<◌}
use native.Mathlib.Omega.{arith}
use mathlib.Core.Path.{◌≡◌, refl, ap, ◌∙◌}
use mathlib.Core.Bool.{Bool, true, false, not, ◌||◌, cond}
use mathlib.Core.List.Memᴰ.{head as here}
use mathlib.Core.List.Memᴰ.{tail as next}
use mathlib.Core.List.{List, [], ◌∷◌, ◌++◌, map, reverse, reverse-cons, append-nil, Memᴰ as In}
use lib.Dec.{T}
use lib.ListN.{length}
use Rattle.rules.specs.Lists.{any, keep, count, each}
use Rattle.theorems.proofs.Words.Tests.{T_true, T_false}
use Rattle.theorems.proofs.Words.Lists.{each_append}

-- a test that passes on the left passes on the right: two counts, d apart, stay in their order
one_more : (a b : Bool) (d m n : ℕ) → (T a → T b) → d + m ≤ n → d + cond a (suc m) m ≤ cond b (suc n) n
one_more true true d m n i h = omega arith
one_more true false d m n i h = absurd (i tt)
one_more false true d m n i h = omega arith
one_more false false d m n i h = h

module _ {A : Type 0} where
  pub count-cong : (f g : A → Bool) (l : List A) → ((x : A) → In x l → f x ≡ g x) → count f l ≡ count g l
  count-cong f g [] h = refl
  count-cong f g (x ∷ l) h = rw (h x (here refl), count-cong f g l (λ y m. h y (next m)))

  pub count-le : (f g : A → Bool) (l : List A) → ((x : A) → In x l → T (f x) → T (g x)) → count f l ≤ count g l
  count-le f g [] h = omega arith
  count-le f g (y ∷ l) h =
      let r = count-le f g l (λ x m. h x (next m)) in
      let s = one_more (f y) (g y) 0 (count f l) (count g l) (h y (here refl)) (omega arith) in
      omega arith

  pub count-lt : (f g : A → Bool) (l : List A) → ((x : A) → In x l → T (f x) → T (g x)) → {y : A} → In y l → T (g y) → T (not (f y)) → count f l < count g l
  count-lt f g [] h {y = y} x4 t u = elim x4 [ ]
  count-lt f g (z ∷ l) h {y} (here e) t u =
      let le = count-le f g l (λ x m. h x (next m)) in
      rw (T_true (g z) (rw e at t), T_false (f z) (rw e at u)) (omega arith)
  count-lt f g (z ∷ l) h {y} (next m) t u =
      let r = count-lt f g l (λ x n. h x (next n)) m t u in
      let s = one_more (f z) (g z) 1 (count f l) (count g l) (h z (here refl)) (omega arith) in
      omega arith

  pub count-pos : (f : A → Bool) (l : List A) {x : A} → In x l → T (f x) → 0 < count f l
  count-pos f l m t = let h = count-lt (λ y. false) f l (λ y n u. absurd u) m t tt in omega arith

  pub count_none : (f : A → Bool) (l : List A) → T (not (any f l)) → count f l ≡ 0
  count_none f [] t = refl
  count_none f (y ∷ l) t = go (f y) t (λ u. count_none f l u)
    where
      go : (b : Bool) → T (not (b || any f l)) → (T (not (any f l)) → count f l ≡ 0) → cond b (suc (count f l)) (count f l) ≡ 0
      go true u r = absurd u
      go false u r = r u

  pub count-append : (f : A → Bool) (l m : List A) → count f (l ++ m) ≡ count f l + count f m
  count-append f [] m = omega arith
  count-append f (y ∷ l) m = go (f y) (count-append f l m)
    where
      go : (b : Bool) → count f (l ++ m) ≡ count f l + count f m → cond b (suc (count f (l ++ m))) (count f (l ++ m)) ≡ cond b (suc (count f l)) (count f l) + count f m
      go true h = omega arith
      go false h = h

  -- those that pass and those that do not are all
  pub count-split : (f : A → Bool) (l : List A) → count f l + count (λ x. not (f x)) l ≡ length l
  count-split f [] = refl
  count-split f (y ∷ l) = go (f y) (count-split f l)
    where
      go : (b : Bool) → count f l + count (λ x. not (f x)) l ≡ length l
          → cond b (suc (count f l)) (count f l) + cond (not b) (suc (count (λ x. not (f x)) l)) (count (λ x. not (f x)) l) ≡ suc (length l)
      go true h = omega arith
      go false h = omega arith

  pub count-length : (f : A → Bool) (l : List A) → count f l ≤ length l
  count-length f l = let h = count-split f l in omega arith

  pub count-keep : (f : A → Bool) (l : List A) → length (keep f l) ≡ count f l
  count-keep f [] = refl
  count-keep f (y ∷ l) = go (f y) (count-keep f l)
    where
      go : (b : Bool) → length (keep f l) ≡ count f l → length (cond b (y ∷ keep f l) (keep f l)) ≡ cond b (suc (count f l)) (count f l)
      go true h = ap suc h
      go false h = h

  pub length-keep : (f : A → Bool) (l : List A) → length (keep f l) ≤ length l
  length-keep f l = let a = count-keep f l in let b = count-length f l in omega arith

module _ {A B : Type 0} where
  pub count_map : (f : A → B) (g : B → Bool) (l : List A) → count g (map f l) ≡ count (λ x. g (f x)) l
  count_map f g [] = refl
  count_map f g (x ∷ l) = go (g (f x)) (count_map f g l)
    where
      go : (b : Bool) → count g (map f l) ≡ count (λ x. g (f x)) l → cond b (suc (count g (map f l))) (count g (map f l)) ≡ cond b (suc (count (λ x. g (f x)) l)) (count (λ x. g (f x)) l)
      go true h = ap suc h
      go false h = h

  -- counted backwards
  pub count-reverse : (f : B → Bool) (g : A → List B) (l : List A) → count f (each g (reverse l)) ≡ count f (each g l)
  count-reverse f g [] = refl
  count-reverse f g (x ∷ l) =
      let r = count-reverse f g l in
      let a = count-append f (each g (reverse l)) (g x) in
      let b = count-append f (g x) (each g l) in
      ap (λ (m : List A). count f (each g m)) (reverse-cons x l)
      ∙ ap (count f) (each_append g (reverse l) (x ∷ []) ∙ ap (λ (m : List B). each g (reverse l) ++ m) (append-nil (g x)))
      ∙ omega arith
