-- The first of two that is there; and the first and the last element of a list that passes a test: alone, in two lists joined, and in lists
-- made one behind another. Assumes nothing.
use Prim.Native.Nat.{ℕ, zero, suc, ◌<◌}
use native.Mathlib.Omega.{arith}
use mathlib.Core.Path.{◌≡◌, refl, sym, ap, ◌∙◌}
use mathlib.Core.Bool.{Bool, true, false, not, cond}
use mathlib.Core.List.Memᴰ.{head as here}
use mathlib.Core.List.Memᴰ.{tail as next}
use mathlib.Core.List.{List, [], ◌∷◌, ◌++◌, Memᴰ as In}
use mathlib.Core.Option.{Option, none, some, none-ne-some, some-ne-none}
use lib.Dec.{T, T_not}
use lib.ListN.{length, get_or}
use Rattle.rules.specs.Lists.{each, or_else, first_that, last_that}
use Rattle.theorems.proofs.Words.Tests.{T_false, false-T}
use Rattle.theorems.proofs.Words.Lists.{In-each, In-get_or}

-- The first of two that is there
module _ {A : Type 0} where
  pub or_else-assoc : (x y z : Option A) → or_else x (or_else y z) ≡ or_else (or_else x y) z
  or_else-assoc none y z = refl
  or_else-assoc (some a) y z = refl

  pub or_else-nothing : (x : Option A) → or_else x none ≡ x
  or_else-nothing none = refl
  or_else-nothing (some a) = refl

  pub or_else-none : (x r : Option A) → or_else x r ≡ none → (x ≡ none) × (r ≡ none)
  or_else-none none r e = (refl, e)
  or_else-none (some a) r e = absurd (some-ne-none a e)

  pub none-or_else : (x r : Option A) → x ≡ none → r ≡ none → or_else x r ≡ none
  none-or_else x r e h = rw (e, h)

  or_else-first : (x r : Option A) → (y : A) × (x ≡ some y) → or_else x r ≡ x
  or_else-first x r w = rw w.1

-- The first and the last that pass
module _ {A : Type 0} where
  pub first_that→ : (f : A → Bool) (l : List A) {x : A} → first_that f l ≡ some x → In x l × T (f x)
  first_that→ f [] {x} e = absurd (none-ne-some x e)
  first_that→ f (y ∷ l) {x} e = go (f y) refl e (λ u. first_that→ f l u)
    where
      go : (b : Bool) → f y ≡ b → cond b (some y) (first_that f l) ≡ some x → (first_that f l ≡ some x → In x l × T (f x)) → In x (y ∷ l) × T (f x)
      go true h e r = let q : y ≡ x = cc in (here (sym q), rw (← q, h) tt)
      go false h e r = (next (r e).0, (r e).1)

  pub first_that-none : (f : A → Bool) (l : List A) → first_that f l ≡ none → {x : A} → In x l → T (not (f x))
  first_that-none f [] e {x = x} m = elim m [ ]
  first_that-none f (y ∷ l) e {x} m = go (f y) refl e m (λ u n. first_that-none f l u n)
    where
      go : (b : Bool) → f y ≡ b → cond b (some y) (first_that f l) ≡ none → In x (y ∷ l) → (first_that f l ≡ none → In x l → T (not (f x))) → T (not (f x))
      go true h e m r = absurd (some-ne-none y e)
      go false h e (here q) r = rw (q, h) tt
      go false h e (next n) r = r e n

  pub none-first_that : (f : A → Bool) (l : List A) → ((x : A) → In x l → T (not (f x))) → first_that f l ≡ none
  none-first_that f [] h = refl
  none-first_that f (y ∷ l) h = rw (T_false (f y) (h y (here refl))) (none-first_that f l (λ x m. h x (next m)))

  pub last_that→ : (f : A → Bool) (l : List A) {x : A} → last_that f l ≡ some x → In x l × T (f x)
  last_that→ f [] {x} e = absurd (none-ne-some x e)
  last_that→ f (y ∷ l) {x} e = go (last_that f l) refl e (λ u. last_that→ f l u)
    where
      own : (b : Bool) → f y ≡ b → cond b (some y) none ≡ some x → In x (y ∷ l) × T (f x)
      own true h e = let q : y ≡ x = cc in (here (sym q), rw (← q, h) tt)
      own false h e = absurd (none-ne-some x e)

      go : (o : Option A) → last_that f l ≡ o → or_else o (cond (f y) (some y) none) ≡ some x → (last_that f l ≡ some x → In x l × T (f x)) → In x (y ∷ l) × T (f x)
      go none h e r = own (f y) refl e
      go (some z) h e r = let w = r (h ∙ e) in (next w.0, w.1)

  pub last_that-none : (f : A → Bool) (l : List A) → last_that f l ≡ none → {x : A} → In x l → T (not (f x))
  last_that-none f [] e x4 = elim x4 [ ]
  last_that-none f (y ∷ l) e (here q) = rw q (own (f y) refl (or_else-none (last_that f l) (cond (f y) (some y) none) e).1)
    where
      own : (b : Bool) → f y ≡ b → cond b (some y) none ≡ none → T (not (f y))
      own true h e = absurd (some-ne-none y e)
      own false h e = false-T h
  last_that-none f (y ∷ l) e (next m) = last_that-none f l (or_else-none (last_that f l) (cond (f y) (some y) none) e).0 m

  pub last_that-append : (f : A → Bool) (l m : List A) → last_that f (l ++ m) ≡ or_else (last_that f m) (last_that f l)
  last_that-append f [] m = sym (or_else-nothing (last_that f m))
  last_that-append f (x ∷ l) m = rw (last_that-append f l m) (sym (or_else-assoc (last_that f m) (last_that f l) (cond (f x) (some x) none)))

  pub none-last_that : (f : A → Bool) (l : List A) → ((x : A) → In x l → T (not (f x))) → last_that f l ≡ none
  none-last_that f [] h = refl
  none-last_that f (x ∷ l) h = rw (none-last_that f l (λ y m. h y (next m)), T_false (f x) (h x (here refl)))

  pub last_that-some : (f : A → Bool) (l : List A) {x : A} → In x l → T (f x) → (y : A) × (last_that f l ≡ some y)
  last_that-some f l {x} m t = go (last_that f l) refl
    where
      go : (o : Option A) → last_that f l ≡ o → (y : A) × (last_that f l ≡ some y)
      go none e = absurd (T_not (f x) (last_that-none f l e m) t)
      go (some y) e = (y, e)

  pub last_that-cong : (f g : A → Bool) (l : List A) → ((x : A) → In x l → f x ≡ g x) → last_that f l ≡ last_that g l
  last_that-cong f g [] h = refl
  last_that-cong f g (x ∷ l) h = rw (last_that-cong f g l (λ y m. h y (next m)), h x (here refl))

-- parts with the same last one that passes
pub last_that-each : {A B : Type 0} (f : B → Bool) (g h : A → List B) (l : List A) → ((x : A) → In x l → last_that f (g x) ≡ last_that f (h x))
    → last_that f (each g l) ≡ last_that f (each h l)
last_that-each f g h [] e = refl
last_that-each f g h (x ∷ l) e =
    rw (last_that-append f (g x) (each g l), last_that-append f (h x) (each h l), last_that-each f g h l (λ y m. e y (next m)), e x (here refl))

-- Part k has one that passes, and no later part has one: the last one that passes is the last one of part k.
module _ {A B : Type 0} where
  pub last-part : (f : B → Bool) (g : A → List B) (l : List A) (d : A) (k : ℕ) → k < length l
      → {x : B} → In x (g (get_or l k d)) → T (f x) → ((j : ℕ) → k < j → (y : B) → In y (g (get_or l j d)) → T (not (f y)))
      → last_that f (each g l) ≡ last_that f (g (get_or l k d))
  last-part f g [] d k h m t later = absurd (omega arith)
  last-part f g (z ∷ l) d zero h m t later =
      last_that-append f (g z) (each g l) ∙ ap (λ (o : Option B). or_else o (last_that f (g z))) (none-last_that f (each g l) fails)
    where
      fails : (y : B) → In y (each g l) → T (not (f y))
      fails y n =
          let w = In-each g l n in
          let v = In-get_or l d w.1 in
          later (suc v.0) (omega arith) y (rw v.2 w.2)
  last-part f g (z ∷ l) d (suc k) h m t later =
      last_that-append f (g z) (each g l)
      ∙ ap (λ (o : Option B). or_else o (last_that f (g z))) (last-part f g l d k (omega arith) m t (λ j i. later (suc j) (omega arith)))
      ∙ or_else-first (last_that f (g (get_or l k d))) (last_that f (g z)) (last_that-some f (g (get_or l k d)) m t)
