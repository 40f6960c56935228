-- Laws of the small words over lists: what `any`, `all`, `keep`, `map`, `each`, `reverse`, `from` and `mem` mean, by membership.
-- Assumes nothing.
use Prim.Native.Nat.{ℕ, zero, suc, ◌+◌, ◌≤◌, ◌<◌}
use native.Mathlib.Omega.{arith}
use mathlib.Core.Path.{◌≡◌, refl, sym, ap, subst}
use mathlib.Core.Logic.{◌⊎◌, inl, inr}
use mathlib.Core.Bool.{Bool, true, false, not, ◌||◌, cond}
use mathlib.Core.List.Memᴰ
use mathlib.Core.List.Memᴰ.{append_cases as In-append}
use mathlib.Core.List.Memᴰ.{append_left as In-append-l}
use mathlib.Core.List.Memᴰ.{append_right as In-append-r}
use mathlib.Core.List.Memᴰ.{head as here}
use mathlib.Core.List.Memᴰ.{not-nil}
use mathlib.Core.List.Memᴰ.{tail as next}
use mathlib.Core.List.{List, [], ◌∷◌, ◌++◌, map, reverse, reverse-cons, append_assoc, Memᴰ as In}
use lib.Dec.{T, eqb, eqb→eq, eqb_refl, T_not, not_T}
use lib.ListN.{length, get_or}
use Rattle.rules.specs.Lists.{any, all, keep, each, from, up_to, mem}
use Rattle.theorems.proofs.Words.Tests.{T-dec, T_true, T_false, T_and, and_T, T-or, or_left, or_right, neqb→ne}

module _ {A : Type 0} where
  pub any→ : (f : A → Bool) (l : List A) → T (any f l) → (x : A) × In x l × T (f x)
  any→ f [] t = absurd t
  any→ f (y ∷ l) t = go (T-or (f y) (any f l) t) (λ u. any→ f l u)
    where
      go : T (f y) ⊎ T (any f l) → (T (any f l) → (x : A) × In x l × T (f x)) → (x : A) × In x (y ∷ l) × T (f x)
      go (inl u) r = (y, here refl, u)
      go (inr u) r = ((r u).0, next (r u).1, (r u).2)

  pub any← : (f : A → Bool) (l : List A) {x : A} → In x l → T (f x) → T (any f l)
  any← f [] x4 t = elim x4 [ ]
  any← f (y ∷ l) (here e) t = or_left (f y) (any f l) (rw e at t)
  any← f (y ∷ l) (next m) t = or_right (f y) (any f l) (any← f l m t)

  pub any_none : (f : A → Bool) (l : List A) → ((x : A) → In x l → T (not (f x))) → T (not (any f l))
  any_none f l h = not_T (any f l) (λ t. let r = any→ f l t in T_not (f r.0) (h r.0 r.1) r.2)

  pub none_any : (f : A → Bool) (l : List A) → T (not (any f l)) → {x : A} → In x l → T (not (f x))
  none_any f l t {x} m = not_T (f x) (λ u. T_not (any f l) t (any← f l m u))

  pub all→ : (f : A → Bool) (l : List A) → T (all f l) → {x : A} → In x l → T (f x)
  all→ f [] t x4 = elim x4 [ ]
  all→ f (y ∷ l) t (here e) = rw e (T_and (f y) (all f l) t).0
  all→ f (y ∷ l) t (next m) = all→ f l (T_and (f y) (all f l) t).1 m

  pub all← : (f : A → Bool) (l : List A) → ((x : A) → In x l → T (f x)) → T (all f l)
  all← f [] h = tt
  all← f (y ∷ l) h = and_T (f y) (all f l) (h y (here refl)) (all← f l (λ x m. h x (next m)))

  -- one that fails, where not all pass
  pub not-all : (f : A → Bool) (l : List A) → T (not (all f l)) → (x : A) × In x l × T (not (f x))
  not-all f [] t = absurd t
  not-all f (y ∷ l) t = go (T-dec (f y)) (λ u. not-all f l u)
    where
      go : T (f y) ⊎ T (not (f y)) → (T (not (all f l)) → (x : A) × In x l × T (not (f x))) → (x : A) × In x (y ∷ l) × T (not (f x))
      go (inl u) r = let w = r (rw (T_true (f y) u) at t) in (w.0, next w.1, w.2)
      go (inr u) r = (y, here refl, u)

  pub any-cong : (f g : A → Bool) (l : List A) → ((x : A) → In x l → f x ≡ g x) → any f l ≡ any g l
  any-cong f g [] h = refl
  any-cong f g (x ∷ l) h = rw (h x (here refl), any-cong f g l (λ y m. h y (next m)))

  pub all-cong : (f g : A → Bool) (l : List A) → ((x : A) → In x l → f x ≡ g x) → all f l ≡ all g l
  all-cong f g [] h = refl
  all-cong f g (x ∷ l) h = rw (h x (here refl), all-cong f g l (λ y m. h y (next m)))

  pub any_append : (f : A → Bool) (l m : List A) → any f (l ++ m) ≡ (any f l || any f m)
  any_append f [] m = refl
  any_append f (x ∷ l) m = go (f x) (any_append f l m)
    where
      go : (b : Bool) → any f (l ++ m) ≡ (any f l || any f m) → (b || any f (l ++ m)) ≡ (b || any f l || any f m)
      go true e = refl
      go false e = e

  -- keep
  pub keep→ : (f : A → Bool) (l : List A) {x : A} → In x (keep f l) → In x l × T (f x)
  keep→ f [] m = absurd (not-nil m)
  keep→ f (y ∷ l) {x} m = go (f y) refl m (λ u. keep→ f l u)
    where
      go : (b : Bool) → f y ≡ b → In x (cond b (y ∷ keep f l) (keep f l)) → (In x (keep f l) → In x l × T (f x)) → In x (y ∷ l) × T (f x)
      go true e (here h) r = (here h, rw (h, e) tt)
      go true e (next h) r = (next (r h).0, (r h).1)
      go false e h r = (next (r h).0, (r h).1)

  pub keep← : (f : A → Bool) (l : List A) {x : A} → In x l → T (f x) → In x (keep f l)
  keep← f [] {x = x} x4 t = elim x4 [ ]
  keep← f (y ∷ l) (here e) t = rw (T_true (f y) (rw e at t)) (here e)
  keep← f (y ∷ l) {x} (next m) t = go (f y) (keep← f l m t)
    where
      go : (b : Bool) → In x (keep f l) → In x (cond b (y ∷ keep f l) (keep f l))
      go true h = next h
      go false h = h

  pub keep_all : (f : A → Bool) (l : List A) → ((x : A) → In x l → T (f x)) → keep f l ≡ l
  keep_all f [] h = refl
  keep_all f (y ∷ l) h = rw (T_true (f y) (h y (here refl)), keep_all f l (λ x m. h x (next m)))

  pub keep-none : (f : A → Bool) (l : List A) → ((x : A) → In x l → T (not (f x))) → keep f l ≡ []
  keep-none f [] h = refl
  keep-none f (y ∷ l) h = rw (T_false (f y) (h y (here refl)), keep-none f l (λ x m. h x (next m)))

  pub keep-cong : (f g : A → Bool) (l : List A) → ((x : A) → In x l → f x ≡ g x) → keep f l ≡ keep g l
  keep-cong f g [] h = refl
  keep-cong f g (y ∷ l) h = rw (h y (here refl), keep-cong f g l (λ x m. h x (next m)))

  -- keeping in two parts
  pub keep_append : (f : A → Bool) (l m : List A) → keep f (l ++ m) ≡ keep f l ++ keep f m
  keep_append f [] m = refl
  keep_append f (x ∷ l) m = go (f x) (keep_append f l m)
    where
      go : (b : Bool) → keep f (l ++ m) ≡ keep f l ++ keep f m → cond b (x ∷ keep f (l ++ m)) (keep f (l ++ m)) ≡ cond b (x ∷ keep f l) (keep f l) ++ keep f m
      go true e = ap (λ (z : List A). x ∷ z) e
      go false e = e

  -- keeping twice, where the second test implies the first
  pub keep-keep : (f g : A → Bool) (l : List A) → ((x : A) → In x l → T (f x) → T (g x)) → keep f (keep g l) ≡ keep f l
  keep-keep f g [] h = refl
  keep-keep f g (y ∷ l) h = go (f y) (g y) refl (h y (here refl)) (keep-keep f g l (λ x m. h x (next m)))
    where
      go : (a b : Bool) → f y ≡ a → (T a → T b) → keep f (keep g l) ≡ keep f l → keep f (cond b (y ∷ keep g l) (keep g l)) ≡ cond a (y ∷ keep f l) (keep f l)
      go true true e i k = rw (e, k)
      go true false e i k = absurd (i tt)
      go false true e i k = rw (e, k)
      go false false e i k = k

  -- an element by its place
  pub get_or-In : (l : List A) (k : ℕ) (d : A) → k < length l → In (get_or l k d) l
  get_or-In [] k d h = absurd (omega arith)
  get_or-In (x ∷ l) zero d h = here refl
  get_or-In (x ∷ l) (suc k) d h = next (get_or-In l k d (omega arith))

  pub In-get_or : (l : List A) (d : A) {x : A} → In x l → (k : ℕ) × (k < length l) × (get_or l k d ≡ x)
  In-get_or [] d x3 = elim x3 [ ]
  In-get_or (y ∷ l) d (here e) = (0, omega arith, sym e)
  In-get_or (y ∷ l) d (next m) = let r = In-get_or l d m in let h = r.1 in (suc r.0, omega arith, r.2)

-- map and each
module _ {A B : Type 0} where
  pub map-In : (f : A → B) (l : List A) {x : A} → In x l → In (f x) (map f l)
  map-In f l m = Memᴰ.map f m

  pub In-map : (f : A → B) (l : List A) {y : B} → In y (map f l) → (x : A) × In x l × (y ≡ f x)
  In-map f l m = let w = Memᴰ.of_map f l m in (w.0, w.1, sym w.2)

  -- what holds of all that f makes of the elements
  pub map-has : (f : A → B) (l : List A) (P : B → Type 0) → ((x : A) → In x l → P (f x)) → (y : B) → In y (map f l) → P y
  map-has f l P h y m = let w = In-map f l m in subst P (sym w.2) (h w.0 w.1)

  pub each-In : (f : A → List B) (l : List A) {x : A} {y : B} → In x l → In y (f x) → In y (each f l)
  each-In f [] {y = y} x4 m = elim x4 [ ]
  each-In f (z ∷ l) (here e) m = In-append-l (each f l) (rw e at m)
  each-In f (z ∷ l) (next n) m = In-append-r (f z) (each-In f l n m)

  pub In-each : (f : A → List B) (l : List A) {y : B} → In y (each f l) → (x : A) × In x l × In y (f x)
  In-each f [] m = absurd (not-nil m)
  In-each f (z ∷ l) {y} m = go (In-append (f z) m) (λ u. In-each f l u)
    where
      go : In y (f z) ⊎ In y (each f l) → (In y (each f l) → (x : A) × In x l × In y (f x)) → (x : A) × In x (z ∷ l) × In y (f x)
      go (inl h) r = (z, here refl, h)
      go (inr h) r = ((r h).0, next (r h).1, (r h).2)

  -- the lists that g makes of those that pass
  pub In-each-if : (f : A → Bool) (g : A → List B) (l : List A) {y : B} → In y (each (λ x. cond (f x) (g x) []) l) → (x : A) × In x l × T (f x) × In y (g x)
  In-each-if f g l {y} m = let w = In-each (λ x. cond (f x) (g x) []) l m in let v = go w.0 (f w.0) w.2 in (w.0, w.1, v.0, v.1)
    where
      go : (x : A) (b : Bool) → In y (cond b (g x) []) → T b × In y (g x)
      go x true n = (tt, n)
      go x false n = absurd (not-nil n)

  pub each-if-In : (f : A → Bool) (g : A → List B) (l : List A) {x : A} {y : B} → In x l → T (f x) → In y (g x) → In y (each (λ x. cond (f x) (g x) []) l)
  each-if-In f g l {x} m t n = each-In (λ x. cond (f x) (g x) []) l m (rw (T_true (f x) t) n)

  pub any-map : (f : A → B) (g : B → Bool) (l : List A) → any g (map f l) ≡ any (λ x. g (f x)) l
  any-map f g [] = refl
  any-map f g (x ∷ l) = ap (λ (b : Bool). g (f x) || b) (any-map f g l)

  pub map-cong : (f g : A → B) (l : List A) → ((x : A) → In x l → f x ≡ g x) → map f l ≡ map g l
  map-cong f g [] h = refl
  map-cong f g (x ∷ l) h = rw (h x (here refl), map-cong f g l (λ y m. h y (next m)))

  pub each-cong : (f g : A → List B) (l : List A) → ((x : A) → In x l → f x ≡ g x) → each f l ≡ each g l
  each-cong f g [] h = refl
  each-cong f g (x ∷ l) h = rw (h x (here refl), each-cong f g l (λ y m. h y (next m)))

  pub each_append : (g : A → List B) (l m : List A) → each g (l ++ m) ≡ each g l ++ each g m
  each_append g [] m = refl
  each_append g (x ∷ l) m = rw (each_append g l m, append_assoc (g x) (each g l) (each g m))

pub map_same : {A : Type 0} (f : A → A) (l : List A) → ((x : A) → In x l → f x ≡ x) → map f l ≡ l
map_same f [] h = refl
map_same f (x ∷ l) h = rw (h x (here refl), map_same f l (λ y m. h y (next m)))

-- reverse
pub In-reverse : {A : Type 0} (l : List A) {x : A} → In x (reverse l) → In x l
In-reverse [] m = m
In-reverse (y ∷ l) {x} m = go (In-append (reverse l) (subst (λ (z : List _). In x z) (reverse-cons y l) m)) (λ u. In-reverse l u)
  where
    go : In x (reverse l) ⊎ In x (y ∷ []) → (In x (reverse l) → In x l) → In x (y ∷ l)
    go (inl h) r = next (r h)
    go (inr (here e)) r = here e
    go (inr (next h)) r = absurd (not-nil h)

pub reverse-In : {A : Type 0} (l : List A) {x : A} → In x l → In x (reverse l)
reverse-In {A = A} [] {x = x} x3 = elim x3 [ ]
reverse-In (y ∷ l) {x} (here e) = subst (λ (z : List _). In x z) (sym (reverse-cons y l)) (In-append-r (reverse l) (here e))
reverse-In (y ∷ l) {x} (next m) = subst (λ (z : List _). In x z) (sym (reverse-cons y l)) (In-append-l (y ∷ []) (reverse-In l m))

-- numbers in a row
pub In-from : (i n : ℕ) {q : ℕ} → In q (from i n) → (i ≤ q) × (q < i + n)
In-from i zero m = absurd (not-nil m)
In-from i (suc n) (here e) = (omega arith, omega arith)
In-from i (suc n) (next m) = let r = In-from (suc i) n m in (omega arith, omega arith)

pub from-In : (i n : ℕ) {q : ℕ} → i ≤ q → q < i + n → In q (from i n)
from-In i zero h k = absurd (omega arith)
from-In i (suc n) {q} h k = go (T-dec (eqb q i)) (λ u. from-In (suc i) n u (omega arith))
  where
    go : T (eqb q i) ⊎ T (not (eqb q i)) → (suc i ≤ q → In q (from (suc i) n)) → In q (i ∷ from (suc i) n)
    go (inl t) r = here (eqb→eq q i t)
    go (inr t) r = let ne = neqb→ne q i t in next (r (omega arith))

pub In-up_to : (n : ℕ) {q : ℕ} → In q (up_to n) → q < n
In-up_to n m = let r = In-from 0 n m in omega arith

pub up_to-In : (n : ℕ) {q : ℕ} → q < n → In q (up_to n)
up_to-In n h = from-In 0 n (omega arith) (omega arith)

-- in two parts
pub from-split : (n i m : ℕ) → from i (n + m) ≡ from i n ++ from (i + n) m
from-split zero i m = let e : 0 + m ≡ m = omega arith in let f : i + 0 ≡ i = omega arith in rw (e, f)
from-split (suc n) i m =
    let e : suc n + m ≡ suc (n + m) = omega arith in
    let f : i + suc n ≡ suc i + n = omega arith in
    rw (e, f) (ap (λ (l : List ℕ). i ∷ l) (from-split n (suc i) m))

pub length_from : (i n : ℕ) → length (from i n) ≡ n
length_from i zero = refl
length_from i (suc n) = ap suc (length_from (suc i) n)

pub get_or-from : (i n k : ℕ) → k < n → get_or (from i n) k 0 ≡ i + k
get_or-from i zero k h = absurd (omega arith)
get_or-from i (suc n) zero h = omega arith
get_or-from i (suc n) (suc k) h = let r = get_or-from (suc i) n k (omega arith) in omega arith

-- membership as a test
pub mem→ : (a : ℕ) (l : List ℕ) → T (mem a l) → In a l
mem→ a l t = let r = any→ (eqb a) l t in Memᴰ.cast (eqb→eq a r.0 r.2) r.1

pub mem← : (a : ℕ) (l : List ℕ) → In a l → T (mem a l)
mem← a l m = any← (eqb a) l m (eqb_refl a)
