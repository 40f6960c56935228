-- Lists in order: of any two elements the one before stands in a relation to the one behind; and a list that is ordered by a key is what
-- gathering it key by key gives. Assumes nothing.
use Prim.Native.Nat.{ℕ, zero, suc, ◌+◌, ◌≤◌, ◌<◌}
use native.Mathlib.Omega.{arith}
use mathlib.Core.Path.{◌≡◌, refl, sym, ap, ◌∙◌}
use mathlib.Core.Logic.{◌⊎◌, inl, inr}
use mathlib.Core.Bool.{Bool, true, false, not, cond}
use mathlib.Core.List.Memᴰ.{append_cases as In-append}
use mathlib.Core.List.Memᴰ.{head as here}
use mathlib.Core.List.Memᴰ.{tail as next}
use mathlib.Core.List.{List, [], ◌∷◌, ◌++◌, map, Memᴰ as In}
use lib.Dec.{T, eqb, eqb→eq}
use Rattle.rules.specs.Lists.{keep, each, from}
use Rattle.theorems.proofs.Words.Tests.{T-dec, T_true, T_false, neqb→ne, ne→neqb}
use Rattle.theorems.proofs.Words.Lists.{keep→, keep-keep, keep_all, keep-none, In-map, In-each, In-from, each-cong}

module _ {A : Type 0} where
  abbrev pub Ordered : (A → A → Type 0) → List A → Type 0
  Ordered R [] = Unit {0}
  Ordered R (x ∷ l) = ((y : A) → In y l → R x y) × Ordered R l

  pub ordered-all : (R : A → A → Type 0) (l : List A) → ((x y : A) → In x l → In y l → R x y) → Ordered R l
  ordered-all R [] h = tt
  ordered-all R (x ∷ l) h = (λ y m. h x y (here refl) (next m), ordered-all R l (λ y z m k. h y z (next m) (next k)))

  pub ordered-keep : (R : A → A → Type 0) (f : A → Bool) (l : List A) → Ordered R l → Ordered R (keep f l)
  ordered-keep R f [] h = tt
  ordered-keep R f (x ∷ l) h = go (f x) (ordered-keep R f l h.1)
    where
      go : (b : Bool) → Ordered R (keep f l) → Ordered R (cond b (x ∷ keep f l) (keep f l))
      go true k = (λ y m. h.0 y (keep→ f l m).0, k)
      go false k = k

  pub ordered-append : (R : A → A → Type 0) (l m : List A) → Ordered R l → Ordered R m → ((x y : A) → In x l → In y m → R x y) → Ordered R (l ++ m)
  ordered-append R [] m h k b = k
  ordered-append R (x ∷ l) m h k b = (first, ordered-append R l m h.1 k (λ y z i j. b y z (next i) j))
    where
      of : (y : A) → In y l ⊎ In y m → R x y
      of y (inl i) = h.0 y i
      of y (inr i) = b x y (here refl) i

      first : (y : A) → In y (l ++ m) → R x y
      first y i = of y (In-append l i)

pub ordered-map : {A B : Type 0} (R : A → A → Type 0) (S : B → B → Type 0) (f : A → B) (l : List A)
    → ((x y : A) → In x l → In y l → R x y → S (f x) (f y)) → Ordered R l → Ordered S (map f l)
ordered-map R S f [] h k = tt
ordered-map {A} {B} R S f (x ∷ l) h k = (first, ordered-map R S f l (λ y z i j. h y z (next i) (next j)) k.1)
  where
    first : (y : B) → In y (map f l) → S (f x) y
    first y m = let w = In-map f l m in rw w.2 (h x w.0 (here refl) (next w.1) (k.0 w.0 w.1))

-- Ordered by a key
module _ {A : Type 0} (key : A → ℕ) where
  abbrev pub ByKey : List A → Type 0
  ByKey l = Ordered (λ x y. key x ≤ key y) l

  -- what is gathered key by key is ordered
  pub gathered : (f : ℕ → List A) → ((c : ℕ) (x : A) → In x (f c) → key x ≡ c) → (i n : ℕ) → ByKey (each f (from i n))
  gathered f h i zero = tt
  gathered f h i (suc n) =
      ordered-append (λ x y. key x ≤ key y) (f i) (each f (from (suc i) n))
      (ordered-all (λ x y. key x ≤ key y) (f i) (λ x y m k. let a = h i x m in let b = h i y k in omega arith))
      (gathered f h (suc i) n)
      (λ x y m k. let w = In-each f (from (suc i) n) k in let r = In-from (suc i) n w.1 in let a = h i x m in let b = h w.0 y w.2 in omega arith)

  -- those of the lowest key, and the others behind them
  split-lowest : (i : ℕ) (l : List A) → ByKey l → ((x : A) → In x l → i ≤ key x) → keep (λ x. eqb (key x) i) l ++ keep (λ x. not (eqb (key x) i)) l ≡ l
  split-lowest i [] o h = refl
  split-lowest i (x ∷ l) o h = go (T-dec (eqb (key x) i)) (split-lowest i l o.1 (λ y m. h y (next m)))
    where
      above : T (not (eqb (key x) i)) → (y : A) → In y l → T (not (eqb (key y) i))
      above t y m =
          let a = neqb→ne (key x) i t in
          let b = o.0 y m in
          let d = h x (here refl) in
          ne→neqb (key y) i (λ e. absurd (omega arith))

      go : T (eqb (key x) i) ⊎ T (not (eqb (key x) i)) → keep (λ x. eqb (key x) i) l ++ keep (λ x. not (eqb (key x) i)) l ≡ l
          → keep (λ x. eqb (key x) i) (x ∷ l) ++ keep (λ x. not (eqb (key x) i)) (x ∷ l) ≡ x ∷ l
      go (inl t) e = rw (T_true (eqb (key x) i) t) (ap (λ (z : List A). x ∷ z) e)
      go (inr t) e =
          rw (T_false (eqb (key x) i) t, keep-none (λ x. eqb (key x) i) l (above t), keep_all (λ x. not (eqb (key x) i)) l (above t))

  -- A list that is ordered by a key, gathered key by key.
  pub gather : (n i : ℕ) (l : List A) → ByKey l → ((x : A) → In x l → (i ≤ key x) × (key x < i + n)) → each (λ c. keep (λ x. eqb (key x) c) l) (from i n) ≡ l
  gather zero i [] o h = refl
  gather zero i (x ∷ l) o h = let w = h x (here refl) in absurd (omega arith)
  gather (suc n) i l o h =
      let rest = keep (λ x. not (eqb (key x) i)) l in
      ap (λ (z : List A). keep (λ x. eqb (key x) i) l ++ z)
      (each-cong (λ c. keep (λ x. eqb (key x) c) l) (λ c. keep (λ x. eqb (key x) c) rest) (from (suc i) n)
      (λ c m. let w = In-from (suc i) n m in
      sym (keep-keep (λ x. eqb (key x) c) (λ x. not (eqb (key x) i)) l (λ x k t. let e = eqb→eq (key x) c t in ne→neqb (key x) i (λ g. absurd (omega arith)))))
      ∙ gather n (suc i) rest (ordered-keep (λ x y. key x ≤ key y) (λ x. not (eqb (key x) i)) l o)
      (λ x m. let w = keep→ (λ x. not (eqb (key x) i)) l m in let b = h x w.0 in let ne = neqb→ne (key x) i w.1 in (omega arith, omega arith)))
      ∙ split-lowest i l o (λ x m. (h x m).0)
