-- Counting the entries of a column: one less when one is taken out, none in a column that lost none. Assumes nothing.
use Prim.Native.Nat.{ℕ, zero, suc, ◌+◌, ◌-◌, ◌<◌, ◌≤◌}
use native.Mathlib.Omega.{arith}
use mathlib.Core.Path.{◌≡◌, refl, ◌∙◌, ap}
use mathlib.Core.Logic.{◌⊎◌, inl, inr, ⊎_elim, ◌≢◌}
use mathlib.Core.Bool.{Bool, true, false, ◌&&◌, not}
use mathlib.Core.List.Memᴰ.{head as here}
use mathlib.Core.List.Memᴰ.{tail as next}
use mathlib.Core.List.{List, [], ◌∷◌, Memᴰ as In}
use borrow.Author.Tests.{eq-eqb, ne_eqb, eqb-true}
use lib.Dec.{T, eqb}
use Rattle.rules.specs.Lists.{count, from}
use Rattle.theorems.proofs.Words.Tests.{T-dec, T_true, T_false, T_and}
use Rattle.theorems.proofs.Words.Counts.{count-cong, count-length}
use Rattle.theorems.proofs.Words.Lists.{In-from, length_from}
use Rattle.links.specs.Column.{without}
use Rattle.links.specs.Plan.{Plan, start}
use Rattle.links.specs.Ground.{tally}
use Rattle.links.proofs.Stores.{same?}

-- where something is counted, something passes
count-some : {A : Type 0} (f : A → Bool) (l : List A) → 0 < count f l → (x : A) × In x l × T (f x)
count-some f [] h = absurd (omega arith)
count-some f (x ∷ l) h = go (T-dec (f x)) (λ u. count-some f l u)
  where
    go : T (f x) ⊎ T (not (f x)) → (0 < count f l → (y : _) × In y l × T (f y)) → (y : _) × In y (x ∷ l) × T (f y)
    go (inl t) r = (x, here refl, t)
    go (inr t) r = let w = r (rw (T_false (f x) t) at h) in (w.0, next w.1, w.2)

-- a test that changes at one of the numbers of a row counts one less
count-one : (f g : ℕ → Bool) (x i k : ℕ) → i ≤ x → x < i + k → f x ≡ true → g x ≡ false → ((y : ℕ) → y ≢ x → f y ≡ g y) → count f (from i k) ≡ suc (count g (from i k))
count-one f g x i zero a b fx gx h = omega arith
count-one f g x i (suc k) a b fx gx h = ⊎_elim at_once (λ n. later n (g i) refl (count-one f g x (suc i) k (omega arith) (omega arith) fx gx h)) (same? i x)
  where
    at_once : i ≡ x → count f (i ∷ from (suc i) k) ≡ suc (count g (i ∷ from (suc i) k))
    at_once e =
        let same = count-cong f g (from (suc i) k) (λ y m. let w = In-from (suc i) k m in h y (λ q. omega (arith, w.0, q, e))) in
        rw (ap f e ∙ fx, ap g e ∙ gx) (ap suc same)

    later : i ≢ x → (b : Bool) → g i ≡ b → count f (from (suc i) k) ≡ suc (count g (from (suc i) k)) → count f (i ∷ from (suc i) k) ≡ suc (count g (i ∷ from (suc i) k))
    later n true e r = rw (h i n, e, r)
    later n false e r = rw (h i n, e) r

module _ (P : Plan) (on : ℕ → Bool) where
  -- of the column of x, when x is taken out
  pub tally-cut : (x : ℕ) → start P ≤ x → x < P.N → on x ≡ true → tally P on (P.col x) ≡ suc (tally P (without on x) (P.col x))
  unfolding tally
  tally-cut x a b o =
      count-one (λ y. on y && eqb (P.col y) (P.col x)) (λ y. without on x y && eqb (P.col y) (P.col x)) x (start P) (P.N - start P) a (omega arith)
      (rw (o, eq-eqb (P.col x) (P.col x) refl)) (rw (eq-eqb x x refl)) (λ y n. rw (ne_eqb y x n))

  -- of any other column
  pub tally-keep : (x i : ℕ) → P.col x ≢ i → tally P (without on x) i ≡ tally P on i
  unfolding tally
  tally-keep x i n = count-cong (λ y. without on x y && eqb (P.col y) i) (λ y. on y && eqb (P.col y) i) (from (start P) (P.N - start P))
      (λ y m. ⊎_elim (λ e. here-none y e) (λ d. rw (ne_eqb y x d)) (same? y x))
    where
      here-none : (y : ℕ) → y ≡ x → (without on x y && eqb (P.col y) i) ≡ (on y && eqb (P.col y) i)
      here-none y e = go (on y) (rw (e, ne_eqb (P.col x) i n))
        where
          go : (b : Bool) → eqb (P.col y) i ≡ false → (without on x y && eqb (P.col y) i) ≡ (b && eqb (P.col y) i)
          go true q = rw (eq-eqb y x e, q)
          go false q = rw (eq-eqb y x e)

  -- a column with an entry is not empty, and one without has length 0
  pub tally-some : (x : ℕ) → start P ≤ x → x < P.N → on x ≡ true → 0 < tally P on (P.col x)
  tally-some x a b o = let e = tally-cut x a b o in omega arith

  pub tally-has : (i : ℕ) → 0 < tally P on i → (y : ℕ) × (start P ≤ y) × (y < P.N) × (on y ≡ true) × (P.col y ≡ i)
  unfolding tally
  tally-has i h =
      let w = count-some (λ y. on y && eqb (P.col y) i) (from (start P) (P.N - start P)) h in
      let r = In-from (start P) (P.N - start P) w.1 in
      let t = T_and (on w.0) (eqb (P.col w.0) i) w.2 in
      (w.0, r.0, omega arith, T_true (on w.0) t.0, eqb-true (P.col w.0) i (T_true (eqb (P.col w.0) i) t.1))

  pub tally-small : (i : ℕ) → tally P on i ≤ P.N
  unfolding tally
  tally-small i = let a = count-length (λ y. on y && eqb (P.col y) i) (from (start P) (P.N - start P)) in let b = length_from (start P) (P.N - start P) in omega arith
