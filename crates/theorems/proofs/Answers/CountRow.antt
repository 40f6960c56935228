-- More laws of `count`: of some of a list, and of the numbers in a row below a bound. Assumes nothing.
use Prim.Native.Nat.{ℕ, zero, suc, ◌+◌, ◌≤◌}
use native.Mathlib.Omega.{arith}
use mathlib.Core.Path.{◌≡◌, refl}
use mathlib.Core.Logic.{◌⊎◌, inl, inr}
use mathlib.Core.Bool.{Bool, true, false, not, cond}
use mathlib.Core.List.{List, [], ◌∷◌}
use lib.Dec.{T, ltb, ltb→lt, nltb→le}
use Rattle.rules.specs.Lists.{keep, count, from, up_to}
use Rattle.theorems.proofs.Words.Tests.{T-dec, T_true, T_false, le→nltb}
use Rattle.theorems.proofs.Words.Lists.{any_none, In-from, length_from}
use Rattle.theorems.proofs.Words.Counts.{count_none, count-split}

-- among those kept no more pass than among all
pub count_kept : {A : Type 0} (f g : A → Bool) (l : List A) → count g (keep f l) ≤ count g l
count_kept f g [] = omega arith
count_kept f g (x ∷ l) = go (f x) (g x) refl (count_kept f g l)
  where
    go : (a b : Bool) → g x ≡ b → count g (keep f l) ≤ count g l → count g (cond a (x ∷ keep f l) (keep f l)) ≤ cond b (suc (count g l)) (count g l)
    go true true e h = rw e (omega arith)
    go true false e h = rw e h
    go false true e h = omega arith
    go false false e h = h

-- of i, i + 1, .. those below m
below-in-row : (m i k : ℕ) → i ≤ m → m ≤ i + k → i + count (λ c. ltb c m) (from i k) ≡ m
below-in-row m i zero h l = omega arith
below-in-row m i (suc k) h l = go (T-dec (ltb i m)) (λ g. below-in-row m (suc i) k g (omega arith))
  where
    go : T (ltb i m) ⊎ T (not (ltb i m)) → (suc i ≤ m → suc i + count (λ c. ltb c m) (from (suc i) k) ≡ m) → i + count (λ c. ltb c m) (from i (suc k)) ≡ m
    go (inl t) r = let g = ltb→lt i m t in let e = r (omega arith) in rw (T_true (ltb i m) t) (omega arith)
    go (inr t) r =
        let g = nltb→le i m t in
        let z : count (λ c. ltb c m) (from (suc i) k) ≡ 0
        = count_none (λ c. ltb c m) (from (suc i) k) (any_none (λ c. ltb c m) (from (suc i) k) (λ c n. let w = In-from (suc i) k n in le→nltb c m (omega arith))) in
        rw (T_false (ltb i m) t) (omega arith)

-- Of 0 .. n - 1, m are below m, and the others are not.
pub count-below : (m n : ℕ) → m ≤ n → count (λ c. ltb c m) (up_to n) ≡ m
count-below m n h = let e = below-in-row m 0 n (omega arith) (omega arith) in omega arith

pub count-not-below : (m k n : ℕ) → m + k ≡ n → count (λ c. not (ltb c m)) (up_to n) ≡ k
count-not-below m k n h =
    let a = count-below m n (omega arith) in
    let b = count-split (λ c. ltb c m) (up_to n) in
    let l = length_from 0 n in
    omega arith
