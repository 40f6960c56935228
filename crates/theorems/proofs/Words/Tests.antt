-- Tests that compute, read as facts: conjunction, negation, implication, and the tests on numbers. What the kit has is passed on under the
-- names used here. Assumes nothing.
use Prim.Native.Nat.{ℕ, ◌≤◌}
use mathlib.Core.Path.{◌≡◌, refl, sym}
use mathlib.Core.Logic.{◌⊎◌, inl, inr, ◌≢◌}
use mathlib.Core.Bool.{Bool, true, false, not, ◌&&◌, ◌||◌}
use lib.Dec.{T, eqb, eqb→eq, ltb, nltb→le}
use mir.Facts.{eqb_no, yes_eqb, no_eqb}
-- m at least n: T (not (ltb m n))
pub use lib.Arith.{le→nltb}
-- both, either, and neither
pub use mir.Facts.{and_yes as T_and, yes_and as and_T, or_yes as T-or, or_no as T-nor}

-- a test passes or fails
pub T-dec : (b : Bool) → T b ⊎ T (not b)
T-dec true = inl tt
T-dec false = inr tt

pub T_true : (b : Bool) → T b → b ≡ true
T_true true t = refl
T_true false t = absurd t

pub T_false : (b : Bool) → T (not b) → b ≡ false
T_false true t = absurd t
T_false false t = refl

pub true-T : {b : Bool} → b ≡ true → T b
true-T e = rw e tt

pub false-T : {b : Bool} → b ≡ false → T (not b)
false-T e = rw e tt

-- a test that cannot fail passes
pub T-stable : (b : Bool) → (T (not b) → ⊥) → T b
T-stable true f = tt
T-stable false f = f tt

-- either
pub or_left : (a b : Bool) → T a → T (a || b)
or_left true b t = tt
or_left false b t = absurd t

pub or_right : (a b : Bool) → T b → T (a || b)
or_right true b t = tt
or_right false b t = t

-- `not a || b` is an implication
pub T-imp : (a b : Bool) → T (not a || b) → T a → T b
T-imp true b t s = t
T-imp false b t s = absurd s

pub imp-T : (a b : Bool) → (T a → T b) → T (not a || b)
imp-T true b f = f tt
imp-T false b f = tt

-- neither, and not both
pub nor-T : (a b : Bool) → T (not a) → T (not b) → T (not (a || b))
nor-T true b s t = absurd s
nor-T false b s t = t

pub T-nand : (a b : Bool) → T (not (a && b)) → T a → T (not b)
T-nand true b t s = t
T-nand false b t s = absurd s

-- none of five lengths is below what it must be
pub five-suffice : (a b c d e : ℕ) {i j k l m : ℕ} → T (not ((((ltb a i || ltb b j) || ltb c k) || ltb d l) || ltb e m))
    → (i ≤ a) × (j ≤ b) × (k ≤ c) × (l ≤ d) × (m ≤ e)
five-suffice a b c d e {i} {j} {k} {l} {m} t =
    let w = T-nor (((ltb a i || ltb b j) || ltb c k) || ltb d l) (ltb e m) t in
    let v = T-nor ((ltb a i || ltb b j) || ltb c k) (ltb d l) w.0 in
    let u = T-nor (ltb a i || ltb b j) (ltb c k) v.0 in
    let s = T-nor (ltb a i) (ltb b j) u.0 in
    (nltb→le a i s.0, nltb→le b j s.1, nltb→le c k u.1, nltb→le d l v.1, nltb→le e m w.1)

-- two tests that imply each other are one
pub T-same : (a b : Bool) → (T a → T b) → (T b → T a) → a ≡ b
T-same true true f g = refl
T-same true false f g = absurd (f tt)
T-same false true f g = absurd (g tt)
T-same false false f g = refl

-- numbers
pub eq→eqb : (m n : ℕ) → m ≡ n → T (eqb m n)
eq→eqb m n e = yes_eqb e

pub neqb→ne : (m n : ℕ) → T (not (eqb m n)) → m ≢ n
neqb→ne m n t = eqb_no t

pub ne→neqb : (m n : ℕ) → m ≢ n → T (not (eqb m n))
ne→neqb m n h = no_eqb h

-- two numbers that cannot differ are equal
pub eq-stable : (m n : ℕ) → (m ≢ n → ⊥) → m ≡ n
eq-stable m n f = eqb→eq m n (T-stable (eqb m n) (λ t. f (neqb→ne m n t)))

pub eqb-sym : (m n : ℕ) → eqb m n ≡ eqb n m
eqb-sym m n = T-same (eqb m n) (eqb n m) (λ t. eq→eqb n m (sym (eqb→eq m n t))) (λ t. eq→eqb m n (sym (eqb→eq n m t)))
