-- Reading after a store, equal or not, less or not, a test that cannot pass, and two tests that pass together. Assumes nothing.
use Prim.Native.Nat.{ℕ, ◌<◌, ◌≤◌}
use mathlib.Core.Path.{◌≡◌, refl, sym}
use mathlib.Core.Logic.{◌⊎◌, inl, inr, ⊎_elim, ◌≢◌}
use mathlib.Core.Bool.{Bool, true, false, not-eq-not}
use mathlib.Core.List.{List}
use borrow.Author.Tests.{eqb-true, eqb-false, ltb-true, ltb-false}
use lib.Dec.{eqb, ltb}
use lib.ListN.{length, get_or, set}
use lib.Seq.{get_or-set_same, get_or-set_other}

pub same? : (a b : ℕ) → (a ≡ b) ⊎ (a ≢ b)
same? a b = go (eqb a b) refl
  where
    go : (t : Bool) → eqb a b ≡ t → (a ≡ b) ⊎ (a ≢ b)
    go true e = inl (eqb-true a b e)
    go false e = inr (eqb-false a b e)

pub less? : (a b : ℕ) → (a < b) ⊎ (b ≤ a)
less? a b = go (ltb a b) refl
  where
    go : (t : Bool) → ltb a b ≡ t → (a < b) ⊎ (b ≤ a)
    go true e = inl (ltb-true a b e)
    go false e = inr (ltb-false a b e)

pub not_so : (b : Bool) → (b ≡ true → ⊥) → b ≡ false
not_so b n = (not-eq-not {a = b} {b = false}).0 n

pub same-test : (a b : Bool) → (a ≡ true → b ≡ true) → (b ≡ true → a ≡ true) → a ≡ b
same-test true b f g = sym (f refl)
same-test false true f g = g refl
same-test false false f g = refl

-- at the place of the store, or elsewhere
pub read_set : {A : Type 0} (l : List A) (i : ℕ) (v d : A) (y : ℕ) → i < length l → ((y ≡ i) × (get_or (set l i v) y d ≡ v)) ⊎ ((y ≢ i) × (get_or (set l i v) y d ≡ get_or l y d))
read_set l i v d y h = ⊎_elim (λ e. inl (e, rw e (get_or-set_same l i v d h))) (λ n. inr (n, get_or-set_other l i y v d n)) (same? y i)
