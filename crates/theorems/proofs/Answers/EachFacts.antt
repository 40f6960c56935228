-- Laws of `each`, lists made one behind another: maps, lengths, and elements put into buckets. Assumes nothing.
use Prim.Native.Nat.{ℕ, ◌+◌, ◌≤◌}
use native.Mathlib.Omega.{arith}
use mathlib.Core.Path.{◌≡◌, refl, sym}
use mathlib.Core.Bool.{Bool, true, false, not, cond}
use mathlib.Core.List.Memᴰ
use mathlib.Core.List.{List, [], ◌∷◌, ◌++◌, map, map-append}
use lib.Dec.{T, not_T}
use lib.ListN.{length, length-append}
use Rattle.rules.specs.Lists.{keep, each}
use Rattle.rules.specs.Promises.{distinct}
use Rattle.theorems.proofs.Words.Lists.{each-cong, each_append, keep-keep}
use Rattle.theorems.proofs.Words.Distinct.{distinct→}

module _ {A B C : Type 0} where
  pub map_each : (f : B → C) (g : A → List B) (l : List A) → map f (each g l) ≡ each (λ x. map f (g x)) l
  map_each f g [] = refl
  map_each f g (x ∷ l) = rw (map-append f (g x) (each g l), map_each f g l)

  pub each_map : (f : A → B) (g : B → List C) (l : List A) → each g (map f l) ≡ each (λ x. g (f x)) l
  each_map f g [] = refl
  each_map f g (x ∷ l) = rw (each_map f g l)

  -- lists of equal lengths, and of lengths that are not above
  pub each-lengths : (g : A → List B) (h : A → List C) (l : List A) → ((x : A) → length (g x) ≡ length (h x)) → length (each g l) ≡ length (each h l)
  each-lengths g h [] e = refl
  each-lengths g h (x ∷ l) e = rw (length-append (g x) (each g l), length-append (h x) (each h l), e x, each-lengths g h l e)

  pub each-shorter : (g : A → List B) (h : A → List C) (l : List A) → ((x : A) → length (g x) ≤ length (h x)) → length (each g l) ≤ length (each h l)
  each-shorter g h [] e = omega arith
  each-shorter g h (x ∷ l) e =
      let a = length-append (g x) (each g l) in
      let b = length-append (h x) (each h l) in
      let own = e x in
      let rest = each-shorter g h l e in
      omega arith

-- one element for each is the list again
pub each-single : {A : Type 0} (l : List A) → each (λ x. x ∷ []) l ≡ l
each-single [] = refl
each-single (x ∷ l) = rw (each-single l)

module _ {A B : Type 0} (g : A → List B) where
  -- what is made of those that pass, and of the others
  each-split : (f : A → Bool) (l : List A) → length (each g (keep f l)) + length (each g (keep (λ x. not (f x)) l)) ≡ length (each g l)
  each-split f [] = refl
  each-split f (x ∷ l) = go (f x) (each-split f l)
    where
      go : (b : Bool) → length (each g (keep f l)) + length (each g (keep (λ x. not (f x)) l)) ≡ length (each g l)
          → length (each g (cond b (x ∷ keep f l) (keep f l))) + length (each g (cond (not b) (x ∷ keep (λ x. not (f x)) l) (keep (λ x. not (f x)) l))) ≡ length (g x ++ each g l)
      go true h = let u = length-append (g x) (each g (keep f l)) in let v = length-append (g x) (each g l) in omega arith
      go false h = let u = length-append (g x) (each g (keep (λ x. not (f x)) l)) in let v = length-append (g x) (each g l) in omega arith

  -- Elements put into buckets, none into two of them: what is made of those in the buckets is no more than what is made of all.
  pub buckets-most : (f : ℕ → A → Bool) → ((c d : ℕ) (x : A) → T (f c x) → T (f d x) → c ≡ d) → (cs : List ℕ) → T (distinct cs) → (l : List A)
      → length (each g (each (λ c. keep (f c) l) cs)) ≤ length (each g l)
  buckets-most f one [] t l = omega arith
  buckets-most f one (c ∷ cs) t l =
      let w = distinct→ c cs t in
      let others = keep (λ x. not (f c x)) l in
      let rest : each (λ d. keep (f d) l) cs ≡ each (λ d. keep (f d) others) cs
      = each-cong (λ d. keep (f d) l) (λ d. keep (f d) others) cs (λ d m.
      sym (keep-keep (f d) (λ x. not (f c x)) l (λ x k u. not_T (f c x) (λ v. w.0 (Memᴰ.cast (one c d x v u) m))))) in
      let most = buckets-most f one cs w.1 others in
      let split = each-split (f c) l in
      rw (each_append g (keep (f c) l) (each (λ d. keep (f d) l) cs), length-append (each g (keep (f c) l)) (each g (each (λ d. keep (f d) l) cs)), rest)
      (omega arith)
