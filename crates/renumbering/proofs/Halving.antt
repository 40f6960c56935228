-- The search by halves in a rising list finds a number's place. Assumes nothing.
use Prim.Native.Nat.{ℕ, zero, suc, ◌+◌, ◌≤◌, ◌<◌}
use native.Mathlib.Omega.{arith}
use mathlib.Core.Path.{◌≡◌, refl, sym, ap, ◌∙◌}
use mathlib.Core.Logic.{◌≢◌, ⊎_elim}
use mathlib.Core.Bool.{Bool, true, false, not, cond}
use mathlib.Core.List.Memᴰ
use mathlib.Core.Option.{Option, none, some, some-ne-none}
use mathlib.Core.List.{List, [], ◌∷◌, map}
use lib.Dec.{T, ltb, T_not, ltb→lt, nltb→le}
use lib.ListN.{length, get_or, length-map}
use borrow.Author.Tests.{lt-ltb, le-ltb}
use Rattle.std.specs.Prelude.{Result, Ok, Err, Option as Optional, Some, None, is_some, unwrap_or}
use Rattle.std.specs.Cmp.{nat_cmp_is}
use Rattle.std.specs.Ordering.{ordering_index, nat_cmp, is_lt}
use Rattle.std.specs.List.Sorted.{IsNonDecreasingBy, IsPartitionPoint, IsSearchInRange, IsBinarySearchResult}
use Rattle.std.specs.Result.{result_ok}
use Rattle.std.specs.declared.cmp.Ordering.{Ordering}
use Rattle.std.specs.declared.cmp.Ordering.TheVariants.{Less, Equal, Greater}
use Rattle.std.proofs.lemmas.Cmp.{nat_cmp_total}
use Rattle.std.proofs.lemmas.List.{get_or-map}
use Rattle.std.proofs.lemmas.List.Sorted.{searchable_from_sorted}
use Rattle.std.proofs.lemmas.Map.Lookups.{exact_unsigned}
use Rattle.rules.specs.Lists.{mem, rising, place}
use Rattle.theorems.proofs.Words.Tests.{T-dec, T_true, T_false}
use Rattle.theorems.proofs.Words.Lists.{get_or-In, mem→, mem←}
use Rattle.theorems.proofs.Words.Places.{place-first, place-later, place_found}
use Rattle.renumbering.specs.Parts.{as_option, place_below}
use Rattle.renumbering.proofs.Climbing.{rises, place-below-number}

-- where a number first stands, or the list ends, is its place
pub place_is : (l : List ℕ) (i k : ℕ) → ((j : ℕ) → j < k → get_or l j 0 ≢ i) → k ≤ length l → (k < length l → get_or l k 0 ≡ i) → place l i ≡ k
place_is [] i k n w e = omega arith
place_is (b ∷ l) i zero n w e = place-first b l (sym (e (omega arith)))
place_is (b ∷ l) i (suc k) n w e =
    place-later b l (λ q. n 0 (omega arith) (sym q))
    ∙ ap suc (place_is l i k (λ j h. n (suc j) (omega arith)) (omega arith) (λ h. e (omega arith)))

-- a number that is not in the list has the list's length for its place, and no other has
pub place-absent : (l : List ℕ) (i : ℕ) → T (not (mem i l)) → place l i ≡ length l
place-absent l i t =
    place_is l i (length l) (λ j h e. T_not (mem i l) t (mem← i l (Memᴰ.cast (sym e) (get_or-In l j 0 h)))) (omega arith) (λ h. absurd (omega arith))

pub place-present : (l : List ℕ) (i : ℕ) → T (mem i l) → (place l i < length l) × (get_or l (place l i) 0 ≡ i)
place-present l i t = place_found l (mem→ i l t)

-- a place fits where its number does, if the list rises
pub place-small : (l : List ℕ) → rising l ≡ true → (i : ℕ) → T (mem i l) → place l i ≤ i
place-small l r i t = let w = place-present l i t in let h = place-below-number l r (place l i) w.0 in omega (arith, w.1)

-- The search: where it finds the number is its place, and where it finds none the number is not there.
module _ {A : Type 0} (v : A → ℕ) (l : List A) where
  element : (l : List A) (k : ℕ) → k < length l → A
  element [] k h = absurd (omega arith)
  element (a ∷ l) k h = a

  pub value-at : (k : ℕ) (d : A) → k < length l → v (get_or l k d) ≡ get_or (map v l) k 0
  value-at k d h = sym (get_or-map v l k d 0 h)

  module _ (r : rising (map v l) ≡ true) (i : ℕ) where
    sorted : IsNonDecreasingBy (λ y. ordering_index (nat_cmp (v y) i)) l
    sorted = searchable_from_sorted nat_cmp_total v l i (λ k d z h. up k d h)
      where
        up : (k : ℕ) (d : A) → k + 1 < length l → is_lt (nat_cmp (v (get_or l (k + 1) d)) (v (get_or l k d))) ≡ false
        up k d h =
            let e = value-at k d (omega arith) in
            let f = value-at (k + 1) d (omega arith) in
            let lt = rises (map v l) r k (k + 1) (omega arith) (omega (arith, length-map l v)) in
            ap is_lt (sym (nat_cmp_is (v (get_or l (k + 1) d)) (v (get_or l k d)) Greater (omega arith)))

    differs : (k : ℕ) (o : Ordering) (d : A) → k < length l → o ≢ Equal → nat_cmp (v (get_or l k d)) i ≡ o → get_or (map v l) k 0 ≢ i
    differs k o d h n e q = n (sym e ∙ ap (λ (x : ℕ). nat_cmp x i) (value-at k d h ∙ q) ∙ sym (nat_cmp_is i i Equal refl))

    no-number : (k : ℕ) → IsPartitionPoint (λ y. nat_cmp (v y) i ≡ Less) (λ y. nat_cmp (v y) i ≡ Greater) l k → (j : ℕ) → j < length l → get_or (map v l) j 0 ≢ i
    no-number k p j h =
        let d = element l j h in
        ⊎_elim (λ t. let lt = ltb→lt j k t in differs j Less d h (λ q. cc) (p.0 j d (omega arith) lt))
        (λ t. let ge = nltb→le j k t in differs j Greater d h (λ q. cc) (p.1 j d ge h)) (T-dec (ltb j k))

    no-place : ((j : ℕ) → j < length l → get_or (map v l) j 0 ≢ i) → place (map v l) i ≡ length l
    no-place n = place_is (map v l) i (length l) n (omega (arith, length-map l v)) (λ z. absurd (omega (arith, length-map l v)))

    pub searched-place : (found : Result ℕ ℕ) → IsSearchInRange found (length l) → IsBinarySearchResult (λ y. nat_cmp (v y) i) l found
        → as_option (result_ok found) ≡ place_below (place (map v l) i) (length l)
    searched-place (Ok k) w h =
        let d = element l k w in
        let e = exact_unsigned (v (get_or l k d)) i (h d) in
        let at : place (map v l) i ≡ k =
        place_is (map v l) i k (λ j lt q. let m = rises (map v l) r j k lt (omega (arith, length-map l v)) in absurd (omega (arith, value-at k d w)))
        (omega (arith, length-map l v)) (λ z. sym (value-at k d w) ∙ e) in
        rw (at, lt-ltb k (length l) w)
    searched-place (Err k) w h =
        let at = no-place (no-number k (h sorted)) in
        rw (at, le-ltb (length l) (length l) (omega arith))

-- so it finds one that is there, and no other
value : Option ℕ → ℕ
value none = 0
value (some k) = k

as-some : (o : Optional ℕ) (k : ℕ) → as_option o ≡ some k → o ≡ Some k
unfolding value
as-some None k e = absurd (some-ne-none _ (sym e))
as-some (Some j) k e = ap Some (ap value e)

pub some-one : {j k : ℕ} → ◌≡◌ {A = Optional ℕ} (Some j) (Some k) → j ≡ k
some-one e = ap (λ (o : Optional ℕ). unwrap_or o 0) e

as-none : (o : Optional ℕ) → as_option o ≡ none → o ≡ None
as-none None e = refl
as-none (Some j) e = absurd (some-ne-none _ e)

module _ (l : List ℕ) (i n : ℕ) (o : Optional ℕ) (e : n ≡ length l) (f : as_option o ≡ place_below (place l i) n) where
  pub found-present : T (mem i l) → o ≡ Some (place l i)
  found-present t = as-some o (place l i) (f ∙ ap (λ (b : Bool). cond b (some (place l i)) none) (lt-ltb (place l i) n (omega (arith, (place-present l i t).0))))

  found-absent : T (not (mem i l)) → o ≡ None
  found-absent t = as-none o (f ∙ ap (λ (b : Bool). cond b (some (place l i)) none) (le-ltb (place l i) n (omega (arith, place-absent l i t))))

  pub found-member : is_some o ≡ mem i l
  found-member = ⊎_elim (λ t. rw (found-present t, T_true (mem i l) t) refl) (λ t. rw (found-absent t, T_false (mem i l) t) refl) (T-dec (mem i l))
