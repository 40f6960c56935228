-- The lengths of the columns are counters: a node that is taken out takes one off its column's. So the last column that nodes taken one after
-- another empty, and the first, is what a walk with counters finds. Assumes nothing.
use Prim.Native.Nat.{ℕ, ◌+◌, ◌-◌, ◌<◌, ◌≤◌}
use native.Mathlib.Omega.{arith}
use mathlib.Core.Path.{◌≡◌, refl, ◌∙◌, ap, sym}
use mathlib.Core.Logic.{⊎_elim, ◌≢◌}
use mathlib.Core.Bool.{Bool, true, false, ◌&&◌, cond}
use mathlib.Core.List.Memᴰ.{head as here}
use mathlib.Core.List.Memᴰ.{tail as next}
use mathlib.Core.List.{List, [], ◌∷◌, map, Memᴰ as In}
use mathlib.Core.Option.{Option, none, some}
use borrow.Author.Tests.{eq-eqb, ne_eqb}
use lib.Dec.{leb, eqb, eqb→eq}
use lib.ListN.{length, get_or-eq_default}
use lib.Seq.{get_or-set_same, get_or-set_other, set_out}
use lib.IntN.{ℤ, pos}
use Rattle.rules.specs.Lists.{or_else}
use Rattle.theorems.proofs.Words.Tests.{T-same, eq→eqb}
use Rattle.theorems.proofs.Laws.Counters.{less, counted_first, counted_last}
use Rattle.links.specs.Head.{item_of, head}
use Rattle.links.specs.Ground.{Ground, cut_heads, cut_one}
use Rattle.links.specs.Taking.{length_of, empties_at, last_out, first_out}
use Rattle.links.proofs.Stores.{same?, less?}
use Rattle.showing.specs.Showing.{column_or}
use Rattle.showing.proofs.Shows.{item_at}

-- what an answer says of what was found
pub found_none : (o : Option ℕ) → column_or 0 o ≡ 0 → o ≡ none
found_none none e = refl
found_none (some q) e = absurd (omega arith)

pub found_some : (o : Option ℕ) → column_or 0 o ≢ 0 → o ≡ some (column_or 0 o - 1)
found_some none n = absurd (n refl)
found_some (some q) n = let e : q ≡ q + 1 - 1 = omega arith in ap some e

-- one off the length of x's column
pub length_cut : (g : Ground) (x i : ℕ) → length_of (cut_one g x) i ≡ cond (eqb i (g.plan.col x)) (length_of g i - 1) (length_of g i)
unfolding cut_one
length_cut g x i = ⊎_elim own other (same? i (g.plan.col x))
  where
    own : i ≡ g.plan.col x → item_of (head (cut_heads g x) i) ≡ cond (eqb i (g.plan.col x)) (length_of g i - 1) (length_of g i)
    own e = rw e (rw (eq-eqb (g.plan.col x) (g.plan.col x) refl) (⊎_elim inside past (less? (g.plan.col x) (length g.heads))))
      where
        inside : g.plan.col x < length g.heads → item_of (head (cut_heads g x) (g.plan.col x)) ≡ length_of g (g.plan.col x) - 1
        inside h = ap item_of (get_or-set_same g.heads (g.plan.col x) (pos (item_of (head g.heads (g.plan.col x)) - 1)) (pos 0) h)

        past : length g.heads ≤ g.plan.col x → item_of (head (cut_heads g x) (g.plan.col x)) ≡ length_of g (g.plan.col x) - 1
        past h =
            let z : length_of g (g.plan.col x) ≡ 0 = ap item_of (get_or-eq_default g.heads (pos 0) h) in
            ap (λ (l : List ℤ). item_of (head l (g.plan.col x))) (set_out g.heads (g.plan.col x) (pos (item_of (head g.heads (g.plan.col x)) - 1)) h) ∙ omega arith

    other : i ≢ g.plan.col x → item_of (head (cut_heads g x) i) ≡ cond (eqb i (g.plan.col x)) (length_of g i - 1) (length_of g i)
    other n = rw (ne_eqb i (g.plan.col x) n) (ap item_of (get_or-set_other g.heads (g.plan.col x) i (pos (item_of (head g.heads (g.plan.col x)) - 1)) (pos 0) n))

-- The items in question are the primary ones, as far as the nodes go, and the counters say the lengths of the nodes' columns.
pub record Counted (np : ℕ) (which : ℕ → Bool) (g : Ground) (cnt : ℕ → ℕ) (x : ℕ) : Type 0 where
  pub column : 0 < g.plan.col x
  pub primary : which (item_at g.plan x) ≡ leb (g.plan.col x) np
  pub counter : length_of g (g.plan.col x) ≡ cnt (item_at g.plan x)

and-swap : (a b : Bool) → (a && b) ≡ (b && a)
and-swap true true = refl
and-swap true false = refl
and-swap false true = refl
and-swap false false = refl

module _ (np : ℕ) (which : ℕ → Bool) where
  -- they still do when one was taken out
  counted-cut : (g : Ground) (cnt : ℕ → ℕ) (x y : ℕ) → Counted np which g cnt x → Counted np which g cnt y → Counted np which (cut_one g x) (less cnt (item_at g.plan x)) y
  unfolding cut_one
  counted-cut g cnt x y a b = record { column = b.column; primary = b.primary; counter = counter }
    where
      same : eqb (g.plan.col y) (g.plan.col x) ≡ eqb (item_at g.plan y) (item_at g.plan x)
      same =
          T-same (eqb (g.plan.col y) (g.plan.col x)) (eqb (item_at g.plan y) (item_at g.plan x))
          (λ t. eq→eqb (item_at g.plan y) (item_at g.plan x) (ap (λ (i : ℕ). i - 1) (eqb→eq (g.plan.col y) (g.plan.col x) t)))
          (λ t. eq→eqb (g.plan.col y) (g.plan.col x) (omega (arith, eqb→eq (item_at g.plan y) (item_at g.plan x) t, a.column, b.column)))

      counter : length_of (cut_one g x) (g.plan.col y) ≡ less cnt (item_at g.plan x) (item_at g.plan y)
      counter =
          length_cut g x (g.plan.col y)
          ∙ ap (λ (t : Bool). cond t (length_of g (g.plan.col y) - 1) (length_of g (g.plan.col y))) same
          ∙ ap (λ (l : ℕ). cond (eqb (item_at g.plan y) (item_at g.plan x)) (l - 1) l) b.counter

  empties : (g : Ground) (cnt : ℕ → ℕ) (x : ℕ) → Counted np which g cnt x → empties_at g np x ≡ (which (item_at g.plan x) && eqb (cnt (item_at g.plan x) - 1) 0)
  empties g cnt x a =
      ap (λ (l : ℕ). eqb (l - 1) 0 && leb (g.plan.col x) np) a.counter
      ∙ ap (λ (b : Bool). eqb (cnt (item_at g.plan x) - 1) 0 && b) (sym a.primary)
      ∙ and-swap (eqb (cnt (item_at g.plan x) - 1) 0) (which (item_at g.plan x))

  pub last-counted : (g : Ground) (cnt : ℕ → ℕ) (xs : List ℕ) (z : ℕ) → ((x : ℕ) → In x xs → Counted np which g cnt x)
      → last_out g np xs z ≡ column_or z (counted_last which cnt (map (item_at g.plan) xs))
  unfolding cut_one
  last-counted g cnt [] z h = refl
  last-counted g cnt (x ∷ xs) z h =
      last-counted (cut_one g x) (less cnt (item_at g.plan x)) xs (cond (empties_at g np x) (g.plan.col x) z) (λ y m. counted-cut g cnt x y (h x (here refl)) (h y (next m)))
      ∙ ap (λ (b : Bool). column_or (cond b (g.plan.col x) z) (counted_last which (less cnt (item_at g.plan x)) (map (item_at g.plan) xs))) (empties g cnt x (h x (here refl)))
      ∙ go (counted_last which (less cnt (item_at g.plan x)) (map (item_at g.plan) xs)) (which (item_at g.plan x) && eqb (cnt (item_at g.plan x) - 1) 0)
    where
      go : (o : Option ℕ) (b : Bool) → column_or (cond b (g.plan.col x) z) o ≡ column_or z (or_else o (cond b (some (item_at g.plan x)) none))
      go none true = omega (arith, (h x (here refl)).column)
      go none false = refl
      go (some q) b = refl

  pub first_counted : (g : Ground) (cnt : ℕ → ℕ) (xs : List ℕ) → ((x : ℕ) → In x xs → Counted np which g cnt x)
      → first_out g np xs ≡ column_or 0 (counted_first which cnt (map (item_at g.plan) xs))
  unfolding cut_one
  first_counted g cnt [] h = refl
  first_counted g cnt (x ∷ xs) h =
      ap (λ (r : ℕ). cond (empties_at g np x) (g.plan.col x) r) (first_counted (cut_one g x) (less cnt (item_at g.plan x)) xs (λ y m. counted-cut g cnt x y (h x (here refl)) (h y (next m))))
      ∙ ap (λ (b : Bool). cond b (g.plan.col x) (column_or 0 (counted_first which (less cnt (item_at g.plan x)) (map (item_at g.plan) xs)))) (empties g cnt x (h x (here refl)))
      ∙ go (counted_first which (less cnt (item_at g.plan x)) (map (item_at g.plan) xs)) (which (item_at g.plan x) && eqb (cnt (item_at g.plan x) - 1) 0)
    where
      go : (o : Option ℕ) (b : Bool) → cond b (g.plan.col x) (column_or 0 o) ≡ column_or 0 (cond b (some (item_at g.plan x)) o)
      go o true = omega (arith, (h x (here refl)).column)
      go o false = refl
