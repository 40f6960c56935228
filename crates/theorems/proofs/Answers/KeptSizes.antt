-- A result is no larger than its state: so many items, options and entries at most. Assumes nothing.
use Prim.Native.Nat.{ℕ, suc, ◌+◌, ◌≤◌}
use native.Mathlib.Omega.{arith}
use mathlib.Core.Path.{◌≡◌, refl, sym, ap, ◌∙◌}
use mathlib.Core.Bool.{not}
use mathlib.Core.List.{List, [], ◌∷◌, ◌++◌}
use lib.Dec.{T, ltb}
use lib.ListN.{length}
use Rattle.rules.specs.Lists.{each, up_to}
use Rattle.rules.specs.Problem.{Entry}
use Rattle.rules.specs.State.{State, is, begins, in_live}
use Rattle.rules.specs.Result.{Numbered, numbered, kept_items, primaries_of, secondaries_of, kept_options}
use Rattle.theorems.proofs.Words.Counts.{length-keep}
use Rattle.theorems.proofs.Words.Lists.{length_from}
use Rattle.theorems.proofs.Steps.LiveOptions.{begins-first}
use Rattle.theorems.proofs.Words.Rising.{from-rises, rising-distinct}
use Rattle.theorems.proofs.Answers.CountRow.{count_kept, count-below, count-not-below}
use Rattle.theorems.proofs.Answers.EachFacts.{each-single, buckets-most}

-- numbering changes no option
pub each-numbered : {B : Type 0} (g : List Entry → List B) (k : ℕ) (s : State) → each (λ x. g x.entries) (numbered k s) ≡ each g s
each-numbered g k [] = refl
each-numbered {B} g k (o ∷ s) = ap (λ (r : List B). g o ++ r) (each-numbered g (suc k) s)

pub length-numbered : (k : ℕ) (s : State) → length (numbered k s) ≡ length s
length-numbered k [] = refl
length-numbered k (o ∷ s) = ap suc (length-numbered (suc k) s)

module _ (n : ℕ) (s : State) where
  pub items-most : length (kept_items n s) ≤ n
  unfolding kept_items
  items-most = let h = length-keep (λ c. in_live c s) (up_to n) in let l = length_from 0 n in omega arith

  pub primaries-most : (np : ℕ) → np ≤ n → primaries_of np (kept_items n s) ≤ np
  unfolding kept_items
  primaries-most np h = let a = count_kept (λ c. in_live c s) (λ c. ltb c np) (up_to n) in let b = count-below np n h in omega arith

  pub secondaries-most : (np ns : ℕ) → np + ns ≡ n → secondaries_of np (kept_items n s) ≤ ns
  unfolding kept_items
  secondaries-most np ns h = let a = count_kept (λ c. in_live c s) (λ c. not (ltb c np)) (up_to n) in let b = count-not-below np ns n h in omega arith

  -- what is made of the kept options is no more than what is made of all options
  kept-most : {B : Type 0} (g : Numbered → List B) → length (each g (kept_options n s)) ≤ length (each g (numbered 0 s))
  unfolding kept_options
  kept-most g = buckets-most g (λ c x. begins (is c) x.entries) one (up_to n) (rising-distinct (up_to n) (from-rises 0 n)) (numbered 0 s)
    where
      one : (c d : ℕ) (x : Numbered) → T (begins (is c) x.entries) → T (begins (is d) x.entries) → c ≡ d
      one c d x t u = sym (begins-first c x.entries t) ∙ begins-first d x.entries u

  pub options-most : length (kept_options n s) ≤ length s
  options-most =
      let h = kept-most (λ x. x ∷ []) in
      let a = ap (λ (l : List Numbered). length l) (each-single (kept_options n s)) in
      let b = ap (λ (l : List Numbered). length l) (each-single (numbered 0 s)) in
      let d = length-numbered 0 s in
      omega arith

  pub entries-most : length (each (λ x. x.entries) (kept_options n s)) ≤ length (each (λ o. o) s)
  entries-most = rw (← each-numbered (λ o. o) 0 s) (kept-most (λ x. x.entries))
