-- Checks 19 to 22, option by option. When the options below k have passed, what is left of the check is the same check of the options from k
-- on, and every mark is below that of the next option. Assumes nothing.
use Prim.Native.Nat.{ℕ, zero, suc, ◌+◌, ◌<◌, ◌≤◌}
use native.Mathlib.Omega.{arith}
use native.Mathlib.Numerals.{add-one}
use mathlib.Core.Path.{◌≡◌, refl, ◌∙◌}
use mathlib.Core.List.{List, [], ◌∷◌}
use mathlib.Core.Option.{none, some}
use lib.ListN.{length, get_or, replicate, drop, drop_of_length-le}
use lib.Seq.{slice, drop-cons, length-slice}
use Rattle.rules.specs.Problem.{entries_of, cut}
use Rattle.rules.specs.Checks.{Refusal, check_option, check_options}
use Rattle.theorems.proofs.Checks.Cutting.{Ascend, rise, length-entries_of, check16→}
use Rattle.checking.specs.Marks.{BelowMark}
use Rattle.checking.specs.Checkable.{Checkable}

-- the first of ends that rise
first-rises : {E a b : ℕ} {ends : List ℕ} → Ascend E a (b ∷ ends) → (a ≤ b) × (b ≤ E) × Ascend E b ends
first-rises (rise h l r) = (h, l, r)

-- The options below k have passed; `begin` is the end of the last of them.
pub record Past (np n most : ℕ) (items colours ends marks : List ℕ) (k begin : ℕ) : Type 0 where
  pub bound : k ≤ length ends
  pub below : BelowMark (k + 1) marks
  pub rises : Ascend (length items) begin (drop k ends)
  pub same : check_options np n most 0 (cut 0 ends (entries_of items colours)) ≡ check_options np n most begin (cut begin (drop k ends) (entries_of items colours))

-- marks that are all 0
pub unmarked : (m : ℕ) → BelowMark 1 (replicate m 0)
unmarked zero i = omega arith
unmarked (suc m) zero = omega arith
unmarked (suc m) (suc i) = unmarked m i

module _ (np n most : ℕ) (items colours ends : List ℕ) (C : Checkable n items colours ends) where
  pub options-begin : (marks : List ℕ) → BelowMark 1 marks → Past np n most items colours ends marks 0 0
  options-begin marks B = record { bound = omega arith; below = B; rises = (check16→ (length items) ends C.ends-rise).0; same = refl }

  module _ (marks : List ℕ) (k begin : ℕ) (R : Past np n most items colours ends marks k begin) where
    pub options-passed : length ends ≤ k → check_options np n most 0 (cut 0 ends (entries_of items colours)) ≡ none
    options-passed h = let e : drop k ends ≡ [] = drop_of_length-le ends h in R.same ∙ rw e

    module _ (h : k < length ends) where
      ends-rise : (begin ≤ get_or ends k 0) × (get_or ends k 0 ≤ length items) × Ascend (length items) (get_or ends k 0) (drop (suc k) ends)
      ends-rise = first-rises (rw (drop-cons ends k 0 h) at R.rises)

      pub option-within : (begin ≤ get_or ends k 0) × (get_or ends k 0 ≤ length items)
      option-within = (ends-rise.0, ends-rise.1)

      pub options-refused : (r : Refusal) → check_option np n most begin [] (slice begin (get_or ends k 0) (entries_of items colours)) ≡ some r
          → check_options np n most 0 (cut 0 ends (entries_of items colours)) ≡ some r
      options-refused r e = R.same ∙ rw (drop-cons ends k 0 h, e)

      -- the place of the entry behind the option
      behind : begin + length (slice begin (get_or ends k 0) (entries_of items colours)) ≡ get_or ends k 0
      behind =
          let w = ends-rise in
          let p = w.0 in
          let q = w.1 in
          let m = length-entries_of items colours C.lengths in
          let l = length-slice begin (get_or ends k 0) (entries_of items colours) (omega arith) in
          omega arith

      pub options-next : (marks' : List ℕ) → BelowMark (k + 1 + 1) marks' → check_option np n most begin [] (slice begin (get_or ends k 0) (entries_of items colours)) ≡ none
          → Past np n most items colours ends marks' (k + 1) (get_or ends k 0)
      options-next marks' B e =
          record {
            bound = omega arith;
            below = B;
            rises = rw (add-one k) ends-rise.2;
            same = R.same ∙ rw (drop-cons ends k 0 h, e, behind, add-one k);
          }
