-- The walk over the items that looks for one that is not kept. Assumes nothing.
use Prim.Native.Nat.{ℕ, zero, suc, ◌+◌, ◌≤◌, ◌<◌}
use native.Mathlib.Omega.{arith}
use mathlib.Core.Path.{◌≡◌, refl, sym, ap, ◌∙◌}
use mathlib.Core.Bool.{Bool, true, false, not, cond}
use mathlib.Core.List.{List, [], ◌∷◌, map}
use mathlib.Core.Option.{none, some, some-ne-none}
use lib.Dec.{T}
use lib.ListN.{length, get_or, length-map}
use Rattle.std.specs.Prelude.{Option as Optional, Some, None, MatchOption}
use Rattle.std.specs.List.{AllWithin, HoldsAt}
use Rattle.std.proofs.lemmas.List.{get_or-map}
use Rattle.rules.specs.Lists.{mem}
use Rattle.rules.specs.Renumber.{not_kept}
use Rattle.theorems.proofs.Words.Tests.{T_true, T_false}
use Rattle.renumbering.specs.Parts.{as_option, AllKept}

-- the items before place k are kept
abbrev pub KeptBefore : List ℕ → List ℕ → ℕ → Type 0
KeptBefore kept items k = (j : ℕ) → j < k → T (mem (get_or items j 0) kept)

module _ (kept : List ℕ) where
  first-missing : (items : List ℕ) (s k : ℕ) → KeptBefore kept items k → k < length items → T (not (mem (get_or items k 0) kept)) → not_kept kept s items ≡ some (s + k)
  first-missing [] s k K h t = absurd (omega arith)
  first-missing (i ∷ items) s zero K h t = let e : s ≡ s + zero = omega arith in rw (T_false (mem i kept) t) (ap some e)
  first-missing (i ∷ items) s (suc k) K h t =
      let e : suc s + k ≡ s + suc k = omega arith in
      rw (T_true (mem i kept) (K 0 (omega arith))) (first-missing items (suc s) k (λ j lt. K (suc j) (omega arith)) (omega arith) t ∙ ap some e)

  none-missing : (items : List ℕ) (s : ℕ) → AllKept kept items → not_kept kept s items ≡ none
  none-missing [] s K = refl
  none-missing (i ∷ items) s K = rw (T_true (mem i kept) (K 0 (omega arith))) (none-missing items (suc s) (λ j lt. K (suc j) (omega arith)))

  -- what `none` says
  pub all-kept : (items : List ℕ) (s : ℕ) → not_kept kept s items ≡ none → AllKept kept items
  all-kept [] s e k h = absurd (omega arith)
  all-kept (i ∷ items) s e k h = go (mem i kept) refl e (λ u. all-kept items (suc s) u) k h
    where
      go : (b : Bool) → mem i kept ≡ b → cond b (not_kept kept (suc s) items) (some s) ≡ none → (not_kept kept (suc s) items ≡ none → AllKept kept items)
          → (k : ℕ) → k < suc (length items) → T (mem (get_or (i ∷ items) k 0) kept)
      go true m e f zero h = rw m tt
      go true m e f (suc k) h = f e k (omega arith)
      go false m e f k h = absurd (some-ne-none _ e)

-- A search for the first item that is not kept, of a list of what stands for numbers.
module _ {A : Type 0} (v : A → ℕ) (kept : List ℕ) where
  abbrev pub Kept : A → Type 0
  Kept x = T (mem (v x) kept)

  abbrev pub Lacking : A → Type 0
  Lacking x = T (not (mem (v x) kept))

  kept-before : (items : List A) (n : ℕ) → n ≤ length items → AllWithin Kept items 0 n → KeptBefore kept (map v items) n
  kept-before [] n h K j lt = absurd (omega arith)
  kept-before (x ∷ items) n h K j lt = rw (get_or-map v (x ∷ items) j x 0 (omega arith)) (K j x (omega arith) lt)

  pub missing-answer : (items : List A) (r : Optional ℕ)
      → MatchOption r (AllWithin Kept items 0 (length items)) (λ k. (k < length items) × HoldsAt Lacking items k × AllWithin Kept items 0 k)
      → as_option r ≡ not_kept kept 0 (map v items)
  missing-answer items None K = sym (none-missing kept (map v items) 0 (λ k h. kept-before items (length items) (omega arith) K k (omega (arith, length-map items v))))
  missing-answer [] (Some k) K = absurd (omega (arith, K.0))
  missing-answer (x ∷ items) (Some k) K =
      let e : 0 + k ≡ k = omega arith in
      sym (first-missing kept (map v (x ∷ items)) 0 k (kept-before (x ∷ items) k (omega (arith, K.0)) K.2) (omega (arith, K.0, length-map (x ∷ items) v))
      (rw (get_or-map v (x ∷ items) k x 0 K.0) (K.1 x)) ∙ ap some e)
