-- The p to take is the one that a walk upward finds last: going through the options in their order, and round each from the entry after c,
-- it is the last item met that c is redundant for. Assumes nothing.
use Prim.Native.Nat.{ℕ, ◌≤◌}
use native.Mathlib.Omega.{arith}
use mathlib.Core.Path.{◌≡◌, sym, ◌∙◌}
use mathlib.Core.Logic.{◌⊎◌, inl, inr}
use mathlib.Core.Bool.{not, ◌&&◌}
use mathlib.Core.List.{[], Memᴰ as In}
use lib.Dec.{T, eqb, T_not, not_T}
use Rattle.rules.specs.Lists.{any, each, up_to, last_that}
use Rattle.rules.specs.State.{State, option_at, holds, around}
use Rattle.rules.specs.Redundant.{redundant_for, highest, chosen}
use Rattle.theorems.proofs.Words.Tests.{T-dec, T_and, and_T, T-same, eq→eqb}
use Rattle.theorems.proofs.Words.Lists.{any→, any←, up_to-In}
use Rattle.theorems.proofs.Words.Choices.{none-last_that, last_that-cong, last-part}
use Rattle.theorems.proofs.Steps.States.{holds-below, around→, around←}
use Rattle.theorems.proofs.Steps.Redundancy.{redundant→, highest-above, top, top_above, top-holds}

module _ (np : ℕ) (s : State) (c : ℕ) where
  -- no option above `top` holds a candidate
  below_top : (q k : ℕ) → T (redundant_for np s c q) → T (holds q (option_at s k)) → k ≤ top np s c
  below_top q k t h = let a = highest-above s q k h in let b = top_above np s c q t in omega arith

  -- in that option, the candidates are those whose highest option it is
  top-only : (q : ℕ) → In q (around c (option_at s (top np s c))) → redundant_for np s c q ≡ (redundant_for np s c q && eqb (highest s q) (top np s c))
  top-only q m =
      T-same (redundant_for np s c q) (redundant_for np s c q && eqb (highest s q) (top np s c))
      (λ t. and_T (redundant_for np s c q) (eqb (highest s q) (top np s c)) t (eq→eqb (highest s q) (top np s c) (same t)))
      (λ t. (T_and (redundant_for np s c q) (eqb (highest s q) (top np s c)) t).0)
    where
      same : T (redundant_for np s c q) → highest s q ≡ top np s c
      same t =
          let a = highest-above s q (top np s c) (around→ c (option_at s (top np s c)) m) in
          let b = top_above np s c q t in
          omega arith

  pub chosen-walk : last_that (redundant_for np s c) (each (around c) s) ≡ chosen np s c
  unfolding chosen
  chosen-walk = go (T-dec (any (redundant_for np s c) (up_to np)))
    where
      found : (p : ℕ) → T (redundant_for np s c p) → T (holds p (option_at s (top np s c))) → last_that (redundant_for np s c) (each (around c) s) ≡ chosen np s c
      found p t h =
          last-part (redundant_for np s c) (around c) s [] (top np s c) (holds-below p s (top np s c) h) (around← c (option_at s (top np s c)) h (redundant→ np s c p t).other) t
          (λ j i q m. not_T (redundant_for np s c q) (λ u. let b = below_top q j u (around→ c (option_at s j) m) in absurd (omega arith)))
          ∙ last_that-cong (redundant_for np s c) (λ q. redundant_for np s c q && eqb (highest s q) (top np s c)) (around c (option_at s (top np s c))) top-only

      go : T (any (redundant_for np s c) (up_to np)) ⊎ T (not (any (redundant_for np s c) (up_to np))) → last_that (redundant_for np s c) (each (around c) s) ≡ chosen np s c
      go (inl t) = let w = any→ (redundant_for np s c) (up_to np) t in let v = top-holds np s c w.0 w.2 in found v.0 v.1 v.3
      go (inr t) =
          none-last_that (redundant_for np s c) (each (around c) s) (λ q m. no q)
          ∙ sym (none-last_that (λ q. redundant_for np s c q && eqb (highest s q) (top np s c)) (around c (option_at s (top np s c)))
          (λ q m. not_T (redundant_for np s c q && eqb (highest s q) (top np s c))
          (λ u. T_not (redundant_for np s c q) (no q) (T_and (redundant_for np s c q) (eqb (highest s q) (top np s c)) u).0)))
        where
          no : (q : ℕ) → T (not (redundant_for np s c q))
          no q = not_T (redundant_for np s c q)
              (λ u. T_not (any (redundant_for np s c) (up_to np)) t (any← (redundant_for np s c) (up_to np) (up_to-In np (redundant→ np s c q u).primary) u))
