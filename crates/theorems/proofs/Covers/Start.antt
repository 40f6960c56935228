-- The covers of a problem are those of its start, and there are none if a primary item is in no live option there. Assumes nothing.
use Prim.Native.Nat.{ℕ, ◌≤◌}
use native.Mathlib.Omega.{arith}
use mathlib.Core.Path.{◌≡◌, sym, subst, ◌∙◌}
use mathlib.Core.Logic.{◌↔◌}
use mathlib.Core.List.{List, Memᴰ as In}
use mathlib.Core.Option.{none, some}
use lib.Dec.{T, T_not}
use Rattle.rules.specs.Problem.{Entry, Problem}
use Rattle.rules.specs.State.{option_at, holds, holds_primary, in_live}
use Rattle.rules.specs.Rounds.{start, uncovered}
use Rattle.rules.specs.Cover.{Cover}
use Rattle.theorems.proofs.Words.Lists.{up_to-In}
use Rattle.theorems.proofs.Steps.States.{holds-primary, at-live}
use Rattle.theorems.proofs.Steps.Start.{start-same, start-primary, start-at, none-uncovered, uncovered→}
use Rattle.theorems.proofs.Covers.State.{StateCover, cover-same}

module _ (a : Problem) (fits : a.np ≤ a.n) (ks : List ℕ) where
  -- the options of a cover start live
  cover-start : Cover a ks → StateCover a.np (start a) ks
  unfolding Cover
  cover-start C =
      cover-same C
      (λ q lt t. up_to-In a.n (omega arith))
      (λ k m. sym (start-at a k ∙ start-same a.np (option_at a.options k) (C.primary k m)))

  start-cover : uncovered a.np (start a) ≡ none → StateCover a.np (start a) ks → Cover a ks
  unfolding Cover
  start-cover e C =
      cover-same C
      (λ q lt m. none-uncovered a.np (start a) e q lt)
      (λ k m. start-at a k ∙ start-same a.np (option_at a.options k) (primary k m))
    where
      primary : (k : ℕ) → In k ks → T (holds_primary a.np (option_at a.options k))
      primary k m =
          start-primary a.np (option_at a.options k) (subst (λ (o : List Entry). T (holds_primary a.np o)) (start-at a k) (C.primary k m))

  pub covers-start : uncovered a.np (start a) ≡ none → Cover a ks ↔ StateCover a.np (start a) ks
  covers-start e = (λ C. cover-start C, λ C. start-cover e C)

  -- a cover of the problem would cover the uncovered item at the start
  pub no-cover-uncovered : {q : ℕ} → uncovered a.np (start a) ≡ some q → Cover a ks → ⊥
  unfolding Cover
  no-cover-uncovered {q} e C =
      let u = uncovered→ a.np (start a) e in
      let lt = u.0 in
      let w = C.covered q lt (up_to-In a.n (omega arith)) in
      let o = option_at a.options w.0 in
      let same : option_at (start a) w.0 ≡ o = start-at a w.0 ∙ start-same a.np o (holds-primary a.np q o lt w.2) in
      T_not (in_live q (start a)) u.1 (at-live q (start a) w.0 (subst (λ (v : List Entry). T (holds q v)) (sym same) w.2))
