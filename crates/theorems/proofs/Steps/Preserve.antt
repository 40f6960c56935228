-- A step at a time: what holds of both kinds of step holds of an item's step, of a round, of the rounds and of what is found. R relates the
-- state before to the state after; E says what an emptied item means for the state before. Assumes nothing.
use Prim.Native.Nat.{ℕ, zero, suc}
use mathlib.Core.Path.{◌≡◌, refl}
use mathlib.Core.Bool.{Bool, true, false, ◌||◌}
use mathlib.Core.List.{List, [], ◌∷◌}
use mathlib.Core.Option.{none, some}
use lib.Dec.{T}
use Rattle.rules.specs.Lists.{up_to}
use Rattle.rules.specs.Problem.{Problem}
use Rattle.rules.specs.State.{State, Step, went, emptied, in_live}
use Rattle.rules.specs.Redundant.{chosen, state_without}
use Rattle.rules.specs.Blocked.{state_spared}
use Rattle.rules.specs.Rounds.{Finding, reduced, infeasible, start, uncovered, item_step, and_then, item_steps, round, after_round, rounds, reduce}
use Rattle.theorems.proofs.Steps.Redundancy.{Redundant, chosen→, emptied_with}
use Rattle.theorems.proofs.Steps.Blocking.{emptied_blocked}
use Rattle.theorems.proofs.Steps.ItemStep.{Goes, removal, removal-empties, deletion, deletion-empties, goes}
use Rattle.theorems.proofs.Steps.Start.{reduce-by}

abbrev pub StepIs : (State → State → Type 0) → (State → ℕ → ℕ → Type 0) → State → Step → Type 0
StepIs R E s (went s' removed) = R s s'
StepIs R E s (emptied q cause) = E s q cause

abbrev pub FindingIs : (State → State → Type 0) → (State → ℕ → ℕ → Type 0) → State → Finding → Type 0
FindingIs R E s (reduced s' r settled) = R s s'
FindingIs R E s (infeasible q cause r) = E s q cause

-- What has to be shown of the two kinds of step.
pub record Kept (np : ℕ) (R : State → State → Type 0) (E : State → ℕ → ℕ → Type 0) : Type 0 where
  pub same : (s : State) → R s s
  pub then : (s t u : State) → R s t → R t u → R s u
  pub late : (s t : State) (q cause : ℕ) → R s t → E t q cause → E s q cause
  pub without : (c p : ℕ) (s : State) → T (in_live c s) → Redundant np s c p → emptied_with np c p s ≡ none → R s (state_without c p s)
  pub without-emptied : (c p q : ℕ) (s : State) → T (in_live c s) → Redundant np s c p → emptied_with np c p s ≡ some q → E s q 2
  pub spared : (c : ℕ) (s : State) → chosen np s c ≡ none → emptied_blocked np c s ≡ none → R s (state_spared np s c)
  pub spared-emptied : (c q : ℕ) (s : State) → chosen np s c ≡ none → emptied_blocked np c s ≡ some q → E s q 3

module _ {np : ℕ} {R : State → State → Type 0} {E : State → ℕ → ℕ → Type 0} (K : Kept np R E) where
  pub step_is : (c : ℕ) (s : State) → T (in_live c s) → StepIs R E s (item_step np c s)
  step_is c s t = go (goes np c s)
    where
      go : {x : Step} → Goes np c s x → StepIs R E s x
      go (removal {p} h e) = K.without c p s t (chosen→ np s c h) e
      go (removal-empties {p} {q} h e) = K.without-emptied c p q s t (chosen→ np s c h) e
      go (deletion h e) = K.spared c s h e
      go (deletion-empties {q} h e) = K.spared-emptied c q s h e

  pub steps-are : (cs : List ℕ) (s : State) (removed : Bool) → StepIs R E s (item_steps np cs s removed)
  unfolding item_steps
  steps-are [] s removed = K.same s
  steps-are (c ∷ cs) s removed = live (in_live c s) refl (λ s' b. steps-are cs s' b)
    where
      more : (x : Step) → StepIs R E s x → ((s' : State) (b : Bool) → StepIs R E s' (item_steps np cs s' b)) → StepIs R E s (and_then x (λ s' b. item_steps np cs s' (removed || b)))
      more (went s' b) h r = pass (item_steps np cs s' (removed || b)) (r s' (removed || b))
        where
          pass : (y : Step) → StepIs R E s' y → StepIs R E s y
          pass (went s'' b') k = K.then s s' s'' h k
          pass (emptied q cause) k = K.late s s' q cause h k
      more (emptied q cause) h r = h

      live : (b : Bool) → in_live c s ≡ b → ((s' : State) (b : Bool) → StepIs R E s' (item_steps np cs s' b))
          → StepIs R E s (and_then (elim b [ true ↦ item_step np c s | false ↦ went s false ]) (λ s' b. item_steps np cs s' (removed || b)))
      live true e r = more (item_step np c s) (step_is c s (rw e tt)) r
      live false e r = more (went s false) (K.same s) r

  pub round_is : (n : ℕ) (s : State) → StepIs R E s (round np n s)
  unfolding round
  round_is n s = steps-are (up_to n) s false

  pub rounds-are : (n left r : ℕ) (s : State) → FindingIs R E s (rounds np n left r s)
  unfolding rounds
  rounds-are n zero r s = K.same s
  rounds-are n (suc left) r s = go (round np n s) (round_is n s) (λ s'. rounds-are n left (suc r) s')
    where
      go : (x : Step) → StepIs R E s x → ((s' : State) → FindingIs R E s' (rounds np n left (suc r) s')) → FindingIs R E s (after_round x (suc r) (λ s'. rounds np n left (suc r) s'))
      go (went s' true) h k = pass (rounds np n left (suc r) s') (k s')
        where
          pass : (y : Finding) → FindingIs R E s' y → FindingIs R E s y
          pass (reduced s'' r' b) k = K.then s s' s'' h k
          pass (infeasible q cause r') k = K.late s s' q cause h k
      go (went s' false) h k = h
      go (emptied q cause) h k = h

-- What is found: an item uncovered at the start, or what the rounds come to.
pub reduce-is : (a : Problem) {R : State → State → Type 0} {E : State → ℕ → ℕ → Type 0} → Kept a.np R E → (cap : ℕ) (P : Finding → Type 0)
    → ((q : ℕ) → uncovered a.np (start a) ≡ some q → P (infeasible q 1 0))
    → (uncovered a.np (start a) ≡ none → (x : Finding) → FindingIs R E (start a) x → P x) → P (reduce a cap)
reduce-is a K cap P missed begun = reduce-by a cap P missed (λ e. begun e (rounds a.np a.n cap 0 (start a)) (rounds-are K a.n cap 0 (start a)))
