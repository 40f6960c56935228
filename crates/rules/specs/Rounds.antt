-- An item's step, a round, and the rounds under a cap. Document 01, "The rounds". Assumes nothing.
use Rattle.std.specs.Prelude.{ℕ, zero, suc, Bool, true, false, not, ◌||◌, cond, List, [], ◌∷◌, map}
use Rattle.std.proofs.Math.Option.{Option, none, some}
use Rattle.rules.specs.Lists.{up_to, first_that}
use Rattle.rules.specs.Problem.{Problem}
use Rattle.rules.specs.State.{State, Step, went, emptied, holds_primary, in_live}
use Rattle.rules.specs.Redundant.{chosen, remove_item}
use Rattle.rules.specs.Blocked.{delete_blocked}

-- What the rounds find: the state they end in, how many were run, and whether it is settled; or infeasible, with the primary
-- item, the cause and the round.
pub data Finding : Type 0 where
  reduced : State → ℕ → Bool → Finding
  infeasible : ℕ → ℕ → ℕ → Finding

-- Options without a primary item (empty ones too) are skipped but keep their number. All others start live.
unfoldable pub start : Problem → State
start a = map (λ o. cond (holds_primary a.np o) o []) a.options

-- A primary item in no live option: the lowest such item
unfoldable pub uncovered : ℕ → State → Option ℕ
uncovered np s = first_that (λ q. not (in_live q s)) (up_to np)

-- An item's step: c is removed if it is redundant for some p, else the options that it shows to be blocked are deleted.
abbrev pub step_for : ℕ → ℕ → State → Option ℕ → Step
step_for np c s (some p) = remove_item np c p s
step_for np c s none = delete_blocked np c s

unfoldable pub item_step : ℕ → ℕ → State → Step
item_step np c s = step_for np c s (chosen np s c)

abbrev pub and_then : Step → (State → Bool → Step) → Step
and_then (went s removed) next = next s removed
and_then (emptied q cause) next = emptied q cause

-- A round takes items upward, each one that is then in a live option. `removed` says whether an item or an option was before.
unfoldable pub item_steps : ℕ → List ℕ → State → Bool → Step
item_steps np [] s removed = went s removed
item_steps np (c ∷ cs) s removed =
    and_then (elim (in_live c s) [ true ↦ item_step np c s | false ↦ went s false ]) (λ s' more. item_steps np cs s' (removed || more))

unfoldable pub round : ℕ → ℕ → State → Step
round np n s = item_steps np (up_to n) s false

-- A round that removed no item and no option ends the work: settled. r counts the rounds run, this one too.
abbrev pub after_round : Step → ℕ → (State → Finding) → Finding
after_round (went s true) r next = next s
after_round (went s false) r next = reduced s r true
after_round (emptied q cause) r next = infeasible q cause r

-- While fewer rounds than the cap have run; left: how many more may run, r: how many have run
unfoldable pub rounds : ℕ → ℕ → ℕ → ℕ → State → Finding
rounds np n zero r s = reduced s r false
rounds np n (suc left) r s = after_round (round np n s) (suc r) (λ s'. rounds np n left (suc r) s')

-- infeasible, cause 1, round 0, whatever the cap
abbrev pub unless_uncovered : Option ℕ → Finding → Finding
unless_uncovered none t = t
unless_uncovered (some q) t = infeasible q 1 0

unfoldable pub reduce : Problem → ℕ → Finding
reduce a cap =
    let s = start a in
    let t = rounds a.np a.n cap 0 s in
    unless_uncovered (uncovered a.np s) t
