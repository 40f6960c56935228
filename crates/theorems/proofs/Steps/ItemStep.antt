-- The four ways in which an item's step can go. Assumes nothing.
use Prim.Native.Nat.{ℕ}
use mathlib.Core.Path.{◌≡◌, refl}
use mathlib.Core.Bool.{true}
use mathlib.Core.Option.{Option, none, some}
use Rattle.rules.specs.Lists.{any}
use Rattle.rules.specs.State.{State, Step, went, emptied, unless}
use Rattle.rules.specs.Redundant.{chosen, state_without, remove_item}
use Rattle.rules.specs.Blocked.{condemned, state_spared, delete_blocked}
use Rattle.rules.specs.Rounds.{step_for, item_step}
use Rattle.theorems.proofs.Steps.Redundancy.{emptied_with}
use Rattle.theorems.proofs.Steps.Blocking.{emptied_blocked}

-- c is redundant for p and goes, or that empties an item; c is not redundant and the blocked options go, or that empties an item
pub data Goes (np c : ℕ) (s : State) : Step → Type 0 where
  removal : {p : ℕ} → chosen np s c ≡ some p → emptied_with np c p s ≡ none → Goes np c s (went (state_without c p s) true)
  removal-empties : {p q : ℕ} → chosen np s c ≡ some p → emptied_with np c p s ≡ some q → Goes np c s (emptied q 2)
  deletion : chosen np s c ≡ none → emptied_blocked np c s ≡ none → Goes np c s (went (state_spared np s c) (any (condemned np s c) s))
  deletion-empties : {q : ℕ} → chosen np s c ≡ none → emptied_blocked np c s ≡ some q → Goes np c s (emptied q 3)

pub goes : (np c : ℕ) (s : State) → Goes np c s (item_step np c s)
unfolding item_step remove_item delete_blocked
goes np c s = go (chosen np s c) refl
  where
    out : (p : ℕ) → chosen np s c ≡ some p → (o : Option ℕ) → emptied_with np c p s ≡ o → Goes np c s (unless o 2 (went (state_without c p s) true))
    out p h none e = removal h e
    out p h (some q) e = removal-empties h e

    stay : chosen np s c ≡ none → (o : Option ℕ) → emptied_blocked np c s ≡ o → Goes np c s (unless o 3 (went (state_spared np s c) (any (condemned np s c) s)))
    stay h none e = deletion h e
    stay h (some q) e = deletion-empties h e

    go : (o : Option ℕ) → chosen np s c ≡ o → Goes np c s (step_for np c s o)
    go none h = stay h (emptied_blocked np c s) refl
    go (some p) h = out p h (emptied_with np c p s) refl
