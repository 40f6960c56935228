-- The start: which options start live, when every primary item is in a live option, and what is found then. Assumes nothing.
use Prim.Native.Nat.{ℕ, ◌<◌}
use mathlib.Core.Path.{◌≡◌, refl}
use mathlib.Core.Bool.{Bool, true, false, not, cond}
use mathlib.Core.List.{List, [], Memᴰ as In}
use mathlib.Core.Option.{Option, none, some}
use lib.Dec.{T, T_not, not_T}
use lib.ListN.{get_or-map}
use mir.Facts.{T_not-not}
use Rattle.rules.specs.Lists.{up_to}
use Rattle.rules.specs.Problem.{Entry, Problem}
use Rattle.rules.specs.State.{State, option_at, holds_primary, in_live}
use Rattle.rules.specs.Rounds.{Finding, infeasible, start, uncovered, rounds, unless_uncovered, reduce}
use Rattle.theorems.proofs.Words.Tests.{T_true, true-T}
use Rattle.theorems.proofs.Words.Lists.{map-has, map_same, In-up_to, up_to-In}
use Rattle.theorems.proofs.Words.Choices.{first_that→, first_that-none, none-first_that}

-- an option starts live if it holds a primary item
abbrev pub start_of : ℕ → List Entry → List Entry
start_of np o = cond (holds_primary np o) o []

pub start-same : (np : ℕ) (o : List Entry) → T (holds_primary np o) → start_of np o ≡ o
start-same np o t = rw (T_true (holds_primary np o) t)

pub start-primary : (np : ℕ) (o : List Entry) → T (holds_primary np (start_of np o)) → T (holds_primary np o)
start-primary np o t = go (holds_primary np o) refl t
  where
    go : (b : Bool) → holds_primary np o ≡ b → T (holds_primary np (cond b o [])) → T (holds_primary np o)
    go true e u = u
    go false e u = absurd u

pub start-at : (a : Problem) (k : ℕ) → option_at (start a) k ≡ start_of a.np (option_at a.options k)
unfolding start
start-at a k = get_or-map (start_of a.np) a.options k []

-- what holds of none, and of every option that holds a primary item, holds of those at the start
pub start_has : (a : Problem) (P : List Entry → Type 0) → P [] → ((o : List Entry) → In o a.options → T (holds_primary a.np o) → P o) → (o : List Entry) → In o (start a) → P o
unfolding start
start_has a P nil h = map-has (start_of a.np) a.options P (λ o m. go o m (holds_primary a.np o) refl)
  where
    go : (o : List Entry) → In o a.options → (b : Bool) → holds_primary a.np o ≡ b → P (cond b o [])
    go o m true e = h o m (true-T e)
    go o m false e = nil

-- the start is the problem's options, if each holds a primary item
pub start-all : (a : Problem) → ((o : List Entry) → In o a.options → T (holds_primary a.np o)) → start a ≡ a.options
unfolding start
start-all a h = map_same (start_of a.np) a.options (λ o m. start-same a.np o (h o m))

-- None is uncovered exactly if every primary item is live; the one that is told of is not.
pub none-uncovered : (np : ℕ) (s : State) → uncovered np s ≡ none → (q : ℕ) → q < np → T (in_live q s)
unfolding uncovered
none-uncovered np s e q lt = T_not-not (in_live q s) (first_that-none (λ q. not (in_live q s)) (up_to np) e (up_to-In np lt))

pub all-covered : (np : ℕ) (s : State) → ((q : ℕ) → q < np → T (in_live q s)) → uncovered np s ≡ none
unfolding uncovered
all-covered np s h = none-first_that (λ q. not (in_live q s)) (up_to np) (λ q m. not_T (not (in_live q s)) (λ t. T_not (in_live q s) t (h q (In-up_to np m))))

pub uncovered→ : (np : ℕ) (s : State) {q : ℕ} → uncovered np s ≡ some q → (q < np) × T (not (in_live q s))
unfolding uncovered
uncovered→ np s e = let w = first_that→ (λ q. not (in_live q s)) (up_to np) e in (In-up_to np w.0, w.1)

-- What is found: an item uncovered at the start, or what the rounds from there come to.
pub reduce-by : (a : Problem) (cap : ℕ) (P : Finding → Type 0) → ((q : ℕ) → uncovered a.np (start a) ≡ some q → P (infeasible q 1 0))
    → (uncovered a.np (start a) ≡ none → P (rounds a.np a.n cap 0 (start a))) → P (reduce a cap)
unfolding reduce
reduce-by a cap P missed begun = go (uncovered a.np (start a)) refl
  where
    go : (o : Option ℕ) → uncovered a.np (start a) ≡ o → P (unless_uncovered o (rounds a.np a.n cap 0 (start a)))
    go none e = begun e
    go (some q) e = missed q e
