-- The finding tells how the last round run ended: settled, stopped by the cap, or infeasible. Assumes nothing.
use Prim.Native.Nat.{ℕ, zero, suc, ◌+◌, ◌-◌, ◌≤◌}
use native.Mathlib.Omega.{arith}
use mathlib.Core.Path.{◌≡◌, refl, sym, ap, subst, ◌∙◌}
use mathlib.Core.Logic.{◌⊎◌, inl, inr}
use mathlib.Core.Bool.{true, false}
use mathlib.Core.Option.{Option, some}
use Rattle.rules.specs.Problem.{Problem}
use Rattle.rules.specs.State.{State, Step, went, emptied}
use Rattle.rules.specs.Rounds.{Finding, reduced, infeasible, start, uncovered, round, after_round, rounds, unless_uncovered, reduce}
use Rattle.rules.specs.Promises.{Ran, none_yet, one_more, Starts, LastRound}
use Rattle.theorems.proofs.Steps.Start.{reduce-by}

-- How the rounds end, under a cap.
pub data Ends (np n cap : ℕ) (s₀ : State) : Finding → Type 0 where
  settles : {r : ℕ} {s s' : State} → suc r ≤ cap → Ran np n s₀ r s → round np n s ≡ went s' false → Ends np n cap s₀ (reduced s' (suc r) true)
  stops : {s : State} → Ran np n s₀ cap s → Ends np n cap s₀ (reduced s cap false)
  fails : {r q cause : ℕ} {s : State} → suc r ≤ cap → Ran np n s₀ r s → round np n s ≡ emptied q cause → Ends np n cap s₀ (infeasible q cause (suc r))

module _ (np n : ℕ) (s₀ : State) where
  -- r rounds have led to s, and left more may run
  pub ends-from : (cap left r : ℕ) (s : State) → r + left ≡ cap → Ran np n s₀ r s → Ends np n cap s₀ (rounds np n left r s)
  unfolding rounds
  ends-from cap zero r s h R =
      let e : cap ≡ r = omega arith in
      subst (λ (k : ℕ). Ends np n cap s₀ (reduced s k false)) e (stops (subst (λ (k : ℕ). Ran np n s₀ k s) (sym e) R))
  ends-from cap (suc left) r s h R = go (round np n s) refl (λ s' R'. ends-from cap left (suc r) s' (omega arith) R')
    where
      go : (x : Step) → round np n s ≡ x → ((s' : State) → Ran np n s₀ (suc r) s' → Ends np n cap s₀ (rounds np n left (suc r) s'))
          → Ends np n cap s₀ (after_round x (suc r) (λ s'. rounds np n left (suc r) s'))
      go (went s' true) e k = k s' (one_more R e)
      go (went s' false) e k = let l : suc r ≤ cap = omega arith in settles l R e
      go (emptied q cause) e k = let l : suc r ≤ cap = omega arith in fails l R e

  pub ends : (cap : ℕ) → Ends np n cap s₀ (rounds np n cap 0 s₀)
  ends cap = ends-from cap cap 0 s₀ (omega arith) none_yet

  -- the first rounds are run as `Ran` says
  pub along : {r : ℕ} {s : State} → Ran np n s₀ r s → (cap left : ℕ) → r + left ≡ cap → rounds np n cap 0 s₀ ≡ rounds np n left r s
  unfolding rounds
  along none_yet cap left h = let e : cap ≡ left = omega arith in ap (λ (k : ℕ). rounds np n k 0 s₀) e
  along (one_more {r} {s} R e) cap left h =
      along R cap (suc left) (omega arith) ∙ ap (λ (x : Step). after_round x (suc r) (λ s'. rounds np n left (suc r) s')) e

  pub ends_so : (cap : ℕ) {x : Finding} → Ends np n cap s₀ x → rounds np n cap 0 s₀ ≡ x
  unfolding rounds
  ends_so cap (settles {r} l R e) =
      along R cap (suc (cap - suc r)) (omega arith) ∙ ap (λ (x : Step). after_round x (suc r) (λ s'. rounds np n (cap - suc r) (suc r) s')) e
  ends_so cap (stops R) = along R cap 0 (omega arith)
  ends_so cap (fails {r} l R e) =
      along R cap (suc (cap - suc r)) (omega arith) ∙ ap (λ (x : Step). after_round x (suc r) (λ s'. rounds np n (cap - suc r) (suc r) s')) e

-- the finding, where the work starts and where it does not
pub reduce-starts : (a : Problem) (cap : ℕ) → Starts a → reduce a cap ≡ rounds a.np a.n cap 0 (start a)
unfolding reduce
reduce-starts a cap e = ap (λ (o : Option ℕ). unless_uncovered o (rounds a.np a.n cap 0 (start a))) e

pub reduce-uncovered : (a : Problem) (cap : ℕ) {q : ℕ} → uncovered a.np (start a) ≡ some q → reduce a cap ≡ infeasible q 1 0
unfolding reduce
reduce-uncovered a cap e = ap (λ (o : Option ℕ). unless_uncovered o (rounds a.np a.n cap 0 (start a))) e

-- Every finding, seen from its end.
pub data Found (a : Problem) (cap : ℕ) : Finding → Type 0 where
  uncovered-at : {q : ℕ} → uncovered a.np (start a) ≡ some q → Found a cap (infeasible q 1 0)
  ended : {x : Finding} → Starts a → Ends a.np a.n cap (start a) x → Found a cap x

pub found : (a : Problem) (cap : ℕ) → Found a cap (reduce a cap)
found a cap = reduce-by a cap (Found a cap) (λ q e. uncovered-at e) (λ e. ended e (ends a.np a.n (start a) cap))

pub found-so : (a : Problem) (cap : ℕ) {x : Finding} → Found a cap x → reduce a cap ≡ x
found-so a cap (uncovered-at e) = reduce-uncovered a cap e
found-so a cap (ended e E) = reduce-starts a cap e ∙ ends_so a.np a.n (start a) cap E

module _ (a : Problem) (cap : ℕ) where
  -- the last round run ended so: after r rounds in all, the last one from a state that the others led to
  abbrev Last : ℕ → Step → Type 0
  Last r x = (r' : ℕ) × (s' : State) × (r ≡ suc r') × (r ≤ cap) × Ran a.np a.n (start a) r' s' × (round a.np a.n s' ≡ x)

  settled→ : {s : State} {r : ℕ} → Found a cap (reduced s r true) → Starts a × Last r (went s false)
  settled→ (ended h (settles {r} {s} l R e)) = (h, (r, s, refl, l, R, e))

  settled← : {s : State} {r : ℕ} → Starts a → Last r (went s false) → Found a cap (reduced s r true)
  settled← {s} {r} h w = rw w.2 (ended h (settles (rw w.2 at w.3) w.4 w.5))

  stopped→ : {s : State} {r : ℕ} → Found a cap (reduced s r false) → Starts a × (r ≡ cap) × Ran a.np a.n (start a) r s
  stopped→ (ended h (stops R)) = (h, refl, R)

  stopped← : {s : State} {r : ℕ} → Starts a → r ≡ cap → Ran a.np a.n (start a) r s → Found a cap (reduced s r false)
  stopped← h e R = rw e (ended h (stops (rw e at R)))

  abbrev Failed : ℕ → ℕ → ℕ → Type 0
  Failed q cause r = ((uncovered a.np (start a) ≡ some q) × (cause ≡ 1) × (r ≡ 0)) ⊎ (Starts a × Last r (emptied q cause))

  failed→ : {q cause r : ℕ} → Found a cap (infeasible q cause r) → Failed q cause r
  failed→ (uncovered-at e) = inl (e, refl, refl)
  failed→ (ended h (fails {r} {q} {cause} {s} l R e)) = inr (h, (r, s, refl, l, R, e))

  failed← : {q cause r : ℕ} → Failed q cause r → Found a cap (infeasible q cause r)
  failed← (inl w) = rw (w.1, w.2) (uncovered-at w.0)
  failed← (inr v) = let w = v.1 in rw w.2 (ended v.0 (fails (rw w.2 at w.3) w.4 w.5))

pub last-round : (a : Problem) (cap : ℕ) → LastRound a cap
last-round a cap =
    record {
      settled = λ s r. ((λ e. settled→ a cap (rw e at (found a cap))), λ w. found-so a cap (settled← a cap w.0 w.1));
      stopped = λ s r. ((λ e. stopped→ a cap (rw e at (found a cap))), λ w. found-so a cap (stopped← a cap w.0 w.1 w.2));
      none_left = λ q cause r. ((λ e. failed→ a cap (rw e at (found a cap))), λ w. found-so a cap (failed← a cap w));
    }
