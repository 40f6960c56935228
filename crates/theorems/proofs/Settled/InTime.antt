-- The rounds run never exceed the cap, nor items + options - 1, and a cap of so many is never met. Assumes nothing.
use Prim.Native.Nat.{ℕ, ◌+◌, ◌≤◌, ◌<◌}
use native.Mathlib.Omega.{arith}
use mathlib.Core.Path.{subst}
use mathlib.Core.Bool.{false}
use lib.ListN.{length}
use Rattle.rules.specs.Lists.{up_to}
use Rattle.rules.specs.Problem.{Problem, Figures}
use Rattle.rules.specs.State.{State, Step}
use Rattle.rules.specs.Rounds.{Finding, start, reduce}
use Rattle.rules.specs.Promises.{Accepted, Ran, none_yet, one_more, Starts, RoundsWithin, Ended, EndsInTime, Sound}
use Rattle.theorems.proofs.Steps.Preserve.{StepIs, round_is}
use Rattle.theorems.proofs.Steps.Soundness.{sound-start, sound-kept}
use Rattle.theorems.proofs.Settled.LastRound.{Ends, settles, stops, fails, Found, uncovered-at, ended, found}
use Rattle.theorems.proofs.Settled.Measure.{measure, measure-most, measure-least}
use Rattle.theorems.proofs.Settled.Flag.{Tells, round-tells}

-- Each round that removed something made the measure smaller.
ran-falls : (np n : ℕ) (s₀ : State) {r : ℕ} {s : State} → Ran np n s₀ r s → r + measure n s ≤ measure n s₀
ran-falls np n s₀ none_yet = omega arith
ran-falls np n s₀ (one_more {r} {s} {s'} R e) =
    let h = ran-falls np n s₀ R in
    let k : measure n s' < measure n s = subst (λ (x : Step). Tells np n (up_to n) s false x) e (round-tells np n s) in
    omega arith

-- Every state that the rounds pass through is sound.
pub sound-ran : (a : Problem) → a.np ≤ a.n → Sound a (start a) → {r : ℕ} {s : State} → Ran a.np a.n (start a) r s → Sound a s
sound-ran a le S none_yet = S
sound-ran a le S (one_more {r} {s} {s'} R e) =
    subst (λ (x : Step). StepIs (λ s t. Sound a s → Sound a t) (λ s q cause. q < a.np) s x) e (round_is (sound-kept a le) a.n s) (sound-ran a le S R)

module _ (f : Figures) (a : Problem) (A : Accepted f a) where
  -- one more round after r can be the last
  ran-within : Starts a → {r : ℕ} {s : State} → Ran a.np a.n (start a) r s → r + 2 ≤ a.n + length a.options
  ran-within h {r} {s} R =
      let le = A.primaries in
      let S₀ = sound-start f a A h in
      let w = (sound-ran a le S₀ R).some-kept in
      let lt = w.1 in
      let least = measure-least a.n s {q = w.0} (omega arith) w.2 in
      let falls = ran-falls a.np a.n (start a) R in
      let most = measure-most a.n (start a) in
      let same = S₀.numbers in
      omega arith

  ends-within : Starts a → (cap : ℕ) {x : Finding} → Ends a.np a.n cap (start a) x → RoundsWithin a cap x
  ends-within h cap (settles l R e) = let k = ran-within h R in (l, omega arith)
  ends-within h cap (stops R) = let k = ran-within h R in (omega arith, omega arith)
  ends-within h cap (fails l R e) = let k = ran-within h R in (l, omega arith)

  found_within : (cap : ℕ) {x : Finding} → Found a cap x → RoundsWithin a cap x
  found_within cap (uncovered-at e) = let k = A.some-option in (omega arith, omega arith)
  found_within cap (ended h E) = ends-within h cap E

  pub rounds-within : (cap : ℕ) → RoundsWithin a cap (reduce a cap)
  rounds-within cap = found_within cap (found a cap)

  pub ends-in-time : EndsInTime a
  ends-in-time cap h = go (found a cap)
    where
      last : Starts a → {x : Finding} → Ends a.np a.n cap (start a) x → Ended x
      last g (settles l R e) = tt
      last g (stops R) = let k = ran-within g R in absurd (omega arith)
      last g (fails l R e) = tt

      go : {x : Finding} → Found a cap x → Ended x
      go (uncovered-at e) = tt
      go (ended g E) = last g E
