-- Demand 3: settled means settled. Nothing is left to do in a settled result, and run again it comes back as it is. Assumes nothing.
use Prim.Native.Nat.{ℕ}
use mathlib.Core.Path.{◌≡◌}
use mathlib.Core.Bool.{false}
use Rattle.rules.specs.Problem.{Problem, Figures}
use Rattle.rules.specs.State.{State, went}
use Rattle.rules.specs.Rounds.{Finding, start, round, reduce}
use Rattle.rules.specs.Promises.{Accepted, Starts, NothingLeft, Repeats, SettledMeans, Sound}
use Rattle.theorems.proofs.Steps.Soundness.{sound-start}
use Rattle.theorems.proofs.Settled.LastRound.{Ends, settles, stops, fails, Found, uncovered-at, ended, found}
use Rattle.theorems.proofs.Settled.InTime.{sound-ran}
use Rattle.theorems.proofs.Settled.NothingLeft.{nothing_left}
use Rattle.theorems.proofs.Settled.Repeat.{repeats}

module _ (f : Figures) (a : Problem) (A : Accepted f a) where
  -- a sound state whose round removed nothing
  idle-means : (s s' : State) → Sound a s → round a.np a.n s ≡ went s' false → NothingLeft a.np a.n s' × Repeats a.np a.n s'
  idle-means s s' S e =
      let w = nothing_left a.np a.n s s' S.below e in
      rw w.0 (w.1, repeats a.np a.n s S.below S.primary w.1)

  ends-mean : Starts a → (cap : ℕ) {x : Finding} → Ends a.np a.n cap (start a) x → SettledMeans a x
  ends-mean h cap (settles {r} {s} {s'} l R e) = idle-means s s' (sound-ran a A.primaries (sound-start f a A h) R) e
  ends-mean h cap (stops R) = tt
  ends-mean h cap (fails l R e) = tt

  found-means : (cap : ℕ) {x : Finding} → Found a cap x → SettledMeans a x
  found-means cap (uncovered-at e) = tt
  found-means cap (ended h E) = ends-mean h cap E

  pub settled-means : (cap : ℕ) → SettledMeans a (reduce a cap)
  settled-means cap = found-means cap (found a cap)
