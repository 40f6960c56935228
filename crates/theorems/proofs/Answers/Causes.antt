-- The causes of an infeasible answer: 1, 2 or 3. Assumes nothing.
use Prim.Native.Nat.{ℕ, ◌≤◌}
use native.Mathlib.Omega.{arith}
use mathlib.Core.Option.{Option, none, some}
use Rattle.rules.specs.Problem.{Problem}
use Rattle.rules.specs.Rounds.{Finding, reduced, infeasible, start, uncovered, unless_uncovered, rounds, reduce}
use Rattle.theorems.proofs.Steps.Preserve.{Kept, FindingIs, rounds-are}

-- a primary item was in no live option at the start, was emptied as a redundant item left, or as blocked options left
pub data Cause : ℕ → Type 0 where
  at-start : Cause 1
  by-redundant : Cause 2
  by-blocked : Cause 3

pub cause-range : {cause : ℕ} → Cause cause → (1 ≤ cause) × (cause ≤ 3)
cause-range at-start = (omega arith, omega arith)
cause-range by-redundant = (omega arith, omega arith)
cause-range by-blocked = (omega arith, omega arith)

cause-kept : (np : ℕ) → Kept np (λ s t. Unit {0}) (λ s q cause. Cause cause)
cause-kept np = record {
  same = λ s. tt;
  then = λ s t u f g. tt;
  late = λ s t q cause f h. h;
  without = λ c p s t R e. tt;
  without-emptied = λ c p q s t R e. by-redundant;
  spared = λ c s h e. tt;
  spared-emptied = λ c q s h e. by-blocked;
}

abbrev pub CauseOf : Finding → Type 0
CauseOf (reduced s r settled) = Unit {0}
CauseOf (infeasible item cause r) = Cause cause

pub cause-of : (a : Problem) (cap : ℕ) → CauseOf (reduce a cap)
unfolding reduce
cause-of a cap = go (uncovered a.np (start a))
  where
    ran : (x : Finding) → FindingIs (λ s t. Unit {0}) (λ s q cause. Cause cause) (start a) x → CauseOf x
    ran (reduced s r b) h = tt
    ran (infeasible q cause r) h = h

    go : (o : Option ℕ) → CauseOf (unless_uncovered o (rounds a.np a.n cap 0 (start a)))
    go none = ran (rounds a.np a.n cap 0 (start a)) (rounds-are (cause-kept a.np) a.n cap 0 (start a))
    go (some q) = at-start
