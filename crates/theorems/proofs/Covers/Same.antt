-- Demand 2: the covers of an accepted problem are those of its result, at any cap. Assumes nothing.
use Prim.Native.Nat.{ℕ}
use mathlib.Core.Path.{◌≡◌}
use mathlib.Core.Logic.Iff
use mathlib.Core.Logic.{◌↔◌}
use mathlib.Core.List.{List}
use mathlib.Core.Option.{none}
use Rattle.rules.specs.Problem.{Problem, Figures}
use Rattle.rules.specs.State.{State}
use Rattle.rules.specs.Rounds.{Finding, reduced, infeasible, start, uncovered, reduce}
use Rattle.rules.specs.Promises.{Accepted, SameCovers, SoundResult}
use Rattle.theorems.proofs.Steps.Preserve.{Kept, FindingIs, reduce-is}
use Rattle.theorems.proofs.Steps.Soundness.{sound}
use Rattle.theorems.proofs.Covers.State.{StateCover}
use Rattle.theorems.proofs.Covers.Without.{cover-without, no-cover-without, without-cover}
use Rattle.theorems.proofs.Covers.Spared.{cover-spared, no-cover-spared, spared-cover}
use Rattle.theorems.proofs.Covers.Start.{covers-start, no-cover-uncovered}
use Rattle.theorems.proofs.Covers.Result.{covers-result}

-- two states have the same covers; a state has none
abbrev pub SameStateCovers : ℕ → State → State → Type 0
SameStateCovers np s t = (ks : List ℕ) → StateCover np s ks ↔ StateCover np t ks

abbrev pub NoStateCover : ℕ → State → Type 0
NoStateCover np s = (ks : List ℕ) → StateCover np s ks → ⊥

-- both kinds of step keep the covers
pub covers_kept : (np : ℕ) → Kept np (SameStateCovers np) (λ s q cause. NoStateCover np s)
covers_kept np = record {
  same = λ s ks. Iff.rfl;
  then = λ s t u f g ks. Iff.trans (f ks) (g ks);
  late = λ s t q cause f empty ks C. empty ks ((f ks).0 C);
  without = λ c p s live R e ks. (λ C. cover-without R C, λ C. without-cover R C e);
  without-emptied = λ c p q s live R e ks C. no-cover-without R e ks C;
  spared = λ c s h e ks. (λ C. cover-spared s C c, λ C. spared-cover c s e ks C);
  spared-emptied = λ c q s h e ks C. no-cover-spared c s e ks C;
}

pub covers-same : (f : Figures) (a : Problem) → Accepted f a → (cap : ℕ) → SameCovers a (reduce a cap)
covers-same f a A cap =
    reduce-is a (covers_kept a.np) cap (λ x. SoundResult a x → SameCovers a x) (λ q e S ks C. no-cover-uncovered a A.primaries ks e C) ended (sound f a A cap)
  where
    ended : uncovered a.np (start a) ≡ none → (x : Finding) → FindingIs (SameStateCovers a.np) (λ s q cause. NoStateCover a.np s) (start a) x
        → SoundResult a x → SameCovers a x
    ended e (reduced s r settled) same S = λ ks. Iff.trans (covers-start a A.primaries ks e) (Iff.trans (same ks) (covers-result a.np a.n s S.below ks))
    ended e (infeasible q cause r) empty S = λ ks C. empty ks ((covers-start a A.primaries ks e).0 C)
