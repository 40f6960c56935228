-- What holds of every state that the rounds reach: option numbers stay, every live option holds a primary item, some primary item is kept,
-- items stay below n, and no option holds an item twice. And an infeasible answer names a primary item. Assumes nothing.
use Prim.Native.Nat.{ℕ, ◌≤◌, ◌<◌}
use mathlib.Core.Path.{◌≡◌, refl, ◌∙◌}
use mathlib.Core.Logic.{◌⊎◌, inl, inr}
use mathlib.Core.Bool.{not}
use mathlib.Core.List.Memᴰ.{not-nil}
use mathlib.Core.List.{List, [], Memᴰ as In}
use mathlib.Core.Option.{none}
use lib.Dec.{T}
use lib.ListN.{length-map}
use Rattle.rules.specs.Problem.{Entry, Problem, Figures}
use Rattle.rules.specs.State.{State, is, holds_primary, in_live, items_of}
use Rattle.rules.specs.Redundant.{shortened, state_without}
use Rattle.rules.specs.Blocked.{condemned, state_spared}
use Rattle.rules.specs.Rounds.{Finding, reduced, infeasible, start, uncovered, reduce}
use Rattle.rules.specs.Promises.{distinct, Accepted, Sound, SoundResult}
use Rattle.theorems.proofs.Words.Lists.{map-has}
use Rattle.theorems.proofs.Words.Distinct.{distinct-keep}
use Rattle.theorems.proofs.Steps.States.{holds-primary}
use Rattle.theorems.proofs.Steps.LeftOut.{left-has}
use Rattle.theorems.proofs.Steps.Redundancy.{Redundant, Fate, stays, loses, leaves, fate, shortened_same, shortened-short, shortened-deleted, shortened-sub, holds-shortened, without-p, emptied-with}
use Rattle.theorems.proofs.Steps.Blocking.{spare, stays-spared, emptied-blocked}
use Rattle.theorems.proofs.Steps.Start.{start_of, start_has, none-uncovered, uncovered→}
use Rattle.theorems.proofs.Steps.Preserve.{Kept, FindingIs, reduce-is}

-- Removing an item keeps it all

module _ (a : Problem) (c p : ℕ) (s : State) (R : Redundant a.np s c p) (S : Sound a s) where
  without-primary : (o : List Entry) → In o s → (shortened c p o ≡ []) ⊎ T (holds_primary a.np (shortened c p o))
  without-primary o m = go (fate c p o) (S.primary o m)
    where
      go : Fate c p o → (o ≡ []) ⊎ T (holds_primary a.np o) → (shortened c p o ≡ []) ⊎ T (holds_primary a.np (shortened c p o))
      go (stays t) (inl h) = inl (shortened_same c p o t ∙ h)
      go (stays t) (inr h) = inr (rw (shortened_same c p o t) h)
      go (loses t u) d = inr (holds-primary a.np p (shortened c p o) R.primary (holds-shortened c p o p u R.other (inr u)))
      go (leaves t u) d = inl (shortened-deleted c p o t u)

  without-once : (o : List Entry) → In o s → T (distinct (items_of (shortened c p o)))
  without-once o m = go (fate c p o)
    where
      go : Fate c p o → T (distinct (items_of (shortened c p o)))
      go (stays t) = rw (shortened_same c p o t) (S.once o m)
      go (loses t u) = rw (shortened-short c p o t u) (distinct-keep (λ (e : Entry). e.item) (λ e. not (is c e)) o (S.once o m))
      go (leaves t u) = rw (shortened-deleted c p o t u) tt

  sound-without : Sound a (state_without c p s)
  sound-without = record {
    numbers = length-map s (shortened c p) ∙ S.numbers;
    primary = map-has (shortened c p) s (λ v. (v ≡ []) ⊎ T (holds_primary a.np v)) without-primary;
    some-kept = (p, R.primary, without-p a.np c p s R);
    below = map-has (shortened c p) s (λ v. (e : Entry) → In e v → e.item < a.n) (λ o m e n. S.below o m e (shortened-sub c p o n));
    once = map-has (shortened c p) s (λ v. T (distinct (items_of v))) without-once;
  }

-- So does deleting the blocked options, while no primary item is emptied

module _ (a : Problem) (c : ℕ) (s : State) (S : Sound a s) (live : (q : ℕ) → q < a.np → T (in_live q s) → T (in_live q (state_spared a.np s c))) where
  sound-spared : Sound a (state_spared a.np s c)
  sound-spared = record {
    numbers = length-map s (spare a.np s c) ∙ S.numbers;
    primary = left-has (condemned a.np s c) s (λ v. (v ≡ []) ⊎ T (holds_primary a.np v)) (inl refl) (λ o m t. S.primary o m);
    some-kept = let w = S.some-kept in (w.0, w.1, live w.0 w.1 w.2);
    below = left-has (condemned a.np s c) s (λ v. (e : Entry) → In e v → e.item < a.n) (λ e m. absurd (not-nil m)) (λ o m t. S.below o m);
    once = left-has (condemned a.np s c) s (λ v. T (distinct (items_of v))) tt (λ o m t. S.once o m);
  }

pub sound-kept : (a : Problem) → a.np ≤ a.n → Kept a.np (λ s t. Sound a s → Sound a t) (λ s q cause. q < a.np)
sound-kept a le = record {
  same = λ s S. S;
  then = λ s t u f g S. g (f S);
  late = λ s t q cause f h. h;
  without = λ c p s t R e S. sound-without a c p s R S;
  without-emptied = λ c p q s t R e. (emptied-with a.np c p s e).0;
  spared = λ c s h e S. sound-spared a c s S (stays-spared a.np s c e);
  spared-emptied = λ c q s h e. (emptied-blocked a.np s c e).0;
}

-- At the start

pub sound-start : (f : Figures) (a : Problem) → Accepted f a → uncovered a.np (start a) ≡ none → Sound a (start a)
unfolding start
sound-start f a A e = record {
  numbers = length-map a.options (start_of a.np);
  primary = start_has a (λ v. (v ≡ []) ⊎ T (holds_primary a.np v)) (inl refl) (λ o m t. inr t);
  some-kept = (0, A.some-primary, none-uncovered a.np (start a) e 0 A.some-primary);
  below = start_has a (λ v. (e : Entry) → In e v → e.item < a.n) (λ e m. absurd (not-nil m)) (λ o m t e n. (A.entry o m e n).below);
  once = start_has a (λ v. T (distinct (items_of v))) tt (λ o m t. A.once o m);
}

-- The theorem

pub sound : (f : Figures) (a : Problem) → Accepted f a → (cap : ℕ) → SoundResult a (reduce a cap)
sound f a A cap = reduce-is a (sound-kept a A.primaries) cap (SoundResult a) (λ q e. (uncovered→ a.np (start a) e).0) (λ e x h. ran (sound-start f a A e) x h)
  where
    ran : Sound a (start a) → (x : Finding) → FindingIs (λ s t. Sound a s → Sound a t) (λ s q cause. q < a.np) (start a) x → SoundResult a x
    ran S (reduced s r b) h = h S
    ran S (infeasible q cause r) h = h
