-- The covers of the compact problem are those of the problem, through the map of option numbers. Assumes nothing.
use Prim.Native.Nat.{ℕ, ◌<◌}
use mathlib.Core.Path.{◌≡◌, refl, sym, subst}
use mathlib.Core.Logic.Iff
use mathlib.Core.Logic.{◌↔◌}
use mathlib.Core.List.Memᴰ
use mathlib.Core.List.{List, Memᴰ as In}
use lib.ListN.{length}
use Rattle.rules.specs.Problem.{Problem, Figures}
use Rattle.rules.specs.State.{State, option_at}
use Rattle.rules.specs.Rounds.{Finding, reduced, infeasible, reduce}
use Rattle.rules.specs.Result.{numbers_of, kept_options, compact_of}
use Rattle.rules.specs.Cover.{Cover}
use Rattle.rules.specs.Promises.{Accepted, SameCovers, SoundResult, originals_of, places_of, CompactCovers, SameCompactCovers}
use Rattle.theorems.proofs.Steps.States.{primary→, ItemsBelow}
use Rattle.theorems.proofs.Steps.Soundness.{sound}
use Rattle.theorems.proofs.Results.Numbers.{kept-distinct, number_at, kept_count, number-below, number_of}
use Rattle.theorems.proofs.Results.Compact.{compact-inside}
use Rattle.theorems.proofs.Covers.State.{StateCover}
use Rattle.theorems.proofs.Covers.Result.{covers-result}
use Rattle.theorems.proofs.Covers.Same.{covers-same}
use Rattle.theorems.proofs.Covers.Places.{In-originals, originals-In, originals-rising, In-places, places-In, places-rising, places-back, originals-back}
use Rattle.theorems.proofs.Covers.Alike.{alike_turned, alike-cover}
use Rattle.theorems.proofs.Covers.CompactNames.{compact-alike}

-- Covers of the compact problem and of the state
module _ (np n : ℕ) (s : State) (below : ItemsBelow n s) where
  -- the options of a cover hold something, so they are in the result
  pub cover-inside : (js : List ℕ) → Cover (compact_of np n s) js → (j : ℕ) → In j js → j < kept_count n s
  unfolding Cover compact_of
  cover-inside js C j m = let w = primary→ (compact_of np n s).np (option_at (compact_of np n s).options j) (C.primary j m) in compact-inside n s j w.1

  pub cover-numbered : (ks : List ℕ) → StateCover np s ks → (k : ℕ) → In k ks → (j : ℕ) × (j < kept_count n s) × (number_at n s j ≡ k)
  cover-numbered ks C k m = let w = primary→ np (option_at s k) (C.primary k m) in number_of n s below k w.1

  -- hence a cover of the one is a cover of the other under its names there
  pub compact-originals : (js : List ℕ) → Cover (compact_of np n s) js → StateCover np s (originals_of (length s) (numbers_of (kept_options n s)) js)
  unfolding Cover
  compact-originals js C =
      alike-cover (alike_turned (compact-alike np n s below)) js (originals_of (length s) (numbers_of (kept_options n s)) js)
      (λ j m. let lt = cover-inside js C j m in (number_at n s j, originals-In (length s) (numbers_of (kept_options n s)) js m (number-below n s j lt), (lt, refl)))
      (λ k m. let w = In-originals (length s) (numbers_of (kept_options n s)) js m in (w.0, w.1, (cover-inside js C w.0 w.1, sym w.2)))
      (originals-rising (length s) (numbers_of (kept_options n s)) js) C

  pub compact-places : (ks : List ℕ) → StateCover np s ks → Cover (compact_of np n s) (places_of (numbers_of (kept_options n s)) ks)
  unfolding Cover
  compact-places ks C =
      alike-cover (compact-alike np n s below) ks (places_of (numbers_of (kept_options n s)) ks)
      (λ k m. let w = cover-numbered ks C k m in (w.0, places-In (numbers_of (kept_options n s)) ks w.1 (Memᴰ.cast w.2 m), (w.1, w.2)))
      (λ j m. let w = In-places (numbers_of (kept_options n s)) ks m in (number_at n s j, w.1, (w.0, refl)))
      (places-rising (numbers_of (kept_options n s)) ks) C

-- Where the covers of the problem are those of the state, they are those of the compact problem.
module _ (a : Problem) (s : State) (below : ItemsBelow a.n s) (count : length s ≡ length a.options)
    (same : (ks : List ℕ) → Cover a ks ↔ StateCover a.np s ks) where
  number_fits : (j : ℕ) → j < kept_count a.n s → number_at a.n s j < length a.options
  number_fits j lt = subst (λ (M : ℕ). number_at a.n s j < M) count (number-below a.n s j lt)

  pub compact-covers : CompactCovers a s (numbers_of (kept_options a.n s))
  unfolding Cover
  compact-covers = record {
    originals = λ js C. (same (originals_of (length a.options) (numbers_of (kept_options a.n s)) js)).1 (originals js C);
    places = λ ks C. compact-places a.np a.n s below ks ((same ks).0 C);
    back = λ js C. places-back (length a.options) (numbers_of (kept_options a.n s)) number_fits (kept-distinct a.n s) js C.set (λ j m. cover-inside a.np a.n s below js C j m);
    forth = λ ks C. originals-back (length a.options) (numbers_of (kept_options a.n s)) number_fits ks C.set (λ k m. cover-numbered a.np a.n s below ks ((same ks).0 C) k m);
  }
    where
      originals : (js : List ℕ) → Cover (compact_of a.np a.n s) js → StateCover a.np s (originals_of (length a.options) (numbers_of (kept_options a.n s)) js)
      originals js C = subst (λ (M : ℕ). StateCover a.np s (originals_of M (numbers_of (kept_options a.n s)) js)) count (compact-originals a.np a.n s below js C)

pub compact-covers-same : (f : Figures) (a : Problem) → Accepted f a → (cap : ℕ) → SameCompactCovers a (reduce a cap)
compact-covers-same f a A cap = go (reduce a cap) (covers-same f a A cap) (sound f a A cap)
  where
    go : (x : Finding) → SameCovers a x → SoundResult a x → SameCompactCovers a x
    go (reduced s r settled) same S =
        compact-covers a s S.below S.numbers (λ ks. Iff.trans (same ks) (Iff.symm (covers-result a.np a.n s S.below ks)))
    go (infeasible q cause r) same S = same
