-- What the flag of a step says: true, the measure fell; false, the state is as it was, and no item was redundant and no option blocked.
-- Assumes nothing.
use Prim.Native.Nat.{ℕ, ◌≤◌, ◌<◌}
use native.Mathlib.Omega.{arith}
use mathlib.Core.Path.{◌≡◌, refl}
use mathlib.Core.Bool.{Bool, true, false, not, ◌||◌, or-true, or-false}
use mathlib.Core.List.Memᴰ.{head as here}
use mathlib.Core.List.Memᴰ.{not-nil}
use mathlib.Core.List.Memᴰ.{tail as next}
use mathlib.Core.List.{List, [], ◌∷◌, Memᴰ as In}
use mathlib.Core.Option.{none}
use lib.Dec.{T, T_not}
use Rattle.rules.specs.Lists.{any, up_to}
use Rattle.rules.specs.State.{State, Step, went, emptied, in_live}
use Rattle.rules.specs.Redundant.{chosen}
use Rattle.rules.specs.Blocked.{condemned, state_spared}
use Rattle.rules.specs.Rounds.{item_step, and_then, item_steps, round}
use Rattle.theorems.proofs.Words.Tests.{true-T, false-T}
use Rattle.theorems.proofs.Words.Lists.{In-up_to}
use Rattle.theorems.proofs.Steps.ItemStep.{Goes, removal, removal-empties, deletion, deletion-empties, goes}
use Rattle.theorems.proofs.Settled.Measure.{measure, without-falls, spared-falls, spared-same}

-- Item c's step finds nothing to do: c is not redundant, and shows no option to be blocked.
abbrev pub Quiet : ℕ → State → ℕ → Type 0
Quiet np s c = (chosen np s c ≡ none) × T (not (any (condemned np s c) s))

-- so for each of the items that is live
abbrev pub AllQuiet : ℕ → State → List ℕ → Type 0
AllQuiet np s cs = (c : ℕ) → In c cs → T (in_live c s) → Quiet np s c

module _ (np n : ℕ) where
  -- What steps for the items cs tell, where `removed` was said before.
  abbrev pub Tells : List ℕ → State → Bool → Step → Type 0
  Tells cs s true (went s' true) = measure n s' ≤ measure n s
  Tells cs s true (went s' false) = ⊥
  Tells cs s false (went s' true) = measure n s' < measure n s
  Tells cs s false (went s' false) = (s' ≡ s) × AllQuiet np s cs
  Tells cs s removed (emptied q cause) = Unit {0}

  pub step-tells : (c : ℕ) (s : State) → c < n → T (in_live c s) → Tells (c ∷ []) s false (item_step np c s)
  step-tells c s h t = go (goes np c s)
    where
      quiet : chosen np s c ≡ none → T (not (any (condemned np s c) s)) → AllQuiet np s (c ∷ [])
      quiet e u d (here i) v = rw i (e, u)
      quiet e u d (next m) v = absurd (not-nil m)

      stay : chosen np s c ≡ none → (b : Bool) → any (condemned np s c) s ≡ b → Tells (c ∷ []) s false (went (state_spared np s c) b)
      stay e true i = spared-falls np n c s (true-T i)
      stay e false i = (spared-same np c s (false-T i), quiet e (false-T i))

      go : {x : Step} → Goes np c s x → Tells (c ∷ []) s false x
      go (removal {p} e f) = without-falls n c p s h t
      go (removal-empties e f) = tt
      go (deletion e f) = stay e (any (condemned np s c) s) refl
      go (deletion-empties e f) = tt

  -- y is what the items cs come to after c's step: from a smaller state, and from the same one
  after-fall : (c : ℕ) (cs : List ℕ) (s s' : State) (removed : Bool) (y : Step) → measure n s' < measure n s → Tells cs s' true y → Tells (c ∷ cs) s removed y
  after-fall c cs s s' true (went s'' true) h k = omega arith
  after-fall c cs s s' false (went s'' true) h k = omega arith
  after-fall c cs s s' removed (went s'' false) h k = absurd k
  after-fall c cs s s' removed (emptied q cause) h k = tt

  after-quiet : (c : ℕ) (cs : List ℕ) (s : State) (removed : Bool) (y : Step) → AllQuiet np s (c ∷ []) → Tells cs s removed y → Tells (c ∷ cs) s removed y
  after-quiet c cs s true (went s'' true) h k = k
  after-quiet c cs s true (went s'' false) h k = absurd k
  after-quiet c cs s false (went s'' true) h k = k
  after-quiet c cs s false (went s'' false) h k = (k.0, both)
    where
      both : AllQuiet np s (c ∷ cs)
      both d (here i) t = h d (here i) t
      both d (next m) t = k.1 d m t
  after-quiet c cs s removed (emptied q cause) h k = tt

  pub steps-tell : (cs : List ℕ) → ((c : ℕ) → In c cs → c < n) → (s : State) (removed : Bool) → Tells cs s removed (item_steps np cs s removed)
  unfolding item_steps
  steps-tell [] below s true = omega arith
  steps-tell [] below s false = (refl, λ c m. absurd (not-nil m))
  steps-tell (c ∷ cs) below s removed = live (in_live c s) refl (λ s' b. steps-tell cs (λ d m. below d (next m)) s' b)
    where
      more : (x : Step) → Tells (c ∷ []) s false x → ((s' : State) (b : Bool) → Tells cs s' b (item_steps np cs s' b))
          → Tells (c ∷ cs) s removed (and_then x (λ s' b. item_steps np cs s' (removed || b)))
      more (went s' true) h r = rw (or-true removed) (after-fall c cs s s' removed (item_steps np cs s' true) h (r s' true))
      more (went s' false) h r = rw (or-false removed, h.0) (after-quiet c cs s removed (item_steps np cs s removed) h.1 (r s removed))
      more (emptied q cause) h r = tt

      idle : in_live c s ≡ false → AllQuiet np s (c ∷ [])
      idle e d (here i) t = absurd (T_not (in_live c s) (false-T e) (rw i at t))
      idle e d (next m) t = absurd (not-nil m)

      live : (b : Bool) → in_live c s ≡ b → ((s' : State) (b : Bool) → Tells cs s' b (item_steps np cs s' b))
          → Tells (c ∷ cs) s removed (and_then (elim b [ true ↦ item_step np c s | false ↦ went s false ]) (λ s' b. item_steps np cs s' (removed || b)))
      live true e r = more (item_step np c s) (step-tells c s (below c (here refl)) (true-T e)) r
      live false e r = more (went s false) (refl, idle e) r

  pub round-tells : (s : State) → Tells (up_to n) s false (round np n s)
  unfolding round
  round-tells s = steps-tell (up_to n) (λ c m. In-up_to n m) s false
