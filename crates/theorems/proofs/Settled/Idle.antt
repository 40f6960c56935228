-- A round in which no item is redundant and no option blocked leaves the state as it is, and says so. Assumes nothing.
use Prim.Native.Nat.{ℕ}
use mathlib.Core.Path.{◌≡◌, refl, sym, subst, ◌∙◌}
use mathlib.Core.Bool.{Bool, true, false, not, ◌||◌}
use mathlib.Core.List.Memᴰ.{head as here}
use mathlib.Core.List.Memᴰ.{tail as next}
use mathlib.Core.List.{List, [], ◌∷◌}
use mathlib.Core.Option.{some, none-ne-some}
use lib.Dec.{T, T_not}
use Rattle.rules.specs.Lists.{any, up_to}
use Rattle.rules.specs.State.{State, Step, went, in_live}
use Rattle.rules.specs.Redundant.{chosen}
use Rattle.rules.specs.Blocked.{condemned, state_spared}
use Rattle.rules.specs.Rounds.{item_step, and_then, item_steps, round}
use Rattle.theorems.proofs.Words.Tests.{T_false, true-T}
use Rattle.theorems.proofs.Steps.Blocking.{emptied-blocked}
use Rattle.theorems.proofs.Steps.ItemStep.{Goes, removal, removal-empties, deletion, deletion-empties, goes}
use Rattle.theorems.proofs.Settled.Measure.{spared-same}
use Rattle.theorems.proofs.Settled.Flag.{Quiet, AllQuiet}

module _ (np : ℕ) where
  pub idle-step : (c : ℕ) (s : State) → Quiet np s c → item_step np c s ≡ went s false
  idle-step c s q = go (goes np c s)
    where
      same : state_spared np s c ≡ s
      same = spared-same np c s q.1

      redundant : {p : ℕ} → chosen np s c ≡ some p → ⊥
      redundant {p} h = none-ne-some p (sym q.0 ∙ h)

      go : {x : Step} → Goes np c s x → x ≡ went s false
      go (removal h e) = absurd (redundant h)
      go (removal-empties h e) = absurd (redundant h)
      go (deletion h e) = rw (same, T_false (any (condemned np s c) s) q.1)
      go (deletion-empties {q = d} h e) =
          let w = emptied-blocked np s c e in
          absurd (T_not (in_live d s) (subst (λ (z : State). T (not (in_live d z))) same w.2) w.1)

  pub idle-steps : (cs : List ℕ) (s : State) → AllQuiet np s cs → item_steps np cs s false ≡ went s false
  unfolding item_steps
  idle-steps [] s q = refl
  idle-steps (c ∷ cs) s q = go (in_live c s) refl (idle-steps cs s (λ d m. q d (next m)))
    where
      go : (b : Bool) → in_live c s ≡ b → item_steps np cs s false ≡ went s false
          → and_then (elim b [ true ↦ item_step np c s | false ↦ went s false ]) (λ s' more. item_steps np cs s' (false || more)) ≡ went s false
      go true e r = rw (idle-step c s (q c (here refl) (true-T e))) r
      go false e r = r

pub idle-round : (np n : ℕ) (s : State) → AllQuiet np s (up_to n) → round np n s ≡ went s false
unfolding round
idle-round np n s q = idle-steps np (up_to n) s q
