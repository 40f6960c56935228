-- An item's step, by what the walks answer: which step it is, what it empties, and the state that the nodes show after it. Assumes nothing.
use Prim.Native.Nat.{ℕ, ◌+◌}
use native.Mathlib.Omega.{arith}
use mathlib.Core.Path.{◌≡◌, ◌∙◌, ap, sym}
use mathlib.Core.Bool.{Bool, true}
use mathlib.Core.List.{List}
use mathlib.Core.Option.{Option, none, some}
use lib.Dec.{ltb}
use lib.ListN.{length}
use Rattle.rules.specs.Lists.{any}
use Rattle.rules.specs.State.{State, went, emptied, unless}
use Rattle.rules.specs.Redundant.{chosen, state_without, remove_item}
use Rattle.rules.specs.Blocked.{condemned, state_spared, delete_blocked}
use Rattle.rules.specs.Rounds.{step_for, item_step}
use Rattle.theorems.proofs.Steps.Redundancy.{emptied_with}
use Rattle.theorems.proofs.Steps.Blocking.{emptied_blocked}
use Rattle.links.specs.Ground.{Ground, taken}
use Rattle.links.specs.Shown.{shown, Ready}
use Rattle.links.specs.Taking.{last_out, first_out, hides, leaves, off_column, mask_without}
use Rattle.showing.specs.Showing.{state_of, column_or, deletes, Condemns}
use Rattle.showing.proofs.Lengths.{found_none}
use Rattle.showing.proofs.Chosen.{hiding-shown, removing-shown}
use Rattle.showing.proofs.Deleting.{deleting-shown}
use Rattle.showing.proofs.Steps.{without-shown, spared-shown, any-condemned}

-- what was found, by the column that was answered
found_at : (o : Option ℕ) (p : ℕ) → column_or 0 o ≡ p + 1 → o ≡ some p
found_at none p e = absurd (omega arith)
found_at (some q) p e = let h : q ≡ p = omega arith in ap some h

module _ (g : Ground) (R : Ready g) (np c : ℕ) where
  -- Hiding c answered column p + 1: c is removed for p.
  module _ (p : ℕ) (h : last_out g np (hides g (c + 1)) 0 ≡ p + 1) where
    pub chosen_is : chosen np (state_of g) c ≡ some p
    chosen_is = found_at (chosen np (state_of g) c) p (sym (hiding-shown g R np c) ∙ h)

    removes : (o : Option ℕ) → emptied_with np c p (state_of g) ≡ o
        → item_step np c (state_of g) ≡ unless o 2 (went (shown g.plan (mask_without g (c + 1) (p + 1))) true)
    unfolding item_step remove_item
    removes o f =
        ap (step_for np c (state_of g)) chosen_is
        ∙ ap (λ (x : Option ℕ). unless x 2 (went (state_without c p (state_of g)) true)) f
        ∙ ap (λ (s : State). unless o 2 (went s true)) (sym (without-shown g R c p))

    pub step-removes : first_out (off_column g (c + 1)) np (leaves g (c + 1) (p + 1)) ≡ 0 → item_step np c (state_of g) ≡ went (shown g.plan (mask_without g (c + 1) (p + 1))) true
    step-removes e = removes none (found_none (emptied_with np c p (state_of g)) (sym (removing-shown g R np c p) ∙ e))

    pub removing-empties : (q : ℕ) → first_out (off_column g (c + 1)) np (leaves g (c + 1) (p + 1)) ≡ q + 1 → item_step np c (state_of g) ≡ emptied q 2
    removing-empties q e = removes (some q) (found_at (emptied_with np c p (state_of g)) q (sym (removing-shown g R np c p) ∙ e))

  -- It answered 0: the condemned options are deleted.
  module _ (h : last_out g np (hides g (c + 1)) 0 ≡ 0) where
    pub chosen_none : chosen np (state_of g) c ≡ none
    chosen_none = found_none (chosen np (state_of g) c) (sym (hiding-shown g R np c) ∙ h)

    module _ (rs : List ℕ) (C : Condemns np c g rs) where
      deleting : (o : Option ℕ) → emptied_blocked np c (state_of g) ≡ o → item_step np c (state_of g) ≡ unless o 3 (went (shown g.plan (taken g (deletes g rs)).on) (ltb 0 (length rs)))
      unfolding item_step delete_blocked
      deleting o f =
          ap (step_for np c (state_of g)) chosen_none
          ∙ ap (λ (x : Option ℕ). unless x 3 (went (state_spared np (state_of g) c) (any (condemned np (state_of g) c) (state_of g)))) f
          ∙ ap (λ (s : State). unless o 3 (went s (any (condemned np (state_of g) c) (state_of g)))) (sym (spared-shown g R np c rs C))
          ∙ ap (λ (b : Bool). unless o 3 (went (shown g.plan (taken g (deletes g rs)).on) b)) (any-condemned g R np c rs C)

      pub step-deletes : first_out g np (deletes g rs) ≡ 0 → item_step np c (state_of g) ≡ went (shown g.plan (taken g (deletes g rs)).on) (ltb 0 (length rs))
      step-deletes e = deleting none (found_none (emptied_blocked np c (state_of g)) (sym (deleting-shown g R np c rs C) ∙ e))

      pub deleting-empties : (q : ℕ) → first_out g np (deletes g rs) ≡ q + 1 → item_step np c (state_of g) ≡ emptied q 3
      deleting-empties q e = deleting (some q) (found_at (emptied_blocked np c (state_of g)) q (sym (deleting-shown g R np c rs C) ∙ e))
