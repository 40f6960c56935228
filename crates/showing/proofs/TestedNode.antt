-- While item c is hidden, a node of its column that is uncoloured can be tested: the ground is as the test asks. Assumes nothing.
use Prim.Native.Nat.{ℕ, ◌+◌}
use mathlib.Core.Path.{◌≡◌, refl, ◌∙◌, sym, subst}
use mathlib.Core.Logic.{◌≢◌}
use mathlib.Core.Bool.{Bool, true, false, not}
use lib.Dec.{T}
use lib.IntN.{pos}
use Rattle.rules.specs.State.{option_at, holds_uncoloured}
use Rattle.links.specs.Head.{head}
use Rattle.links.specs.Plan.{EntryOf, Planned}
use Rattle.links.specs.Ground.{Ground, taken}
use Rattle.links.specs.Shown.{Ready}
use Rattle.links.specs.Taking.{hides, Tested}
use Rattle.links.proofs.Plans.{entry-no-header}
use Rattle.links.proofs.Taken.{off-taken, taken-off, taken-on, taken-head}
use Rattle.showing.specs.Showing.{state_of}
use Rattle.showing.proofs.Shows.{own-option, node-uncoloured}
use Rattle.showing.proofs.HiddenStates.{hiding, hiding-is, hides-In, In-hides, hides-fresh, hiding-tidy, hiding→, hiding←, hiding-own}

module _ (g : Ground) (R : Ready g) (c r : ℕ) (e : EntryOf g.plan r) (o : g.on r ≡ true) (i : g.plan.col r ≡ c + 1) (z : g.plan.tint r ≡ 0) where
  W : Planned g.plan
  W = R.tidy.planned

  -- r's other entries were taken out
  alone : (y : ℕ) → EntryOf g.plan y → g.plan.number y ≡ g.plan.number r → y ≢ r → (hiding g c).on y ≡ false
  alone y f n d = was (g.on y) refl
    where
      was : (b : Bool) → g.on y ≡ b → (hiding g c).on y ≡ false
      was true q =
          taken-off g (hides g (c + 1))
          (In-hides g R c y f q (λ j. d (W.once y r f e n (j ∙ sym i)))
          (subst (λ (k : ℕ). T (holds_uncoloured c (option_at (state_of g) k))) (sym n) (node-uncoloured g.plan W g.on (g.plan.number r) r c (own-option g.plan W g.on e o) i z)))
      was false q = off-taken g (hides g (c + 1)) y q

  -- an option of which an entry outside column c is linked is wholly so
  mates : (y x : ℕ) → EntryOf g.plan y → EntryOf g.plan x → g.plan.number y ≡ g.plan.number x → (hiding g c).on y ≡ true → g.plan.col y ≢ g.plan.col r
      → head (hiding g c).heads x ≡ pos (g.plan.col x) → (hiding g c).on x ≡ true
  mates y x f d n q j h =
      let w = hiding→ g R c y f q in
      let was = sym (taken-head g (hides g (c + 1)) R.tidy (hides-fresh g R c) x (entry-no-header g.plan W x d)) ∙ h in
      hiding← g R c x (R.whole.mates y x f d n w.0 was) (subst (λ (k : ℕ). T (not (holds_uncoloured c (option_at (state_of g) k)))) n (w.1 (λ k. j (k ∙ sym i))))

  pub tested-hidden : Tested (taken g (hides g (c + 1))) r
  tested-hidden = subst (λ (h : Ground). Tested h r) (sym (hiding-is g c)) (record {
    tidy = hiding-tidy g R c;
    headers = λ j h. taken-on g (hides g (c + 1)) j (λ m. entry-no-header g.plan W j (hides-In g R c m).0 h) ∙ R.whole.headers j h;
    entry = e;
    on = hiding-own g R c r i ∙ o;
    alone = alone;
    mates = mates;
  })
