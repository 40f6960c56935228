-- A round and the rounds, a step at a time: what is left to do after an item, and after a round. Assumes nothing.
use Prim.Native.Nat.{ℕ, zero, suc}
use mathlib.Core.Path.{◌≡◌, refl, ◌∙◌, ap}
use mathlib.Core.Bool.{Bool, true, false, ◌||◌, or-false}
use mathlib.Core.List.{List, [], ◌∷◌}
use Rattle.rules.specs.Lists.{up_to}
use Rattle.rules.specs.State.{State, Step, went, emptied, in_live}
use Rattle.rules.specs.Rounds.{reduced, item_step, and_then, item_steps, round, after_round, rounds}

-- an item that is in no live option is passed over
pub steps-over : (np c : ℕ) (cs : List ℕ) (s : State) (removed : Bool) → in_live c s ≡ false → item_steps np (c ∷ cs) s removed ≡ item_steps np cs s removed
unfolding item_steps
steps-over np c cs s removed e =
    ap (λ (b : Bool). and_then (elim b [ true ↦ item_step np c s | false ↦ went s false ]) (λ s' more. item_steps np cs s' (removed || more))) e
    ∙ ap (item_steps np cs s) (or-false removed)

-- any other takes its step
pub steps-went : (np c : ℕ) (cs : List ℕ) (s s' : State) (removed more : Bool) → in_live c s ≡ true → item_step np c s ≡ went s' more
    → item_steps np (c ∷ cs) s removed ≡ item_steps np cs s' (removed || more)
unfolding item_steps
steps-went np c cs s s' removed more e h =
    ap (λ (b : Bool). and_then (elim b [ true ↦ item_step np c s | false ↦ went s false ]) (λ s' more. item_steps np cs s' (removed || more))) e
    ∙ ap (λ (x : Step). and_then x (λ s' more. item_steps np cs s' (removed || more))) h

pub steps-emptied : (np c : ℕ) (cs : List ℕ) (s : State) (removed : Bool) (q cause : ℕ) → in_live c s ≡ true → item_step np c s ≡ emptied q cause
    → item_steps np (c ∷ cs) s removed ≡ emptied q cause
unfolding item_steps
steps-emptied np c cs s removed q cause e h =
    ap (λ (b : Bool). and_then (elim b [ true ↦ item_step np c s | false ↦ went s false ]) (λ s' more. item_steps np cs s' (removed || more))) e
    ∙ ap (λ (x : Step). and_then x (λ s' more. item_steps np cs s' (removed || more))) h

pub steps-done : (np : ℕ) (s : State) (removed : Bool) → item_steps np [] s removed ≡ went s removed
unfolding item_steps
steps-done np s removed = refl

pub round-steps : (np n : ℕ) (s : State) → round np n s ≡ item_steps np (up_to n) s false
unfolding round
round-steps np n s = refl

-- after a round
pub rounds-after : (np n left r : ℕ) (s : State) {x : Step} → round np n s ≡ x → rounds np n (suc left) r s ≡ after_round x (suc r) (λ s'. rounds np n left (suc r) s')
unfolding rounds
rounds-after np n left r s e = ap (λ (x : Step). after_round x (suc r) (λ s'. rounds np n left (suc r) s')) e

pub rounds-done : (np n r : ℕ) (s : State) → rounds np n zero r s ≡ reduced s r false
unfolding rounds
rounds-done np n r s = refl
