-- No second outcome: what the `ensures` of `desk_call::reduce::reduce` says of one input fixes the answer and the five byte lists. Assumes nothing.
use mathlib.Core.Path.{◌≡◌, sym, ap, ◌∙◌}
use Rattle.rules.specs.Rooms.{Results}
use Rattle.rules.specs.Paper.{paper}
use Rattle.rules.specs.declared.answer.Answer.{Answer}
use Rattle.theorems.proofs.Checks.Paper.{paper-one}
use Rattle.desk_call.specs.Desk.{Served, serving}

pub one-served : (s : Served) (a b : Answer) (after other : Results) → serving (paper a) after ≡ s → serving (paper b) other ≡ s → (a ≡ b) × (after ≡ other)
one-served s a b after other e k =
    let same = e ∙ sym k in
    (paper-one a b (ap (λ (x : Served). x.said) same), ap (λ (x : Served). x.results) same)
