-- What a caller learns of what a check says. Assumes nothing.
use mathlib.Core.Path.{◌≡◌, sym, ap, ◌∙◌}
use mathlib.Core.Option.{Option, none, some}
use Rattle.std.specs.Prelude.{Result, Ok, Err, IsErrAnd}
use Rattle.std.proofs.lemmas.Result.{err_from_is_err_and}
use Rattle.rules.specs.declared.refusal.Refusal.{Refusal}
use Rattle.rules.specs.Checks.{Refusal as PaperRefusal}
use Rattle.rules.specs.Refusals.{as_paper, refusal_in}

-- a refusal that is handed on is the same one
pub handed-on : {A : Type 0} (r : Result A Refusal) (q : Refusal) {o : Option PaperRefusal} → IsErrAnd r (λ x. x ≡ q) → some (as_paper q) ≡ o → refusal_in r ≡ o
handed-on r q h e = let p = err_from_is_err_and r h in rw (p.1, p.2) e

-- what a caller learns of an answer: a refusal is the one that is told, and else none is told
module _ {A : Type 0} {c : Result A Refusal} {o : Option PaperRefusal} (told : refusal_in c ≡ o) where
  pub refuses : {r : Refusal} → c ≡ Err r → o ≡ some (as_paper r)
  refuses k = sym told ∙ ap refusal_in k

  pub passes : {x : A} → c ≡ Ok x → o ≡ none
  passes k = sym told ∙ ap refusal_in k
