-- No second outcome: for any input each public call has one answer and one list afterwards, since its contract is one equation and the answer
-- can be read off its refusal's number and place. Document 01, "What the promises must nail down". Assumes nothing.
use Prim.Native.Nat.{ℕ}
use mathlib.Core.Path.{◌≡◌, refl, sym, ap, ◌∙◌}
use mathlib.Core.Bool.{cond}
use mathlib.Core.List.{List}
use mathlib.Core.Option.{Option, none, some}
use Rattle.std.specs.Prelude.{Ok, Err}
use lib.Dec.{eqb}
use Rattle.rules.specs.Checks.{Refusal}
use Rattle.rules.specs.Renumber.{Renumbered, compact_outcome, crate_outcome}
use Rattle.renumbering.specs.declared.answer.Unnumbered.TheVariants.{Ragged, BadKept, ShortOutcome, NotKept}
use Rattle.renumbering.specs.Outcome.{Renumbering, refusal, outcome}
use Rattle.renumbering.specs.Bytes.{compact_bytes_outcome}

-- the answer that a refusal is, or none
answered : Option Refusal → Renumbering
answered none = Ok tt
answered (some r) = Err (cond (eqb r.number 14) Ragged (cond (eqb r.number 24) BadKept (cond (eqb r.number 18) ShortOutcome (NotKept r.place))))

read_off : (r : Renumbering) → answered (refusal r) ≡ r
unfolding answered
read_off (Ok tt) = refl
read_off (Err Ragged) = refl
read_off (Err BadKept) = refl
read_off (Err ShortOutcome) = refl
read_off (Err (NotKept place)) = refl

-- two answers with one outcome are the same, and so are the lists
pub outcome-one : (r s : Renumbering) (a b : List ℕ) → outcome r a ≡ outcome s b → (r ≡ s) × (a ≡ b)
outcome-one r s a b e = (sym (read_off r) ∙ ap (λ (o : Renumbered). answered o.refusal) e ∙ read_off s, ap (λ (o : Renumbered). o.out) e)

module _ (kept : List ℕ) (primaries : ℕ) (items out : List ℕ) (r s : Renumbering) (a b : List ℕ) where
  pub compact-one : outcome r a ≡ compact_outcome kept primaries items out → outcome s b ≡ compact_outcome kept primaries items out → (r ≡ s) × (a ≡ b)
  compact-one e f = outcome-one r s a b (e ∙ sym f)

  pub crate-one : outcome r a ≡ crate_outcome kept primaries items out → outcome s b ≡ crate_outcome kept primaries items out → (r ≡ s) × (a ≡ b)
  crate-one e f = outcome-one r s a b (e ∙ sym f)

  pub compact-bytes-one : outcome r a ≡ compact_bytes_outcome kept primaries items out → outcome s b ≡ compact_bytes_outcome kept primaries items out → (r ≡ s) × (a ≡ b)
  compact-bytes-one e f = outcome-one r s a b (e ∙ sym f)
