-- The calls: the answers of the first two fit, and the number that each hands back is the outcome's, packed. Assumes nothing.
use Prim.Native.Nat.{ℕ}
use native.Mathlib.Omega.{arith}
use mathlib.Core.Path.{◌≡◌, ap, ◌∙◌}
use mathlib.Core.Bool.{Bool, false}
use Rattle.rules.specs.Problem.{figures, desk_figures}
use Rattle.rules.specs.Rooms.{Room, Results, Handed}
use Rattle.rules.specs.Paper.{paper}
use Rattle.rules.specs.Outcome.{Outcome, outcome_of}
use Rattle.rules.specs.declared.answer.Answer.{Answer}
use Rattle.engine.specs.Call.{outcome}
use Rattle.desk_call.specs.Desk.{Served, serving, served}
use Rattle.kapkyrem.specs.Packed.{packed_desk, packed_lists, Fits}
use mathlib.Core.List.{List}
use Rattle.rules.specs.Renumber.{Renumbered}
use Rattle.renumbering.specs.Outcome.{Renumbering, refusal, outcome as renumbered}
use Rattle.kapkyrem.specs.Calls.{called, called_lists, called_desk, called_bytes, called_compact, packed_renumbered, called_renumbered}
use Rattle.kapkyrem.proofs.Fitting.{FiguresFit, answer-fits}

-- Both sets of figures leave every field its room.
full : FiguresFit 25 36 47 figures
full = record { items = omega arith; options = omega arith; entries = omega arith; primaries = omega arith; secondaries = omega arith; counted = omega arith }

small : FiguresFit 32 40 48 desk_figures
small = record { items = omega arith; options = omega arith; entries = omega arith; primaries = omega arith; secondaries = omega arith; counted = omega arith }

-- Over lists of numbers
module _ (h : Handed) (a : Answer) {room : Room} {results : Results} (e : outcome (paper a) room results ≡ outcome_of h) where
  pub lists-fit : Fits 25 36 47 a
  lists-fit = answer-fits full false h a (ap (λ (o : Outcome). o.said) e)

  pub lists-called : {r : ℕ} → r ≡ packed_lists (paper a) → called r room results ≡ called_lists (outcome_of h)
  lists-called k = ap (λ (n : ℕ). called n room results) k ∙ ap called_lists e

-- Over bytes
module _ (ragged : Bool) (h : Handed) (bytes : Results) (a : Answer) {results : Results} (e : serving (paper a) results ≡ served ragged h bytes) where
  pub bytes_fit : Fits 32 40 48 a
  unfolding served
  bytes_fit = answer-fits small ragged h a (ap (λ (s : Served). s.said) e)

  pub bytes-called : {r : ℕ} → r ≡ packed_desk (paper a) → called_desk r results ≡ called_bytes (served ragged h bytes)
  bytes-called k = ap (λ (n : ℕ). called_desk n results) k ∙ ap called_bytes e

-- Compact numbers
pub compact-called : (r : Renumbering) (x : Renumbered) {out : List ℕ} {answer : ℕ} → renumbered r out ≡ x → answer ≡ packed_renumbered (refusal r)
    → called_compact answer out ≡ called_renumbered x
compact-called r x {out} e k = ap (λ (n : ℕ). called_compact n out) k ∙ ap called_renumbered e
