-- `result::options::get_column` meets its contract: at node r the options met in the column before r are written. Assumes nothing.
use Rattle.std.proofs.Common.{◌++◌, refl, ap, sym, ◌∙◌, arith}
use Rattle.std.specs.Option.{is_some}
use Rattle.links.proofs.Descending.{reach}
use Rattle.result.specs.Left.{column_to}
use Rattle.result.proofs.SameWriter.{same-writer, writer-then}
use Rattle.result.proofs.OneColumn.{column-begins, place_in, column-done, place-led, place-less, lead-in, place-over, place-option, place-one}
use Rattle.result.proofs.options.get_column.Goals.{then-first, else-first}
use Rattle.result.proofs.options.get_column.Goals as goal

pub loop-r-init : goal.loop-r-init
loop-r-init c = (same-writer c.args.out.now, λ g old xs d. rw c.below-r.ensures.node (column-begins d))

pub lead-requires : goal.lead-requires
lead-requires c = let p = c.requires in (p.0, place-led p.3 (c.loop-r.invariant.1 p.0 p.1 p.2 p.3) (omega arith))

pub column-requires : goal.column-requires
column-requires c =
    let p = c.requires in
    let b = c.loop-r.invariant.1 p.0 p.1 p.2 p.3 in
    lead-in p.3 b (omega arith) (c.lead.ensures p.0 (place-led p.3 b (omega arith)))

pub get_option-requires : goal.get_option-requires
get_option-requires c =
    let p = c.requires in
    let b = c.loop-r.invariant.1 p.0 p.1 p.2 p.3 in (
      p.0,
      p.1,
      p.2 ++ column_to p.0 c.args.c (reach p.0.plan c.loop-r.r),
      place-option p.3 b (omega arith) (c.lead.ensures p.0 (place-led p.3 b (omega arith))) (ap is_some (sym c.column.ensures) ∙ c.if-first.ensures),
    )

pub below-r-requires-in-loop-r : goal.below-r-requires-in-loop-r
below-r-requires-in-loop-r c = let p = c.requires in place_in p.3 (c.loop-r.invariant.1 p.0 p.1 p.2 p.3)

pub loop-r-smaller : goal.loop-r-smaller
loop-r-smaller c =
    let p = c.requires in
    rw c.below-r-in-loop-r.ensures.node (place-less p.3 (c.loop-r.invariant.1 p.0 p.1 p.2 p.3) (omega arith) _ refl)

pub loop-r-preserved : goal.loop-r-preserved
loop-r-preserved c =
    let v = c.loop-r.invariant in
    rw c.below-r-in-loop-r.ensures.node
    elim c.if-first.branch [
      | then-first w ↦ rw w.out-is (
        writer-then v.0 w.get_option.ensures.lists,
        λ g old xs d.
            let b = v.1 g old xs d in
            let f = c.lead.ensures g (place-led d b (omega arith)) in
            let i = ap is_some (sym c.column.ensures) ∙ w.if-first.ensures in
            let o = w.get_option.ensures.option g old (xs ++ column_to g c.args.c (reach g.plan c.loop-r.r)) (place-option d b (omega arith) f i) in
            place-one d b (omega arith) f i _ _ _ o,
      )
      | else-first w ↦ rw w.out-is (
        v.0,
        λ g old xs d.
            let b = v.1 g old xs d in
            place-over d b (omega arith) (c.lead.ensures g (place-led d b (omega arith))) (ap is_some (sym c.column.ensures) ∙ w.if-first.ensures),
      )
    ]

pub returns-clause-column : goal.returns-clause-column
returns-clause-column c = λ g old xs d. column-done d (c.loop-r.invariant.1 g old xs d) (omega arith)
