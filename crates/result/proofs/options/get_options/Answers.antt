-- `result::options::get_options` meets its contract: at item c the options met in the columns before c's are written. Assumes nothing.
use Rattle.std.proofs.Common.{arith, rules}
use Rattle.result.specs.Left.{options_to}
use Rattle.result.specs.Writer.{lists_in}
use Rattle.result.proofs.SameWriter.{same-writer, writer-then}
use Rattle.result.proofs.AllColumns.{all-begins, all-over, all-column, all_one, all_done}
use Rattle.result.proofs.options.get_options.Goals.{then-not-is_empty, else-not-is_empty}
use Rattle.result.proofs.options.get_options.Goals as goal

pub loop-item-init : goal.loop-item-init
loop-item-init c = (same-writer _, λ g d k. all-begins d k)

pub get_column-requires : goal.get_column-requires
get_column-requires c =
    let p = c.requires in
    let l = c.loop-item in
    (p.0, lists_in c.args.results.now, options_to p.0 l.item, all-column p.1 p.2 (l.invariant.1 p.0 p.1 p.2) c.loop-item-test.true)

pub loop-item-preserved : goal.loop-item-preserved
loop-item-preserved c =
    let l = c.loop-item in
    elim c.if-not-is_empty.branch [
      | then-not-is_empty w ↦ rw w.out-is (
        writer-then l.invariant.0 w.get_column.ensures.lists,
        λ g d k.
            let a = all-column d k (l.invariant.1 g d k) c.loop-item-test.true in
            all_one d k _ _ _ l.item (w.get_column.ensures.column g (lists_in c.args.results.now) (options_to g l.item) a),
      )
      | else-not-is_empty w ↦ rw w.out-is (l.invariant.0, λ g d k. all-over d k (l.invariant.1 g d k) c.loop-item-test.true (cc))
    ]

pub returns-clause-options : goal.returns-clause-options
returns-clause-options c = λ g d k. search (rules, all_done d k (c.loop-item.invariant.1 g d k) (omega arith))
