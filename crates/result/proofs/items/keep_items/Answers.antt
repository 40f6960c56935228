-- `result::items::keep_items` meets its contract: at place c the kept items among a .. c - 1 are written. Assumes nothing.
use Rattle.std.proofs.Common.{arith}
use Rattle.result.proofs.Keeping.{keeping-over, keeping-one}
use Rattle.result.proofs.items.keep_items.Goals as goal

pub loop-item-preserved-then-is_empty : goal.loop-item-preserved-then-is_empty
loop-item-preserved-then-is_empty c =
    let l = c.loop-item in
    (omega arith, keeping-over c.args.nodes.now.heads.now c.args.kept.now c.args.a l.auto.item l.invariant.1 (cc))

pub loop-item-preserved : goal.loop-item-preserved
loop-item-preserved c =
    let l = c.loop-item in
    (omega arith, keeping-one c.args.nodes.now.heads.now c.args.kept.now c.args.a l.auto.item l.invariant.1 (cc) (omega arith))
