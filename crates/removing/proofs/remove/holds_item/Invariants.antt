-- The walk round the option: no entry of column p was met yet, and the way back to r falls.
use Rattle.std.proofs.Common.{length}
use Rattle.links.specs.Ground.{Ground}
use Rattle.links.specs.Way.{way}
use Rattle.removing.specs.Removing.{Walking}
use Rattle.removing.proofs.Holding.{HoldingAt}
use Rattle.removing.proofs.remove.holds_item.Given as goal

abbrev pub invariant-loop-q : goal.invariant-loop-q
invariant-loop-q l = (g : Ground) → Walking g l.r l.nodes.heads.now l.nodes.up.now → HoldingAt g l.r l.p l.q

abbrev pub decreases-loop-q : goal.decreases-loop-q
decreases-loop-q l = way (length l.nodes.heads.now) l.r l.q
