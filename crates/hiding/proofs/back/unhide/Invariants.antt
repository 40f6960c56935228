-- The walk down the column: only the options from there on are away, and fewer nodes are left.
use Rattle.std.proofs.Common.{length}
use Rattle.links.specs.Ground.{Ground, taken, Holds}
use Rattle.links.specs.Taking.{hides}
use Rattle.links.specs.Nodes.{in_nodes, SameNodes}
use Rattle.links.proofs.Descending.{left}
use Rattle.hiding.specs.Hiding.{Column}
use Rattle.hiding.proofs.DescentBack.{DescentBack}
use Rattle.hiding.proofs.back.unhide.Given as goal

abbrev pub invariant-loop-nodes : goal.invariant-loop-nodes
invariant-loop-nodes l =
    SameNodes l.fn.nodes l.nodes
    × ((g : Ground) → Column g l.tints l.c l.fn.nodes.shape.start → in_nodes (Holds (taken g (hides g l.c))) l.fn.nodes → in_nodes (DescentBack g l.c) l.nodes l.rr)

abbrev pub decreases-loop-nodes : goal.decreases-loop-nodes
decreases-loop-nodes l = left (length l.fn.nodes.heads.now) l.fn.nodes.shape.start l.rr
