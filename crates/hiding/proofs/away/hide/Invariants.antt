-- The walk down the column: the lists are without the options hidden so far, and fewer nodes are left.
use Rattle.std.proofs.Common.{length}
use Rattle.links.specs.Ground.{Ground, Holds}
use Rattle.links.specs.Nodes.{in_nodes, SameNodes}
use Rattle.links.proofs.Descending.{left}
use Rattle.hiding.specs.Hiding.{Column}
use Rattle.hiding.proofs.Descent.{Descent}
use Rattle.hiding.proofs.away.hide.Given as goal

abbrev pub invariant-loop-nodes : goal.invariant-loop-nodes
invariant-loop-nodes l =
    SameNodes l.fn.nodes l.nodes
    × ((g : Ground) → Column g l.tints l.c l.fn.nodes.shape.start → in_nodes (Holds g) l.fn.nodes → in_nodes (Descent g l.c l.fn.nodes.shape.np) l.nodes l.rr l.stack)

abbrev pub decreases-loop-nodes : goal.decreases-loop-nodes
decreases-loop-nodes l = left (length l.fn.nodes.heads.now) l.fn.nodes.shape.start l.rr
