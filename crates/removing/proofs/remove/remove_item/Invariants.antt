-- The walk down the column: the options passed are deleted or shortened, no primary column was emptied yet, and fewer nodes are left.
use Rattle.std.proofs.Common.{length}
use Rattle.links.specs.Ground.{Ground}
use Rattle.links.specs.Nodes.{in_nodes, SameNodes}
use Rattle.links.proofs.Descending.{left}
use Rattle.removing.specs.Removing.{Removing}
use Rattle.removing.proofs.Removes.{AtNode}
use Rattle.removing.proofs.remove.remove_item.Given as goal

abbrev pub invariant-loop-nodes : goal.invariant-loop-nodes
invariant-loop-nodes l =
    SameNodes l.fn.nodes l.nodes
    × ((g : Ground) → in_nodes (Removing g l.c l.p l.fn.nodes.shape.start) l.fn.nodes → in_nodes (AtNode g l.c l.p l.fn.nodes.shape.np) l.nodes l.r)

abbrev pub decreases-loop-nodes : goal.decreases-loop-nodes
decreases-loop-nodes l = left (length l.fn.nodes.heads.now) l.fn.nodes.shape.start l.r
