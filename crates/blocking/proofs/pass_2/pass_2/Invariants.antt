-- The walk up one column: at each place the lists are those of the ground without what the rivals down to there had lost.
use Rattle.links.specs.Ground.{Ground}
use Rattle.links.specs.Nodes.{in_nodes, SameNodes}
use Rattle.blocking.specs.Undo.{Below}
use Rattle.blocking.proofs.pass_2.pass_2.Given as goal

abbrev pub invariant-loop-nodes : goal.invariant-loop-nodes
invariant-loop-nodes l =
    SameNodes l.fn.nodes l.nodes
    × ((g : Ground) → in_nodes (Below g l.tints l.from l.tint l.fn.nodes.shape.start) l.fn.nodes → in_nodes (Below g l.tints l.rr l.tint l.fn.nodes.shape.start) l.nodes)

abbrev pub decreases-loop-nodes : goal.decreases-loop-nodes
decreases-loop-nodes l = l.rr
