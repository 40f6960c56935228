-- The walk round the option: the lists are without what it passed, and the way back to rr falls.
use Rattle.std.proofs.Common.{length}
use Rattle.links.specs.Ground.{Ground, Holds}
use Rattle.links.specs.Way.{way}
use Rattle.links.specs.Nodes.{in_nodes, SameNodes}
use Rattle.hiding.specs.Hiding.{Around}
use Rattle.hiding.proofs.Round.{Round}
use Rattle.hiding.proofs.away.hide_option.Given as goal

abbrev pub invariant-loop-qq : goal.invariant-loop-qq
invariant-loop-qq l =
    SameNodes l.fn.nodes l.nodes
    × ((g : Ground) → Around g l.rr → in_nodes (Holds g) l.fn.nodes → in_nodes (Round g l.rr l.fn.nodes.shape.np l.fn.last) l.nodes l.qq l.stack)

abbrev pub decreases-loop-qq : goal.decreases-loop-qq
decreases-loop-qq l = way (length l.fn.nodes.heads.now) l.rr l.qq
