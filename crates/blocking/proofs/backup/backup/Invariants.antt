-- The walk back round the tested option: at each place the lists are those of the ground without what the test had taken out in the columns
-- passed there.
use Rattle.std.proofs.Common.{length}
use Rattle.links.specs.Ground.{Ground}
use Rattle.links.specs.Nodes.{in_nodes, SameNodes}
use Rattle.links.specs.Way.{way_back}
use Rattle.blocking.specs.Undo.{Behind}
use Rattle.blocking.proofs.backup.backup.Given as goal

abbrev pub invariant-loop-q : goal.invariant-loop-q
invariant-loop-q l =
    SameNodes l.fn.nodes l.nodes
    × ((h : Ground) → in_nodes (Behind h l.tints l.from l.r l.fn.nodes.shape.start) l.fn.nodes → in_nodes (Behind h l.tints l.q l.r l.fn.nodes.shape.start) l.nodes)

abbrev pub decreases-loop-q : goal.decreases-loop-q
decreases-loop-q l = way_back (length l.fn.nodes.heads.now) l.r l.q
