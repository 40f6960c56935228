-- The walk back round one rival: at each place the lists are those of the ground without what the walk had passed there.
use Rattle.std.proofs.Common.{length}
use Rattle.links.specs.Ground.{Ground}
use Rattle.links.specs.Nodes.{in_nodes, SameNodes}
use Rattle.links.specs.Way.{way_back}
use Rattle.blocking.specs.Undo.{Half}
use Rattle.blocking.proofs.unhide_entries.unhide_entries.Given as goal

abbrev pub invariant-loop-qq : goal.invariant-loop-qq
invariant-loop-qq l = SameNodes l.fn.nodes l.nodes × ((g : Ground) → in_nodes (Half g l.rr l.from) l.fn.nodes → in_nodes (Half g l.rr l.qq) l.nodes)

abbrev pub decreases-loop-qq : goal.decreases-loop-qq
decreases-loop-qq l = way_back (length l.fn.nodes.heads.now) l.rr l.qq
