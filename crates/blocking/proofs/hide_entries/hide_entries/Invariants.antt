-- The three loops of the walk forwards: at each place the nodes that are out are those that the place says.
use Rattle.std.proofs.Common.{length}
use Rattle.links.specs.Ground.{Ground, Holds}
use Rattle.links.specs.Nodes.{in_nodes, SameNodes}
use Rattle.links.specs.Way.{way}
use Rattle.links.proofs.Descending.{left}
use Rattle.blocking.specs.Forward.{Test, Outer, Middle, Inner}
use Rattle.blocking.proofs.hide_entries.hide_entries.Given as goal

abbrev pub invariant-loop-qq : goal.invariant-loop-qq
invariant-loop-qq l =
    SameNodes l.fn.nodes l.nodes
    × ((h : Ground) → in_nodes (Inner h l.tints l.marks l.r l.fn.nodes.shape l.q l.rr l.initial.qq) l.initial.nodes
    → in_nodes (Inner h l.tints l.marks l.r l.fn.nodes.shape l.q l.rr l.qq) l.nodes)

abbrev pub decreases-loop-qq : goal.decreases-loop-qq
decreases-loop-qq l = way (length l.fn.nodes.heads.now) l.rr l.qq

abbrev pub invariant-loop-nodes : goal.invariant-loop-nodes
invariant-loop-nodes l =
    SameNodes l.fn.nodes l.nodes
    × ((h : Ground) → in_nodes (Middle h l.tints l.marks l.r l.fn.nodes.shape l.q l.initial.rr) l.initial.nodes
    → in_nodes (Middle h l.tints l.marks l.r l.fn.nodes.shape l.q l.rr) l.nodes)

abbrev pub decreases-loop-nodes : goal.decreases-loop-nodes
decreases-loop-nodes l = left (length l.fn.nodes.heads.now) l.fn.nodes.shape.start l.rr

abbrev pub invariant-loop-q : goal.invariant-loop-q
invariant-loop-q l =
    SameNodes l.fn.nodes l.nodes
    × ((h : Ground) → Test h l.tints l.marks l.r l.fn.nodes.shape → in_nodes (Holds h) l.fn.nodes
    → in_nodes (Outer h l.tints l.marks l.r l.fn.nodes.shape l.q) l.nodes)

abbrev pub decreases-loop-q : goal.decreases-loop-q
decreases-loop-q l = way (length l.fn.nodes.heads.now) l.r l.q
