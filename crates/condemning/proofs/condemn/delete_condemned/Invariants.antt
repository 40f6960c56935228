-- The walk of `delete_condemned` along the chain: what has been deleted so far. The chain goes to lower nodes.
use Rattle.std.proofs.Common.{◌≡◌, ℕ}
use Rattle.links.specs.Ground.{Ground}
use Rattle.links.specs.Nodes.{in_nodes, SameNodes, column}
use Rattle.condemning.specs.Condemning.{Sparing}
use Rattle.condemning.proofs.Chained.{node_in, DeletesAt}
use Rattle.condemning.proofs.condemn.delete_condemned.Given as goal

abbrev pub invariant-loop-next : goal.invariant-loop-next
invariant-loop-next l =
    let n = l.fn.nodes in
    SameNodes n l.nodes
    × ((g : Ground) (i z : ℕ) → l.fn.stack ≡ column z → Sparing g i n.shape.np z n.heads.now n.up.now n.down.now l.tints
    → in_nodes (DeletesAt g i n.shape.np l.tints) l.nodes l.next)

abbrev pub decreases-loop-next : goal.decreases-loop-next
decreases-loop-next l = node_in l.next
