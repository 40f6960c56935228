-- The walk round the option: the lists are those without what was passed, the first primary column that this emptied is remembered, and the way
-- back to r falls.
use Rattle.std.proofs.Common.{◌≡◌, ℕ, length}
use Rattle.links.specs.Ending.{ending}
use Rattle.links.specs.Ground.{Ground}
use Rattle.links.specs.Nodes.{in_nodes, SameNodes}
use Rattle.links.specs.Way.{way}
use Rattle.removing.specs.Deleting.{Deleting}
use Rattle.removing.proofs.Deletes.{Midway}
use Rattle.removing.proofs.delete.delete_others.Given as goal

abbrev pub invariant-loop-q : goal.invariant-loop-q
invariant-loop-q l =
    SameNodes l.fn.nodes l.nodes
    × ((g : Ground) → in_nodes (Deleting g l.r) l.fn.nodes → (z : ℕ) × (l.ended ≡ ending z) × in_nodes (Midway g l.r l.fn.nodes.shape.np) l.nodes l.q z)

abbrev pub decreases-loop-q : goal.decreases-loop-q
decreases-loop-q l = way (length l.fn.nodes.heads.now) l.r l.q
