-- The walk of `condemn` down the column: the links are as they were, and the options above the place are tested. The measure is what is left of the column.
use Rattle.std.proofs.Common.{◌≡◌, ℕ, length}
use Rattle.links.specs.Ground.{Ground}
use Rattle.links.specs.Nodes.{SameNodes, column}
use Rattle.links.proofs.Descending.{left}
use Rattle.condemning.specs.Condemning.{BeforeHiding, Hiding}
use Rattle.condemning.proofs.Finding.{Found}
use Rattle.condemning.proofs.condemn.condemn.Given as goal

abbrev pub invariant-loop-nodes : goal.invariant-loop-nodes
invariant-loop-nodes l =
    let n = l.fn.nodes in
    let m = l.nodes in
    SameNodes n m × (m.heads.now ≡ n.heads.now) × (m.up.now ≡ n.up.now) × (m.down.now ≡ n.down.now)
    × ((g : Ground) (i : ℕ) → BeforeHiding g i l.c n.shape → Hiding g i n.heads.now n.up.now n.down.now l.fn.tints l.fn.marks
    → (z : ℕ) × (l.stack ≡ column z) × Found g i n.shape.np z l.tints l.marks l.r)

abbrev pub decreases-loop-nodes : goal.decreases-loop-nodes
decreases-loop-nodes l = left (length l.fn.nodes.heads.now) l.fn.nodes.shape.start l.r
