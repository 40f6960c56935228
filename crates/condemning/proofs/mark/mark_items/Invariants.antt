-- The walk of `mark_items`: the full entries passed are marked. The measure is how far the end of the nodes is.
use Rattle.std.proofs.Common.{ℕ, Bool, ◌-◌, length}
use Rattle.links.specs.Ground.{Ground}
use Rattle.condemning.specs.Marks.{Marking}
use Rattle.condemning.proofs.Marking.{Passing}
use Rattle.condemning.proofs.mark.mark_items.Given as goal

abbrev pub invariant-loop-i : goal.invariant-loop-i
invariant-loop-i l = (g : Ground) (on : ℕ → Bool) → Marking g on l.r l.nodes.heads.now l.fn.marks → Passing g on l.r l.marks l.q

abbrev pub decreases-loop-i : goal.decreases-loop-i
decreases-loop-i l = length l.nodes.heads.now - l.q
