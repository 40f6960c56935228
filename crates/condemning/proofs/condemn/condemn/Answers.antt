-- `condemning::condemn::condemn` meets its contract: at each place of the walk the options above it are tested, and the lists are as they were. Assumes nothing.
use Rattle.std.proofs.Common.{ℕ, List, ◌+◌, refl, ◌∙◌, sym, ap}
use mathlib.Core.Path.{subst}
use Rattle.links.specs.Column.{at}
use Rattle.links.proofs.SameNodes.{same-refl, same-then, same-np}
use Rattle.condemning.specs.Condemning.{Tried}
use Rattle.condemning.proofs.Finding.{Found, find-column, find-begin, find-down, find-trying, find-next, find-less}
use Rattle.condemning.proofs.condemn.condemn.Goals as goal

pub below-r-requires : goal.below-r-requires
below-r-requires c = find-column c.requires.2 c.requires.3

pub loop-nodes-init : goal.loop-nodes-init
loop-nodes-init c = (same-refl c.args.nodes.now, refl, refl, refl, λ g i s w. (0, refl, rw c.below-r.ensures.node (find-begin s w)))

pub test_at-stack-requires : goal.test_at-stack-requires
test_at-stack-requires c =
    let a = c.requires in
    let v = c.loop-nodes.invariant in
    let p = v.4 a.0 a.1 a.2 a.3 in
    (a.0, a.1, p.0, p.1, rw (v.1, v.2, v.3, v.0.shape) (find-trying a.2 a.3 p.2 (rw v.0.shape at c.loop-nodes-test.true)))

pub below-r-requires-in-loop-nodes : goal.below-r-requires-in-loop-nodes
below-r-requires-in-loop-nodes c =
    let a = c.requires in
    let v = c.loop-nodes.invariant in
    rw (c.test_at-stack.ensures.same.2, v.3) (find-down a.2 a.3 (v.4 a.0 a.1 a.2 a.3).2)

pub loop-nodes-smaller : goal.loop-nodes-smaller
loop-nodes-smaller c =
    let a = c.requires in
    let v = c.loop-nodes.invariant in
    rw (c.below-r-in-loop-nodes.ensures.node, c.test_at-stack.ensures.same.2, v.3)
    (find-less a.2 a.3 (v.4 a.0 a.1 a.2 a.3).2 (rw v.0.shape at c.loop-nodes-test.true))

pub loop-nodes-preserved : goal.loop-nodes-preserved
loop-nodes-preserved c =
    let v = c.loop-nodes.invariant in
    let t = c.test_at-stack.ensures in
    let down = c.below-r-in-loop-nodes.ensures.node ∙ ap (λ (d : List ℕ). at d c.loop-nodes.r) (t.same.2 ∙ v.3) in (
      same-then v.0 t.nodes,
      t.same.0 ∙ v.1,
      t.same.1 ∙ v.2,
      t.same.2 ∙ v.3,
      λ g i s w.
          let p = v.4 g i s w in
          let b = rw v.0.shape at c.loop-nodes-test.true in
          let f = t.found g i p.0 p.1 (rw (v.1, v.2, v.3, v.0.shape) (find-trying s w p.2 b)) in (
            f.0,
            f.1,
            subst (Found g i c.args.nodes.now.shape.np f.0 c.test_at-stack.new.tints c.test_at-stack.new.marks) (sym down)
                (find-next s w p.2 b {z' = f.0} (subst (λ (k : ℕ). Tried g i k (c.loop-nodes.r + 1) f.0 c.test_at-stack.new.tints c.test_at-stack.new.marks) (same-np v.0) f.2)),
          ),
    )
