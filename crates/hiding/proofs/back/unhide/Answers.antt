-- `hiding::back::unhide` meets its contract: at each place of the walk only the options from there on are away. Assumes nothing.
use Rattle.std.proofs.Common.{◌+◌, ◌≤◌, length, arith}
use Rattle.links.specs.Ground.{Ground, taken, Holds}
use Rattle.links.specs.Taking.{hidden, hides}
use Rattle.links.specs.Nodes.{in_nodes}
use Rattle.links.proofs.SameNodes.{same-refl, same-then, same-start}
use Rattle.hiding.specs.Hiding.{Column}
use Rattle.hiding.specs.Away.{Away}
use Rattle.hiding.proofs.Columns.{head-stand}
use Rattle.hiding.proofs.Order.{gather_later}
use Rattle.hiding.proofs.DescentBack.{room, within, begin, finish, next, next-less, spare, behind, behind-away}
use Rattle.hiding.proofs.back.unhide.Goals as goal
use Rattle.hiding.proofs.back.unhide.Goals.{then-tints-rr-eq0, else-tints-rr-eq0}

-- after the test the node at rr is dealt with, whichever way it went
dealt : (c : goal.After-below-rr-in-loop-nodes) (g : Ground) → Column g c.args.tints.now c.args.c c.args.nodes.now.shape.start → in_nodes (Holds (taken g (hides g c.args.c))) c.args.nodes.now
    → in_nodes (Away g (gather_later (hidden g c.args.c) g (c.loop-nodes.rr + 1))) c.if-tints-rr-eq0.nodes
dealt c g w k =
    let m = c.loop-nodes.invariant.1 g w k in
    let l : c.args.nodes.now.shape.start ≤ c.loop-nodes.rr = omega (arith, same-start c.loop-nodes.invariant.0) in
    let rest = gather_later (hidden g c.args.c) g (c.loop-nodes.rr + 1) in
    elim c.if-tints-rr-eq0.branch [
      | then-tints-rr-eq0 v ↦
          let z = v.if-tints-rr-eq0.true in
          rw v.nodes-is (v.unhide_option.ensures.back g rest (behind w m.stand l m z) (behind-away w m.stand l m z))
      | else-tints-rr-eq0 v ↦ rw v.nodes-is (spare w m.stand l m v.if-tints-rr-eq0.false)
    ]

pub below-rr-requires : goal.below-rr-requires
below-rr-requires c = (within c.requires.1 c.requires.2 (head-stand c.requires.1)).1

pub loop-nodes-init : goal.loop-nodes-init
loop-nodes-init c = (same-refl c.args.nodes.now, λ g w k. rw c.below-rr.ensures.node (begin w k))

pub unhide_option-requires : goal.unhide_option-requires
unhide_option-requires c =
    let g = c.requires.0 in
    let w = c.requires.1 in
    let m = c.loop-nodes.invariant.1 g w c.requires.2 in
    let l : c.args.nodes.now.shape.start ≤ c.loop-nodes.rr = omega (arith, same-start c.loop-nodes.invariant.0) in
    (g, gather_later (hidden g c.args.c) g (c.loop-nodes.rr + 1), behind w m.stand l m (omega arith), behind-away w m.stand l m (omega arith))

pub loop-nodes-smaller : goal.loop-nodes-smaller
loop-nodes-smaller c =
    let g = c.requires.0 in
    let w = c.requires.1 in
    let k = c.requires.2 in
    next-less w (c.loop-nodes.invariant.1 g w k).stand (omega (arith, same-start c.loop-nodes.invariant.0)) (dealt c g w k) c.below-rr-in-loop-nodes.ensures.node
    (length c.args.nodes.now.heads.now) (room w k)

pub loop-nodes-preserved : goal.loop-nodes-preserved
loop-nodes-preserved c = (
  grind (arith, same-then),
  λ g w k.
      next w (c.loop-nodes.invariant.1 g w k).stand (omega (arith, same-start c.loop-nodes.invariant.0)) (dealt c g w k) c.below-rr-in-loop-nodes.ensures.node,
)

pub returns-clause-back : goal.returns-clause-back
returns-clause-back c = λ g w k. finish w (c.loop-nodes.invariant.1 g w k) (omega (arith, same-start c.loop-nodes.invariant.0))
