-- `hiding::away::hide` meets its contract: at each place of the walk the lists are without the options hidden so far. Assumes nothing.
use Rattle.std.proofs.Common.{◌≡◌, ◌≤◌, ◌+◌, length, arith, rules}
use Rattle.links.specs.Column.{at}
use Rattle.links.specs.Ground.{taken}
use Rattle.links.specs.Taking.{gather_to, hidden}
use Rattle.links.specs.Nodes.{in_nodes}
use Rattle.links.proofs.SameNodes.{same-refl, same-then, same-start, same-np}
use Rattle.hiding.proofs.Columns.{stand-small}
use Rattle.hiding.proofs.Descent.{Gone, room, begin, finish, next, next-less, around, around-holds, dealt, within}
use Rattle.hiding.proofs.away.hide.Goals as goal

pub loop-nodes-init : goal.loop-nodes-init
loop-nodes-init c = (same-refl c.args.nodes.now, λ g w k. rw c.below-rr.ensures.node (begin w k))

pub offset_bounds-tints-rr : goal.offset_bounds-tints-rr
offset_bounds-tints-rr c = omega (arith, stand-small c.requires.1 (c.loop-nodes.invariant.1 c.requires.0 c.requires.1 c.requires.2).stand)

pub hide_option-stack-requires : goal.hide_option-stack-requires
hide_option-stack-requires c =
    let g = c.requires.0 in
    let w = c.requires.1 in
    let m = c.loop-nodes.invariant.1 g w c.requires.2 in
    let l : c.args.nodes.now.shape.start ≤ c.loop-nodes.rr = omega (arith, same-start c.loop-nodes.invariant.0) in
    let z : at c.args.tints.now c.loop-nodes.rr ≡ 0 = omega arith in
    (taken g (gather_to (hidden g c.args.c) g c.loop-nodes.rr), around w m.stand l m z, around-holds w m.stand l m z)

pub below-rr-requires-in-loop-nodes : goal.below-rr-requires-in-loop-nodes
below-rr-requires-in-loop-nodes c = grind (arith, within c.requires.1 c.requires.2 (c.loop-nodes.invariant.1 c.requires.0 c.requires.1 c.requires.2).stand)

pub loop-nodes-smaller : goal.loop-nodes-smaller
loop-nodes-smaller c =
    let g = c.requires.0 in
    let w = c.requires.1 in
    let i = c.loop-nodes.invariant in
    let m = i.1 g w c.requires.2 in
    let l : c.args.nodes.now.shape.start ≤ c.loop-nodes.rr = omega (arith, same-start i.0) in
    let t : in_nodes (Gone g (gather_to (hidden g c.args.c) g (c.loop-nodes.rr + 1)) c.args.nodes.now.shape.np) c.if-tints-rr-eq0.nodes c.if-tints-rr-eq0.stack =
    dealt w m.stand l m (same-np i.0) (λ z. search rules) (λ n t. grind (arith, t)) in
    next-less w m.stand l t (grind arith) (length c.args.nodes.now.heads.now) (room w c.requires.2)

pub loop-nodes-preserved : goal.loop-nodes-preserved
loop-nodes-preserved c =
    let i = c.loop-nodes.invariant in (
      grind (arith, same-then),
      λ g w k.
          let m = i.1 g w k in
          let l : c.args.nodes.now.shape.start ≤ c.loop-nodes.rr = omega (arith, same-start i.0) in
          next w m.stand l (dealt w m.stand l m (same-np i.0) (λ z. search rules) (λ n t. grind (arith, t))) (grind arith),
    )

pub returns-clause-taken : goal.returns-clause-taken
returns-clause-taken c = λ g w k. finish w (c.loop-nodes.invariant.1 g w k) (omega (arith, same-start c.loop-nodes.invariant.0))
