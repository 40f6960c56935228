-- `blocking::pass_2::pass_2` meets its contract: at each place the lists are those of the ground without what the rivals down to there had
-- lost. Assumes nothing.
use Rattle.std.proofs.Common.{rules, ◌≤◌, ◌<◌, ◌∙◌, sym, length, arith}
use Rattle.links.specs.Ground.{Ground}
use Rattle.links.specs.Nodes.{in_nodes, SameNodes}
use Rattle.links.proofs.SameNodes.{same-then, same-start}
use Rattle.blocking.specs.Undo.{Below}
use Rattle.blocking.proofs.Upwards.{Above, below-done, below-tint, below_half, clash-above, agree-above, link-in, link-falls, step-up}
use Rattle.blocking.proofs.pass_2.pass_2.Goals as goal
use Rattle.blocking.proofs.pass_2.pass_2.Goals.{In-loop-nodes, Joined-clash, then-clash, else-clash}

tint : (c : In-loop-nodes) → c.loop-nodes.rr < length c.args.tints.now
tint c = below-tint (c.loop-nodes.invariant.1 c.requires.0 c.requires.1) (omega (arith, c.loop-nodes-test.true, same-start c.loop-nodes.invariant.0))

-- after the branch k's option is whole, and the nodes are still the same ones
met : (c : Joined-clash) (g : Ground) → in_nodes (Below g c.args.tints.now c.args.from c.args.tint c.args.nodes.now.shape.start) c.args.nodes.now
    → in_nodes (Above g c.args.tints.now c.loop-nodes.rr c.args.tint c.args.nodes.now.shape.start) c.if-clash.nodes
met c g m =
    let b = c.loop-nodes.invariant.1 g m in
    let h : c.args.nodes.now.shape.start ≤ c.loop-nodes.rr = omega (arith, c.loop-nodes-test.true, same-start c.loop-nodes.invariant.0) in
    elim c.if-clash.branch [
      | then-clash w ↦
          let z = sym c.clash.ensures ∙ w.if-clash.true in
          rw w.nodes-is (clash-above b h z (w.unhide_entries.ensures.undone _ (below_half b h z)))
      | else-clash w ↦ rw w.nodes-is (agree-above b h (sym c.clash.ensures ∙ w.if-clash.false))
    ]

same : (c : Joined-clash) → SameNodes c.args.nodes.now c.if-clash.nodes
same c =
    elim c.if-clash.branch [
      | then-clash w ↦ rw w.nodes-is (same-then c.loop-nodes.invariant.0 w.unhide_entries.ensures.nodes)
      | else-clash w ↦ rw w.nodes-is c.loop-nodes.invariant.0
    ]

pub offset_bounds-tints-rr : goal.offset_bounds-tints-rr
offset_bounds-tints-rr c = omega (arith, tint c)

pub bounds-tints-rr : goal.bounds-tints-rr
bounds-tints-rr c = tint (goal.at.bounds-tints-rr c).In-loop-nodes

pub unhide_entries-requires : goal.unhide_entries-requires
unhide_entries-requires c =
    let l = c.loop-nodes in
    (_, below_half (l.invariant.1 c.requires.0 c.requires.1) (omega (arith, c.loop-nodes-test.true, same-start l.invariant.0)) (sym c.clash.ensures ∙ c.if-clash.true))

pub above-rr-requires : goal.above-rr-requires
above-rr-requires c = link-in (met c c.requires.0 c.requires.1)

pub loop-nodes-smaller : goal.loop-nodes-smaller
loop-nodes-smaller c = link-falls (met (goal.at.loop-nodes-smaller c).Joined-clash c.requires.0 c.requires.1) (search rules)

pub loop-nodes-preserved : goal.loop-nodes-preserved
loop-nodes-preserved c =
    let j = (goal.at.loop-nodes-preserved c).Joined-clash in
    (same j, λ g m. step-up (met j g m) (search rules))

pub returns-clause-undone : goal.returns-clause-undone
returns-clause-undone c = λ g m. below-done (c.loop-nodes.invariant.1 g m) (omega (arith, c.loop-nodes-test.false, same-start c.loop-nodes.invariant.0))
