-- `blocking::hide_entries::hide_entries` meets its contract: at each place of the three loops the nodes that are out are those that the place
-- says, and no primary item that r does not hold was emptied. Assumes nothing.
use Rattle.std.proofs.Common.{◌≤◌, ◌<◌, ◌∙◌, sym, length, arith}
use Rattle.links.specs.Ground.{Ground, Holds}
use Rattle.links.specs.Nodes.{in_nodes, SameNodes}
use Rattle.links.proofs.SameNodes.{same-refl, same-then, same-start}
use Rattle.blocking.specs.Forward.{Test, Middle, Inner}
use Rattle.blocking.proofs.Items.{outer-begins, outer-over, outer-over-way, outer-link, enter}
use Rattle.blocking.proofs.Rivals.{Passed, leave, middle-tint, middle-fits, round, spare, down-in, step_down, step_left}
use Rattle.blocking.proofs.Entries.{inner-in, inner-done, inner-over, inner-over-way, inner-way, inner-fewer, inner-mark, inner-unlink, inner-take, inner-stops}
use Rattle.blocking.proofs.hide_entries.hide_entries.Goals as goal
use Rattle.blocking.proofs.hide_entries.hide_entries.Goals.{In-loop-nodes, In-loop-qq, Joined-clash, then-clash+else-loop-qq-test, else-clash}

-- at the head of each inner loop
middle : (c : In-loop-nodes) (h : Ground) → Test h c.args.tints.now c.args.marks.now c.args.r c.args.nodes.now.shape → in_nodes (Holds h) c.args.nodes.now
    → in_nodes (Middle h c.args.tints.now c.args.marks.now c.args.r c.args.nodes.now.shape c.loop-q.q c.loop-nodes.rr) c.loop-nodes.nodes
middle c h w l =
    c.loop-nodes.invariant.1 h (enter (c.loop-q.invariant.1 h w l) c.loop-q-test.true (sym c.in-Some.is ∙ c.column.ensures) c.below-rr.ensures.node)

inner : (c : In-loop-qq) (h : Ground) → Test h c.args.tints.now c.args.marks.now c.args.r c.args.nodes.now.shape → in_nodes (Holds h) c.args.nodes.now
    → in_nodes (Inner h c.args.tints.now c.args.marks.now c.args.r c.args.nodes.now.shape c.loop-q.q c.loop-nodes.rr c.loop-qq.qq) c.loop-qq.nodes
inner c h w l =
    let v = c.loop-nodes in
    let m = v.invariant.1 h (enter (c.loop-q.invariant.1 h w l) c.loop-q-test.true (sym c.in-Some.is ∙ c.column.ensures) c.below-rr.ensures.node) in
    c.loop-qq.invariant.1 h (round m (omega (arith, c.loop-nodes-test.true, same-start v.invariant.0)) (sym c.clash.ensures ∙ c.if-clash.true))

-- rr was dealt with, rival or not
passed : (c : Joined-clash) (h : Ground)
    → in_nodes (Middle h c.args.tints.now c.args.marks.now c.args.r c.args.nodes.now.shape c.loop-q.q c.loop-nodes.rr) c.loop-nodes.nodes
    → in_nodes (Passed h c.args.tints.now c.args.marks.now c.args.r c.args.nodes.now.shape c.loop-q.q c.loop-nodes.rr) c.if-clash.nodes
passed c h m =
    let b : c.args.nodes.now.shape.start ≤ c.loop-nodes.rr = omega (arith, c.loop-nodes-test.true, same-start c.loop-nodes.invariant.0) in
    elim c.if-clash.branch [
      | then-clash+else-loop-qq-test w ↦
          rw w.nodes-is (inner-done (w.loop-qq.invariant.1 h (round m b (sym c.clash.ensures ∙ w.if-clash.true))) w.loop-qq-test.false)
      | else-clash w ↦ rw w.nodes-is (spare m b (sym c.clash.ensures ∙ w.if-clash.false))
    ]

same : (c : Joined-clash) → SameNodes c.args.nodes.now c.if-clash.nodes
same c =
    elim c.if-clash.branch [
      | then-clash+else-loop-qq-test w ↦ rw w.nodes-is w.loop-qq.invariant.0
      | else-clash w ↦ rw w.nodes-is c.loop-nodes.invariant.0
    ]

pub loop-q-init : goal.loop-q-init
loop-q-init c = (same-refl c.args.nodes.now, λ h w l. outer-begins w l)

pub loop-q-smaller-in_default : goal.loop-q-smaller-in_default
loop-q-smaller-in_default c =
    let o = c.loop-q in
    rw c.above-q.ensures.node
    (outer-over-way (o.invariant.1 c.requires.0 c.requires.1 c.requires.2) c.loop-q-test.true (sym c.in_default.is ∙ c.column.ensures)
    (length c.args.nodes.now.heads.now) o.invariant.0.heads-long)

pub loop-q-preserved-in_default : goal.loop-q-preserved-in_default
loop-q-preserved-in_default c =
    let o = c.loop-q in
    (o.invariant.0, λ h w l. rw c.above-q.ensures.node (outer-over (o.invariant.1 h w l) c.loop-q-test.true (sym c.in_default.is ∙ c.column.ensures)))

pub below-rr-requires : goal.below-rr-requires
below-rr-requires c = outer-link (c.loop-q.invariant.1 c.requires.0 c.requires.1 c.requires.2) c.loop-q-test.true (sym c.in-Some.is ∙ c.column.ensures)

tint : (c : In-loop-nodes) → c.loop-nodes.rr < length c.args.tints.now
tint c = middle-tint (middle c c.requires.0 c.requires.1 c.requires.2) (omega (arith, c.loop-nodes-test.true, same-start c.loop-nodes.invariant.0))

pub offset_bounds-tints-rr : goal.offset_bounds-tints-rr
offset_bounds-tints-rr c = omega (arith, tint c)

pub bounds-tints-rr : goal.bounds-tints-rr
bounds-tints-rr c = tint (goal.at.bounds-tints-rr c).In-loop-nodes

pub overflow_add-qq : goal.overflow_add-qq
overflow_add-qq c =
    let m = middle (goal.at.overflow_add-qq c).In-loop-nodes c.requires.0 c.requires.1 c.requires.2 in
    omega (arith, middle-fits m (omega (arith, c.loop-nodes-test.true, same-start c.loop-nodes.invariant.0)))

pub column-requires-in-loop-qq : goal.column-requires-in-loop-qq
column-requires-in-loop-qq c = (inner-in (inner c c.requires.0 c.requires.1 c.requires.2)).0

pub above-qq-requires : goal.above-qq-requires
above-qq-requires c = (inner-in (inner (goal.at.above-qq-requires c).In-loop-qq c.requires.0 c.requires.1 c.requires.2)).1

pub loop-qq-smaller-in_default-column : goal.loop-qq-smaller-in_default-column
loop-qq-smaller-in_default-column c =
    let i = inner (goal.at.loop-qq-smaller-in_default-column c).In-loop-qq c.requires.0 c.requires.1 c.requires.2 in
    rw c.above-qq.ensures.node
    (inner-over-way i c.loop-qq-test.true (sym c.in_default-column.is ∙ c.column-in-loop-qq.ensures) (length c.args.nodes.now.heads.now) c.loop-qq.invariant.0.heads-long)

pub loop-qq-preserved-in_default-column : goal.loop-qq-preserved-in_default-column
loop-qq-preserved-in_default-column c =
    let e = c.loop-qq in
    (e.invariant.0, λ h m. rw c.above-qq.ensures.node (inner-over (e.invariant.1 h m) c.loop-qq-test.true (sym c.in_default-column.is ∙ c.column-in-loop-qq.ensures)))

pub stops-requires : goal.stops-requires
stops-requires c =
    let i = inner (goal.at.stops-requires c).In-loop-qq c.requires.0 c.requires.1 c.requires.2 in
    let some = sym c.in-Some-column.is ∙ c.column-in-loop-qq.ensures in
    let f = inner-fewer i c.loop-qq-test.true some in
    (f.0, inner-mark i c.loop-qq-test.true some, f.2)

pub returns-then-stops-clause-place : goal.returns-then-stops-clause-place
returns-then-stops-clause-place c =
    let e = c.loop-qq in
    λ h w l.
    inner-stops (inner (goal.at.returns-then-stops-clause-place c).In-loop-qq h w l) c.loop-qq-test.true (sym c.in-Some-column.is ∙ c.column-in-loop-qq.ensures)
    (rw e.invariant.0.shape at (sym c.stops.ensures ∙ c.if-stops.true))

pub fewer-requires : goal.fewer-requires
fewer-requires c =
    inner-fewer (inner (goal.at.fewer-requires c).In-loop-qq c.requires.0 c.requires.1 c.requires.2) c.loop-qq-test.true (sym c.in-Some-column.is ∙ c.column-in-loop-qq.ensures)

pub unlink-requires : goal.unlink-requires
unlink-requires c =
    rw (c.fewer.ensures.up, c.fewer.ensures.down)
    (inner-unlink (inner (goal.at.unlink-requires c).In-loop-qq c.requires.0 c.requires.1 c.requires.2) c.loop-qq-test.true (sym c.in-Some-column.is ∙ c.column-in-loop-qq.ensures))

pub loop-qq-smaller : goal.loop-qq-smaller
loop-qq-smaller c =
    inner-way (inner (goal.at.loop-qq-smaller c).In-loop-qq c.requires.0 c.requires.1 c.requires.2) c.loop-qq-test.true (length c.args.nodes.now.heads.now) c.loop-qq.invariant.0.heads-long

pub loop-qq-preserved : goal.loop-qq-preserved
loop-qq-preserved c =
    let e = c.loop-qq in (
      same-then (same-then e.invariant.0 c.fewer.ensures.nodes) c.unlink.ensures.nodes,
      λ h m.
          rw (c.unlink.ensures.heads, c.unlink.ensures.up, c.unlink.ensures.down, c.fewer.ensures.heads, c.fewer.ensures.up, c.fewer.ensures.down)
          (inner-take (e.invariant.1 h m) c.loop-qq-test.true (sym c.in-Some-column.is ∙ c.column-in-loop-qq.ensures) (rw e.invariant.0.shape at (sym c.stops.ensures ∙ c.if-stops.false))),
    )

pub below-rr-requires-in-loop-nodes : goal.below-rr-requires-in-loop-nodes
below-rr-requires-in-loop-nodes c =
    down-in (passed c c.requires.0 (middle (goal.at.below-rr-requires-in-loop-nodes c).In-loop-nodes c.requires.0 c.requires.1 c.requires.2))

pub loop-nodes-smaller : goal.loop-nodes-smaller
loop-nodes-smaller c =
    let at = goal.at.loop-nodes-smaller c in
    rw c.below-rr-in-loop-nodes.ensures.node
    (step_left (passed at.Joined-clash c.requires.0 (middle at.In-loop-nodes c.requires.0 c.requires.1 c.requires.2)) (length c.args.nodes.now.heads.now) (same at.Joined-clash).heads-long)

pub loop-nodes-preserved : goal.loop-nodes-preserved
loop-nodes-preserved c =
    let j = (goal.at.loop-nodes-preserved c).Joined-clash in
    (same j, λ h m. rw c.below-rr-in-loop-nodes.ensures.node (step_down (passed j h (c.loop-nodes.invariant.1 h m))))

pub loop-q-preserved : goal.loop-q-preserved
loop-q-preserved c =
    let v = c.loop-nodes in (
      v.invariant.0,
      λ h w l.
          leave (v.invariant.1 h (enter (c.loop-q.invariant.1 h w l) c.loop-q-test.true (sym c.in-Some.is ∙ c.column.ensures) c.below-rr.ensures.node))
          (omega (arith, c.loop-nodes-test.false, same-start v.invariant.0)),
    )

pub returns-clause-place : goal.returns-clause-place
returns-clause-place c = λ h w l. rw c.loop-q-test.false at (c.loop-q.invariant.1 h w l)
