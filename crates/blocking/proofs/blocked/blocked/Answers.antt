-- `blocking::blocked::blocked` meets its contract: the place that the walk gives says whether it came round, and the undoing starts there.
-- Assumes nothing.
use Rattle.std.proofs.Common.{◌-◌, sym, arith}
use Rattle.links.specs.Nodes.{in_nodes}
use Rattle.links.proofs.SameNodes.{same-then}
use Rattle.blocking.specs.Undo.{Behind}
use Rattle.blocking.specs.Forward.{ground_at, ground_to}
use Rattle.links.proofs.Determined.{holds-same}
use Rattle.blocking.proofs.Restoring.{stopped-some, stopped-half, stopped-link, stopped-below, stopped-behind}
use Rattle.blocking.proofs.Meaning.{stopped-blocked, round-free}
use Rattle.blocking.proofs.blocked.blocked.Goals as goal
use Rattle.blocking.proofs.blocked.blocked.Goals.{After-pass_2}

-- the walk came round
pub returns-in_default-clause-answer : goal.returns-in_default-clause-answer
returns-in_default-clause-answer c = λ h w l. sym (round-free (c.in_default.ensures.place h w l))

-- the walk stopped, and is undone from there: the rival, its column, the items before
pub overflow_sub-place : goal.overflow_sub-place
overflow_sub-place c = omega (arith, stopped-some (c.in-Some.ensures.place c.requires.0 c.requires.1 c.requires.2))

pub unhide_entries-requires : goal.unhide_entries-requires
unhide_entries-requires c =
    let h = c.requires.0 in
    let place = c.in-Some.place in
    (ground_to h c.args.r place.q place.rr, stopped-half (c.in-Some.ensures.place h c.requires.1 c.requires.2))

pub above-above-requires : goal.above-above-requires
above-above-requires c =
    let s = c.in-Some.ensures.place c.requires.0 c.requires.1 c.requires.2 in
    stopped-link s (c.unhide_entries.ensures.undone _ (stopped-half s))

pub pass_2-requires : goal.pass_2-requires
pass_2-requires c =
    let h = c.requires.0 in
    let s = c.in-Some.ensures.place h c.requires.1 c.requires.2 in (
      ground_at h c.args.r c.in-Some.place.q,
      rw (same-then c.hide_entries.ensures.nodes c.unhide_entries.ensures.nodes).shape
          (stopped-below s (c.unhide_entries.ensures.undone _ (stopped-half s)) c.above-above.ensures.node),
    )

-- what `backup` finds
behind : (c : After-pass_2) → in_nodes (Behind c.requires.0 c.args.tints.now (c.in-Some.place.q - 1) c.args.r c.pass_2.new.nodes.shape.start) c.pass_2.new.nodes
behind c =
    let s = c.in-Some.ensures.place c.requires.0 c.requires.1 c.requires.2 in
    let same = same-then c.hide_entries.ensures.nodes c.unhide_entries.ensures.nodes in
    rw (same-then same c.pass_2.ensures.nodes).shape
    (stopped-behind s
    (c.pass_2.ensures.undone _ (rw same.shape (stopped-below s (c.unhide_entries.ensures.undone _ (stopped-half s)) c.above-above.ensures.node))))

pub backup-requires-2 : goal.backup-requires-2
backup-requires-2 c = (c.requires.0, behind (goal.at.backup-requires-2 c).After-pass_2)

pub returns-clause-same : goal.returns-clause-same
returns-clause-same c = holds-same c.requires.2 (c.backup-2.ensures.undone c.requires.0 (behind (goal.at.returns-clause-same c).After-pass_2))

pub returns-clause-answer : goal.returns-clause-answer
returns-clause-answer c = λ h w l. sym (stopped-blocked (c.in-Some.ensures.place h w l))
