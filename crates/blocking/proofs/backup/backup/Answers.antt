-- `blocking::backup::backup` meets its contract: at each place the lists are those of the ground without what the test had taken out in the
-- columns passed there. Assumes nothing.
use Rattle.std.proofs.Common.{rules, ◌∙◌, sym, length}
use Rattle.links.specs.Row.{walked}
use Rattle.links.specs.Taking.{testing}
use Rattle.links.proofs.SameNodes.{same-then}
use Rattle.links.specs.Ground.{after}
use Rattle.blocking.proofs.Backwards.{behind-in, behind-done, behind-over, behind-over-way, behind-link, behind-below, behind-back}
use Rattle.blocking.proofs.backup.backup.Goals as goal

pub column-requires : goal.column-requires
column-requires c = (behind-in (c.loop-q.invariant.1 c.requires.0 c.requires.1)).0

pub below-q-requires : goal.below-q-requires
below-q-requires c = (behind-in (c.loop-q.invariant.1 c.requires.0 c.requires.1)).1

pub loop-q-smaller-in-None : goal.loop-q-smaller-in-None
loop-q-smaller-in-None c =
    let l = c.loop-q in
    rw c.below-q.ensures.node
    (behind-over-way (l.invariant.1 c.requires.0 c.requires.1) c.loop-q-test.true (sym c.in-None.is ∙ c.column.ensures) (length c.args.nodes.now.heads.now) l.invariant.0.heads-long)

pub loop-q-preserved-in-None : goal.loop-q-preserved-in-None
loop-q-preserved-in-None c =
    let l = c.loop-q in
    (l.invariant.0, λ h m. rw c.below-q.ensures.node (behind-over (l.invariant.1 h m) c.loop-q-test.true (sym c.in-None.is ∙ c.column.ensures)))

pub above-rr-requires : goal.above-rr-requires
above-rr-requires c = behind-link (c.loop-q.invariant.1 c.requires.0 c.requires.1) c.loop-q-test.true (sym c.in-Some.is ∙ c.column.ensures)

-- `pass_2` finds what was taken in the column of k
pub pass_2-requires : goal.pass_2-requires
pass_2-requires c =
    let l = c.loop-q in
    let h = c.requires.0 in (
      after h (testing h (walked h c.args.r l.q)),
      rw l.invariant.0.shape (behind-below (l.invariant.1 h c.requires.1) c.loop-q-test.true (sym c.in-Some.is ∙ c.column.ensures) (search rules)),
    )

pub loop-q-preserved : goal.loop-q-preserved
loop-q-preserved c =
    let l = c.loop-q in (
      same-then l.invariant.0 c.pass_2.ensures.nodes,
      λ h m.
          let some = sym c.in-Some.is ∙ c.column.ensures in
          behind-back (l.invariant.1 h m) c.loop-q-test.true some
          (c.pass_2.ensures.undone _ (rw l.invariant.0.shape (behind-below (l.invariant.1 h m) c.loop-q-test.true some (search rules)))),
    )

pub returns-clause-undone : goal.returns-clause-undone
returns-clause-undone c = λ h m. behind-done (c.loop-q.invariant.1 h m) c.loop-q-test.false
