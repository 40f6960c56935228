-- `blocking::unhide_entries::unhide_entries` meets its contract: at each place the lists are those of the ground without what the walk had
-- passed there. Assumes nothing.
use Rattle.std.proofs.Common.{◌∙◌, sym, length}
use Rattle.links.proofs.SameNodes.{same-then}
use Rattle.blocking.proofs.Round.{half_in, half-done, half_over, half-over-way, half-more, half-relink, half_back}
use Rattle.blocking.proofs.unhide_entries.unhide_entries.Goals as goal

pub column-requires : goal.column-requires
column-requires c = (half_in (c.loop-qq.invariant.1 c.requires.0 c.requires.1)).0

pub below-qq-requires : goal.below-qq-requires
below-qq-requires c = (half_in (c.loop-qq.invariant.1 c.requires.0 c.requires.1)).1

pub loop-qq-smaller-in-None : goal.loop-qq-smaller-in-None
loop-qq-smaller-in-None c =
    let l = c.loop-qq in
    rw c.below-qq.ensures.node
    (half-over-way (l.invariant.1 c.requires.0 c.requires.1) c.loop-qq-test.true (sym c.in-None.is ∙ c.column.ensures) (length c.args.nodes.now.heads.now) l.invariant.0.heads-long)

pub loop-qq-preserved-in-None : goal.loop-qq-preserved-in-None
loop-qq-preserved-in-None c =
    let l = c.loop-qq in
    (l.invariant.0, λ g m. rw c.below-qq.ensures.node (half_over (l.invariant.1 g m) c.loop-qq-test.true (sym c.in-None.is ∙ c.column.ensures)))

pub more-requires : goal.more-requires
more-requires c = half-more (c.loop-qq.invariant.1 c.requires.0 c.requires.1) c.loop-qq-test.true (sym c.in-Some.is ∙ c.column.ensures)

pub relink-requires : goal.relink-requires
relink-requires c =
    rw (c.more.ensures.up, c.more.ensures.down)
    (half-relink (c.loop-qq.invariant.1 c.requires.0 c.requires.1) c.loop-qq-test.true (sym c.in-Some.is ∙ c.column.ensures))

pub loop-qq-preserved : goal.loop-qq-preserved
loop-qq-preserved c =
    let l = c.loop-qq in (
      same-then (same-then l.invariant.0 c.more.ensures.nodes) c.relink.ensures.nodes,
      λ g m.
          rw (c.relink.ensures.heads, c.relink.ensures.up, c.relink.ensures.down, c.more.ensures.heads, c.more.ensures.up, c.more.ensures.down)
          (half_back (l.invariant.1 g m) c.loop-qq-test.true (sym c.in-Some.is ∙ c.column.ensures)),
    )

pub returns-clause-undone : goal.returns-clause-undone
returns-clause-undone c = λ g m. half-done (c.loop-qq.invariant.1 g m) c.loop-qq-test.false
