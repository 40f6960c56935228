-- `hiding::back::unhide_option` meets its contract: at each place of the walk what is ahead of it is still away. Assumes nothing.
use Rattle.std.proofs.Common.{◌∙◌, length, sym}
use Rattle.links.proofs.SameNodes.{same-refl, same-then}
use Rattle.hiding.proofs.Aways.{away-room}
use Rattle.hiding.proofs.RoundBack.{begin, finish, inside, over, over-less, relink-needs, more-needs, full}
use Rattle.hiding.proofs.back.unhide_option.Goals as goal

pub loop-qq-init : goal.loop-qq-init
loop-qq-init c = (same-refl c.args.nodes.now, λ g rest a k. begin a k)

pub column-requires : goal.column-requires
column-requires c = (inside c.requires.2 (c.loop-qq.invariant.1 c.requires.0 c.requires.1 c.requires.2 c.requires.3)).0

pub loop-qq-smaller-in-None : goal.loop-qq-smaller-in-None
loop-qq-smaller-in-None c =
    let m = c.loop-qq.invariant.1 c.requires.0 c.requires.1 c.requires.2 c.requires.3 in
    rw c.above-qq.ensures.node
    (over-less c.requires.2 m c.loop-qq-test.true (sym c.in-None.is ∙ c.column.ensures) (length c.args.nodes.now.heads.now)
    (away-room c.requires.0 c.requires.2.tidy c.requires.3))

pub loop-qq-preserved-in-None : goal.loop-qq-preserved-in-None
loop-qq-preserved-in-None c =
    (c.loop-qq.invariant.0, λ g rest a k. rw c.above-qq.ensures.node (over a (c.loop-qq.invariant.1 g rest a k) c.loop-qq-test.true (sym c.in-None.is ∙ c.column.ensures)))

pub relink-requires : goal.relink-requires
relink-requires c =
    relink-needs c.requires.2 (c.loop-qq.invariant.1 c.requires.0 c.requires.1 c.requires.2 c.requires.3) c.loop-qq-test.true (sym c.in-Some.is ∙ c.column.ensures)

pub more-requires : goal.more-requires
more-requires c =
    rw c.relink.ensures.heads (more-needs c.requires.2 (c.loop-qq.invariant.1 c.requires.0 c.requires.1 c.requires.2 c.requires.3) c.loop-qq-test.true (sym c.in-Some.is ∙ c.column.ensures))

pub loop-qq-preserved : goal.loop-qq-preserved
loop-qq-preserved c = (
  same-then c.loop-qq.invariant.0 (same-then c.relink.ensures.nodes c.more.ensures.nodes),
  λ g rest a k.
      rw (c.more.ensures.heads, c.more.ensures.up, c.more.ensures.down, c.relink.ensures.heads, c.relink.ensures.up, c.relink.ensures.down)
      (full a (c.loop-qq.invariant.1 g rest a k) c.loop-qq-test.true (sym c.in-Some.is ∙ c.column.ensures)),
)

pub returns-clause-back : goal.returns-clause-back
returns-clause-back c = λ g rest a k. finish a (rw c.loop-qq-test.false at (c.loop-qq.invariant.1 g rest a k))
