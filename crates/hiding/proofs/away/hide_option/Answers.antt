-- `hiding::away::hide_option` meets its contract: at each place of the walk the lists are without what it passed. Assumes nothing.
use Rattle.std.proofs.Common.{◌≡◌, ◌∙◌, ◌&&◌, cond, length, eqb, sym, arith, Some}
use Rattle.std.proofs.Math.Dec.{leb}
use Rattle.links.proofs.SameNodes.{same-refl, same-then}
use Rattle.hiding.proofs.Round.{begin, finish, over, over-less, unlink-needs, fewer-needs, full}
use Rattle.hiding.proofs.away.hide_option.Goals as goal

pub loop-qq-init : goal.loop-qq-init
loop-qq-init c = (same-refl c.args.nodes.now, λ g a k. begin a k)

pub loop-qq-smaller-in-None : goal.loop-qq-smaller-in-None
loop-qq-smaller-in-None c =
    rw c.above-qq.ensures.node
    (over-less c.requires.1 (c.loop-qq.invariant.1 c.requires.0 c.requires.1 c.requires.2) (omega arith) (sym c.in-None.is ∙ c.column.ensures) (length c.args.nodes.now.heads.now)
    c.loop-qq.invariant.0.heads-long)

pub loop-qq-preserved-in-None : goal.loop-qq-preserved-in-None
loop-qq-preserved-in-None c =
    (c.loop-qq.invariant.0, λ g a k. rw c.above-qq.ensures.node (over a (c.loop-qq.invariant.1 g a k) (omega arith) (sym c.in-None.is ∙ c.column.ensures)))

pub unlink-requires : goal.unlink-requires
unlink-requires c =
    unlink-needs c.requires.1 (c.loop-qq.invariant.1 c.requires.0 c.requires.1 c.requires.2) (omega arith) (sym c.in-Some.is ∙ c.column.ensures)

pub fewer-t-requires : goal.fewer-t-requires
fewer-t-requires c =
    rw c.unlink.ensures.heads (fewer-needs c.requires.1 (c.loop-qq.invariant.1 c.requires.0 c.requires.1 c.requires.2) (omega arith) (sym c.in-Some.is ∙ c.column.ensures))

-- the item emptied last, whichever way the tests went
pub loop-qq-preserved : goal.loop-qq-preserved
loop-qq-preserved c =
    let emptied : c.if-t-eq0.stack ≡ cond (eqb c.fewer-t.result 0 && leb c.in-Some.j c.args.nodes.now.shape.np) (Some c.in-Some.j) c.loop-qq.stack =
    grind arith
    in (
      same-then c.loop-qq.invariant.0 (same-then c.unlink.ensures.nodes c.fewer-t.ensures.nodes),
      λ g a k.
          rw (c.fewer-t.ensures.heads, c.fewer-t.ensures.up, c.fewer-t.ensures.down, c.unlink.ensures.heads, c.unlink.ensures.up, c.unlink.ensures.down)
          (full a (c.loop-qq.invariant.1 g a k) (omega arith) (sym c.in-Some.is ∙ c.column.ensures) (rw c.unlink.ensures.heads at (rw c.fewer-t.ensures.length at emptied))),
    )

pub returns-clause-taken : goal.returns-clause-taken
returns-clause-taken c =
    let back : c.loop-qq.qq ≡ c.args.rr = omega arith in
    λ g z e a k. finish a (rw back at (c.loop-qq.invariant.1 g a k)) z e
