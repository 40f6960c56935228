-- `removing::delete::take_out` meets its contract: the entry leaves its column, and the error is the column if that empties it and it is
-- primary. Assumes nothing.
use Rattle.std.proofs.Common.{inl, inr, refl, arith, ◌∙◌}
use borrow.Author.Tests.{le-leb, lt-leb}
use Rattle.links.proofs.Endings.{ending_of}
use Rattle.links.proofs.SameNodes.{same-np}
use Rattle.removing.proofs.TakingOut.{sits-in, sits-number, sits-column, sits-length, out-emptied, out-not}
use Rattle.removing.proofs.delete.take_out.Goals as goal
use Rattle.removing.proofs.delete.take_out.Goals.{else-fewer-eq0-via-then-fewer-eq0+else-i-nodes, else-fewer-eq0-via-else-fewer-eq0}

pub column_at-i-requires : goal.column_at-i-requires
column_at-i-requires c = (sits-in c.requires.1, sits-number c.requires.1)

pub fewer-requires : goal.fewer-requires
fewer-requires c = rw c.unlink.ensures.heads (sits-length c.requires.1 c.column_at-i.ensures)

pub item_of_column-requires : goal.item_of_column-requires
item_of_column-requires c = sits-column c.requires.1 c.column_at-i.ensures

pub returns-then-i-nodes-clause-deleted : goal.returns-then-i-nodes-clause-deleted
returns-then-i-nodes-clause-deleted c =
    let few = c.fewer.ensures in
    let out = c.unlink.ensures in
    λ g w. (
      c.column_at-i.result,
      ending_of _ _ c.item_of_column.ensures,
      out-emptied w c.column_at-i.ensures (rw out.heads at few.heads) (few.up ∙ out.up) (few.down ∙ out.down) (rw out.heads at few.length) c.if-fewer-eq0.true
          (le-leb c.column_at-i.result c.args.nodes.now.shape.np (omega (arith, c.if-i-nodes.true, same-np few.nodes, same-np out.nodes))),
    )

pub returns-clause-deleted : goal.returns-clause-deleted
returns-clause-deleted c =
    let few = c.fewer.ensures in
    let out = c.unlink.ensures in
    λ g w. (
      0,
      refl,
      out-not w c.column_at-i.ensures (rw out.heads at few.heads) (few.up ∙ out.up) (few.down ∙ out.down) (rw out.heads at few.length)
          (elim c.else-fewer-eq0.branch [
            | else-fewer-eq0-via-then-fewer-eq0+else-i-nodes v ↦ inr (lt-leb c.column_at-i.result c.args.nodes.now.shape.np (omega (arith, v.if-i-nodes.false, same-np few.nodes, same-np out.nodes)))
            | else-fewer-eq0-via-else-fewer-eq0 v ↦ inl v.if-fewer-eq0.false
          ]),
    )
