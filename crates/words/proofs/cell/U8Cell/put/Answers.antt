-- `words::cell` meets its contract over bytes: the number at place k begins at byte 4 * k. Assumes nothing.
use Rattle.std.proofs.Common.{◌*◌, ◌∙◌, arith}
use Rattle.words.proofs.Storing.{part-stores}
use Rattle.words.proofs.cell.U8Cell.put.Goals as goal

pub returns : goal.returns
returns c = part-stores c.args.list.now _ _ (4 * c.args.k) _ (c.copy_from_slice.ensures.after ∙ c.to_le_bytes.ensures) (omega arith) (omega arith)
