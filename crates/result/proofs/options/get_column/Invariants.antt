-- The walk of `get_column`: at node r the options met in the column before r are written.
use Rattle.std.proofs.Common.{List, length}
use Rattle.rules.specs.Result.{Numbered}
use Rattle.links.specs.Ground.{Ground}
use Rattle.links.proofs.Descending.{left}
use Rattle.result.specs.Writing.{FourLists}
use Rattle.result.specs.Writer.{SameWriter, lists_of}
use Rattle.result.specs.Reading.{ColumnAt}
use Rattle.result.proofs.OneColumn.{AtEntry}
use Rattle.result.proofs.options.get_column.Given as goal

abbrev pub invariant-loop-r : goal.invariant-loop-r
invariant-loop-r l =
    SameWriter l.fn.out l.out
    × ((g : Ground) (old : FourLists) (xs : List Numbered)
    → ColumnAt g old (lists_of l.fn.out) xs l.nodes l.tints l.c l.fn.out.option l.fn.out.entry
    → AtEntry g old (lists_of l.out) xs l.c l.out.option l.out.entry l.r)

abbrev pub decreases-loop-r : goal.decreases-loop-r
decreases-loop-r l = left (length l.nodes.heads.now) l.nodes.shape.start l.r
