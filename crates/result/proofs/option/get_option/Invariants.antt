-- The walk of `get_option`: at node q the live entries before q are written.
use Rattle.std.proofs.Common.{◌≡◌, ◌-◌, List, length}
use Rattle.rules.specs.Result.{Numbered}
use Rattle.links.specs.Ground.{Ground}
use Rattle.result.specs.Writing.{FourLists}
use Rattle.result.specs.Writer.{SameWriter, lists_of}
use Rattle.result.specs.Reading.{OptionAt}
use Rattle.result.proofs.OneOption.{Reading}
use Rattle.result.proofs.option.get_option.Given as goal

abbrev pub invariant-loop-k : goal.invariant-loop-k
invariant-loop-k l =
    SameWriter l.fn.out l.out
    × (l.out.ends.now ≡ l.fn.out.ends.now)
    × (l.out.numbers.now ≡ l.fn.out.numbers.now)
    × (l.out.option ≡ l.fn.out.option)
    × ((g : Ground) (old : FourLists) (xs : List Numbered)
    → OptionAt g old (lists_of l.fn.out) xs l.nodes.heads.now l.tints l.r l.fn.out.option l.fn.out.entry
    → Reading g old xs l.r l.out.items.now l.out.colours.now l.out.entry l.q)

abbrev pub decreases-loop-k : goal.decreases-loop-k
decreases-loop-k l = length l.nodes.heads.now - l.q
