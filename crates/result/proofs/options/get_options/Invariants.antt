-- The loop of `get_options`: at item c the options met in the columns before c's are written.
use Rattle.rules.specs.Result.{results_of}
use Rattle.links.specs.Ground.{Ground}
use Rattle.links.specs.Shown.{shown}
use Rattle.result.specs.Left.{options_to}
use Rattle.result.specs.Writing.{Written}
use Rattle.result.specs.Writer.{SameWriter, lists_of}
use Rattle.result.specs.Reading.{NodesRead, LongEnough}
use Rattle.result.proofs.options.get_options.Given as goal

abbrev pub invariant-loop-item : goal.invariant-loop-item
invariant-loop-item l =
    SameWriter l.initial.out l.out
    × ((g : Ground) → NodesRead g l.nodes l.tints
    → LongEnough (results_of l.nodes.shape.n (shown g.plan g.on)) (lists_of l.initial.out)
    → Written (lists_of l.initial.out) (lists_of l.out) (options_to g l.item) l.out.option l.out.entry)
