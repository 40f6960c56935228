-- `words::fours` meets its contract: the chunks of four bytes are the whole fours. Assumes nothing.
use Rattle.std.proofs.Common.{List, ap, ◌∙◌, map}
use Rattle.words.specs.Bytes.{four}
use Rattle.words.proofs.Counting.{fours-numbers}
use Rattle.words.proofs.fours.Goals as goal

pub returns : goal.returns
returns c = ap (λ (z : List (List _)). map four z) c.as_chunks.ensures.front ∙ fours-numbers c.args.bytes.now
