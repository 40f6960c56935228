-- `words::any_ragged` meets its contract: each length is looked at. Assumes nothing.
use Rattle.std.proofs.Common.{rules, tests}
use Rattle.std.proofs.lemmas.Iterator.{YieldsList-from_slice}
use Rattle.std.proofs.lemmas.Iterator.Search.{any_from_yields_List}
use Rattle.words.specs.Bytes.{ragged_length}
use Rattle.words.proofs.any_ragged.Goals as goal

pub returns : goal.returns
returns c = any_from_yields_List ragged_length _ _ _ c.any.ensures.ran (YieldsList-from_slice c.args.lengths.now cc) (λ x b q k. search (rules, tests))
