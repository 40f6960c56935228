-- `words::count` meets its contract. Assumes nothing.
use Rattle.std.proofs.Common.{sym}
use Rattle.words.proofs.Counting.{fours}
use Rattle.words.proofs.count.Goals as goal

pub returns : goal.returns
returns c = sym (fours c.args.bytes.now)
