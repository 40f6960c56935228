-- At place k the first k numbers are written.
use Rattle.std.proofs.Common.{◌≡◌, length, take}
use Rattle.rules.specs.Lists.{written}
use Rattle.words.specs.Bytes.{numbers_of}
use Rattle.words.proofs.read_words.Given as goal

abbrev pub invariant-loop-k : goal.invariant-loop-k
invariant-loop-k l = (length l.out ≡ length l.initial.out) × (l.out ≡ written (take l.k (numbers_of l.bytes)) l.initial.out)
