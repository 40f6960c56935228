-- At place k the first k numbers are written.
use Rattle.std.proofs.Common.{◌≡◌, length, take}
use Rattle.rules.specs.Lists.{written}
use Rattle.words.specs.Bytes.{bytes_of}
use Rattle.words.proofs.write_words.Given as goal

abbrev pub invariant-loop-k : goal.invariant-loop-k
invariant-loop-k l = (length l.bytes ≡ length l.initial.bytes) × (l.bytes ≡ written (bytes_of (take l.k (take l.count l.words))) l.initial.bytes)
