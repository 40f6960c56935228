-- `words::read_words` meets its contract: at place k the first k numbers are written. Assumes nothing.
use Rattle.std.proofs.Common.{ℕ, List, [], ap, ◌∙◌, arith, get_or, set, length-set}
use Rattle.words.specs.Bytes.{numbers_of}
use Rattle.words.proofs.Behind.{written_next}
use Rattle.words.proofs.Counting.{fours-count, four-at}
use Rattle.words.proofs.read_words.Goals as goal

pub loop-k-preserved : goal.loop-k-preserved
loop-k-preserved c =
    let ns = numbers_of c.args.bytes.now in
    let e = c.fours-four-items.ensures in
    let n = fours-count _ c.args.bytes.now e in
    let l = c.loop-k in (
      length-set l.out l.k _ ∙ l.invariant.0,
      ap (λ (z : ℕ). set l.out l.k z) (c.number.ensures ∙ four-at _ c.args.bytes.now e l.k [] c.loop-k-test.true)
          ∙ ap (λ (z : List ℕ). set z l.k (get_or ns l.k 0)) l.invariant.1
          ∙ written_next ns c.args.out.now l.k 0 (omega arith) (omega (arith, c.requires)),
    )
