-- `words::write_words` meets its contract: at place k the first k numbers are written. Assumes nothing.
use Rattle.std.proofs.Common.{List, ℕ, [], ◌∷◌, ◌*◌, ap, ◌∙◌, arith, get_or, take}
use lib.Seq.{sets, length-take-le}
use Rattle.words.specs.Bytes.{bytes_of}
use Rattle.words.proofs.Storing.{bytes_next}
use Rattle.words.proofs.write_words.Goals as goal

pub put-requires : goal.put-requires
put-requires c = let n = length-take-le c.args.count c.args.words.now c.requires.0 in omega arith

pub loop-k-preserved : goal.loop-k-preserved
loop-k-preserved c =
    let ws = take c.args.count c.args.words.now in
    let n = length-take-le c.args.count c.args.words.now c.requires.0 in
    let l = c.loop-k in (
      c.put.auto.list ∙ l.invariant.0,
      c.put.ensures
          ∙ ap (λ (z : List ℕ). sets z (4 * l.k) (bytes_of (get_or ws l.k 0 ∷ []))) l.invariant.1
          ∙ bytes_next ws c.args.bytes.now l.k (omega arith) (omega arith),
    )
