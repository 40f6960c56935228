-- `renumbering::bytes::compact_bytes` meets its contract: 14 first, and then as over the numbers. Assumes nothing.
use Rattle.std.proofs.Common.{map, length, sym, ◌∙◌, rules, arith}
use Rattle.std.proofs.lemmas.List.{length-map}
use Rattle.rules.specs.Lists.{place}
use Rattle.words.specs.Bytes.{four, numbers_of}
use Rattle.words.proofs.Counting.{fours-fit}
use Rattle.renumbering.proofs.Refusing.{accepted}
use Rattle.renumbering.proofs.Calls.{any-three, bytes-ragged, bytes-refused, bytes-done}
use Rattle.renumbering.proofs.bytes.compact_bytes.Goals as goal

pub returns-then-any_ragged : goal.returns-then-any_ragged
returns-then-any_ragged c =
    let a = c.args in
    bytes-ragged a.kept.now a.primaries a.items.now a.out.now (sym (c.if-any_ragged.ensures ∙ any-three (length a.kept.now) (length a.items.now) (length a.out.now)))

pub returns-in_err-check : goal.returns-in_err-check
returns-in_err-check c =
    let a = c.args in
    let whole = sym (c.if-any_ragged.ensures ∙ any-three (length a.kept.now) (length a.items.now) (length a.out.now)) in
    bytes-refused a.kept.now a.primaries a.items.now a.out.now _ _ c.fours-kept.ensures c.fours-items.ensures whole
    c.from_residual.result _ c.from_residual.ensures.1 (c.in_err-check.ensures (numbers_of a.out.now) c.count.ensures)

pub write-requires : goal.write-requires
write-requires c =
    let a = c.args in
    let w = accepted _ a.primaries _ _ (sym (c.in_ok-check.ensures (numbers_of a.out.now) c.count.ensures)) in record {
      rises = w.0.rises;
      kept = w.1;
      room = omega (arith, w.2, length-map c.fours-items.result.now four, fours-fit a.out.now);
      callable = search rules;
    }

pub returns : goal.returns
returns c =
    let a = c.args in
    let whole = sym (c.if-any_ragged.ensures ∙ any-three (length a.kept.now) (length a.items.now) (length a.out.now)) in
    bytes-done a.kept.now a.primaries a.items.now a.out.now _ _ c.fours-kept.ensures c.fours-items.ensures whole (c.in_ok-check.ensures (numbers_of a.out.now) c.count.ensures)
    (c.write.ensures (place (map four c.fours-kept.result.now)) (λ i n t k. search rules))
