-- `renumbering::kept::not_kept` meets its contract: the items before the place are kept. Assumes nothing.
use Rattle.std.proofs.Common.{rules, map}
use borrow.Author.Tests.{tests}
use Rattle.std.proofs.lemmas.Iterator.{IsFirst-from_position, YieldsList-from_slice}
use Rattle.renumbering.proofs.Missing.{Kept, Lacking, missing-answer}
use Rattle.renumbering.proofs.kept.not_kept.Goals as goal

pub returns : goal.returns
returns g c = λ r.
    let v = g.N.Numeral.value in
    let kept = map v c.args.kept.now in
    missing-answer v kept c.args.items.now c.position.result
    (IsFirst-from_position _ _ c.position.result (Lacking v kept) (Kept v kept) c.position.ensures.ran (YieldsList-from_slice c.args.items.now (cc))
    (λ x q k. search (rules, tests)) (λ x q k. search (rules, tests)))
