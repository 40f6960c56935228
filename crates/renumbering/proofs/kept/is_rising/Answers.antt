-- `renumbering::kept::is_rising` meets its contract: each number is tested against the next. Assumes nothing.
use Rattle.std.proofs.Common.{◌≡◌, rules, nat_lt}
use Rattle.std.proofs.lemmas.Fn.{always_returns_same}
use Rattle.renumbering.proofs.Climbing.{rising-answer}
use Rattle.renumbering.proofs.kept.is_rising.Goals as goal

pub returns : goal.returns
returns g c =
    let v = g.N.Numeral.value in
    rising-answer v c.args.kept.now c.is_sorted_by.result
    (c.is_sorted_by.ensures.cases (λ x y. nat_lt (v x) (v y)) (always_returns_same _ (λ a r. r ≡ nat_lt (v a.0.now) (v a.1.0.now)) _ (λ a r q k. search rules)))
