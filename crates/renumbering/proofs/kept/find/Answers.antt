-- `renumbering::kept::find` meets its contract: the search by halves finds a number's place in a list that rises. Assumes nothing.
use Rattle.std.proofs.Common.{◌≡◌, ap, ◌∙◌, rules}
use Rattle.std.proofs.lemmas.Fn.{always_returns_same}
use Rattle.renumbering.specs.Parts.{as_option}
use Rattle.renumbering.proofs.Halving.{searched-place}
use Rattle.renumbering.proofs.kept.find.Goals as goal

pub returns : goal.returns
returns g c = λ r.
    let v = g.N.Numeral.value in
    ap as_option c.ok.ensures.value
    ∙ searched-place v c.args.kept.now r c.args.i.0 c.binary_search_by_key.result c.binary_search_by_key.ensures.bound
    (c.binary_search_by_key.ensures.position v (always_returns_same _ (λ a r. r ≡ v a.0.now) _ (λ a r q k. search rules)))
