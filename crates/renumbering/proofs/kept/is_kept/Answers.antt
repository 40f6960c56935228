-- `renumbering::kept::is_kept` meets its contract: the search finds a number that is there, and no other. Assumes nothing.
use Rattle.std.proofs.Common.{sym, ◌∙◌, map}
use Rattle.std.proofs.lemmas.List.{length-map}
use Rattle.renumbering.proofs.Halving.{found-member}
use Rattle.renumbering.proofs.kept.is_kept.Goals as goal

pub returns : goal.returns
returns g c = λ r.
    let v = g.N.Numeral.value in
    c.is_some.ensures ∙ found-member (map v c.args.kept.now) c.args.i.0 _ c.find.result (sym (length-map c.args.kept.now v)) (c.find.ensures r)
