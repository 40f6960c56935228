-- `removing::delete::really_delete_option` meets its contract: the others, and then r itself. Assumes nothing.
use Rattle.std.proofs.Common.{◌∙◌}
use Rattle.links.specs.Ground.{taken}
use Rattle.links.specs.Row.{others}
use Rattle.links.proofs.Endings.{earlier, ending-and}
use Rattle.removing.proofs.WholeOption.{whole-sits, whole-last}
use Rattle.removing.proofs.delete.really_delete_option.Goals as goal

pub take_out-own-requires : goal.take_out-own-requires
take_out-own-requires c =
    (taken c.requires.0 (others c.requires.0 c.args.r), whole-sits c.requires.1 c.requires.2 (c.delete_others-others.ensures.deleted c.requires.0 c.requires.1).2)

pub returns-clause-deleted : goal.returns-clause-deleted
returns-clause-deleted c =
    λ g d w.
    let o = c.delete_others-others.ensures.deleted g d in
    let t = c.take_out-own.ensures.deleted (taken g (others g c.args.r)) (whole-sits d w o.2) in
    (earlier o.0 t.0, c.and.ensures ∙ ending-and o.0 t.0 o.1 t.1, whole-last d w o.2 (rw c.delete_others-others.ensures.nodes.shape at t.2))
