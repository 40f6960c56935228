-- `engine::report::report` meets its contract. Assumes nothing.
use Rattle.std.proofs.Common.{◌∙◌}
use Rattle.engine.proofs.Reporting.{said-counts, results-fronts}
use Rattle.engine.proofs.report.report.Goals as goal

pub returns-clause-reported : goal.returns-clause-reported
returns-clause-reported c =
    λ g o.
    let i = c.get_items-counts.ensures g o.laid.standing in
    let r = c.get_options-at.ensures.options g o.laid o.holding in
    (said-counts _ _ _ _ _ i.1 i.2 r.1 r.2, results-fronts _ _ _ (c.get_options-at.ensures.kept ∙ i.0) r.0)
