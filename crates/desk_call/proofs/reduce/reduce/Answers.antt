-- `desk_call::reduce::reduce` meets its contract. Assumes nothing.
use Rattle.std.proofs.Common.{◌≡◌, ◌∙◌, ap}
use Rattle.rules.specs.Problem.{desk_figures}
use Rattle.rules.specs.Lent.{results_in}
use Rattle.rules.specs.Refusals.{refusal_in}
use Rattle.desk_call.proofs.Reading.{sized, sized-lists, counts-refused, made, counts-passed}
use Rattle.desk_call.proofs.reduce.reduce.Goals as goal
use Rattle.desk_call.proofs.reduce.reduce.Goals.{After-at_desk}

-- what is said of the counts
counted : (c : After-at_desk) → sized c.args.given.now (results_in c.args.results.now) ≡ refusal_in c.at_desk.result
counted c = sized-lists desk_figures _ _ _ _ _ _ c.any_ragged-ragged.ensures c.count-options.ensures c.count-entries.ensures c.count.ensures c.at_desk.ensures.refused

pub returns-in-Err-clause-served : goal.returns-in-Err-clause-served
returns-in-Err-clause-served c =
    let d = (goal.at.returns-in-Err-clause-served c).After-at_desk in
    counts-refused d.args.given.now (results_in d.args.results.now) (counted d ∙ ap refusal_in c.in-Err.is)

pub read-requires : goal.read-requires
read-requires c =
    let d = (goal.at.read-requires c).After-at_desk in
    made d.args.given.now (results_in d.args.results.now) (counted d ∙ ap refusal_in c.in-Ok.is) c.in-Ok.ensures.counts d.count-options.ensures d.count-entries.ensures

pub returns-in-Ok-clause-served : goal.returns-in-Ok-clause-served
returns-in-Ok-clause-served c =
    let d = (goal.at.returns-in-Ok-clause-served c).After-at_desk in
    let passed = counted d ∙ ap refusal_in c.in-Ok.is in
    counts-passed d.args.given.now (results_in d.args.results.now) passed c.in-Ok.ensures.counts d.count-options.ensures d.count-entries.ensures c.read.ensures.served
