-- `desk_call::thin::thin` meets its contract. Assumes nothing.
use Rattle.std.proofs.Common.{◌≡◌, false}
use mathlib.Core.Option.{none}
use Rattle.rules.specs.Problem.{desk_figures}
use Rattle.rules.specs.Checks.{refusal_of}
use Rattle.rules.specs.Lent.{results_in, handed_lists}
use Rattle.checking.proofs.Telling.{refuses, passes}
use Rattle.desk_call.specs.Desk.{desk_room, numbers_in}
use Rattle.desk_call.proofs.Thinning.{refused-served, accepted, done, handed-back}
use Rattle.desk_call.proofs.thin.thin.Goals as goal
use Rattle.desk_call.proofs.thin.thin.Goals.{In_default}

-- behind the checks nothing is refused
passed-checks : (c : In_default)
    → refusal_of desk_figures false (handed_lists c.args.problem c.args.cap c.args.lists.now desk_room (numbers_in (results_in c.args.results.now))) ≡ none
passed-checks c = passes (c.refusal-checked.ensures desk_figures c.args.cap _ _ c.requires c.lengths.ensures) c.in_default.is

pub refusal-checked-requires : goal.refusal-checked-requires
refusal-checked-requires c = (desk_figures, c.requires)

pub returns-in-Err-clause-served : goal.returns-in-Err-clause-served
returns-in-Err-clause-served c = refused-served false _ _ _ (refuses (c.refusal-checked.ensures desk_figures c.args.cap _ _ c.requires c.lengths.ensures) c.in-Err.is)

pub in_own_room-answer-requires : goal.in_own_room-answer-requires
in_own_room-answer-requires c =
    let d = (goal.at.in_own_room-answer-requires c).In_default in
    let a = d.args in
    accepted a.problem a.cap a.lists.now (results_in a.results.now) (passed-checks d)

pub hand_back-requires : goal.hand_back-requires
hand_back-requires c =
    let d = (goal.at.hand_back-requires c).In_default in
    let a = d.args in
    (done a.problem a.cap a.lists.now (results_in a.results.now) (passed-checks d) c.in_own_room-answer.result _ c.in_own_room-answer.ensures.outcome).handable

pub returns-clause-served : goal.returns-clause-served
returns-clause-served c =
    let d = (goal.at.returns-clause-served c).In_default in
    let a = d.args in
    let bytes = results_in a.results.now in
    let e = passed-checks d in
    let D = done a.problem a.cap a.lists.now bytes e c.in_own_room-answer.result _ c.in_own_room-answer.ensures.outcome in
    handed-back a.problem a.cap a.lists.now bytes e D c.hand_back.ensures.handed
