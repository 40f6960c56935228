-- `engine::reduce::reduce` meets its contract. Assumes nothing.
use Rattle.std.proofs.Common.{◌≡◌, rules, refl, ◌∙◌, ap}
use Rattle.rules.specs.Lent.{room_in, results_in, handed_lists}
use Rattle.rules.specs.Problem.{problem_of}
use Rattle.rules.specs.Rounds.{reduce as reduce_of}
use Rattle.rules.specs.Outcome.{cleared}
use Rattle.rules.specs.Rooms.{room_lists}
use Rattle.room.proofs.Clearing.{cleared-alike}
use Rattle.links.specs.Nodes.{in_nodes}
use Rattle.links.proofs.SameNodes.{same-np, same-n}
use Rattle.building.specs.Layout.{plan_of}
use Rattle.preproc.specs.Standing.{Ended}
use Rattle.engine.proofs.Concluding.{TakenIn, takes, call-buildable, call-infeasible, call-reported, call-reduced}
use Rattle.engine.proofs.reduce.reduce.Goals as goal
use Rattle.engine.proofs.reduce.reduce.Goals.{After-run, After-clear_room, in-Ok, in-Err}

-- whatever the answer, the room has the lists that the run left, and is cleared
left : (c : After-clear_room)
    → room_in c.match-run.room ≡ room_lists c.run.new.nodes.heads.now c.run.new.nodes.up.now c.run.new.nodes.down.now c.run.new.tints c.run.new.marks
left c = elim c.match-run.branch [
  | in-Ok w ↦ search rules
  | in-Err w ↦ search rules
]

zeros : (c : After-clear_room) → room_in c.clear_room.new.room ≡ cleared (room_in c.args.room.now)
zeros c =
    let n = c.run.ensures.nodes in
    c.clear_room.ensures.cleared ∙ ap cleared (left c) ∙ cleared-alike _ _ _ _ _ _ _ _ _ _ n.heads-long n.up-long n.down-long c.run.auto.tints c.run.auto.marks

-- what the run finds, of the problem that was handed in
found : (c : After-run) → let h = handed_lists c.args.problem c.args.cap c.args.lists.now (room_in c.args.room.now) (results_in c.args.results.now) in
    TakenIn h
    → let a = problem_of h.np h.ns h.items h.colours h.ends in
    in_nodes (Ended (plan_of a) (reduce_of a h.cap) c.run.result) c.run.new.nodes c.run.new.tints c.run.new.marks
found c e = rw c.of.ensures.np at (c.run.ensures.found _ _ (call-buildable e c.of.ensures.np c.of.ensures.n))

pub run-requires : goal.run-requires
run-requires c = let e = takes _ c.requires in (_, _, call-buildable e c.of.ensures.np c.of.ensures.n)

pub report-answer-requires : goal.report-answer-requires
report-answer-requires c =
    let e = takes _ c.requires in
    let n = c.run.ensures.nodes in
    let o = (rw c.in-Ok.is at (found (goal.at.report-answer-requires c).After-run e)).goes in
    (o.2.ground, call-reported e c.run.new.nodes (same-np n ∙ c.of.ensures.np) (same-n n ∙ c.of.ensures.n) o.1 o.2)

pub returns-clause-outcome : goal.returns-clause-outcome
returns-clause-outcome c =
    let e = takes _ c.requires in
    let n = c.run.ensures.nodes in
    let f = found (goal.at.returns-clause-outcome c).After-run e in
    elim c.match-run.branch [
      | in-Ok w ↦
          let o = (rw w.in-Ok.is at f).goes in
          let np = same-np n ∙ c.of.ensures.np in
          let items = same-n n ∙ c.of.ensures.n in
          let told = w.report-answer.ensures.reported o.2.ground (call-reported e c.run.new.nodes np items o.1 o.2) in
          rw (w.answer-is, w.results-is) (call-reduced e c.run.new.nodes np items o.1 o.2 told (zeros c))
      | in-Err w ↦ rw (w.answer-is, w.results-is) (call-infeasible e (rw w.in-Err.is at f).stops refl (zeros c))
    ]
