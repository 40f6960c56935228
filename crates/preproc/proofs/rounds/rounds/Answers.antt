-- `preproc::rounds::rounds` meets its contract: at each round what is left is the rules' rest. Assumes nothing.
use Rattle.std.proofs.Common.{rules, arith, refl, ap}
use Rattle.rules.specs.Rounds.{round as round_of}
use Rattle.links.specs.declared.shape.Shape.{Shape}
use Rattle.links.specs.Ground.{Ground}
use Rattle.links.proofs.SameNodes.{same-refl, same-then}
use Rattle.showing.specs.Showing.{state_of}
use Rattle.preproc.specs.Standing.{Standing, Figured, Stepped}
use Rattle.preproc.proofs.Same.{restep}
use Rattle.preproc.proofs.Rounding.{rounds-begin, rounds-figured, rounds-stop, rounds-settled, rounds-next, rounds-end}
use Rattle.preproc.proofs.rounds.rounds.Goals as goal
use Rattle.preproc.proofs.rounds.rounds.Goals.{After-round}

-- what the round comes to, by the figures that the nodes had at the beginning
ran : (c : After-round) (g : Ground) (s : Standing g c.args.nodes.now.heads.now c.args.nodes.now.up.now c.args.nodes.now.down.now c.args.tints.now c.args.marks.now)
    (f : Figured g.plan c.args.nodes.now.shape)
    → let G = c.loop-run.invariant.1 g s f in
    Stepped G.holding.ground.plan (round_of c.args.nodes.now.shape.np c.args.nodes.now.shape.n (state_of G.holding.ground)) c.round.result
    c.round.new.nodes.heads.now c.round.new.nodes.up.now c.round.new.nodes.down.now c.round.new.tints c.round.new.marks
ran c g s f =
    let v = c.loop-run.invariant.0 in
    let G = c.loop-run.invariant.1 g s f in
    let h = G.holding.ground in
    restep (ap (λ (k : Shape). round_of k.np k.n (state_of h)) v.shape) (search rules)
    (c.round.ensures.round h G.holding.standing (rw v.shape (rounds-figured f _ G)))

pub loop-run-init : goal.loop-run-init
loop-run-init c = (same-refl c.args.nodes.now, λ g s f. rounds-begin _ _ _ s)

pub round-requires : goal.round-requires
round-requires c =
    let q = c.requires in
    let v = c.loop-run.invariant.0 in
    let G = c.loop-run.invariant.1 q.0 q.1 q.2 in
    (G.holding.ground, G.holding.standing, rw v.shape (rounds-figured q.2 _ G))

pub returns-in-Err-clause-rounds : goal.returns-in-Err-clause-rounds
returns-in-Err-clause-rounds c =
    λ g s f.
    let o = rw c.in-Err.is at (ran (goal.at.returns-in-Err-clause-rounds c).After-round g s f) in
    rounds-stop f _ (c.loop-run.invariant.1 g s f) c.loop-run-test.true o

pub returns-in-Ok-false-clause-rounds : goal.returns-in-Ok-false-clause-rounds
returns-in-Ok-false-clause-rounds c =
    λ g s f.
    let o = restep refl (search rules) (ran (goal.at.returns-in-Ok-false-clause-rounds c).After-round g s f) in
    rounds-settled f _ (c.loop-run.invariant.1 g s f) c.loop-run-test.true o

pub loop-run-preserved : goal.loop-run-preserved
loop-run-preserved c = (
  same-then c.loop-run.invariant.0 c.round.ensures.nodes,
  λ g s f.
      let o = restep refl (search rules) (ran (goal.at.loop-run-preserved c).After-round g s f) in
      rounds-next f _ (c.loop-run.invariant.1 g s f) c.loop-run-test.true o,
)

pub returns-clause-rounds : goal.returns-clause-rounds
returns-clause-rounds c = λ g s f. rounds-end f _ (c.loop-run.invariant.1 g s f) (omega arith) (omega arith)
