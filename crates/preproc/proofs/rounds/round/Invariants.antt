-- The walk of `round` over the items: the rest of the round is the rules' rest.
use Rattle.rules.specs.Rounds.{round as round_of}
use Rattle.links.specs.Ground.{Ground}
use Rattle.links.specs.Nodes.{SameNodes}
use Rattle.showing.specs.Showing.{state_of}
use Rattle.preproc.specs.Standing.{Standing, Figured}
use Rattle.preproc.proofs.Rounding.{RoundAt}
use Rattle.preproc.proofs.rounds.round.Given as goal

abbrev pub invariant-loop-number : goal.invariant-loop-number
invariant-loop-number l =
    let n = l.fn.nodes in
    let m = l.nodes in
    SameNodes n m
    × ((g : Ground) → Standing g n.heads.now n.up.now n.down.now l.fn.tints l.fn.marks → Figured g.plan n.shape
    → RoundAt g.plan (round_of n.shape.np n.shape.n (state_of g)) n.shape.np n.shape.n l.number l.removed m.heads.now m.up.now m.down.now l.tints l.marks)
