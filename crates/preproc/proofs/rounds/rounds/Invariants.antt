-- The walk of `rounds`: what is left is the rules' rest.
use Rattle.rules.specs.Rounds.{rounds as rounds_of}
use Rattle.links.specs.Ground.{Ground}
use Rattle.links.specs.Nodes.{SameNodes}
use Rattle.showing.specs.Showing.{state_of}
use Rattle.preproc.specs.Standing.{Standing, Figured}
use Rattle.preproc.proofs.Rounding.{Turning}
use Rattle.preproc.proofs.rounds.rounds.Given as goal

abbrev pub invariant-loop-run : goal.invariant-loop-run
invariant-loop-run l =
    let n = l.fn.nodes in
    let m = l.nodes in
    SameNodes n m
    × ((g : Ground) → Standing g n.heads.now n.up.now n.down.now l.fn.tints l.fn.marks → Figured g.plan n.shape
    → Turning g.plan (rounds_of n.shape.np n.shape.n l.cap 0 (state_of g)) n.shape.np n.shape.n l.cap l.run m.heads.now m.up.now m.down.now l.tints l.marks)
