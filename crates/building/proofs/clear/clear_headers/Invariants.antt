-- The loop of `clear_headers`: the nodes before i are cleared, and the first boundary.
use Rattle.links.specs.Nodes.{SameNodes}
use Rattle.building.proofs.Clearing.{Upto}
use Rattle.building.proofs.clear.clear_headers.Given as goal

abbrev pub invariant-loop-c : goal.invariant-loop-c
invariant-loop-c l = SameNodes l.fn.nodes l.nodes × Upto l.n l.c l.nodes.heads.now l.nodes.up.now l.nodes.down.now
