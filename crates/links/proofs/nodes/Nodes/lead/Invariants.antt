-- The walk back of `lead`: it has met shortened entries only, and comes nearer to node 0.
use Rattle.links.specs.Ground.{Ground}
use Rattle.links.specs.Lead.{Led}
use Rattle.links.proofs.Leading.{Back}
use Rattle.links.proofs.nodes.Nodes.lead.Given as goal

abbrev pub invariant-loop-q : goal.invariant-loop-q
invariant-loop-q l = (g : Ground) → Led g l.r l.self.heads.now l.self.down.now → Back g l.r l.q

abbrev pub decreases-loop-q : goal.decreases-loop-q
decreases-loop-q l = l.q
