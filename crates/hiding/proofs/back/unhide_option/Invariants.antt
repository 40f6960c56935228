-- The walk round the option: what is ahead of it is still away, and the way back to rr falls.
use Rattle.std.proofs.Common.{ℕ, List, ◌++◌, length}
use Rattle.links.specs.Ground.{Ground}
use Rattle.links.specs.Row.{others}
use Rattle.links.specs.Way.{way}
use Rattle.links.specs.Nodes.{in_nodes, SameNodes}
use Rattle.hiding.specs.Away.{Away, Returning}
use Rattle.hiding.proofs.RoundBack.{RoundBack}
use Rattle.hiding.proofs.back.unhide_option.Given as goal

abbrev pub invariant-loop-qq : goal.invariant-loop-qq
invariant-loop-qq l =
    SameNodes l.fn.nodes l.nodes
    × ((g : Ground) (rest : List ℕ) → Returning g l.rr rest → in_nodes (Away g (others g l.rr ++ rest)) l.fn.nodes → in_nodes (RoundBack g l.rr rest) l.nodes l.qq)

abbrev pub decreases-loop-qq : goal.decreases-loop-qq
decreases-loop-qq l = way (length l.fn.nodes.heads.now) l.rr l.qq
