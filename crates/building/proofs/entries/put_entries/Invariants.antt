-- The loop of `put_entries`: below node x everything is laid out.
use Rattle.std.proofs.Common.{◌≡◌, ◌+◌, length}
use Rattle.links.specs.Nodes.{SameNodes}
use Rattle.links.specs.Plan.{Plan}
use Rattle.building.specs.Laid.{Open}
use Rattle.building.specs.Build.{Filling}
use Rattle.building.proofs.entries.put_entries.Given as goal

abbrev pub invariant-loop-item : goal.invariant-loop-item
invariant-loop-item l =
    SameNodes l.fn.nodes l.nodes × (l.x ≡ l.edge + 1 + length l.yielded)
    × ((P : Plan) → Filling P l.edge l.items l.colours l.fn.nodes.heads.now l.fn.nodes.up.now l.fn.nodes.down.now l.initial.tints
    → Open P 0 l.x l.nodes.heads.now l.nodes.up.now l.nodes.down.now l.tints)
