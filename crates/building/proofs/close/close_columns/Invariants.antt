-- The loop of `close_columns`: the columns before i are closed.
use Rattle.std.proofs.Common.{◌≡◌, ◌-◌, ◌<◌}
use Rattle.links.specs.Nodes.{SameNodes}
use Rattle.building.specs.Laid.{closing}
use Rattle.building.proofs.close.close_columns.Given as goal

abbrev pub invariant-loop-c : goal.invariant-loop-c
invariant-loop-c l =
    SameNodes l.fn.nodes l.nodes × (0 < l.c) × (l.nodes.heads.now ≡ l.fn.nodes.heads.now) × (l.nodes.up.now ≡ l.fn.nodes.up.now)
    × (l.nodes.down.now ≡ closing (l.c - 1) l.fn.nodes.up.now l.fn.nodes.down.now)
