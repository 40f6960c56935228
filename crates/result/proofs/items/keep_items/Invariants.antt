-- The loop of `keep_items`: at place c the kept items among a .. c - 1 are written.
use Rattle.std.proofs.Common.{◌+◌, ◌-◌, ◌≤◌}
use Rattle.result.specs.Filled.{Filled}
use Rattle.result.specs.Kept.{kept_from}
use Rattle.result.proofs.items.keep_items.Given as goal

abbrev pub invariant-loop-item : goal.invariant-loop-item
invariant-loop-item l = (l.next + (l.b - l.item) ≤ l.b - l.a) × Filled l.initial.kept (kept_from l.nodes.heads.now l.a l.item) l.kept l.next
