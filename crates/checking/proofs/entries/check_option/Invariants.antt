-- The entries before j have passed, and their items have the mark.
use Rattle.std.proofs.Common.{length, ◌≡◌}
use Rattle.checking.proofs.EntryByEntry.{Through}
use Rattle.checking.proofs.entries.check_option.Given as goal

abbrev pub invariant-loop-j : goal.invariant-loop-j
invariant-loop-j l = (length l.marks ≡ length l.initial.marks) × Through l.limits.np l.limits.n l.limits.colour l.a l.b l.mark l.items l.colours l.marks l.j
