-- The options below k have passed.
use Rattle.std.proofs.Common.{length, ◌≡◌}
use Rattle.rules.specs.Problem.{figures}
use Rattle.checking.proofs.OptionByOption.{Past}
use Rattle.checking.proofs.entries.check_entries.Given as goal

abbrev pub invariant-loop-k : goal.invariant-loop-k
invariant-loop-k l = (length l.marks ≡ figures.items) × Past l.limits.np l.limits.n l.limits.colour l.lists.items.now l.lists.colours.now l.lists.ends.now l.marks l.k l.begin
