-- The options below k have passed.
use Rattle.checking.proofs.EndByEnd.{Reached}
use Rattle.checking.proofs.ends.check_ends.Given as goal

abbrev pub invariant-loop-k : goal.invariant-loop-k
invariant-loop-k l = Reached l.entries l.ends l.k l.before
