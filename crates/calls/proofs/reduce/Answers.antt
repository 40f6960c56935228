-- `calls::reduce` meets its contract: the problem that passed is the one that was handed in. Assumes nothing.
use Rattle.checking.proofs.Telling.{passes}
use Rattle.calls.proofs.Refusing.{refused, found}
use Rattle.calls.proofs.reduce.Goals as goal

pub returns-in-Err-clause-outcome : goal.returns-in-Err-clause-outcome
returns-in-Err-clause-outcome c = refused _ (c.checked.ensures.refused c.args.given.now.cap _ _ c.of-lent.ensures) c.in-Err.is

pub reduce-requires : goal.reduce-requires
reduce-requires c = rw c.in-Ok.ensures.counts (passes (c.checked.ensures.refused c.args.given.now.cap _ _ c.of-lent.ensures) c.in-Ok.is)

pub returns-in-Ok-clause-outcome : goal.returns-in-Ok-clause-outcome
returns-in-Ok-clause-outcome c =
    found _ (c.checked.ensures.refused c.args.given.now.cap _ _ c.of-lent.ensures) c.in-Ok.is (rw c.in-Ok.ensures.counts at c.reduce.ensures.outcome)
