-- `calls::checked` meets its contract: the problem's constructor makes checks 10 to 15, and `refusal` those behind them. Assumes nothing.
use Rattle.std.proofs.Common.{sym}
use mathlib.Core.Bool.{false}
use Rattle.rules.specs.Problem.{figures}
use Rattle.checking.proofs.Table.{at-sizes}
use Rattle.checking.proofs.Telling.{handed-on}
use Rattle.calls.proofs.checked.Goals as goal

pub returns-in_err-problem-clause-refused : goal.returns-in_err-problem-clause-refused
returns-in_err-problem-clause-refused c =
    λ cap room results L. handed-on _ _ c.from_residual.ensures.1 (sym (at-sizes figures false _ _ (sym c.in_err-problem.ensures.refused)))
