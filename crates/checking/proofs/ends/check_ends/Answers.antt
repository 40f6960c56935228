-- `checking::ends::check_ends` meets its contract: the options below k have passed. Assumes nothing.
use Rattle.std.proofs.Common.{refl, sym}
use Rattle.checking.proofs.EndByEnd.{end-bad, ends-done}
use Rattle.checking.proofs.Telling.{handed-on}
use Rattle.checking.proofs.ends.check_ends.Goals as goal

pub returns-in_err-refuse_if : goal.returns-in_err-refuse_if
returns-in_err-refuse_if c =
    let l = c.loop-k in
    handed-on _ _ c.from_residual.ensures.1 (sym (end-bad c.args.entries c.args.ends.now l.k l.before l.invariant c.loop-k-test.true _ (sym c.in_err-refuse_if.ensures.refused)))

pub returns : goal.returns
returns c =
    let l = c.loop-k in
    let e = ends-done c.args.entries c.args.ends.now l.k l.before l.invariant c.loop-k-test.false in
    rw (e, c.refuse_if-2.ensures.refused, c.saturating_sub-last.ensures) refl
