-- `checking::entries::check_option` meets its contract: the entries before j have passed, and their items have the mark. Assumes nothing.
use Rattle.std.proofs.Common.{sym, arith, get_or, length-set}
use Rattle.checking.proofs.EntryByEntry.{option-refused, option-next, item-below}
use Rattle.checking.proofs.Telling.{handed-on}
use Rattle.checking.proofs.entries.check_option.Goals as goal

pub returns-in_err-check_entry-clause-answer : goal.returns-in_err-check_entry-clause-answer
returns-in_err-check_entry-clause-answer c =
    let g = c.args in
    let r = c.requires.n_in_bounds in
    let l = c.loop-j in
    let R = l.invariant.1 in
    handed-on _ _ c.from_residual.ensures.1
    (sym (option-refused g.limits.np g.limits.n g.limits.colour g.a g.b g.mark g.items.now g.colours.now l.marks l.j R r.3 c.loop-j-test.true r.2 _
    (sym (c.in_err-check_entry.ensures R.seen R.marked))))

pub bounds-marks-item : goal.bounds-marks-item
bounds-marks-item c =
    let g = c.args in
    let l = c.loop-j in
    let R = l.invariant.1 in
    let i = item-below g.limits.np g.limits.n g.limits.colour l.j R.seen (get_or g.items.now l.j 0) (get_or g.colours.now l.j 0) (sym (c.in_ok-check_entry.ensures R.seen R.marked)) in
    omega (arith, l.invariant.0, c.requires.n_in_bounds.0, i)

pub loop-j-preserved : goal.loop-j-preserved
loop-j-preserved c =
    let g = c.args in
    let r = c.requires.n_in_bounds in
    let l = c.loop-j in
    let R = l.invariant.1 in (
      simp length-set l.invariant.0,
      option-next g.limits.np g.limits.n g.limits.colour g.a g.b g.mark g.items.now g.colours.now l.marks l.j R r.3 c.loop-j-test.true
          r.2 (omega (arith, l.invariant.0, r.0)) (sym (c.in_ok-check_entry.ensures R.seen R.marked)),
    )
