-- `checking::entries::check_entries` meets its contract: the options below k have passed. Assumes nothing.
use Rattle.std.proofs.Common.{refl, ◌∙◌, sym, arith}
use lib.ListN.{replicate}
use Rattle.rules.specs.Problem.{figures}
use Rattle.checking.proofs.OptionByOption.{unmarked, options-begin, option-within, options-next}
use Rattle.checking.proofs.entries.check_entries.Goals as goal

pub loop-k-init : goal.loop-k-init
loop-k-init c =
    let g = c.args in
    let s = g.lists.now in
    let begins = options-begin g.limits.np g.limits.n g.limits.colour s.items.now s.colours.now s.ends.now c.requires (replicate figures.items 0) (unmarked figures.items) in
    (refl, begins)

pub check_option-requires-clause-n_in_bounds : goal.check_option-requires-clause-n_in_bounds
check_option-requires-clause-n_in_bounds c =
    let g = c.args in
    let l = c.loop-k in
    let s = g.lists.now in
    let w = option-within g.limits.np g.limits.n g.limits.colour s.items.now s.colours.now s.ends.now c.requires l.marks l.k l.begin l.invariant.1 c.loop-k-test.true in
    (omega (arith, l.invariant.0, c.requires.few-items), w.0, w.1, c.requires.lengths, omega (arith, w.1, c.requires.few-entries))

pub loop-k-preserved : goal.loop-k-preserved
loop-k-preserved c =
    let g = c.args in
    let l = c.loop-k in
    let e = c.in_ok-check_option.ensures in
    let s = g.lists.now in
    let next = options-next g.limits.np g.limits.n g.limits.colour s.items.now s.colours.now s.ends.now c.requires l.marks l.k l.begin l.invariant.1 c.loop-k-test.true in
    (c.check_option.auto.marks ∙ l.invariant.0, next _ e.marks (sym e.answer))
