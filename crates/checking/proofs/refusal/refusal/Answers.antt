-- `checking::refusal::refusal` meets its contract: each answer is that of the checks before it. The counts are the problem's own, which are those of
-- the lists. Assumes nothing.
use Rattle.std.proofs.Common.{ℕ, ◌+◌, ◌∙◌, ap, sym, arith}
use mathlib.Core.Bool.{false}
use Rattle.rules.specs.Problem.{entries_of, cut}
use Rattle.rules.specs.Checks.{refuse, check_options}
use Rattle.rules.specs.Lent.{handed_lists}
use Rattle.checking.proofs.Table.{sizes, at-ends, at_room, at_results, at-entries}
use Rattle.checking.proofs.Telling.{handed-on}
use Rattle.checking.proofs.refusal.refusal.Goals as goal

pub check_ends-requires : goal.check_ends-requires
check_ends-requires c =
    let M = c.requires.1 in
    let w = sizes _ false _ _ _ _ _ M.taken in
    omega (arith, w.options, M.few-options)

pub returns-in_err-check_ends : goal.returns-in_err-check_ends
returns-in_err-check_ends c =
    λ f cap room results M L. handed-on _ _ c.from_residual.ensures.1 (sym (at-ends f false _ M.taken _ (rw M.entries at (sym c.in_err-check_ends.ensures))))

pub short_room-short-requires : goal.short_room-short-requires
short_room-short-requires c =
    let M = c.requires.1 in
    let w = sizes _ false _ _ _ _ _ M.taken in
    omega (arith, w.items, w.options, w.entries, M.few-items, M.few-options, M.few-entries, M.options, M.entries, c.n-n.ensures)

pub returns-in_err-refuse_if : goal.returns-in_err-refuse_if
returns-in_err-refuse_if c =
    λ f cap room results M L.
    let e = rw M.entries at (sym c.in_ok-check_ends.ensures) in
    let t = c.in_err-refuse_if.ensures.refused ∙ ap (refuse 17 0) (rw (c.n-n.ensures, M.entries, M.options) at (c.short_room-short.ensures room results L)) in
    handed-on _ _ c.from_residual-in_err-refuse_if.ensures.1 (sym (at_room f false _ M.taken e _ (sym t)))

pub returns-in_err-refuse_if-2 : goal.returns-in_err-refuse_if-2
returns-in_err-refuse_if-2 c =
    λ f cap room results M L.
    let e = rw M.entries at (sym c.in_ok-check_ends.ensures) in
    let t = c.in_ok-refuse_if.ensures.refused ∙ ap (refuse 17 0) (rw (c.n-n.ensures, M.entries, M.options) at (c.short_room-short.ensures room results L)) in
    let u = c.in_err-refuse_if-2.ensures.refused ∙ ap (refuse 18 0) (rw (c.n-n.ensures, M.entries, M.options) at (c.short_results-short.ensures room results L)) in
    handed-on _ _ c.from_residual-in_err-refuse_if-2.ensures.1 (sym (at_results f false _ M.taken e (sym t) _ (sym u)))

pub overflow_cast-limits : goal.overflow_cast-limits
overflow_cast-limits c =
    let M = c.requires.1 in
    let w = sizes _ false _ _ _ _ _ M.taken in
    omega (arith, w.items, M.few-items, c.n-n.ensures)

pub check_entries-requires : goal.check_entries-requires
check_entries-requires c =
    let M = c.requires.1 in
    let w = sizes _ false _ _ _ _ _ M.taken in
    record {
      few-items = omega (arith, w.items, M.few-items, c.n-n.ensures);
      few-options = omega (arith, w.options, M.few-options);
      few-entries = omega (arith, w.entries, M.few-entries);
      lengths = w.lengths;
      ends-rise = rw M.entries at (sym c.in_ok-check_ends.ensures);
    }

pub returns : goal.returns
returns c =
    λ f cap room results M L.
    let e = rw M.entries at (sym c.in_ok-check_ends.ensures) in
    let t = c.in_ok-refuse_if.ensures.refused ∙ ap (refuse 17 0) (rw (c.n-n.ensures, M.entries, M.options) at (c.short_room-short.ensures room results L)) in
    let u = c.in_ok-refuse_if-2.ensures.refused ∙ ap (refuse 18 0) (rw (c.n-n.ensures, M.entries, M.options) at (c.short_results-short.ensures room results L)) in
    let h = handed_lists c.args.problem cap c.args.lists.now room results in
    let colour = ap (λ (k : ℕ). check_options h.np (h.np + h.ns) k 0 (cut 0 h.ends (entries_of h.items h.colours))) M.colour in
    (rw c.n-n.ensures at c.check_entries.ensures) ∙ sym (at-entries f false h M.taken e (sym t) (sym u) ∙ colour)
