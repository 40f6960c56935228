-- `checking::entries::check_entry` meets its contract: each answer is that of the checks before it. Assumes nothing.
use Rattle.std.proofs.Common.{◌≡◌, sym, ap, ◌∙◌}
use Rattle.rules.specs.Checks.{refuse, check_entry}
use Rattle.rules.specs.Lists.{mem}
use Rattle.checking.proofs.EntryByEntry.{told-19, told-20, told-21, told-coloured, told-plain}
use Rattle.checking.proofs.Telling.{handed-on}
use Rattle.checking.proofs.entries.check_entry.Goals as goal
use Rattle.checking.proofs.entries.check_entry.Goals.{then-colour-gt0+in_ok-refuse_if-2+in_ok-refuse_if-3, else-colour-gt0}

pub returns-in_err-refuse_if : goal.returns-in_err-refuse_if
returns-in_err-refuse_if c =
    λ seen M.
    let g = c.args in
    handed-on _ _ c.from_residual.ensures.1
    (sym (told-19 g.limits.np g.limits.n g.limits.colour g.place seen g.item.0 g.colour _ (sym c.in_err-refuse_if.ensures.refused)))

pub returns-in_err-refuse_if-2 : goal.returns-in_err-refuse_if-2
returns-in_err-refuse_if-2 c =
    λ seen M.
    let g = c.args in
    let a = sym c.in_ok-refuse_if.ensures.refused in
    handed-on _ _ c.from_residual-in_err-refuse_if-2.ensures.1
    (sym (told-20 g.limits.np g.limits.n g.limits.colour g.place seen g.item.0 g.colour a _ (sym c.in_err-refuse_if-2.ensures.refused)))

pub returns-in_err-refuse_if-3 : goal.returns-in_err-refuse_if-3
returns-in_err-refuse_if-3 c =
    λ seen M.
    let g = c.args in
    let a = sym c.in_ok-refuse_if.ensures.refused in
    let b = sym c.in_ok-refuse_if-2.ensures.refused in
    handed-on _ _ c.from_residual-in_err-refuse_if-3.ensures.1
    (sym (told-21 g.limits.np g.limits.n g.limits.colour g.place seen g.item.0 g.colour a c.if-colour-gt0.true b _ (sym c.in_err-refuse_if-3.ensures.refused)))

pub returns : goal.returns
returns c =
    λ seen M.
    let g = c.args in
    let a = sym c.in_ok-refuse_if.ensures.refused in
    let told : check_entry g.limits.np g.limits.n g.limits.colour g.place seen (record { item = g.item.0; colour = g.colour }) ≡ refuse 22 g.place (mem g.item.0 seen) =
    elim c.if-colour-gt0.branch [
      | then-colour-gt0+in_ok-refuse_if-2+in_ok-refuse_if-3 w ↦
          told-coloured g.limits.np g.limits.n g.limits.colour g.place seen g.item.0 g.colour a w.if-colour-gt0.true
          (sym w.in_ok-refuse_if-2.ensures.refused) (sym w.in_ok-refuse_if-3.ensures.refused)
      | else-colour-gt0 w ↦ told-plain g.limits.np g.limits.n g.limits.colour g.place seen g.item.0 g.colour a w.if-colour-gt0.false
    ] in
    c.refuse_if-2.ensures.refused ∙ ap (refuse 22 g.place) (sym (M g.item.0)) ∙ sym told
