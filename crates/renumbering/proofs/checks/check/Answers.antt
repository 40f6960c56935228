-- `renumbering::checks::check` meets its contract: the tests are made in the paper's order. Assumes nothing.
use Rattle.std.proofs.Common.{sym, ◌∙◌, arith, map}
use Rattle.std.proofs.lemmas.List.{length-map}
use Rattle.renumbering.proofs.Refusing.{not-rising, no-primary, above-length, sound-from, too_short, missing_at, nothing-wrong}
use Rattle.renumbering.proofs.checks.check.Goals.{then-not-is_rising-via-then-not-is_rising}
use Rattle.renumbering.proofs.checks.check.Goals.{then-not-is_rising-via-else-not-is_rising+then-primaries-eq0, then-not-is_rising-via-else-not-is_rising+else-primaries-eq0+then-kept-primaries}
use Rattle.renumbering.proofs.checks.check.Goals as goal

pub returns-then-not-is_rising : goal.returns-then-not-is_rising
returns-then-not-is_rising g c = λ out e.
    let a = c.args in
    let v = g.N.Numeral.value in
    elim c.then-not-is_rising.branch [
      | then-not-is_rising-via-then-not-is_rising w ↦ not-rising (map v a.kept.now) a.primaries (map v a.items.now) out (sym c.is_rising.ensures ∙ w.if-not-is_rising.true)
      | then-not-is_rising-via-else-not-is_rising+then-primaries-eq0 w ↦ no-primary (map v a.kept.now) a.primaries (map v a.items.now) out
          (sym c.is_rising.ensures ∙ w.if-not-is_rising.false) w.if-primaries-eq0.true
      | then-not-is_rising-via-else-not-is_rising+else-primaries-eq0+then-kept-primaries w ↦ above-length (map v a.kept.now) a.primaries (map v a.items.now) out
          (sym c.is_rising.ensures ∙ w.if-not-is_rising.false) w.if-primaries-eq0.false (omega (arith, w.if-kept-primaries.true, length-map a.kept.now v))
    ]

pub returns-then-room-items : goal.returns-then-room-items
returns-then-room-items g c = λ out e.
    let a = c.args in
    let v = g.N.Numeral.value in
    let s = sound-from (map v a.kept.now) a.primaries (map v a.items.now) out (sym c.if-not-is_rising.ensures) c.if-primaries-eq0.false
    (omega (arith, length-map a.kept.now v, c.if-kept-primaries.false)) in
    too_short (map v a.kept.now) a.primaries (map v a.items.now) out s (omega (arith, length-map a.items.now v, c.if-room-items.true))

pub returns-in-Some : goal.returns-in-Some
returns-in-Some g c = λ out e.
    let a = c.args in
    let v = g.N.Numeral.value in
    let s = sound-from (map v a.kept.now) a.primaries (map v a.items.now) out (sym c.if-not-is_rising.ensures) c.if-primaries-eq0.false
    (omega (arith, length-map a.kept.now v, c.if-kept-primaries.false)) in
    missing_at (map v a.kept.now) a.primaries (map v a.items.now) out s (omega (arith, length-map a.items.now v, c.if-room-items.false)) c.in-Some.place (c.in-Some.ensures s.rises)

pub returns-in-None : goal.returns-in-None
returns-in-None g c = λ out e.
    let a = c.args in
    let v = g.N.Numeral.value in
    let s = sound-from (map v a.kept.now) a.primaries (map v a.items.now) out (sym c.if-not-is_rising.ensures) c.if-primaries-eq0.false
    (omega (arith, length-map a.kept.now v, c.if-kept-primaries.false)) in
    nothing-wrong (map v a.kept.now) a.primaries (map v a.items.now) out s (omega (arith, length-map a.items.now v, c.if-room-items.false)) (c.in-None.ensures s.rises)
