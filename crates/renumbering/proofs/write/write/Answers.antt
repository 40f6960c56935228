-- `renumbering::write::write` meets its contract: at place k the first k numbers are written. Assumes nothing.
use Rattle.std.proofs.Common.{ℕ, refl, sym, ap, subst, ◌∙◌, arith, map, length}
use Rattle.std.proofs.lemmas.List.{length-map}
use Rattle.renumbering.proofs.Writing.{room_next, mapped_next, item-at, item-kept, item-found, item-place, item-place-small}
use Rattle.renumbering.proofs.write.write.Goals as goal

pub unwrap-place-requires : goal.unwrap-place-requires
unwrap-place-requires g c =
    let v = g.N.Numeral.value in
    let a = c.args in
    let r = c.requires in
    let l = c.loop-k in
    let named = c.from-i.ensures ∙ c.number.ensures in
    let e = item-found v a.kept.now a.items.now r.rises r.kept l.k c.loop-k-test.true _ c.index-items-k.is _ named c.find.result (c.find.ensures r.rises) in
    rw e refl

pub overflow_cast-place : goal.overflow_cast-place
overflow_cast-place g c =
    let v = g.N.Numeral.value in
    let a = c.args in
    let r = c.requires in
    let l = c.loop-k in
    let named = c.from-i.ensures ∙ c.number.ensures in
    let found = c.find.ensures r.rises in
    let s =
    item-place-small v a.kept.now a.items.now r.rises r.kept l.k c.loop-k-test.true _ c.index-items-k.is _ named c.find.result found _ c.unwrap-place.ensures in
    record { fits = omega (arith, s, c.from-i.ensures, c.number.type_inv) }

pub number-requires-in-loop-k : goal.number-requires-in-loop-k
number-requires-in-loop-k g c =
    let v = g.N.Numeral.value in
    let a = c.args in
    let r = c.requires in
    let l = c.loop-k in
    let i = c.from-i.result in
    let named = c.from-i.ensures ∙ c.number.ensures in
    let found = c.find.ensures r.rises in
    let t = item-kept v a.kept.now a.items.now r.rises r.kept l.k c.loop-k-test.true _ c.index-items-k.is i.0 named in
    let e = item-place v a.kept.now a.items.now r.rises r.kept l.k c.loop-k-test.true _ c.index-items-k.is i.0 named c.find.result found _ c.unwrap-place.ensures in
    subst (λ (p : ℕ). goal.F-pre g a.number p i) (sym e) (r.callable i t)

pub loop-k-preserved : goal.loop-k-preserved
loop-k-preserved g c =
    let v = g.N.Numeral.value in
    let C = g.C.Cell in
    let a = c.args in
    let r = c.requires in
    let l = c.loop-k in
    let i = c.from-i.result in
    let n = c.number-in-loop-k.result in
    let named = c.from-i.ensures ∙ c.number.ensures in
    let found = c.find.ensures r.rises in
    let t = item-kept v a.kept.now a.items.now r.rises r.kept l.k c.loop-k-test.true _ c.index-items-k.is i.0 named in
    let e = item-place v a.kept.now a.items.now r.rises r.kept l.k c.loop-k-test.true _ c.index-items-k.is i.0 named c.find.result found _ c.unwrap-place.ensures in
    let at = item-at v a.kept.now a.items.now r.rises r.kept l.k c.loop-k-test.true _ c.index-items-k.is i.0 named in (
      c.put.auto.list ∙ l.invariant.0,
      λ f gives.
          c.put.ensures
          ∙ mapped_next C.width C.cells g.met.C.Cell.fills f (map v a.items.now) a.out.now l.out l.k n.0 (omega (arith, length-map a.items.now v))
          (room_next C.width l.k (length a.items.now) (length a.out.now) c.loop-k-test.true r.room)
          (gives i n t (subst (λ (p : ℕ). goal.F-post g a.number p i n) e c.number-in-loop-k.ensures) ∙ ap f at) (l.invariant.1 f gives),
    )
