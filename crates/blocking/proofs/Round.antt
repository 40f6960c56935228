-- Undoing the walk round one rival, step by step. Assumes nothing.
use Prim.Native.Nat.{ℕ, ◌+◌, ◌-◌, ◌<◌}
use native.Mathlib.Omega.{arith}
use mathlib.Core.Path.{◌≡◌, ◌∙◌, ap, sym, subst}
use mathlib.Core.Logic.{◌≢◌}
use mathlib.Core.List.{List, [], ◌∷◌, ◌++◌}
use lib.ListN.{length, set}
use lib.IntN.{ℤ, pos}
use Rattle.std.specs.Prelude.{None, Some}
use Rattle.rules.specs.Bounds.{node_bound}
use Rattle.links.specs.Head.{item_of, head, Growing}
use Rattle.links.specs.Column.{at, tie_up, tie_down}
use Rattle.links.specs.Ground.{Ground, taken, Fresh, Holds}
use Rattle.links.specs.Row.{walked}
use Rattle.links.specs.Way.{way_back}
use Rattle.links.specs.Nodes.{column_in}
use Rattle.links.proofs.Endings.{item_none, item_some}
use Rattle.links.proofs.Rows.{At, walked_none}
use Rattle.links.proofs.Taken.{fresh-front}
use Rattle.blocking.specs.Undo.{Half}
use Rattle.links.proofs.Undoing.{put_back, more-asks, relink-asks}
use Rattle.links.proofs.Onward.{Underway}
use Rattle.links.proofs.Backward.{inside, back_some, over-at, over-walked, over-way, full_at, full-col, full-one}

module _ {g : Ground} {rr qq : ℕ} {heads : List ℤ} {up down : List ℕ} (m : Half g rr qq heads up down) where
  abbrev behind : List ℕ
  behind = walked g rr (qq + 1)

  stands : Underway g behind rr (qq + 1) heads up down
  stands = record { tidy = m.tidy; fresh = m.fresh; entry = m.entry; place = record { from = m.from; till = m.till }; holds = m.holds }

  pub half_in : (qq < length heads) × (qq < length down)
  half_in = inside qq stands

  pub half-some : 0 < qq
  half-some = back_some qq stands

  -- the walk back came to rr
  pub half-done : qq ≡ rr → Holds g heads up down
  half-done e = subst (λ (xs : List ℕ). Holds (taken g xs) heads up down) (ap (λ (j : ℕ). walked g rr (j + 1)) e ∙ walked_none g m.tidy rr m.entry) m.holds

  module _ (d : qq ≢ rr) where
    -- over a head without an item
    module _ (none : None ≡ column_in (head heads qq)) where
      no_item : item_of (head heads qq) ≡ 0
      no_item = item_none (head heads qq) none

      on-at : At g rr (at down qq + 1)
      on-at = over-at qq stands d no_item

      same-walked : behind ≡ walked g rr (at down qq + 1)
      same-walked = sym (over-walked qq stands d no_item)

      pub half_over : Half g rr (at down qq) heads up down
      half_over = record {
        tidy = m.tidy;
        entry = m.entry;
        from = on-at.from;
        till = on-at.till;
        fresh = subst (λ (xs : List ℕ). Fresh g xs) same-walked m.fresh;
        holds = subst (λ (xs : List ℕ). Holds (taken g xs) heads up down) same-walked m.holds;
      }

      pub half-over-way : (n : ℕ) → length heads ≡ n → way_back n rr (at down qq) < way_back n rr qq
      half-over-way = over-way qq stands d no_item

    -- at an entry of column i
    module _ {i : ℕ} (some : Some i ≡ column_in (head heads qq)) where
      an_item : item_of (head heads qq) ≢ 0
      an_item e = omega (arith, e, (item_some (head heads qq) i some).1)

      at_entry : At g rr qq
      at_entry = full_at qq stands d an_item

      item-is : i ≡ g.plan.col qq
      item-is = sym (item_some (head heads qq) i some).0 ∙ full-col qq stands d an_item

      one_more : behind ≡ walked g rr qq ++ (qq ∷ [])
      one_more = full-one qq stands d an_item

      fresh-one : Fresh g (walked g rr qq ++ (qq ∷ []))
      fresh-one = subst (λ (xs : List ℕ). Fresh g xs) one_more m.fresh

      holds-one : Holds (taken g (walked g rr qq ++ (qq ∷ []))) heads up down
      holds-one = subst (λ (xs : List ℕ). Holds (taken g xs) heads up down) one_more m.holds

      pub half-more : Growing heads i
      half-more = rw item-is (more-asks g (walked g rr qq) qq m.tidy fresh-one holds-one)

      pub half-relink : (qq < node_bound) × (qq < length up) × (qq < length down) × (at up qq < length down) × (at down qq < length up)
      half-relink = relink-asks g (walked g rr qq) qq m.tidy fresh-one holds-one

      pub half_back : Half g rr (qq - 1) (set heads i (pos (item_of (head heads i) + 1))) (tie_up up down qq) (tie_down up down qq)
      half_back =
          let e : qq - 1 + 1 ≡ qq = omega (arith, half-some) in
          record {
            tidy = m.tidy;
            entry = m.entry;
            from = rw e at_entry.from;
            till = rw e at_entry.till;
            fresh = rw e (fresh-front g (walked g rr qq) (qq ∷ []) fresh-one);
            holds = rw (e, item-is) (put_back g (walked g rr qq) qq m.tidy fresh-one holds-one);
          }
