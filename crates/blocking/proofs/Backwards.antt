-- Undoing the walk round the tested option, item by item. Assumes nothing.
use Prim.Native.Nat.{ℕ, ◌+◌, ◌-◌, ◌<◌}
use native.Mathlib.Omega.{arith}
use mathlib.Core.Path.{◌≡◌, ◌∙◌, ap, sym, subst}
use mathlib.Core.Logic.{◌≢◌}
use mathlib.Core.Bool.{true}
use mathlib.Core.List.{List, ◌++◌}
use lib.ListN.{length}
use lib.IntN.{ℤ}
use Rattle.std.specs.Prelude.{None, Some}
use Rattle.links.specs.Head.{item_of, head}
use Rattle.links.specs.Column.{at}
use Rattle.links.specs.Plan.{EntryOf, Header}
use Rattle.links.specs.Ground.{Ground, Tidy, taken, Fresh, Holds, after}
use Rattle.links.specs.Row.{walked}
use Rattle.links.specs.Way.{way_back}
use Rattle.links.specs.Nodes.{column_in}
use Rattle.links.proofs.Endings.{item_none, item_some}
use Rattle.links.specs.Taking.{rivals, testing}
use Rattle.links.proofs.Plans.{row-mate}
use Rattle.links.proofs.Rows.{At, walked_none}
use Rattle.links.proofs.Taken.{fresh-front, after-tidy, after_more, taken-header, fresh-after, holds-taken}
use Rattle.blocking.specs.Undo.{Below, Behind}
use Rattle.links.proofs.Onward.{Underway}
use Rattle.links.proofs.Backward as Backward
use Rattle.blocking.proofs.Upwards.{header-in, from-header}
use Rattle.blocking.proofs.Testing.{testing-more}

module _ {h : Ground} {tints : List ℕ} {q r s : ℕ} {heads : List ℤ} {up down : List ℕ} (m : Behind h tints q r s heads up down) where
  abbrev out : List ℕ
  out = testing h (walked h r (q + 1))

  stands : Underway h out r (q + 1) heads up down
  stands = record { tidy = m.tidy; fresh = m.fresh; entry = m.entry; place = record { from = m.from; till = m.till }; holds = m.holds }

  pub behind-in : (q < length heads) × (q < length down)
  behind-in = Backward.inside q stands

  pub behind-some : 0 < q
  behind-some = Backward.back_some q stands

  -- the walk back came to r
  pub behind-done : q ≡ r → Holds h heads up down
  behind-done e = subst (λ (qs : List ℕ). Holds (taken h (testing h qs)) heads up down) (ap (λ (j : ℕ). walked h r (j + 1)) e ∙ walked_none h m.tidy r m.entry) m.holds

  module _ (d : q ≢ r) where
    -- over a head without an item
    module _ (none : None ≡ column_in (head heads q)) where
      no_item : item_of (head heads q) ≡ 0
      no_item = item_none (head heads q) none

      on-at : At h r (at down q + 1)
      on-at = Backward.over-at q stands d no_item

      same-walked : walked h r (q + 1) ≡ walked h r (at down q + 1)
      same-walked = sym (Backward.over-walked q stands d no_item)

      pub behind-over : Behind h tints (at down q) r s heads up down
      behind-over = record {
        tidy = m.tidy;
        headers = m.headers;
        tinted = m.tinted;
        starts = m.starts;
        entry = m.entry;
        from = on-at.from;
        till = on-at.till;
        fresh = subst (λ (qs : List ℕ). Fresh h (testing h qs)) same-walked m.fresh;
        holds = subst (λ (qs : List ℕ). Holds (taken h (testing h qs)) heads up down) same-walked m.holds;
      }

      pub behind-over-way : (n : ℕ) → length heads ≡ n → way_back n r (at down q) < way_back n r q
      behind-over-way = Backward.over-way q stands d no_item

    -- at an entry of column i
    module _ {i : ℕ} (some : Some i ≡ column_in (head heads q)) where
      an_item : item_of (head heads q) ≢ 0
      an_item e = omega (arith, e, (item_some (head heads q) i some).1)

      at_entry : At h r q
      at_entry = Backward.full_at q stands d an_item

      item-is : i ≡ h.plan.col q
      item-is = sym (item_some (head heads q) i some).0 ∙ Backward.full-col q stands d an_item

      entry : EntryOf h.plan q
      entry = row-mate h.plan m.tidy.planned r q m.entry at_entry.from (omega (arith, m.till))

      col-header : Header h.plan (h.plan.col q)
      col-header = m.tidy.planned.entry q entry

      -- what was taken in the earlier columns, and the ground then
      abbrev earlier : List ℕ
      earlier = testing h (walked h r q)

      abbrev then : Ground
      then = after h earlier

      one_more : out ≡ earlier ++ rivals then q
      one_more = ap (testing h) (Backward.full-one q stands d an_item) ∙ testing-more h (walked h r q) q

      fresh-one : Fresh h (earlier ++ rivals then q)
      fresh-one = subst (λ (xs : List ℕ). Fresh h xs) one_more m.fresh

      fresh-earlier : Fresh h earlier
      fresh-earlier = fresh-front h earlier (rivals then q) fresh-one

      fresh-last : Fresh then (rivals then q)
      fresh-last = fresh-after h earlier (rivals then q) fresh-one

      then-tidy : Tidy then
      then-tidy = after-tidy h earlier m.tidy fresh-earlier

      holds-last : Holds (taken then (rivals then q)) heads up down
      holds-last = subst (λ (G : Ground). Holds G heads up down) (ap (taken h) one_more ∙ sym (after_more h earlier (rivals then q))) m.holds

      -- the header of the column is where it was
      header-on : then.on (h.plan.col q) ≡ true
      header-on = taken-header h earlier m.tidy fresh-earlier (h.plan.col q) col-header ∙ m.headers (h.plan.col q) col-header

      pub behind-link : i < length up
      behind-link = rw item-is (header-in then tints (h.plan.col q) (h.plan.tint q) s then-tidy col-header header-on fresh-last heads up down holds-last)

      pub behind-below : {rr : ℕ} → rr ≡ at up i → Below (after h (testing h (walked h r q))) tints rr (at tints q) s heads up down
      behind-below a =
          rw (a, item-is, m.tinted.tint q entry)
          (from-header then tints (h.plan.col q) (h.plan.tint q) s then-tidy col-header header-on fresh-last heads up down holds-last m.tinted m.starts)

      pub behind-back : {heads' : List ℤ} {up' down' : List ℕ} → Holds (after h (testing h (walked h r q))) heads' up' down' → Behind h tints (q - 1) r s heads' up' down'
      behind-back l =
          let e : q - 1 + 1 ≡ q = omega (arith, behind-some) in
          record {
            tidy = m.tidy;
            headers = m.headers;
            tinted = m.tinted;
            starts = m.starts;
            entry = m.entry;
            from = rw e at_entry.from;
            till = rw e at_entry.till;
            fresh = rw e fresh-earlier;
            holds = rw e (holds-taken h earlier l);
          }
