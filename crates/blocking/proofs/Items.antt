-- The walk forwards over the items of the tested option. Assumes nothing.
use Prim.Native.Nat.{ℕ, ◌+◌, ◌<◌}
use native.Mathlib.Omega.{arith}
use mathlib.Core.Path.{◌≡◌, ◌∙◌, ap, sym, subst}
use mathlib.Core.Logic.{◌≢◌}
use mathlib.Core.Bool.{Bool, true}
use mathlib.Core.List.{List, []}
use lib.ListN.{length}
use lib.IntN.{ℤ}
use Rattle.std.specs.Prelude.{None, Some}
use Rattle.links.specs.declared.shape.Shape.{Shape}
use Rattle.links.specs.Head.{item_of, head}
use Rattle.links.specs.Column.{at}
use Rattle.links.specs.Plan.{EntryOf, Header}
use Rattle.links.specs.Ground.{Ground, Tidy, taken, Holds}
use Rattle.links.specs.Row.{walked}
use Rattle.links.specs.Way.{way, reach}
use Rattle.links.specs.Nodes.{column_in}
use Rattle.links.proofs.Endings.{item_none, item_some}
use Rattle.links.specs.Taking.{in_column, rival_at, testing}
use Rattle.links.proofs.Plans.{header-before}
use Rattle.links.proofs.Rows.{At, walk_begins, walked_none}
use Rattle.blocking.specs.Forward.{Test, Stage, out_at, ground_at, Outer, AtItem, rivals_to, Middle}
use Rattle.links.proofs.Taken.{taken-header}
use Rattle.links.proofs.Descending.{Stand}
use Rattle.links.proofs.Passing.{rival-inside, KeptColumn, kept-none, gathered-none, down-stand, down-gathered}
use Rattle.links.proofs.Onward as Onward
use Rattle.links.proofs.Onward.{Underway}
use Rattle.blocking.proofs.Stages.{stage-none, item-entry, ground-tidy}

-- the place of the walk, and what is known there
module _ {h : Ground} {tints marks : List ℕ} {r : ℕ} {shape : Shape} {heads : List ℤ} {up down : List ℕ} where
  -- the walk begins at the node after r
  pub outer-begins : Test h tints marks r shape → Holds h heads up down → Outer h tints marks r shape (r + 1) heads up down
  outer-begins w l =
      let b = walk_begins h w.tested.tidy r w.tested.entry in
      let n = walked_none h w.tested.tidy r w.tested.entry in
      record {
        test = w;
        from = b.from;
        till = b.till;
        stage = subst (λ (qs : List ℕ). Stage h qs (testing h qs)) (sym n) (stage-none h);
        alive = λ i a b c d. rw l.heads-are d;
        holds = subst (λ (qs : List ℕ). Holds (taken h (testing h qs)) heads up down) (sym n) l;
      }

  module _ {q : ℕ} (m : Outer h tints marks r shape q heads up down) where
    t : Tidy h
    t = m.test.tested.tidy

    e : EntryOf h.plan r
    e = m.test.tested.entry

    stands : Underway h (out_at h r q) r q heads up down
    stands = record { tidy = t; fresh = m.stage.fresh; entry = e; place = record { from = m.from; till = m.till }; holds = m.holds }

    module _ (d : q ≢ r) where
      -- over a head without an item
      module _ (none : None ≡ column_in (head heads q)) where
        no_item : item_of (head heads q) ≡ 0
        no_item = item_none (head heads q) none

        on-at : At h r (at up q)
        on-at = Onward.over-at stands d no_item

        same-walked : walked h r q ≡ walked h r (at up q)
        same-walked = sym (Onward.over-walked stands d no_item)

        pub outer-over : Outer h tints marks r shape (at up q) heads up down
        outer-over = record {
          test = m.test;
          from = on-at.from;
          till = on-at.till;
          stage = subst (λ (qs : List ℕ). Stage h qs (testing h qs)) same-walked m.stage;
          alive = m.alive;
          holds = subst (λ (qs : List ℕ). Holds (taken h (testing h qs)) heads up down) same-walked m.holds;
        }

        pub outer-over-way : (n : ℕ) → length heads ≡ n → way n r (at up q) < way n r q
        outer-over-way = Onward.over-way stands d no_item

      -- at an entry of column i, which is entered
      module _ {i : ℕ} (some : Some i ≡ column_in (head heads q)) where
        an_item : item_of (head heads q) ≢ 0
        an_item e = omega (arith, e, (item_some (head heads q) i some).1)

        pub outer-item : AtItem h tints marks r shape q
        outer-item = record {
          test = m.test;
          from = m.from;
          till = Onward.full-inside stands d an_item;
          other = d;
          full = Onward.full-head stands d an_item;
          stage = m.stage;
        }

        item-is : i ≡ h.plan.col q
        item-is = sym (item_some (head heads q) i some).0 ∙ Onward.full-col stands d an_item

        entry : EntryOf h.plan q
        entry = item-entry outer-item

        header : Header h.plan (h.plan.col q)
        header = t.planned.entry q entry

        g-tidy : Tidy (ground_at h r q)
        g-tidy = ground-tidy outer-item

        pub outer-link : i < length down
        outer-link = rw (item-is, m.holds.down-are) (omega (arith, header-before h.plan t.planned (h.plan.col q) header, t.planned.room, g-tidy.ring.downs))

        header-on : (ground_at h r q).on (h.plan.col q) ≡ true
        header-on = taken-header h (out_at h r q) t m.stage.fresh (h.plan.col q) header ∙ m.test.tested.headers (h.plan.col q) header

        col-is : h.plan.col (h.plan.col q) ≡ h.plan.col q
        col-is = t.planned.header (h.plan.col q) header

        column : KeptColumn (ground_at h r q) (h.plan.col q) []
        column = kept-none g-tidy header

        stand : Stand (ground_at h r q) (h.plan.col q) (h.plan.col q)
        stand = record { on = header-on; col = col-is }

        pub enter : {rr : ℕ} → rr ≡ at down i → Middle h tints marks r shape q rr heads up down
        enter {rr} a =
            let b : rr ≡ at (taken (ground_at h r q) []).down (h.plan.col q) = a ∙ ap (at down) item-is ∙ ap (λ (v : List ℕ). at v (h.plan.col q)) m.holds.down-are in
            record {
              item = outer-item;
              on = rw b (down-stand column (h.plan.col q) stand).on;
              col = rw b (down-stand column (h.plan.col q) stand).col;
              alive = m.alive;
              holds = subst (λ (xs : List ℕ). Holds (taken (ground_at h r q) xs) heads up down) (sym (nothing rr b))
                  (record { heads-are = m.holds.heads-are; up-are = m.holds.up-are; down-are = m.holds.down-are });
            }
          where
            rival : ℕ → Bool
            rival = rival_at (ground_at h r q) (h.plan.col q) (h.plan.tint q)

            inside : (k : ℕ) → rival_at (ground_at h r q) (h.plan.col q) (h.plan.tint q) k ≡ true → in_column (ground_at h r q) (h.plan.col q) k ≡ true
            inside k = rival-inside (ground_at h r q) (h.plan.col q) k (h.plan.tint q)

            nothing : (rr : ℕ) → rr ≡ at (taken (ground_at h r q) []).down (h.plan.col q) → rivals_to h r q (reach h.plan rr) ≡ []
            nothing rr b =
                rw b (down-gathered column (h.plan.col q) stand rival inside
                ∙ gathered-none g-tidy (h.plan.col q) rival inside (h.plan.col q + 1) (omega (arith, header-before h.plan t.planned (h.plan.col q) header)))
