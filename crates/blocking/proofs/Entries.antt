-- The walk forwards round one rival. Assumes nothing.
use Prim.Native.Nat.{ℕ, ◌+◌, ◌-◌, ◌<◌}
use native.Mathlib.Omega.{arith}
use mathlib.Core.Path.{◌≡◌, ◌∙◌, ap, sym, subst}
use mathlib.Core.Logic.{⊎_elim, ◌≢◌}
use mathlib.Core.Bool.{true, false, false≢true}
use mathlib.Core.List.{List, [], ◌∷◌, ◌++◌}
use borrow.Author.Tests.{eq-eqb, ne_eqb, le-leb}
use lib.ListN.{length, set}
use lib.IntN.{ℤ, pos}
use Rattle.std.specs.Prelude.{None, Some}
use Rattle.rules.specs.Bounds.{node_bound}
use Rattle.links.specs.declared.shape.Shape.{Shape}
use Rattle.links.specs.Head.{item_of, head}
use Rattle.links.specs.Column.{at, cut_up, cut_down}
use Rattle.links.specs.Plan.{hi, EntryOf}
use Rattle.links.specs.Ground.{Ground, Tidy, Within, taken, Fresh, Holds, after}
use Rattle.links.specs.Row.{walked, others}
use Rattle.links.specs.Way.{way}
use Rattle.links.specs.Nodes.{column_in}
use Rattle.links.proofs.Endings.{item_none, item_some}
use Rattle.links.specs.Taking.{rival_at}
use Rattle.links.proofs.Stores.{read_set}
use Rattle.links.proofs.Rows.{At, after-others}
use Rattle.links.proofs.Gathering.{gather-one}
use Rattle.blocking.specs.Stops.{stops_at}
use Rattle.blocking.specs.Forward.{Alive, ground_at, rivals_to, ground_to, Inner, Stopped}
use Rattle.links.proofs.Taken.{fresh-within, after-tidy, after_more, fresh-after}
use Rattle.links.proofs.Undoing.{fresh-one-more, take_out, fewer-asks, unlink-asks}
use Rattle.links.proofs.Onward as Onward
use Rattle.links.proofs.Onward.{Underway, passing-within}
use Rattle.blocking.proofs.RivalTest.{rival→}
use Rattle.blocking.proofs.Rivals.{Passed}
use Rattle.blocking.proofs.Stages.{ground-tidy, rivals-fresh, rival-row}

-- where the walk does not stop, no column is emptied that must not be
pub alive-less : (h : Ground) (marks : List ℕ) (r np : ℕ) (heads : List ℤ) (i : ℕ) → Alive h marks r np heads → i < length heads → stops_at heads marks i r np ≡ false
    → Alive h marks r np (set heads i (pos (item_of (head heads i) - 1)))
alive-less h marks r np heads i a k n j hd le not_own some = ⊎_elim own other (read_set heads i (pos (item_of (head heads i) - 1)) (pos 0) j k)
  where
    own : (j ≡ i) × (head (set heads i (pos (item_of (head heads i) - 1))) j ≡ pos (item_of (head heads i) - 1)) → 0 < item_of (head (set heads i (pos (item_of (head heads i) - 1))) j)
    own w = rw w.1 (let c : item_of (head heads i) - 1 ≢ 0 =
        λ z. false≢true (sym n ∙ rw (
          eq-eqb (item_of (head heads i) - 1) 0 z,
          le-leb i np (omega (arith, le, w.0)),
          ne_eqb (at marks i) r
              (λ q. not_own (ap (at marks) w.0 ∙ q)),
        )) in omega arith)

    other : (j ≢ i) × (head (set heads i (pos (item_of (head heads i) - 1))) j ≡ head heads j) → 0 < item_of (head (set heads i (pos (item_of (head heads i) - 1))) j)
    other w = rw w.1 (a j hd le not_own some)

module _ {h : Ground} {tints marks : List ℕ} {r : ℕ} {shape : Shape} {heads : List ℤ} {up down : List ℕ} {q rr qq : ℕ} (m : Inner h tints marks r shape q rr qq heads up down) where
  g-tidy : Tidy (ground_at h r q)
  g-tidy = ground-tidy m.item

  before-fresh : Fresh (ground_at h r q) (rivals_to h r q rr)
  before-fresh = rivals-fresh m.item rr

  -- the ground when the walk came to rr
  pub to-tidy : Tidy (ground_to h r q rr)
  to-tidy = after-tidy (ground_at h r q) (rivals_to h r q rr) g-tidy before-fresh

  pub row : EntryOf h.plan rr
  row = rival-row m.item rr m.rival

  one_more : rivals_to h r q (rr + 1) ≡ rivals_to h r q rr ++ others (ground_at h r q) rr
  one_more = gather-one (rival_at (ground_at h r q) (h.plan.col q) (h.plan.tint q)) (ground_at h r q) rr m.rival

  same-others : others (ground_to h r q rr) rr ≡ others (ground_at h r q) rr
  same-others = after-others (ground_at h r q) (rivals_to h r q rr) g-tidy before-fresh rr row

  pub others-fresh : Fresh (ground_to h r q rr) (others (ground_to h r q rr) rr)
  others-fresh =
      subst (λ (xs : List ℕ). Fresh (ground_to h r q rr) xs) (sym same-others)
      (fresh-after (ground_at h r q) (rivals_to h r q rr) (others (ground_at h r q) rr) (subst (λ (xs : List ℕ). Fresh (ground_at h r q) xs) one_more (rivals-fresh m.item (rr + 1))))

  stands : Underway (ground_to h r q rr) (walked (ground_to h r q rr) rr qq) rr qq heads up down
  stands = record { tidy = to-tidy; fresh = m.fresh; entry = row; place = record { from = m.from; till = m.till }; holds = m.holds }

  pub inner-in : (qq < length heads) × (qq < length up)
  inner-in = Onward.inside stands

  -- the walk came round: rr's others are out
  pub inner-done : qq ≡ rr → Passed h tints marks r shape q rr heads up down
  unfolding others
  inner-done e =
      let rival = rival→ (ground_at h r q) (h.plan.col q) (h.plan.tint q) rr m.rival in
      record {
        item = m.item;
        behind = omega (arith, rival.2, m.item.test.starts);
        on = rival.0;
        col = rival.1;
        alive = m.alive;
        holds = subst (λ (G : Ground). Holds G heads up down)
            (ap (λ (k : ℕ). taken (ground_to h r q rr) (walked (ground_to h r q rr) rr k)) e ∙ ap (taken (ground_to h r q rr)) same-others
            ∙ after_more (ground_at h r q) (rivals_to h r q rr) (others (ground_at h r q) rr) ∙ ap (taken (ground_at h r q)) (sym one_more))
            m.holds;
      }

  module _ (d : qq ≢ rr) where
    -- over a head without an item
    module _ (none : None ≡ column_in (head heads qq)) where
      no_item : item_of (head heads qq) ≡ 0
      no_item = item_none (head heads qq) none

      on-at : At (ground_to h r q rr) rr (at up qq)
      on-at = Onward.over-at stands d no_item

      same-walked : walked (ground_to h r q rr) rr qq ≡ walked (ground_to h r q rr) rr (at up qq)
      same-walked = sym (Onward.over-walked stands d no_item)

      pub inner-over : Inner h tints marks r shape q rr (at up qq) heads up down
      inner-over = record {
        item = m.item;
        rival = m.rival;
        from = on-at.from;
        till = on-at.till;
        fresh = subst (λ (xs : List ℕ). Fresh (ground_to h r q rr) xs) same-walked m.fresh;
        alive = m.alive;
        holds = subst (λ (xs : List ℕ). Holds (taken (ground_to h r q rr) xs) heads up down) same-walked m.holds;
      }

      pub inner-over-way : (n : ℕ) → length heads ≡ n → way n rr (at up qq) < way n rr qq
      inner-over-way = Onward.over-way stands d no_item

    pub inner-way : (n : ℕ) → length heads ≡ n → way n rr (qq + 1) < way n rr qq
    inner-way = Onward.full-way stands d

    -- at an entry, which is in its column
    module _ (z : item_of (head heads qq) ≢ 0) where
      pub inner-entry : EntryOf h.plan qq
      inner-entry = Onward.full-entry stands d z

      inside : qq < hi h.plan rr
      inside = Onward.full-inside stands d z

      pub inner-number : h.plan.number qq ≡ h.plan.number rr
      inner-number = to-tidy.planned.numbered (h.plan.number rr) qq row.option m.from inside

      pub inner-col : item_of (head heads qq) ≡ h.plan.col qq
      inner-col = Onward.full-col stands d z

      pub inner-within : Within (after (ground_to h r q rr) (walked (ground_to h r q rr) rr qq)) qq
      inner-within = passing-within stands d z (λ y i. fresh-within (ground_to h r q rr) (others (ground_to h r q rr) rr) others-fresh i)

      walked_more : walked (ground_to h r q rr) rr (qq + 1) ≡ walked (ground_to h r q rr) rr qq ++ (qq ∷ [])
      walked_more = Onward.full-one stands d z

    -- as the entry of column i
    module _ {i : ℕ} (some : Some i ≡ column_in (head heads qq)) where
      an_item : item_of (head heads qq) ≢ 0
      an_item e = omega (arith, e, (item_some (head heads qq) i some).1)

      item-is : i ≡ h.plan.col qq
      item-is = sym (item_some (head heads qq) i some).0 ∙ inner-col an_item

      pub inner-fewer : (i < length heads) × (item_of (head heads i) < node_bound) × (0 < item_of (head heads i))
      inner-fewer = rw item-is (fewer-asks (ground_to h r q rr) (walked (ground_to h r q rr) rr qq) qq to-tidy m.fresh (inner-within an_item) m.holds)

      pub inner-mark : i < length marks
      inner-mark = rw item-is (omega (arith, (to-tidy.planned.entry qq (inner-entry an_item)).below, m.item.test.marked.room))

      pub inner-unlink : (qq < length up) × (qq < length down) × (at up qq < length down) × (at down qq < length up)
      inner-unlink = unlink-asks (ground_to h r q rr) (walked (ground_to h r q rr) rr qq) qq to-tidy m.fresh (inner-within an_item) m.holds

      -- it is taken out
      pub inner-take : stops_at heads marks i r shape.np ≡ false
          → Inner h tints marks r shape q rr (qq + 1) (set heads i (pos (item_of (head heads i) - 1))) (cut_up up down qq) (cut_down up down qq)
      inner-take n = record {
        item = m.item;
        rival = m.rival;
        from = omega (arith, m.from);
        till = omega (arith, inside an_item);
        fresh = subst (λ (xs : List ℕ). Fresh (ground_to h r q rr) xs) (sym (walked_more an_item))
            (fresh-one-more (ground_to h r q rr) (walked (ground_to h r q rr) rr qq) qq to-tidy m.fresh (inner-within an_item));
        alive = alive-less h marks r shape.np heads i m.alive inner-fewer.0 n;
        holds = rw item-is
            (subst (λ (xs : List ℕ).
            Holds (taken (ground_to h r q rr) xs) (set heads (h.plan.col qq) (pos (item_of (head heads (h.plan.col qq)) - 1))) (cut_up up down qq) (cut_down up down qq))
            (sym (walked_more an_item))
            (take_out (ground_to h r q rr) (walked (ground_to h r q rr) rr qq) qq to-tidy m.fresh (inner-within an_item) m.holds));
      }

      -- or the walk stops before it
      pub inner-stops : stops_at heads marks i r shape.np ≡ true → Stopped h tints marks r shape q rr qq heads up down
      inner-stops n = record { inner = m; other = d; full = an_item; stops = rw (item_some (head heads qq) i some).0 n }
