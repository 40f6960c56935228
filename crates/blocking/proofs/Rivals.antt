-- The walk forwards down the column of one item of the tested option. Assumes nothing.
use Prim.Native.Nat.{ℕ, ◌+◌, ◌<◌, ◌≤◌}
use native.Mathlib.Omega.{arith}
use mathlib.Core.Path.{◌≡◌, ◌∙◌, ap, sym, subst}
use mathlib.Core.Logic.{◌≢◌}
use mathlib.Core.Bool.{true, false, not, false≢true}
use mathlib.Core.List.{List, [], ◌∷◌, ◌++◌}
use borrow.Author.Tests.{not-true, not-false}
use lib.ListN.{length}
use lib.IntN.{ℤ}
use Rattle.rules.specs.Blocked.{agree}
use Rattle.links.specs.declared.shape.Shape.{Shape}
use Rattle.links.specs.Head.{item_of, head}
use Rattle.links.specs.Column.{at}
use Rattle.links.specs.Plan.{EntryOf, Header, start}
use Rattle.links.specs.Ground.{Ground, Tidy, taken, Fresh, Holds, after}
use Rattle.links.specs.Row.{walked}
use Rattle.links.specs.Taking.{in_column, rival_at, rivals, testing}
use Rattle.links.proofs.Stores.{not_so}
use Rattle.links.proofs.Plans.{entry-till}
use Rattle.links.proofs.Rows.{walk_begins, walked_none, full-walked}
use Rattle.links.proofs.Gathering.{gather_none}
use Rattle.links.proofs.Descending.{Stand, on-entry, reach, reach-past, reach-at, left, step_less}
use Rattle.blocking.specs.Forward.{Stage, Alive, out_at, ground_at, Outer, AtItem, rivals_to, ground_to, Middle, Inner}
use Rattle.links.proofs.Taken.{after-tidy, after_more}
use Rattle.links.proofs.Passing.{rival-inside, KeptColumn, chosen-kept, down-stand, down-gathered}
use Rattle.blocking.proofs.RivalTest.{rival→, rival←}
use Rattle.blocking.proofs.Testing.{testing-more}
use Rattle.blocking.proofs.Stages.{stage-more, item-entry, ground-tidy, rivals-fresh}

-- An item that was tested is behind the walk.
module _ {h : Ground} {tints marks : List ℕ} {r : ℕ} {shape : Shape} {q : ℕ} (m : AtItem h tints marks r shape q) where
  t : Tidy h
  t = m.test.tested.tidy

  item-some : item_of (head h.heads q) ≢ 0
  item-some z = omega (arith, sym z ∙ ap item_of m.full, (t.planned.entry q (item-entry m)).above)

  walked_more : walked h r (q + 1) ≡ walked h r q ++ (q ∷ [])
  walked_more = full-walked h t r m.test.tested.entry q (record { from = m.from; till = omega (arith, m.till) }) m.other item-some

  out-more : out_at h r (q + 1) ≡ out_at h r q ++ rivals (ground_at h r q) q
  out-more = ap (testing h) walked_more ∙ testing-more h (walked h r q) q

  pub next-item : (heads : List ℤ) (up down : List ℕ) → Alive h marks r shape.np heads → Holds (taken (ground_at h r q) (rivals (ground_at h r q) q)) heads up down
      → Outer h tints marks r shape (q + 1) heads up down
  next-item heads up down a l = record {
    test = m.test;
    from = omega (arith, m.from);
    till = omega (arith, m.till);
    stage = subst (λ (qs : List ℕ). Stage h qs (out_at h r (q + 1))) (sym walked_more) (subst (λ (xs : List ℕ). Stage h (walked h r q ++ (q ∷ [])) xs) (sym out-more) (stage-more m));
    alive = a;
    holds = subst (λ (G : Ground). Holds G heads up down) (after_more h (out_at h r q) (rivals (ground_at h r q) q) ∙ ap (taken h) (sym out-more)) l;
  }

-- Node rr of q's column was dealt with, rival or not, and the walk has not gone on yet.
pub record Passed (h : Ground) (tints marks : List ℕ) (r : ℕ) (shape : Shape) (q rr : ℕ) (heads : List ℤ) (up down : List ℕ) : Type 0 where
  pub item : AtItem h tints marks r shape q
  pub behind : shape.start ≤ rr
  pub on : (ground_at h r q).on rr ≡ true
  pub col : h.plan.col rr ≡ h.plan.col q
  pub alive : Alive h marks r shape.np heads
  pub holds : Holds (taken (ground_at h r q) (rivals_to h r q (rr + 1))) heads up down

module _ {h : Ground} {tints marks : List ℕ} {r : ℕ} {shape : Shape} {heads : List ℤ} {up down : List ℕ} {q rr : ℕ} (m : Middle h tints marks r shape q rr heads up down) where
  -- back at the header, the whole column was walked
  pub leave : rr < shape.start → Outer h tints marks r shape (q + 1) heads up down
  leave l =
      next-item m.item heads up down m.alive
      (subst (λ (k : ℕ). Holds (taken (ground_at h r q) (rivals_to h r q k)) heads up down) (reach-past h.plan rr (omega (arith, m.item.test.starts))) m.holds)

  module _ (b : shape.start ≤ rr) where
    g-tidy : Tidy (ground_at h r q)
    g-tidy = ground-tidy m.item

    behind : start h.plan ≤ rr
    behind = omega (arith, m.item.test.starts)

    pub middle-entry : EntryOf h.plan rr
    middle-entry = on-entry (ground_at h r q) g-tidy rr m.on behind

    pub middle-tint : rr < length tints
    middle-tint = omega (arith, entry-till h.plan m.item.test.tested.tidy.planned rr middle-entry, m.item.test.tinted.room)

    pub middle-fits : rr + 1 < 1048577
    middle-fits = omega (arith, entry-till h.plan m.item.test.tested.tidy.planned rr middle-entry, m.item.test.tested.tidy.planned.small)

    held-here : Holds (taken (ground_at h r q) (rivals_to h r q rr)) heads up down
    held-here = subst (λ (k : ℕ). Holds (taken (ground_at h r q) (rivals_to h r q k)) heads up down) (reach-at h.plan rr behind) m.holds

    -- the colours as the lists have them
    same-colours : agree (at tints q) (at tints rr) ≡ agree (h.plan.tint q) (h.plan.tint rr)
    same-colours = rw (m.item.test.tinted.tint q (item-entry m.item), m.item.test.tinted.tint rr middle-entry)

    -- a rival: its others are walked
    pub round : not (agree (at tints q) (at tints rr)) ≡ true → Inner h tints marks r shape q rr (rr + 1) heads up down
    round c =
        let w = walk_begins (ground_to h r q rr) to-tidy rr middle-entry in
        let n = walked_none (ground_to h r q rr) to-tidy rr middle-entry in
        record {
          item = m.item;
          rival = rival← (ground_at h r q) (h.plan.col q) (h.plan.tint q) rr m.on m.col behind (sym same-colours ∙ not-true (agree (at tints q) (at tints rr)) c);
          from = w.from;
          till = w.till;
          fresh = subst (λ (xs : List ℕ). Fresh (ground_to h r q rr) xs) (sym n) tt;
          alive = m.alive;
          holds = subst (λ (xs : List ℕ). Holds (taken (ground_to h r q rr) xs) heads up down) (sym n)
              (record { heads-are = held-here.heads-are; up-are = held-here.up-are; down-are = held-here.down-are });
        }
      where
        to-tidy : Tidy (ground_to h r q rr)
        to-tidy = after-tidy (ground_at h r q) (rivals_to h r q rr) g-tidy (rivals-fresh m.item rr)

    -- no rival: nothing is taken here
    pub spare : not (agree (at tints q) (at tints rr)) ≡ false → Passed h tints marks r shape q rr heads up down
    spare c = record {
      item = m.item;
      behind = b;
      on = m.on;
      col = m.col;
      alive = m.alive;
      holds = subst (λ (xs : List ℕ). Holds (taken (ground_at h r q) xs) heads up down)
          (sym (gather_none (rival_at (ground_at h r q) (h.plan.col q) (h.plan.tint q)) (ground_at h r q) rr
          (not_so (rival_at (ground_at h r q) (h.plan.col q) (h.plan.tint q) rr)
          (λ o. false≢true (sym (rival→ (ground_at h r q) (h.plan.col q) (h.plan.tint q) rr o).3 ∙ sym same-colours ∙ not-false (agree (at tints q) (at tints rr)) c)))))
          held-here;
    }

-- The step down from there.
module _ {h : Ground} {tints marks : List ℕ} {r : ℕ} {shape : Shape} {q rr : ℕ} {heads : List ℤ} {up down : List ℕ} (m : Passed h tints marks r shape q rr heads up down) where
  abbrev gone : List ℕ
  gone = rivals_to h r q (rr + 1)

  passed-start : start h.plan ≤ rr
  passed-start = omega (arith, m.behind, m.item.test.starts)

  q-tidy : Tidy (ground_at h r q)
  q-tidy = ground-tidy m.item

  hd : Header h.plan (h.plan.col q)
  hd = m.item.test.tested.tidy.planned.entry q (item-entry m.item)

  inside : (k : ℕ) → rival_at (ground_at h r q) (h.plan.col q) (h.plan.tint q) k ≡ true → in_column (ground_at h r q) (h.plan.col q) k ≡ true
  inside k = rival-inside (ground_at h r q) (h.plan.col q) k (h.plan.tint q)

  column : KeptColumn (ground_at h r q) (h.plan.col q) gone
  column = chosen-kept q-tidy (h.plan.col q) (rival_at (ground_at h r q) (h.plan.col q) (h.plan.tint q)) inside hd (rr + 1) (rivals-fresh m.item (rr + 1))

  stand : Stand (ground_at h r q) (h.plan.col q) rr
  stand = record { on = m.on; col = m.col }

  pub down-in : rr < length down
  down-in = rw m.holds.down-are (omega (arith, entry-till h.plan m.item.test.tested.tidy.planned rr (on-entry (ground_at h r q) q-tidy rr m.on passed-start), column.now.ring.downs))

  gathered : rivals_to h r q (reach h.plan (at down rr)) ≡ gone
  gathered = rw m.holds.down-are (down-gathered column rr stand (rival_at (ground_at h r q) (h.plan.col q) (h.plan.tint q)) inside)

  pub step_down : Middle h tints marks r shape q (at down rr) heads up down
  step_down = record {
    item = m.item;
    on = rw m.holds.down-are (down-stand column rr stand).on;
    col = rw m.holds.down-are (down-stand column rr stand).col;
    alive = m.alive;
    holds = subst (λ (xs : List ℕ). Holds (taken (ground_at h r q) xs) heads up down) (sym gathered) m.holds;
  }

  room : h.plan.N ≤ length heads
  room = rw m.holds.heads-are column.now.heads-in

  pub step_left : (n : ℕ) → length heads ≡ n → left n shape.start (at down rr) < left n shape.start rr
  step_left n c =
      rw (m.holds.down-are, m.item.test.starts)
      (step_less (after (ground_at h r q) gone) column.now (h.plan.col q) hd rr (record { on = column.still rr m.col ∙ m.on; col = m.col }) n (omega (arith, c, room)) passed-start)
