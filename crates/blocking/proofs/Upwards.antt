-- Undoing the walk down one column, step by step. Assumes nothing.
use Prim.Native.Nat.{ℕ, ◌+◌, ◌-◌, ◌<◌, ◌≤◌}
use native.Mathlib.Omega.{arith}
use mathlib.Core.Path.{◌≡◌, refl, ◌∙◌, ap, sym, subst}
use mathlib.Core.Bool.{Bool, true, false, not, false≢true}
use mathlib.Core.List.{List, ◌++◌}
use borrow.Author.Tests.{not-true, not-false}
use lib.ListN.{length}
use lib.IntN.{ℤ}
use Rattle.rules.specs.Blocked.{agree}
use Rattle.links.specs.Column.{at}
use Rattle.links.specs.Plan.{start, EntryOf, Header}
use Rattle.links.specs.Ground.{Ground, Tidy, taken, Fresh, Holds, after}
use Rattle.links.specs.Row.{walked, others}
use Rattle.links.specs.Shown.{Tinted}
use Rattle.links.specs.Taking.{gather_to, in_column, rival_at}
use Rattle.links.proofs.Stores.{not_so}
use Rattle.links.proofs.Plans.{header-before, entry-till}
use Rattle.links.proofs.Taken.{fresh-front, after-tidy, after_more, fresh-after, holds-taken}
use Rattle.links.proofs.Rows.{back-begins, back-begun, after-others}
use Rattle.links.proofs.Gathering.{gather-one, gather_none}
use Rattle.links.proofs.Descending.{Stand, on-entry}
use Rattle.blocking.specs.Undo.{Half, rivals_up_to, Below}
use Rattle.links.proofs.Passing.{rival-inside, KeptColumn, chosen-kept, gathered-none, up-stand, up-falls, up-gathered, last-gathered}
use Rattle.blocking.proofs.RivalTest.{rival→, rival←}

-- A walk up a column has put rr's option back, and not gone on yet: the rivals above rr are out still.
pub record Above (g : Ground) (tints : List ℕ) (rr x s : ℕ) (heads : List ℤ) (up down : List ℕ) : Type 0 where
  pub tidy : Tidy g
  pub tinted : Tinted g.plan tints
  pub starts : s ≡ start g.plan
  pub on : g.on rr ≡ true
  pub entry : EntryOf g.plan rr
  pub fresh : Fresh g (gather_to (rival_at g (g.plan.col rr) x) g rr)
  pub holds : Holds (taken g (gather_to (rival_at g (g.plan.col rr) x) g rr)) heads up down

-- At an entry rr of a column of g, of which the rivals above rr are out: after rr itself is put back, the step up.
module _ {g : Ground} {tints : List ℕ} {rr x s : ℕ} {heads : List ℤ} {up down : List ℕ} (m : Below g tints rr x s heads up down) where
  abbrev rival_here : ℕ → Bool
  rival_here = rival_at g (g.plan.col rr) x

  pub below-done : rr < s → Holds g heads up down
  below-done h =
      subst (λ (xs : List ℕ). Holds (taken g xs) heads up down)
      (gathered-none m.tidy (g.plan.col rr) rival_here (λ k. rival-inside g (g.plan.col rr) k x) (rr + 1) (omega (arith, m.starts))) m.holds

  module _ (h : s ≤ rr) where
    pub below-entry : EntryOf g.plan rr
    below-entry = on-entry g m.tidy rr m.on (omega (arith, m.starts))

    pub below-tint : rr < length tints
    below-tint = omega (arith, entry-till g.plan m.tidy.planned rr below-entry, m.tinted.room)

    -- rr clashes: the walk round it is undone
    module _ (b : not (agree x (at tints rr)) ≡ true) where
      chosen : rival_here rr ≡ true
      chosen = rival← g (g.plan.col rr) x rr m.on refl (omega (arith, m.starts)) (ap (agree x) (sym (m.tinted.tint rr below-entry)) ∙ not-true (agree x (at tints rr)) b)

      split : rivals_up_to g x rr ≡ gather_to rival_here g rr ++ others g rr
      split = gather-one rival_here g rr chosen

      fresh-both : Fresh g (gather_to rival_here g rr ++ others g rr)
      fresh-both = subst (λ (xs : List ℕ). Fresh g xs) split m.fresh

      fresh-before : Fresh g (gather_to rival_here g rr)
      fresh-before = fresh-front g (gather_to rival_here g rr) (others g rr) fresh-both

      abbrev old : Ground
      old = after g (gather_to rival_here g rr)

      all_others : others g rr ≡ walked old rr (rr - 1 + 1)
      unfolding others
      all_others = sym (after-others g (gather_to rival_here g rr) m.tidy fresh-before rr below-entry) ∙ ap (walked old rr) (sym (back-begun g m.tidy rr below-entry))

      pub below_half : Half (after g (gather_to (rival_at g (g.plan.col rr) x) g rr)) rr (rr - 1) heads up down
      below_half =
          let b = back-begins g m.tidy rr below-entry in
          record {
            tidy = after-tidy g (gather_to rival_here g rr) m.tidy fresh-before;
            entry = below-entry;
            from = b.from;
            till = b.till;
            fresh = subst (λ (xs : List ℕ). Fresh old xs) all_others (fresh-after g (gather_to rival_here g rr) (others g rr) fresh-both);
            holds = subst (λ (xs : List ℕ). Holds (taken old xs) heads up down) all_others
                (subst (λ (G : Ground). Holds G heads up down) (ap (taken g) split ∙ sym (after_more g (gather_to rival_here g rr) (others g rr))) m.holds);
          }

      -- rr's option is whole again
      pub clash-above : {heads' : List ℤ} {up' down' : List ℕ} → Holds (after g (gather_to (rival_at g (g.plan.col rr) x) g rr)) heads' up' down'
          → Above g tints rr x s heads' up' down'
      clash-above l = record {
        tidy = m.tidy;
        tinted = m.tinted;
        starts = m.starts;
        on = m.on;
        entry = below-entry;
        fresh = fresh-before;
        holds = holds-taken g (gather_to rival_here g rr) l;
      }

    -- rr agrees: nothing was taken there
    module _ (b : not (agree x (at tints rr)) ≡ false) where
      agrees : rival_here rr ≡ false
      agrees = not_so (rival_here rr) (λ e. false≢true (sym (rival→ g (g.plan.col rr) x rr e).3 ∙ ap (agree x) (sym (m.tinted.tint rr below-entry)) ∙ not-false (agree x (at tints rr)) b))

      pub agree-above : Above g tints rr x s heads up down
      agree-above = record {
        tidy = m.tidy;
        tinted = m.tinted;
        starts = m.starts;
        on = m.on;
        entry = below-entry;
        fresh = subst (λ (xs : List ℕ). Fresh g xs) (gather_none rival_here g rr agrees) m.fresh;
        holds = subst (λ (xs : List ℕ). Holds (taken g xs) heads up down) (gather_none rival_here g rr agrees) m.holds;
      }

-- The step up from there.
module _ {g : Ground} {tints : List ℕ} {rr x s : ℕ} {heads : List ℤ} {up down : List ℕ} (m : Above g tints rr x s heads up down) where
  abbrev above : List ℕ
  above = gather_to (rival_at g (g.plan.col rr) x) g rr

  inside : (k : ℕ) → rival_at g (g.plan.col rr) x k ≡ true → in_column g (g.plan.col rr) k ≡ true
  inside k = rival-inside g (g.plan.col rr) k x

  column : KeptColumn g (g.plan.col rr) above
  column = chosen-kept m.tidy (g.plan.col rr) (rival_at g (g.plan.col rr) x) inside (m.tidy.planned.entry rr m.entry) rr m.fresh

  stand : Stand g (g.plan.col rr) rr
  stand = record { on = m.on; col = refl }

  pub link-in : rr < length up
  link-in = rw m.holds.up-are (omega (arith, entry-till g.plan m.tidy.planned rr m.entry, column.now.ring.ups))

  pub link-falls : {u : ℕ} → u ≡ at up rr → u < rr
  link-falls a = rw (a, m.holds.up-are) (up-falls column rr stand m.entry)

  same-list : above ≡ rivals_up_to g x (at up rr)
  same-list =
      up-gathered column rr stand (rival_at g (g.plan.col rr) x) inside m.entry
      ∙ ap (λ (u : List ℕ). gather_to (rival_at g (g.plan.col rr) x) g (at u rr + 1)) (sym m.holds.up-are)
      ∙ ap (λ (i : ℕ). gather_to (rival_at g i x) g (at up rr + 1)) (sym (ap (λ (u : List ℕ). g.plan.col (at u rr)) m.holds.up-are ∙ (up-stand column rr stand).col))

  stepped : Below g tints (at up rr) x s heads up down
  stepped = record {
    tidy = m.tidy;
    tinted = m.tinted;
    starts = m.starts;
    on = rw m.holds.up-are (up-stand column rr stand).on;
    fresh = subst (λ (xs : List ℕ). Fresh g xs) same-list m.fresh;
    holds = subst (λ (xs : List ℕ). Holds (taken g xs) heads up down) same-list m.holds;
  }

  pub step-up : {u : ℕ} → u ≡ at up rr → Below g tints u x s heads up down
  step-up a = subst (λ (j : ℕ). Below g tints j x s heads up down) (sym a) stepped

-- From the header i the link up leads to the lowest node of a column of which all rivals are out.
module _ (g : Ground) (tints : List ℕ) (i x s : ℕ) (t : Tidy g) (head_of : Header g.plan i) (o : g.on i ≡ true) (f : Fresh g (gather_to (rival_at g i x) g g.plan.N))
    (heads : List ℤ) (up down : List ℕ)
    (l : Holds (taken g (gather_to (rival_at g i x) g g.plan.N)) heads up down) where
  abbrev all : List ℕ
  all = gather_to (rival_at g i x) g g.plan.N

  all-inside : (k : ℕ) → rival_at g i x k ≡ true → in_column g i k ≡ true
  all-inside k = rival-inside g i k x

  all-kept : KeptColumn g i all
  all-kept = chosen-kept t i (rival_at g i x) all-inside head_of g.plan.N f

  col-is : g.plan.col i ≡ i
  col-is = t.planned.header i head_of

  lowest : Stand g i (at up i)
  lowest = rw l.up-are (up-stand all-kept i (record { on = o; col = col-is }))

  -- it is the last: below it is the header again
  leads-back : at (taken g all).down (at up i) ≡ i
  leads-back = rw l.up-are (all-kept.now.ring.tied i (all-kept.still i col-is ∙ o)).above_down

  whole-column : all ≡ rivals_up_to g x (at up i)
  whole-column = last-gathered all-kept (at up i) lowest (rival_at g i x) all-inside leads-back ∙ ap (λ (j : ℕ). gather_to (rival_at g j x) g (at up i + 1)) (sym lowest.col)

  pub header-in : i < length up
  header-in = rw l.up-are (omega (arith, header-before g.plan t.planned i head_of, t.planned.room, all-kept.now.ring.ups))

  pub from-header : Tinted g.plan tints → s ≡ start g.plan → Below g tints (at up i) x s heads up down
  from-header w q = record {
    tidy = t;
    tinted = w;
    starts = q;
    on = lowest.on;
    fresh = subst (λ (xs : List ℕ). Fresh g xs) whole-column f;
    holds = subst (λ (xs : List ℕ). Holds (taken g xs) heads up down) whole-column l;
  }
