-- What hiding an item finds is the p that the rules choose, and what removing it finds is the first primary item that the rules say is emptied.
-- Assumes nothing.
use Prim.Native.Nat.{ℕ, ◌+◌}
use native.Mathlib.Omega.{arith}
use mathlib.Core.Path.{◌≡◌, refl, ◌∙◌, ap, sym, subst}
use mathlib.Core.Logic.{◌≢◌}
use mathlib.Core.Bool.{Bool, true, false, ◌&&◌, not}
use mathlib.Core.List.{List, Memᴰ as In}
use lib.Dec.{ltb, leb, eqb, ltb→lt, lt→ltb, leb→le, le→leb}
use Rattle.rules.specs.Redundant.{chosen}
use Rattle.theorems.proofs.Words.Tests.{T-same}
use borrow.Author.Tests.{ne_eqb}
use Rattle.theorems.proofs.Steps.Redundancy.{emptied_with}
use Rattle.theorems.proofs.Laws.Held.{held}
use Rattle.theorems.proofs.Laws.Counters.{counted_first, counted_last, hiding-counted, removing-counted}
use Rattle.links.specs.Plan.{EntryOf, Header, Planned}
use Rattle.links.specs.Ground.{Ground}
use Rattle.links.specs.Shown.{Ready}
use Rattle.links.specs.Taking.{length_of, last_out, first_out, hidden, hides, leaving, leaves, off_column}
use Rattle.links.proofs.Rows.{In-others}
use Rattle.links.proofs.Gathering.{In-gather, gather-column}
use Rattle.showing.specs.Showing.{state_of, column_or}
use Rattle.showing.proofs.Shows.{item_at, item-col, col-some, shown-once}
use Rattle.showing.proofs.InOrder.{held-length}
use Rattle.showing.proofs.Gathered.{hidden-picks, leaving-picks, hides-items, leaves-items}
use Rattle.showing.proofs.Lengths.{Counted, last-counted, first_counted}

module _ (g : Ground) (R : Ready g) where
  W : Planned g.plan
  W = R.tidy.planned

  -- The length of an entry's column is the number of live options that hold its item.
  pub entry-held : (y : ℕ) → EntryOf g.plan y → length_of g (g.plan.col y) ≡ held (item_at g.plan y) (state_of g)
  entry-held y e =
      let i : item_at g.plan y + 1 ≡ g.plan.col y = sym (item-col g.plan W e (item_at g.plan y) refl) in
      let h : Header g.plan (item_at g.plan y + 1) = subst (λ (j : ℕ). Header g.plan j) (sym i) (W.entry y e) in
      ap (length_of g) (sym i) ∙ held-length g R.tidy (item_at g.plan y) h (R.whole.headers (item_at g.plan y + 1) h)

  -- a primary item's column is at most np
  pub primary-column : (np y : ℕ) → EntryOf g.plan y → ltb (item_at g.plan y) np ≡ leb (g.plan.col y) np
  primary-column np y e =
      T-same (ltb (item_at g.plan y) np) (leb (g.plan.col y) np)
      (λ t. le→leb (g.plan.col y) np (omega (arith, ltb→lt (item_at g.plan y) np t)))
      (λ t. lt→ltb (item_at g.plan y) np (omega (arith, leb→le (g.plan.col y) np t, col-some g.plan W e)))

  module _ (np c : ℕ) where
    -- the primary items other than c
    primary-other : (y : ℕ) → EntryOf g.plan y → g.plan.col y ≢ c + 1 → (ltb (item_at g.plan y) np && not (eqb (item_at g.plan y) c)) ≡ leb (g.plan.col y) np
    primary-other y e n =
        ap (λ (b : Bool). ltb (item_at g.plan y) np && not b) (ne_eqb (item_at g.plan y) c (λ q. n (item-col g.plan W e c q)))
        ∙ and-true (ltb (item_at g.plan y) np)
        ∙ primary-column np y e
      where
        and-true : (b : Bool) → (b && true) ≡ b
        and-true true = refl
        and-true false = refl

    -- the counters are the lengths at every node that is taken out
    hides-counted : (y : ℕ) → In y (hides g (c + 1)) → Counted np (λ q. ltb q np && not (eqb q c)) g (λ q. held q (state_of g)) y
    unfolding hides
    hides-counted y m =
        let w = In-gather (hidden g (c + 1)) g g.plan.N m in
        let u = hidden-picks g R c w.0 w.2 in
        let e = (In-others g R.tidy w.0 u.0 w.3).0 in
        let n = gather-column (hidden g (c + 1)) g R.tidy (c + 1) (λ k h. let v = hidden-picks g R c k h in (v.0, v.2)) g.plan.N m in
        record { column = col-some g.plan W e; primary = primary-other y e n; counter = entry-held y e }

    leaves-counted : (p y : ℕ) → In y (leaves g (c + 1) (p + 1)) → Counted np (λ q. ltb q np && not (eqb q c)) (off_column g (c + 1)) (λ q. held q (state_of g)) y
    unfolding leaves off_column
    leaves-counted p y m =
        let w = In-gather (leaving g (c + 1) (p + 1)) g g.plan.N m in
        let u = leaving-picks g R c p w.0 w.2 in
        let e = (In-others g R.tidy w.0 u.0 w.3).0 in
        let n = gather-column (leaving g (c + 1) (p + 1)) g R.tidy (c + 1) (λ k h. let v = leaving-picks g R c p k h in (v.0, v.2)) g.plan.N m in
        record { column = col-some g.plan W e; primary = primary-other y e n; counter = entry-held y e }

    pub hiding-shown : last_out g np (hides g (c + 1)) 0 ≡ column_or 0 (chosen np (state_of g) c)
    hiding-shown =
        last-counted np (λ q. ltb q np && not (eqb q c)) g (λ q. held q (state_of g)) (hides g (c + 1)) 0 hides-counted
        ∙ ap (λ (l : List ℕ). column_or 0 (counted_last (λ q. ltb q np && not (eqb q c)) (λ q. held q (state_of g)) l)) (hides-items g R c)
        ∙ ap (column_or 0) (hiding-counted np (state_of g) (shown-once g.plan W g.on) (λ q. held q (state_of g)) c (λ q n. refl))

    pub removing-shown : (p : ℕ) → first_out (off_column g (c + 1)) np (leaves g (c + 1) (p + 1)) ≡ column_or 0 (emptied_with np c p (state_of g))
    unfolding off_column
    removing-shown p =
        first_counted np (λ q. ltb q np && not (eqb q c)) (off_column g (c + 1)) (λ q. held q (state_of g)) (leaves g (c + 1) (p + 1)) (leaves-counted p)
        ∙ ap (λ (l : List ℕ). column_or 0 (counted_first (λ q. ltb q np && not (eqb q c)) (λ q. held q (state_of g)) l)) (leaves-items g R c p)
        ∙ ap (column_or 0) (removing-counted np (state_of g) (shown-once g.plan W g.on) (λ q. held q (state_of g)) c p (λ q n. refl))
