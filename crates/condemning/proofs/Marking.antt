-- Marking the items of an option, a lemma for each step of the walk. Assumes nothing.
use Prim.Native.Nat.{ℕ, ◌+◌, ◌<◌, ◌≤◌}
use native.Mathlib.Omega.{arith}
use mathlib.Core.Path.{◌≡◌, ◌∙◌, ap, sym, subst}
use Rattle.rules.specs.Bounds.{node_bound}
use mathlib.Core.Logic.{⊎_elim, ◌≢◌}
use mathlib.Core.Bool.{Bool, true, false, false≢true, true≢false}
use mathlib.Core.List.{List}
use lib.Dec.{T, lt→ltb, T_not}
use lib.ListN.{length, set, length-set}
use lib.Seq.{get_or-set_same, get_or-set_other}
use lib.IntN.{ℤ, pos, negsuc}
use Rattle.rules.specs.Lists.{any}
use Rattle.theorems.proofs.Words.Lists.{any←}
use Rattle.links.specs.Head.{item_of, below_zero, head}
use Rattle.links.specs.Column.{at}
use Rattle.links.specs.Plan.{lo, hi, EntryOf, Planned}
use Rattle.links.specs.Ground.{Ground, Edge, Tidy}
use Rattle.links.specs.Row.{span, full, first_live}
use Rattle.links.specs.Taking.{Marked}
use Rattle.links.proofs.Stores.{same?, less?}
use Rattle.links.proofs.Plans.{entry-from, entry_row, row-mate, row-till}
use Rattle.links.proofs.Spans.{span-In}
use Rattle.condemning.specs.Marks.{HeldBy, Known, Marking}

-- The walk is at q: the full entries behind r that it has passed are marked.
pub record Passing (g : Ground) (on : ℕ → Bool) (r : ℕ) (marks : List ℕ) (q : ℕ) : Type 0 where
  pub above : r < q
  pub till : q ≤ hi g.plan r
  pub known : Known g on marks
  pub own : (y : ℕ) → r < y → y < q → head g.heads y ≡ pos (g.plan.col y) → at marks (g.plan.col y) ≡ r

module _ (g : Ground) (t : Tidy g) (on : ℕ → Bool) (r : ℕ) (e : EntryOf g.plan r) where
  W : Planned g.plan
  W = t.planned

  inside : (q : ℕ) → r < q → q < hi g.plan r → EntryOf g.plan q
  inside q a b = row-mate g.plan W r q e (omega (arith, e.from)) b

  pub pass-begin : (marks : List ℕ) → Known g on marks → Passing g on r marks (r + 1)
  pass-begin marks k = record { above = omega arith; till = omega (arith, e.till); known = k; own = λ y a b f. absurd (omega (arith, a, b)) }

  pub pass-in : (q : ℕ) → q ≤ hi g.plan r → q < g.plan.N
  pass-in q a = omega (arith, row-till g.plan W r e)

  -- before the boundary stands an entry, full or shortened
  pub pass-entry : (marks : List ℕ) (q : ℕ) → Passing g on r marks q → below_zero (head g.heads q) ≡ false → q < hi g.plan r
  pass-entry marks q p b = ⊎_elim (λ s. absurd (true≢false (sym (ap below_zero (ap (head g.heads) s ∙ edge.number)) ∙ b))) (λ n. omega (arith, p.till, n)) (same? q (hi g.plan r))
    where
      edge : Edge g (g.plan.number r)
      edge = t.edge (g.plan.number r) e.option (entry_row g.plan W r e)

  pub pass-item : (q : ℕ) → r < q → q < hi g.plan r → item_of (head g.heads q) ≢ 0 → head g.heads q ≡ pos (g.plan.col q)
  pass-item q a b n = ⊎_elim (λ f. f) (λ s. absurd (n (ap item_of s.none))) (t.rows q (inside q a b))

  -- a mark for q's item
  module _ (marks : List ℕ) (q : ℕ) (p : Passing g on r marks q) (b : q < hi g.plan r) where
    pub pass-full : head g.heads q ≡ pos (g.plan.col q) → Passing g on r (set marks (g.plan.col q) r) (q + 1)
    pass-full f = record { above = omega (arith, p.above); till = omega arith; known = record { room = rw length-set p.known.room; names = names }; own = own }
      where
        i : ℕ
        i = g.plan.col q

        i-in : i < length marks
        i-in = omega (arith, (W.entry q (inside q p.above b)).below, p.known.room)

        names : (y : ℕ) → EntryOf g.plan y → on y ≡ true → (at (set marks i r) (g.plan.col y) ≡ 0 → ⊥) → HeldBy g (at (set marks i r) (g.plan.col y)) y
        names y m o n = ⊎_elim here other (same? (g.plan.col y) i)
          where
            here : g.plan.col y ≡ i → HeldBy g (at (set marks i r) (g.plan.col y)) y
            here s =
                let v : at (set marks i r) (g.plan.col y) ≡ r = ap (at (set marks i r)) s ∙ get_or-set_same marks i r 0 i-in in
                subst (λ (z : ℕ). HeldBy g z y) (sym v)
                (record { entry = e; mate = q; mate-entry = inside q p.above b; row = W.numbered (g.plan.number r) q e.option (omega (arith, e.from, p.above)) b; full = f; item = sym s })

            other : g.plan.col y ≢ i → HeldBy g (at (set marks i r) (g.plan.col y)) y
            other d =
                let v : at (set marks i r) (g.plan.col y) ≡ at marks (g.plan.col y) = get_or-set_other marks i (g.plan.col y) r 0 d in
                subst (λ (z : ℕ). HeldBy g z y) (sym v) (p.known.names y m o (λ z. n (v ∙ z)))

        own : (y : ℕ) → r < y → y < q + 1 → head g.heads y ≡ pos (g.plan.col y) → at (set marks i r) (g.plan.col y) ≡ r
        own y a c h = ⊎_elim (λ s. ap (at (set marks i r)) (s) ∙ get_or-set_same marks i r 0 i-in)
            (λ d. get_or-set_other marks i (g.plan.col y) r 0 d ∙ p.own y a (below d) h) (same? (g.plan.col y) i)
          where
            below : g.plan.col y ≢ i → y < q
            below d = let n : y ≢ q = λ s. d (ap g.plan.col s) in omega arith

    -- a shortened entry has no item to mark
    pub pass-over : item_of (head g.heads q) ≡ 0 → Passing g on r marks (q + 1)
    pass-over z = record { above = omega (arith, p.above); till = omega arith; known = p.known; own = own }
      where
        own : (y : ℕ) → r < y → y < q + 1 → head g.heads y ≡ pos (g.plan.col y) → at marks (g.plan.col y) ≡ r
        own y a c h = p.own y a (omega (arith, c, differs)) h
          where
            differs : y ≢ q
            differs s = omega (arith, (W.entry q (inside q p.above b)).above, sym z ∙ ap (λ (x : ℕ). item_of (head g.heads x)) (sym s) ∙ ap item_of h ∙ ap g.plan.col s)

  -- at the boundary all are marked, since no full entry stands before r
  pub pass-done : ((y : ℕ) → g.on y ≡ true → on y ≡ true) → first_live g r ≡ true → (marks : List ℕ) (q : ℕ) → Passing g on r marks q → below_zero (head g.heads q) ≡ true → Marked g r marks
  pass-done wider first marks q p b = record { room = p.known.room; own = own; theirs = theirs }
    where
      at-end : q ≡ hi g.plan r
      at-end = ⊎_elim (λ s. s) (λ n. absurd (not_entry (omega (arith, p.till, n)))) (same? q (hi g.plan r))
        where
          sign : (z : ℤ) → below_zero z ≡ true → (i : ℕ) → z ≡ pos i → ⊥
          sign (pos j) u i h = false≢true u
          sign (negsuc j) u i h = let w : ◌≡◌ {A = ℕ} 0 1 = cc in omega arith

          not_entry : q < hi g.plan r → ⊥
          not_entry l = ⊎_elim (λ f. sign (head g.heads q) b (g.plan.col q) f) (λ s. sign (head g.heads q) b 0 s.none) (t.rows q (inside q p.above l))

      own : (y : ℕ) → EntryOf g.plan y → g.plan.number y ≡ g.plan.number r → (y ≡ r → ⊥) → head g.heads y ≡ pos (g.plan.col y) → at marks (g.plan.col y) ≡ r
      own y m s n h = ⊎_elim (λ a. p.own y a (omega (arith, at-end, subst (λ (k : ℕ). y < g.plan.past k) s m.till)) h) (λ a. absurd (before a)) (less? r y)
        where
          before : y ≤ r → ⊥
          before a =
              let f : T (any (full g.heads) (span (lo g.plan r) r)) =
              any← (full g.heads) (span (lo g.plan r) r) (span-In (lo g.plan r) r (subst (λ (k : ℕ). g.plan.first k ≤ y) s m.from) (omega (arith, a, n)))
              (lt→ltb 0 (item_of (head g.heads y)) (rw h (W.entry y m).above)) in
              T_not (any (full g.heads) (span (lo g.plan r) r)) (subst T (sym first) tt) f

      theirs : (y : ℕ) → EntryOf g.plan y → g.on y ≡ true → at marks (g.plan.col y) ≡ r
          → (x : ℕ) × EntryOf g.plan x × (g.plan.number x ≡ g.plan.number r) × (head g.heads x ≡ pos (g.plan.col x)) × (g.plan.col x ≡ g.plan.col y)
      theirs y m o s =
          let h = p.known.names y m (wider y o) (λ z. omega (arith, entry-from g.plan W r e, sym s ∙ z)) in
          (h.mate, h.mate-entry, h.row ∙ ap g.plan.number s, h.full, h.item)

-- The same, of lists that are the ground's.
module _ {g : Ground} {on : ℕ → Bool} {r : ℕ} {heads : List ℤ} {marks₀ : List ℕ} (m : Marking g on r heads marks₀) where
  module _ {marks : List ℕ} {q : ℕ} (p : Passing g on r marks q) where
    pub mark-in : q < length heads
    mark-in = rw m.heads-are (omega (arith, pass-in g m.tidy on r m.entry q p.till, m.tidy.heads-in))

    pub mark-far : q < node_bound
    mark-far = omega (arith, pass-in g m.tidy on r m.entry q p.till, m.tidy.planned.small)

    module _ (b : below_zero (head heads q) ≡ false) where
      inside-row : q < hi g.plan r
      inside-row = pass-entry g m.tidy on r m.entry marks q p (rw m.heads-are at b)

      pub mark-over : item_of (head heads q) ≡ 0 → Passing g on r marks (q + 1)
      mark-over z = pass-over g m.tidy on r m.entry marks q p inside-row (rw m.heads-are at z)

      module _ (n : item_of (head heads q) ≢ 0) where
        full-here : head g.heads q ≡ pos (g.plan.col q)
        full-here = pass-item g m.tidy on r m.entry q p.above inside-row (rw m.heads-are at n)

        item-here : item_of (head heads q) ≡ g.plan.col q
        item-here = ap (λ (l : List ℤ). item_of (head l q)) m.heads-are ∙ ap item_of full-here

        pub mark-place : item_of (head heads q) < length marks
        mark-place = omega (arith, item-here, (m.tidy.planned.entry q (row-mate g.plan m.tidy.planned r q m.entry (omega (arith, m.entry.from, p.above)) inside-row)).below, p.known.room)

        pub mark-low : item_of (head heads q) < node_bound
        mark-low = omega (arith, item-here, m.tidy.planned.low q, mark-far)

        pub mark-full : Passing g on r (set marks (item_of (head heads q)) r) (q + 1)
        mark-full = rw item-here (pass-full g m.tidy on r m.entry marks q p inside-row full-here)

    pub mark-done : below_zero (head heads q) ≡ true → Known g on marks × Marked g r marks
    mark-done b = (p.known, pass-done g m.tidy on r m.entry m.wider m.first marks q p (rw m.heads-are at b))
