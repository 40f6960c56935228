-- The nodes lie in the order of the options: taken node by node or option by option, those that pass a test are the same list. Each option has
-- at most one of a column, so the length of a column is the number of live options that hold its item. Assumes nothing.
use Prim.Native.Nat.{ℕ, zero, suc, ◌+◌, ◌-◌, ◌<◌, ◌≤◌}
use native.Mathlib.Omega.{arith}
use mathlib.Core.Path.{◌≡◌, refl, ◌∙◌, ap, sym, subst}
use mathlib.Core.Logic.{◌⊎◌, inl, inr, ◌≢◌}
use mathlib.Core.Bool.{Bool, true, ◌&&◌, not, cond}
use mathlib.Core.List.{List, [], ◌∷◌, map, Memᴰ as In}
use lib.Dec.{T, eqb, leb, eqb→eq, leb→le, le→leb, not_T, T_not}
use lib.ListN.{length}
use Rattle.rules.specs.Lists.{keep, each, from, up_to}
use Rattle.rules.specs.Problem.{Entry}
use Rattle.rules.specs.State.{option_at, holds, in_live}
use Rattle.theorems.proofs.Words.Tests.{T-dec, T_true, T_false, true-T, T_and, and_T, T-same, eq→eqb}
use Rattle.theorems.proofs.Words.Lists.{each-cong, keep→, keep←, keep-none, each-In, In-each, In-from, In-up_to, up_to-In}
use Rattle.theorems.proofs.Words.Counts.{count-keep, count_map, count-cong}
use Rattle.theorems.proofs.Words.Order.{Ordered, ordered-keep}
use Rattle.theorems.proofs.Words.Rising.{from-rises, rising-same}
use Rattle.theorems.proofs.Laws.Held.{held, held-live, live-held}
use Rattle.links.specs.Head.{item_of}
use Rattle.links.specs.Plan.{Plan, start, EntryOf, Header, Planned}
use Rattle.links.specs.Ground.{Ground, Tidy, tally}
use Rattle.links.specs.Row.{span}
use Rattle.links.specs.Shown.{shown_row, shown}
use Rattle.links.specs.Taking.{length_of}
use Rattle.links.proofs.Plans.{row-entry, entry-from, entry-till}
use Rattle.links.proofs.Spans.{In-span, span-In}
use Rattle.showing.specs.Showing.{state_of}
use Rattle.theorems.proofs.Answers.EachFacts.{map_each, each-single}
use Rattle.showing.proofs.Lists.{each_keep, length-each, sorted-append, sorted-one}
use Rattle.showing.proofs.Shows.{Linked, shown-at, holds-node, node-holds, masked-entry}

-- the nodes of option k, in their columns or not
abbrev pub nodes_in : Plan → ℕ → List ℕ
nodes_in P k = span (P.first k) (P.past k)

module _ (P : Plan) (W : Planned P) where
  pub In-nodes : (k : ℕ) → k < P.M → {y : ℕ} → In y (nodes_in P k) → EntryOf P y × (P.number y ≡ k)
  In-nodes k h {y} m = let r = In-span (P.first k) (P.past k) m in (row-entry P W k y h r.0 r.1, W.numbered k y h r.0 r.1)

  pub nodes-In : (k : ℕ) {y : ℕ} → EntryOf P y → P.number y ≡ k → In y (nodes_in P k)
  nodes-In k {y} e n = span-In (P.first k) (P.past k) (subst (λ (j : ℕ). P.first j ≤ y) n e.from) (subst (λ (j : ℕ). y < P.past j) n e.till)

  module _ (t : ℕ → Bool) where
    rows-rise : (i n : ℕ) → i + n ≤ P.M → Ordered ◌<◌ (each (λ k. keep t (nodes_in P k)) (from i n))
    rows-rise i zero h = tt
    rows-rise i (suc n) h =
        sorted-append (keep t (nodes_in P i)) (each (λ k. keep t (nodes_in P k)) (from (suc i) n))
        (ordered-keep ◌<◌ t (nodes_in P i) (from-rises (P.first i) (P.past i - P.first i))) (rows-rise (suc i) n (omega arith)) before
      where
        before : (x y : ℕ) → In x (keep t (nodes_in P i)) → In y (each (λ k. keep t (nodes_in P k)) (from (suc i) n)) → x < y
        before x y l m =
            let w = In-each (λ k. keep t (nodes_in P k)) (from (suc i) n) m in
            let j = In-from (suc i) n w.1 in
            let a = In-span (P.first i) (P.past i) (keep→ t (nodes_in P i) l).0 in
            let b = In-span (P.first w.0) (P.past w.0) (keep→ t (nodes_in P w.0) w.2).0 in
            let c = W.apart i w.0 (omega arith) (omega arith) (omega arith) (omega arith) in
            omega arith

    -- those that pass are entries
    module _ (entry : (y : ℕ) → t y ≡ true → EntryOf P y) where
      pub by_rows : (a : ℕ) → a ≤ start P → keep t (span a P.N) ≡ each (λ k. keep t (nodes_in P k)) (up_to P.M)
      by_rows a h =
          rising-same (keep t (span a P.N)) (each (λ k. keep t (nodes_in P k)) (up_to P.M))
          (ordered-keep ◌<◌ t (span a P.N) (from-rises a (P.N - a))) (rows-rise 0 P.M (omega arith)) forth back
        where
          forth : (x : ℕ) → In x (keep t (span a P.N)) → In x (each (λ k. keep t (nodes_in P k)) (up_to P.M))
          forth x m =
              let w = keep→ t (span a P.N) m in
              let e = entry x (T_true (t x) w.1) in
              each-In (λ k. keep t (nodes_in P k)) (up_to P.M) (up_to-In P.M e.option) (keep← t (nodes_in P (P.number x)) (nodes-In (P.number x) e refl) w.1)

          back : (x : ℕ) → In x (each (λ k. keep t (nodes_in P k)) (up_to P.M)) → In x (keep t (span a P.N))
          back x m =
              let w = In-each (λ k. keep t (nodes_in P k)) (up_to P.M) m in
              let v = keep→ t (nodes_in P w.0) w.2 in
              let e = (In-nodes w.0 (In-up_to P.M w.1) v.0).0 in
              let f = entry-from P W x e in
              keep← t (span a P.N) (span-In a P.N (omega arith) (entry-till P W x e)) v.1

    -- and all of one column: at most one of an option passes
    module _ (i : ℕ) (column : (y : ℕ) → t y ≡ true → P.col y ≡ i) (k : ℕ) (h : k < P.M) where
      pub row_one : (y : ℕ) → EntryOf P y → P.number y ≡ k → t y ≡ true → keep t (nodes_in P k) ≡ y ∷ []
      row_one y e n o =
          sorted-one (keep t (nodes_in P k)) (ordered-keep ◌<◌ t (nodes_in P k) (from-rises (P.first k) (P.past k - P.first k)))
          (keep← t (nodes_in P k) (nodes-In k e n) (rw o tt))
          (λ z m.
          let w = keep→ t (nodes_in P k) m in
          let v = In-nodes k h w.0 in
          W.once z y v.0 e (v.1 ∙ sym n) (column z (T_true (t z) w.1) ∙ sym (column y o)))

      pub row-none : ((y : ℕ) → EntryOf P y → P.number y ≡ k → t y ≡ true → ⊥) → keep t (nodes_in P k) ≡ []
      row-none n = keep-none t (nodes_in P k) (λ y m. not_T (t y) (λ u. let v = In-nodes k h m in n y v.0 v.1 (T_true (t y) u)))

  -- A test on the entries of one column, and one on options that agrees with it: what passes, by number.
  module _ (t : ℕ → Bool) (i : ℕ) (f : ℕ → Bool) (sound : (y : ℕ) → t y ≡ true → EntryOf P y × (P.col y ≡ i) × T (f (P.number y)))
      (found : (k : ℕ) → k < P.M → T (f k) → (y : ℕ) × EntryOf P y × (P.number y ≡ k) × (t y ≡ true)) where
    number-in-row : (k : ℕ) → k < P.M → map P.number (keep t (nodes_in P k)) ≡ cond (f k) (k ∷ []) []
    number-in-row k h = go (T-dec (f k))
      where
        go : T (f k) ⊎ T (not (f k)) → map P.number (keep t (nodes_in P k)) ≡ cond (f k) (k ∷ []) []
        go (inl u) =
            let w = found k h u in
            ap (map P.number) (row_one t i (λ y e. (sound y e).1) k h w.0 w.1 w.2 w.3) ∙ ap (λ (j : ℕ). j ∷ []) w.2 ∙ ap (λ (b : Bool). cond b (k ∷ []) []) (sym (T_true (f k) u))
        go (inr u) =
            ap (map P.number) (row-none t i (λ y e. (sound y e).1) k h (λ y e n s. T_not (f k) u (subst (λ (j : ℕ). T (f j)) n (sound y s).2)))
            ∙ ap (λ (b : Bool). cond b (k ∷ []) []) (sym (T_false (f k) u))

    pub numbers-in-order : map P.number (keep t (up_to P.N)) ≡ keep f (up_to P.M)
    numbers-in-order =
        let e : P.N ≡ P.N - 0 = omega arith in
        ap (map P.number) (ap (λ (m : ℕ). keep t (from 0 m)) e ∙ by_rows t (λ y s. (sound y s).0) 0 (omega arith))
        ∙ map_each P.number (λ k. keep t (nodes_in P k)) (up_to P.M)
        ∙ each-cong (λ k. map P.number (keep t (nodes_in P k))) (λ k. cond (f k) (k ∷ []) []) (up_to P.M) (λ k m. number-in-row k (In-up_to P.M m))
        ∙ sym (each_keep f (λ k. k ∷ []) (up_to P.M))
        ∙ each-single (keep f (up_to P.M))

  -- The length of a column is the number of options that hold its item.
  module _ (on : ℕ → Bool) (masked : (y : ℕ) → on y ≡ true → Header P y ⊎ EntryOf P y) where
    -- the entries of column i
    column_entry : ℕ → ℕ → Bool
    column_entry i y = on y && eqb (P.col y) i && leb (start P) y

    column-entry : (i y : ℕ) → column_entry i y ≡ true → Linked P on (P.number y) y × (P.col y ≡ i)
    unfolding column_entry
    column-entry i y e =
        let w = T_and (on y && eqb (P.col y) i) (leb (start P) y) (true-T e) in
        let v = T_and (on y) (eqb (P.col y) i) w.0 in
        let o = T_true (on y) v.0 in
        (record { entry = masked-entry P W on masked y (leb→le (start P) y w.1) o; option = refl; is-on = o }, eqb→eq (P.col y) i v.1)

    entry-column : (i y : ℕ) → EntryOf P y → on y ≡ true → P.col y ≡ i → column_entry i y ≡ true
    unfolding column_entry
    entry-column i y e o c =
        T_true (on y && eqb (P.col y) i && leb (start P) y)
        (and_T (on y && eqb (P.col y) i) (leb (start P) y) (and_T (on y) (eqb (P.col y) i) (true-T o) (eq→eqb (P.col y) i c)) (le→leb (start P) y (entry-from P W y e)))

    in_row : (q k : ℕ) → k < P.M → length (keep (column_entry (q + 1)) (nodes_in P k)) ≡ cond (holds q (shown_row P on k)) 1 0
    in_row q k h = subst (λ (o : List Entry). length (keep (column_entry (q + 1)) (nodes_in P k)) ≡ cond (holds q o) 1 0) (shown-at P W on k h)
        (go (T-dec (holds q (option_at (shown P on) k))))
      where
        column : (y : ℕ) → column_entry (q + 1) y ≡ true → P.col y ≡ q + 1
        column y e = (column-entry (q + 1) y e).1

        go : T (holds q (option_at (shown P on) k)) ⊎ T (not (holds q (option_at (shown P on) k)))
            → length (keep (column_entry (q + 1)) (nodes_in P k)) ≡ cond (holds q (option_at (shown P on) k)) 1 0
        go (inl t) =
            let w = holds-node P W on k q t in
            rw (T_true (holds q (option_at (shown P on) k)) t, row_one (column_entry (q + 1)) (q + 1) column k h w.0 w.1.entry w.1.option (entry-column (q + 1) w.0 w.1.entry w.1.is-on w.2))
        go (inr t) =
            rw (
              T_false (holds q (option_at (shown P on) k)) t,
              row-none (column_entry (q + 1)) (q + 1) column k h (λ y e n o.
                  T_not (holds q (option_at (shown P on) k)) t
                  (node-holds P W on k y q (record { entry = e; option = n; is-on = (column-entry (q + 1) y o).0.is-on }) (column y o))),
            )

    column-tally : (i : ℕ) → length (keep (column_entry i) (span (start P) P.N)) ≡ tally P on i
    unfolding tally column_entry
    column-tally i =
        count-keep (column_entry i) (span (start P) P.N)
        ∙ count-cong (column_entry i) (λ y. on y && eqb (P.col y) i) (span (start P) P.N) (λ y m.
        T-same (column_entry i y) (on y && eqb (P.col y) i) (λ t. (T_and (on y && eqb (P.col y) i) (leb (start P) y) t).0)
        (λ t. and_T (on y && eqb (P.col y) i) (leb (start P) y) t (le→leb (start P) y (In-span (start P) P.N m).0)))

    pub held-tally : (q : ℕ) → held q (shown P on) ≡ tally P on (q + 1)
    unfolding shown
    held-tally q =
        count_map (shown_row P on) (holds q) (up_to P.M)
        ∙ sym (length-each (λ k. keep (column_entry (q + 1)) (nodes_in P k)) (λ k. holds q (shown_row P on k)) (up_to P.M) (λ k m. in_row q k (In-up_to P.M m)))
        ∙ ap length (sym (by_rows (column_entry (q + 1)) (λ y e. (column-entry (q + 1) y e).0.entry) (start P) (omega arith)))
        ∙ column-tally (q + 1)

-- In a tidy ground a header's head says it.
module _ (g : Ground) (t : Tidy g) where
  pub held-length : (q : ℕ) → Header g.plan (q + 1) → g.on (q + 1) ≡ true → length_of g (q + 1) ≡ held q (state_of g)
  held-length q h o = ap item_of (t.counts (q + 1) h o) ∙ sym (held-tally g.plan t.planned g.on t.masked q)

  pub live-length : (q : ℕ) → Header g.plan (q + 1) → g.on (q + 1) ≡ true → T (in_live q (state_of g)) → length_of g (q + 1) ≢ 0
  live-length q h o l e = let n = live-held q (state_of g) l in omega (arith, n, held-length q h o, e)

  pub length-live : (q : ℕ) → Header g.plan (q + 1) → g.on (q + 1) ≡ true → length_of g (q + 1) ≢ 0 → T (in_live q (state_of g))
  length-live q h o n = held-live q (state_of g) (omega (arith, n, held-length q h o))
