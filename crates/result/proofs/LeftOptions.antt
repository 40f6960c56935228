-- The options that are met column by column at their first live entries are the kept options of the rules, in their order. Assumes nothing.
use Prim.Native.Nat.{ℕ, ◌+◌, ◌-◌, ◌<◌, ◌≤◌}
use native.Mathlib.Omega.{arith}
use mathlib.Core.Path.{◌≡◌, ◌∙◌, ap, sym}
use mathlib.Core.Bool.{Bool, true, ◌&&◌, cond}
use mathlib.Core.List.{List, ◌∷◌, ◌++◌, map, append-nil}
use borrow.Author.Tests.{le-ltb}
use lib.Dec.{T, leb, leb→le, le→leb}
use lib.ListN.{length, length-map}
use Rattle.rules.specs.Lists.{keep, each, from, up_to}
use Rattle.rules.specs.Result.{kept_options}
use Rattle.theorems.proofs.Words.Tests.{T_true, true-T, T_and, and_T, T-same}
use Rattle.theorems.proofs.Words.Lists.{keep→, keep-cong, keep-none, none_any, length_from, map-cong, each-cong, In-up_to}
use Rattle.theorems.proofs.Words.Counts.{length-keep}
use Rattle.theorems.proofs.Answers.EachFacts.{each_map, each-lengths}
use Rattle.links.specs.Plan.{start, lo, hi, EntryOf, Planned}
use Rattle.links.specs.Ground.{Ground}
use Rattle.links.specs.Row.{span, full, walked, others, first_live}
use Rattle.links.specs.Shown.{entry_at, row_of, shown_row, shown, Ready}
use Rattle.links.specs.Taking.{in_column}
use Rattle.links.proofs.Plans.{entry-from}
use Rattle.links.proofs.Spans.{span_none, span-split}
use Rattle.links.proofs.Descending.{on-entry}
use Rattle.showing.specs.Showing.{option_from as option_round}
use Rattle.showing.proofs.InOrder.{nodes_in, In-nodes, by_rows}
use Rattle.showing.proofs.Around.{full-on}
use Rattle.showing.proofs.Columns.{column→}
use Rattle.showing.proofs.Results.{kept-options}
use Rattle.result.specs.Left.{lead_at, option_from, column_to, column_options, options_to}
use Rattle.result.specs.Writing.{items_in}
use Rattle.result.proofs.Enough.{items-most}

module _ (g : Ground) (R : Ready g) where
  W : Planned g.plan
  W = R.tidy.planned

  module _ (c : ℕ) where
    lead→ : (y : ℕ) → T (lead_at g c y) → EntryOf g.plan y × (g.on y ≡ true) × T (first_live g y)
    lead→ y u = let w = T_and (in_column g c y) (first_live g y) u in let v = column→ g R.tidy c y w.0 in (v.0, v.1, w.1)

    -- an option from its first live entry on is that entry, and its others
    option-whole : (y : ℕ) → T (lead_at g c y) → option_from g y ≡ option_round g y
    unfolding option_from others
    option-whole y u =
        let w = lead→ y u in
        ap (λ (l : List ℕ). record { number = g.plan.number y; entries = map (entry_at g.plan) l })
        (ap (keep (full g.heads)) (span-split y y (hi g.plan y) (omega arith) w.0.till)
        ∙ ap (λ (l : List ℕ). keep (full g.heads) (l ++ (y ∷ span (y + 1) (hi g.plan y)))) (span_none y y (omega arith))
        ∙ ap (λ (b : Bool). cond b (y ∷ after) after) (T_true (full g.heads y) (full-on g R y w.0 w.1))
        ∙ ap (λ (l : List ℕ). y ∷ l) (sym behind))
      where
        after : List ℕ
        after = keep (full g.heads) (span (y + 1) (hi g.plan y))

        behind : walked g y y ≡ after
        behind =
            rw (le-ltb y y (omega arith))
            (ap (λ (l : List ℕ). after ++ l) (keep-none (full g.heads) (span (lo g.plan y) y) (λ z m. none_any (full g.heads) (span (lo g.plan y) y) (lead→ y u).2 m))
            ∙ append-nil after)

    -- no header leads
    leads-same : keep (lead_at g c) (span (start g.plan) g.plan.N) ≡ keep (lead_at g c) (up_to g.plan.N)
    leads-same =
        let e : g.plan.N - 0 ≡ g.plan.N = omega arith in
        rows (start g.plan) (omega arith) ∙ sym (rows 0 (omega arith)) ∙ ap (λ (k : ℕ). keep (lead_at g c) (from 0 k)) e
      where
        rows : (a : ℕ) → a ≤ start g.plan → keep (lead_at g c) (span a g.plan.N) ≡ each (λ k. keep (lead_at g c) (nodes_in g.plan k)) (up_to g.plan.M)
        rows = by_rows g.plan W (lead_at g c) (λ y e. (lead→ y (true-T e)).0)

    column-kept : column_options g c ≡ map (option_round g) (keep (lead_at g c) (up_to g.plan.N))
    unfolding column_to
    column-kept =
        map-cong (option_from g) (option_round g) (keep (lead_at g c) (span (start g.plan) g.plan.N)) (λ y m. option-whole y (keep→ (lead_at g c) (span (start g.plan) g.plan.N) m).1)
        ∙ ap (map (option_round g)) leads-same

  pub options-kept : (n : ℕ) → options_to g n ≡ kept_options n (shown g.plan g.on)
  unfolding options_to
  options-kept n =
      each-cong (λ i. column_options g (i + 1)) (λ i. map (option_round g) (keep (lead_at g (i + 1)) (up_to g.plan.N))) (up_to n) (λ i m. column-kept (i + 1))
      ∙ sym (kept-options g R n)

  -- No more entries are shown than there are nodes.
  linked_entry : ℕ → Bool
  linked_entry y = g.on y && leb (start g.plan) y

  linked-entry : (y : ℕ) → linked_entry y ≡ true → EntryOf g.plan y
  unfolding linked_entry
  linked-entry y e =
      let w = T_and (g.on y) (leb (start g.plan) y) (true-T e) in
      on-entry g R.tidy y (T_true (g.on y) w.0) (leb→le (start g.plan) y w.1)

  row_same : (k : ℕ) → k < g.plan.M → row_of g.plan g.on k ≡ keep linked_entry (nodes_in g.plan k)
  unfolding linked_entry
  row_same k h = keep-cong g.on linked_entry (nodes_in g.plan k) (λ y m.
      let e = In-nodes g.plan W k h m in
      T-same (g.on y) (linked_entry y) (λ u. and_T (g.on y) (leb (start g.plan) y) u (le→leb (start g.plan) y (entry-from g.plan W y e.0)))
      (λ u. (T_and (g.on y) (leb (start g.plan) y) u).0))

  shown-most : length (each (λ o. o) (shown g.plan g.on)) ≤ g.plan.N
  unfolding shown
  shown-most =
      let a = ap length (each_map (shown_row g.plan g.on) (λ o. o) (up_to g.plan.M)) in
      let b = each-lengths (shown_row g.plan g.on) (row_of g.plan g.on) (up_to g.plan.M) (λ k. length-map (row_of g.plan g.on k) (entry_at g.plan)) in
      let d = ap length (each-cong (row_of g.plan g.on) (λ k. keep linked_entry (nodes_in g.plan k)) (up_to g.plan.M) (λ k m. row_same k (In-up_to g.plan.M m))) in
      let e = ap length (by_rows g.plan W linked_entry linked-entry (start g.plan) (omega arith)) in
      let f = length-keep linked_entry (span (start g.plan) g.plan.N) in
      let i = length_from (start g.plan) (g.plan.N - start g.plan) in
      omega (arith, a, b, d, e, f, i)

  pub kept-most : (n : ℕ) → length (items_in (kept_options n (shown g.plan g.on))) ≤ g.plan.N
  kept-most n =
      let a = items-most n (shown g.plan g.on) in
      omega (arith, a, shown-most)
