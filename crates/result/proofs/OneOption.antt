-- Reading one option off the nodes: a lemma for each step of the walk from a node to the boundary. Assumes nothing.
use Prim.Native.Nat.{ℕ, ◌+◌, ◌-◌, ◌<◌, ◌≤◌}
use native.Mathlib.Omega.{arith}
use mathlib.Core.Path.{◌≡◌, ◌∙◌, ap, sym}
use mathlib.Core.Logic.{⊎_elim, ◌≢◌}
use mathlib.Core.Bool.{true, false, true≢false}
use mathlib.Core.List.{List, [], ◌∷◌, ◌++◌, map, map-append, append_assoc}
use borrow.Author.Tests.{lt-ltb, le-ltb}
use lib.ListN.{length, set, length-append, length-map}
use lib.IntN.{ℤ, pos}
use Rattle.std.proofs.Common.{Some, None}
use Rattle.rules.specs.Bounds.{node_bound, word_bound}
use Rattle.rules.specs.declared.number.Opt.{Opt}
use Rattle.rules.specs.Lists.{keep}
use Rattle.rules.specs.Problem.{Entry}
use Rattle.rules.specs.State.{items_of}
use Rattle.rules.specs.Result.{Numbered, ends_from, numbers_of, colours_of}
use Rattle.links.specs.Head.{item_of, option_of, below_zero, head}
use Rattle.links.specs.Column.{at}
use Rattle.links.specs.Plan.{hi, EntryOf, Planned}
use Rattle.links.specs.Ground.{Ground, Short, Edge}
use Rattle.links.specs.Row.{span, full}
use Rattle.links.specs.Shown.{entry_at}
use Rattle.links.specs.Nodes.{column_in, option_in}
use Rattle.links.proofs.Stores.{same?}
use Rattle.links.proofs.Endings.{option_none, option_some, item_none, item_some}
use Rattle.links.proofs.Plans.{entry_row, row-till, row-mate, header-before}
use Rattle.result.specs.Filled.{Filled}
use Rattle.result.specs.Left.{entries_to, option_from}
use Rattle.result.specs.Writing.{FourLists, out, items_in, colours_in, Written}
use Rattle.result.specs.Reading.{OptionAt}
use Rattle.result.proofs.Filling.{filled_more, filled-length, filled-same}
use Rattle.links.proofs.Spans.{keep-end, keep-over, keep-rises}
use Rattle.theorems.proofs.Answers.Joining.{length-ends}
use Rattle.result.proofs.Lists.{items-one, colours-one, numbers-one, ends-one, length-numbers}

-- The walk from r is at q: the live entries before q are written behind the options xs.
pub record Reading (g : Ground) (old : FourLists) (xs : List Numbered) (r : ℕ) (items colours : List ℕ) (entry q : ℕ) : Type 0 where
  pub from : r ≤ q
  pub till : q ≤ hi g.plan r
  pub items-in : Filled old.items (items_in xs ++ items_of (entries_to g r q)) items entry
  pub colours-in : Filled old.colours (colours_in xs ++ colours_of (entries_to g r q)) colours entry

module _ {g : Ground} {old lists : FourLists} {xs : List Numbered} {heads : List ℤ} {tints : List ℕ} {r option entry : ℕ} (d : OptionAt g old lists xs heads tints r option entry) where
  W : Planned g.plan
  W = d.tidy.planned

  all : List Numbered
  all = xs ++ (option_from g r ∷ [])

  edge : Edge g (g.plan.number r)
  edge = d.tidy.edge (g.plan.number r) d.node.option (entry_row g.plan W r d.node)

  module _ {items colours : List ℕ} {e q : ℕ} (b : Reading g old xs r items colours e q) where
    -- the place is within the nodes
    pub reading-in : q < g.plan.N
    reading-in = omega (arith, b.till, row-till g.plan W r d.node)

    pub reading-heads : q < length heads
    reading-heads = rw d.heads-are (omega (arith, reading-in, d.tidy.heads-in))

    pub reading-tints : q < length tints
    reading-tints = omega (arith, reading-in, d.tinted.room)

    -- at the boundary its head is below 0, and before it no head is
    pub reading-end : below_zero (head heads q) ≡ true → q ≡ hi g.plan r
    reading-end z = ⊎_elim (λ s. s) (λ n. absurd (inner n)) (same? q (hi g.plan r))
      where
        above : head g.heads q ≡ pos (item_of (head g.heads q)) → ⊥
        above p = true≢false (sym z ∙ ap (λ (l : List ℤ). below_zero (head l q)) d.heads-are ∙ ap below_zero p)

        inner : q ≢ hi g.plan r → ⊥
        inner n =
            let m = row-mate g.plan W r q d.node (omega (arith, b.from, d.node.from)) (omega (arith, b.till, n)) in
            ⊎_elim (λ f. above (f ∙ ap pos (ap item_of (sym f)))) (λ (s : Short g q). above (s.none ∙ ap pos (ap item_of (sym s.none)))) (d.tidy.rows q m)

    module _ (o : None ≡ option_in (head heads q)) where
      z : below_zero (head heads q) ≡ false
      z = option_none (head heads q) o

      reading-inner : q < hi g.plan r
      reading-inner = omega (arith, b.till, n)
        where
          n : q ≢ hi g.plan r
          n s = true≢false (sym (ap below_zero (ap (head g.heads) s ∙ edge.number)) ∙ sym (ap (λ (l : List ℤ). below_zero (head l q)) d.heads-are) ∙ z)

      -- a shortened entry
      pub reading-over : None ≡ column_in (head heads q) → Reading g old xs r items colours e (q + 1)
      reading-over i = record {
        from = omega (arith, b.from);
        till = omega (arith, reading-inner);
        items-in = filled-same old.items items e (ap (λ (l : List ℕ). items_in xs ++ items_of (map (entry_at g.plan) l)) (sym same)) b.items-in;
        colours-in = filled-same old.colours colours e (ap (λ (l : List ℕ). colours_in xs ++ colours_of (map (entry_at g.plan) l)) (sym same)) b.colours-in;
      }
        where
          same : keep (full g.heads) (span r (q + 1)) ≡ keep (full g.heads) (span r q)
          same = keep-over (full g.heads) r q b.from
              (le-ltb 0 (item_of (head g.heads q)) (omega (arith, ap (λ (l : List ℤ). item_of (head l q)) (sym d.heads-are), item_none (head heads q) i)))

      module _ (k : ℕ) (s : Some k ≡ column_in (head heads q)) where
        item-is : item_of (head heads q) ≡ k
        item-is = (item_some (head heads q) k s).0

        i : item_of (head heads q) ≢ 0
        i e = omega (arith, e, (item_some (head heads q) k s).1)

        some : full g.heads q ≡ true
        some = lt-ltb 0 (item_of (head g.heads q)) (omega (arith, ap (λ (l : List ℤ). item_of (head l q)) (sym d.heads-are), i))

        node : EntryOf g.plan q
        node = row-mate g.plan W r q d.node (omega (arith, b.from, d.node.from)) reading-inner

        -- a full entry's head is its column
        column : k ≡ g.plan.col q
        column =
            sym item-is
            ∙ ap (λ (l : List ℤ). item_of (head l q)) d.heads-are
            ∙ ⊎_elim (λ f. ap item_of f) (λ (s : Short g q). absurd (i (ap (λ (l : List ℤ). item_of (head l q)) d.heads-are ∙ ap item_of s.none))) (d.tidy.rows q node)

        -- there is room for it, and its number fits
        more : length (items_in xs ++ items_of (entries_to g r q)) < length (items_in all)
        unfolding option_from all
        more =
            let a = length-append (items_in xs) (items_of (entries_to g r q)) in
            let b1 = ap length (items-one xs (option_from g r)) in
            let c1 = length-append (items_in xs) (items_of (option_from g r).entries) in
            let e1 = length-map (entries_to g r q) (λ (e : Entry). e.item) in
            let e2 = length-map (keep (full g.heads) (span r q)) (entry_at g.plan) in
            let e3 = length-map (entries_to g r (hi g.plan r)) (λ (e : Entry). e.item) in
            let e4 = length-map (keep (full g.heads) (span r (hi g.plan r))) (entry_at g.plan) in
            let k = keep-rises (full g.heads) r q b.from (hi g.plan r) reading-inner some in
            omega (arith, a, b1, c1, e1, e2, e3, e4, k)

        pub reading-items : e < length items
        unfolding all
        reading-items =
            let l = filled-length old.items (items_in xs ++ items_of (entries_to g r q)) items e b.items-in (omega (arith, more, d.room.items)) in
            omega (arith, more, d.room.items, b.items-in.at-is, l)

        pub reading-colours : e < length colours
        unfolding all
        reading-colours =
            let l = filled-length old.colours (colours_in xs ++ colours_of (entries_to g r q)) colours e b.colours-in
            (omega (arith, more, d.room.colours, b.items-in.at-is, b.colours-in.at-is)) in
            omega (arith, more, d.room.colours, b.items-in.at-is, l)

        pub reading-column : (0 < k) × (k + 1 < node_bound)
        reading-column = (
          omega (arith, item-is, i),
          omega (arith, column, header-before g.plan W (g.plan.col q) (W.entry q node), W.room, W.small),
        )

        pub reading-one : Reading g old xs r (set items e (k - 1)) (set colours e (at tints q)) (e + 1) (q + 1)
        reading-one = record {
          from = omega (arith, b.from);
          till = omega (arith, reading-inner);
          items-in =
              filled-same old.items (set items e (k - 1)) (e + 1)
              (append_assoc (items_in xs) (items_of (entries_to g r q)) ((k - 1) ∷ [])
              ∙ ap (λ (l : List ℕ). items_in xs ++ l)
              (ap (λ (c : ℕ). items_of (entries_to g r q) ++ ((c - 1) ∷ [])) column
              ∙ sym (map-append (λ (e : Entry). e.item) (entries_to g r q) (entry_at g.plan q ∷ [])) ∙ ap items_of (sym longer)))
              (filled_more old.items (items_in xs ++ items_of (entries_to g r q)) items e b.items-in (k - 1) reading-items);
          colours-in =
              filled-same old.colours (set colours e (at tints q)) (e + 1)
              (append_assoc (colours_in xs) (colours_of (entries_to g r q)) (at tints q ∷ [])
              ∙ ap (λ (l : List ℕ). colours_in xs ++ l)
              (ap (λ (k : ℕ). colours_of (entries_to g r q) ++ (k ∷ [])) (d.tinted.tint q node)
              ∙ sym (map-append (λ (e : Entry). e.colour) (entries_to g r q) (entry_at g.plan q ∷ [])) ∙ ap colours_of (sym longer)))
              (filled_more old.colours (colours_in xs ++ colours_of (entries_to g r q)) colours e b.colours-in (at tints q) reading-colours);
        }
          where
            longer : entries_to g r (q + 1) ≡ entries_to g r q ++ (entry_at g.plan q ∷ [])
            longer = ap (map (entry_at g.plan)) (keep-end (full g.heads) r q b.from some) ∙ map-append (entry_at g.plan) (keep (full g.heads) (span r q)) (q ∷ [])

    -- at the boundary
    module _ (k : Opt) (s : Some k ≡ option_in (head heads q)) where
      here : q ≡ hi g.plan r
      here = reading-end (option_some (head heads q) k s).0

      count-is : e ≡ length (items_in all)
      unfolding option_from all
      count-is =
          b.items-in.at-is
          ∙ ap (λ (k : ℕ). length (items_in xs ++ items_of (entries_to g r k))) here
          ∙ ap length (sym (items-one xs (option_from g r)))

      pub reading-fits : e < word_bound
      unfolding all
      reading-fits = omega (arith, count-is, d.room.small)

      pub reading-ends : option < length lists.ends
      unfolding all
      reading-ends =
          let a = length-append xs (option_from g r ∷ []) in
          let n = length-ends 0 xs in
          let l = filled-length old.ends (ends_from 0 xs) lists.ends option d.written.ends (omega (arith, d.room.ends, a, n)) in
          omega (arith, d.room.ends, d.written.ends.at-is, a, n, l)

      pub reading-numbers : option < length lists.numbers
      unfolding all
      reading-numbers =
          let a = length-append xs (option_from g r ∷ []) in
          let n = length-numbers xs in
          let l = filled-length old.numbers (numbers_of xs) lists.numbers option d.written.numbers (omega (arith, d.room.numbers, a, n)) in
          omega (arith, d.room.numbers, d.written.numbers.at-is, a, n, l)

      pub reading-done : Written old (out (set lists.ends option e) (set lists.numbers option k.0) items colours) (xs ++ (option_from g r ∷ [])) (option + 1) e
      unfolding option_from all
      reading-done = record {
        ends =
            filled-same old.ends (set lists.ends option e) (option + 1) (ap (λ (k : ℕ). ends_from 0 xs ++ (k ∷ [])) count-is ∙ sym (ends-one xs (option_from g r)))
            (filled_more old.ends (ends_from 0 xs) lists.ends option d.written.ends e reading-ends);
        numbers =
            filled-same old.numbers (set lists.numbers option k.0) (option + 1)
            (ap (λ (k : ℕ). numbers_of xs ++ (k ∷ [])) number_is ∙ sym (numbers-one xs (option_from g r)))
            (filled_more old.numbers (numbers_of xs) lists.numbers option d.written.numbers k.0 reading-numbers);
        items = filled-same old.items items e (ap (λ (k : ℕ). items_in xs ++ items_of (entries_to g r k)) here ∙ sym (items-one xs (option_from g r))) b.items-in;
        colours = filled-same old.colours colours e (ap (λ (k : ℕ). colours_in xs ++ colours_of (entries_to g r k)) here ∙ sym (colours-one xs (option_from g r))) b.colours-in;
      }
        where
          number_is : k.0 ≡ g.plan.number r
          number_is = sym (option_some (head heads q) k s).1 ∙ ap (λ (l : List ℤ). option_of (head l q)) d.heads-are
              ∙ ap (λ (k : ℕ). option_of (head g.heads k)) here ∙ ap option_of edge.number
