-- What the nodes of a plan show, under a mask that says which of them are in their columns: a state of the rules. Of each option the entries
-- are those of its nodes that are in their columns; an option holds an item if it has such a node in the item's column; and no option holds
-- an item twice. Assumes nothing.
use Prim.Native.Nat.{ℕ, ◌+◌, ◌-◌, ◌<◌, ◌≤◌}
use native.Mathlib.Omega.{arith}
use mathlib.Core.Path.{◌≡◌, refl, ◌∙◌, ap, sym, subst}
use mathlib.Core.Logic.{◌⊎◌, ⊎_elim}
use mathlib.Core.Bool.{Bool, true}
use mathlib.Core.List.Memᴰ.{not-nil}
use mathlib.Core.List.{List, [], map, map-map, Memᴰ as In}
use lib.Dec.{T}
use lib.ListN.{length, get_or, length-map, get_or-eq_default}
use Rattle.rules.specs.Lists.{up_to}
use Rattle.rules.specs.Problem.{Entry}
use Rattle.rules.specs.State.{option_at, holds, holds_uncoloured, in_live, items_of}
use Rattle.rules.specs.Promises.{distinct}
use Rattle.theorems.proofs.Words.Tests.{T_true, true-T}
use Rattle.theorems.proofs.Words.Lists.{keep→, keep←, map-In, In-map, map-cong, In-up_to, get_or-In, In-get_or, get_or-from, length_from}
use Rattle.theorems.proofs.Words.Rising.{from-rises, rising-distinct}
use Rattle.theorems.proofs.Words.Order.{ordered-keep}
use Rattle.theorems.proofs.Steps.States.{holds→, holds←, uncoloured→, uncoloured←, live_at, at-live}
use Rattle.links.specs.Plan.{Plan, start, EntryOf, Header, Planned}
use Rattle.links.specs.Ground.{tally}
use Rattle.links.specs.Row.{span}
use Rattle.links.specs.Shown.{entry_at, row_of, shown_row, shown}
use Rattle.links.proofs.Stores.{less?}
use Rattle.links.proofs.Plans.{row-entry, entry-from, entry-till, header-before}
use Rattle.links.proofs.Spans.{In-span, span-In}
use Rattle.links.proofs.Tallies.{tally-some, tally-has}
use Rattle.showing.proofs.Lists.{get_or-map-in, distinct-map}

-- Node y is an entry of option k, and in its column.
pub record Linked (P : Plan) (on : ℕ → Bool) (k y : ℕ) : Type 0 where
  pub entry : EntryOf P y
  pub option : P.number y ≡ k
  pub is-on : on y ≡ true

-- the item of a node
abbrev pub item_at : Plan → ℕ → ℕ
item_at P y = P.col y - 1

module _ (P : Plan) (W : Planned P) where
  -- columns of entries are numbered from 1 on
  pub col-some : {y : ℕ} → EntryOf P y → 0 < P.col y
  col-some {y} e = (W.entry y e).above

  pub item-col : {y : ℕ} → EntryOf P y → (q : ℕ) → item_at P y ≡ q → P.col y ≡ q + 1
  item-col e q h = omega (arith, col-some e, h)

  pub col-item : (y q : ℕ) → P.col y ≡ q + 1 → item_at P y ≡ q
  col-item y q h = omega arith

  -- entries of one item are of one column
  pub same-col : {y z : ℕ} → EntryOf P y → EntryOf P z → item_at P y ≡ item_at P z → P.col y ≡ P.col z
  same-col e f h = omega (arith, col-some e, col-some f, h)

  module _ (on : ℕ → Bool) where
    -- the nodes of option k
    pub row-linked : (k : ℕ) → k < P.M → {y : ℕ} → In y (row_of P on k) → Linked P on k y
    row-linked k h {y} m =
        let w = keep→ on (span (P.first k) (P.past k)) m in
        let r = In-span (P.first k) (P.past k) w.0 in
        record { entry = row-entry P W k y h r.0 r.1; option = W.numbered k y h r.0 r.1; is-on = T_true (on y) w.1 }

    pub linked-row : (k y : ℕ) → Linked P on k y → In y (row_of P on k)
    linked-row k y l =
        keep← on (span (P.first k) (P.past k))
        (span-In (P.first k) (P.past k) (subst (λ (j : ℕ). P.first j ≤ y) l.option l.entry.from) (subst (λ (j : ℕ). y < P.past j) l.option l.entry.till))
        (true-T l.is-on)

    pub linked-below : {k y : ℕ} → Linked P on k y → k < P.M
    linked-below l = subst (λ (j : ℕ). j < P.M) l.option l.entry.option

    -- an entry that is in its column is linked in its own option
    pub own-option : {y : ℕ} → EntryOf P y → on y ≡ true → Linked P on (P.number y) y
    own-option e o = record { entry = e; option = refl; is-on = o }

    -- The state has a place for each option, ..
    pub shown-length : length (shown P on) ≡ P.M
    unfolding shown
    shown-length = length-map (up_to P.M) (shown_row P on) ∙ length_from 0 P.M

    pub shown-at : (k : ℕ) → k < P.M → option_at (shown P on) k ≡ shown_row P on k
    unfolding shown
    shown-at k h =
        let n = length_from 0 P.M in
        let e : get_or (up_to P.M) k 0 ≡ k = let w = get_or-from 0 P.M k h in omega arith in
        get_or-map-in (shown_row P on) (up_to P.M) k 0 [] (omega arith) ∙ ap (shown_row P on) e

    pub shown-past : (k : ℕ) → P.M ≤ k → option_at (shown P on) k ≡ []
    shown-past k h = let n = shown-length in get_or-eq_default (shown P on) [] (omega arith)

    pub option-In : (k : ℕ) → k < P.M → In (option_at (shown P on) k) (shown P on)
    option-In k h = let n = shown-length in get_or-In (shown P on) k [] (omega arith)

    pub In-option : {o : List Entry} → In o (shown P on) → (k : ℕ) × (k < P.M) × (option_at (shown P on) k ≡ o)
    In-option m = let w = In-get_or (shown P on) [] m in let n = shown-length in (w.0, omega (arith, w.1, n), w.2)

    pub shown-options : shown P on ≡ map (option_at (shown P on)) (up_to P.M)
    unfolding shown
    shown-options = map-cong (shown_row P on) (option_at (shown P on)) (up_to P.M) (λ k m. sym (shown-at k (In-up_to P.M m)))

    -- .. with the entries of the nodes that are in their columns.
    pub shown-In : (k : ℕ) {e : Entry} → In e (option_at (shown P on) k) → (y : ℕ) × Linked P on k y × (e ≡ entry_at P y)
    shown-In k {e} m = ⊎_elim inside past (less? k P.M)
      where
        inside : k < P.M → (y : ℕ) × Linked P on k y × (e ≡ entry_at P y)
        inside h = let w = In-map (entry_at P) (row_of P on k) (rw (shown-at k h) at m) in (w.0, row-linked k h w.1, w.2)

        past : P.M ≤ k → (y : ℕ) × Linked P on k y × (e ≡ entry_at P y)
        past h = absurd (not-nil (rw (shown-past k h) at m))

    pub In-shown : (k y : ℕ) → Linked P on k y → In (entry_at P y) (option_at (shown P on) k)
    In-shown k y l = rw (shown-at k (linked-below l)) (map-In (entry_at P) (row_of P on k) (linked-row k y l))

    -- An option holds an item if it has a node in the item's column; uncoloured, if the node has colour 0.
    pub holds-node : (k q : ℕ) → T (holds q (option_at (shown P on) k)) → (y : ℕ) × Linked P on k y × (P.col y ≡ q + 1)
    holds-node k q t =
        let w = holds→ q (option_at (shown P on) k) t in
        let v = shown-In k w.1 in
        (v.0, v.1, item-col v.1.entry q (ap (λ (e : Entry). e.item) (sym v.2) ∙ w.2))

    pub node-holds : (k y q : ℕ) → Linked P on k y → P.col y ≡ q + 1 → T (holds q (option_at (shown P on) k))
    node-holds k y q l c = holds← q (option_at (shown P on) k) (In-shown k y l) (col-item y q c)

    pub uncoloured-node : (k q : ℕ) → T (holds_uncoloured q (option_at (shown P on) k)) → (y : ℕ) × Linked P on k y × (P.col y ≡ q + 1) × (P.tint y ≡ 0)
    uncoloured-node k q t =
        let w = uncoloured→ q (option_at (shown P on) k) t in
        let v = shown-In k w.1 in
        (v.0, v.1, item-col v.1.entry q (ap (λ (e : Entry). e.item) (sym v.2) ∙ w.2), ap (λ (e : Entry). e.colour) (sym v.2) ∙ w.3)

    pub node-uncoloured : (k y q : ℕ) → Linked P on k y → P.col y ≡ q + 1 → P.tint y ≡ 0 → T (holds_uncoloured q (option_at (shown P on) k))
    node-uncoloured k y q l c z = uncoloured← q (option_at (shown P on) k) (In-shown k y l) (col-item y q c) z

    -- An option has at most one node of a column, so no item stands twice in it.
    pub one-node : {k y z : ℕ} → Linked P on k y → Linked P on k z → P.col y ≡ P.col z → y ≡ z
    one-node {k} {y} {z} l m c = W.once y z l.entry m.entry (l.option ∙ sym m.option) c

    pub row-distinct : (k : ℕ) → k < P.M → T (distinct (items_of (shown_row P on k)))
    row-distinct k h =
        rw (map-map (λ (e : Entry). e.item) (entry_at P) (row_of P on k))
        (distinct-map (item_at P) (row_of P on k) (rising-distinct (row_of P on k) (ordered-keep ◌<◌ on (span (P.first k) (P.past k)) (from-rises (P.first k) (P.past k - P.first k))))
        (λ y z m n e. let l = row-linked k h m in let j = row-linked k h n in one-node l j (same-col l.entry j.entry e)))

    pub shown-once : (o : List Entry) → In o (shown P on) → T (distinct (items_of o))
    shown-once o m = let w = In-option m in subst (λ (v : List Entry). T (distinct (items_of v))) (sym (shown-at w.0 w.1) ∙ w.2) (row-distinct w.0 w.1)

    -- An item is in a live option if some entry of its column is in it.
    pub live-node : (q : ℕ) → T (in_live q (shown P on)) → (y : ℕ) × EntryOf P y × (on y ≡ true) × (P.col y ≡ q + 1)
    live-node q t = let w = live_at q (shown P on) t in let v = holds-node w.0 q w.2 in (v.0, v.1.entry, v.1.is-on, v.2)

    pub node-live : (y q : ℕ) → EntryOf P y → on y ≡ true → P.col y ≡ q + 1 → T (in_live q (shown P on))
    node-live y q e o c = at-live q (shown P on) (P.number y) (node-holds (P.number y) y q (own-option e o) c)

    -- Where the mask has headers and entries only, that is where the column is not empty.
    module _ (masked : (y : ℕ) → on y ≡ true → Header P y ⊎ EntryOf P y) where
      pub masked-entry : (y : ℕ) → start P ≤ y → on y ≡ true → EntryOf P y
      masked-entry y h o = ⊎_elim (λ i. absurd (omega (arith, header-before P W y i, h))) (λ e. e) (masked y o)

      pub live-tally : (q : ℕ) → T (in_live q (shown P on)) → 0 < tally P on (q + 1)
      live-tally q t =
          let w = live-node q t in
          subst (λ (i : ℕ). 0 < tally P on i) w.3 (tally-some P on w.0 (entry-from P W w.0 w.1) (entry-till P W w.0 w.1) w.2)

      pub tally-live : (q : ℕ) → 0 < tally P on (q + 1) → T (in_live q (shown P on))
      tally-live q h = let w = tally-has P on (q + 1) h in node-live w.0 q (masked-entry w.0 w.1 w.3) w.3 w.4
