-- Going round an option: the others of a node, in the order of a walk from the node after it, are the entries that the rules go round, and from
-- the first node that is in its column they are those from the second to the first. Assumes nothing.
use Prim.Native.Nat.{ℕ, ◌+◌, ◌<◌, ◌≤◌}
use native.Mathlib.Omega.{arith}
use mathlib.Core.Path.{◌≡◌, refl, ◌∙◌, ap, sym}
use mathlib.Core.Logic.{⊎_elim, ◌≢◌}
use mathlib.Core.Bool.{Bool, true, false, cond}
use mathlib.Core.List.Memᴰ.{head as here}
use mathlib.Core.List.Memᴰ.{tail as next}
use mathlib.Core.List.{List, [], ◌∷◌, ◌++◌, map, map-map, map-append, append-nil, Memᴰ as In}
use borrow.Author.Tests.{le-ltb}
use lib.Dec.{T}
use lib.IntN.{pos}
use Rattle.rules.specs.Lists.{keep}
use Rattle.rules.specs.Problem.{Entry}
use Rattle.rules.specs.State.{option_at, entries_after, entries_before, items_of, around}
use Rattle.rules.specs.Blocked.{second_to_first}
use Rattle.theorems.proofs.Words.Tests.{T_true, true-T, false-T, T-same}
use borrow.Author.Tests.{eq-eqb, ne_eqb}
use Rattle.theorems.proofs.Words.Lists.{keep→, keep_append, keep-cong, keep-none, none_any, In-map}
use Rattle.links.specs.Head.{item_of, head}
use Rattle.links.specs.Plan.{lo, hi, EntryOf, Planned}
use Rattle.links.specs.Ground.{Ground, Short}
use Rattle.links.specs.Row.{span, full, others}
use Rattle.links.specs.Shown.{entry_at, row_of, Ready}
use Rattle.links.proofs.Plans.{row-entry}
use Rattle.links.proofs.Spans.{In-span, span-split}
use Rattle.showing.specs.Showing.{state_of, full_before}
use Rattle.showing.proofs.Shows.{Linked, item_at, col-some, col-item, item-col, linked-below, shown-at}

-- The entries after the one of item c, and those before it

module _ (c : ℕ) (e : Entry) (b : List Entry) (own : e.item ≡ c) where
  pub after-at : (a : List Entry) → ((d : Entry) → In d a → d.item ≢ c) → entries_after c (a ++ (e ∷ b)) ≡ b
  after-at [] h = rw (eq-eqb e.item c own)
  after-at (d ∷ a) h = rw (ne_eqb d.item c (h d (here refl))) (after-at a (λ x m. h x (next m)))

  pub before_at : (a : List Entry) → ((d : Entry) → In d a → d.item ≢ c) → entries_before c (a ++ (e ∷ b)) ≡ a
  before_at [] h = rw (eq-eqb e.item c own)
  before_at (d ∷ a) h = rw (ne_eqb d.item c (h d (here refl))) (ap (λ (l : List Entry). d ∷ l) (before_at a (λ x m. h x (next m))))

  pub around-at : (a : List Entry) → ((d : Entry) → In d a → d.item ≢ c) → around c (a ++ (e ∷ b)) ≡ items_of (b ++ a)
  unfolding around
  around-at a h = rw (after-at a h, before_at a h)

module _ (g : Ground) (R : Ready g) where
  W : Planned g.plan
  W = R.tidy.planned

  -- In an option with a node in its column, the full nodes are those that are in theirs.
  pub full-on : (y : ℕ) → EntryOf g.plan y → g.on y ≡ true → T (full g.heads y)
  full-on y e o = lib.Dec.lt→ltb 0 (item_of (head g.heads y)) (rw (R.tidy.full y e o) (col-some g.plan W e))

  pub full-head : (z : ℕ) → EntryOf g.plan z → T (full g.heads z) → head g.heads z ≡ pos (g.plan.col z)
  full-head z e t = ⊎_elim (λ f. f) (λ (s : Short g z). absurd (omega (arith, lib.Dec.ltb→lt 0 (item_of (head g.heads z)) t, ap item_of s.none))) (R.tidy.rows z e)

  module _ {k y : ℕ} (l : Linked g.plan g.on k y) where
    pub full-linked : (z : ℕ) → EntryOf g.plan z → g.plan.number z ≡ k → full g.heads z ≡ g.on z
    full-linked z e n =
        T-same (full g.heads z) (g.on z) (λ t. true-T (R.whole.mates y z l.entry e (l.option ∙ sym n) l.is-on (full-head z e t)))
        (λ t. full-on z e (T_true (g.on z) t))

    -- y's place in its option
    first-is : lo g.plan y ≡ g.plan.first k
    first-is = ap g.plan.first l.option

    past_is : hi g.plan y ≡ g.plan.past k
    past_is = ap g.plan.past l.option

    below : g.plan.first k ≤ y
    below = omega (arith, l.entry.from, first-is)

    above : y < g.plan.past k
    above = omega (arith, l.entry.till, past_is)

    kept : (a b : ℕ) → g.plan.first k ≤ a → b ≤ g.plan.past k → keep (full g.heads) (span a b) ≡ keep g.on (span a b)
    kept a b i j = keep-cong (full g.heads) g.on (span a b) (λ z m.
        let w = In-span a b m in
        let h = linked-below g.plan W g.on l in
        full-linked z (row-entry g.plan W k z h (omega arith) (omega arith)) (W.numbered k z h (omega arith) (omega arith)))

    -- The option's nodes in their columns: those before y, y, those after it; and the others of y.
    pub row-parts : row_of g.plan g.on k ≡ keep g.on (span (g.plan.first k) y) ++ (y ∷ keep g.on (span (y + 1) (g.plan.past k)))
    row-parts =
        ap (keep g.on) (span-split (g.plan.first k) y (g.plan.past k) below above)
        ∙ keep_append g.on (span (g.plan.first k) y) (y ∷ span (y + 1) (g.plan.past k))
        ∙ ap (λ (b : Bool). keep g.on (span (g.plan.first k) y) ++ cond b (y ∷ keep g.on (span (y + 1) (g.plan.past k))) (keep g.on (span (y + 1) (g.plan.past k)))) l.is-on

    pub others-parts : others g y ≡ keep g.on (span (y + 1) (g.plan.past k)) ++ keep g.on (span (g.plan.first k) y)
    unfolding others
    others-parts =
        ap (λ (b : Bool). cond b (keep (full g.heads) (span (y + 1) y))
        (keep (full g.heads) (span (y + 1) (hi g.plan y)) ++ keep (full g.heads) (span (lo g.plan y) y))) (le-ltb y y (omega arith))
        ∙ ap (λ (b : ℕ). keep (full g.heads) (span (y + 1) b) ++ keep (full g.heads) (span (lo g.plan y) y)) past_is
        ∙ ap (λ (a : ℕ). keep (full g.heads) (span (y + 1) (g.plan.past k)) ++ keep (full g.heads) (span a y)) first-is
        ∙ ap (λ (x : List ℕ). x ++ keep (full g.heads) (span (g.plan.first k) y)) (kept (y + 1) (g.plan.past k) (omega (arith, below)) (omega arith))
        ∙ ap (λ (x : List ℕ). keep g.on (span (y + 1) (g.plan.past k)) ++ x) (kept (g.plan.first k) y (omega arith) (omega (arith, above)))

    pub option-parts : option_at (state_of g) k
        ≡ map (entry_at g.plan) (keep g.on (span (g.plan.first k) y)) ++ (entry_at g.plan y ∷ map (entry_at g.plan) (keep g.on (span (y + 1) (g.plan.past k))))
    option-parts =
        shown-at g.plan W g.on k (linked-below g.plan W g.on l)
        ∙ ap (map (entry_at g.plan)) row-parts
        ∙ map-append (entry_at g.plan) (keep g.on (span (g.plan.first k) y)) (y ∷ keep g.on (span (y + 1) (g.plan.past k)))

    -- items of nodes are items of entries
    items-are : (l : List ℕ) → items_of (map (entry_at g.plan) l) ≡ map (item_at g.plan) l
    items-are l = map-map (λ (e : Entry). e.item) (entry_at g.plan) l

    -- The others of y, where y is of item c.
    pub before-other : (c : ℕ) → g.plan.col y ≡ c + 1 → (d : Entry) → In d (map (entry_at g.plan) (keep g.on (span (g.plan.first k) y))) → d.item ≢ c
    before-other c e d m q =
        let w = In-map (entry_at g.plan) (keep g.on (span (g.plan.first k) y)) m in
        let v = keep→ g.on (span (g.plan.first k) y) w.1 in
        let r = In-span (g.plan.first k) y v.0 in
        let t : w.0 < g.plan.past k = omega (arith, r.1, above) in
        let h = linked-below g.plan W g.on l in
        let j = row-entry g.plan W k w.0 h r.0 t in
        let same = W.once w.0 y j l.entry (W.numbered k w.0 h r.0 t ∙ sym l.option) (item-col g.plan W j c (ap (λ (x : Entry). x.item) (sym w.2) ∙ q) ∙ sym e) in
        omega (arith, r.1, same)

    pub around-shown : (c : ℕ) → g.plan.col y ≡ c + 1 → map (item_at g.plan) (others g y) ≡ around c (option_at (state_of g) k)
    around-shown c e =
        ap (map (item_at g.plan)) others-parts
        ∙ sym (items-are (after ++ before))
        ∙ ap items_of (map-append (entry_at g.plan) after before)
        ∙ sym (around-at c (entry_at g.plan y) (map (entry_at g.plan) after) (col-item g.plan W y c e) (map (entry_at g.plan) before) (before-other c e))
        ∙ ap (around c) (sym option-parts)
      where
        after : List ℕ
        after = keep g.on (span (y + 1) (g.plan.past k))

        before : List ℕ
        before = keep g.on (span (g.plan.first k) y)

    -- Where no node before y is full, y's is the first entry, and its others are those behind it.
    module _ (f : full_before g y ≡ false) where
      pub row_first : keep g.on (span (g.plan.first k) y) ≡ []
      row_first =
          sym (kept (g.plan.first k) y (omega arith) (omega (arith, above)))
          ∙ ap (λ (a : ℕ). keep (full g.heads) (span a y)) (sym first-is)
          ∙ keep-none (full g.heads) (span (lo g.plan y) y) (λ z m. none_any (full g.heads) (span (lo g.plan y) y) (false-T f) m)

      pub option-first : option_at (state_of g) k ≡ entry_at g.plan y ∷ map (entry_at g.plan) (keep g.on (span (y + 1) (g.plan.past k)))
      option-first =
          option-parts
          ∙ ap (λ (x : List ℕ). map (entry_at g.plan) x ++ (entry_at g.plan y ∷ map (entry_at g.plan) (keep g.on (span (y + 1) (g.plan.past k))))) row_first

      pub others-behind : others g y ≡ keep g.on (span (y + 1) (g.plan.past k))
      others-behind =
          others-parts ∙ ap (λ (x : List ℕ). keep g.on (span (y + 1) (g.plan.past k)) ++ x) row_first ∙ append-nil (keep g.on (span (y + 1) (g.plan.past k)))

      pub second-shown : map (item_at g.plan) (others g y ++ (y ∷ [])) ≡ second_to_first (option_at (state_of g) k)
      second-shown =
          map-append (item_at g.plan) (others g y) (y ∷ [])
          ∙ ap (λ (x : List ℕ). x ++ (item_at g.plan y ∷ [])) (ap (map (item_at g.plan)) others-behind ∙ sym (items-are (keep g.on (span (y + 1) (g.plan.past k)))))
          ∙ ap second_to_first (sym option-first)
