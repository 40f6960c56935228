-- The plan of a state: where its options lie, that it is a plan, and that it shows the state. Assumes nothing.
use Rattle.std.proofs.Common.{◌≡◌, ℕ, zero, suc, ◌+◌, ◌-◌, ◌<◌, ◌≤◌, T, List, [], ◌∷◌, map, length, get_or, sym, refl, ap, ◌∙◌, subst, ⊎_elim, arith, le-ltb, lt-ltb}
use Rattle.rules.specs.Bounds.{node_bound}
use mathlib.Core.List.{Memᴰ as In}
use lib.ListN.{get_or-eq_default, get_or-map, length-map}
use Rattle.rules.specs.Lists.{from}
use Rattle.rules.specs.Problem.{Entry}
use Rattle.rules.specs.State.{State, option_at, items_of}
use Rattle.rules.specs.Promises.{distinct}
use Rattle.theorems.proofs.Words.Tests.{true-T}
use Rattle.theorems.proofs.Words.Lists.{get_or-In, keep_all}
use Rattle.theorems.proofs.Words.Places.{get_or-inj}
use Rattle.links.specs.Plan.{EntryOf, Header, Planned}
use Rattle.links.specs.Row.{span}
use Rattle.links.specs.Shown.{entry_at, row_of, shown_row, shown}
use Rattle.links.proofs.Stores.{less?}
use Rattle.links.proofs.Spans.{In-span}
use Rattle.links.proofs.Plans.{row-entry}
use Rattle.building.specs.Layout.{size_of, first_node, number_at, node_entry, plan_for}
use Rattle.building.specs.Laid.{every}
use Rattle.building.proofs.Masks.{entry-every}

-- Where options lie

pub size-live : (o : List Entry) → 0 < length o → size_of o ≡ length o + 1
size-live [] h = absurd (omega arith)
size-live (e ∷ o) h = omega arith

size-length : (o : List Entry) → length o ≤ size_of o
size-length [] = omega arith
size-length (e ∷ o) = omega arith

pub first-zero : (b : ℕ) (s : State) → first_node b s 0 ≡ b
first-zero b [] = refl
first-zero b (o ∷ s) = refl

pub first_more : (b : ℕ) (s : State) (k : ℕ) → k < length s → first_node b s (suc k) ≡ first_node b s k + size_of (option_at s k)
first_more b [] k h = absurd (omega arith)
first_more b (o ∷ s) zero h = first-zero (b + size_of o) s
first_more b (o ∷ s) (suc k) h = first_more (b + size_of o) s k (omega arith)

first_above : (b : ℕ) (s : State) (k : ℕ) → b ≤ first_node b s k
first_above b [] k = omega arith
first_above b (o ∷ s) zero = omega arith
first_above b (o ∷ s) (suc k) = let r = first_above (b + size_of o) s k in omega arith

first-rises : (b : ℕ) (s : State) (k l : ℕ) → k ≤ l → first_node b s k ≤ first_node b s l
first-rises b [] k l h = omega arith
first-rises b (o ∷ s) zero l h = first_above b (o ∷ s) l
first-rises b (o ∷ s) (suc k) zero h = absurd (omega arith)
first-rises b (o ∷ s) (suc k) (suc l) h = first-rises (b + size_of o) s k l (omega arith)

number_is : (b : ℕ) (s : State) (k y : ℕ) → k < length s → first_node b s k ≤ y → y < first_node b s k + length (option_at s k) → number_at b s y ≡ k
number_is b [] k y h f t = absurd (omega arith)
number_is b (o ∷ s) zero y h f t = let z = size-length o in rw (lt-ltb y (b + size_of o) (omega arith))
number_is b (o ∷ s) (suc k) y h f t =
    let a = first_above (b + size_of o) s k in
    rw (le-ltb y (b + size_of o) (omega arith)) (ap suc (number_is (b + size_of o) s k y (omega arith) f t))

-- the entry at place j of option k
pub node-is : (b : ℕ) (s : State) (k j : ℕ) → k < length s → j < length (option_at s k)
    → node_entry b s (first_node b s k + j) ≡ get_or (option_at s k) j (record { item = 0; colour = 0 })
node-is b s k j h l =
    let e = number_is b s k (first_node b s k + j) h (omega arith) (omega arith) in
    let i : first_node b s k + j - first_node b s k ≡ j = omega arith in
    rw e (ap (λ (z : ℕ). get_or (option_at s k) z (record { item = 0; colour = 0 })) i)

-- An option's entries are put in a list's order, so the list is what they show.
map_row : {A : Type 0} (d : A) (f : ℕ → A) (i : ℕ) (l : List A) → ((k : ℕ) → k < length l → f (i + k) ≡ get_or l k d) → map f (from i (length l)) ≡ l
map_row d f i [] h = refl
map_row d f i (x ∷ l) h =
    let z : i + 0 ≡ i = omega arith in
    let a : f i ≡ x = ap f (sym z) ∙ h 0 (omega arith) in
    rw (a, map_row d f (suc i) l (λ k m. let e : suc i + k ≡ i + suc k = omega arith in ap f e ∙ h (suc k) (omega arith)))

-- A state of n items, in which no option holds an item twice.
module _ (n : ℕ) (s : State) (small : first_node (n + 2) s (length s) < node_bound) (few : length s < node_bound)
    (items-below : (o : List Entry) → In o s → (e : Entry) → In e o → e.item < n) (once : (o : List Entry) → In o s → T (distinct (items_of o))) where
  option-in : (k : ℕ) → k < length s → In (option_at s k) s
  option-in k h = get_or-In s k [] h

  -- the entry of any node: one of its option, or none
  item-of : (k j : ℕ) → (get_or (option_at s k) j (record { item = 0; colour = 0 })).item ≤ n
  item-of k j = ⊎_elim (λ h. in-option h) (λ h. none (get_or-eq_default s [] h)) (less? k (length s))
    where
      none : option_at s k ≡ [] → (get_or (option_at s k) j (record { item = 0; colour = 0 })).item ≤ n
      none e = rw e (omega arith)

      in-option : k < length s → (get_or (option_at s k) j (record { item = 0; colour = 0 })).item ≤ n
      in-option h =
          ⊎_elim (λ l. let z = items-below (option_at s k) (option-in k h) _ (get_or-In (option_at s k) j (record { item = 0; colour = 0 }) l) in omega arith)
          (λ l. let z = get_or-eq_default (option_at s k) (record { item = 0; colour = 0 }) l in rw z (omega arith)) (less? j (length (option_at s k)))

  -- a node behind the headers is in the column of its entry
  col-is : (y : ℕ) → n + 2 ≤ y → (plan_for n s).col y ≡ (node_entry (n + 2) s y).item + 1
  unfolding plan_for
  col-is y h = rw (le-ltb y (n + 2) h)

  live : (k : ℕ) → (plan_for n s).first k < (plan_for n s).past k → 0 < length (option_at s k)
  unfolding plan_for
  live k h = omega arith

  -- the option behind option k begins behind its boundary
  next-first : (k l : ℕ) → k < l → k < length s → 0 < length (option_at s k) → (plan_for n s).past k < first_node (n + 2) s l
  unfolding plan_for
  next-first k l h m o =
      let a = first_more (n + 2) s k m in
      let z = size-live (option_at s k) o in
      let r = first-rises (n + 2) s (suc k) l (omega arith) in
      omega arith

  -- an entry's place in its option
  module _ (y : ℕ) (e : EntryOf (plan_for n s) y) where
    abbrev k : ℕ
    k = number_at (n + 2) s y

    abbrev j : ℕ
    j = y - first_node (n + 2) s k

    k-in : k < length s
    unfolding plan_for
    k-in = e.option

    j-in : j < length (option_at s k)
    unfolding plan_for
    j-in = omega (arith, e.from, e.till)

    behind : n + 2 ≤ y
    unfolding plan_for
    behind = omega (arith, first_above (n + 2) s k, e.from)

    entry_in : In (node_entry (n + 2) s y) (option_at s k)
    entry_in = get_or-In (option_at s k) j (record { item = 0; colour = 0 }) j-in

    item-below : (node_entry (n + 2) s y).item < n
    item-below = items-below (option_at s k) (option-in k k-in) (node_entry (n + 2) s y) entry_in

    col-header : Header (plan_for n s) ((plan_for n s).col y)
    unfolding plan_for
    col-header = let c = col-is y behind in let l = item-below in record { above = rw c (omega arith); below = rw c (omega arith) }

    item-at : get_or (items_of (option_at s k)) j 0 ≡ (node_entry (n + 2) s y).item
    item-at = get_or-map (λ (d : Entry). d.item) (option_at s k) j (record { item = 0; colour = 0 })

  one-node : (y z : ℕ) → EntryOf (plan_for n s) y → EntryOf (plan_for n s) z → (plan_for n s).number y ≡ (plan_for n s).number z → (plan_for n s).col y ≡ (plan_for n s).col z → y ≡ z
  unfolding plan_for
  one-node y z e f q c =
      let i : number_at (n + 2) s z ≡ number_at (n + 2) s y = sym q in
      let w : (node_entry (n + 2) s y).item + 1 ≡ (node_entry (n + 2) s z).item + 1 = sym (col-is y (behind y e)) ∙ c ∙ col-is z (behind z f) in
      let v : (node_entry (n + 2) s y).item ≡ (node_entry (n + 2) s z).item = omega arith in
      let o = option_at s (number_at (n + 2) s y) in
      let l : j z f < length (items_of o) = rw length-map (subst (λ (x : ℕ). j z f < length (option_at s x)) i (j-in z f)) in
      let m : j y e < length (items_of o) = rw length-map (j-in y e) in
      let u : get_or (items_of o) (j z f) 0 ≡ (node_entry (n + 2) s z).item =
      subst (λ (x : ℕ). get_or (items_of (option_at s x)) (j z f) 0 ≡ (node_entry (n + 2) s z).item) i (item-at z f) in
      let p : j y e ≡ j z f = get_or-inj (items_of o) (once o (option-in (number_at (n + 2) s y) (k-in y e))) m l (item-at y e ∙ v ∙ sym u) in
      let g : first_node (n + 2) s (number_at (n + 2) s z) ≡ first_node (n + 2) s (number_at (n + 2) s y) = ap (first_node (n + 2) s) i in
      omega (arith, p, g, e.from, f.from)

  pub planned-for : Planned (plan_for n s)
  unfolding plan_for
  planned-for = record {
    small = small;
    options-small = few;
    room = first_above (n + 2) s (length s);
    low = λ x. ⊎_elim (λ h. rw (lt-ltb x (n + 2) h) (omega arith))
        (λ h. let i = item-of (number_at (n + 2) s x) (x - first_node (n + 2) s (number_at (n + 2) s x)) in rw (le-ltb x (n + 2) h) (omega arith)) (less? x (n + 2));
    header = λ i h. let l = h.below in rw (lt-ltb i (n + 2) (omega arith));
    entry = col-header;
    from = λ k h. first_above (n + 2) s k;
    order = λ k h. omega arith;
    till = λ k h row. next-first k (length s) h h (live k row);
    apart = λ k l h m r t. next-first k l h (omega arith) (live k r);
    numbered = λ k y h f t. number_is (n + 2) s k y h f t;
    once = one-node;
  }

  -- what the plan has at place j of option k
  pub spelled-col : (k j : ℕ) → k < length s → j < length (option_at s k)
      → (plan_for n s).col (first_node (n + 2) s k + j) ≡ (get_or (option_at s k) j (record { item = 0; colour = 0 })).item + 1
  spelled-col k j h l = let f = first_above (n + 2) s k in col-is (first_node (n + 2) s k + j) (omega arith) ∙ ap (λ (d : Entry). d.item + 1) (node-is (n + 2) s k j h l)

  pub spelled-tint : (k j : ℕ) → k < length s → j < length (option_at s k)
      → (plan_for n s).tint (first_node (n + 2) s k + j) ≡ (get_or (option_at s k) j (record { item = 0; colour = 0 })).colour
  unfolding plan_for
  spelled-tint k j h l = ap (λ (d : Entry). d.colour) (node-is (n + 2) s k j h l)

  pub spelled-entry : (k j : ℕ) → k < length s → j < length (option_at s k) → EntryOf (plan_for n s) (first_node (n + 2) s k + j)
  unfolding plan_for
  spelled-entry k j h l = row-entry (plan_for n s) planned-for k (first_node (n + 2) s k + j) h (omega arith) (omega arith)

  -- the plan shows the state
  shows-row : (k : ℕ) → k < length s → shown_row (plan_for n s) (every (plan_for n s)) k ≡ option_at s k
  unfolding plan_for
  shows-row k h =
      let f = first_node (n + 2) s k in
      let d : f + length (option_at s k) - f ≡ length (option_at s k) = omega arith in
      let whole : row_of (plan_for n s) (every (plan_for n s)) k ≡ span f (f + length (option_at s k)) =
      keep_all (every (plan_for n s)) (span f (f + length (option_at s k)))
      (λ y m. let w = In-span f (f + length (option_at s k)) m in true-T (entry-every (plan_for n s) y (row-entry (plan_for n s) planned-for k y h w.0 w.1))) in
      ap (map (entry_at (plan_for n s))) (whole ∙ ap (from f) d)
      ∙ map_row (record { item = 0; colour = 0 }) (entry_at (plan_for n s)) f (option_at s k) (λ j l. shows-entry k j h l)
    where
      shows-entry : (k j : ℕ) → k < length s → j < length (option_at s k) → entry_at (plan_for n s) (first_node (n + 2) s k + j) ≡ get_or (option_at s k) j (record { item = 0; colour = 0 })
      shows-entry k j h l =
          let e = get_or (option_at s k) j (record { item = 0; colour = 0 }) in
          let c = spelled-col k j h l in
          let i : (plan_for n s).col (first_node (n + 2) s k + j) - 1 ≡ e.item = omega arith in
          ap (λ (z : ℕ). record { item = z; colour = (plan_for n s).tint (first_node (n + 2) s k + j) }) i
          ∙ ap (λ (z : ℕ). record { item = e.item; colour = z }) (spelled-tint k j h l)

  pub shows-state : shown (plan_for n s) (every (plan_for n s)) ≡ s
  unfolding shown plan_for
  shows-state = map_row [] (shown_row (plan_for n s) (every (plan_for n s))) 0 s
      (λ k h. let z : 0 + k ≡ k = omega arith in ap (shown_row (plan_for n s) (every (plan_for n s))) z ∙ shows-row k h)
