-- Taking an entry out of its column keeps the lists tidy, and putting it back gives the very lists. Assumes nothing.
use Prim.Native.Nat.{ℕ, ◌+◌, ◌-◌, ◌<◌, ◌≤◌}
use native.Mathlib.Omega.{arith}
use mathlib.Core.Path.{◌≡◌, ◌∙◌, ap, sym, subst}
use Rattle.rules.specs.Bounds.{node_bound}
use mathlib.Core.Logic.{inl, inr, ⊎_elim, ◌≢◌}
use mathlib.Core.Bool.{true, false, false≢true}
use lib.ListN.{length, set, length-set}
use lib.Seq.{get_or-set_same, get_or-set_other, set-set, set-get_or}
use lib.IntN.{ℤ, pos}
use Rattle.links.specs.Head.{item_of, below_zero, head, Growing}
use Rattle.links.specs.Column.{at, cut_up, cut_down, tie_up, tie_down, without}
use Rattle.links.specs.Plan.{start, EntryOf, Header, Planned}
use Rattle.links.specs.Ground.{Ground, tally, Short, Edge, Tidy, Within, cut_heads, cut_one}
use Rattle.links.proofs.Stores.{same?, not_so}
use Rattle.links.proofs.Rings.{without→, without←, without-off, above_in, below_in, tied_down, tied_up, ring_cut}
use Rattle.links.proofs.Plans.{entry-from, entry-till, entry-not-col, entry-no-header, header-before, past-no-entry, past-no-header, before-no-entry, before-no-header}
use Rattle.links.proofs.Tallies.{tally-cut, tally-keep, tally-some, tally-small}

-- A node that is neither a header nor an entry is in no column.
pub off-column : (g : Ground) → Tidy g → (y : ℕ) → (Header g.plan y → ⊥) → (EntryOf g.plan y → ⊥) → g.on y ≡ false
off-column g t y nh ne = not_so (g.on y) (λ e. ⊎_elim nh ne (t.masked y e))

module _ (g : Ground) (t : Tidy g) where
  W : Planned g.plan
  W = t.planned

  -- boundaries are in no column
  pub past_off : (k : ℕ) → k < g.plan.M → g.plan.first k < g.plan.past k → g.on (g.plan.past k) ≡ false
  past_off k h row = off-column g t (g.plan.past k) (past-no-header g.plan W k h row) (past-no-entry g.plan W k h row)

  pub before-off : (k : ℕ) → k < g.plan.M → g.plan.first k < g.plan.past k → g.on (g.plan.first k - 1) ≡ false
  before-off k h row = off-column g t (g.plan.first k - 1) (before-no-header g.plan W k h row) (before-no-entry g.plan W k h row)

  -- a header's head is a length: at least 1 where an entry is in the column, and small
  module _ (x : ℕ) (w : Within g x) where
    col-header : Header g.plan (g.plan.col x)
    col-header = W.entry x w.entry

    pub col-in : g.plan.col x < length g.heads
    col-in = omega (arith, header-before g.plan W (g.plan.col x) col-header, W.room, t.heads-in)

    pub length-is : head g.heads (g.plan.col x) ≡ pos (tally g.plan g.on (g.plan.col x))
    length-is = t.counts (g.plan.col x) col-header w.header

    pub length_some : 0 < item_of (head g.heads (g.plan.col x))
    length_some = rw length-is (tally-some g.plan g.on x (entry-from g.plan W x w.entry) (entry-till g.plan W x w.entry) w.on)

    pub length-small : item_of (head g.heads (g.plan.col x)) < node_bound
    length-small = rw length-is (omega (arith, tally-small g.plan g.on (g.plan.col x), W.small))

    -- what unlinking asks of the lists
    pub node_in : x < g.plan.N
    node_in = entry-till g.plan W x w.entry

    pub cut-up-in : at g.up x < length g.down
    cut-up-in = above_in g.plan.N g.plan.col g.on g.up g.down t.ring x w.on

    pub cut-down-in : at g.down x < length g.up
    cut-down-in = below_in g.plan.N g.plan.col g.on g.up g.down t.ring x w.on

    -- Off the column of x nothing changes.
    pub cut-head : (y : ℕ) → y ≢ g.plan.col x → head (cut_heads g x) y ≡ head g.heads y
    cut-head y n = get_or-set_other g.heads (g.plan.col x) y (pos (item_of (head g.heads (g.plan.col x)) - 1)) (pos 0) n

    pub cut-up-off : (y : ℕ) → g.on y ≡ false → at (cut_up g.up g.down x) y ≡ at g.up y
    cut-up-off y o = get_or-set_other g.up (at g.down x) y (at g.up x) 0 (λ e. false≢true (sym o ∙ ap g.on e ∙ (t.ring.tied x w.on).below_on))

    pub cut-down-off : (y : ℕ) → g.on y ≡ false → at (cut_down g.up g.down x) y ≡ at g.down y
    cut-down-off y o = get_or-set_other g.down (at g.up x) y (at g.down x) 0 (λ e. false≢true (sym o ∙ ap g.on e ∙ (t.ring.tied x w.on).above_on))

    behind-col : (y : ℕ) → start g.plan ≤ y → y ≢ g.plan.col x
    behind-col y h e = omega (arith, header-before g.plan W (g.plan.col x) col-header, h, e)

    cut_short : (y : ℕ) → EntryOf g.plan y → Short g y → Short (cut_one g x) y
    unfolding cut_one
    cut_short y e s = record {
      none = cut-head y (behind-col y (entry-from g.plan W y e)) ∙ s.none;
      ahead = cut-up-off y s.off ∙ s.ahead;
      back = cut-down-off y s.off ∙ s.back;
      off = without-off g.on x y s.off;
    }

    cut_edge : (k : ℕ) → k < g.plan.M → g.plan.first k < g.plan.past k → Edge (cut_one g x) k
    unfolding cut_one
    cut_edge k h row =
        let e = t.edge k h row in
        let f = W.from k h in
        record {
          number = cut-head (g.plan.past k) (behind-col (g.plan.past k) (omega arith)) ∙ e.number;
          to-first = cut-up-off (g.plan.past k) (past_off k h row) ∙ e.to-first;
          none = ap item_of (cut-head (g.plan.first k - 1) (λ q. before-no-header g.plan W k h row (subst (λ (i : ℕ). Header g.plan i) (sym q) col-header))) ∙ e.none;
          to_last = cut-down-off (g.plan.first k - 1) (before-off k h row) ∙ e.to_last;
        }

    cut-counts : (i : ℕ) → Header g.plan i → without g.on x i ≡ true → head (cut_heads g x) i ≡ pos (tally g.plan (without g.on x) i)
    cut-counts i h o = ⊎_elim own other (same? i (g.plan.col x))
      where
        own : i ≡ g.plan.col x → head (cut_heads g x) i ≡ pos (tally g.plan (without g.on x) i)
        own e =
            let c = tally-cut g.plan g.on x (entry-from g.plan W x w.entry) node_in w.on in
            let s : item_of (head g.heads (g.plan.col x)) ≡ tally g.plan g.on (g.plan.col x) = ap item_of length-is in
            rw e (get_or-set_same g.heads (g.plan.col x) (pos (item_of (head g.heads (g.plan.col x)) - 1)) (pos 0) col-in ∙ ap pos (omega arith))

        other : i ≢ g.plan.col x → head (cut_heads g x) i ≡ pos (tally g.plan (without g.on x) i)
        other n = cut-head i n ∙ t.counts i h (without→ g.on x i o).1 ∙ ap pos (sym (tally-keep g.plan g.on x i (λ e. n (sym e))))

    -- Taking x out keeps the lists tidy.
    pub tidy-cut : Tidy (cut_one g x)
    unfolding cut_one
    tidy-cut = record {
      planned = W;
      masked = λ y o. t.masked y (without→ g.on x y o).1;
      ring = ring_cut g.plan.N g.plan.col g.on g.up g.down t.ring x w.on (entry-not-col g.plan W x w.entry);
      heads-in = rw length-set t.heads-in;
      counts = cut-counts;
      full = λ y e o. cut-head y (behind-col y (entry-from g.plan W y e)) ∙ t.full y e (without→ g.on x y o).1;
      rows = λ y e. ⊎_elim (λ f. inl (cut-head y (behind-col y (entry-from g.plan W y e)) ∙ f)) (λ s. inr (cut_short y e s)) (t.rows y e);
      edge = cut_edge;
    }

    -- Putting it back gives the very lists.
    pub back-up : tie_up (cut_one g x).up (cut_one g x).down x ≡ g.up
    unfolding cut_one
    back-up = tied_up g.plan.N g.plan.col g.on g.up g.down t.ring x w.on

    pub back-down : tie_down (cut_one g x).up (cut_one g x).down x ≡ g.down
    unfolding cut_one
    back-down = tied_down g.plan.N g.plan.col g.on g.up g.down t.ring x w.on

    pub cut-length : item_of (head (cut_one g x).heads (g.plan.col x)) ≡ item_of (head g.heads (g.plan.col x)) - 1
    unfolding cut_one
    cut-length = ap item_of (get_or-set_same g.heads (g.plan.col x) (pos (item_of (head g.heads (g.plan.col x)) - 1)) (pos 0) col-in)

    -- its column may grow again
    pub cut-growing : Growing (cut_one g x).heads (g.plan.col x)
    unfolding cut_one
    cut-growing =
        let c = g.plan.col x in
        (rw length-set col-in, omega (arith, cut-length, length_some, length-small), ap below_zero (get_or-set_same g.heads c (pos (item_of (head g.heads c) - 1)) (pos 0) col-in))

    pub back-heads : set (cut_one g x).heads (g.plan.col x) (pos (item_of (head (cut_one g x).heads (g.plan.col x)) + 1)) ≡ g.heads
    unfolding cut_one
    back-heads =
        let c = g.plan.col x in
        let some = length_some in
        let e : item_of (head (cut_heads g x) c) + 1 ≡ item_of (head g.heads c) = ap (λ (l : ℕ). l + 1) cut-length ∙ omega arith in
        rw (e, set-set) (ap (λ (z : ℤ). set g.heads c z) (ap pos (ap item_of length-is) ∙ sym length-is) ∙ set-get_or g.heads c (pos 0))

-- A node that is in its column stays there when another is taken out.
pub within-cut : (g : Ground) → Tidy g → (x : ℕ) → Within g x → {y : ℕ} → Within g y → y ≢ x → Within (cut_one g x) y
unfolding cut_one
within-cut g t x w {y} v n = record {
  entry = v.entry;
  on = without← g.on x y n v.on;
  header = without← g.on x (g.plan.col y) (λ e. entry-no-header g.plan t.planned x w.entry (subst (λ (i : ℕ). Header g.plan i) e (t.planned.entry y v.entry))) v.header;
}
