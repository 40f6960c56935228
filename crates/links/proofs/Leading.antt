-- The walk back from an entry over shortened ones, a lemma for each of its steps. Assumes nothing.
use Prim.Native.Nat.{ℕ, ◌+◌, ◌-◌, ◌<◌, ◌≤◌}
use native.Mathlib.Omega.{arith}
use mathlib.Core.Path.{◌≡◌, ◌∙◌, ap, sym}
use mathlib.Core.Logic.{◌⊎◌, inl, inr, ⊎_elim, ◌≢◌}
use mathlib.Core.Bool.{true, false, not, false≢true, true≢false}
use mathlib.Core.List.{List}
use borrow.Author.Tests.{eq-eqb, ne_eqb, le-ltb}
use lib.Dec.{eqb, ltb}
use lib.ListN.{length}
use lib.IntN.{ℤ, pos, negsuc}
use Rattle.rules.specs.Lists.{any}
use Rattle.theorems.proofs.Words.Tests.{T_true}
use Rattle.theorems.proofs.Words.Lists.{any←}
use Rattle.links.specs.Head.{item_of, zero_head, head}
use Rattle.links.specs.Column.{at}
use Rattle.links.specs.Plan.{lo, hi, EntryOf, Planned}
use Rattle.links.specs.Ground.{Ground, Short, Edge, Tidy}
use Rattle.links.specs.Row.{span, full}
use Rattle.links.proofs.Stores.{same?}
use Rattle.links.proofs.Plans.{entry_row, entry-till, row-mate}
use Rattle.links.proofs.Spans.{span_none, span-begin, span-In}
use Rattle.links.specs.Lead.{Led, Leads}

-- The walk is at q: it has met shortened entries only.
pub record Back (g : Ground) (r q : ℕ) : Type 0 where
  pub low : lo g.plan r ≤ q + 1
  pub high : q < r
  pub over : any (full g.heads) (span (q + 1) r) ≡ false

module _ (g : Ground) (t : Tidy g) (r : ℕ) (e : EntryOf g.plan r) where
  W : Planned g.plan
  W = t.planned

  low-start : 2 ≤ lo g.plan r
  low-start = omega (arith, W.from (g.plan.number r) e.option)

  edge : Edge g (g.plan.number r)
  edge = t.edge (g.plan.number r) e.option (entry_row g.plan W r e)

  pub back-begin : Back g r (r - 1)
  back-begin = record
      { low = omega (arith, e.from); high = omega (arith, e.from, low-start); over = ap (any (full g.heads)) (span_none (r - 1 + 1) r (omega arith)) }

  pub back_some : (q : ℕ) → Back g r q → (0 < q) × (q < g.plan.N)
  back_some q b = (omega (arith, b.low, low-start), omega (arith, b.high, entry-till g.plan W r e))

  -- a node of the row is full or short
  inner : (q : ℕ) → Back g r q → q + 1 ≢ lo g.plan r → EntryOf g.plan q
  inner q b n = row-mate g.plan W r q e (omega (arith, b.low, n)) (omega (arith, b.high, e.till))

  pub back_step : (q : ℕ) → Back g r q → zero_head (head g.heads q) ≡ true → at g.down q + 1 ≡ q → Back g r (q - 1)
  back_step q b z d = record { low = omega (arith, b.low, inside); high = omega (arith, b.high); over = more }
    where
      not-edge : q + 1 ≢ lo g.plan r
      not-edge s =
          let l : q ≡ lo g.plan r - 1 = omega arith in
          let f : at g.down q ≡ hi g.plan r - 1 = ap (at g.down) l ∙ edge.to_last in
          omega (arith, f, d, s, entry_row g.plan W r e)

      inside : lo g.plan r ≤ q
      inside = omega (arith, b.low, not-edge)

      empty : full g.heads q ≡ false
      empty = none-full (head g.heads q) z
        where
          none-full : (h : ℤ) → zero_head h ≡ true → ltb 0 (item_of h) ≡ false
          none-full (pos i) u = le-ltb 0 i (omega (arith, borrow.Author.Tests.eqb-true i 0 u))
          none-full (negsuc k) u = absurd (false≢true u)

      more : any (full g.heads) (span (q - 1 + 1) r) ≡ false
      more =
          let s : q - 1 + 1 ≡ q = omega (arith, b.low, low-start, inside) in
          rw (s, span-begin q r b.high, empty) b.over

  pub back_done : (q : ℕ) → Back g r q → (zero_head (head g.heads q) ≡ false) ⊎ (at g.down q + 1 ≢ q) → Leads g r q
  back_done q b out = ⊎_elim boundary entry (same? (q + 1) (lo g.plan r))
    where
      boundary : q + 1 ≡ lo g.plan r → Leads g r q
      boundary s =
          let l : q ≡ lo g.plan r - 1 = omega arith in
          let z : item_of (head g.heads q) ≡ 0 = ap (λ (y : ℕ). item_of (head g.heads y)) l ∙ edge.none in
          let f : any (full g.heads) (span (lo g.plan r) r) ≡ false = ap (λ (y : ℕ). any (full g.heads) (span y r)) (sym s) ∙ b.over in
          record { inside = (back_some q b).1; first = eq-eqb (item_of (head g.heads q)) 0 z ∙ sym (ap not f); before = λ u. l }

      entry : q + 1 ≢ lo g.plan r → Leads g r q
      entry n = ⊎_elim whole (λ s. absurd (passed s out)) (t.rows q (inner q b n))
        where
          passed : Short g q → (zero_head (head g.heads q) ≡ false) ⊎ (at g.down q + 1 ≢ q) → ⊥
          passed s (inl u) = true≢false (sym (ap zero_head s.none) ∙ u)
          passed s (inr u) = u (omega (arith, s.back, (back_some q b).0))

          whole : head g.heads q ≡ pos (g.plan.col q) → Leads g r q
          whole f =
              let i : 0 < item_of (head g.heads q) = rw f (W.entry q (inner q b n)).above in
              let m : any (full g.heads) (span (lo g.plan r) r) ≡ true =
              T_true _ (any← (full g.heads) (span (lo g.plan r) r) (span-In (lo g.plan r) r (omega (arith, b.low, n)) b.high) (lib.Dec.lt→ltb 0 (item_of (head g.heads q)) i)) in
              record {
                inside = (back_some q b).1;
                first = ne_eqb (item_of (head g.heads q)) 0 (λ z. omega (arith, i, z)) ∙ sym (ap not m);
                before = λ u. absurd (true≢false (sym u ∙ ap not m));
              }

-- The same, of lists that are the ground's.
module _ (g : Ground) (r : ℕ) (heads : List ℤ) (down : List ℕ) (l : Led g r heads down) where
  pub led-begin : Back g r (r - 1)
  led-begin = back-begin g l.tidy r l.entry

  module _ (q : ℕ) (b : Back g r q) where
    pub led-heads : q < length heads
    led-heads = rw l.heads-are (omega (arith, (back_some g l.tidy r l.entry q b).1, l.tidy.heads-in))

    pub led-down : q < length down
    led-down = rw l.down-are (omega (arith, (back_some g l.tidy r l.entry q b).1, l.tidy.ring.downs))

    pub led-more : 1 ≤ q
    led-more = (back_some g l.tidy r l.entry q b).0

    pub led-step : zero_head (head heads q) ≡ true → at down q + 1 ≡ q → Back g r (q - 1)
    led-step z d = back_step g l.tidy r l.entry q b (rw l.heads-are at z) (rw l.down-are at d)

    pub led-done : (zero_head (head heads q) ≡ false) ⊎ (at down q + 1 ≢ q) → Leads g r q
    led-done out = back_done g l.tidy r l.entry q b (⊎_elim (λ z. inl (rw l.heads-are at z)) (λ n. inr (rw l.down-are at n)) out)
