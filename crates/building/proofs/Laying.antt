-- Laying out the nodes of a plan one after another: from cleared headers, entry by entry, boundary by boundary, until the lists are tidy.
-- Assumes nothing.
use Rattle.std.proofs.Common.{◌≡◌, ℕ, ◌+◌, ◌-◌, ◌<◌, ◌≤◌, Bool, true, false, ◌≢◌, List, length, set, ℤ}
use Rattle.std.proofs.Common.{pos, negsuc, sym, refl, ap, ◌∙◌, subst, inl, inr, ⊎_elim, arith, length-set, get_or-set_other, get_or-set_same, lt-length-set}
use Rattle.rules.specs.Bounds.{node_bound}
use Rattle.links.specs.Head.{item_of, below_zero, head, Growing}
use Rattle.links.specs.Column.{at, without, Tied, Ring}
use Rattle.links.specs.Plan.{Plan, start, EntryOf, Header, Planned}
use Rattle.links.specs.Ground.{tally, Edge, Tidy}
use Rattle.links.specs.Shown.{Tinted, Ready}
use Rattle.links.proofs.Stores.{same?, less?}
use Rattle.links.proofs.Plans.{entry-from, entry-till, header-before, entry-no-header, past-no-entry, past-no-header, before-no-entry, before-no-header}
use Rattle.links.proofs.Tallies.{tally-cut, tally-keep, tally-has, tally-small}
use Rattle.building.specs.Laid.{every, below, Closed, Laid, whole}
use Rattle.building.specs.Build.{Cleared}
use Rattle.building.proofs.Masks.{every→, header-every, entry-every, below→, below←, below-off, below-less-at, below_less, below-same, below_all, below-headers, header-below}
use Rattle.building.proofs.RingEnd.{end_up, end_down, ring-end, ring-off}

-- the heads when node x is put into column i
abbrev pub end_heads : List ℤ → ℕ → ℕ → List ℤ
end_heads heads i x = set (set heads i (pos (item_of (head heads i) + 1))) x (pos i)

module _ (P : Plan) (W : Planned P) where
  -- Nothing is laid out but the headers.
  module _ (heads : List ℤ) (up down tints marks : List ℕ) (c : Cleared P.n heads up down marks)
      (h : P.N ≤ length heads) (u : P.N ≤ length up) (d : P.N ≤ length down) (t : P.N ≤ length tints) where
    alone : (y : ℕ) → below P (start P) y ≡ true → Tied P.N P.col (below P (start P)) up down y
    alone y o =
        let i = below-headers P W y o in
        let a = c.above y i.below in
        let b = c.beneath y i.below in
        record {
          inside = omega (arith, header-before P W y i, W.room);
          below_on = rw b o;
          above_on = rw a o;
          below-col = ap P.col b;
          below_up = rw b a;
          above_down = rw a b;
          rises = inr (b ∙ sym (W.header y i));
        }

    none-there : (i : ℕ) → tally P (below P (start P)) i ≡ 0
    none-there i = ⊎_elim (λ e. e) (λ n. some n) (same? (tally P (below P (start P)) i) 0)
      where
        some : tally P (below P (start P)) i ≢ 0 → tally P (below P (start P)) i ≡ 0
        some n =
            let w = tally-has P (below P (start P)) i (omega arith) in
            absurd (omega (arith, header-before P W w.0 (below-headers P W w.0 w.3), w.1))

    pub laid-begin : Laid P (start P) heads up down tints
    laid-begin = record {
      ring = record { ups = u; downs = d; tied = alone };
      heads-in = h;
      tints-in = t;
      counts = λ i k. c.empty i (omega (arith, k.below)) ∙ ap pos (sym (none-there i));
      full = λ y e l. absurd (omega (arith, entry-from P W y e, l));
      tint = λ y e l. absurd (omega (arith, entry-from P W y e, l));
      spacer = λ k l row s. ap item_of (c.empty (P.first k - 1) (omega arith));
      edge = λ k l row s. absurd (omega (arith, W.from k l, row, s));
    }

  module _ (x : ℕ) (heads : List ℤ) (up down tints : List ℕ) (L : Laid P x heads up down tints) where
    -- One entry more, at the end of its column.
    module _ (e : EntryOf P x) where
      c-header : Header P (P.col x)
      c-header = W.entry x e

      before : P.col x < x
      before = omega (arith, header-before P W (P.col x) c-header, entry-from P W x e)

      inside : x < P.N
      inside = entry-till P W x e

      ring-was : Ring P.N P.col (without (below P (x + 1)) x) up down
      ring-was = rw (below_less P x) L.ring

      c-on : below P x (P.col x) ≡ true
      c-on = header-below P W x (P.col x) (entry-from P W x e) c-header

      x-on : below P (x + 1) x ≡ true
      x-on = below← P (x + 1) x (entry-every P x e) (omega arith)

      ring-more : Ring P.N P.col (below P (x + 1)) (end_up up (P.col x) x) (end_down up down (P.col x) x)
      ring-more =
          ring-end P.N P.col W.low (below P (x + 1)) x up down ring-was inside x-on (below-less-at P x (P.col x) ∙ c-on) (W.header (P.col x) c-header)
          (λ y o. (below→ P x y (sym (below-less-at P x y) ∙ o)).1)

      -- the heads
      room : P.col x < length heads
      room = omega (arith, before, inside, L.heads-in)

      length-was : item_of (head heads (P.col x)) ≡ tally P (below P x) (P.col x)
      length-was = ap item_of (L.counts (P.col x) c-header)

      tally-more : tally P (below P (x + 1)) (P.col x) ≡ tally P (below P x) (P.col x) + 1
      tally-more =
          let t = tally-cut P (below P (x + 1)) x (entry-from P W x e) inside x-on in
          let s : tally P (without (below P (x + 1)) x) (P.col x) ≡ tally P (below P x) (P.col x) = ap (λ (m : ℕ → Bool). tally P m (P.col x)) (below_less P x) in
          omega arith

      tally-same : (i : ℕ) → i ≢ P.col x → tally P (below P (x + 1)) i ≡ tally P (below P x) i
      tally-same i n = sym (tally-keep P (below P (x + 1)) x i (λ q. n (sym q))) ∙ ap (λ (m : ℕ → Bool). tally P m i) (below_less P x)

      heads-own : head (end_heads heads (P.col x) x) x ≡ pos (P.col x)
      heads-own = get_or-set_same (set heads (P.col x) _) x (pos (P.col x)) (pos 0) (lt-length-set heads (P.col x) _ (omega (arith, inside, L.heads-in)))

      heads-col : head (end_heads heads (P.col x) x) (P.col x) ≡ pos (item_of (head heads (P.col x)) + 1)
      heads-col = get_or-set_other (set heads (P.col x) _) x (P.col x) (pos (P.col x)) (pos 0) (λ q. omega (arith, before, q)) ∙ get_or-set_same heads (P.col x) _ (pos 0) room

      heads-other : (y : ℕ) → y ≢ x → y ≢ P.col x → head (end_heads heads (P.col x) x) y ≡ head heads y
      heads-other y n m = get_or-set_other (set heads (P.col x) _) x y (pos (P.col x)) (pos 0) n ∙ get_or-set_other heads (P.col x) y _ (pos 0) m

      counts-more : (i : ℕ) → Header P i → head (end_heads heads (P.col x) x) i ≡ pos (tally P (below P (x + 1)) i)
      counts-more i h = ⊎_elim (λ q. rw q (heads-col ∙ ap pos (ap (λ (l : ℕ). l + 1) length-was ∙ sym tally-more))) (λ n. other n) (same? i (P.col x))
        where
          other : i ≢ P.col x → head (end_heads heads (P.col x) x) i ≡ pos (tally P (below P (x + 1)) i)
          other n = heads-other i (λ q. entry-no-header P W x e (subst (λ (z : ℕ). Header P z) q h)) n ∙ L.counts i h ∙ ap pos (sym (tally-same i n))

      behind : (y : ℕ) → start P ≤ y → y ≢ P.col x
      behind y h q = omega (arith, header-before P W (P.col x) c-header, h, q)

      -- no boundary is written: neither that before an option, nor that behind one
      before-kept : (k : ℕ) → k < P.M → P.first k < P.past k → (P.first k - 1 ≢ x) × (P.first k - 1 ≢ P.col x) × (P.first k - 1 ≢ at up (P.col x))
      before-kept k l row = (
        (λ q. before-no-entry P W k l row (subst (λ (y : ℕ). EntryOf P y) (sym q) e)),
        (λ q. before-no-header P W k l row (subst (λ (y : ℕ). Header P y) (sym q) c-header)),
        (λ q. ⊎_elim (before-no-header P W k l row) (before-no-entry P W k l row)
            (every→ P (P.first k - 1) (ap (every P) q ∙ (below→ P x (at up (P.col x)) (L.ring.tied (P.col x) c-on).above_on).0))),
      )

      past-kept : (k : ℕ) → k < P.M → P.first k < P.past k → (P.past k ≢ x) × (P.past k ≢ P.col x)
      past-kept k l row = (
        (λ q. past-no-entry P W k l row (subst (λ (y : ℕ). EntryOf P y) (sym q) e)),
        (λ q. past-no-header P W k l row (subst (λ (y : ℕ). Header P y) (sym q) c-header)),
      )

      spacer-more : (k : ℕ) → k < P.M → P.first k < P.past k → P.first k ≤ x + 1 → item_of (head (end_heads heads (P.col x) x) (P.first k - 1)) ≡ 0
      spacer-more k l row s =
          let b = before-kept k l row in
          let f = W.from k l in
          let n : P.first k ≢ x + 1 = λ q. b.0 (omega (arith, q)) in
          ap item_of (heads-other (P.first k - 1) b.0 b.1) ∙ L.spacer k l row (omega arith)

      edge_more : (k : ℕ) → k < P.M → P.first k < P.past k → P.past k < x + 1 → Closed P k (end_heads heads (P.col x) x) (end_up up (P.col x) x) (end_down up down (P.col x) x)
      edge_more k l row s =
          let b = before-kept k l row in
          let p = past-kept k l row in
          let c = L.edge k l row (omega (arith, s, p.0)) in
          record {
            number = heads-other (P.past k) p.0 p.1 ∙ c.number;
            to-first = get_or-set_other (set up x _) (P.col x) (P.past k) x 0 p.1 ∙ get_or-set_other up x (P.past k) _ 0 p.0 ∙ c.to-first;
            to_last = get_or-set_other (set down x _) (at up (P.col x)) (P.first k - 1) x 0 b.2 ∙ get_or-set_other down x (P.first k - 1) _ 0 b.0 ∙ c.to_last;
          }

      full-more : (y : ℕ) → EntryOf P y → y < x + 1 → head (end_heads heads (P.col x) x) y ≡ pos (P.col y)
      full-more y f l = ⊎_elim (λ q. rw q heads-own) (λ n. heads-other y n (behind y (entry-from P W y f)) ∙ L.full y f (omega (arith, l, n))) (same? y x)

      tint-more : (y : ℕ) → EntryOf P y → y < x + 1 → at (set tints x (P.tint x)) y ≡ P.tint y
      tint-more y f l =
          ⊎_elim (λ q. rw q (get_or-set_same tints x (P.tint x) 0 (omega (arith, inside, L.tints-in))))
          (λ n. get_or-set_other tints x y (P.tint x) 0 n ∙ L.tint y f (omega (arith, l, n))) (same? y x)

      pub laid-entry : Laid P (x + 1) (end_heads heads (P.col x) x) (end_up up (P.col x) x) (end_down up down (P.col x) x) (set tints x (P.tint x))
      laid-entry = record {
        ring = ring-more;
        heads-in = rw (length-set, length-set) L.heads-in;
        tints-in = rw length-set L.tints-in;
        counts = counts-more;
        full = full-more;
        tint = tint-more;
        spacer = spacer-more;
        edge = edge_more;
      }

      -- what putting it there asks of the lists
      pub entry-small : (P.col x < node_bound) × (x < node_bound) × (at up (P.col x) < node_bound)
      entry-small =
          let a = (L.ring.tied (at up (P.col x)) (L.ring.tied (P.col x) c-on).above_on).inside in
          (omega (arith, before, inside, W.small), omega (arith, inside, W.small), omega (arith, a, W.small))

      growing : Growing heads (P.col x)
      growing =
          let t = tally-more in
          let s = tally-small P (below P (x + 1)) (P.col x) in
          (room, omega (arith, length-was, t, s, W.small), ap below_zero (L.counts (P.col x) c-header))

      pub entry_in : Growing heads (P.col x) × (P.col x < length up) × (at up (P.col x) < length down)
      entry_in =
          let a = (L.ring.tied (at up (P.col x)) (L.ring.tied (P.col x) c-on).above_on).inside in
          (growing, omega (arith, before, inside, L.ring.ups), omega (arith, a, L.ring.downs))

  -- The boundary after option k.
  module _ (k : ℕ) (l : k < P.M) (row : P.first k < P.past k) (heads : List ℤ) (up down tints : List ℕ) (L : Laid P (P.past k) heads up down tints) where
    last_off : below P (P.past k) (P.past k) ≡ false
    last_off = below-off P (P.past k) (P.past k) (omega arith)

    before-off : below P (P.past k) (P.first k - 1) ≡ false
    before-off = go (below P (P.past k) (P.first k - 1)) refl
      where
        go : (b : Bool) → below P (P.past k) (P.first k - 1) ≡ b → b ≡ false
        go true e = absurd (⊎_elim (before-no-header P W k l row) (before-no-entry P W k l row) (every→ P (P.first k - 1) (below→ P (P.past k) (P.first k - 1) e).0))
        go false e = refl

    same : below P (P.past k + 1) ≡ below P (P.past k)
    same = below-same P (P.past k) (past-no-header P W k l row) (past-no-entry P W k l row)

    in-heads : P.past k < length heads
    in-heads = omega (arith, W.till k l row, L.heads-in)

    kept-head : (y : ℕ) → y ≢ P.past k → head (set heads (P.past k) (negsuc k)) y ≡ head heads y
    kept-head y n = get_or-set_other heads (P.past k) y (negsuc k) (pos 0) n

    not-past : (y : ℕ) → EntryOf P y → y ≢ P.past k
    not-past y e q = past-no-entry P W k l row (subst (λ (z : ℕ). EntryOf P z) q e)

    spacer-close : (j : ℕ) → j < P.M → P.first j < P.past j → P.first j ≤ P.past k + 1 → item_of (head (set heads (P.past k) (negsuc k)) (P.first j - 1)) ≡ 0
    spacer-close j m r s = ⊎_elim (λ q. rw q (ap item_of (get_or-set_same heads (P.past k) (negsuc k) (pos 0) in-heads))) (λ n. other n) (same? (P.first j - 1) (P.past k))
      where
        other : P.first j - 1 ≢ P.past k → item_of (head (set heads (P.past k) (negsuc k)) (P.first j - 1)) ≡ 0
        other n = ap item_of (kept-head (P.first j - 1) n) ∙ L.spacer j m r (omega (arith, s, n))

    -- of the option itself, and of those before it
    own-edge : Closed P k (set heads (P.past k) (negsuc k)) (set up (P.past k) (P.first k)) (set down (P.first k - 1) (P.past k - 1))
    own-edge = record {
      number = get_or-set_same heads (P.past k) (negsuc k) (pos 0) in-heads;
      to-first = get_or-set_same up (P.past k) (P.first k) 0 (omega (arith, W.till k l row, L.ring.ups));
      to_last = get_or-set_same down (P.first k - 1) (P.past k - 1) 0 (omega (arith, W.till k l row, L.ring.downs));
    }

    old-edge : (j : ℕ) → j < P.M → P.first j < P.past j → P.past j < P.past k
        → Closed P j (set heads (P.past k) (negsuc k)) (set up (P.past k) (P.first k)) (set down (P.first k - 1) (P.past k - 1))
    old-edge j m r s =
        let c = L.edge j m r s in
        let earlier : P.past j < P.first k = ⊎_elim (λ (q : j < k). W.apart j k q l r row) (λ (q : k ≤ j). late q) (less? j k) in
        record {
          number = kept-head (P.past j) (λ q. omega (arith, s, q)) ∙ c.number;
          to-first = get_or-set_other up (P.past k) (P.past j) (P.first k) 0 (λ q. omega (arith, s, q)) ∙ c.to-first;
          to_last = get_or-set_other down (P.first k - 1) (P.first j - 1) (P.past k - 1) 0 (λ q. omega (arith, earlier, r, q, W.from j m)) ∙ c.to_last;
        }
      where
        late : k ≤ j → P.past j < P.first k
        late q = ⊎_elim (λ (e : k ≡ j). absurd (omega (arith, s, ap P.past e))) (λ n. absurd (omega (arith, W.apart k j (omega (arith, q, n)) m row r, r, s))) (same? k j)

    edge-close : (j : ℕ) → j < P.M → P.first j < P.past j → P.past j < P.past k + 1
        → Closed P j (set heads (P.past k) (negsuc k)) (set up (P.past k) (P.first k)) (set down (P.first k - 1) (P.past k - 1))
    edge-close j m r s = ⊎_elim (λ (e : j ≡ k). rw e own-edge)
        (λ n. old-edge j m r (⊎_elim (λ (q : j < k). omega (arith, W.apart j k q l r row, row))
        (λ q. absurd (omega (arith, W.apart k j (omega (arith, q, n)) m row r, r, s))) (less? j k))) (same? j k)

    pub laid-close : Laid P (P.past k + 1) (set heads (P.past k) (negsuc k)) (set up (P.past k) (P.first k)) (set down (P.first k - 1) (P.past k - 1)) tints
    laid-close = record {
      ring = rw same (ring-off P.N P.col (below P (P.past k)) up down (P.past k) (P.first k - 1) (P.first k) (P.past k - 1) last_off before-off L.ring);
      heads-in = rw length-set L.heads-in;
      tints-in = L.tints-in;
      counts = λ i h. kept-head i (λ q. past-no-header P W k l row (subst (λ (z : ℕ). Header P z) q h)) ∙ L.counts i h ∙ ap (λ (m : ℕ → Bool). pos (tally P m i)) (sym same);
      full = λ y e h. let n = not-past y e in kept-head y n ∙ L.full y e (omega arith);
      tint = λ y e h. let n = not-past y e in L.tint y e (omega arith);
      spacer = spacer-close;
      edge = edge-close;
    }

  -- When all is laid out, the lists are tidy, and every header and every entry is in its column.
  module _ (heads : List ℤ) (up down tints : List ℕ) (L : Laid P P.N heads up down tints) where
    edge_of : (k : ℕ) → k < P.M → P.first k < P.past k → Edge (whole P heads up down) k
    edge_of k l row =
        let t = W.till k l row in
        let c = L.edge k l row t in
        record { number = c.number; to-first = c.to-first; none = L.spacer k l row (omega arith); to_last = c.to_last }

    all-full : (y : ℕ) → EntryOf P y → head heads y ≡ pos (P.col y)
    all-full y e = L.full y e (entry-till P W y e)

    tidy-all : Tidy (whole P heads up down)
    tidy-all = record {
      planned = W;
      masked = every→ P;
      ring = rw (below_all P W) at L.ring;
      heads-in = L.heads-in;
      counts = λ i h o. L.counts i h ∙ ap (λ (m : ℕ → Bool). pos (tally P m i)) (below_all P W);
      full = λ y e o. all-full y e;
      rows = λ y e. inl (all-full y e);
      edge = edge_of;
    }

    pub ready-all : Ready (whole P heads up down)
    ready-all = record { tidy = tidy-all; whole = record { headers = header-every P; mates = λ y z f e n o h. entry-every P z e } }

    pub tinted-all : Tinted P tints
    tinted-all = record { room = L.tints-in; tint = λ y e. L.tint y e (entry-till P W y e) }
