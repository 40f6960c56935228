-- Walking round an option of a tidy ground, forwards and backwards: where each step leads, and what the walk has passed. Assumes nothing.
use Prim.Native.Nat.{ℕ, ◌+◌, ◌-◌, ◌<◌, ◌≤◌}
use native.Mathlib.Omega.{arith}
use mathlib.Core.Path.{◌≡◌, ◌∙◌, ap, sym, subst}
use mathlib.Core.Logic.{◌⊎◌, inl, inr, ⊎_elim, ◌≢◌}
use mathlib.Core.Bool.{true, false, not}
use mathlib.Core.List.{List, [], ◌∷◌, ◌++◌, Memᴰ as In}
use borrow.Author.Tests.{lt-ltb, le-ltb, ltb-true}
use lib.Dec.{ltb}
use lib.IntN.{ℤ, pos}
use Rattle.theorems.proofs.Words.Tests.{T_true}
use Rattle.theorems.proofs.Words.Lists.{keep-cong, any-cong}
use Rattle.rules.specs.Lists.{keep}
use Rattle.links.specs.Head.{item_of, head}
use Rattle.links.specs.Column.{at}
use Rattle.links.specs.Plan.{Plan, start, lo, hi, EntryOf, Header, Planned}
use Rattle.links.specs.Ground.{Ground, Edge, Tidy, taken, after, Fresh}
use Rattle.links.specs.Row.{span, full, passed, walked, others, first_live}
use Rattle.links.specs.Way.{way, way_back}
use Rattle.links.proofs.Stores.{same?, less?, not_so}
use Rattle.links.proofs.Plans.{entry_row, header-before, row-till, row-mate}
use Rattle.links.proofs.Taken.{taken-plan, taken-entry-head, taken-after}
use Rattle.links.proofs.Spans.{In-span, passed-begin, passed-full, passed_over, passed-edge, In-passed, passed-all, way_next, way-jump, back-next, back-jump}

-- a node with an item is full, one with none is not
full-yes : (heads : List ℤ) (y : ℕ) → item_of (head heads y) ≢ 0 → full heads y ≡ true
full-yes heads y n = lt-ltb 0 (item_of (head heads y)) (omega arith)

full-no : (heads : List ℤ) (y : ℕ) → item_of (head heads y) ≡ 0 → full heads y ≡ false
full-no heads y e = le-ltb 0 (item_of (head heads y)) (omega arith)

-- The place of a walk round r.
pub record At (g : Ground) (r q : ℕ) : Type 0 where
  pub from : lo g.plan r ≤ q
  pub till : q ≤ hi g.plan r

module _ (g : Ground) (t : Tidy g) (r : ℕ) (e : EntryOf g.plan r) where
  P : Plan
  P = g.plan

  W : Planned g.plan
  W = t.planned

  row-edge : Edge g (g.plan.number r)
  row-edge = t.edge (g.plan.number r) e.option (entry_row g.plan W r e)

  row_low : start g.plan ≤ lo g.plan r
  row_low = W.from (g.plan.number r) e.option

  -- the place is within the nodes
  pub place_in : (q : ℕ) → At g r q → q < g.plan.N
  place_in q a = omega (arith, a.till, row-till g.plan W r e)

  -- a walk begins at the node after r
  pub walk_begins : At g r (r + 1)
  walk_begins = record { from = omega (arith, e.from); till = omega (arith, e.till) }

  pub walked_none : walked g r (r + 1) ≡ []
  walked_none = passed-begin g.heads (lo g.plan r) (hi g.plan r) r

  -- with an item, the node is an entry of the row
  boundary-none : item_of (head g.heads (hi g.plan r)) ≡ 0
  boundary-none = ap item_of row-edge.number

  pub full-inside : (q : ℕ) → At g r q → item_of (head g.heads q) ≢ 0 → q < hi g.plan r
  full-inside q a n = ⊎_elim (λ v. absurd (n (ap (λ (y : ℕ). item_of (head g.heads y)) v ∙ boundary-none))) (λ d. omega (arith, a.till, d)) (same? q (hi g.plan r))

  pub full-entry : (q : ℕ) → At g r q → item_of (head g.heads q) ≢ 0 → EntryOf g.plan q
  full-entry q a n = row-mate g.plan W r q e a.from (full-inside q a n)

  pub full-head : (q : ℕ) → At g r q → item_of (head g.heads q) ≢ 0 → head g.heads q ≡ pos (g.plan.col q)
  full-head q a n = ⊎_elim (λ f. f) (λ s. absurd (n (ap item_of s.none))) (t.rows q (full-entry q a n))

  pub full-item : (q : ℕ) → At g r q → item_of (head g.heads q) ≢ 0 → item_of (head g.heads q) ≡ g.plan.col q
  full-item q a n = ap item_of (full-head q a n)

  -- A step at a full node.
  pub full_at : (q : ℕ) → At g r q → item_of (head g.heads q) ≢ 0 → At g r (q + 1)
  full_at q a n = record { from = omega (arith, a.from); till = omega (arith, full-inside q a n) }

  pub full-walked : (q : ℕ) → At g r q → q ≢ r → item_of (head g.heads q) ≢ 0 → walked g r (q + 1) ≡ walked g r q ++ (q ∷ [])
  full-walked q a d n = passed-full g.heads (lo g.plan r) (hi g.plan r) r q a.from d (full-yes g.heads q n)

  pub full-way : (m q : ℕ) → g.plan.N ≤ m → At g r q → q ≢ r → way m r (q + 1) < way m r q
  full-way m q h a d = way_next m r q d (omega (arith, place_in q a))

  -- A step at the boundary, or at a shortened entry: the link up leads on.
  module _ (q : ℕ) (a : At g r q) (d : q ≢ r) (z : item_of (head g.heads q) ≡ 0) where
    leads : ((q ≡ hi g.plan r) × (at g.up q ≡ lo g.plan r)) ⊎ ((q < hi g.plan r) × (at g.up q ≡ q + 1))
    leads = ⊎_elim (λ v. inl (v, ap (at g.up) v ∙ row-edge.to-first)) (λ n. inr (inside n, short n)) (same? q (hi g.plan r))
      where
        inside : q ≢ hi g.plan r → q < hi g.plan r
        inside n = omega (arith, a.till, n)

        short : q ≢ hi g.plan r → at g.up q ≡ q + 1
        short n =
            let m = row-mate g.plan W r q e a.from (inside n) in
            ⊎_elim (λ f. absurd (omega (arith, sym z ∙ ap item_of f, (W.entry q m).above))) (λ s. s.ahead) (t.rows q m)

    pub over-at : At g r (at g.up q)
    over-at = ⊎_elim (λ w. rw w.1 (record { from = omega arith; till = omega (arith, e.from, e.till) }))
        (λ w. rw w.1 (record { from = omega (arith, a.from); till = omega (arith, w.0) })) leads

    pub over-walked : walked g r (at g.up q) ≡ walked g r q
    over-walked =
        ⊎_elim (λ w. rw w.1 (passed-edge g.heads (lo g.plan r) (hi g.plan r) r e.from e.till ∙ ap (passed g.heads (lo g.plan r) (hi g.plan r) r) (sym w.0)))
        (λ w. rw w.1 (passed_over g.heads (lo g.plan r) (hi g.plan r) r q a.from d (full-no g.heads q z))) leads

    pub over-way : (m : ℕ) → g.plan.N ≤ m → way m r (at g.up q) < way m r q
    over-way m h =
        ⊎_elim (λ w. rw w.1 (way-jump m r q (lo g.plan r) (omega (arith, w.0, e.till)) (omega (arith, place_in q a)) e.from))
        (λ w. rw w.1 (way_next m r q d (omega (arith, place_in q a)))) leads

  -- Backwards, a walk begins at the node before r; at q it has the nodes up to q + 1 behind it.
  pub back-begins : At g r (r - 1 + 1)
  back-begins = record { from = omega (arith, e.from, row_low); till = omega (arith, e.till, e.from, row_low) }

  pub back-begun : r - 1 + 1 ≡ r
  back-begun = omega (arith, e.from, row_low)

  module _ (q : ℕ) (a : At g r (q + 1)) where
    -- the place is a node, and not the first
    pub back_in : q < g.plan.N
    back_in = omega (arith, a.till, row-till g.plan W r e)

    pub back_some : 0 < q
    back_some = omega (arith, a.from, row_low)

    -- with an item, it is an entry of the row
    pub back_inside : item_of (head g.heads q) ≢ 0 → At g r q
    back_inside n = ⊎_elim (λ s. absurd (n (ap (λ (y : ℕ). item_of (head g.heads y)) s ∙ row-edge.none)))
        (λ d. record { from = omega (arith, a.from, d); till = omega (arith, a.till) }) (same? q (lo g.plan r - 1))

    pub back-full-way : (m : ℕ) → g.plan.N ≤ m → q ≢ r → way_back m r (q - 1) < way_back m r q
    back-full-way m h d = back-next m r q d back_some (omega (arith, back_in)) (omega (arith, e.till, row-till g.plan W r e))

    -- without one, the link down leads back
    module _ (d : q ≢ r) (z : item_of (head g.heads q) ≡ 0) where
      falls : ((q + 1 ≡ lo g.plan r) × (at g.down q ≡ hi g.plan r - 1)) ⊎ ((lo g.plan r ≤ q) × (at g.down q ≡ q - 1))
      falls = ⊎_elim (λ s. inl (s, ap (at g.down) (before s) ∙ row-edge.to_last)) (λ n. inr (inside n, short n)) (same? (q + 1) (lo g.plan r))
        where
          before : q + 1 ≡ lo g.plan r → q ≡ lo g.plan r - 1
          before s = omega arith

          inside : q + 1 ≢ lo g.plan r → lo g.plan r ≤ q
          inside n = omega (arith, a.from, n)

          short : q + 1 ≢ lo g.plan r → at g.down q ≡ q - 1
          short n =
              let m = row-mate g.plan W r q e (inside n) (omega (arith, a.till)) in
              ⊎_elim (λ f. absurd (omega (arith, sym z ∙ ap item_of f, (W.entry q m).above))) (λ s. s.back) (t.rows q m)

      pub back-over-at : At g r (at g.down q + 1)
      back-over-at = ⊎_elim (λ w. rw w.1 (record { from = omega (arith, e.from, e.till); till = omega (arith, e.till) }))
          (λ w. rw w.1 (record { from = omega (arith, w.0, back_some); till = omega (arith, a.till) })) falls

      pub back-over-walked : walked g r (at g.down q + 1) ≡ walked g r (q + 1)
      back-over-walked =
          ⊎_elim (λ w. rw w.1 (last w.0))
          (λ w. let s : q - 1 + 1 ≡ q = omega (arith, back_some) in rw (w.1, s) (sym (passed_over g.heads (lo g.plan r) (hi g.plan r) r q w.0 d (full-no g.heads q z)))) falls
        where
          last : q + 1 ≡ lo g.plan r → walked g r (hi g.plan r - 1 + 1) ≡ walked g r (q + 1)
          last s = let b : hi g.plan r - 1 + 1 ≡ hi g.plan r = omega (arith, e.till) in rw (b, s) (sym (passed-edge g.heads (lo g.plan r) (hi g.plan r) r e.from e.till))

      pub back-over-way : (m : ℕ) → g.plan.N ≤ m → way_back m r (at g.down q) < way_back m r q
      back-over-way m h =
          ⊎_elim (λ w. rw w.1 (back-jump m r q (hi g.plan r - 1) (omega (arith, w.0, e.from)) (omega (arith, e.till)) (omega (arith, row-till g.plan W r e))))
          (λ w. rw w.1 (back-full-way m h d)) falls

  -- What was passed

  pub In-walked : (q : ℕ) → At g r q → {y : ℕ} → In y (walked g r q) → EntryOf g.plan y × (g.plan.number y ≡ g.plan.number r) × (y ≢ r) × (y ≢ q) × (head g.heads y ≡ pos (g.plan.col y))
  In-walked q a {y} m =
      let w = In-passed g.heads (lo g.plan r) (hi g.plan r) r e.from e.till q a.from a.till m in
      let b : At g r y = record { from = w.0; till = omega (arith, w.1) } in
      let f = ltb-true 0 (item_of (head g.heads y)) (T_true _ w.4) in
      let n : item_of (head g.heads y) ≢ 0 = λ v. omega (arith, f, v) in
      (full-entry y b n, W.numbered (g.plan.number r) y e.option w.0 w.1, w.2, w.3, full-head y b n)

  pub In-others : {y : ℕ} → In y (others g r) → EntryOf g.plan y × (g.plan.number y ≡ g.plan.number r) × (y ≢ r) × (head g.heads y ≡ pos (g.plan.col y))
  unfolding others
  In-others m = let w = In-walked r (record { from = e.from; till = omega (arith, e.till) }) m in (w.0, w.1, w.2, w.4)

  pub others-In : {y : ℕ} → EntryOf g.plan y → g.plan.number y ≡ g.plan.number r → y ≢ r → head g.heads y ≡ pos (g.plan.col y) → In y (others g r)
  unfolding others
  others-In {y} b s n h =
      passed-all g.heads (lo g.plan r) (hi g.plan r) r (subst (λ (k : ℕ). g.plan.first k ≤ y) s b.from) (subst (λ (k : ℕ). y < g.plan.past k) s b.till) n
      (lib.Dec.lt→ltb 0 (item_of (head g.heads y)) (rw h (W.entry y b).above))

-- A place is behind the headers, and in no column where it has no item.
module _ {g : Ground} (t : Tidy g) {r : ℕ} (e : EntryOf g.plan r) where
  module _ {q : ℕ} (a : At g r q) where
    pub place-no-header : Header g.plan q → ⊥
    place-no-header h = omega (arith, header-before g.plan t.planned q h, t.planned.from (g.plan.number r) e.option, a.from)

    pub empty-off : item_of (head g.heads q) ≡ 0 → g.on q ≡ false
    empty-off z = not_so (g.on q) (λ o. ⊎_elim place-no-header (λ m. omega (arith, (t.planned.entry q m).above, sym z ∙ ap item_of (t.full q m o))) (t.masked q o))

-- A walk depends on the heads of the option's other nodes only.
pub walked-alike : (g h : Ground) → h.plan ≡ g.plan → (r : ℕ) → EntryOf g.plan r → ((y : ℕ) → lo g.plan r ≤ y → y < hi g.plan r → y ≢ r → head h.heads y ≡ head g.heads y)
    → (q : ℕ) → q ≤ hi g.plan r → walked h r q ≡ walked g r q
walked-alike g h same r e f q k =
    ap (λ (P : Plan). passed h.heads (lo P r) (hi P r) r q) same
    ∙ ⊎_elim onward round (less? r q)
  where
    one : (y : ℕ) → lo g.plan r ≤ y → y < hi g.plan r → y ≢ r → full h.heads y ≡ full g.heads y
    one y a b n = ap (λ (z : ℤ). ltb 0 (item_of z)) (f y a b n)

    behind : (b : ℕ) → b ≤ hi g.plan r → keep (full h.heads) (span (r + 1) b) ≡ keep (full g.heads) (span (r + 1) b)
    behind b l =
        keep-cong (full h.heads) (full g.heads) (span (r + 1) b)
        (λ y m. let w = In-span (r + 1) b m in one y (omega (arith, w.0, e.from)) (omega (arith, w.1)) (λ v. omega (arith, w.0, v)))

    onward : r < q → passed h.heads (lo g.plan r) (hi g.plan r) r q ≡ passed g.heads (lo g.plan r) (hi g.plan r) r q
    onward l = rw (lt-ltb r q l) (behind q k)

    round : q ≤ r → passed h.heads (lo g.plan r) (hi g.plan r) r q ≡ passed g.heads (lo g.plan r) (hi g.plan r) r q
    round l =
        let front =
        keep-cong (full h.heads) (full g.heads) (span (lo g.plan r) q)
        (λ y m. let w = In-span (lo g.plan r) q m in one y w.0 (omega (arith, w.1)) (λ v. omega (arith, w.1, l, v))) in
        rw (le-ltb r q l, behind (hi g.plan r) (omega arith), front)

pub others-alike : (g h : Ground) → h.plan ≡ g.plan → (r : ℕ) → EntryOf g.plan r → ((y : ℕ) → lo g.plan r ≤ y → y < hi g.plan r → y ≢ r → head h.heads y ≡ head g.heads y)
    → others h r ≡ others g r
unfolding others
others-alike g h same r e f = walked-alike g h same r e f r (omega (arith, e.till))

-- So nodes taken out leave it as it is.
pub walked-taken : (g : Ground) (t : Tidy g) (xs : List ℕ) → Fresh g xs → (r : ℕ) → EntryOf g.plan r → (q : ℕ) → q ≤ hi g.plan r → walked (taken g xs) r q ≡ walked g r q
walked-taken g t xs f r e =
    walked-alike g (taken g xs) (taken-plan g xs) r e (λ y a b n. taken-entry-head g xs t f y (row-mate g.plan t.planned r y e a b))

pub others-taken : (g : Ground) → Tidy g → (xs : List ℕ) → Fresh g xs → (r : ℕ) → EntryOf g.plan r → others (taken g xs) r ≡ others g r
unfolding others
others-taken g t xs f r e = walked-taken g t xs f r e r (omega (arith, e.till))

-- The same, of the ground with its plan in sight.
module _ (g : Ground) (xs : List ℕ) (t : Tidy g) (f : Fresh g xs) where
  pub after-walked : (r : ℕ) → EntryOf g.plan r → (q : ℕ) → q ≤ hi g.plan r → walked (after g xs) r q ≡ walked g r q
  after-walked r e q k = ap (λ (G : Ground). walked G r q) (sym (taken-after g xs)) ∙ walked-taken g t xs f r e q k

  pub after-others : (r : ℕ) → EntryOf g.plan r → others (after g xs) r ≡ others g r
  after-others r e = ap (λ (G : Ground). others G r) (sym (taken-after g xs)) ∙ others-taken g t xs f r e

  -- the same entries are full, and so the same is first of its option
  pub after-full : (y : ℕ) → EntryOf g.plan y → full (after g xs).heads y ≡ full g.heads y
  after-full y e = ap (λ (z : ℤ). ltb 0 (item_of z)) (taken-entry-head g xs t f y e)

  pub after-first : (u : ℕ) → EntryOf g.plan u → first_live (after g xs) u ≡ first_live g u
  after-first u e =
      ap not (any-cong (full (after g xs).heads) (full g.heads) (span (lo g.plan u) u)
      (λ y m. let w = In-span (lo g.plan u) u m in after-full y (row-mate g.plan t.planned u y e w.0 (omega (arith, w.1, e.till)))))
