-- What the test finds: where it breaks off, r is blocked; where it comes round, r is not. Assumes nothing.
use Prim.Native.Nat.{ℕ, ◌-◌, ◌<◌, ◌≤◌}
use native.Mathlib.Omega.{arith}
use mathlib.Core.Path.{◌≡◌, refl, ◌∙◌, ap, sym, subst}
use mathlib.Core.Logic.{⊎_elim, ◌≢◌}
use mathlib.Core.Bool.{Bool, true, false, not, ◌&&◌, ◌||◌, and-eq-true_iff}
use mathlib.Core.List.{List, Memᴰ as In}
use borrow.Author.Tests.{eqb-true, eqb-false, leb-true, not-true}
use lib.Dec.{T, eqb, leb, eqb→eq, ltb→lt, lt→ltb, T_not, not_T}
use lib.IntN.{ℤ, pos}
use Rattle.rules.specs.Lists.{any, all, from}
use Rattle.theorems.proofs.Words.Tests.{T_true, T_false, true-T, T_and, and_T, T-imp, imp-T, eq→eqb}
use Rattle.theorems.proofs.Words.Lists.{any→, any←, any_none, none_any, all→, all←, In-from, from-In}
use Rattle.links.specs.declared.shape.Shape.{Shape}
use Rattle.links.specs.Head.{item_of, head}
use Rattle.links.specs.Column.{at, without}
use Rattle.links.specs.Plan.{Plan, lo, hi, EntryOf, Header, start}
use Rattle.links.specs.Ground.{Ground, tally, Tidy, Within, after}
use Rattle.links.specs.Row.{span, full, walked, others}
use Rattle.links.specs.Taking.{in_column, nodes_of, clashes_at, shut_at, node_blocked, Tested, length_of}
use Rattle.links.proofs.Stores.{same?}
use Rattle.links.proofs.Plans.{row-mate, entry-from, entry-till}
use Rattle.links.proofs.Rings.{without←}
use Rattle.links.proofs.Spans.{In-span, span-In}
use Rattle.links.proofs.Rows.{In-others, others-In}
use Rattle.links.proofs.Tallies.{tally-cut, tally-some, tally-has}
use Rattle.links.proofs.Taken.{on-taken, after-tidy, taken-header}
use Rattle.links.proofs.Grounds.{length-is}
use Rattle.links.proofs.Descending.{column→, column←, on-entry}
use Rattle.blocking.specs.Stops.{stops_at}
use Rattle.blocking.specs.Forward.{Clash, out_at, ground_at, rivals_to, ground_to, Outer, Inner, Stopped}
use Rattle.blocking.proofs.Entries.{inner-entry, inner-number, inner-col, inner-within, to-tidy}
use Rattle.blocking.proofs.Hits.{Hit, hit-foreign, hit-clashes, clashes-hit, hit-rival, hit-gone, own-stays}

-- In a column of length 1 there is no other entry.
only_one : (P : Plan) (on : ℕ → Bool) (x y : ℕ) → tally P on (P.col x) ≡ 1 → start P ≤ x → x < P.N → on x ≡ true → start P ≤ y → y < P.N → on y ≡ true → P.col y ≡ P.col x → y ≡ x
only_one P on x y l a b o c d u e = ⊎_elim (λ s. s) (λ n. absurd (two n)) (same? y x)
  where
    two : y ≢ x → ⊥
    two n =
        let s = tally-cut P on x a b o in
        let w : 0 < tally P (without on x) (P.col x) = subst (λ (i : ℕ). 0 < tally P (without on x) i) e (tally-some P (without on x) y c d (without← on x y n u)) in
        omega arith

-- an entry that is not shortened has its item in its head
full-head : (g : Ground) → Tidy g → (y : ℕ) → EntryOf g.plan y → T (full g.heads y) → head g.heads y ≡ pos (g.plan.col y)
full-head g t y e f = ⊎_elim (λ h. h) (λ s. absurd (omega (arith, ltb→lt 0 (item_of (head g.heads y)) f, ap item_of s.none))) (t.rows y e)

head-full : (g : Ground) → Tidy g → (y : ℕ) → EntryOf g.plan y → head g.heads y ≡ pos (g.plan.col y) → T (full g.heads y)
head-full g t y e h = lt→ltb 0 (item_of (head g.heads y)) (rw h (t.planned.entry y e).above)

-- r holds the item of column i
abbrev holds_at : Ground → ℕ → ℕ → ℕ → Bool
holds_at h r i z = full h.heads z && eqb (h.plan.col z) i

-- what stops the walk, as facts
stops→ : (heads : List ℤ) (marks : List ℕ) (i r np : ℕ) → stops_at heads marks i r np ≡ true → (item_of (head heads i) - 1 ≡ 0) × (i ≤ np) × (at marks i ≢ r)
stops→ heads marks i r np e =
    let a = (and-eq-true_iff (eqb (item_of (head heads i) - 1) 0 && leb i np) (not (eqb (at marks i) r))).0 e in
    let b = (and-eq-true_iff (eqb (item_of (head heads i) - 1) 0) (leb i np)).0 a.0 in
    (eqb-true (item_of (head heads i) - 1) 0 b.0, leb-true i np b.1, eqb-false (at marks i) r (not-true (eqb (at marks i) r) a.1))

module _ {h : Ground} {tints marks : List ℕ} {r : ℕ} {shape : Shape} {heads : List ℤ} {up down : List ℕ} {q rr qq : ℕ} (m : Stopped h tints marks r shape q rr qq heads up down) where
  I : Inner h tints marks r shape q rr qq heads up down
  I = m.inner

  w : Tested h r
  w = I.item.test.tested

  t : Tidy h
  t = w.tidy

  abbrev i : ℕ
  i = h.plan.col qq

  -- the ground where the walk stopped
  abbrev last : Ground
  last = after (ground_to h r q rr) (walked (ground_to h r q rr) rr qq)

  last-tidy : Tidy last
  last-tidy = after-tidy (ground_to h r q rr) (walked (ground_to h r q rr) rr qq) (to-tidy I) I.fresh

  entry : EntryOf h.plan qq
  entry = inner-entry I m.other m.full

  within : Within last qq
  within = inner-within I m.other m.full

  facts : (item_of (head heads i) - 1 ≡ 0) × (i ≤ shape.np) × (at marks i ≢ r)
  facts = stops→ heads marks i r shape.np (subst (λ (j : ℕ). stops_at heads marks j r shape.np ≡ true) (inner-col I m.other m.full) m.stops)

  length-one : tally h.plan last.on i ≡ 1
  length-one =
      let e : item_of (head heads i) ≡ tally h.plan last.on i = ap (λ (v : List ℤ). item_of (head v i)) I.holds.heads-are ∙ ap item_of (length-is last last-tidy qq within) in
      let b : 0 < tally h.plan last.on i = tally-some h.plan last.on qq (entry-from h.plan t.planned qq entry) (entry-till h.plan t.planned qq entry) within.on in
      omega (arith, facts.0)

  -- qq is all that is left of its column
  alone : (y : ℕ) → EntryOf h.plan y → last.on y ≡ true → h.plan.col y ≡ i → y ≡ qq
  alone y e o c =
      only_one h.plan last.on qq y length-one (entry-from h.plan t.planned qq entry) (entry-till h.plan t.planned qq entry) within.on
      (entry-from h.plan t.planned y e) (entry-till h.plan t.planned y e) o c

  own-hit : Hit h r qq
  own-hit = hit-rival I.item rr I.rival qq (inner-number I m.other m.full)

  -- r does not hold its item: it would carry r's mark, or r be left in the column beside qq
  not-held : (z : ℕ) → In z (span (lo h.plan r) (hi h.plan r)) → T (not (holds_at h r i z))
  not-held z n = not_T (holds_at h r i z)
      (λ c. let v = T_and (full h.heads z) (eqb (h.plan.col z) i) c in ⊎_elim (own (eqb→eq (h.plan.col z) i v.1)) (other v.0 (eqb→eq (h.plan.col z) i v.1)) (same? z r))
    where
      place : (lo h.plan r ≤ z) × (z < hi h.plan r)
      place = In-span (lo h.plan r) (hi h.plan r) n

      own : h.plan.col z ≡ i → z ≡ r → ⊥
      own c e =
          let o = own-stays I.item rr I.rival qq I.from I.till r w.on refl in
          hit-foreign h r w qq own-hit (ap h.plan.number (sym (alone r w.entry o (ap h.plan.col (sym e) ∙ c))))

      other : T (full h.heads z) → h.plan.col z ≡ i → z ≢ r → ⊥
      other f c d =
          let e = row-mate h.plan t.planned r z w.entry place.0 place.1 in
          facts.2 (ap (at marks) (sym c) ∙ I.item.test.marked.own z e (t.planned.numbered (h.plan.number r) z w.entry.option place.0 place.1) d (full-head h t z e f))

  -- every entry of the column is of an option that clashes
  all-clash : (y : ℕ) → In y (nodes_of h) → T (not (in_column h i y) || clashes_at h r y)
  all-clash y n = imp-T (in_column h i y) (clashes_at h r y) (λ c. let v = column→ h i y (T_true (in_column h i y) c) in hit-clashes h r w y (go v.0 v.1 v.2 (last.on y) refl))
    where
      go : h.on y ≡ true → h.plan.col y ≡ i → start h.plan ≤ y → (b : Bool) → last.on y ≡ b → Hit h r y
      go o c a true e = subst (λ (j : ℕ). Hit h r j) (sym (alone y (on-entry h t y o a) e c)) own-hit
      go o c a false e = hit-gone I.item rr I.rival qq I.from I.till y o e

  here_on : h.on qq ≡ true
  here_on =
      let a = (on-taken (ground_to h r q rr) (walked (ground_to h r q rr) rr qq) qq within.on).0 in
      (on-taken h (out_at h r q) qq (on-taken (ground_at h r q) (rivals_to h r q rr) qq a).0).0

  some-there : T (any (in_column h i) (nodes_of h))
  some-there =
      any← (in_column h i) (nodes_of h) (span-In (start h.plan) h.plan.N (entry-from h.plan t.planned qq entry) (entry-till h.plan t.planned qq entry))
      (true-T (column← h i qq here_on refl (entry-from h.plan t.planned qq entry)))

  shut : T (shut_at h r i)
  shut =
      and_T (not (any (holds_at h r i) (span (lo h.plan r) (hi h.plan r))) && any (in_column h i) (nodes_of h)) (all (λ y. not (in_column h i y) || clashes_at h r y) (nodes_of h))
      (and_T (not (any (holds_at h r i) (span (lo h.plan r) (hi h.plan r)))) (any (in_column h i) (nodes_of h))
      (any_none (holds_at h r i) (span (lo h.plan r) (hi h.plan r)) not-held) some-there)
      (all← (λ y. not (in_column h i y) || clashes_at h r y) (nodes_of h) all-clash)

  pub stopped-blocked : node_blocked h r shape.np ≡ true
  unfolding node_blocked
  stopped-blocked = T_true (any (shut_at h r) (from 1 shape.np)) (any← (shut_at h r) (from 1 shape.np) (from-In 1 shape.np (t.planned.entry qq entry).above (omega (arith, facts.1))) shut)

-- The walk came round.
module _ {h : Ground} {tints marks : List ℕ} {r : ℕ} {shape : Shape} {heads : List ℤ} {up down : List ℕ} (m : Outer h tints marks r shape r heads up down) where
  tested : Tested h r
  tested = m.test.tested

  tidy : Tidy h
  tidy = tested.tidy

  out-tidy : Tidy (ground_at h r r)
  out-tidy = after-tidy h (out_at h r r) tidy m.stage.fresh

  module _ (i : ℕ) (head_of : Header h.plan i) (le : i ≤ shape.np)
      (free : (z : ℕ) → EntryOf h.plan z → h.plan.number z ≡ h.plan.number r → head h.heads z ≡ pos (h.plan.col z) → h.plan.col z ≢ i) where
    -- an entry of the column whose option clashes is out
    clashing-out : (y : ℕ) → EntryOf h.plan y → h.on y ≡ true → h.plan.col y ≡ i → Hit h r y → In y (out_at h r r)
    unfolding others
    clashing-out y e o c k = ⊎_elim taken-itself met (m.stage.met k.at k.clash)
      where
        -- y itself is at no item of r
        apart : (x : ℕ) → Clash h (others h r) x → y ≢ x
        apart x d a = let v = In-others h tidy r tested.entry d.among in free d.item v.0 v.1 v.3 (sym d.col ∙ ap h.plan.col (sym a) ∙ c)

        mate : (x : ℕ) → Clash h (others h r) x → h.plan.number y ≡ h.plan.number x → In y (others h x)
        mate x d a = others-In h tidy x d.entry e a (apart x d) (tidy.full y e o)

        taken-itself : In k.at (out_at h r r) → In y (out_at h r r)
        taken-itself n =
            let u = m.stage.out k.at n in
            u.all y (mate u.met u.clash (k.number ∙ (In-others h tidy u.met u.clash.entry u.one).1))

        met : ((z : ℕ) → In z (others h k.at) → In z (out_at h r r)) → In y (out_at h r r)
        met f = f y (mate k.at k.clash k.number)

  -- so no primary column that r does not hold has clashing options only: one of its entries would be left
  not-shut : (i : ℕ) → 0 < i → i ≤ shape.np → T (shut_at h r i) → ⊥
  not-shut i a b c = last-left (tally-has h.plan (ground_at h r r).on i left-some)
    where
      parts : T (not (any (holds_at h r i) (span (lo h.plan r) (hi h.plan r))) && any (in_column h i) (nodes_of h)) × T (all (λ y. not (in_column h i y) || clashes_at h r y) (nodes_of h))
      parts = T_and (not (any (holds_at h r i) (span (lo h.plan r) (hi h.plan r))) && any (in_column h i) (nodes_of h)) (all (λ y. not (in_column h i y) || clashes_at h r y) (nodes_of h)) c

      firsts : T (not (any (holds_at h r i) (span (lo h.plan r) (hi h.plan r)))) × T (any (in_column h i) (nodes_of h))
      firsts = T_and (not (any (holds_at h r i) (span (lo h.plan r) (hi h.plan r)))) (any (in_column h i) (nodes_of h)) parts.0

      head_of : Header h.plan i
      head_of = record { above = a; below = omega (arith, m.test.few) }

      free : (z : ℕ) → EntryOf h.plan z → h.plan.number z ≡ h.plan.number r → head h.heads z ≡ pos (h.plan.col z) → h.plan.col z ≢ i
      free z e n f d =
          T_not (holds_at h r i z)
          (none_any (holds_at h r i) (span (lo h.plan r) (hi h.plan r)) firsts.0
          (span-In (lo h.plan r) (hi h.plan r) (subst (λ (j : ℕ). h.plan.first j ≤ z) n e.from) (subst (λ (j : ℕ). z < h.plan.past j) n e.till)))
          (and_T (full h.heads z) (eqb (h.plan.col z) i) (head-full h tidy z e f) (eq→eqb (h.plan.col z) i d))

      -- an entry that was there
      one : (y : ℕ) × In y (nodes_of h) × T (in_column h i y)
      one = any→ (in_column h i) (nodes_of h) firsts.1

      one_in : (h.on one.0 ≡ true) × (h.plan.col one.0 ≡ i) × (start h.plan ≤ one.0)
      one_in = column→ h i one.0 (T_true (in_column h i one.0) one.2)

      one_entry : EntryOf h.plan one.0
      one_entry = on-entry h tidy one.0 one_in.0 one_in.2

      unmarked : at marks i ≢ r
      unmarked e = let v = m.test.marked.theirs one.0 one_entry one_in.0 (ap (at marks) one_in.1 ∙ e) in free v.0 v.1 v.2 v.3 (v.4 ∙ one_in.1)

      was-some : 0 < length_of h i
      was-some =
          let l = ap item_of (tidy.counts i head_of (tested.headers i head_of)) in
          let u : 0 < tally h.plan h.on i =
          subst (λ (j : ℕ). 0 < tally h.plan h.on j) one_in.1 (tally-some h.plan h.on one.0 one_in.2 (entry-till h.plan tidy.planned one.0 one_entry) one_in.0) in
          omega arith

      left-some : 0 < tally h.plan (ground_at h r r).on i
      left-some =
          let u = m.alive i head_of b unmarked was-some in
          let l : item_of (head heads i) ≡ tally h.plan (ground_at h r r).on i =
          ap (λ (v : List ℤ). item_of (head v i)) m.holds.heads-are
          ∙ ap item_of (out-tidy.counts i head_of (taken-header h (out_at h r r) tidy m.stage.fresh i head_of ∙ tested.headers i head_of)) in
          omega arith

      last-left : (y : ℕ) × (start h.plan ≤ y) × (y < h.plan.N) × ((ground_at h r r).on y ≡ true) × (h.plan.col y ≡ i) → ⊥
      last-left (y, u, v, o, e) =
          let k = on-taken h (out_at h r r) y o in
          let n = on-entry h tidy y k.0 u in
          k.1 (clashing-out i head_of b free y n k.0 e
          (clashes-hit h r tested y n (T-imp (in_column h i y) (clashes_at h r y)
          (all→ (λ y. not (in_column h i y) || clashes_at h r y) (nodes_of h) parts.1 (span-In (start h.plan) h.plan.N u v)) (true-T (column← h i y k.0 e u)))))

  pub round-free : node_blocked h r shape.np ≡ false
  unfolding node_blocked
  round-free =
      T_false (any (shut_at h r) (from 1 shape.np))
      (any_none (shut_at h r) (from 1 shape.np) (λ i n. let v = In-from 1 shape.np n in not_T (shut_at h r i) (not-shut i v.0 (omega (arith, v.1)))))
