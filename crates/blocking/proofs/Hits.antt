-- An option that clashes with the tested one: every node that a test takes out is of such an option, and r's own is none. Assumes nothing.
use Prim.Native.Nat.{ℕ, ◌<◌, ◌≤◌}
use native.Mathlib.Omega.{arith}
use mathlib.Core.Path.{◌≡◌, refl, ◌∙◌, ap, sym, subst}
use mathlib.Core.Logic.{⊎_elim, ◌≢◌}
use mathlib.Core.Bool.{Bool, true, false, not, ◌&&◌, false≢true}
use mathlib.Core.List.{List, Memᴰ as In}
use borrow.Author.Tests.{eq-eqb}
use lib.Dec.{T, eqb, eqb→eq}
use Rattle.rules.specs.Lists.{any}
use Rattle.rules.specs.Blocked.{agree}
use Rattle.theorems.proofs.Words.Tests.{T_true, T_false, T_and}
use Rattle.theorems.proofs.Words.Lists.{any→, any←}
use Rattle.links.specs.declared.shape.Shape.{Shape}
use Rattle.links.specs.Plan.{lo, hi, EntryOf}
use Rattle.links.specs.Ground.{Ground, Tidy, taken}
use Rattle.links.specs.Row.{span, walked, others}
use Rattle.links.specs.Taking.{rival_at, clashes_at, Tested}
use Rattle.links.proofs.Stores.{same?}
use Rattle.links.proofs.Plans.{row-mate}
use Rattle.links.proofs.Spans.{In-span, span-In}
use Rattle.links.proofs.Rows.{In-walked, In-others, others-In}
use Rattle.links.proofs.Gathering.{In-gather}
use Rattle.blocking.specs.Forward.{Clash, out_at, ground_at, AtItem, rivals_to, ground_to}
use Rattle.links.proofs.Taken.{after-tidy, gone-In}
use Rattle.blocking.proofs.Stages.{item-entry, item-number, ground-tidy, rival-row, rival-clash, rivals-fresh}

-- The option of y clashes with r at node k.
pub record Hit (h : Ground) (r y : ℕ) : Type 0 where
  pub at : ℕ
  pub clash : Clash h (others h r) at
  pub number : h.plan.number y ≡ h.plan.number at

module _ (h : Ground) (r : ℕ) (w : Tested h r) where
  t : Tidy h
  t = w.tidy

  -- the items passed are items of r
  passed-others : (q : ℕ) → lo h.plan r ≤ q → q ≤ hi h.plan r → {x : ℕ} → In x (walked h r q) → In x (others h r)
  passed-others q a b i = let v = In-walked h t r w.entry q (record { from = a; till = b }) i in others-In h t r w.entry v.0 v.1 v.2 v.4

  pub clash-others : (q : ℕ) → lo h.plan r ≤ q → q ≤ hi h.plan r → {k : ℕ} → Clash h (walked h r q) k → Clash h (others h r) k
  clash-others q a b c = record { item = c.item; among = passed-others q a b c.among; entry = c.entry; on = c.on; col = c.col; differ = c.differ }

  -- an item of r is not r's column
  pub others_apart : {x : ℕ} → In x (others h r) → h.plan.col x ≢ h.plan.col r
  others_apart {x} i c = let v = In-others h t r w.entry i in v.2 (t.planned.once x r v.0 w.entry v.1 c)

  -- r's option does not clash with itself: of its nodes only r is in its column
  pub hit-foreign : (y : ℕ) → Hit h r y → h.plan.number y ≢ h.plan.number r
  hit-foreign y k e = ⊎_elim own other (same? k.at r)
    where
      own : k.at ≡ r → ⊥
      own a = others_apart k.clash.among (sym k.clash.col ∙ ap h.plan.col a)

      other : k.at ≢ r → ⊥
      other n = false≢true (sym (w.alone k.at k.clash.entry (sym k.number ∙ e) n) ∙ k.clash.on)

  -- the test of the definition, both ways
  pub hit-clashes : (y : ℕ) → Hit h r y → T (clashes_at h r y)
  hit-clashes y k =
      any← (λ q. any (λ rr. h.on rr && eqb (h.plan.col rr) (h.plan.col q) && not (agree (h.plan.tint q) (h.plan.tint rr))) (span (lo h.plan y) (hi h.plan y))) (others h r) k.clash.among
      (any← (λ rr. h.on rr && eqb (h.plan.col rr) (h.plan.col k.clash.item) && not (agree (h.plan.tint k.clash.item) (h.plan.tint rr))) (span (lo h.plan y) (hi h.plan y))
      (span-In (lo h.plan y) (hi h.plan y) (subst (λ (j : ℕ). h.plan.first j ≤ k.at) (sym k.number) k.clash.entry.from)
      (subst (λ (j : ℕ). k.at < h.plan.past j) (sym k.number) k.clash.entry.till))
      (rw (k.clash.on, eq-eqb (h.plan.col k.at) (h.plan.col k.clash.item) k.clash.col, k.clash.differ) tt))

  pub clashes-hit : (y : ℕ) → EntryOf h.plan y → T (clashes_at h r y) → Hit h r y
  clashes-hit y e c =
      let a = any→ (λ q. any (λ rr. h.on rr && eqb (h.plan.col rr) (h.plan.col q) && not (agree (h.plan.tint q) (h.plan.tint rr))) (span (lo h.plan y) (hi h.plan y))) (others h r) c in
      let b = any→ (λ rr. h.on rr && eqb (h.plan.col rr) (h.plan.col a.0) && not (agree (h.plan.tint a.0) (h.plan.tint rr))) (span (lo h.plan y) (hi h.plan y)) a.2 in
      let s = In-span (lo h.plan y) (hi h.plan y) b.1 in
      let u = T_and (h.on b.0 && eqb (h.plan.col b.0) (h.plan.col a.0)) (not (agree (h.plan.tint a.0) (h.plan.tint b.0))) b.2 in
      let v = T_and (h.on b.0) (eqb (h.plan.col b.0) (h.plan.col a.0)) u.0 in
      record {
        at = b.0;
        clash = record {
          item = a.0;
          among = a.1;
          entry = row-mate h.plan t.planned y b.0 e s.0 s.1;
          on = T_true (h.on b.0) v.0;
          col = eqb→eq (h.plan.col b.0) (h.plan.col a.0) v.1;
          differ = T_false (agree (h.plan.tint a.0) (h.plan.tint b.0)) u.1;
        };
        number = sym (t.planned.numbered (h.plan.number y) b.0 e.option s.0 s.1);
      }

-- What is out at each place is of such options.
module _ {h : Ground} {tints marks : List ℕ} {r : ℕ} {shape : Shape} {q : ℕ} (m : AtItem h tints marks r shape q) where
  pub hit-out : {y : ℕ} → In y (out_at h r q) → Hit h r y
  hit-out {y} i =
      let o = m.stage.out y i in
      record {
        at = o.met;
        clash = clash-others h r m.test.tested q m.from (omega (arith, m.till)) o.clash;
        number = (In-others h m.test.tested.tidy o.met o.clash.entry o.one).1;
      }

  -- the item itself is another item of r
  item-among : In q (others h r)
  item-among = others-In h m.test.tested.tidy r m.test.tested.entry (item-entry m) (item-number m) m.other m.full

  pub hit-rival : (k : ℕ) → rival_at (ground_at h r q) (h.plan.col q) (h.plan.tint q) k ≡ true → (y : ℕ) → h.plan.number y ≡ h.plan.number k → Hit h r y
  hit-rival k c y e = record { at = k; clash = rival-clash m k c item-among; number = e }

  pub hit-rivals : (k : ℕ) {y : ℕ} → In y (rivals_to h r q k) → Hit h r y
  hit-rivals k {y} i =
      let w = In-gather (rival_at (ground_at h r q) (h.plan.col q) (h.plan.tint q)) (ground_at h r q) k i in
      hit-rival w.0 w.2 y (In-others (ground_at h r q) (ground-tidy m) w.0 (rival-row m w.0 w.2) w.3).1

  -- where a node left its column while the walk came to node qq of rival rr
  module _ (rr : ℕ) (c : rival_at (ground_at h r q) (h.plan.col q) (h.plan.tint q) rr ≡ true) (qq : ℕ) (from : lo h.plan rr ≤ qq) (till : qq ≤ hi h.plan rr) where
    to-tidy : Tidy (ground_to h r q rr)
    to-tidy = after-tidy (ground_at h r q) (rivals_to h r q rr) (ground-tidy m) (rivals-fresh m rr)

    pub hit-walked : {y : ℕ} → In y (walked (ground_to h r q rr) rr qq) → Hit h r y
    hit-walked {y} i = hit-rival rr c y (In-walked (ground_to h r q rr) to-tidy rr (rival-row m rr c) qq (record { from = from; till = till }) i).1

    pub hit-gone : (y : ℕ) → h.on y ≡ true → (taken (ground_to h r q rr) (walked (ground_to h r q rr) rr qq)).on y ≡ false → Hit h r y
    hit-gone y o n = first ((ground_at h r q).on y) refl
      where
        second : (ground_at h r q).on y ≡ true → (b : Bool) → (ground_to h r q rr).on y ≡ b → Hit h r y
        second a false e = hit-rivals rr (gone-In (ground_at h r q) (rivals_to h r q rr) y a e)
        second a true e = hit-walked (gone-In (ground_to h r q rr) (walked (ground_to h r q rr) rr qq) y e n)

        first : (b : Bool) → (ground_at h r q).on y ≡ b → Hit h r y
        first false e = hit-out (gone-In h (out_at h r q) y o e)
        first true e = second e ((ground_to h r q rr).on y) refl

    -- r's own nodes stay where they are
    pub own-stays : (y : ℕ) → h.on y ≡ true → h.plan.number y ≡ h.plan.number r → (taken (ground_to h r q rr) (walked (ground_to h r q rr) rr qq)).on y ≡ true
    own-stays y o e = go ((taken (ground_to h r q rr) (walked (ground_to h r q rr) rr qq)).on y) refl
      where
        go : (b : Bool) → (taken (ground_to h r q rr) (walked (ground_to h r q rr) rr qq)).on y ≡ b → b ≡ true
        go true a = refl
        go false a = absurd (hit-foreign h r m.test.tested y (hit-gone y o a) e)
