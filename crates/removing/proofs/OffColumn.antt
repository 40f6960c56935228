-- A column that goes out of sight, header and all, leaves the lists tidy. Assumes nothing.
use Prim.Native.Nat.{ℕ, ◌-◌}
use mathlib.Core.Path.{◌≡◌, refl, ◌∙◌, ap, sym}
use mathlib.Core.Logic.{inl, inr, ⊎_elim, ◌≢◌}
use mathlib.Core.Bool.{Bool, true, false, not, ◌&&◌, and-false}
use borrow.Author.Tests.{eq-eqb, ne_eqb}
use lib.Dec.{eqb}
use lib.IntN.{pos}
use Rattle.rules.specs.Lists.{from}
use Rattle.theorems.proofs.Words.Tests.{T_and, and_T, T_true, true-T, neqb→ne, ne→neqb}
use Rattle.theorems.proofs.Words.Counts.{count-cong}
use Rattle.links.specs.Column.{at, Tied}
use Rattle.links.specs.Plan.{Plan, start, Header}
use Rattle.links.specs.Ground.{Ground, tally, Tidy}
use Rattle.links.specs.Taking.{off_column}
use Rattle.links.proofs.Stores.{same?}
use Rattle.links.proofs.Rings.{above-col}

-- A column's length depends on the mask of its entries only.
pub tally-alike : (P : Plan) (on on' : ℕ → Bool) (i : ℕ) → ((y : ℕ) → P.col y ≡ i → on y ≡ on' y) → tally P on i ≡ tally P on' i
unfolding tally
tally-alike P on on' i h =
    count-cong (λ y. on y && eqb (P.col y) i) (λ y. on' y && eqb (P.col y) i) (from (start P) (P.N - start P))
    (λ y m. ⊎_elim (λ e. rw (h y e)) (λ n. rw (ne_eqb (P.col y) i n) (and-false (on y) ∙ sym (and-false (on' y)))) (same? (P.col y) i))

module _ (g : Ground) (c : ℕ) where
  pub off→ : (y : ℕ) → (off_column g c).on y ≡ true → (g.on y ≡ true) × (g.plan.col y ≢ c)
  unfolding off_column
  off→ y o =
      let w = T_and (g.on y) (not (eqb (g.plan.col y) c)) (true-T o) in
      (T_true (g.on y) w.0, neqb→ne (g.plan.col y) c w.1)

  pub off← : (y : ℕ) → g.on y ≡ true → g.plan.col y ≢ c → (off_column g c).on y ≡ true
  unfolding off_column
  off← y o n = T_true (g.on y && not (eqb (g.plan.col y) c)) (and_T (g.on y) (not (eqb (g.plan.col y) c)) (true-T o) (ne→neqb (g.plan.col y) c n))

  pub off-own : (y : ℕ) → g.plan.col y ≡ c → (off_column g c).on y ≡ false
  unfolding off_column
  off-own y e = go (g.on y) (eq-eqb (g.plan.col y) c e)
    where
      go : (b : Bool) → eqb (g.plan.col y) c ≡ true → (b && not (eqb (g.plan.col y) c)) ≡ false
      go true q = rw q
      go false q = refl

  pub off-off : (y : ℕ) → g.on y ≡ false → (off_column g c).on y ≡ false
  unfolding off_column
  off-off y o = rw o

  pub tidy-off : Tidy g → Tidy (off_column g c)
  unfolding off_column
  tidy-off t = record {
    planned = t.planned;
    masked = λ y o. t.masked y (off→ y o).0;
    ring = record { ups = t.ring.ups; downs = t.ring.downs; tied = tied };
    heads-in = t.heads-in;
    counts = λ i h o. t.counts i h (off→ i o).0 ∙ ap pos (tally-alike g.plan g.on (off_column g c).on i (λ y e. stays i h o y e));
    full = λ y e o. t.full y e (off→ y o).0;
    rows = λ y e. ⊎_elim (λ f. inl f) (λ s. inr (record { none = s.none; ahead = s.ahead; back = s.back; off = off-off y s.off })) (t.rows y e);
    edge = λ k h row. let e = t.edge k h row in record { number = e.number; to-first = e.to-first; none = e.none; to_last = e.to_last };
  }
    where
      tied : (x : ℕ) → (off_column g c).on x ≡ true → Tied g.plan.N g.plan.col (off_column g c).on g.up g.down x
      tied x o =
          let w = off→ x o in
          let r = t.ring.tied x w.0 in
          record {
            inside = r.inside;
            below_on = off← (at g.down x) r.below_on (λ e. w.1 (sym r.below-col ∙ e));
            above_on = off← (at g.up x) r.above_on (λ e. w.1 (sym (above-col g.plan.N g.plan.col g.on g.up g.down t.ring t.planned.low x w.0) ∙ e));
            below-col = r.below-col;
            below_up = r.below_up;
            above_down = r.above_down;
            rises = r.rises;
          }

      -- another column keeps its entries
      stays : (i : ℕ) → Header g.plan i → (off_column g c).on i ≡ true → (y : ℕ) → g.plan.col y ≡ i → g.on y ≡ (off_column g c).on y
      stays i h o y e = go (g.on y) refl
        where
          go : (b : Bool) → g.on y ≡ b → b ≡ (off_column g c).on y
          go true q = sym (off← y q (λ s. (off→ i o).1 (t.planned.header i h ∙ sym e ∙ s)))
          go false q = sym (off-off y q)
