-- Columns keep their shape when a node is taken out, putting it back right after gives the very lists, and no node of a column lies between
-- a node and the one below it. Assumes nothing.
use Prim.Native.Nat.{ℕ, zero, suc, ◌<◌, ◌≤◌}
use native.Mathlib.Omega.{arith}
use mathlib.Core.Path.{◌≡◌, ◌∙◌, ap, sym}
use mathlib.Core.Logic.{◌⊎◌, inl, inr, ⊎_elim, ◌≢◌}
use mathlib.Core.Bool.{Bool, true, false, false≢true}
use mathlib.Core.List.{List}
use borrow.Author.Tests.{eq-eqb, ne_eqb}
use lib.ListN.{length, set, length-set}
use lib.Seq.{get_or-set_same, get_or-set_other, set-set, set-get_or}
use Rattle.links.specs.Column.{at, cut_up, cut_down, tie_up, tie_down, without, Tied, Ring}
use Rattle.links.proofs.Stores.{same?, less?, read_set}

pub without→ : (on : ℕ → Bool) (x y : ℕ) → without on x y ≡ true → (y ≢ x) × (on y ≡ true)
without→ on x y h = ⊎_elim (λ e. absurd (false≢true (rw (eq-eqb y x e) at h))) (λ n. (n, rw (ne_eqb y x n) at h)) (same? y x)

pub without← : (on : ℕ → Bool) (x y : ℕ) → y ≢ x → on y ≡ true → without on x y ≡ true
without← on x y n h = rw (ne_eqb y x n) h

pub without_other : (on : ℕ → Bool) (x y : ℕ) → y ≢ x → without on x y ≡ on y
without_other on x y n = rw (ne_eqb y x n)

pub without-off : (on : ℕ → Bool) (x y : ℕ) → on y ≡ false → without on x y ≡ false
without-off on x y h = ⊎_elim (λ e. rw (eq-eqb y x e)) (λ n. rw (ne_eqb y x n) h) (same? y x)

module _ (N : ℕ) (col : ℕ → ℕ) (on : ℕ → Bool) (up down : List ℕ) (r : Ring N col on up down) (x : ℕ) (x-on : on x ≡ true) where
  tx : Tied N col on up down x
  tx = r.tied x x-on

  pub above_in : at up x < length down
  above_in = omega (arith, (r.tied (at up x) tx.above_on).inside, r.downs)

  pub below_in : at down x < length up
  below_in = omega (arith, (r.tied (at down x) tx.below_on).inside, r.ups)

  -- the node's own links stay
  pub up-stays : at (cut_up up down x) x ≡ at up x
  up-stays = ⊎_elim (λ w. w.1) (λ w. w.1) (read_set up (at down x) (at up x) 0 x below_in)

  pub down-stays : at (cut_down up down x) x ≡ at down x
  down-stays = ⊎_elim (λ w. w.1) (λ w. w.1) (read_set down (at up x) (at down x) 0 x above_in)

  -- putting it back right after gives the very lists
  pub tied_down : tie_down (cut_up up down x) (cut_down up down x) x ≡ down
  tied_down = rw (up-stays, set-set) (ap (set down (at up x)) (sym tx.above_down) ∙ set-get_or down (at up x) 0)

  pub tied_up : tie_up (cut_up up down x) (cut_down up down x) x ≡ up
  tied_up = rw (down-stays, set-set) (ap (set up (at down x)) (sym tx.below_up) ∙ set-get_or up (at down x) 0)

  module _ (node : x ≢ col x) where
    pub above_before : at up x < x
    above_before =
        ⊎_elim (λ (h : at up x < at down (at up x)). omega (arith, tx.above_down))
        (λ (h : at down (at up x) ≡ col (at up x)). absurd (node (sym tx.above_down ∙ h ∙ sym (r.tied (at up x) tx.above_on).below-col ∙ ap col tx.above_down)))
        (r.tied (at up x) tx.above_on).rises

    below_other : at down x ≢ x
    below_other e = omega (arith, above_before, sym tx.below_up, ap (at up) e)

    -- of another node y, downwards: it was above x and takes what was below x, or it keeps its own
    downwards : (y : ℕ) → y ≢ x → on y ≡ true
        → (without on x (at (cut_down up down x) y) ≡ true) × (col (at (cut_down up down x) y) ≡ col y)
        × (at (cut_up up down x) (at (cut_down up down x) y) ≡ y) × ((y < at (cut_down up down x) y) ⊎ (at (cut_down up down x) y ≡ col y))
    downwards y n o = ⊎_elim (λ w. rw w.1 (above w.0)) (λ w. rw w.1 (other w.0)) (read_set down (at up x) (at down x) 0 y above_in)
      where
        ty : Tied N col on up down y
        ty = r.tied y o

        above : y ≡ at up x → (without on x (at down x) ≡ true) × (col (at down x) ≡ col y) × (at (cut_up up down x) (at down x) ≡ y) × ((y < at down x) ⊎ (at down x ≡ col y))
        above e = (
          without← on x (at down x) below_other tx.below_on,
          tx.below-col ∙ one-col,
          get_or-set_same up (at down x) (at up x) 0 below_in ∙ sym e,
          ⊎_elim (λ h. inl (omega (arith, above_before, h, e))) (λ h. inr (h ∙ one-col)) tx.rises,
        )
          where
            one-col : col x ≡ col y
            one-col = ap col (sym tx.above_down) ∙ (r.tied (at up x) tx.above_on).below-col ∙ ap col (sym e)

        other : y ≢ at up x → (without on x (at down y) ≡ true) × (col (at down y) ≡ col y) × (at (cut_up up down x) (at down y) ≡ y) × ((y < at down y) ⊎ (at down y ≡ col y))
        other m = (
          without← on x (at down y) (λ e. m (sym ty.below_up ∙ ap (at up) e)) ty.below_on,
          ty.below-col,
          get_or-set_other up (at down x) (at down y) (at up x) 0 (λ e. n (sym ty.below_up ∙ ap (at up) e ∙ tx.below_up)) ∙ ty.below_up,
          ty.rises,
        )

    upwards : (y : ℕ) → y ≢ x → on y ≡ true → (without on x (at (cut_up up down x) y) ≡ true) × (at (cut_down up down x) (at (cut_up up down x) y) ≡ y)
    upwards y n o = ⊎_elim (λ w. rw w.1 (below w.0)) (λ w. rw w.1 (other w.0)) (read_set up (at down x) (at up x) 0 y below_in)
      where
        ty : Tied N col on up down y
        ty = r.tied y o

        below : y ≡ at down x → (without on x (at up x) ≡ true) × (at (cut_down up down x) (at up x) ≡ y)
        below e = (without← on x (at up x) (λ q. omega (arith, above_before, q)) tx.above_on, get_or-set_same down (at up x) (at down x) 0 above_in ∙ sym e)

        other : y ≢ at down x → (without on x (at up y) ≡ true) × (at (cut_down up down x) (at up y) ≡ y)
        other m = (
          without← on x (at up y) (λ e. m (sym ty.above_down ∙ ap (at down) e)) ty.above_on,
          get_or-set_other down (at up x) (at up y) (at down x) 0 (λ e. n (sym ty.above_down ∙ ap (at down) e ∙ tx.above_down)) ∙ ty.above_down,
        )

    -- the columns without x
    pub ring_cut : Ring N col (without on x) (cut_up up down x) (cut_down up down x)
    ring_cut = record { ups = rw length-set r.ups; downs = rw length-set r.downs; tied = λ y h. one y (without→ on x y h).0 (without→ on x y h).1 }
      where
        one : (y : ℕ) → y ≢ x → on y ≡ true → Tied N col (without on x) (cut_up up down x) (cut_down up down x) y
        one y n o =
            let d = downwards y n o in
            let u = upwards y n o in
            record { inside = (r.tied y o).inside; below_on = d.0; above_on = u.0; below-col = d.1; below_up = d.2; above_down = u.1; rises = d.3 }

-- Where a header's number is at most its nodes': no node of the column lies between x and the one below x.
module _ (N : ℕ) (col : ℕ → ℕ) (on : ℕ → Bool) (up down : List ℕ) (r : Ring N col on up down) (low : (x : ℕ) → col x ≤ x) where
  pub above-col : (z : ℕ) → on z ≡ true → col (at up z) ≡ col z
  above-col z o = sym (r.tied (at up z) (r.tied z o).above_on).below-col ∙ ap col (r.tied z o).above_down

  -- by how far z is down
  between : (k z x : ℕ) → z < k → on x ≡ true → on z ≡ true → col z ≡ col x → x < z → (x < at down x) × (at down x ≤ z)
  between zero z x h ox oz e l = omega arith
  between (suc k) z x h ox oz e l =
      ⊎_elim (λ (p : x < w). let i = between k w x (omega (arith, before)) ox (r.tied z oz).above_on (above-col z oz ∙ e) p in omega (arith, i.0, i.1, before))
      (λ (p : w ≤ x).
      ⊎_elim (λ (q : w ≡ x). let s : at down x ≡ z = rw q at (r.tied z oz).above_down in omega arith)
      (λ (q : w ≢ x). let i = between k x w (omega arith) (r.tied z oz).above_on ox (sym (above-col z oz ∙ e)) (omega (arith, p, q)) in omega (arith, i.1, (r.tied z oz).above_down))
      (same? w x)) (less? x w)
    where
      w : ℕ
      w = at up z

      before : at up z < z
      before = above_before N col on up down r z oz (λ q. omega (arith, low x, e, q, l))

  pub next-is : (x z : ℕ) → on x ≡ true → on z ≡ true → col z ≡ col x → x < z → (x < at down x) × (at down x ≤ z)
  next-is x z = between (suc z) z x (omega arith)
