-- A node put at the end of a column that has no node behind it keeps the columns, and so does a store at a node that is in none.
-- Assumes nothing.
use Rattle.std.proofs.Common.{◌≡◌, ℕ, ◌<◌, ◌≤◌, Bool, true, false, ◌≢◌, ◌⊎◌, List, set, sym, ap, ◌∙◌, inl, inr, ⊎_elim, arith, length-set, get_or-set_other, get_or-set_same, lt-length-set}
use mathlib.Core.Bool.{false≢true}
use Rattle.links.specs.Column.{at, without, Tied, Ring}
use Rattle.links.proofs.Stores.{same?}
use Rattle.links.proofs.Rings.{without→, without←, above-col}

-- the links when x is put at the end of column i
abbrev pub end_up : List ℕ → ℕ → ℕ → List ℕ
end_up up i x = set (set up x (at up i)) i x

abbrev pub end_down : List ℕ → List ℕ → ℕ → ℕ → List ℕ
end_down up down i x = set (set down x i) (at up i) x

-- In the mask `more` x is new: without x it is the mask of the columns as they are, whose nodes are all before x.
module _ (N : ℕ) (col : ℕ → ℕ) (low : (y : ℕ) → col y ≤ y) (more : ℕ → Bool) (x : ℕ) (up down : List ℕ) (r : Ring N col (without more x) up down)
    (inside : x < N) (new : more x ≡ true) (header : without more x (col x) ≡ true) (own : col (col x) ≡ col x) (first : (y : ℕ) → without more x y ≡ true → y < x) where
  was : (y : ℕ) → y ≢ x → more y ≡ true → without more x y ≡ true
  was = without← more x

  will : (y : ℕ) → without more x y ≡ true → more y ≡ true
  will y e = (without→ more x y e).1

  abbrev q : ℕ
  q = at up (col x)

  th : Tied N col (without more x) up down (col x)
  th = r.tied (col x) header

  q-on : without more x q ≡ true
  q-on = th.above_on

  q-before : q < x
  q-before = first q q-on

  q-col : col q ≡ col x
  q-col = above-col N col (without more x) up down r low (col x) header ∙ own

  head-before : col x < x
  head-before = first (col x) header

  -- what the lists say then
  up-new : at (end_up up (col x) x) x ≡ q
  up-new = get_or-set_other (set up x q) (col x) x x 0 (λ e. omega (arith, head-before, e)) ∙ get_or-set_same up x q 0 (omega (arith, r.ups))

  up-head : at (end_up up (col x) x) (col x) ≡ x
  up-head = get_or-set_same (set up x q) (col x) x 0 (lt-length-set up x q (omega (arith, head-before, r.ups)))

  up-other : (y : ℕ) → y ≢ x → y ≢ col x → at (end_up up (col x) x) y ≡ at up y
  up-other y n m = get_or-set_other (set up x q) (col x) y x 0 m ∙ get_or-set_other up x y q 0 n

  down-new : at (end_down up down (col x) x) x ≡ col x
  down-new = get_or-set_other (set down x (col x)) q x x 0 (λ e. omega (arith, q-before, e)) ∙ get_or-set_same down x (col x) 0 (omega (arith, r.downs))

  down-last : at (end_down up down (col x) x) q ≡ x
  down-last = get_or-set_same (set down x (col x)) q x 0 (lt-length-set down x (col x) (omega (arith, q-before, r.downs)))

  down-other : (y : ℕ) → y ≢ x → y ≢ q → at (end_down up down (col x) x) y ≡ at down y
  down-other y n m = get_or-set_other (set down x (col x)) q y x 0 m ∙ get_or-set_other down x y (col x) 0 n

  not_new : (y : ℕ) → without more x y ≡ true → y ≢ x
  not_new y o e = omega (arith, first y o, e)

  itself : Tied N col more (end_up up (col x) x) (end_down up down (col x) x) x
  itself = record {
    inside = inside;
    below_on = rw down-new (will (col x) header);
    above_on = rw up-new (will q q-on);
    below-col = rw down-new own;
    below_up = rw down-new up-head;
    above_down = rw up-new down-last;
    rises = inr down-new;
  }

  -- the last node of the column has x below it then, and every other node what it had
  downwards : (y : ℕ) → without more x y ≡ true
      → (more (at (end_down up down (col x) x) y) ≡ true) × (col (at (end_down up down (col x) x) y) ≡ col y)
      × (at (end_up up (col x) x) (at (end_down up down (col x) x) y) ≡ y) × ((y < at (end_down up down (col x) x) y) ⊎ (at (end_down up down (col x) x) y ≡ col y))
  downwards y o = ⊎_elim (λ e. rw e last) (λ n. rw (down-other y (not_new y o) n) (other n)) (same? y q)
    where
      ty : Tied N col (without more x) up down y
      ty = r.tied y o

      last : (more (at (end_down up down (col x) x) q) ≡ true) × (col (at (end_down up down (col x) x) q) ≡ col q)
          × (at (end_up up (col x) x) (at (end_down up down (col x) x) q) ≡ q) × ((q < at (end_down up down (col x) x) q) ⊎ (at (end_down up down (col x) x) q ≡ col q))
      last = rw down-last (new, sym q-col, up-new, inl q-before)

      other : y ≢ q → (more (at down y) ≡ true) × (col (at down y) ≡ col y) × (at (end_up up (col x) x) (at down y) ≡ y) × ((y < at down y) ⊎ (at down y ≡ col y))
      other n = (
        will (at down y) ty.below_on,
        ty.below-col,
        up-other (at down y) (not_new (at down y) ty.below_on) (λ e. n (sym ty.below_up ∙ ap (at up) e)) ∙ ty.below_up,
        ty.rises,
      )

  upwards : (y : ℕ) → without more x y ≡ true → (more (at (end_up up (col x) x) y) ≡ true) × (at (end_down up down (col x) x) (at (end_up up (col x) x) y) ≡ y)
  upwards y o = ⊎_elim (λ e. rw e top) (λ n. rw (up-other y (not_new y o) n) (other n)) (same? y (col x))
    where
      ty : Tied N col (without more x) up down y
      ty = r.tied y o

      top : (more (at (end_up up (col x) x) (col x)) ≡ true) × (at (end_down up down (col x) x) (at (end_up up (col x) x) (col x)) ≡ col x)
      top = rw up-head (new, down-new)

      other : y ≢ col x → (more (at up y) ≡ true) × (at (end_down up down (col x) x) (at up y) ≡ y)
      other n = (
        will (at up y) ty.above_on,
        down-other (at up y) (not_new (at up y) ty.above_on) (λ e. n (sym ty.above_down ∙ ap (at down) e ∙ th.above_down)) ∙ ty.above_down,
      )

  -- the columns with x
  pub ring-end : Ring N col more (end_up up (col x) x) (end_down up down (col x) x)
  ring-end = record { ups = rw (length-set, length-set) r.ups; downs = rw (length-set, length-set) r.downs; tied = λ y o. ⊎_elim (λ e. rw e itself) (λ n. one y (was y n o)) (same? y x) }
    where
      one : (y : ℕ) → without more x y ≡ true → Tied N col more (end_up up (col x) x) (end_down up down (col x) x) y
      one y o =
          let d = downwards y o in
          let u = upwards y o in
          record { inside = (r.tied y o).inside; below_on = d.0; above_on = u.0; below-col = d.1; below_up = d.2; above_down = u.1; rises = d.3 }

-- Writing links of nodes that are in no column keeps the columns.
pub ring-off : (N : ℕ) (col : ℕ → ℕ) (on : ℕ → Bool) (up down : List ℕ) (u d v w : ℕ) → on u ≡ false → on d ≡ false → Ring N col on up down → Ring N col on (set up u v) (set down d w)
ring-off N col on up down u d v w uo dn r = record { ups = rw length-set r.ups; downs = rw length-set r.downs; tied = one }
  where
    above : (y : ℕ) → on y ≡ true → at (set up u v) y ≡ at up y
    above y o = get_or-set_other up u y v 0 (λ e. false≢true (sym uo ∙ ap on (sym e) ∙ o))

    beneath : (y : ℕ) → on y ≡ true → at (set down d w) y ≡ at down y
    beneath y o = get_or-set_other down d y w 0 (λ e. false≢true (sym dn ∙ ap on (sym e) ∙ o))

    one : (y : ℕ) → on y ≡ true → Tied N col on (set up u v) (set down d w) y
    one y o =
        let t = r.tied y o in
        record {
          inside = t.inside;
          below_on = rw (beneath y o) t.below_on;
          above_on = rw (above y o) t.above_on;
          below-col = rw (beneath y o) t.below-col;
          below_up = rw (beneath y o) (above (at down y) t.below_on ∙ t.below_up);
          above_down = rw (above y o) (beneath (at up y) t.above_on ∙ t.above_down);
          rises = rw (beneath y o) t.rises;
        }
