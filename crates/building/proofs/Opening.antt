-- The nodes are laid out with the ways down from the last nodes left open, and closed when all are there: the lists are then those that would
-- have been written at once. Assumes nothing.
use Rattle.std.proofs.Common.{◌≡◌, ℕ, zero, suc, ◌+◌, ◌-◌, ◌<◌, ◌≤◌, ◌≢◌, ◌⊎◌, List, length, set, ℤ}
use Rattle.std.proofs.Common.{negsuc, sym, refl, ap, ◌∙◌, subst, inl, inr, ⊎_elim, arith, length-set, get_or-set_other, get_or-set_same, ext_get_or, lt-length-set}
use Rattle.links.specs.Column.{at, Tied}
use Rattle.links.specs.Plan.{Plan, start, EntryOf, Header, Planned}
use Rattle.links.proofs.Stores.{same?}
use Rattle.links.proofs.Plans.{entry-from, entry-no-header, past-no-header}
use Rattle.building.specs.Laid.{below, Laid, Last, Open, closing}
use Rattle.building.proofs.Masks.{header-below}
use Rattle.building.proofs.RingEnd.{end_up, end_down}
use Rattle.building.proofs.Laying.{end_heads, laid-entry, laid-close}

-- what is laid out is open too
pub open-laid : (P : Plan) (i x : ℕ) {heads : List ℤ} {up down tints : List ℕ} → Laid P x heads up down tints → Open P i x heads up down tints
open-laid P i x {down = down} L = record { closed = down; laid = L; long = refl; same = λ y. inl refl }

module _ (P : Plan) (W : Planned P) (i x : ℕ) (heads : List ℤ) (up down tints : List ℕ) (O : Open P i x heads up down tints) where
  -- the last node of a column stands in the lists
  module _ (c : ℕ) (h : Header P c) (s : start P ≤ x) where
    c-tied : Tied P.N P.col (below P x) up O.closed c
    c-tied = O.laid.ring.tied c (header-below P W x c s h)

    last-inside : at up c < P.N
    last-inside = (O.laid.ring.tied (at up c) c-tied.above_on).inside

    last-in-closed : at up c < length O.closed
    last-in-closed = omega (arith, last-inside, O.laid.ring.downs)

    pub last-in : at up c < length down
    last-in = omega (arith, last-in-closed, O.long)

    pub head_in : c < length up
    head_in = omega (arith, c-tied.inside, O.laid.ring.ups)

-- One entry more, at the end of its column.
module _ (P : Plan) (W : Planned P) (x : ℕ) (heads : List ℤ) (up down tints : List ℕ) (O : Open P 0 x heads up down tints) (e : EntryOf P x) where
  abbrev c : ℕ
  c = P.col x

  abbrev q : ℕ
  q = at up c

  c-header : Header P c
  c-header = W.entry x e

  from : start P ≤ x
  from = entry-from P W x e

  up-head : at (end_up up c x) c ≡ x
  up-head = get_or-set_same (set up x q) c x 0 (lt-length-set up x q (head_in P W 0 x heads up down tints O c c-header from))

  same-last : at (set down q x) q ≡ at (end_down up O.closed c x) q
  same-last =
      get_or-set_same down q x 0 (last-in P W 0 x heads up down tints O c c-header from)
      ∙ sym (get_or-set_same (set O.closed x c) q x 0 (lt-length-set O.closed x c (last-in-closed P W 0 x heads up down tints O c c-header from)))

  other : (y : ℕ) → y ≢ x → y ≢ q → (at down y ≡ at O.closed y) ⊎ Last P 0 up y → (at (set down q x) y ≡ at (end_down up O.closed c x) y) ⊎ Last P 0 (end_up up c x) y
  other y n m (inl s) = inl (get_or-set_other down q y x 0 m ∙ s ∙ sym (get_or-set_other (set O.closed x c) q y x 0 m ∙ get_or-set_other O.closed x y c 0 n))
  other y n m (inr l) =
      let away : l.column ≢ c = λ r. m (l.there ∙ ap (at up) r) in
      let old : l.column ≢ x = λ r. entry-no-header P W x e (subst (λ (z : ℕ). Header P z) r l.header) in
      inr (record {
        column = l.column;
        header = l.header;
        behind = l.behind;
        there = l.there ∙ sym (get_or-set_other (set up x q) c l.column x 0 away ∙ get_or-set_other up x l.column q 0 old);
      })

  pub open-entry : Open P 0 (x + 1) (end_heads heads c x) (end_up up c x) (set down q x) (set tints x (P.tint x))
  open-entry = record {
    closed = end_down up O.closed c x;
    laid = laid-entry P W x heads up O.closed tints O.laid e;
    long = simp length-set O.long;
    same = λ y. ⊎_elim (λ r. inr (record { column = c; header = c-header; behind = c-header.above; there = r ∙ sym up-head }))
        (λ n. ⊎_elim (λ r. inl (rw r same-last)) (λ m. other y n m (O.same y)) (same? y q)) (same? y x);
  }

-- The boundary after option k.
module _ (P : Plan) (W : Planned P) (k : ℕ) (l : k < P.M) (row : P.first k < P.past k) (heads : List ℤ) (up down tints : List ℕ) (O : Open P 0 (P.past k) heads up down tints) where
  in-closed : P.first k - 1 < length O.closed
  in-closed = omega (arith, W.till k l row, O.laid.ring.downs)

  beside : (y : ℕ) → y ≢ P.first k - 1 → (at down y ≡ at O.closed y) ⊎ Last P 0 up y
      → (at (set down (P.first k - 1) (P.past k - 1)) y ≡ at (set O.closed (P.first k - 1) (P.past k - 1)) y) ⊎ Last P 0 (set up (P.past k) (P.first k)) y
  beside y n (inl s) = inl (get_or-set_other down (P.first k - 1) y (P.past k - 1) 0 n ∙ s ∙ sym (get_or-set_other O.closed (P.first k - 1) y (P.past k - 1) 0 n))
  beside y n (inr s) =
      let past : s.column ≢ P.past k = λ r. past-no-header P W k l row (subst (λ (z : ℕ). Header P z) r s.header) in
      inr (record { column = s.column; header = s.header; behind = s.behind; there = s.there ∙ sym (get_or-set_other up (P.past k) s.column (P.first k) 0 past) })

  pub open-close : Open P 0 (P.past k + 1) (set heads (P.past k) (negsuc k)) (set up (P.past k) (P.first k)) (set down (P.first k - 1) (P.past k - 1)) tints
  open-close = record {
    closed = set O.closed (P.first k - 1) (P.past k - 1);
    laid = laid-close P W k l row heads up O.closed tints O.laid;
    long = simp length-set O.long;
    same = λ y.
        ⊎_elim (λ r. inl (rw r (get_or-set_same down (P.first k - 1) (P.past k - 1) 0 (omega (arith, in-closed, O.long))
        ∙ sym (get_or-set_same O.closed (P.first k - 1) (P.past k - 1) 0 in-closed))))
        (λ n. beside y n (O.same y)) (same? y (P.first k - 1));
  }

-- The columns are closed one after another.
module _ (P : Plan) (W : Planned P) (x : ℕ) (s : start P ≤ x) (heads : List ℤ) (up tints : List ℕ) where
  open_next : (i : ℕ) (down : List ℕ) → i < P.n → Open P i x heads up down tints → Open P (suc i) x heads up (set down (at up (suc i)) (suc i)) tints
  open_next i down m O = record {
    closed = O.closed;
    laid = O.laid;
    long = rw length-set O.long;
    same = λ y. ⊎_elim (λ r. inl (rw r own)) (λ n. other-column y n (O.same y)) (same? y (at up (suc i)));
  }
    where
      h : Header P (suc i)
      h = record { above = omega arith; below = omega (arith, m) }

      own : at (set down (at up (suc i)) (suc i)) (at up (suc i)) ≡ at O.closed (at up (suc i))
      own = get_or-set_same down (at up (suc i)) (suc i) 0 (last-in P W i x heads up down tints O (suc i) h s) ∙ sym (c-tied P W i x heads up down tints O (suc i) h s).above_down

      other-column : (y : ℕ) → y ≢ at up (suc i) → (at down y ≡ at O.closed y) ⊎ Last P i up y → (at (set down (at up (suc i)) (suc i)) y ≡ at O.closed y) ⊎ Last P (suc i) up y
      other-column y n (inl e) = inl (get_or-set_other down (at up (suc i)) y (suc i) 0 n ∙ e)
      other-column y n (inr l) =
          let away : l.column ≢ suc i = λ r. n (l.there ∙ ap (at up) r) in
          inr (record { column = l.column; header = l.header; behind = omega (arith, l.behind, away); there = l.there })

  open-some : (i : ℕ) (down : List ℕ) → i ≤ P.n → Open P 0 x heads up down tints → Open P i x heads up (closing i up down) tints
  open-some zero down m O = O
  open-some (suc i) down m O = open_next i (closing i up down) (omega (arith, m)) (open-some i down (omega (arith, m)) O)

  pub open-end : (down : List ℕ) → Open P 0 x heads up down tints → Laid P x heads up (closing P.n up down) tints
  open-end down O =
      let A = open-some P.n down (omega arith) O in
      subst (λ (d : List ℕ). Laid P x heads up d tints) (sym (ext_get_or 0 (closing P.n up down) A.closed A.long (λ y m. all A.closed y (A.same y)))) A.laid
    where
      all : (d : List ℕ) (y : ℕ) → (at (closing P.n up down) y ≡ at d y) ⊎ Last P P.n up y → at (closing P.n up down) y ≡ at d y
      all d y (inl e) = e
      all d y (inr l) = absurd (omega (arith, l.behind, l.header.below))
