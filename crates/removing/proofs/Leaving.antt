-- Which nodes go when an item is removed: the others of every option that holds it and not p. All of them are in columns in sight, and the
-- nodes that stay are those of the mask without the item. Assumes nothing.
use Prim.Native.Nat.{ℕ, zero, suc, ◌<◌}
use native.Mathlib.Omega.{arith}
use mathlib.Core.Path.{◌≡◌, refl, ◌∙◌, ap, sym, subst}
use mathlib.Core.Logic.{⊎_elim, ◌≢◌}
use mathlib.Core.Bool.{Bool, true, not, ◌&&◌, cond}
use mathlib.Core.List.{List, [], ◌++◌, Memᴰ as In}
use lib.Dec.{T, eqb, eqb→eq}
use Rattle.theorems.proofs.Words.Tests.{T_and, and_T, T_true, true-T, eq→eqb}
use Rattle.theorems.proofs.Words.Lists.{any→, any←}
use Rattle.links.specs.Plan.{start, lo, hi, EntryOf}
use Rattle.links.specs.Ground.{Ground, Tidy, Within, Fresh}
use Rattle.links.specs.Row.{span, others}
use Rattle.links.specs.Shown.{Ready}
use Rattle.links.specs.Taking.{gather_to, in_column, holds_column, leaving, off_column}
use Rattle.links.proofs.Plans.{entry-from, row-entry}
use Rattle.links.proofs.Spans.{In-span, span-In}
use Rattle.links.proofs.Rows.{In-others}
use Rattle.links.proofs.Gathering.{In-gather, gather-fresh}
use Rattle.links.proofs.Descending.{column←, column-entry}
use Rattle.links.proofs.Passing.{leaving-inside}
use Rattle.removing.proofs.OffColumn.{off←, tidy-off}

-- the same nodes are gathered where a column is out of sight
gather-off : (g : Ground) (c : ℕ) (chosen : ℕ → Bool) (k : ℕ) → gather_to chosen (off_column g c) k ≡ gather_to chosen g k
unfolding others off_column
gather-off g c chosen zero = refl
gather-off g c chosen (suc k) = ap (λ (l : List ℕ). l ++ cond (chosen k) (others g k) []) (gather-off g c chosen k)

-- Option k holds column i: some entry of it is there.
module _ (g : Ground) (t : Tidy g) where
  pub holds→ : (k i : ℕ) → k < g.plan.M → T (holds_column g k i) → (z : ℕ) × EntryOf g.plan z × (g.plan.number z ≡ k) × (g.on z ≡ true) × (g.plan.col z ≡ i)
  holds→ k i l h =
      let u = any→ (λ z. g.on z && eqb (g.plan.col z) i) (span (g.plan.first k) (g.plan.past k)) h in
      let s = In-span (g.plan.first k) (g.plan.past k) u.1 in
      let b = T_and (g.on u.0) (eqb (g.plan.col u.0) i) u.2 in
      (u.0, row-entry g.plan t.planned k u.0 l s.0 s.1, t.planned.numbered k u.0 l s.0 s.1, T_true (g.on u.0) b.0, eqb→eq (g.plan.col u.0) i b.1)

  pub holds← : (z i : ℕ) → EntryOf g.plan z → g.on z ≡ true → g.plan.col z ≡ i → T (holds_column g (g.plan.number z) i)
  holds← z i e o q =
      any← (λ z. g.on z && eqb (g.plan.col z) i) (span (lo g.plan z) (hi g.plan z)) (span-In (lo g.plan z) (hi g.plan z) e.from e.till)
      (and_T (g.on z) (eqb (g.plan.col z) i) (true-T o) (eq→eqb (g.plan.col z) i q))

  -- a node before the entries that is in a column is its own column's header
  pub column-header : (k : ℕ) → g.on k ≡ true → k < start g.plan → g.plan.col k ≡ k
  column-header k o l = ⊎_elim (λ h. t.planned.header k h) (λ e. absurd (omega (arith, entry-from g.plan t.planned k e, l))) (t.masked k o)

module _ (g : Ground) (R : Ready g) (c p : ℕ) where
  t : Tidy g
  t = R.tidy

  leaving→ : (k : ℕ) → leaving g c p k ≡ true → EntryOf g.plan k × (g.on k ≡ true) × (g.plan.col k ≡ c) × T (not (holds_column g (g.plan.number k) p))
  leaving→ k e =
      let w = column-entry g t c k (leaving-inside g c k p e) in
      (w.0, w.1, w.2, (T_and (in_column g c k) (not (holds_column g (g.plan.number k) p)) (true-T e)).1)

  -- an entry of the column goes or stays by what its option holds
  pub leaving-is : (k : ℕ) → EntryOf g.plan k → g.on k ≡ true → g.plan.col k ≡ c → leaving g c p k ≡ not (holds_column g (g.plan.number k) p)
  leaving-is k e o q = rw (column← g c k o q (entry-from g.plan t.planned k e))

  -- a node that goes, when the nodes below k are passed: j is the entry of its option in column c
  pub record Goes (k y : ℕ) : Type 0 where
    pub j : ℕ
    pub before : j < k
    pub chosen : leaving g c p j ≡ true
    pub entry : EntryOf g.plan j
    pub on : g.on j ≡ true
    pub col : g.plan.col j ≡ c
    pub lacks : T (not (holds_column g (g.plan.number j) p))
    pub own-entry : EntryOf g.plan y
    pub one-option : g.plan.number y ≡ g.plan.number j
    pub own_on : g.on y ≡ true
    pub own-col : g.plan.col y ≢ c

  other_goes : (k j : ℕ) → j < k → leaving g c p j ≡ true → {y : ℕ} → In y (others g j) → Goes k y
  other_goes k j l ch {y} m =
      let u = leaving→ j ch in
      let v = In-others g t j u.0 m in
      record {
        j = j;
        before = l;
        chosen = ch;
        entry = u.0;
        on = u.1;
        col = u.2;
        lacks = u.3;
        own-entry = v.0;
        one-option = v.1;
        own_on = R.whole.mates j y u.0 v.0 (sym v.1) u.1 v.3;
        own-col = λ q. v.2 (t.planned.once y j v.0 u.0 v.1 (q ∙ sym u.2));
      }

  pub goes : (k : ℕ) {y : ℕ} → In y (gather_to (leaving g c p) g k) → Goes k y
  goes k m = let w = In-gather (leaving g c p) g k m in other_goes k w.0 w.1 w.2 w.3

  -- an entry whose column is in sight is there, and so is its header
  pub in-sight : (y : ℕ) → EntryOf g.plan y → g.on y ≡ true → g.plan.col y ≢ c → Within (off_column g c) y
  unfolding off_column
  in-sight y e o n =
      let h = t.planned.entry y e in
      record { entry = e; on = off← g c y o n; header = off← g c (g.plan.col y) (R.whole.headers (g.plan.col y) h) (λ q. n (sym (t.planned.header (g.plan.col y) h) ∙ q)) }

  pub leaves-fresh : (k : ℕ) → Fresh (off_column g c) (gather_to (leaving g c p) g k)
  unfolding others off_column
  leaves-fresh k =
      subst (Fresh (off_column g c)) (gather-off g c (leaving g c p) k)
      (gather-fresh (leaving g c p) (off_column g c) (tidy-off g c t) c (λ j ch. let u = leaving→ j ch in (u.0, u.2))
      (λ j ch y m. let w = other_goes (suc j) j (omega arith) ch m in in-sight y w.own-entry w.own_on w.own-col) k)
