-- A walk down a column: from a node to the one below it, between which no node of the column lies, and from the last back to the header.
-- Assumes nothing.
use Prim.Native.Nat.{ℕ, ◌+◌, ◌-◌, ◌<◌, ◌≤◌}
use native.Mathlib.Omega.{arith}
use mathlib.Core.Path.{◌≡◌, ◌∙◌, sym}
use mathlib.Core.Logic.{◌⊎◌, inl, inr, ⊎_elim}
use mathlib.Core.Bool.{true, false, ◌&&◌, cond, and-eq-true_iff}
use borrow.Author.Tests.{lt-ltb, le-ltb, le-leb, eq-eqb, leb-true, eqb-true}
use lib.Dec.{leb, ltb, eqb}
use Rattle.links.specs.Column.{at, Tied}
use Rattle.links.specs.Plan.{Plan, start, EntryOf, Header}
use Rattle.links.specs.Ground.{Ground, Tidy}
use Rattle.links.specs.Taking.{in_column}
use Rattle.links.proofs.Stores.{not_so}
use Rattle.links.proofs.Rings.{next-is}
use Rattle.links.proofs.Plans.{entry-from, header-before}
-- how far a walk has come, passed on
pub use Rattle.links.specs.Way.{reach}

-- An entry of column c.
pub column→ : (g : Ground) (c k : ℕ) → in_column g c k ≡ true → (g.on k ≡ true) × (g.plan.col k ≡ c) × (start g.plan ≤ k)
column→ g c k e =
    let a = (and-eq-true_iff (g.on k && eqb (g.plan.col k) c) (leb (start g.plan) k)).0 e in
    let b = (and-eq-true_iff (g.on k) (eqb (g.plan.col k) c)).0 a.0 in
    (b.0, eqb-true (g.plan.col k) c b.1, leb-true (start g.plan) k a.1)

pub column← : (g : Ground) (c k : ℕ) → g.on k ≡ true → g.plan.col k ≡ c → start g.plan ≤ k → in_column g c k ≡ true
column← g c k o e h = rw (o, eq-eqb (g.plan.col k) c e, le-leb (start g.plan) k h)

-- none lies before the entries
pub before-gap : (g : Ground) (c k : ℕ) → k < start g.plan → in_column g c k ≡ false
before-gap g c k h = not_so (in_column g c k) (λ e. omega (arith, (column→ g c k e).2, h))

pub on-entry : (g : Ground) → Tidy g → (k : ℕ) → g.on k ≡ true → start g.plan ≤ k → EntryOf g.plan k
on-entry g t k o h = ⊎_elim (λ i. absurd (omega (arith, header-before g.plan t.planned k i, h))) (λ m. m) (t.masked k o)

pub column-entry : (g : Ground) → Tidy g → (c k : ℕ) → in_column g c k ≡ true → EntryOf g.plan k × (g.on k ≡ true) × (g.plan.col k ≡ c)
column-entry g t c k e = let w = column→ g c k e in (on-entry g t k w.0 w.2, w.0, w.1)

-- How far the walk has come when it is at the header again, and at an entry.
pub reach-past : (P : Plan) (x : ℕ) → x < start P → reach P x ≡ P.N
reach-past P x l = rw (lt-ltb x (start P) l)

pub reach-at : (P : Plan) (x : ℕ) → start P ≤ x → reach P x ≡ x
reach-at P x l = rw (le-ltb x (start P) l)

-- And how far it has still to go from x, by numbers that the code has at hand.
abbrev pub left : ℕ → ℕ → ℕ → ℕ
left n first x = cond (ltb x first) 0 (n - x)

pub left_less : (n first x to : ℕ) → first ≤ x → x < n → (x < to) ⊎ (to < first) → left n first to < left n first x
left_less n first x to h l w =
    rw (le-ltb x first h)
    (⊎_elim (λ (k : x < to). rw (le-ltb to first (omega arith)) (omega arith)) (λ (k : to < first). rw (lt-ltb to first k) (omega arith)) w)

-- Node x is in column c.
pub record Stand (g : Ground) (c x : ℕ) : Type 0 where
  pub on : g.on x ≡ true
  pub col : g.plan.col x ≡ c

module _ (g : Ground) (t : Tidy g) (c : ℕ) (hd : Header g.plan c) where
  pub stand-header : g.on c ≡ true → Stand g c c
  stand-header o = record { on = o; col = t.planned.header c hd }

  module _ (x : ℕ) (s : Stand g c x) where
    tp : Tied g.plan.N g.plan.col g.on g.up g.down x
    tp = t.ring.tied x s.on

    pub stand-in : x < g.plan.N
    stand-in = tp.inside

    pub stand-column : start g.plan ≤ x → in_column g c x ≡ true
    stand-column h = column← g c x s.on s.col h

    pub stand-next : Stand g c (at g.down x)
    stand-next = record { on = tp.below_on; col = tp.below-col ∙ s.col }

    -- the node below is an entry further on, or the header
    step_down : ((x < at g.down x) × (start g.plan ≤ at g.down x)) ⊎ (at g.down x ≡ c)
    step_down = ⊎_elim (λ l. inl (l, beyond l (t.masked (at g.down x) tp.below_on))) (λ e. inr (e ∙ s.col)) tp.rises
      where
        beyond : x < at g.down x → Header g.plan (at g.down x) ⊎ EntryOf g.plan (at g.down x) → start g.plan ≤ at g.down x
        beyond l (inl h) = absurd (omega (arith, l, t.planned.low x, s.col, sym (t.planned.header (at g.down x) h) ∙ stand-next.col))
        beyond l (inr e) = entry-from g.plan t.planned (at g.down x) e

    -- no entry of the column lies between
    pub step-gap : (k : ℕ) → x + 1 ≤ k → k < reach g.plan (at g.down x) → in_column g c k ≡ false
    step-gap k a b =
        not_so (in_column g c k) (λ e.
        let h = column→ g c k e in
        let i = next-is g.plan.N g.plan.col g.on g.up g.down t.ring t.planned.low x k s.on h.0 (h.1 ∙ sym s.col) (omega arith) in
        ⊎_elim (λ w. omega (arith, i.1, b, reach-at g.plan (at g.down x) w.1)) (λ q. omega (arith, i.0, q, t.planned.low x, s.col)) step_down)

    pub step-far : (x + 1 ≤ reach g.plan (at g.down x)) × (reach g.plan (at g.down x) ≤ g.plan.N)
    step-far =
        ⊎_elim (λ w. let e = reach-at g.plan (at g.down x) w.1 in (omega (arith, e, w.0), omega (arith, e, (t.ring.tied (at g.down x) tp.below_on).inside)))
        (λ q. let e = reach-past g.plan (at g.down x) (omega (arith, q, header-before g.plan t.planned c hd)) in (omega (arith, e, tp.inside), omega (arith, e))) step_down

    pub step_less : (n : ℕ) → g.plan.N ≤ n → start g.plan ≤ x → left n (start g.plan) (at g.down x) < left n (start g.plan) x
    step_less n l h =
        left_less n (start g.plan) x (at g.down x) h (omega (arith, stand-in))
        (⊎_elim (λ w. inl w.0) (λ q. inr (omega (arith, q, header-before g.plan t.planned c hd))) step_down)

  -- no entry of the column lies at or above its header
  pub header-gap : (k : ℕ) → k < c + 1 → in_column g c k ≡ false
  header-gap k b = before-gap g c k (omega (arith, b, header-before g.plan t.planned c hd))
