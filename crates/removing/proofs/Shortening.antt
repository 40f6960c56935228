-- Stores at one node leave what the lists say of the others, so shortening an entry that is in no column in sight keeps them tidy.
-- Assumes nothing.
use Prim.Native.Nat.{ℕ, ◌+◌, ◌-◌, ◌<◌}
use native.Mathlib.Omega.{arith}
use mathlib.Core.Path.{◌≡◌, refl, ◌∙◌, ap, sym, subst}
use mathlib.Core.Logic.{◌⊎◌, inl, inr, ⊎_elim, ◌≢◌}
use mathlib.Core.Bool.{Bool, true, false, false≢true}
use lib.ListN.{set, length-set}
use lib.Seq.{get_or-set_same, get_or-set_other}
use lib.IntN.{pos}
use Rattle.links.specs.Head.{item_of, head}
use Rattle.links.specs.Column.{at, Tied}
use Rattle.links.specs.Plan.{EntryOf, Header, Planned}
use Rattle.links.specs.Ground.{Ground, Short, Edge, Tidy}
use Rattle.links.proofs.Stores.{same?}
use Rattle.links.proofs.Plans.{entry-till, entry-no-header, past-no-entry, before-no-entry}
use Rattle.removing.specs.Removing.{shortened}

-- Stores at node x, of head 0 and of links u and d: what the lists say of any other node stays.
module _ (g : Ground) (x u d : ℕ) where
  pub head-other : (y : ℕ) → y ≢ x → head (set g.heads x (pos 0)) y ≡ head g.heads y
  head-other y n = get_or-set_other g.heads x y (pos 0) (pos 0) n

  up-other : (y : ℕ) → y ≢ x → at (set g.up x u) y ≡ at g.up y
  up-other y n = get_or-set_other g.up x y u 0 n

  down-other : (y : ℕ) → y ≢ x → at (set g.down x d) y ≡ at g.down y
  down-other y n = get_or-set_other g.down x y d 0 n

  module _ (on : ℕ → Bool) where
    abbrev stored : Ground
    stored = record { plan = g.plan; on = on; heads = set g.heads x (pos 0); up = set g.up x u; down = set g.down x d }

    pub tied-other : (y : ℕ) → Tied g.plan.N g.plan.col g.on g.up g.down y → y ≢ x → at g.down y ≢ x → at g.up y ≢ x
        → on (at g.down y) ≡ true → on (at g.up y) ≡ true → Tied g.plan.N g.plan.col on stored.up stored.down y
    tied-other y i n below above o p =
        let a = up-other y n in
        let b = down-other y n in
        record {
          inside = i.inside;
          below_on = rw b o;
          above_on = rw a p;
          below-col = rw b i.below-col;
          below_up = rw b (up-other (at g.down y) below ∙ i.below_up);
          above_down = rw a (down-other (at g.up y) above ∙ i.above_down);
          rises = rw b i.rises;
        }

    pub row_other : (y : ℕ) → y ≢ x → on y ≡ g.on y → (head g.heads y ≡ pos (g.plan.col y)) ⊎ Short g y → (head stored.heads y ≡ pos (g.plan.col y)) ⊎ Short stored y
    row_other y n o (inl f) = inl (head-other y n ∙ f)
    row_other y n o (inr s) = inr (record { none = head-other y n ∙ s.none; ahead = up-other y n ∙ s.ahead; back = down-other y n ∙ s.back; off = o ∙ s.off })

    pub edge_other : (k : ℕ) → g.plan.past k ≢ x → g.plan.first k - 1 ≢ x → Edge g k → Edge stored k
    edge_other k n m e = record {
      number = head-other (g.plan.past k) n ∙ e.number;
      to-first = up-other (g.plan.past k) n ∙ e.to-first;
      none = ap item_of (head-other (g.plan.first k - 1) m) ∙ e.none;
      to_last = down-other (g.plan.first k - 1) m ∙ e.to_last;
    }

pub tidy-shorten : (g : Ground) → Tidy g → (r : ℕ) → EntryOf g.plan r → g.on r ≡ false → Tidy (shortened g r)
unfolding shortened
tidy-shorten g t r b off = record {
  planned = W;
  masked = t.masked;
  ring = record { ups = rw length-set t.ring.ups; downs = rw length-set t.ring.downs; tied = tied };
  heads-in = rw length-set t.heads-in;
  counts = λ i h o. head-other g r (r + 1) (r - 1) i (λ e. entry-no-header g.plan W r b (subst (Header g.plan) e h)) ∙ t.counts i h o;
  full = λ y e o. head-other g r (r + 1) (r - 1) y (on-other y o) ∙ t.full y e o;
  rows = rows;
  edge = λ k h row.
      edge_other g r (r + 1) (r - 1) g.on k (λ q. past-no-entry g.plan W k h row (subst (EntryOf g.plan) (sym q) b))
      (λ q. before-no-entry g.plan W k h row (subst (EntryOf g.plan) (sym q) b)) (t.edge k h row);
}
  where
    W : Planned g.plan
    W = t.planned

    till : r < g.plan.N
    till = entry-till g.plan W r b

    on-other : (y : ℕ) → g.on y ≡ true → y ≢ r
    on-other y o e = false≢true (sym off ∙ ap g.on (sym e) ∙ o)

    tied : (x : ℕ) → g.on x ≡ true → Tied g.plan.N g.plan.col g.on (set g.up r (r + 1)) (set g.down r (r - 1)) x
    tied x o =
        let i = t.ring.tied x o in
        tied-other g r (r + 1) (r - 1) g.on x i (on-other x o) (on-other (at g.down x) i.below_on) (on-other (at g.up x) i.above_on) i.below_on i.above_on

    rows : (y : ℕ) → EntryOf g.plan y → (head (set g.heads r (pos 0)) y ≡ pos (g.plan.col y)) ⊎ Short (shortened g r) y
    rows y e = ⊎_elim own (λ n. row_other g r (r + 1) (r - 1) g.on y n refl (t.rows y e)) (same? y r)
      where
        own : y ≡ r → (head (set g.heads r (pos 0)) y ≡ pos (g.plan.col y)) ⊎ Short (shortened g r) y
        own q =
            inr
            (rw q
            (record {
              none = get_or-set_same g.heads r (pos 0) (pos 0) (omega (arith, till, t.heads-in));
              ahead = get_or-set_same g.up r (r + 1) 0 (omega (arith, till, t.ring.ups));
              back = get_or-set_same g.down r (r - 1) 0 (omega (arith, till, t.ring.downs));
              off = off;
            }))
