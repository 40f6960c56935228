-- Nodes that rise in each column are taken out, and come back in the same order: at each moment the lists are those of the ground but for the links to
-- nodes that are away, and when none is, they are the very lists. Assumes nothing.
use Prim.Native.Nat.{ℕ, ◌+◌, ◌<◌, ◌≤◌}
use native.Mathlib.Omega.{arith}
use mathlib.Core.Path.{◌≡◌, refl, ◌∙◌, ap, sym, subst}
use Rattle.rules.specs.Bounds.{node_bound}
use mathlib.Core.Logic.{⊎_elim, ◌≢◌}
use mathlib.Core.Bool.{true, false, true≢false}
use mathlib.Core.List.Memᴰ
use mathlib.Core.List.Memᴰ.{head as here}
use mathlib.Core.List.Memᴰ.{not-nil}
use mathlib.Core.List.Memᴰ.{tail as next}
use mathlib.Core.List.{List, [], ◌∷◌, Memᴰ as In}
use borrow.Author.Tests.{eq-eqb}
use lib.ListN.{length, set, length-set}
use lib.Seq.{get_or-set_other, ext_get_or}
use lib.IntN.{ℤ, pos}
use Rattle.links.specs.Head.{item_of, head, Growing}
use Rattle.links.specs.Column.{at, cut_up, cut_down, tie_up, tie_down, Tied}
use Rattle.links.specs.Ground.{Ground, Tidy, Within, cut_one, taken, Holds}
use Rattle.links.proofs.Stores.{same?, not_so, read_set}
use Rattle.links.proofs.Plans.{entry-not-col}
use Rattle.links.proofs.Rings.{without-off, above_in, below_in, down-stays, above_before, above-col}
use Rattle.links.proofs.Taken.{taken-lengths}
use Rattle.links.proofs.Grounds.{node_in, cut-up-off, cut-down-off, tidy-cut}
use Rattle.hiding.specs.Away.{Rising, Away}
use Rattle.hiding.proofs.Spending.{more-asks, more-back}
use Rattle.hiding.proofs.Rises.{rising-once, rising-next, rising-fresh}

-- none is away: the very lists
pub all_back : (g : Ground) {heads : List ℤ} {up down : List ℕ} → Away g [] heads up down → Holds g heads up down
all_back g {heads} {up} {down} k = record {
  heads-are = k.heads-are;
  up-are = ext_get_or 0 up g.up k.ups (λ y l. k.up-kept y not-nil);
  down-are = ext_get_or 0 down g.down k.downs (λ y l. k.down-kept y not-nil);
}

none-away : (g : Ground) → Away g [] g.heads g.up g.down
none-away g = record {
  heads-are = refl;
  ups = refl;
  downs = refl;
  up-off = λ y o. refl;
  down-off = λ y o. refl;
  up-kept = λ y n. refl;
  down-kept = λ y n. refl;
  down-own = λ y m. refl;
}

-- the heads reach over all nodes
pub away-room : (g : Ground) → Tidy g → {xs : List ℕ} {heads : List ℤ} {up down : List ℕ} → Away g xs heads up down → g.plan.N ≤ length heads
away-room g t {xs} k = rw (k.heads-are, (taken-lengths g xs).0) t.heads-in

-- x goes, or comes back, before the others xs.
module _ (g : Ground) (t : Tidy g) (x : ℕ) (xs : List ℕ) (r : Rising g (x ∷ xs)) where
  w : Within g x
  w = r.0

  tx : Tied g.plan.N g.plan.col g.on g.up g.down x
  tx = t.ring.tied x w.on

  -- the node above x in its column is not away
  above : at g.up x < x
  above = above_before g.plan.N g.plan.col g.on g.up g.down t.ring x w.on (entry-not-col g.plan t.planned x w.entry)

  above-here : In (at g.up x) xs → ⊥
  above-here m = omega (arith, above, r.1 (at g.up x) m (above-col g.plan.N g.plan.col g.on g.up g.down t.ring t.planned.low x w.on))

  above-stays : In (at g.up x) (x ∷ xs) → ⊥
  above-stays (here e) = omega (arith, above, e)
  above-stays (next m) = above-here m

  module _ {heads : List ℤ} {up down : List ℕ} where
    -- away from the ground without x, and x too
    away-more : Away (cut_one g x) xs heads up down → Away g (x ∷ xs) heads up down
    unfolding cut_one
    away-more k = record {
      heads-are = k.heads-are;
      ups = k.ups ∙ length-set g.up _ _;
      downs = k.downs ∙ length-set g.down _ _;
      up-off = λ y o. k.up-off y (without-off g.on x y o) ∙ cut-up-off g t x w y o;
      down-off = λ y o. k.down-off y (without-off g.on x y o) ∙ cut-down-off g t x w y o;
      up-kept = λ y n. let s = up_same y n in k.up-kept y (λ m. n (next (Memᴰ.cast (sym s) m))) ∙ s;
      down-kept = λ y n. let s = down-same y n in k.down-kept y (λ m. n (next (Memᴰ.cast (sym s) m))) ∙ s;
      down-own = own;
    }
      where
        up_same : (y : ℕ) → (In (at g.up y) (x ∷ xs) → ⊥) → at (cut_up g.up g.down x) y ≡ at g.up y
        up_same y n = get_or-set_other g.up (at g.down x) y (at g.up x) 0 (λ e. n (here (ap (at g.up) e ∙ tx.below_up)))

        down-same : (y : ℕ) → (In (at g.down y) (x ∷ xs) → ⊥) → at (cut_down g.up g.down x) y ≡ at g.down y
        down-same y n = get_or-set_other g.down (at g.up x) y (at g.down x) 0 (λ e. n (here (ap (at g.down) e ∙ tx.above_down)))

        own : (y : ℕ) → In y (x ∷ xs) → at down y ≡ at g.down y
        own y (here e) = rw e (k.down-off x (rw (eq-eqb x x refl)) ∙ down-stays g.plan.N g.plan.col g.on g.up g.down t.ring x w.on)
        own y (next m) = k.down-own y m ∙ get_or-set_other g.down (at g.up x) y (at g.down x) 0 (λ e. above-here (Memᴰ.cast (sym e) m))

    module _ (k : Away g (x ∷ xs) heads up down) where
      up_is : at up x ≡ at g.up x
      up_is = k.up-kept x above-stays

      down_is : at down x ≡ at g.down x
      down_is = k.down-own x (here refl)

      up_in : at g.up x < length down
      up_in = omega (arith, k.downs, above_in g.plan.N g.plan.col g.on g.up g.down t.ring x w.on)

      down-in : at g.down x < length up
      down-in = omega (arith, k.ups, below_in g.plan.N g.plan.col g.on g.up g.down t.ring x w.on)

      -- what the code asks
      pub relink-asks : (x < node_bound) × (x < length up) × (x < length down) × (at up x < length down) × (at down x < length up)
      relink-asks =
          let i = node_in g t x w in
          (omega (arith, t.planned.small), omega (arith, k.ups, t.ring.ups), omega (arith, k.downs, t.ring.downs), rw up_is up_in, rw down_is down-in)

      pub more-in : Growing heads (g.plan.col x)
      more-in = rw k.heads-are (more-asks g t x w xs (rising-fresh g xs t r.2) (rising-once g x xs r))

      -- a link that is not written now: as it was, unless its target is still away
      kept : (was now : List ℕ) (y z : ℕ) → ((In (at was y) (x ∷ xs) → ⊥) → at now y ≡ at was y) → (g.on y ≡ false → at now y ≡ at was y)
          → (g.on y ≡ true → at was y ≡ x → y ≡ z) → y ≢ z → (In (at was y) xs → ⊥) → at now y ≡ at was y
      kept was now y z to off tied d n = ⊎_elim (λ q. off (not_so (g.on y) (λ o. d (tied o q)))) (λ q. to (either q)) (same? (at was y) x)
        where
          either : at was y ≢ x → In (at was y) (x ∷ xs) → ⊥
          either q (here e) = q e
          either q (next m) = n m

      kept-up : (y : ℕ) → y ≢ at g.down x → (In (at g.up y) xs → ⊥) → at up y ≡ at g.up y
      kept-up y = kept g.up up y (at g.down x) (k.up-kept y) (k.up-off y) (λ o q. sym (t.ring.tied y o).above_down ∙ ap (at g.down) q)

      kept-down : (y : ℕ) → y ≢ at g.up x → (In (at g.down y) xs → ⊥) → at down y ≡ at g.down y
      kept-down y = kept g.down down y (at g.up x) (k.down-kept y) (k.down-off y) (λ o q. sym (t.ring.tied y o).below_up ∙ ap (at g.up) q)

      back-links : Away g xs (taken g xs).heads (set up (at g.down x) x) (set down (at g.up x) x)
      back-links = record {
        heads-are = refl;
        ups = length-set up _ _ ∙ k.ups;
        downs = length-set down _ _ ∙ k.downs;
        up-off = λ y o. get_or-set_other up (at g.down x) y x 0 (λ e. true≢false (sym tx.below_on ∙ ap g.on (sym e) ∙ o)) ∙ k.up-off y o;
        down-off = λ y o. get_or-set_other down (at g.up x) y x 0 (λ e. true≢false (sym tx.above_on ∙ ap g.on (sym e) ∙ o)) ∙ k.down-off y o;
        up-kept = λ y n. ⊎_elim (λ v. v.1 ∙ sym (ap (at g.up) v.0 ∙ tx.below_up)) (λ v. v.1 ∙ kept-up y v.0 n) (read_set up (at g.down x) x 0 y down-in);
        down-kept = λ y n. ⊎_elim (λ v. v.1 ∙ sym (ap (at g.down) v.0 ∙ tx.above_down)) (λ v. v.1 ∙ kept-down y v.0 n) (read_set down (at g.up x) x 0 y up_in);
        down-own = λ y m. get_or-set_other down (at g.up x) y x 0 (λ e. above-here (Memᴰ.cast (sym e) m)) ∙ k.down-own y (next m);
      }

      -- x comes back
      pub away-back : Away g xs (set heads (g.plan.col x) (pos (item_of (head heads (g.plan.col x)) + 1))) (tie_up up down x) (tie_down up down x)
      away-back =
          subst (λ (l : List ℤ). Away g xs l (tie_up up down x) (tie_down up down x))
          (sym (ap (λ (l : List ℤ). set l (g.plan.col x) (pos (item_of (head l (g.plan.col x)) + 1))) k.heads-are ∙ more-back g t x w xs (rising-fresh g xs t r.2) (rising-once g x xs r)))
          (rw (up_is, down_is) back-links)

-- Taken out in the ground
pub away-taken : (g : Ground) (xs : List ℕ) → Tidy g → Rising g xs → Away g xs (taken g xs).heads (taken g xs).up (taken g xs).down
away-taken g [] t r = none-away g
away-taken g (x ∷ xs) t r = away-more g t x xs r (away-taken (cut_one g x) xs (tidy-cut g t x r.0) (rising-next g t x xs r))
