-- Removing an item: the walk down its column from its beginning to its end, and that the lists are ready for the next step then.
-- Assumes nothing.
use Prim.Native.Nat.{ℕ, ◌+◌, ◌<◌, ◌≤◌}
use native.Mathlib.Omega.{arith}
use mathlib.Core.Path.{◌≡◌, refl, ◌∙◌, ap, sym, subst}
use mathlib.Core.Logic.{inl, inr, ⊎_elim, ◌≢◌}
use mathlib.Core.Bool.{Bool, true, false, not, ◌||◌, false≢true}
use mathlib.Core.List.{List}
use lib.Dec.{T}
use lib.ListN.{length, set}
use lib.Seq.{get_or-set_other}
use lib.IntN.{ℤ, pos}
use Rattle.theorems.proofs.Words.Tests.{T_true, T-imp}
use Rattle.links.specs.Head.{item_of, head}
use Rattle.links.specs.Column.{at}
use Rattle.links.specs.Plan.{start, EntryOf, Header}
use Rattle.links.specs.Ground.{Ground, Tidy}
use Rattle.links.specs.Shown.{Ready}
use Rattle.links.specs.Taking.{first_out, leaving, holds_column, off_column, leaves, mask_without}
use Rattle.links.proofs.Stores.{same?, less?}
use Rattle.links.proofs.Plans.{entry-from, entry-till, entry-no-header, header-before}
use Rattle.links.proofs.Taken.{on-taken}
use Rattle.links.proofs.Descending.{Stand, on-entry, reach, reach-past, reach-at, left, stand-header, stand-in, stand-next, step-gap, step-far, step_less, header-gap}
use Rattle.removing.specs.Deleting.{Deleting}
use Rattle.removing.specs.Removing.{Dropped, Removing, removed, Removed}
use Rattle.removing.proofs.Emptying.{first-gather}
use Rattle.removing.proofs.OffColumn.{off→}
use Rattle.removing.proofs.EmptyColumn.{tidy-empty}
use Rattle.removing.proofs.Leaving.{holds←}
use Rattle.removing.proofs.Staying.{keeps, stays→, →stays, stays_same}
use Rattle.removing.proofs.Going.{going, midst, RemovalAt, going-begin, going-past, going-deletes, passed_first, passed-going}

-- A walk down the column at node r has passed the nodes below r, and all of them when it is at the header again.
pub record AtNode (g : Ground) (c p np : ℕ) (heads : List ℤ) (up down : List ℕ) (r : ℕ) : Type 0 where
  pub stand : Stand g c r
  pub so_far : RemovalAt g c p np heads up down (reach g.plan r)

module _ {g : Ground} {c p first : ℕ} {heads₀ : List ℤ} {up₀ down₀ : List ℕ} (Q : Removing g c p first heads₀ up₀ down₀) where
  R : Ready g
  R = Q.ready

  t : Tidy g
  t = R.tidy

  module _ {np : ℕ} where
    pub remove-begin : AtNode g c p np heads₀ up₀ down₀ (at down₀ c)
    remove-begin = rw (Q.holds.heads-are, Q.holds.up-are, Q.holds.down-are) (record {
      stand = stand-next g t c Q.item c top;
      so_far = going-past g R c p np g.heads g.up g.down 0 (reach g.plan (at g.down c)) (going-begin g R c p np) (omega arith)
          (λ j a b. ⊎_elim (λ l. header-gap g t c Q.item j l) (λ l. step-gap g t c Q.item c top j l b) (less? j (c + 1)));
    })
      where
        top : Stand g c c
        top = stand-header g t c Q.item (R.whole.headers c Q.item)

    module _ {heads : List ℤ} {up down : List ℕ} {r : ℕ} (M : AtNode g c p np heads up down r) where
      pub remove-node : (r < length heads₀) × (r < length down₀)
      remove-node =
          let i = stand-in g t c Q.item r M.stand in
          (rw Q.holds.heads-are (omega (arith, i, t.heads-in)), rw Q.holds.down-are (omega (arith, i, t.ring.downs)))

      -- at an entry
      module _ (l : first ≤ r) where
        behind : start g.plan ≤ r
        behind = omega (arith, l, Q.starts)

        entry : EntryOf g.plan r
        entry = on-entry g t r M.stand.on behind

        here : RemovalAt g c p np heads up down r
        here = subst (RemovalAt g c p np heads up down) (reach-at g.plan r behind) M.so_far

        pub remove-deletes : Deleting (midst g c p r heads up down) r heads up down
        remove-deletes = going-deletes g R c p np heads up down r here entry M.stand.on M.stand.col Q.apart

        onwards : (next : ℕ) → next ≡ at down r → next ≡ at g.down r
        onwards next e = e ∙ here.ahead r M.stand.on M.stand.col (omega arith)

        module _ {heads' : List ℤ} {up' down' : List ℕ} {z : ℕ} (D : Dropped (midst g c p r heads up down) np r p heads' up' down' z) where
          found : z ≡ first_out (off_column g c) np (going g c p (r + 1))
          found = passed_first g R c p np heads up down r here entry M.stand.on M.stand.col Q.apart heads' up' down' z D

          pub remove-stop : z ≢ 0 → Removed g c p np heads' up' down' z
          unfolding leaves
          remove-stop n = record {
            answer = found ∙ sym (first-gather (off_column g c) np (leaving g c p) g (r + 1) g.plan.N (omega (arith, entry-till g.plan t.planned r entry)) (λ u. n (found ∙ u)));
            ready = λ e. absurd (n e);
            same = λ e. absurd (n e);
          }

          pub remove-next : z ≡ 0 → {next : ℕ} → next ≡ at down r → AtNode g c p np heads' up' down' next
          remove-next e {next} s =
              subst (AtNode g c p np heads' up' down') (sym (onwards next s))
              (record {
                stand = stand-next g t c Q.item r M.stand;
                so_far = going-past g R c p np heads' up' down' (r + 1) (reach g.plan (at g.down r))
                    (passed-going g R c p np heads up down r here entry M.stand.on M.stand.col Q.apart heads' up' down' z D e)
                    (step-far g t c Q.item r M.stand).0 (step-gap g t c Q.item r M.stand);
              })

        pub remove-way : {next : ℕ} → next ≡ at down r → left (length heads₀) first next < left (length heads₀) first r
        remove-way {next} s =
            rw (onwards next s, Q.starts) (step_less g t c Q.item r M.stand (length heads₀) (rw Q.holds.heads-are t.heads-in) behind)

      -- at the header again
      module _ (l : r < first) where
        done : RemovalAt g c p np heads up down g.plan.N
        done = subst (RemovalAt g c p np heads up down) (reach-past g.plan r (omega (arith, l, Q.starts))) M.so_far

        before : c < g.plan.N
        before = omega (arith, header-before g.plan t.planned c Q.item, t.planned.room)

        module _ {heads' : List ℤ} {up' down' : List ℕ} (a : heads' ≡ set heads c (pos 0)) (b : up' ≡ set up c c) (d : down' ≡ set down c c) where
          tidy : Tidy (removed g c p heads' up' down')
          tidy =
              rw (a, b, d)
              (tidy-empty (midst g c p g.plan.N heads up down) done.tidy c Q.item (λ y o. (off→ g c y (on-taken (off_column g c) (going g c p g.plan.N) y o).0).1) (mask_without g c p)
              (→stays g c p c (R.whole.headers c Q.item) (inl (header-before g.plan t.planned c Q.item))) (stays_same g R c p))

          -- an entry's head, but for column c, is what it was
          kept : (z : ℕ) → EntryOf g.plan z → head heads' z ≡ head heads z
          kept z e = rw a (get_or-set_other heads c z (pos 0) (pos 0) (λ q. entry-no-header g.plan t.planned z e (subst (Header g.plan) (sym q) Q.item)))

          mates : (y z : ℕ) → EntryOf g.plan y → EntryOf g.plan z → g.plan.number y ≡ g.plan.number z → mask_without g c p y ≡ true
              → head heads' z ≡ pos (g.plan.col z) → mask_without g c p z ≡ true
          mates y z ey ez s o h = ⊎_elim (λ q. absurd (own q (g.on z) refl)) (λ n. other n) (same? (g.plan.col z) c)
            where
              was-on : g.on y ≡ true
              was-on = (stays→ g c p y o).0

              keeps-y : T (keeps g c p y)
              keeps-y = ⊎_elim (λ i. absurd (omega (arith, i, entry-from g.plan t.planned y ey))) (λ w. w.1) (stays→ g c p y o).1

              full-before : (g.on z ≡ true → g.plan.col z ≢ c) → g.on z ≡ true
              full-before n = R.whole.mates y z ey ez s was-on (sym (done.same z ez n) ∙ sym (kept z ez) ∙ h)

              other : g.plan.col z ≢ c → mask_without g c p z ≡ true
              other n = →stays g c p z (full-before (λ _. n)) (inr (n, subst (λ (k : ℕ). T (not (holds_column g k c) || holds_column g k p)) s keeps-y))

              -- of column c, it was shortened
              own : g.plan.col z ≡ c → (v : Bool) → g.on z ≡ v → ⊥
              own q true i =
                  let hp = T-imp (holds_column g (g.plan.number z) c) (holds_column g (g.plan.number z) p)
                  (subst (λ (k : ℕ). T (not (holds_column g k c) || holds_column g k p)) s keeps-y) (holds← g t z c ez i q) in
                  let e = done.short z ez i q (entry-till g.plan t.planned z ez) (T_true (holds_column g (g.plan.number z) p) hp) in
                  omega (arith, ap item_of (sym (kept z ez ∙ e) ∙ h), (t.planned.entry z ez).above)
              own q false i = false≢true (sym i ∙ full-before (λ j. absurd (false≢true (sym i ∙ j))))

          pub remove-end : Removed g c p np heads' up' down' 0
          unfolding leaves
          remove-end = record {
            answer = sym done.none;
            ready = λ _. record {
              tidy = tidy;
              whole = record { headers = λ i h. →stays g c p i (R.whole.headers i h) (inl (header-before g.plan t.planned i h)); mates = mates };
            };
            same = λ _ y e n. kept y e ∙ done.same y e (λ _. n);
          }
