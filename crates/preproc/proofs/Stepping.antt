-- An item's step, as the code goes: what each call asks, and that the answers are those of the rules. Assumes nothing.
use Prim.Native.Nat.{ℕ, suc, ◌+◌, ◌-◌, ◌<◌}
use native.Mathlib.Omega.{arith}
use mathlib.Core.Path.{◌≡◌, refl, ◌∙◌, ap, sym, subst}
use mathlib.Core.Logic.{⊎_elim, ◌≢◌}
use mathlib.Core.Bool.{Bool, true, false}
use mathlib.Core.List.{List, [], ◌∷◌, map}
use borrow.Author.Tests.{lt-ltb}
use lib.Dec.{T, ltb}
use lib.ListN.{length}
use lib.IntN.{ℤ}
use Rattle.rules.specs.State.{went}
use Rattle.rules.specs.Rounds.{item_step}
use Rattle.rules.specs.Promises.{distinct}
use Rattle.theorems.proofs.Steps.Redundancy.{chosen→}
use Rattle.links.specs.declared.shape.Shape.{Shape}
use Rattle.links.specs.Plan.{EntryOf, Header, Planned}
use Rattle.links.specs.Ground.{Ground, Holds, Fresh, taken, after}
use Rattle.links.specs.Shown.{Ready, shown}
use Rattle.links.specs.Taking.{last_out, first_out, hides, leaves, off_column, mask_without}
use Rattle.links.proofs.Plans.{entry-from, entry-no-header}
use Rattle.links.proofs.Taken.{on-taken, taken-head, taken-after}
use Rattle.showing.specs.Showing.{state_of, deletes, Condemns, condemned_at}
use Rattle.showing.proofs.Condemned.{condemns, condemned→}
use Rattle.showing.proofs.Deleted.{deleted-ready, condemned-apart}
use Rattle.showing.proofs.ItemStep.{chosen_is, chosen_none, step-removes, removing-empties, step-deletes, deleting-empties}
use Rattle.hiding.specs.Hiding.{Column, Taken}
use Rattle.removing.specs.Removing.{Removing, Removed, removed}
use Rattle.removing.proofs.Staying.{stays→}
use Rattle.condemning.specs.Marks.{Known}
use Rattle.condemning.specs.Condemning.{down_to, Chain, BeforeHiding, Hiding, Tried, Sparing, Spared}
use Rattle.condemning.proofs.Chains.{down-reverse}
use Rattle.condemning.proofs.Knowing.{known-pass}
use Rattle.condemning.proofs.Sparing.{down-front, all-fresh, spared-all}
use Rattle.rules.specs.declared.answer.Cause.TheVariants.{Redundant, Blocked}
use Rattle.preproc.specs.Standing.{Standing, Figured}
use Rattle.preproc.proofs.Coming.{Came}

-- lists that are others' are held as well
pub held_same : {h : Ground} {heads heads' : List ℤ} {up up' down down' : List ℕ} → Holds h heads up down → heads' ≡ heads → up' ≡ up → down' ≡ down → Holds h heads' up' down'
held_same w a b d = record { heads-are = a ∙ w.heads-are; up-are = b ∙ w.up-are; down-are = d ∙ w.down-are }

module _ {g : Ground} (i : ℕ) {c : ℕ} {shape : Shape} {heads : List ℤ} {up down tints marks : List ℕ}
    (s : Standing g heads up down tints marks) (f : Figured g.plan shape) (e : c ≡ i + 1) (own : Header g.plan (i + 1)) where
  R : Ready g
  R = s.ready

  W : Planned g.plan
  W = s.ready.tidy.planned

  hd : Header g.plan c
  hd = rw e own

  -- hiding
  pub step-column : Column g tints c shape.start
  step-column = record { ready = s.ready; tinted = s.tinted; header = hd; begins = f.begins }

  module _ {heads₁ : List ℤ} {up₁ down₁ : List ℕ} {p : ℕ} (h : Taken g (hides g c) shape.np 0 heads₁ up₁ down₁ p) where
    last-is : p ≡ last_out g shape.np (hides g (i + 1)) 0
    last-is = h.last ∙ ap (λ (x : ℕ). last_out g shape.np (hides g x) 0) e

    -- It empties column p: the item is removed.
    module _ (n : p ≢ 0) where
      one : last_out g shape.np (hides g (i + 1)) 0 ≡ p - 1 + 1
      one = sym last-is ∙ omega arith

      p-is : p ≡ p - 1 + 1
      p-is = omega arith

      other : c ≢ p
      other q = (chosen→ shape.np (state_of g) i (chosen_is g R shape.np i (p - 1) one)).other (omega (arith, q, e, n))

      pub step-removing : {heads₂ : List ℤ} {up₂ down₂ : List ℕ} → Holds g heads₂ up₂ down₂ → Removing g c p shape.start heads₂ up₂ down₂
      step-removing w = record { ready = s.ready; item = hd; apart = other; starts = f.begins; holds = w }

      module _ {heads₃ : List ℤ} {up₃ down₃ : List ℕ} {z : ℕ} (r : Removed g c p shape.np heads₃ up₃ down₃ z) where
        answer : z ≡ first_out (off_column g (i + 1)) shape.np (leaves g (i + 1) (p - 1 + 1))
        answer = r.answer ∙ ap (λ (x : ℕ). first_out (off_column g x) shape.np (leaves g x p)) e ∙ ap (λ (x : ℕ). first_out (off_column g (i + 1)) shape.np (leaves g (i + 1) x)) p-is

        same-state : shown g.plan (mask_without g c p) ≡ shown g.plan (mask_without g (i + 1) (p - 1 + 1))
        same-state = ap (λ (x : ℕ). shown g.plan (mask_without g x p)) e ∙ ap (λ (x : ℕ). shown g.plan (mask_without g (i + 1) x)) p-is

        -- a node that stays is not of column c, unless it is a header
        stays : (y : ℕ) → mask_without g c p y ≡ true → EntryOf g.plan y → (g.on y ≡ true) × (g.plan.col y ≢ c)
        stays y o m =
            let w = stays→ g c p y o in
            (w.0, ⊎_elim (λ l. absurd (omega (arith, l, entry-from g.plan W y m))) (λ v. v.0) w.1)

        known : z ≡ 0 → Known (removed g c p heads₃ up₃ down₃) (mask_without g c p) marks
        known q =
            known-pass g (removed g c p heads₃ up₃ down₃) g.on (mask_without g c p) marks refl (λ y o. (stays→ g c p y o).0)
            (λ y x m o ex k. r.same q x ex (λ j. (stays y o m).1 (sym k ∙ j))) s.known

        pub step-removed : Came g.plan (item_step shape.np i (state_of g)) z Redundant true heads₃ up₃ down₃ tints marks
        step-removed = record {
          stops = λ m. removing-empties g R shape.np i (p - 1) one (z - 1) (sym answer ∙ omega arith);
          goes = λ q. (
            shown g.plan (mask_without g (i + 1) (p - 1 + 1)),
            step-removes g R shape.np i (p - 1) one (sym answer ∙ q),
            record {
              ground = removed g c p heads₃ up₃ down₃;
              plan = refl;
              shows = same-state;
              standing = record { ready = r.ready q; tinted = s.tinted; known = known q; holds = record { heads-are = refl; up-are = refl; down-are = refl } };
            },
          );
        }

    -- It empties none: the options that begin with the item are tested.
    module _ (q : p ≡ 0) where
      quiet : last_out g shape.np (hides g (i + 1)) 0 ≡ 0
      quiet = sym last-is ∙ q

      pub step-before : BeforeHiding g i c shape
      step-before = record { ready = s.ready; column = e; header = hd; begins = f.begins; few = f.few }

      pub step-hiding : Hiding g i heads₁ up₁ down₁ tints marks
      step-hiding = record { holds = subst (λ (x : ℕ). Holds (taken g (hides g x)) heads₁ up₁ down₁) e h.holds; tinted = s.tinted; known = s.known }

      C : Condemns shape.np i g (down_to (condemned_at shape.np i g) g.plan.N)
      C = condemns g R shape.np i (chosen_none g R shape.np i quiet) (down_to (condemned_at shape.np i g) g.plan.N) (down-reverse (condemned_at shape.np i g) g.plan.N)

      module _ {l : ℕ} {tints₂ marks₂ : List ℕ} (t : Tried g i shape.np g.plan.N l tints₂ marks₂) where
        pub step-column-again : Column g tints₂ c shape.start
        step-column-again = record { ready = s.ready; tinted = t.tinted; header = hd; begins = f.begins }

        module _ {heads₃ : List ℤ} {up₃ down₃ : List ℕ} (w : Holds g heads₃ up₃ down₃) where
          pub step-sparing : Sparing g i shape.np l heads₃ up₃ down₃ tints₂
          step-sparing = record { ready = s.ready; tinted = t.tinted; condemns = C; chain = t.chain; holds = w }

        -- something was found exactly if the chain does not begin at 0
        found_some : (b : Bool) → (l ≢ 0 → b ≡ true) → (l ≡ 0 → b ≡ false) → ltb 0 (length (down_to (condemned_at shape.np i g) g.plan.N)) ≡ b
        found_some b got nil = ⊎_elim empty some (down-front (condemned_at shape.np i g) g.plan.N)
          where
            empty : down_to (condemned_at shape.np i g) g.plan.N ≡ [] → ltb 0 (length (down_to (condemned_at shape.np i g) g.plan.N)) ≡ b
            empty x = ap (λ (y : List ℕ). ltb 0 (length y)) x ∙ sym (nil (subst (Chain g.plan tints₂ l) x t.chain))

            some : (x : ℕ) × (x < g.plan.N) × (condemned_at shape.np i g x ≡ true) × (down_to (condemned_at shape.np i g) g.plan.N ≡ x ∷ down_to (condemned_at shape.np i g) x)
                → ltb 0 (length (down_to (condemned_at shape.np i g) g.plan.N)) ≡ b
            some x =
                let l-is = (subst (Chain g.plan tints₂ l) x.3 t.chain).0 in
                let m = (condemned→ g R shape.np i (chosen_none g R shape.np i quiet) x.0 x.2).0 in
                ap (λ (y : List ℕ). ltb 0 (length y)) x.3
                ∙ lt-ltb 0 (suc (length (down_to (condemned_at shape.np i g) x.0))) (omega arith)
                ∙ sym (got (λ j. omega (arith, entry-from g.plan W x.0 m, l-is, j)))

        module _ {heads₄ : List ℤ} {up₄ down₄ : List ℕ} {z : ℕ} (d : Spared g i shape.np heads₄ up₄ down₄ z) (b : Bool) (got : l ≢ 0 → b ≡ true) (nil : l ≡ 0 → b ≡ false) where
          apart : T (distinct (map g.plan.number (down_to (condemned_at shape.np i g) g.plan.N)))
          apart = condemned-apart shape.np i g (down_to (condemned_at shape.np i g) g.plan.N) C

          fresh : Fresh g (deletes g (down_to (condemned_at shape.np i g) g.plan.N))
          fresh = all-fresh g R i shape.np C

          pub step-deleted : Came g.plan (item_step shape.np i (state_of g)) z Blocked b heads₄ up₄ down₄ tints₂ marks₂
          step-deleted = record {
            stops = λ m. deleting-empties g R shape.np i quiet (down_to (condemned_at shape.np i g) g.plan.N) C (z - 1) (sym d.answer ∙ omega arith);
            goes = λ x. (
              shown g.plan (taken g (deletes g (down_to (condemned_at shape.np i g) g.plan.N))).on,
              step-deletes g R shape.np i quiet (down_to (condemned_at shape.np i g) g.plan.N) C (sym d.answer ∙ x)
                  ∙ ap (went (shown g.plan (taken g (deletes g (down_to (condemned_at shape.np i g) g.plan.N))).on)) (found_some b got nil),
              record {
                ground = after g (deletes g (down_to (condemned_at shape.np i g) g.plan.N));
                plan = refl;
                shows = refl;
                standing = record {
                  ready = subst Ready (taken-after g (deletes g (down_to (condemned_at shape.np i g) g.plan.N))) (deleted-ready g R (down_to (condemned_at shape.np i g) g.plan.N) C.entry C.on apart);
                  tinted = t.tinted;
                  known = known-pass g (after g (deletes g (down_to (condemned_at shape.np i g) g.plan.N))) g.on (taken g (deletes g (down_to (condemned_at shape.np i g) g.plan.N))).on marks₂ refl
                      (λ y o. (on-taken g (deletes g (down_to (condemned_at shape.np i g) g.plan.N)) y o).0)
                      (λ y k m o ek j. taken-head g (deletes g (down_to (condemned_at shape.np i g) g.plan.N)) R.tidy fresh k (entry-no-header g.plan W k ek)) t.known;
                  holds = let w = spared-all d x in record { heads-are = w.heads-are; up-are = w.up-are; down-are = w.down-are };
                };
              },
            );
          }
