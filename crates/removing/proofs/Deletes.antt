-- Deleting an option's other entries one after another: each step of the walk, until it is round. Assumes nothing.
use Prim.Native.Nat.{ℕ, ◌+◌, ◌<◌}
use mathlib.Core.Path.{◌≡◌, ◌∙◌, ap, sym, subst}
use mathlib.Core.Logic.{◌≢◌}
use mathlib.Core.List.{List, [], ◌∷◌, ◌++◌}
use lib.ListN.{length}
use lib.IntN.{ℤ}
use Rattle.links.specs.Head.{item_of, head}
use Rattle.links.specs.Column.{at}
use Rattle.links.specs.Plan.{EntryOf}
use Rattle.links.specs.Ground.{Ground, Tidy, Within, taken, Fresh, Holds}
use Rattle.links.specs.Row.{walked, others}
use Rattle.links.specs.Way.{way}
use Rattle.links.specs.Taking.{first_out}
use Rattle.links.proofs.Taken.{taken-append, taken-after, taken-tidy, taken-lengths, fresh-of, fresh-front}
use Rattle.links.proofs.Rows.{At, walk_begins, walked_none}
use Rattle.links.proofs.Onward as Onward
use Rattle.links.proofs.Onward.{Underway, passing-within}
use Rattle.links.proofs.Gathering.{others-distinct}
use Rattle.links.proofs.Endings.{earlier}
use Rattle.removing.specs.Deleting.{Sitting, Deleting, Deleted}
use Rattle.links.proofs.Ahead.{ahead, walked-ahead}
use Rattle.removing.proofs.Emptying.{first-append}

-- The walk is at q: the lists are those without what was passed, and z is the first primary column that this emptied.
pub record Midway (g : Ground) (r np : ℕ) (heads : List ℤ) (up down : List ℕ) (q z : ℕ) : Type 0 where
  pub place : At g r q
  pub holds : Holds (taken g (walked g r q)) heads up down
  pub first : z ≡ first_out g np (walked g r q)

module _ {g : Ground} {r : ℕ} {heads₀ : List ℤ} {up₀ down₀ : List ℕ} (d : Deleting g r heads₀ up₀ down₀) where
  t : Tidy g
  t = d.tidy

  e : EntryOf g.plan r
  e = d.entry

  pub others-fresh : Fresh g (others g r)
  others-fresh = fresh-of g (others g r) t d.others-in (others-distinct g r)

  walked-fresh : (q : ℕ) → At g r q → Fresh g (walked g r q)
  walked-fresh q a = fresh-front g (walked g r q) (ahead g r q) (subst (Fresh g) (walked-ahead g t r e q a) others-fresh)

  module _ {np : ℕ} where
    pub begins : Midway g r np heads₀ up₀ down₀ (r + 1) 0
    begins = record {
      place = walk_begins g t r e;
      holds = subst (λ (l : List ℕ). Holds (taken g l) heads₀ up₀ down₀) (sym (walked_none g t r e)) d.holds;
      first = sym (ap (first_out g np) (walked_none g t r e));
    }

    module _ {heads : List ℤ} {up down : List ℕ} {q z : ℕ} (m : Midway g r np heads up down q z) where
      fresh : Fresh g (walked g r q)
      fresh = walked-fresh q m.place

      stands : Underway g (walked g r q) r q heads up down
      stands = record { tidy = t; fresh = fresh; entry = e; place = m.place; holds = m.holds }

      same_length : length heads ≡ length heads₀
      same_length = rw (m.holds.heads-are, d.holds.heads-are) (taken-lengths g (walked g r q)).0

      module _ (other : q ≢ r) where
        -- at a boundary, or a shortened entry
        module _ (none : item_of (head heads q) ≡ 0) where
          pub midway-over : Midway g r np heads up down (at up q) z
          midway-over =
              let s = Onward.over-walked stands other none in
              record {
                place = Onward.over-at stands other none;
                holds = subst (λ (l : List ℕ). Holds (taken g l) heads up down) (sym s) m.holds;
                first = m.first ∙ sym (ap (first_out g np) s);
              }

          pub midway-over-way : way (length heads₀) r (at up q) < way (length heads₀) r q
          midway-over-way = Onward.over-way stands other none (length heads₀) same_length

        -- at an entry with an item
        module _ (n : item_of (head heads q) ≢ 0) where
          pub midway-sits : Sitting (taken g (walked g r q)) q heads up down
          midway-sits = record {
            tidy = taken-tidy g (walked g r q) t fresh;
            within = subst (λ (h : Ground). Within h q) (sym (taken-after g (walked g r q))) (passing-within stands other n d.others-in);
            holds = m.holds;
          }

          more : walked g r (q + 1) ≡ walked g r q ++ (q ∷ [])
          more = Onward.full-one stands other n

          pub midway-next : {heads' : List ℤ} {up' down' : List ℕ} {y : ℕ} → Deleted (taken g (walked g r q)) np (q ∷ []) heads' up' down' y
              → Midway g r np heads' up' down' (q + 1) (earlier z y)
          midway-next {heads'} {up'} {down'} o = record {
            place = Onward.full-at stands other n;
            holds = subst (λ (h : Ground). Holds h heads' up' down') (sym (taken-append g (walked g r q) (q ∷ [])) ∙ ap (taken g) (sym more)) o.holds;
            first = rw (m.first, o.answer) (sym (first-append g np (walked g r q) (q ∷ []) t fresh) ∙ ap (first_out g np) (sym more));
          }

      pub midway-round : q ≡ r → Deleted g np (others g r) heads up down z
      unfolding others
      midway-round s = record {
        answer = m.first ∙ ap (λ (k : ℕ). first_out g np (walked g r k)) s;
        holds = subst (λ (k : ℕ). Holds (taken g (walked g r k)) heads up down) s m.holds;
      }
