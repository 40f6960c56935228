-- The tests of a column, one after another: at each place of the walk, what is found above it. Assumes nothing.
use Prim.Native.Nat.{ℕ, ◌+◌, ◌<◌, ◌≤◌}
use native.Mathlib.Omega.{arith}
use mathlib.Core.Path.{refl, sym, subst}
use mathlib.Core.List.{List}
use lib.ListN.{length}
use lib.IntN.{ℤ}
use Rattle.links.specs.declared.shape.Shape.{Shape}
use Rattle.links.specs.Column.{at}
use Rattle.links.specs.Plan.{start, Header}
use Rattle.links.specs.Ground.{Ground, Tidy}
use Rattle.links.proofs.Plans.{header-before}
use Rattle.links.proofs.Descending.{Stand, reach, reach-at, left, stand-in, stand-next, step_less}
use Rattle.showing.proofs.HiddenStates.{hiding, hiding-tidy}
use Rattle.condemning.specs.Condemning.{Chain, BeforeHiding, Hiding, Tried, Trying}
use Rattle.condemning.proofs.WhileHidden.{hidden-stand, next-same, first-none, stand-column}

-- The walk is at r, a node of the column or its header again, and the options above are tested.
pub record Found (g : Ground) (i np z : ℕ) (tints marks : List ℕ) (r : ℕ) : Type 0 where
  pub stand : Stand (hiding g i) (i + 1) r
  pub tried : Tried g i np (reach g.plan r) z tints marks

module _ {g : Ground} {i c : ℕ} {shape : Shape} {heads : List ℤ} {up down tints₀ marks₀ : List ℕ} (s : BeforeHiding g i c shape) (w : Hiding g i heads up down tints₀ marks₀) where
  own : Header g.plan (i + 1)
  own = subst (Header g.plan) s.column s.header

  tidy : Tidy (hiding g i)
  tidy = hiding-tidy g s.ready i

  room : g.plan.N ≤ length down
  room = rw w.holds.down-are tidy.ring.downs

  pub find-column : c < length down
  find-column = omega (arith, header-before g.plan s.ready.tidy.planned c s.header, s.ready.tidy.planned.room, room)

  pub find-begin : Found g i shape.np 0 tints₀ marks₀ (at down c)
  find-begin = rw (w.holds.down-are, s.column) (record {
    stand = hidden-stand g s.ready i own shape.np;
    tried = record { tinted = w.tinted; known = w.known; chain = subst (Chain g.plan tints₀ 0) (sym (first-none g s.ready i own shape.np)) refl };
  })

  module _ {z r : ℕ} {tints marks : List ℕ} (p : Found g i shape.np z tints marks r) where
    pub find-down : r < length down
    find-down = omega (arith, stand-in (hiding g i) tidy (i + 1) own r p.stand, room)

    module _ (l : shape.start ≤ r) where
      behind : start g.plan ≤ r
      behind = omega (arith, l, s.begins)

      pub find-trying : Trying g i r shape z heads up down tints marks
      find-trying = record {
        ready = s.ready;
        begins = s.begins;
        few = s.few;
        holds = w.holds;
        column = stand-column g s.ready i own shape.np r p.stand behind;
        tried = subst (λ (k : ℕ). Tried g i shape.np k z tints marks) (reach-at g.plan r behind) p.tried;
      }

      pub find-next : {z' : ℕ} {tints' marks' : List ℕ} → Tried g i shape.np (r + 1) z' tints' marks' → Found g i shape.np z' tints' marks' (at down r)
      find-next {z'} {tints'} t = rw w.holds.down-are (record {
        stand = stand-next (hiding g i) tidy (i + 1) own r p.stand;
        tried = record { tinted = t.tinted; known = t.known; chain = subst (Chain g.plan tints' z') (sym (next-same g s.ready i own shape.np r p.stand)) t.chain };
      })

      pub find-less : left (length heads) shape.start (at down r) < left (length heads) shape.start r
      find-less = rw (w.holds.down-are, s.begins) (step_less (hiding g i) tidy (i + 1) own r p.stand (length heads) (rw w.holds.heads-are tidy.heads-in) behind)
