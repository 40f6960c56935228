-- Taking one entry out: what the steps ask of the lists, and what they leave. Assumes nothing.
use Prim.Native.Nat.{ℕ, ◌-◌, ◌<◌}
use native.Mathlib.Omega.{arith}
use mathlib.Core.Path.{◌≡◌, refl, ◌∙◌, ap, sym}
use Rattle.rules.specs.Bounds.{node_bound}
use mathlib.Core.Logic.{◌⊎◌, ◌≢◌, ⊎_elim}
use mathlib.Core.Bool.{Bool, true, false, ◌&&◌, cond}
use mathlib.Core.List.{List, [], ◌∷◌}
use borrow.Author.Tests.{eq-eqb, ne_eqb}
use lib.Dec.{leb, eqb}
use lib.ListN.{length, set}
use lib.IntN.{ℤ, pos}
use Rattle.links.specs.Head.{item_of, below_zero, head}
use Rattle.links.specs.Column.{cut_up, cut_down}
use Rattle.links.specs.Ground.{Ground, Tidy, Within, cut_one, Holds}
use Rattle.links.specs.Taking.{first_out}
use Rattle.links.proofs.Grounds.{node_in}
use Rattle.links.proofs.Undoing.{take_out, fewer-asks}
use Rattle.removing.specs.Deleting.{Sitting, Deleted}

module _ {g : Ground} {x : ℕ} {heads : List ℤ} {up down : List ℕ} (s : Sitting g x heads up down) where
  t : Tidy g
  t = s.tidy

  w : Within g x
  w = s.within

  pub sits-in : x < length heads
  sits-in = rw s.holds.heads-are (omega (arith, node_in g t x w, t.heads-in))

  pub sits-number : below_zero (head heads x) ≡ false
  sits-number = ap (λ (l : List ℤ). below_zero (head l x)) s.holds.heads-are ∙ ap below_zero (t.full x w.entry w.on)

  -- the item read at x is its column
  module _ {i : ℕ} (read : i ≡ item_of (head heads x)) where
    pub sits-item : i ≡ g.plan.col x
    sits-item = read ∙ ap (λ (l : List ℤ). item_of (head l x)) s.holds.heads-are ∙ ap item_of (t.full x w.entry w.on)

    pub sits-column : (0 < i) × (i < node_bound)
    sits-column = let h = t.planned.entry x w.entry in rw sits-item (h.above, omega (arith, h.below, t.planned.room, t.planned.small))

    pub sits-length : (i < length heads) × (item_of (head heads i) < node_bound) × (0 < item_of (head heads i))
    sits-length = rw sits-item (fewer-asks g [] x t tt w s.holds)

    -- the lists afterwards
    module _ {heads' : List ℤ} {up' down' : List ℕ} (h : heads' ≡ set heads i (pos (item_of (head heads i) - 1))) (u : up' ≡ cut_up up down x) (d : down' ≡ cut_down up down x) where
      out-holds : Holds (cut_one g x) heads' up' down'
      out-holds = rw (h, u, d, sits-item) (take_out g [] x t tt w s.holds)

      out_first : (np : ℕ) {k : ℕ} → k ≡ item_of (head heads i) - 1 → first_out g np (x ∷ []) ≡ cond (eqb k 0 && leb i np) i 0
      out_first np {k} e = rw (e, sits-item, s.holds.heads-are)

      -- the column is emptied, and primary, or it is not
      pub out-emptied : {np k : ℕ} → k ≡ item_of (head heads i) - 1 → k ≡ 0 → leb i np ≡ true → Deleted g np (x ∷ []) heads' up' down' i
      out-emptied {np} {k} e z l = record { answer = sym (out_first np e ∙ rw (eq-eqb k 0 z, l)); holds = out-holds }

      pub out-not : {np k : ℕ} → k ≡ item_of (head heads i) - 1 → (k ≢ 0) ⊎ (leb i np ≡ false) → Deleted g np (x ∷ []) heads' up' down' 0
      out-not {np} {k} e n = record { answer = sym (out_first np e ∙ ⊎_elim (λ a. rw (ne_eqb k 0 a)) (λ a. last (eqb k 0) a) n); holds = out-holds }
        where
          last : (b : Bool) → leb i np ≡ false → cond (b && leb i np) i 0 ≡ 0
          last true q = rw q
          last false q = refl
