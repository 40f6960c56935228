-- HoldingAt round an option for a column: each step of the walk, and that what it tells is whether the option holds the item. Assumes nothing.
use Prim.Native.Nat.{ℕ, ◌+◌, ◌<◌, ◌≤◌}
use mathlib.Core.Path.{◌≡◌, ◌∙◌, ap, sym, subst}
use mathlib.Core.Logic.{◌≢◌}
use mathlib.Core.Bool.{Bool, true, false, ◌||◌}
use mathlib.Core.List.{List, [], ◌∷◌}
use borrow.Author.Tests.{eq-eqb, ne_eqb}
use lib.Dec.{T, eqb, eqb→eq}
use lib.ListN.{length}
use lib.IntN.{ℤ}
use Rattle.rules.specs.Lists.{any}
use Rattle.theorems.proofs.Words.Tests.{T-same, eq→eqb}
use Rattle.theorems.proofs.Words.Lists.{any→, any←, any_append}
use Rattle.links.specs.Head.{item_of, head}
use Rattle.links.specs.Column.{at}
use Rattle.links.specs.Plan.{EntryOf}
use Rattle.links.specs.Ground.{Ground, Tidy}
use Rattle.links.specs.Row.{walked, others}
use Rattle.links.specs.Way.{way}
use Rattle.links.specs.Shown.{Ready}
use Rattle.links.specs.Taking.{holds_column}
use Rattle.links.proofs.Rows.{At, full-item, full_at, full-walked, over-at, over-walked, over-way, In-others, others-In}
use Rattle.removing.specs.Removing.{Walking, holds_other}
use Rattle.links.proofs.Ahead.{ahead, walked-ahead}
use Rattle.removing.proofs.Leaving.{holds→, holds←}

-- The walk is at q, and has met no entry of column p.
pub record HoldingAt (g : Ground) (r p q : ℕ) : Type 0 where
  pub place : At g r q
  pub none : any (λ y. eqb (g.plan.col y) p) (walked g r q) ≡ false

module _ {g : Ground} {r : ℕ} {heads : List ℤ} {up : List ℕ} (w : Walking g r heads up) where
  t : Tidy g
  t = w.tidy

  e : EntryOf g.plan r
  e = w.entry

  room : g.plan.N ≤ length heads
  room = rw w.heads-are t.heads-in

  module _ {p : ℕ} where
    module _ {q : ℕ} (m : HoldingAt g r p q) where
      module _ (other : q ≢ r) where
        -- at a boundary, or a shortened entry
        module _ (z : item_of (head heads q) ≡ 0) where
          bare : item_of (head g.heads q) ≡ 0
          bare = rw w.heads-are at z

          pub looks-over : HoldingAt g r p (at up q)
          looks-over =
              rw w.up-are
              (record { place = over-at g t r e q m.place other bare; none = ap (any (λ y. eqb (g.plan.col y) p)) (over-walked g t r e q m.place other bare) ∙ m.none })

          pub looks-over-way : way (length heads) r (at up q) < way (length heads) r q
          looks-over-way = rw w.up-are (over-way g t r e q m.place other bare (length heads) room)

        -- at an entry with an item
        module _ (n : item_of (head heads q) ≢ 0) where
          some : item_of (head g.heads q) ≢ 0
          some = rw w.heads-are at n

          item-is : item_of (head heads q) ≡ g.plan.col q
          item-is = ap (λ (l : List ℤ). item_of (head l q)) w.heads-are ∙ full-item g t r e q m.place some

          so_far : any (λ y. eqb (g.plan.col y) p) (walked g r (q + 1)) ≡ (eqb (g.plan.col q) p || false)
          so_far =
              ap (any (λ y. eqb (g.plan.col y) p)) (full-walked g t r e q m.place other some)
              ∙ any_append (λ y. eqb (g.plan.col y) p) (walked g r q) (q ∷ [])
              ∙ ap (λ (b : Bool). b || (eqb (g.plan.col q) p || false)) m.none

          pub looks-next : item_of (head heads q) ≢ p → HoldingAt g r p (q + 1)
          looks-next d = record { place = full_at g t r e q m.place some; none = so_far ∙ rw (ne_eqb (g.plan.col q) p (λ s. d (item-is ∙ s))) }

          pub looks-found : item_of (head heads q) ≡ p → true ≡ holds_other g r p
          looks-found d =
              let found : any (λ y. eqb (g.plan.col y) p) (walked g r (q + 1)) ≡ true = so_far ∙ rw (eq-eqb (g.plan.col q) p (sym item-is ∙ d)) in
              sym
              (ap (any (λ y. eqb (g.plan.col y) p)) (walked-ahead g t r e (q + 1) (full_at g t r e q m.place some))
              ∙ any_append (λ y. eqb (g.plan.col y) p) (walked g r (q + 1)) (ahead g r (q + 1))
              ∙ ap (λ (b : Bool). b || any (λ y. eqb (g.plan.col y) p) (ahead g r (q + 1))) found)

      pub looks-round : q ≡ r → false ≡ holds_other g r p
      unfolding others
      looks-round s = sym m.none ∙ ap (λ (k : ℕ). any (λ y. eqb (g.plan.col y) p) (walked g r k)) s

-- Where the option is wholly linked, this tells whether it holds the item.
pub other-holds : (g : Ground) → Ready g → (r p : ℕ) → EntryOf g.plan r → g.on r ≡ true → g.plan.col r ≢ p → holds_other g r p ≡ holds_column g (g.plan.number r) p
other-holds g R r p e on d = T-same (holds_other g r p) (holds_column g (g.plan.number r) p) to from
  where
    to : T (holds_other g r p) → T (holds_column g (g.plan.number r) p)
    to h =
        let u = any→ (λ y. eqb (g.plan.col y) p) (others g r) h in
        let v = In-others g R.tidy r e u.1 in
        subst (λ (k : ℕ). T (holds_column g k p)) v.1 (holds← g R.tidy u.0 p v.0 (R.whole.mates r u.0 e v.0 (sym v.1) on v.3) (eqb→eq (g.plan.col u.0) p u.2))

    from : T (holds_column g (g.plan.number r) p) → T (holds_other g r p)
    from h =
        let w = holds→ g R.tidy (g.plan.number r) p e.option h in
        any← (λ y. eqb (g.plan.col y) p) (others g r)
        (others-In g R.tidy r e w.1 w.2 (λ q. d (sym (ap g.plan.col q) ∙ w.4)) (R.tidy.full w.0 w.1 w.3)) (eq→eqb (g.plan.col w.0) p w.4)
