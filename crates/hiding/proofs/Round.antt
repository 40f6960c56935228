-- The walk round an option that takes its entries out: where it stands, and each of its steps. Assumes nothing.
use Prim.Native.Nat.{ℕ, ◌+◌, ◌-◌, ◌<◌}
use native.Mathlib.Omega.{arith}
use mathlib.Core.Path.{◌≡◌, refl, ◌∙◌, sym, subst}
use mathlib.Core.Logic.{◌≢◌}
use mathlib.Core.Bool.{Bool, true, false, cond, ◌&&◌}
use mathlib.Core.List.{List, [], ◌∷◌, ◌++◌}
use lib.Dec.{eqb, leb}
use lib.ListN.{length, set}
use lib.IntN.{ℤ, pos}
use Rattle.std.proofs.Common.{Option, Some, None}
use Rattle.rules.specs.Bounds.{node_bound}
use Rattle.links.specs.Head.{item_of, head}
use Rattle.links.specs.Column.{at, cut_up, cut_down}
use Rattle.links.specs.Ground.{Ground, Within, taken, after, Fresh, Holds}
use Rattle.links.specs.Row.{walked, others}
use Rattle.links.specs.Way.{way}
use Rattle.links.specs.Taking.{last_out}
use Rattle.links.specs.Nodes.{column_in, column}
use Rattle.links.proofs.Endings.{column_of, item_none, item_some}
use Rattle.links.proofs.Undoing.{fresh-one-more, take_out, fewer-asks, unlink-asks}
use Rattle.links.proofs.Rows.{At, walk_begins, walked_none}
use Rattle.links.proofs.Onward as Onward
use Rattle.links.proofs.Onward.{Underway, passing-within}
use Rattle.hiding.specs.Hiding.{Around, Taken}
use Rattle.hiding.proofs.LastOut.{last_out-more}

-- What the code answers when the nodes xs were taken out: the last primary column so emptied, or what it was handed.
abbrev Chosen : Ground → List ℕ → ℕ → Option ℕ → Option ℕ → Type 0
Chosen g xs np last stack = (z : ℕ) → last ≡ column z → stack ≡ column (last_out g np xs z)

-- its choice at one node more
choice : (b : Bool) (cc w : ℕ) → cc ≢ 0 → cond b (Some cc) (column w) ≡ column (cond b cc w)
choice true cc w n = column_of cc n
choice false cc w n = refl

-- The walk from rr on stands at qq: the lists are without what it passed, and the answer says what that emptied.
pub record Round (g : Ground) (rr np : ℕ) (last : Option ℕ) (heads : List ℤ) (up down : List ℕ) (qq : ℕ) (stack : Option ℕ) : Type 0 where
  pub place : At g rr qq
  pub fresh : Fresh g (walked g rr qq)
  pub holds : Holds (taken g (walked g rr qq)) heads up down
  pub chosen : Chosen g (walked g rr qq) np last stack

module _ {g : Ground} {rr np : ℕ} {last : Option ℕ} (a : Around g rr) where
  -- another place with the same nodes passed
  moved : {heads : List ℤ} {up down : List ℕ} {stack : Option ℕ} (xs : List ℕ) (qq : ℕ) → At g rr qq → walked g rr qq ≡ xs → Fresh g xs
      → Holds (taken g xs) heads up down → Chosen g xs np last stack
      → Round g rr np last heads up down qq stack
  moved {heads} {up} {down} {stack} xs qq p e f k s =
      record {
        place = p;
        fresh = subst (λ (l : List ℕ). Fresh g l) (sym e) f;
        holds = subst (λ (l : List ℕ). Holds (taken g l) heads up down) (sym e) k;
        chosen =
            subst (λ (l : List ℕ). Chosen g l np last stack) (sym e) s;
      }

  pub begin : {heads : List ℤ} {up down : List ℕ} → Holds g heads up down → Round g rr np last heads up down (rr + 1) last
  begin k = moved [] (rr + 1) (walk_begins g a.tidy rr a.entry) (walked_none g a.tidy rr a.entry) tt k (λ z e. e)

  pub finish : {heads : List ℤ} {up down : List ℕ} {stack : Option ℕ} → Round g rr np last heads up down rr stack → (z : ℕ) → last ≡ column z
      → (w : ℕ) × (stack ≡ column w) × Taken g (others g rr) np z heads up down w
  unfolding others
  finish m z e = (last_out g np (others g rr) z, m.chosen z e, record { holds = m.holds; last = refl })

  module _ {heads : List ℤ} {up down : List ℕ} {qq : ℕ} {stack : Option ℕ} (m : Round g rr np last heads up down qq stack) where
    stands : Underway g (walked g rr qq) rr qq heads up down
    stands = record { tidy = a.tidy; fresh = m.fresh; entry = a.entry; place = m.place; holds = m.holds }

    -- the place is within the lists
    pub inside : (qq < length heads) × (qq < length up)
    inside = Onward.inside stands

    module _ (d : qq ≢ rr) where
      -- At the boundary or a shortened entry: on by the link up.
      module _ (z : None ≡ column_in (head heads qq)) where
        pub over : Round g rr np last heads up down (at up qq) stack
        over =
            moved (walked g rr qq) (at up qq) (Onward.over-at stands d (item_none (head heads qq) z))
            (Onward.over-walked stands d (item_none (head heads qq) z)) m.fresh m.holds m.chosen

        pub over-less : (n : ℕ) → length heads ≡ n → way n rr (at up qq) < way n rr qq
        over-less = Onward.over-way stands d (item_none (head heads qq) z)

      -- At an entry: it is taken out.
      module _ {cc : ℕ} (e : Some cc ≡ column_in (head heads qq)) where
        an_item : item_of (head heads qq) ≢ 0
        an_item z = omega (arith, (item_some (head heads qq) cc e).1, z)

        some : cc ≢ 0
        some z = omega (arith, item_some (head heads qq) cc e, z)

        col-is : cc ≡ g.plan.col qq
        col-is = sym (item_some (head heads qq) cc e).0 ∙ Onward.full-col stands d an_item

        within : Within (after g (walked g rr qq)) qq
        within = passing-within stands d an_item a.within

        pub unlink-needs : (qq < length up) × (qq < length down) × (at up qq < length down) × (at down qq < length up)
        unlink-needs = unlink-asks g (walked g rr qq) qq a.tidy m.fresh within m.holds

        pub fewer-needs : (cc < length heads) × (item_of (head heads cc) < node_bound) × (0 < item_of (head heads cc))
        fewer-needs = rw col-is (fewer-asks g (walked g rr qq) qq a.tidy m.fresh within m.holds)

        emptied : (z : ℕ) → last_out g np (walked g rr qq ++ (qq ∷ [])) z ≡ cond (eqb (item_of (head heads cc) - 1) 0 && leb cc np) cc (last_out g np (walked g rr qq) z)
        emptied z = rw col-is (last_out-more g (walked g rr qq) qq m.holds np z)

        pub full : {stack₁ : Option ℕ} → stack₁ ≡ cond (eqb (item_of (head heads cc) - 1) 0 && leb cc np) (Some cc) stack
            → Round g rr np last (set heads cc (pos (item_of (head heads cc) - 1))) (cut_up up down qq) (cut_down up down qq) (qq + 1) stack₁
        full s =
            moved (walked g rr qq ++ (qq ∷ [])) (qq + 1) (Onward.full-at stands d an_item) (Onward.full-one stands d an_item)
            (fresh-one-more g (walked g rr qq) qq a.tidy m.fresh within)
            (rw col-is (take_out g (walked g rr qq) qq a.tidy m.fresh within m.holds))
            (λ z q. s ∙ rw (m.chosen z q, emptied z) (choice (eqb (item_of (head heads cc) - 1) 0 && leb cc np) cc (last_out g np (walked g rr qq) z) some))
