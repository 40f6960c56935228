-- The walk round an option that puts its entries back: where it stands, and each of its steps. Assumes nothing.
use Prim.Native.Nat.{ℕ, ◌+◌, ◌<◌, ◌≤◌}
use native.Mathlib.Omega.{arith}
use mathlib.Core.Path.{◌≡◌, ◌∙◌, ap, sym, subst}
use mathlib.Core.Logic.{◌≢◌}
use mathlib.Core.List.{List, ◌∷◌, ◌++◌}
use lib.ListN.{length, set}
use lib.IntN.{ℤ, pos}
use Rattle.std.proofs.Common.{Some, None}
use Rattle.rules.specs.Bounds.{node_bound}
use Rattle.links.specs.Head.{item_of, head, Growing}
use Rattle.links.specs.Column.{at, tie_up, tie_down}
use Rattle.links.specs.Ground.{Ground}
use Rattle.links.specs.Row.{others}
use Rattle.links.specs.Way.{way}
use Rattle.links.specs.Nodes.{column_in}
use Rattle.links.proofs.Endings.{item_none, item_some}
use Rattle.links.proofs.Taken.{taken-head}
use Rattle.links.proofs.Rows.{At, place_in, walk_begins, full-head, full_at, over-at, over-way, place-no-header, empty-off}
use Rattle.hiding.specs.Away.{Rising, Away, Returning}
use Rattle.hiding.proofs.Rises.{rising-fresh}
use Rattle.hiding.proofs.Aways.{away-room, relink-asks, more-in, away-back}
use Rattle.links.proofs.Ahead.{ahead, ahead-all, ahead_none, ahead-full, ahead-over}

-- The walk from rr on stands at qq: what is ahead of it is away, and the rest.
pub record RoundBack (g : Ground) (rr : ℕ) (rest : List ℕ) (heads : List ℤ) (up down : List ℕ) (qq : ℕ) : Type 0 where
  pub place : At g rr qq
  pub rising : Rising g (ahead g rr qq ++ rest)
  pub away : Away g (ahead g rr qq ++ rest) heads up down

module _ {g : Ground} {rr : ℕ} {rest : List ℕ} (a : Returning g rr rest) where
  -- another place with the same nodes away
  moved : {heads : List ℤ} {up down : List ℕ} (xs : List ℕ) (qq : ℕ) → At g rr qq → ahead g rr qq ≡ xs → Rising g (xs ++ rest) → Away g (xs ++ rest) heads up down
      → RoundBack g rr rest heads up down qq
  moved {heads} {up} {down} xs qq p e r k =
      record { place = p; rising = subst (λ (l : List ℕ). Rising g (l ++ rest)) (sym e) r; away = subst (λ (l : List ℕ). Away g (l ++ rest) heads up down) (sym e) k }

  pub begin : {heads : List ℤ} {up down : List ℕ} → Away g (others g rr ++ rest) heads up down → RoundBack g rr rest heads up down (rr + 1)
  begin k = moved (others g rr) (rr + 1) (walk_begins g a.tidy rr a.entry) (ahead-all g a.tidy rr a.entry) a.rising k

  pub finish : {heads : List ℤ} {up down : List ℕ} → RoundBack g rr rest heads up down rr → Away g rest heads up down
  finish {heads} {up} {down} m = subst (λ (l : List ℕ). Away g (l ++ rest) heads up down) (ahead_none g a.tidy rr a.entry) m.away

  module _ {heads : List ℤ} {up down : List ℕ} {qq : ℕ} (m : RoundBack g rr rest heads up down qq) where
    -- the place is within the lists
    pub inside : (qq < length heads) × (qq < length up)
    inside =
        let p = place_in g a.tidy rr a.entry qq m.place in
        (omega (arith, away-room g a.tidy m.away), omega (arith, m.away.ups, a.tidy.ring.ups))

    -- its head is that of the whole ground
    same_head : head heads qq ≡ head g.heads qq
    same_head =
        ap (λ (l : List ℤ). head l qq) m.away.heads-are
        ∙ taken-head g (ahead g rr qq ++ rest) a.tidy (rising-fresh g (ahead g rr qq ++ rest) a.tidy m.rising) qq (place-no-header a.tidy a.entry m.place)

    module _ (d : qq ≢ rr) where
      -- At the boundary or a shortened entry: on by the link up.
      module _ (z : None ≡ column_in (head heads qq)) where
        z₀ : item_of (head g.heads qq) ≡ 0
        z₀ = sym (ap item_of same_head) ∙ item_none (head heads qq) z

        lead : at up qq ≡ at g.up qq
        lead = m.away.up-off qq (empty-off a.tidy a.entry m.place z₀)

        pub over : RoundBack g rr rest heads up down (at up qq)
        over = rw lead (moved (ahead g rr qq) (at g.up qq) (over-at g a.tidy rr a.entry qq m.place d z₀) (ahead-over g a.tidy rr a.entry qq m.place d z₀) m.rising m.away)

        pub over-less : (n : ℕ) → g.plan.N ≤ n → way n rr (at up qq) < way n rr qq
        over-less n l = rw lead (over-way g a.tidy rr a.entry qq m.place d z₀ n l)

      -- At an entry: it comes back.
      module _ {cc : ℕ} (e : Some cc ≡ column_in (head heads qq)) where
        n₀ : item_of (head g.heads qq) ≢ 0
        n₀ z = omega (arith, (item_some (head heads qq) cc e).1, ap item_of same_head, z)

        column : cc ≡ g.plan.col qq
        column = sym (item_some (head heads qq) cc e).0 ∙ ap item_of (same_head ∙ full-head g a.tidy rr a.entry qq m.place n₀)

        abbrev left : List ℕ
        left = ahead g rr (qq + 1) ++ rest

        first : ahead g rr qq ++ rest ≡ qq ∷ left
        first = ap (λ (l : List ℕ). l ++ rest) (ahead-full g a.tidy rr a.entry qq m.place d n₀)

        r : Rising g (qq ∷ left)
        r = subst (λ (l : List ℕ). Rising g l) first m.rising

        k : Away g (qq ∷ left) heads up down
        k = subst (λ (l : List ℕ). Away g l heads up down) first m.away

        pub relink-needs : (qq < node_bound) × (qq < length up) × (qq < length down) × (at up qq < length down) × (at down qq < length up)
        relink-needs = relink-asks g a.tidy qq left r k

        pub more-needs : Growing heads cc
        more-needs = rw column (more-in g a.tidy qq left r k)

        pub full : RoundBack g rr rest (set heads cc (pos (item_of (head heads cc) + 1))) (tie_up up down qq) (tie_down up down qq) (qq + 1)
        full =
            rw column
            (record { place = full_at g a.tidy rr a.entry qq m.place n₀; rising = r.2; away = away-back g a.tidy qq left r k })
