-- Walking back round an option while nodes are out: where each step leads, and what is then still behind the walk. Assumes nothing.
use Prim.Native.Nat.{ℕ, ◌+◌, ◌-◌, ◌<◌}
use native.Mathlib.Omega.{arith}
use mathlib.Core.Path.{◌≡◌, ◌∙◌, ap, sym}
use mathlib.Core.Logic.{◌≢◌}
use mathlib.Core.List.{List, [], ◌∷◌, ◌++◌}
use lib.ListN.{length}
use lib.IntN.{ℤ}
use Rattle.links.specs.Head.{item_of, head}
use Rattle.links.specs.Column.{at}
use Rattle.links.specs.Ground.{Ground, Tidy, after}
use Rattle.links.specs.Row.{walked}
use Rattle.links.specs.Way.{way_back}
use Rattle.links.proofs.Rows as Rows
use Rattle.links.proofs.Onward.{Underway}
use Rattle.links.proofs.Rows.{At, back_inside, back-full-way, back-over-at, back-over-walked, full-item, full-walked, after-walked}
use Rattle.links.proofs.Taken.{after-tidy}

-- The nodes xs are out of g, and a walk back round r's option is at q.
module _ {g : Ground} {xs : List ℕ} {r : ℕ} (q : ℕ) {heads : List ℤ} {up down : List ℕ} (m : Underway g xs r (q + 1) heads up down) where
  -- the ground as it is now
  abbrev now : Ground
  now = after g xs

  now-tidy : Tidy now
  now-tidy = after-tidy g xs m.tidy m.fresh

  place : At now r (q + 1)
  place = record { from = m.place.from; till = m.place.till }

  pub inside : (q < length heads) × (q < length down)
  inside =
      let i = Rows.back_in now now-tidy r m.entry q place in
      (rw m.holds.heads-are (omega (arith, i, now-tidy.heads-in)), rw m.holds.down-are (omega (arith, i, now-tidy.ring.downs)))

  pub back_some : 0 < q
  back_some = Rows.back_some now now-tidy r m.entry q place

  module _ (d : q ≢ r) where
    -- over a head of 0
    module _ (z : item_of (head heads q) ≡ 0) where
      none : item_of (head now.heads q) ≡ 0
      none = rw m.holds.heads-are at z

      pub over-at : At g r (at down q + 1)
      over-at = let a : At now r (at down q + 1) = rw m.holds.down-are (back-over-at now now-tidy r m.entry q place d none) in record { from = a.from; till = a.till }

      pub over-walked : walked g r (at down q + 1) ≡ walked g r (q + 1)
      over-walked =
          sym (after-walked g xs m.tidy m.fresh r m.entry (at down q + 1) over-at.till)
          ∙ ap (λ (v : List ℕ). walked now r (at v q + 1)) m.holds.down-are
          ∙ back-over-walked now now-tidy r m.entry q place d none
          ∙ after-walked g xs m.tidy m.fresh r m.entry (q + 1) m.place.till

      pub over-way : (n : ℕ) → length heads ≡ n → way_back n r (at down q) < way_back n r q
      over-way n s = rw m.holds.down-are (Rows.back-over-way now now-tidy r m.entry q place d none n (omega (arith, s, ap length m.holds.heads-are, now-tidy.heads-in)))

    -- at an entry
    module _ (z : item_of (head heads q) ≢ 0) where
      some : item_of (head now.heads q) ≢ 0
      some u = z (ap (λ (v : List ℤ). item_of (head v q)) m.holds.heads-are ∙ u)

      pub full_at : At g r q
      full_at = let a = back_inside now now-tidy r m.entry q place some in record { from = a.from; till = a.till }

      here : At now r q
      here = record { from = full_at.from; till = full_at.till }

      pub full-col : item_of (head heads q) ≡ g.plan.col q
      full-col = ap (λ (v : List ℤ). item_of (head v q)) m.holds.heads-are ∙ full-item now now-tidy r m.entry q here some

      pub full-one : walked g r (q + 1) ≡ walked g r q ++ (q ∷ [])
      full-one =
          sym (after-walked g xs m.tidy m.fresh r m.entry (q + 1) m.place.till)
          ∙ full-walked now now-tidy r m.entry q here d some
          ∙ ap (λ (v : List ℕ). v ++ (q ∷ [])) (after-walked g xs m.tidy m.fresh r m.entry q full_at.till)

      pub full-way : (n : ℕ) → length heads ≡ n → way_back n r (q - 1) < way_back n r q
      full-way n s = back-full-way now now-tidy r m.entry q place n (omega (arith, s, ap length m.holds.heads-are, now-tidy.heads-in)) d
