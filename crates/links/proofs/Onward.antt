-- Walking forwards round an option while nodes are out: where each step leads, and what is then behind the walk. Assumes nothing.
use Prim.Native.Nat.{ℕ, ◌+◌, ◌<◌}
use native.Mathlib.Omega.{arith}
use mathlib.Core.Path.{◌≡◌, refl, ◌∙◌, ap, sym}
use mathlib.Core.Logic.{◌≢◌}
use mathlib.Core.List.{List, [], ◌∷◌, ◌++◌, Memᴰ as In}
use lib.ListN.{length}
use lib.IntN.{ℤ, pos}
use Rattle.links.specs.Head.{item_of, head}
use Rattle.links.specs.Column.{at}
use Rattle.links.specs.Plan.{hi, EntryOf}
use Rattle.links.specs.Ground.{Ground, Tidy, Within, taken, after, Fresh, Holds}
use Rattle.links.specs.Row.{walked, others}
use Rattle.links.specs.Way.{way}
use Rattle.links.proofs.Rows as Rows
use Rattle.links.proofs.Rows.{At, after-walked}
use Rattle.links.proofs.Taken.{after-tidy, after-within, taken-entry-head}

-- The nodes xs are out of g, and a walk round r's option stands at q: forwards, q is the next node; backwards, q - 1 is.
pub record Underway (g : Ground) (xs : List ℕ) (r q : ℕ) (heads : List ℤ) (up down : List ℕ) : Type 0 where
  pub tidy : Tidy g
  pub fresh : Fresh g xs
  pub entry : EntryOf g.plan r
  pub place : At g r q
  pub holds : Holds (taken g xs) heads up down

module _ {g : Ground} {xs : List ℕ} {r q : ℕ} {heads : List ℤ} {up down : List ℕ} (m : Underway g xs r q heads up down) where
  -- the ground as it is now
  abbrev now : Ground
  now = after g xs

  now-tidy : Tidy now
  now-tidy = after-tidy g xs m.tidy m.fresh

  place : At now r q
  place = record { from = m.place.from; till = m.place.till }

  pub inside : (q < length heads) × (q < length up)
  inside =
      let i = Rows.place_in now now-tidy r m.entry q place in
      (rw m.holds.heads-are (omega (arith, i, now-tidy.heads-in)), rw m.holds.up-are (omega (arith, i, now-tidy.ring.ups)))

  module _ (d : q ≢ r) where
    -- over a head of 0
    module _ (z : item_of (head heads q) ≡ 0) where
      none : item_of (head now.heads q) ≡ 0
      none = rw m.holds.heads-are at z

      pub over-at : At g r (at up q)
      over-at = let a : At now r (at up q) = rw m.holds.up-are (Rows.over-at now now-tidy r m.entry q place d none) in record { from = a.from; till = a.till }

      pub over-walked : walked g r (at up q) ≡ walked g r q
      over-walked =
          sym (after-walked g xs m.tidy m.fresh r m.entry (at up q) over-at.till)
          ∙ ap (λ (v : List ℕ). walked now r (at v q)) m.holds.up-are
          ∙ Rows.over-walked now now-tidy r m.entry q place d none
          ∙ after-walked g xs m.tidy m.fresh r m.entry q m.place.till

      pub over-way : (n : ℕ) → length heads ≡ n → way n r (at up q) < way n r q
      over-way n s = rw m.holds.up-are (Rows.over-way now now-tidy r m.entry q place d none n (omega (arith, s, ap length m.holds.heads-are, now-tidy.heads-in)))

    -- at an entry
    module _ (z : item_of (head heads q) ≢ 0) where
      some : item_of (head now.heads q) ≢ 0
      some u = z (ap (λ (v : List ℤ). item_of (head v q)) m.holds.heads-are ∙ u)

      pub full-inside : q < hi g.plan r
      full-inside = Rows.full-inside now now-tidy r m.entry q place some

      pub full-entry : EntryOf g.plan q
      full-entry = Rows.full-entry now now-tidy r m.entry q place some

      pub full-col : item_of (head heads q) ≡ g.plan.col q
      full-col = ap (λ (v : List ℤ). item_of (head v q)) m.holds.heads-are ∙ Rows.full-item now now-tidy r m.entry q place some

      pub full-head : head g.heads q ≡ pos (g.plan.col q)
      full-head = sym (taken-entry-head g xs m.tidy m.fresh q full-entry) ∙ Rows.full-head now now-tidy r m.entry q place some

      -- it is one of the others, and the next place is in the row too
      pub full-among : In q (others g r)
      full-among = Rows.others-In g m.tidy r m.entry full-entry (m.tidy.planned.numbered (g.plan.number r) q m.entry.option m.place.from full-inside) d full-head

      pub full-at : At g r (q + 1)
      full-at = record { from = omega (arith, m.place.from); till = omega (arith, full-inside) }

      pub full-one : walked g r (q + 1) ≡ walked g r q ++ (q ∷ [])
      full-one =
          sym (after-walked g xs m.tidy m.fresh r m.entry (q + 1) (omega (arith, full-inside)))
          ∙ Rows.full-walked now now-tidy r m.entry q place d some
          ∙ ap (λ (v : List ℕ). v ++ (q ∷ [])) (after-walked g xs m.tidy m.fresh r m.entry q m.place.till)

    pub full-way : (n : ℕ) → length heads ≡ n → way n r (q + 1) < way n r q
    full-way n s = Rows.full-way now now-tidy r m.entry n q (omega (arith, s, ap length m.holds.heads-are, now-tidy.heads-in)) place d

-- A walk that takes out what it passes: the entry where it stands is in its column still.
pub passing-within : {g : Ground} {r q : ℕ} {heads : List ℤ} {up down : List ℕ} → Underway g (walked g r q) r q heads up down → q ≢ r → item_of (head heads q) ≢ 0
    → ((y : ℕ) → In y (others g r) → Within g y) → Within (after g (walked g r q)) q
passing-within {g} {r} {q} m d z within =
    after-within g (walked g r q) m.tidy m.fresh (within q (full-among m d z)) (λ i. (Rows.In-walked g m.tidy r m.entry q m.place i).3 refl)
