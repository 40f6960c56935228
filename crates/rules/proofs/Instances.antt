-- What the definitions say in small instances that the samples do not work out: that a refusal leaves the room, that compact numbers count from 0,
-- and two sets of options that are no cover. Assumes nothing.
use Prim.Native.Nat.{ℕ}
use native.Mathlib.Omega.{arith}
use mathlib.Core.Path.{◌≡◌, refl}
use mathlib.Core.List.Memᴰ.{head as here}
use mathlib.Core.List.Memᴰ.{tail as next}
use mathlib.Core.List.{[], ◌∷◌}
use mathlib.Core.Logic.{◌≢◌}
use mathlib.Core.Option.{some}
use Rattle.rules.specs.Problem.{Problem}
use Rattle.rules.specs.Rooms.{Handed}
use Rattle.rules.specs.Checks.{Refusal}
use Rattle.rules.specs.Rounds.{Finding}
use Rattle.rules.specs.Result.{renamed}
use Rattle.rules.specs.Paper.{said_refused}
use Rattle.rules.specs.Outcome.{refused_or}
use Rattle.rules.specs.Cover.{Cover}

-- A refusal writes nothing anywhere.
pub refused-untouched : (h : Handed) (r : Refusal) (x : Finding) → refused_or h (some r) x ≡ record { said = said_refused r; room = h.room; results = h.results }
refused-untouched h r x = refl

-- Of the kept items 4 and 7, 7 is item 1 of the compact problem.
pub compact-from-zero : renamed (4 ∷ 7 ∷ []) (record { item = 7; colour = 3 } ∷ []) ≡ record { item = 1; colour = 3 } ∷ []
compact-from-zero = refl

zero-not-one : ◌≢◌ {A = ℕ} 0 1
zero-not-one e = absurd (omega arith)

-- Options [0] and [0] do not cover item 0 together.
abbrev twice : Problem
twice = record { np = 1; n = 1; options = (record { item = 0; colour = 0 } ∷ []) ∷ (record { item = 0; colour = 0 } ∷ []) ∷ [] }

pub not-shared : Cover twice (0 ∷ 1 ∷ []) → ⊥
unfolding Cover
not-shared C = zero-not-one (C.once 0 (omega arith) (here refl) 0 1 (here refl) (next (here refl)) tt tt)

-- Options [0 2] and [1 2] do not agree on item 2, which neither colours.
abbrev uncoloured : Problem
uncoloured = record {
  np = 2;
  n = 3;
  options = (record { item = 0; colour = 0 } ∷ record { item = 2; colour = 0 } ∷ []) ∷ (record { item = 1; colour = 0 } ∷ record { item = 2; colour = 0 } ∷ []) ∷ [];
}

pub not-agreed : Cover uncoloured (0 ∷ 1 ∷ []) → ⊥
unfolding Cover
not-agreed C =
    let a = C.agreed 0 1 (here refl) (next (here refl)) zero-not-one (record { item = 2; colour = 0 }) (record { item = 2; colour = 0 }) (next (here refl))
    (next (here refl)) refl (omega arith) in
    let b = a.1 in
    absurd (omega arith)
