-- The packed answer of the compact numbers is number + 256 x place, exactly, for item lists of up to 2 ^ 58 bytes, which are more than a machine can
-- address; the number can be read off it always. Assumes nothing.
use Prim.Native.Nat.{ℕ, ◌+◌, ◌*◌, ◌%◌, ◌^◌, ◌<◌}
use native.Mathlib.Nat.{mod-eq_of_lt}
use native.Mathlib.Omega.{arith}
use mathlib.Core.Path.{◌≡◌, ap}
use mathlib.Core.List.{List}
use mathlib.Core.Option.{some}
use Rattle.std.specs.Prelude.{Ok, Err}
use lib.ListN.{length}
use Rattle.rules.specs.Checks.{Refusal}
use Rattle.words.proofs.Counting.{fours-fit}
use Rattle.renumbering.specs.declared.answer.Unnumbered.TheVariants.{Ragged, BadKept, ShortOutcome, NotKept}
use Rattle.renumbering.specs.Outcome.{Renumbering, refusal}
use Rattle.renumbering.specs.Bytes.{compact_bytes_outcome}
use Rattle.renumbering.proofs.Places.{place_of, bytes-within}
use Rattle.kapkyrem.specs.Packed.{packed_refusal}
use Rattle.kapkyrem.specs.Calls.{told, packed_renumbered, called_renumbered}

pub packed-number : (r : Renumbering) → packed_renumbered (refusal r) % 256 ≡ (told (refusal r)).number
packed-number (Ok done) = omega arith
packed-number (Err Ragged) = omega arith
packed-number (Err BadKept) = omega arith
packed-number (Err ShortOutcome) = omega arith
packed-number (Err (NotKept place)) = omega arith

packed-exact : (r : Refusal) → r.place < 2 ^ 56 → packed_renumbered (some r) ≡ packed_refusal r
packed-exact r h = ap (λ (p : ℕ). r.number + 256 * p) (mod-eq_of_lt h)

-- So the call over byte lists has an exact packed answer.
pub compact-exact : (kept : List ℕ) (primaries : ℕ) (items out : List ℕ) (r : Refusal) → length items < 2 ^ 58 → (compact_bytes_outcome kept primaries items out).refusal ≡ some r
    → (called_renumbered (compact_bytes_outcome kept primaries items out)).answer ≡ packed_refusal r
compact-exact kept primaries items out r h e =
    let w = bytes-within kept primaries items out in
    rw e (packed-exact r (omega (arith, ap place_of e, w, fours-fit items)))
