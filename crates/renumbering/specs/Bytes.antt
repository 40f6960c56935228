-- The compact renumbering over byte lists, four bytes to a number. Document 01, "The desk program calls through C". Assumes nothing.
use Rattle.std.specs.Prelude.{ℕ, ◌||◌, List, map}
use Rattle.std.proofs.Math.Option.{Option, none, some}
use Rattle.rules.specs.Lists.{or_else, written}
use Rattle.rules.specs.Checks.{Refusal, refuse}
use Rattle.rules.specs.Renumber.{Renumbered, compact_item, renumber_refusal}
use Rattle.words.specs.Bytes.{numbers_of, bytes_of, ragged}

-- 14, place 0, if the length of any of the three lists isn't a multiple of four; then 24, 18 and 25 of the numbers
unfoldable pub bytes_refusal : List ℕ → ℕ → List ℕ → List ℕ → Option Refusal
bytes_refusal kept primaries items out =
    or_else (refuse 14 0 (ragged kept || ragged items || ragged out))
    (renumber_refusal (numbers_of kept) primaries (numbers_of items) (numbers_of out))

-- a refusal writes nothing; otherwise the front of the list is written over
abbrev pub written_unless : Option Refusal → List ℕ → List ℕ → Renumbered
written_unless (some r) new out = record { refusal = some r; out = out }
written_unless none new out = record { refusal = none; out = written new out }

unfoldable pub compact_bytes_outcome : List ℕ → ℕ → List ℕ → List ℕ → Renumbered
compact_bytes_outcome kept primaries items out =
    written_unless (bytes_refusal kept primaries items out) (bytes_of (map (compact_item (numbers_of kept) primaries) (numbers_of items))) out
