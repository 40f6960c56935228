-- What the functions below the calls ask and answer. Assumes nothing.
use Rattle.std.specs.Prelude.{ℕ, ◌≤◌, ◌<◌, ◌≡◌, true, cond, List, T, ltb, length, get_or, Option as Optional, Some, None}
use Rattle.std.proofs.Math.Option.{Option, none, some}
use Rattle.rules.specs.Lists.{mem, rising, place}
use Rattle.rules.specs.declared.number.Item.{Item}

-- an answer of the code's, as the definitions have it
abbrev pub as_option : Optional ℕ → Option ℕ
as_option None = none
as_option (Some k) = some k

-- a place below n, or none
abbrev pub place_below : ℕ → ℕ → Option ℕ
place_below k n = cond (ltb k n) (some k) none

-- a kept list with its count of primaries that 24 does not refuse
pub record Renumberable (kept : List ℕ) (primaries : ℕ) : Type 0 where
  pub rises : rising kept ≡ true
  pub some-primary : 0 < primaries
  pub within : primaries ≤ length kept

-- every item is kept
abbrev pub AllKept : List ℕ → List ℕ → Type 0
AllKept kept items = (k : ℕ) → k < length items → T (mem (get_or items k 0) kept)

-- of each kept item, a function may be asked for its number, by its place and itself, ..
abbrev pub AskedOfEach : List ℕ → (ℕ → Item → Type 0) → Type 0
AskedOfEach kept may = (i : Item) → T (mem i.0 kept) → may (place kept i.0) i

-- .. and answers what f says
abbrev pub Numbers : List ℕ → (ℕ → Item → Item → Type 0) → (ℕ → ℕ) → Type 0
Numbers kept answers f = (i n : Item) → T (mem i.0 kept) → answers (place kept i.0) i n → n.0 ≡ f i.0
