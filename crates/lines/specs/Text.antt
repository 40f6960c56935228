-- Places of a text, as the programs look them up. Assumes nothing.
use Rattle.std.specs.Prelude.{◌≡◌, ℕ, ◌<◌, ◌≤◌, ◌≢◌, List, Option, MatchOption, length, slice_index}

-- i is the first place from a place on that holds the byte b
pub record FirstAt (b from : ℕ) (t : List ℕ) (i : ℕ) : Type 0 where
  pub within : i < length t
  pub on : from ≤ i
  pub there : slice_index t i ≡ b
  pub not-before : (k : ℕ) → from ≤ k → k < i → slice_index t k ≢ b

-- r is the place of the first byte b from a place on; without one, no place from there on holds b
abbrev pub First : ℕ → ℕ → List ℕ → Option ℕ → Type 0
First b from t r = MatchOption r ((k : ℕ) → from ≤ k → k < length t → slice_index t k ≢ b) (FirstAt b from t)
