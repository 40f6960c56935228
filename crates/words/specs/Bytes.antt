-- Numbers as bytes: four bytes to a number, lowest first. Document 01, "The desk program calls through C". Assumes nothing.
use Rattle.std.specs.Prelude.{ℕ, ◌+◌, ◌*◌, ◌/◌, ◌%◌, Bool, not, List, [], ◌∷◌, eqb, length, get_or}

-- the number that four bytes are, the lowest byte first
abbrev pub number_of : ℕ → ℕ → ℕ → ℕ → ℕ
number_of a b c d = a + 256 * b + 65536 * c + 16777216 * d

-- the same of the four in one list
abbrev pub four : List ℕ → ℕ
four b = number_of (get_or b 0 0) (get_or b 1 0) (get_or b 2 0) (get_or b 3 0)

-- the whole fours of a byte list, as numbers; a rest of one to three bytes is left out
abbrev pub numbers_of : List ℕ → List ℕ
numbers_of [] = []
numbers_of (a ∷ []) = []
numbers_of (a ∷ b ∷ []) = []
numbers_of (a ∷ b ∷ c ∷ []) = []
numbers_of (a ∷ b ∷ c ∷ d ∷ l) = number_of a b c d ∷ numbers_of l

-- each number as four bytes, the lowest first
abbrev pub bytes_of : List ℕ → List ℕ
bytes_of [] = []
bytes_of (n ∷ l) = n % 256 ∷ n / 256 % 256 ∷ n / 65536 % 256 ∷ n / 16777216 % 256 ∷ bytes_of l

-- a length that is no multiple of four, and a byte list of such a length
abbrev pub ragged_length : ℕ → Bool
ragged_length n = not (eqb (n % 4) 0)

abbrev pub ragged : List ℕ → Bool
ragged bytes = ragged_length (length bytes)
