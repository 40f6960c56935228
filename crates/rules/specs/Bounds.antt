-- Bounds that no problem reaches, as names. Assumes nothing.
use Rattle.std.specs.Prelude.{ℕ}

-- every number that the working lists hold is below it: 2 to the 20
abbrev pub node_bound : ℕ
node_bound = 1048576

-- every number that is handed in is below it: 2 to the 32
abbrev pub word_bound : ℕ
word_bound = 4294967296
