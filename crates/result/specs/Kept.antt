-- The items whose columns are not empty, upward. Item c has column c + 1. Assumes nothing.
use Rattle.std.specs.Prelude.{ℕ, ◌+◌, List, ℤ}
use Rattle.rules.specs.Lists.{keep}
use Rattle.links.specs.Row.{span, full}

-- of the items a .. b - 1
abbrev pub kept_from : List ℤ → ℕ → ℕ → List ℕ
kept_from heads a b = keep (λ c. full heads (c + 1)) (span a b)
