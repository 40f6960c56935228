-- The options that are left, as nodes: each is met at its first live entry, column by column, and in a column from the top down. Assumes nothing.
use Rattle.std.specs.Prelude.{ℕ, ◌+◌, Bool, ◌&&◌, List, map}
use Rattle.rules.specs.Lists.{keep, each, up_to}
use Rattle.rules.specs.Problem.{Entry}
use Rattle.rules.specs.Result.{Numbered}
use Rattle.links.specs.Plan.{start, hi}
use Rattle.links.specs.Ground.{Ground}
use Rattle.links.specs.Row.{span, full, first_live}
use Rattle.links.specs.Shown.{entry_at}
use Rattle.links.specs.Taking.{in_column}

-- node r is in column c, and the first live entry of its option
abbrev pub lead_at : Ground → ℕ → ℕ → Bool
lead_at g c r = in_column g c r && first_live g r

-- the live entries from node r on to before node q; the option of r, from r on
abbrev pub entries_to : Ground → ℕ → ℕ → List Entry
entries_to g r q = map (entry_at g.plan) (keep (full g.heads) (span r q))

unfoldable pub option_from : Ground → ℕ → Numbered
option_from g r = record { number = g.plan.number r; entries = entries_to g r (hi g.plan r) }

-- the options that are met in column c before node k; in the whole column; and in the columns of the first c items
unfoldable pub column_to : Ground → ℕ → ℕ → List Numbered
column_to g c k = map (option_from g) (keep (lead_at g c) (span (start g.plan) k))

abbrev pub column_options : Ground → ℕ → List Numbered
column_options g c = column_to g c g.plan.N

unfoldable pub options_to : Ground → ℕ → List Numbered
options_to g c = each (λ i. column_options g (i + 1)) (up_to c)
