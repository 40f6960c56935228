-- What a call is handed and what it comes to, put together from its lists. Assumes nothing.
use Rattle.std.specs.Prelude.{ℕ, List}
use Rattle.rules.specs.Rooms.{Room, Results, Handed}
use Rattle.rules.specs.Outcome.{Outcome}
use Rattle.rules.specs.Paper.{Said}

abbrev pub handed : ℕ → ℕ → ℕ → List ℕ → List ℕ → List ℕ → Room → Results → Handed
handed np ns cap items colours ends room results =
    record { np = np; ns = ns; cap = cap; items = items; colours = colours; ends = ends; room = room; results = results }

abbrev pub outcome : Said → Room → Results → Outcome
outcome said room results = record { said = said; room = room; results = results }
