-- What the problem's own type takes: its figures, and which counts its constructor refuses. Document 01, "The problem as handed
-- in" and checks 10 to 15. Assumes nothing.
use Rattle.std.specs.Prelude.{ℕ, Bool}
use Rattle.std.proofs.Math.Option.{Option}
use Rattle.rules.specs.declared.problem.Figures.{Figures}
use Rattle.rules.specs.Problem.{Figures as PaperFigures}
use Rattle.rules.specs.Lists.{first_of}
use Rattle.rules.specs.Checks.{Refusal, size_checks}

-- the figures of the program's type, as the paper's
abbrev pub figures_of : Figures → PaperFigures
figures_of f = record { items = f.items; options = f.options; entries = f.entries; colour = f.colour }

-- the refusal of the counts, at some figures, or that they are taken
unfoldable pub sizing : PaperFigures → ℕ → ℕ → ℕ → ℕ → Bool → Option Refusal
sizing f np ns M E differ = first_of (size_checks f np ns M E differ)
