-- What checks 10 to 15 leave for the others: a problem that was made of the counts of the lists that are handed in. Assumes nothing.
use Rattle.std.specs.Prelude.{ℕ, ◌≤◌, ◌≡◌, not, List, eqb, length}
use Rattle.std.proofs.Math.Option.{none}
use Rattle.rules.specs.Problem.{Figures, figures}
use Rattle.rules.specs.Sizing.{sizing}
use Rattle.rules.specs.declared.problem.Problem.{Problem}

-- At some figures, which are at most the paper's own, with its colours. The lists are no ragged bytes, and are of one length.
pub record Made (f : Figures) (p : Problem) (items colours ends : List ℕ) : Type 0 where
  pub options : p.options ≡ length ends
  pub entries : p.entries ≡ length items
  pub taken : sizing f p.np p.ns (length ends) (length items) (not (eqb (length items) (length colours))) ≡ none
  pub few-items : f.items ≤ figures.items
  pub few-options : f.options ≤ figures.options
  pub few-entries : f.entries ≤ figures.entries
  pub colour : f.colour ≡ figures.colour
