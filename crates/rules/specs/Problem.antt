-- The problem as handed in: numbers and flat lists, and the options that these lists stand for. Document 01, "The problem
-- as handed in". Assumes nothing.
use Rattle.std.specs.Prelude.{ℕ, ◌+◌, List, [], ◌∷◌}
use Rattle.std.proofs.Math.Seq.{slice}

-- An entry of an option: an item, and a colour, where 0 means none.
pub record Entry : Type 0 where
  pub item : ℕ
  pub colour : ℕ

-- np primary items are 0 .. np - 1, and n is the count of all items. The options stand by their numbers.
pub record Problem : Type 0 where
  pub np : ℕ
  pub n : ℕ
  pub options : List (List Entry)

-- The most that is taken.
pub record Figures : Type 0 where
  pub items : ℕ
  pub options : ℕ
  pub entries : ℕ
  pub colour : ℕ

abbrev pub figures : Figures
figures = record { items = 1024; options = 4096; entries = 16384; colour = 255 }

-- There 64 items, 256 options and 1,024 entries replace the figures in 11, 13 and 15: the desk's, with the colours of the others.
abbrev pub desk_figures : Figures
desk_figures = record { items = 64; options = 256; entries = 1024; colour = figures.colour }

-- What a problem at the very figures asks for: n + 2 + E + M numbers in each list of nodes, and n + 1 marks.
abbrev pub nodes_at : Figures → ℕ
nodes_at f = f.items + 2 + f.entries + f.options

abbrev pub marks_at : Figures → ℕ
marks_at f = f.items + 1

-- Entries are two lists of equal length, item and colour.
abbrev pub entries_of : List ℕ → List ℕ → List Entry
entries_of [] cs = []
entries_of (i ∷ is) [] = []
entries_of (i ∷ is) (c ∷ cs) = record { item = i; colour = c } ∷ entries_of is cs

-- A third list gives for each option the end of its entries; a is the end before.
abbrev pub cut : ℕ → List ℕ → List Entry → List (List Entry)
cut a [] es = []
cut a (b ∷ ends) es = slice a b es ∷ cut b ends es

unfoldable pub problem_of : ℕ → ℕ → List ℕ → List ℕ → List ℕ → Problem
problem_of np ns items colours ends = record { np = np; n = np + ns; options = cut 0 ends (entries_of items colours) }
