-- Writers whose lists are the same ones: as they are, and one call after another. Assumes nothing.
use Rattle.std.proofs.Common.{refl, ◌∙◌}
use Rattle.result.specs.declared.writer.Writer.{Writer}
use Rattle.result.specs.Writer.{SameWriter}

pub same-writer : (a : Writer) → SameWriter a a
same-writer a = record {
  ends = refl;
  numbers = refl;
  items = refl;
  colours = refl;
  ends-long = refl;
  numbers-long = refl;
  items-long = refl;
  colours-long = refl;
}

pub writer-then : {a b c : Writer} → SameWriter a b → SameWriter b c → SameWriter a c
writer-then s t = record {
  ends = t.ends ∙ s.ends;
  numbers = t.numbers ∙ s.numbers;
  items = t.items ∙ s.items;
  colours = t.colours ∙ s.colours;
  ends-long = t.ends-long ∙ s.ends-long;
  numbers-long = t.numbers-long ∙ s.numbers-long;
  items-long = t.items-long ∙ s.items-long;
  colours-long = t.colours-long ∙ s.colours-long;
}
