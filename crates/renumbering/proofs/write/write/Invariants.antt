-- At place k the first k numbers are written.
use Rattle.std.proofs.Common.{◌≡◌, ℕ, length, map, take}
use Rattle.rules.specs.Lists.{each, written}
use Rattle.renumbering.specs.Parts.{Numbers}
use Rattle.renumbering.proofs.write.write.Given as goal

abbrev pub invariant-loop-k : goal.invariant-loop-k
invariant-loop-k g l =
    let v = g.N.Numeral.value in
    (length l.out ≡ length l.initial.out)
    × ((f : ℕ → ℕ) → Numbers (map v l.kept) (goal.F-post g l.number) f → l.out ≡ written (each g.C.Cell.cells (take l.k (map f (map v l.items)))) l.initial.out)
