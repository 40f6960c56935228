-- Lists that stand for an accepted problem, with ends that pass check 16 and room enough, are refused by no check. Assumes nothing.
use mathlib.Core.Path.{◌≡◌}
use mathlib.Core.Bool.{false}
use mathlib.Core.List.{List}
use mathlib.Core.Option.{none}
use lib.ListN.{length}
use Rattle.rules.specs.Problem.{Entry, Figures, entries_of, problem_of}
use Rattle.rules.specs.Rooms.{Handed}
use Rattle.rules.specs.Checks.{check16, refusal_of}
use Rattle.rules.specs.Promises.{Accepted}
use Rattle.rules.specs.SecondRun.{Roomy}
use Rattle.theorems.proofs.Checks.Cutting.{length-entries_of, length_cut, cut-whole}
use Rattle.theorems.proofs.Checks.Accept.{ChecksPassed, not-refused, accepts}

module _ (f : Figures) (h : Handed) (A : Accepted f (problem_of h.np h.ns h.items h.colours h.ends))
    (lengths : length h.items ≡ length h.colours) (ends : check16 (length h.items) h.ends ≡ none) (R : Roomy h) where
  accepted-passes : ChecksPassed f h
  unfolding problem_of
  accepted-passes = record {
    some-primary = A.some-primary;
    items = A.items;
    some-option = rw (length_cut 0 h.ends es) at A.some-option;
    options = rw (length_cut 0 h.ends es) at A.options;
    lengths = lengths;
    entries = rw (cut-whole h.ends es (rw many ends), many) at A.entries;
    ends = ends;
    room = R.room;
    results = R.results;
    checked = accepts f (problem_of h.np h.ns h.items h.colours h.ends) A;
  }
    where
      es : List Entry
      es = entries_of h.items h.colours

      many : length es ≡ length h.items
      many = length-entries_of h.items h.colours lengths

  pub taken : refusal_of f false h ≡ none
  taken = not-refused f h accepted-passes
