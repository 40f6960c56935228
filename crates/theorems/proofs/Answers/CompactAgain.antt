-- A run of the compact problem that changes nothing: the lists of its result are the lists that stand for the problem, and the counts are
-- those of the first run. Assumes nothing.
use Prim.Native.Nat.{ℕ}
use mathlib.Core.Path.{◌≡◌, sym, ap, ◌∙◌}
use mathlib.Core.Bool.{Bool}
use mathlib.Core.List.{List, map}
use lib.Dec.{ltb}
use lib.ListN.{length}
use Rattle.rules.specs.Lists.{each, up_to, place}
use Rattle.rules.specs.Rooms.{Results}
use Rattle.rules.specs.State.{State, items_of}
use Rattle.rules.specs.Result.{kept_items, primaries_of, secondaries_of, Numbered, numbered, kept_options, ends_from, numbers_of, colours_of, results_of, renamed, compact_of}
use Rattle.rules.specs.Outcome.{said_of}
use Rattle.rules.specs.Promises.{Repeats}
use Rattle.theorems.proofs.Words.Counts.{count-length}
use Rattle.theorems.proofs.Answers.CountRow.{count-below, count-not-below}
use Rattle.theorems.proofs.Results.Numbers.{numbers-row}
use Rattle.theorems.proofs.Results.Compact.{compact_options}
use Rattle.theorems.proofs.Answers.EachFacts.{each_map}
use Rattle.theorems.proofs.Answers.Joining.{ends-again}
use Rattle.theorems.proofs.Answers.KeptSizes.{each-numbered, length-numbered}
use Rattle.theorems.proofs.Answers.CompactFlat.{length-renamed, all-kept-items, compact-items, compact-colours, compact-many, compact-count, ends-many}

-- The lists of the compact problem's options, numbered from 0
module _ (n : ℕ) (s : State) where
  ends_same : ends_from 0 (numbered 0 (compact_options n s)) ≡ (results_of n s).ends
  unfolding results_of
  ends_same = ends-again (λ x. renamed (kept_items n s) x.entries) (λ x. length-renamed (kept_items n s) x.entries) 0 0 (kept_options n s)

  numbers-same : numbers_of (numbered 0 (compact_options n s)) ≡ up_to (length (results_of n s).ends)
  numbers-same = numbers-row 0 (compact_options n s) ∙ ap (λ (k : ℕ). up_to k) (compact-count n s ∙ sym (ends-many n s))

  items-same : each (λ x. items_of x.entries) (numbered 0 (compact_options n s)) ≡ map (place (kept_items n s)) (results_of n s).items
  items-same = each-numbered items_of 0 (compact_options n s) ∙ each_map (λ x. renamed (kept_items n s) x.entries) items_of (kept_options n s) ∙ sym (compact-items n s)

  colours-same : each (λ x. colours_of x.entries) (numbered 0 (compact_options n s)) ≡ (results_of n s).colours
  colours-same = each-numbered colours_of 0 (compact_options n s) ∙ each_map (λ x. renamed (kept_items n s) x.entries) colours_of (kept_options n s) ∙ sym (compact-colours n s)

module _ (np n : ℕ) (s : State) (R : Repeats np n s) where
  -- The result's lists are those that stand for the problem, ..
  pub results-again : results_of (compact_of np n s).n (compact_of np n s).options ≡ record {
    kept = up_to (compact_of np n s).n;
    ends = (results_of n s).ends;
    numbers = up_to (length (results_of n s).ends);
    items = map (place (kept_items n s)) (results_of n s).items;
    colours = (results_of n s).colours;
  }
  unfolding results_of compact_of
  results-again = rw (R.items, R.options, ends_same n s, numbers-same n s, items-same n s, colours-same n s)

  -- .. and the counts are those of the first run.
  pub said-again : (settled : Bool) → said_of (compact_of np n s).np (compact_of np n s).n (compact_of np n s).options 1 settled ≡ said_of np n s 1 settled
  unfolding said_of compact_of
  said-again settled = rw (primaries, secondaries, options, entries)
    where
      primaries : primaries_of (compact_of np n s).np (kept_items (compact_of np n s).n (compact_of np n s).options) ≡ primaries_of np (kept_items n s)
      primaries = ap (λ (l : List ℕ). primaries_of (compact_of np n s).np l) R.items
          ∙ count-below (compact_of np n s).np (compact_of np n s).n (count-length (λ c. ltb c np) (kept_items n s))

      secondaries : secondaries_of (compact_of np n s).np (kept_items (compact_of np n s).n (compact_of np n s).options) ≡ secondaries_of np (kept_items n s)
      secondaries = ap (λ (l : List ℕ). secondaries_of (compact_of np n s).np l) R.items
          ∙ count-not-below (compact_of np n s).np (secondaries_of np (kept_items n s)) (compact_of np n s).n (all-kept-items np n s)

      options : length (kept_options (compact_of np n s).n (compact_of np n s).options) ≡ length (kept_options n s)
      options = ap (λ (l : List Numbered). length l) R.options ∙ length-numbered 0 (compact_of np n s).options ∙ compact-count n s

      entries : length (results_of (compact_of np n s).n (compact_of np n s).options).items ≡ length (results_of n s).items
      entries = ap (λ (r : Results). length r.items) results-again ∙ compact-many n s
