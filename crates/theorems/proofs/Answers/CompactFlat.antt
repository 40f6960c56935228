-- The compact result as flat lists: they stand for the compact problem, and pass checks 14 and 16. Assumes nothing.
use Prim.Native.Nat.{ℕ, ◌+◌}
use mathlib.Core.Path.{◌≡◌, sym, ap₂, ◌∙◌}
use mathlib.Core.List.{List, map, map-map}
use mathlib.Core.Option.{none}
use lib.Dec.{ltb}
use lib.ListN.{length, length-map}
use Rattle.rules.specs.Lists.{each, place}
use Rattle.rules.specs.Problem.{Entry, entries_of, cut, problem_of}
use Rattle.rules.specs.Checks.{check16}
use Rattle.rules.specs.State.{State, items_of}
use Rattle.rules.specs.Result.{kept_items, primaries_of, secondaries_of, Numbered, kept_options, ends_from, colours_of, results_of, renamed, compact_of}
use Rattle.theorems.proofs.Words.Counts.{count-split}
use Rattle.theorems.proofs.Words.Lists.{each-cong}
use Rattle.theorems.proofs.Results.Compact.{compact_options}
use Rattle.theorems.proofs.Answers.EachFacts.{map_each, each-lengths}
use Rattle.theorems.proofs.Answers.Joining.{joined, entries-joined, cut-joined, length-ends, ends-pass}

-- An option under places instead of items
module _ (kept : List ℕ) (o : List Entry) where
  pub items-renamed : items_of (renamed kept o) ≡ map (place kept) (items_of o)
  items-renamed =
      map-map (λ (e : Entry). e.item) (λ (e : Entry). record { item = place kept e.item; colour = e.colour }) o
      ∙ sym (map-map (place kept) (λ (e : Entry). e.item) o)

  pub colours-renamed : colours_of (renamed kept o) ≡ colours_of o
  colours-renamed = map-map (λ (e : Entry). e.colour) (λ (e : Entry). record { item = place kept e.item; colour = e.colour }) o

  pub length-renamed : length (renamed kept o) ≡ length o
  length-renamed = length-map o (λ (e : Entry). record { item = place kept e.item; colour = e.colour })

module _ (n : ℕ) (s : State) where
  -- the compact items and the colours, option by option
  pub compact-items : map (place (kept_items n s)) (results_of n s).items ≡ each (λ x. items_of (renamed (kept_items n s) x.entries)) (kept_options n s)
  unfolding results_of
  compact-items =
      map_each (place (kept_items n s)) (λ (x : Numbered). items_of x.entries) (kept_options n s)
      ∙ each-cong (λ x. map (place (kept_items n s)) (items_of x.entries)) (λ x. items_of (renamed (kept_items n s) x.entries)) (kept_options n s)
      (λ x m. sym (items-renamed (kept_items n s) x.entries))

  pub compact-colours : (results_of n s).colours ≡ each (λ x. colours_of (renamed (kept_items n s) x.entries)) (kept_options n s)
  unfolding results_of
  compact-colours =
      each-cong (λ x. colours_of x.entries) (λ x. colours_of (renamed (kept_items n s) x.entries)) (kept_options n s)
      (λ x m. sym (colours-renamed (kept_items n s) x.entries))

  -- the lengths of the lists
  pub items-many : length (results_of n s).items ≡ length (joined (kept_options n s))
  unfolding results_of
  items-many = each-lengths (λ (x : Numbered). items_of x.entries) (λ (x : Numbered). x.entries) (kept_options n s) (λ x. length-map x.entries (λ (e : Entry). e.item))

  pub colours-many : length (results_of n s).colours ≡ length (joined (kept_options n s))
  unfolding results_of
  colours-many = each-lengths (λ (x : Numbered). colours_of x.entries) (λ (x : Numbered). x.entries) (kept_options n s) (λ x. length-map x.entries (λ (e : Entry). e.colour))

  pub ends-many : length (results_of n s).ends ≡ length (kept_options n s)
  unfolding results_of
  ends-many = length-ends 0 (kept_options n s)

  pub compact-many : length (map (place (kept_items n s)) (results_of n s).items) ≡ length (results_of n s).items
  compact-many = length-map (results_of n s).items (place (kept_items n s))

  pub compact-count : length (compact_options n s) ≡ length (kept_options n s)
  compact-count = length-map (kept_options n s) (λ (x : Numbered). renamed (kept_items n s) x.entries)

  -- the ends pass check 16
  pub result-ends-pass : check16 (length (results_of n s).items) (results_of n s).ends ≡ none
  unfolding results_of
  result-ends-pass = rw items-many (ends-pass (kept_options n s))

module _ (np n : ℕ) (s : State) where
  -- primaries and secondaries are all kept items
  pub all-kept-items : primaries_of np (kept_items n s) + secondaries_of np (kept_items n s) ≡ length (kept_items n s)
  all-kept-items = count-split (λ c. ltb c np) (kept_items n s)

  -- The flat lists stand for the compact problem.
  pub compact-flat : problem_of (primaries_of np (kept_items n s)) (secondaries_of np (kept_items n s)) (map (place (kept_items n s)) (results_of n s).items)
      (results_of n s).colours (results_of n s).ends
      ≡ compact_of np n s
  unfolding problem_of compact_of results_of
  compact-flat = ap₂ (λ (m : ℕ) (os : List (List Entry)). record { np = primaries_of np (kept_items n s); n = m; options = os }) all-kept-items options
    where
      renaming : Numbered → List Entry
      renaming x = renamed (kept_items n s) x.entries

      entries : entries_of (map (place (kept_items n s)) (results_of n s).items) (results_of n s).colours ≡ each renaming (kept_options n s)
      entries = rw (compact-items n s, compact-colours n s) (entries-joined renaming (kept_options n s))

      options : cut 0 (ends_from 0 (kept_options n s)) (entries_of (map (place (kept_items n s)) (results_of n s).items) (results_of n s).colours) ≡ map renaming (kept_options n s)
      options = rw entries (cut-joined renaming (λ x. length-renamed (kept_items n s) x.entries) (kept_options n s))
