-- The compact problem's options: those kept, in their order, each item renamed to its place among the kept items. Assumes nothing.
use Prim.Native.Nat.{ℕ, ◌<◌}
use mathlib.Core.Path.{◌≡◌, ap, ◌∙◌}
use mathlib.Core.List.{List, [], map, Memᴰ as In}
use lib.Dec.{T}
use lib.ListN.{length-map, get_or-map}
use Rattle.rules.specs.Lists.{place}
use Rattle.rules.specs.Problem.{Entry}
use Rattle.rules.specs.State.{State, option_at}
use Rattle.rules.specs.Result.{Numbered, kept_items, kept_options, renamed}
use Rattle.theorems.proofs.Words.Lists.{In-map}
use Rattle.theorems.proofs.Steps.States.{holds-own, holds-below}
use Rattle.theorems.proofs.Steps.LiveOptions.{nonempty}
use Rattle.theorems.proofs.Results.Kept.{option→}
use Rattle.theorems.proofs.Results.Numbers.{number_at, kept_count, entries_at}

-- an entry with its item renamed
abbrev pub ren : List ℕ → Entry → Entry
ren kept e = record { item = place kept e.item; colour = e.colour }

-- the options, as `compact_of` has them
abbrev pub compact_options : ℕ → State → State
compact_options n s = map (λ x. renamed (kept_items n s) x.entries) (kept_options n s)

module _ (n : ℕ) (s : State) where
  -- an option has the entries that the state has under its number, renamed; ..
  pub compact-at : (j : ℕ) → j < kept_count n s → option_at (compact_options n s) j ≡ renamed (kept_items n s) (option_at s (number_at n s j))
  compact-at j lt =
      get_or-map (λ (x : Numbered). renamed (kept_items n s) x.entries) (kept_options n s) j (record { number = 0; entries = [] })
      ∙ ap (λ (o : List Entry). renamed (kept_items n s) o) (entries_at n s j lt)

  -- .. one that has an entry is in the result
  pub compact-inside : (j : ℕ) {e : Entry} → In e (option_at (compact_options n s) j) → j < kept_count n s
  compact-inside j {e} m =
      let lt = holds-below e.item (compact_options n s) j (holds-own (option_at (compact_options n s) j) m) in
      rw (length-map (kept_options n s) (λ (x : Numbered). x.number)) (rw (length-map (kept_options n s) (λ (x : Numbered). renamed (kept_items n s) x.entries)) at lt)

  -- whatever its place: it is an option of the state, renamed
  pub compact→ : (v : List Entry) → In v (compact_options n s) → (o : List Entry) × In o s × (v ≡ renamed (kept_items n s) o) × T (nonempty o)
  compact→ v m =
      let w = In-map (λ (x : Numbered). renamed (kept_items n s) x.entries) (kept_options n s) m in
      let o = option→ n s w.1 in
      (w.0.entries, o.0, w.2, o.2)
