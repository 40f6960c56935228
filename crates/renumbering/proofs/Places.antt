-- The place that a renumbering call names is within the list of items, or 0. Assumes nothing.
use Prim.Native.Nat.{ℕ, suc, ◌+◌, ◌≤◌}
use native.Mathlib.Omega.{arith}
use mathlib.Core.Path.{◌≡◌, refl}
use mathlib.Core.Bool.{Bool, true, false, not, ◌||◌, cond}
use mathlib.Core.List.{List, [], ◌∷◌}
use mathlib.Core.Option.{Option, none, some}
use lib.Dec.{eqb, ltb}
use lib.ListN.{length}
use Rattle.rules.specs.Lists.{or_else, mem, rising}
use Rattle.rules.specs.Checks.{Refusal, refuse, refuse_at}
use Rattle.rules.specs.Renumber.{not_kept, renumber_refusal}
use Rattle.words.specs.Bytes.{numbers_of, ragged}
use Rattle.renumbering.specs.Bytes.{bytes_refusal, written_unless, compact_bytes_outcome}

-- the place of a refusal, 0 where there is none
abbrev pub place_of : Option Refusal → ℕ
place_of none = 0
place_of (some r) = r.place

-- the place of 25 is that of an item
missing-within : (kept items : List ℕ) (s : ℕ) → place_of (refuse_at 25 (not_kept kept s items)) ≤ s + length items
missing-within kept [] s = omega arith
missing-within kept (i ∷ items) s = go (mem i kept) (missing-within kept items (suc s))
  where
    go : (b : Bool) → place_of (refuse_at 25 (not_kept kept (suc s) items)) ≤ suc s + length items
        → place_of (refuse_at 25 (cond b (not_kept kept (suc s) items) (some s))) ≤ s + suc (length items)
    go true h = omega arith
    go false h = omega arith

-- the other refusals have place 0
first-within : (number : ℕ) (b : Bool) (x : Option Refusal) (n : ℕ) → place_of x ≤ n → place_of (or_else (refuse number 0 b) x) ≤ n
first-within number true x n h = omega arith
first-within number false x n h = h

last_within : (x : Option Refusal) (n : ℕ) → place_of x ≤ n → place_of (or_else x none) ≤ n
last_within none n h = h
last_within (some r) n h = h

pub place-within : (kept : List ℕ) (primaries : ℕ) (items out : List ℕ) → place_of (renumber_refusal kept primaries items out) ≤ length items
unfolding renumber_refusal
place-within kept primaries items out =
    let h = missing-within kept items 0 in
    first-within 24 (not (rising kept) || eqb primaries 0 || ltb (length kept) primaries) _ (length items)
    (first-within 18 (ltb (length out) (length items)) _ (length items) (last_within (refuse_at 25 (not_kept kept 0 items)) (length items) (omega arith)))

unless-refusal : (x : Option Refusal) (new out : List ℕ) → (written_unless x new out).refusal ≡ x
unless-refusal none new out = refl
unless-refusal (some r) new out = refl

pub bytes-within : (kept : List ℕ) (primaries : ℕ) (items out : List ℕ) → place_of (compact_bytes_outcome kept primaries items out).refusal ≤ length (numbers_of items)
unfolding compact_bytes_outcome bytes_refusal
bytes-within kept primaries items out =
    rw (unless-refusal (bytes_refusal kept primaries items out) _ out)
    (first-within 14 (ragged kept || ragged items || ragged out) _ (length (numbers_of items)) (place-within (numbers_of kept) primaries (numbers_of items) (numbers_of out)))
