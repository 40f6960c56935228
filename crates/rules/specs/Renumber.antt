-- The two renumberings of a result, with refusals 24, 18 and 25. Document 01, "Two renumberings of a result". Assumes nothing.
use Rattle.std.specs.Prelude.{ℕ, suc, ◌-◌, not, ◌||◌, cond, List, [], ◌∷◌, map, ltb, eqb, length, get_or, take}
use Rattle.std.proofs.Math.Option.{Option, none, some}
use Rattle.rules.specs.Lists.{first_of, mem, rising, place, written}
use Rattle.rules.specs.Checks.{Refusal, refuse, refuse_at}

-- compact: place in the kept list
abbrev pub compact_item : List ℕ → ℕ → ℕ → ℕ
compact_item kept primaries i = place kept i

-- the crate's: primaries as they are; secondaries less sd, where sd is first kept secondary minus last kept primary minus 1, or
-- 0 with no secondary kept. The primaries are the first ones of the kept list.
unfoldable pub sd : List ℕ → ℕ → ℕ
sd kept primaries = cond (ltb primaries (length kept)) (get_or kept primaries 0 - get_or kept (primaries - 1) 0 - 1) 0

unfoldable pub crate_item : List ℕ → ℕ → ℕ → ℕ
crate_item kept primaries i = cond (mem i (take primaries kept)) i (i - sd kept primaries)

-- the place of the first item that is not in the kept list; k is the place of the first item of the list
abbrev pub not_kept : List ℕ → ℕ → List ℕ → Option ℕ
not_kept kept k [] = none
not_kept kept k (i ∷ is) = let r = not_kept kept (suc k) is in cond (mem i kept) r (some k)

unfoldable pub renumber_refusal : List ℕ → ℕ → List ℕ → List ℕ → Option Refusal
renumber_refusal kept primaries items out =
    first_of (refuse 24 0 (not (rising kept) || eqb primaries 0 || ltb (length kept) primaries)
    ∷ refuse 18 0 (ltb (length out) (length items))
    ∷ refuse_at 25 (not_kept kept 0 items)
    ∷ [])

-- What a renumbering call comes to: the refusal, if there is one, and the list for the outcome afterwards.
pub record Renumbered : Type 0 where
  pub refusal : Option Refusal
  pub out : List ℕ

abbrev pub renumbered_unless : Option Refusal → (ℕ → ℕ) → List ℕ → List ℕ → Renumbered
renumbered_unless (some r) f items out = record { refusal = some r; out = out }
renumbered_unless none f items out = record { refusal = none; out = written (map f items) out }

unfoldable pub compact_outcome : List ℕ → ℕ → List ℕ → List ℕ → Renumbered
compact_outcome kept primaries items out =
    renumbered_unless (renumber_refusal kept primaries items out) (compact_item kept primaries) items out

unfoldable pub crate_outcome : List ℕ → ℕ → List ℕ → List ℕ → Renumbered
crate_outcome kept primaries items out =
    renumbered_unless (renumber_refusal kept primaries items out) (crate_item kept primaries) items out
