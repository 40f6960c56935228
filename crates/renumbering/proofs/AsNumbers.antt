-- The call over byte lists comes to what the call over lists comes to, read as numbers: where no list is ragged, the refusal and the
-- numbers of the outcome list are those of the compact renumbering of the numbers. Assumes nothing.
use Prim.Native.Nat.{ℕ, ◌<◌}
use native.Mathlib.Omega.{arith}
use mathlib.Core.Path.{◌≡◌, refl, sym, ap, ◌∙◌, subst}
use mathlib.Core.Bool.{false, ◌||◌}
use mathlib.Core.List.{List, map, Memᴰ as In}
use mathlib.Core.Option.{Option, none, some}
use lib.Dec.{T}
use Rattle.rules.specs.Bounds.{word_bound}
use Rattle.rules.specs.Lists.{mem}
use Rattle.rules.specs.Checks.{Refusal}
use Rattle.rules.specs.Renumber.{Renumbered, renumber_refusal, compact_item, compact_outcome}
use Rattle.theorems.proofs.Words.Lists.{In-map, In-get_or}
use Rattle.words.specs.Bytes.{numbers_of, bytes_of, ragged}
use Rattle.words.proofs.Numbers.{Below, below_each, numbers-small, numbers-written}
use Rattle.renumbering.specs.Bytes.{written_unless, compact_bytes_outcome}
use Rattle.renumbering.specs.Parts.{Renumberable, AllKept}
use Rattle.renumbering.proofs.Halving.{place-small}
use Rattle.renumbering.proofs.Refusing.{accepted, whole-refused}
use Rattle.renumbering.proofs.Calls.{as-renumbered}

-- an outcome with its list read as numbers
abbrev pub in_numbers : Renumbered → Renumbered
in_numbers o = record { refusal = o.refusal; out = numbers_of o.out }

-- the places fit, since none is above its item
places-fit : (kept : List ℕ) (primaries : ℕ) (items : List ℕ) → Renumberable kept primaries → AllKept kept items → Below word_bound items
    → Below word_bound (map (compact_item kept primaries) items)
places-fit kept primaries items s all small = below_each word_bound (map (compact_item kept primaries) items) (omega arith) each_fits
  where
    each_fits : (x : ℕ) → In x (map (compact_item kept primaries) items) → x < word_bound
    each_fits x m =
        let w = In-map (compact_item kept primaries) items m in
        let v = In-get_or items 0 w.1 in
        let le = place-small kept s.rises w.0 (subst (λ (i : ℕ). T (mem i kept)) v.2 (all v.0 v.1)) in
        omega (arith, small v.0, v.2, w.2)

module _ (kept : List ℕ) (primaries : ℕ) (items out : List ℕ) where
  pub bytes-as-numbers : (ragged kept || ragged items || ragged out) ≡ false → Below 256 items
      → in_numbers (compact_bytes_outcome kept primaries items out) ≡ compact_outcome (numbers_of kept) primaries (numbers_of items) (numbers_of out)
  unfolding compact_bytes_outcome compact_outcome
  bytes-as-numbers e b =
      ap (λ (x : Option Refusal). in_numbers (written_unless x (bytes_of new) out)) (sym (whole-refused kept primaries items out e))
      ∙ go found refl
      ∙ as-renumbered found (compact_item (numbers_of kept) primaries) (numbers_of items) (numbers_of out)
    where
      new : List ℕ
      new = map (compact_item (numbers_of kept) primaries) (numbers_of items)

      found : Option Refusal
      found = renumber_refusal (numbers_of kept) primaries (numbers_of items) (numbers_of out)

      go : (x : Option Refusal) → found ≡ x → in_numbers (written_unless x (bytes_of new) out) ≡ written_unless x new (numbers_of out)
      go (some r) f = refl
      go none f =
          let a = accepted (numbers_of kept) primaries (numbers_of items) (numbers_of out) f in
          let fit = places-fit (numbers_of kept) primaries (numbers_of items) a.0 a.1 (numbers-small items b) in
          ap (λ (l : List ℕ). record { refusal = none; out = l }) (numbers-written new out fit)
