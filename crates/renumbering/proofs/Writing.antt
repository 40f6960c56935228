-- The numbers of the items, written one by one, each by its item's place in the kept list. Assumes nothing.
use Prim.Native.Nat.{ℕ, ◌+◌, ◌*◌, ◌≤◌, ◌<◌}
use native.Mathlib.Omega.{arith}
use mathlib.Core.Path.{◌≡◌, sym, ap, subst, ◌∙◌}
use mathlib.Core.Bool.{true}
use mathlib.Core.List.{List, map}
use lib.Dec.{T}
use lib.ListN.{length, get_or, take, length-map}
use lib.Seq.{sets}
use Rattle.std.specs.Prelude.{Option as Optional, Some}
use Rattle.std.proofs.lemmas.List.{get_or-map}
use Rattle.rules.specs.Lists.{each, mem, rising, place, written}
use Rattle.words.proofs.Storing.{cells_next}
use Rattle.renumbering.specs.Parts.{as_option, place_below, AllKept}
use Rattle.renumbering.proofs.Halving.{found-present, place-small, some-one}

-- room for all is room for the next
pub room_next : (width k n m : ℕ) → k < n → width * n ≤ m → width * k + width ≤ m
room_next width k n m h w = grind arith

-- one number more
pub mapped_next : {A : Type 0} (width : ℕ) (cells : ℕ → List A) → ((n : ℕ) → length (cells n) ≡ width) → (f : ℕ → ℕ) (items : List ℕ) (old out : List A) (k n : ℕ)
    → k < length items → width * k + width ≤ length old
    → n ≡ f (get_or items k 0) → out ≡ written (each cells (take k (map f items))) old → sets out (width * k) (cells n) ≡ written (each cells (take (k + 1) (map f items))) old
mapped_next width cells fills f items old out k n h w e o =
    ap (λ (l : List _). sets l (width * k) (cells n)) o
    ∙ ap (λ (m : ℕ). sets (written (each cells (take k (map f items))) old) (width * k) (cells m)) (e ∙ sym (get_or-map f items k 0 0 h))
    ∙ cells_next width cells fills (map f items) old k (omega (arith, length-map items f)) w

-- The item x at place k, as the number i, and where the search finds it.
module _ {A : Type 0} (v : A → ℕ) (kept items : List A) (r : rising (map v kept) ≡ true) (all : AllKept (map v kept) (map v items)) (k : ℕ) (h : k < length items)
    (x : A) (at : x ≡ get_or items k x) (i : ℕ)
    (e : i ≡ v x) where
  pub item-at : i ≡ get_or (map v items) k 0
  item-at = e ∙ ap v at ∙ sym (get_or-map v items k x 0 h)

  pub item-kept : T (mem i (map v kept))
  item-kept = subst (λ (j : ℕ). T (mem j (map v kept))) (sym item-at) (all k (omega (arith, length-map items v)))

  module _ (o : Optional ℕ) (f : as_option o ≡ place_below (place (map v kept) i) (length kept)) where
    pub item-found : o ≡ Some (place (map v kept) i)
    item-found = found-present (map v kept) i (length kept) o (sym (length-map kept v)) f item-kept

    module _ (p : ℕ) (u : o ≡ Some p) where
      pub item-place : p ≡ place (map v kept) i
      item-place = some-one (sym u ∙ item-found)

      pub item-place-small : p ≤ i
      item-place-small = omega (arith, place-small (map v kept) r i item-kept, item-place)
