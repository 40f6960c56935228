-- Writing the front of a list, one element after another. Assumes nothing.
use Prim.Native.Nat.{ℕ, ◌+◌, ◌-◌, ◌<◌, ◌≤◌}
use native.Mathlib.Omega.{arith}
use mathlib.Core.Path.{◌≡◌, refl, ◌∙◌, ap, sym, subst}
use mathlib.Core.List.{List, [], ◌∷◌, ◌++◌, append_assoc, append-nil}
use lib.ListN.{length, take, drop, set, length-append, length-drop}
use lib.Seq.{take-append_seam, drop-drop, drop-length}
use Rattle.std.proofs.lemmas.List.{drop_at, take_rest}
use Rattle.rules.specs.Lists.{written}
use Rattle.theorems.proofs.Words.Written.{written-length, written_behind}
use Rattle.result.specs.Filled.{Filled}

module _ (old xs list : List ℕ) (at : ℕ) (f : Filled old xs list at) where
  -- where the place is in the list, there is room for one more
  filled-room : at < length list → length xs < length old
  filled-room h =
      let e = ap length f.list-is in
      let a = length-append xs (drop (length xs) old) in
      let b = length-drop (length xs) old in
      omega (arith, f.at-is, e, a, b)

  pub filled_more : (v : ℕ) → at < length list → Filled old (xs ++ (v ∷ [])) (set list at v) (at + 1)
  filled_more v h = record {
    list-is = ap (λ (l : List ℕ). set l at v) f.list-is ∙ ap (λ (k : ℕ). set (written xs old) k v) f.at-is ∙ written_behind xs (v ∷ []) old (omega (arith, filled-room h));
    at-is = let e = length-append xs (v ∷ []) in omega (arith, f.at-is, e);
  }

  pub filled-length : length xs ≤ length old → length list ≡ length old
  filled-length h = ap length f.list-is ∙ written-length xs old h

-- the front, and then the front of the rest, as a slice of its own
pub filled_then : (old : List ℕ) {xs ys list rest : List ℕ} {p q : ℕ} → Filled old xs list p → Filled (take (length list - p) (drop p list)) ys rest q
    → take p list ++ (rest ++ drop (length list - p) (drop p list)) ≡ written (xs ++ ys) old
filled_then old {xs} {ys} {list} {rest} {p} {q} f g =
    ap (λ (l : List ℕ). take p list ++ (rest ++ l)) none
    ∙ ap (λ (l : List ℕ). take p list ++ l)
    (append-nil rest ∙ g.list-is ∙ ap (λ (l : List ℕ). ys ++ drop (length ys) l) (take_rest list p ∙ behind) ∙ ap (λ (l : List ℕ). ys ++ l) (drop-drop (length ys) (length xs) old))
    ∙ ap (λ (l : List ℕ). l ++ (ys ++ drop (length xs + length ys) old)) front
    ∙ sym (append_assoc xs ys (drop (length xs + length ys) old))
    ∙ ap (λ (k : ℕ). (xs ++ ys) ++ drop k old) (sym (length-append xs ys))
  where
    front : take p list ≡ xs
    front = ap (λ (k : ℕ). take k list) f.at-is ∙ ap (take (length xs)) f.list-is ∙ take-append_seam xs (drop (length xs) old)

    behind : drop p list ≡ drop (length xs) old
    behind = ap (λ (k : ℕ). drop k list) f.at-is ∙ ap (drop (length xs)) f.list-is ∙ drop_at xs (drop (length xs) old) (length xs) refl

    none : drop (length list - p) (drop p list) ≡ []
    none =
        let a = length-append xs (drop (length xs) old) in
        let e : p + (length list - p) ≡ length list = omega (arith, a, ap length f.list-is, f.at-is) in
        drop-drop (length list - p) p list ∙ ap (λ (k : ℕ). drop k list) e ∙ drop-length list

-- the same elements, said otherwise
pub filled-same : (old : List ℕ) {xs ys : List ℕ} (list : List ℕ) (at : ℕ) → xs ≡ ys → Filled old xs list at → Filled old ys list at
filled-same old list at e f = subst (λ (l : List ℕ). Filled old l list at) e f

-- nothing has been written
pub filled_none : (old : List ℕ) → Filled old [] old 0
filled_none old = record { list-is = refl; at-is = refl }
