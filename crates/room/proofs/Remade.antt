-- A list of which the front is made anew, element by element. Assumes nothing.
use Prim.Native.Nat.{ℕ, suc, ◌+◌, ◌<◌}
use native.Mathlib.Omega.{arith}
use mathlib.Core.Path.{◌≡◌, ◌∙◌, ap, sym}
use mathlib.Core.List.{List, [], ◌∷◌, map, map-append}
use lib.ListN.{length, get_or, take, set, length-map}
use lib.Seq.{take-suc, length-take-le}
use Rattle.rules.specs.Lists.{written}
use Rattle.theorems.proofs.Words.Written.{written_behind}

module _ {A : Type 0} where
  -- a list of which the front is made anew, element by element
  pub remade : (f : A → A) (l : List A) (i : ℕ) (d : A) → i < length l → set (written (map f (take i l)) l) i (f (get_or l i d)) ≡ written (map f (take (i + 1) l)) l
  remade f l i d h =
      let n : length (map f (take i l)) ≡ i = length-map (take i l) f ∙ length-take-le i l (omega arith) in
      let e : suc i ≡ i + 1 = omega arith in
      ap (λ (k : ℕ). set (written (map f (take i l)) l) k (f (get_or l i d))) (sym n)
      ∙ written_behind (map f (take i l)) (f (get_or l i d) ∷ []) l (omega arith)
      ∙ ap (λ (r : List A). written r l) (sym (map-append f (take i l) (get_or l i d ∷ [])) ∙ ap (map f) (sym (take-suc l i d h)) ∙ ap (λ (k : ℕ). map f (take k l)) e)
