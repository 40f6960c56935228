-- The front of a list, written piece by piece: more is stored right behind what has been written. Assumes nothing.
use Prim.Native.Nat.{ℕ, ◌+◌, ◌≤◌}
use native.Mathlib.Omega.{arith}
use mathlib.Core.Path.{◌≡◌, sym, ap, ◌∙◌}
use mathlib.Core.List.{List, ◌++◌}
use lib.ListN.{length, drop, length-append, length-drop}
use lib.Seq.{sets, sets-eq, take-append_seam, drop-append-add, drop-drop}
use Rattle.rules.specs.Lists.{written}

module _ {A : Type 0} where
  pub written-length : (xs old : List A) → length xs ≤ length old → length (written xs old) ≡ length old
  written-length xs old h = let a = length-append xs (drop (length xs) old) in let b = length-drop (length xs) old in omega arith

  pub written_behind : (xs ys old : List A) → length xs + length ys ≤ length old → sets (written xs old) (length xs) ys ≡ written (xs ++ ys) old
  written_behind xs ys old h =
      let w = written-length xs old (omega arith) in
      sets-eq ys (written xs old) (length xs) (omega arith)
      ∙ ap (λ (l : List A). l ++ ys ++ drop (length xs + length ys) (written xs old)) (take-append_seam xs (drop (length xs) old))
      ∙ ap (λ (l : List A). (xs ++ ys) ++ l)
      (drop-append-add xs (drop (length xs) old) (length ys) ∙ drop-drop (length ys) (length xs) old ∙ ap (λ (k : ℕ). drop k old) (sym (length-append xs ys)))
