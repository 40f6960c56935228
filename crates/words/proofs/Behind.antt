-- The front of a list, written element by element from another list. Assumes nothing.
use Prim.Native.Nat.{ℕ, suc, ◌+◌, ◌<◌}
use native.Mathlib.Omega.{arith}
use mathlib.Core.Path.{◌≡◌, sym, ap, ◌∙◌}
use mathlib.Core.List.{List, [], ◌∷◌}
use lib.ListN.{length, get_or, take, set}
use lib.Seq.{take-suc, length-take-le}
use Rattle.rules.specs.Lists.{written}
use Rattle.theorems.proofs.Words.Written.{written_behind}

-- one element more
pub written_next : {A : Type 0} (new old : List A) (k : ℕ) (d : A) → k < length new → k < length old → set (written (take k new) old) k (get_or new k d) ≡ written (take (k + 1) new) old
written_next new old k d h w =
    let n = length-take-le k new (omega arith) in
    let e : suc k ≡ k + 1 = omega arith in
    ap (λ (j : ℕ). set (written (take k new) old) j (get_or new k d)) (sym n)
    ∙ written_behind (take k new) (get_or new k d ∷ []) old (omega arith)
    ∙ ap (λ (l : List _). written l old) (sym (take-suc new k d h) ∙ ap (λ (j : ℕ). take j new) e)
