-- Which primary column the nodes taken out emptied last: of two lists, and of one node more. Assumes nothing.
use Prim.Native.Nat.{ℕ, ◌-◌}
use mathlib.Core.Path.{◌≡◌, refl, ◌∙◌, ap}
use mathlib.Core.Bool.{cond, ◌&&◌}
use mathlib.Core.List.{List, [], ◌∷◌, ◌++◌}
use lib.Dec.{eqb, leb}
use lib.IntN.{ℤ}
use Rattle.links.specs.Head.{item_of, head}
use Rattle.links.specs.Plan.{Plan}
use Rattle.links.specs.Ground.{Ground, cut_one, taken, Holds}
use Rattle.links.specs.Taking.{empties_at, last_out}
use Rattle.links.proofs.Taken.{taken-plan}

pub last_out-append : (g : Ground) (np : ℕ) (xs ys : List ℕ) (z : ℕ) → last_out g np (xs ++ ys) z ≡ last_out (taken g xs) np ys (last_out g np xs z)
last_out-append g np [] ys z = refl
last_out-append g np (x ∷ xs) ys z = last_out-append (cut_one g x) np xs ys (cond (empties_at g np x) (g.plan.col x) z)

-- by the column's new length, as the code reads it
pub last_out-more : (g : Ground) (xs : List ℕ) (x : ℕ) {heads : List ℤ} {up down : List ℕ} → Holds (taken g xs) heads up down → (np z : ℕ)
    → last_out g np (xs ++ (x ∷ [])) z ≡ cond (eqb (item_of (head heads (g.plan.col x)) - 1) 0 && leb (g.plan.col x) np) (g.plan.col x) (last_out g np xs z)
last_out-more g xs x k np z =
    rw k.heads-are
    (last_out-append g np xs (x ∷ []) z
    ∙ ap (λ (P : Plan). cond (eqb (item_of (head (taken g xs).heads (P.col x)) - 1) 0 && leb (P.col x) np) (P.col x) (last_out g np xs z)) (taken-plan g xs))
