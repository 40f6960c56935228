-- Lengths of columns, when nodes are taken out: the order does not matter, so that the node taken first may come back first. Assumes nothing.
use Prim.Native.Nat.{ℕ, ◌+◌}
use mathlib.Core.Path.{◌≡◌, subst}
use mathlib.Core.List.{List, Memᴰ as In}
use lib.ListN.{set}
use lib.IntN.{pos}
use Rattle.links.specs.Head.{item_of, head, Growing}
use Rattle.links.specs.Plan.{Plan}
use Rattle.links.specs.Ground.{Ground, Tidy, Within, cut_one, taken, Fresh}
use Rattle.links.proofs.Determined.{heads_first-last}
use Rattle.links.proofs.Taken.{taken-plan, taken-tidy, within-taken}
use Rattle.links.proofs.Grounds.{back-heads, cut-growing}

-- x, taken first of all, comes back: what the code asks, and the heads without the others only.
module _ (g : Ground) (t : Tidy g) (x : ℕ) (w : Within g x) (xs : List ℕ) (f : Fresh g xs) (n : In x xs → ⊥) where
  h-tidy : Tidy (taken g xs)
  h-tidy = taken-tidy g xs t f

  h-within : Within (taken g xs) x
  h-within = within-taken g xs t f w n

  pub more-asks : Growing (taken (cut_one g x) xs).heads (g.plan.col x)
  more-asks =
      rw (heads_first-last g x xs)
      (subst (λ (P : Plan). Growing (cut_one (taken g xs) x).heads (P.col x)) (taken-plan g xs) (cut-growing (taken g xs) h-tidy x h-within))

  pub more-back : set (taken (cut_one g x) xs).heads (g.plan.col x) (pos (item_of (head (taken (cut_one g x) xs).heads (g.plan.col x)) + 1)) ≡ (taken g xs).heads
  more-back =
      rw (heads_first-last g x xs)
      (subst (λ (P : Plan). set (cut_one (taken g xs) x).heads (P.col x) (pos (item_of (head (cut_one (taken g xs) x).heads (P.col x)) + 1)) ≡ (taken g xs).heads)
      (taken-plan g xs) (back-heads (taken g xs) h-tidy x h-within))
