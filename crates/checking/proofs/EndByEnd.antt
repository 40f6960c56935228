-- Check 16, end by end. When the options below k have passed, what is left of the check is the same check of the ends from k on.
-- Assumes nothing.
use Prim.Native.Nat.{ℕ, suc, ◌+◌, ◌-◌, ◌<◌, ◌≤◌}
use native.Mathlib.Omega.{arith}
use native.Mathlib.Numerals.{add-one}
use mathlib.Core.Path.{◌≡◌, refl, ◌∙◌}
use mathlib.Core.Bool.{Bool, true, false, not, ◌||◌, cond}
use mathlib.Core.List.{List, []}
use mathlib.Core.Option.{none, some}
use lib.Dec.{ltb, eqb}
use lib.ListN.{length, get_or, drop, drop_of_length-le}
use lib.Seq.{drop-cons}
use Rattle.rules.specs.Lists.{or_else}
use Rattle.rules.specs.Checks.{Refusal, refuse, refuse_at, bad_end, last_end, last_missed, check16}

-- The options below k have passed; `before` is the end of the last of them.
pub record Reached (E : ℕ) (ends : List ℕ) (k before : ℕ) : Type 0 where
  pub bad-is : bad_end E 0 0 ends ≡ bad_end E before k (drop k ends)
  pub end_is : last_end 0 ends ≡ last_end before (drop k ends)

module _ (E : ℕ) (ends : List ℕ) where
  pub ends-begin : Reached E ends 0 0
  ends-begin = record { bad-is = refl; end_is = refl }

  module _ (k before : ℕ) (R : Reached E ends k before) where
    -- the next end
    parted : k < length ends → bad_end E 0 0 ends ≡ cond (ltb (get_or ends k 0) before || ltb E (get_or ends k 0)) (some k) (bad_end E (get_or ends k 0) (suc k) (drop (suc k) ends))
    parted h = R.bad-is ∙ rw (drop-cons ends k 0 h)

    pub end-bad : k < length ends → (r : Refusal) → refuse 16 k (ltb (get_or ends k 0) before || ltb E (get_or ends k 0)) ≡ some r → check16 E ends ≡ some r
    unfolding check16
    end-bad h r e = rw (parted h) (go (ltb (get_or ends k 0) before || ltb E (get_or ends k 0)) e)
      where
        go : (b : Bool) → refuse 16 k b ≡ some r → refuse_at 16 (or_else (cond b (some k) (bad_end E (get_or ends k 0) (suc k) (drop (suc k) ends))) (last_missed E ends)) ≡ some r
        go true u = u
        go false u = let z : ◌≡◌ {A = ℕ} 0 1 = cc in absurd (omega arith)

    pub end-next : k < length ends → (ltb (get_or ends k 0) before || ltb E (get_or ends k 0)) ≡ false → Reached E ends (k + 1) (get_or ends k 0)
    end-next h e = rw (add-one k) (record { bad-is = parted h ∙ rw e; end_is = R.end_is ∙ rw (drop-cons ends k 0 h) })

    -- behind the last
    pub ends-done : length ends ≤ k → check16 E ends ≡ refuse 16 (length ends - 1) (not (eqb before E))
    unfolding check16
    ends-done h =
        let e : drop k ends ≡ [] = drop_of_length-le ends h in
        let bad : bad_end E 0 0 ends ≡ none = R.bad-is ∙ rw e in
        let last : last_end 0 ends ≡ before = R.end_is ∙ rw e in
        rw (bad, last) (go (eqb before E))
      where
        go : (b : Bool) → refuse_at 16 (cond b none (some (length ends - 1))) ≡ refuse 16 (length ends - 1) (not b)
        go true = refl
        go false = refl
