-- Cause 3 names the item in hand: only options that begin with c uncoloured are deleted as blocked, and if these were all the live options
-- of another primary item, c would be redundant for it. Assumes nothing.
use Prim.Native.Nat.{ℕ}
use native.Mathlib.Omega.{arith}
use mathlib.Core.Path.{◌≡◌, sym, ◌∙◌}
use mathlib.Core.Logic.{◌⊎◌, inl, inr}
use mathlib.Core.Bool.{not}
use mathlib.Core.List.{List, Memᴰ as In}
use mathlib.Core.Option.{none, some}
use lib.Dec.{T, T_not}
use Rattle.rules.specs.Problem.{Entry}
use Rattle.rules.specs.State.{State, Step, emptied, holds, holds_uncoloured, in_live}
use Rattle.rules.specs.Redundant.{redundant_for, chosen}
use Rattle.rules.specs.Blocked.{condemned, state_spared}
use Rattle.rules.specs.Promises.{CauseThreeNames}
use Rattle.theorems.proofs.Words.Tests.{T-dec, eq-stable}
use Rattle.theorems.proofs.Steps.Redundancy.{redundant←, chosen_none}
use Rattle.theorems.proofs.Steps.Blocking.{condemned-holds, live-spared, emptied-blocked, emptied_blocked}
use Rattle.theorems.proofs.Steps.ItemStep.{Goes, removal, removal-empties, deletion, deletion-empties, goes}

blocked-names : (np c q : ℕ) (s : State) → chosen np s c ≡ none → emptied_blocked np c s ≡ some q → q ≡ c
blocked-names np c q s h e = eq-stable q c (λ ne.
    let w = emptied-blocked np s c e in
    T_not (redundant_for np s c q) (chosen_none np s c h q)
    (redundant← np s c q (record { primary = w.0; other = ne; live = w.1; only = λ o m u. only o m u (T-dec (condemned np s c o)) })))
  where
    only : (o : List Entry) → In o s → T (holds q o) → T (condemned np s c o) ⊎ T (not (condemned np s c o)) → T (holds_uncoloured c o)
    only o m t (inl u) = condemned-holds np s c o u
    only o m t (inr u) = absurd (T_not (in_live q (state_spared np s c)) (emptied-blocked np s c e).2 (live-spared np s c q m t u))

pub cause-three : CauseThreeNames
cause-three np c q s = go (goes np c s)
  where
    go : {x : Step} → Goes np c s x → x ≡ emptied q 3 → q ≡ c
    go (removal h f) e = let z : ◌≡◌ {A = ℕ} 0 1 = cc in absurd (omega arith)
    go (removal-empties h f) e = let z : ◌≡◌ {A = ℕ} 2 3 = cc in absurd (omega arith)
    go (deletion h f) e = let z : ◌≡◌ {A = ℕ} 0 1 = cc in absurd (omega arith)
    go (deletion-empties {q = r} h f) e = let z : r ≡ q = cc in sym z ∙ blocked-names np c r s h f
