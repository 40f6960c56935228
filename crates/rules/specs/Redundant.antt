-- Redundant items. Document 01, "The rounds", Redundant. Assumes nothing.
use Rattle.std.specs.Prelude.{ℕ, Bool, true, not, ◌&&◌, ◌||◌, cond, List, [], map, ltb, eqb, length}
use Rattle.std.proofs.Math.Option.{Option}
use Rattle.rules.specs.Lists.{all, keep, each, up_to, last_that, greatest}
use Rattle.rules.specs.Problem.{Entry}
use Rattle.rules.specs.State.{State, Step, went, unless, option_at, is, holds, holds_uncoloured, in_live, around, first_emptied}

-- Item c is redundant for primary item p (not c, in some live option) if every live option holding p holds c uncoloured.
unfoldable pub redundant_for : ℕ → State → ℕ → ℕ → Bool
redundant_for np s c p = ltb p np && not (eqb p c) && in_live p s && all (λ o. not (holds p o) || holds_uncoloured c o) s

-- Of several p, take the one whose highest live option number is highest; ..
abbrev pub candidates : ℕ → State → ℕ → List ℕ
candidates np s c = keep (redundant_for np s c) (up_to np)

abbrev pub holders : State → ℕ → List ℕ
holders s p = keep (λ k. holds p (option_at s k)) (up_to (length s))

unfoldable pub highest : State → ℕ → ℕ
highest s p = greatest (holders s p)

-- .. among equals, the last one met going round that option cyclically from the entry after c.
unfoldable pub chosen : ℕ → State → ℕ → Option ℕ
chosen np s c =
    let top = greatest (map (highest s) (candidates np s c)) in
    last_that (λ p. redundant_for np s c p && eqb (highest s p) top) (around c (option_at s top))

-- Go through live options holding c: one that holds p loses c; any other is deleted, ..
abbrev pub without_item : ℕ → List Entry → List Entry
without_item c o = keep (λ e. not (is c e)) o

unfoldable pub shortened : ℕ → ℕ → List Entry → List Entry
shortened c p o = cond (holds c o) (cond (holds p o) (without_item c o) []) o

abbrev pub state_without : ℕ → ℕ → State → State
state_without c p s = map (shortened c p) s

-- .. lowest first, its other entries leaving in cyclic order from the entry after c.
unfoldable pub leaving_with : ℕ → ℕ → State → List ℕ
leaving_with c p s = each (λ o. cond (holds c o && not (holds p o)) (around c o) []) s

-- The first primary item other than c left in no option: infeasible, cause 2. Then c is gone.
unfoldable pub remove_item : ℕ → ℕ → ℕ → State → Step
remove_item np c p s =
    let s' = state_without c p s in
    unless (first_emptied (λ q. ltb q np && not (eqb q c)) s' (leaving_with c p s)) 2 (went s' true)
