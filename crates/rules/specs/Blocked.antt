-- Blocked options. Document 01, "The rounds", Blocked. Assumes nothing.
use Rattle.std.specs.Prelude.{ℕ, Bool, not, ◌&&◌, ◌||◌, cond, List, [], ◌∷◌, ◌++◌, map, reverse, ltb, eqb}
use Rattle.rules.specs.Lists.{any, all, each, up_to}
use Rattle.rules.specs.Problem.{Entry}
use Rattle.rules.specs.State.{State, Step, went, unless, is, is_uncoloured, holds, holds_uncoloured, begins, in_live, items_of, first_emptied}

-- the two colours are one equal colour above 0
abbrev pub agree : ℕ → ℕ → Bool
agree x y = ltb 0 x && eqb x y

-- v holds the item of e, and the two colours do not agree
abbrev pub clashes : Entry → List Entry → Bool
clashes e v = any (λ f. is e.item f && not (agree e.colour f.colour)) v

-- Option v is a rival of o if v holds c uncoloured, or holds some other item of o and the two colours do not agree.
unfoldable pub rival : ℕ → List Entry → List Entry → Bool
rival c o v = holds_uncoloured c v || any (λ e. not (is c e) && clashes e v) o

-- Primary item q blocks o: it is not in o, but in some live option, and has only rivals of o as its live options.
unfoldable pub blocks : State → ℕ → List Entry → ℕ → Bool
blocks s c o q = not (holds q o) && in_live q s && all (λ v. not (holds q v) || rival c o v) s

-- o is blocked if some primary item does so
unfoldable pub blocked : ℕ → State → ℕ → List Entry → Bool
blocked np s c o = any (blocks s c o) (up_to np)

-- Test each live option whose first live entry is c, uncoloured. All tests for c see the same state.
unfoldable pub condemned : ℕ → State → ℕ → List Entry → Bool
condemned np s c o = begins (is_uncoloured c) o && blocked np s c o

-- Then the blocked ones are deleted, ..
abbrev pub state_spared : ℕ → State → ℕ → State
state_spared np s c = map (λ o. cond (condemned np s c o) [] o) s

-- .. highest number first, entries leaving cyclically from the second live one, the first last.
abbrev pub second_to_first : List Entry → List ℕ
second_to_first [] = []
second_to_first (e ∷ o) = items_of o ++ (e.item ∷ [])

unfoldable pub leaving_blocked : ℕ → State → ℕ → List ℕ
leaving_blocked np s c = each (λ o. cond (condemned np s c o) (second_to_first o) []) (reverse s)

-- The first primary item left in no option: infeasible, cause 3.
unfoldable pub delete_blocked : ℕ → ℕ → State → Step
delete_blocked np c s =
    let s' = state_spared np s c in
    unless (first_emptied (λ q. ltb q np) s' (leaving_blocked np s c)) 3 (went s' (any (condemned np s c) s))
