-- The live options, and what they hold. Document 01, "The rounds". Assumes nothing.
--
-- A state lists, for each option number, the live entries of that option in given order; an option that is skipped or deleted
-- has none.
use Rattle.std.specs.Prelude.{ℕ, Bool, false, not, ◌&&◌, cond, List, [], ◌∷◌, ◌++◌, map, ltb, eqb, get_or}
use Rattle.std.proofs.Math.Option.{Option, none, some}
use Rattle.rules.specs.Lists.{any, mem}
use Rattle.rules.specs.Problem.{Entry}

abbrev pub State : Type 0
State = List (List Entry)

-- the live entries of option k
abbrev pub option_at : State → ℕ → List Entry
option_at s k = get_or s k []

-- the entry is one of item c; is one, and uncoloured
abbrev pub is : ℕ → Entry → Bool
is c e = eqb e.item c

abbrev pub is_uncoloured : ℕ → Entry → Bool
is_uncoloured c e = is c e && eqb e.colour 0

-- the option holds item c; holds it uncoloured; holds some primary item
abbrev pub holds : ℕ → List Entry → Bool
holds c o = any (is c) o

abbrev pub holds_uncoloured : ℕ → List Entry → Bool
holds_uncoloured c o = any (is_uncoloured c) o

abbrev pub holds_primary : ℕ → List Entry → Bool
holds_primary np o = any (λ e. ltb e.item np) o

-- its first live entry passes the test
abbrev pub begins : (Entry → Bool) → List Entry → Bool
begins f [] = false
begins f (e ∷ o) = f e

-- item c is in some live option
abbrev pub in_live : ℕ → State → Bool
in_live c s = any (holds c) s

-- the entries after the one of item c, and those before it
abbrev pub entries_after : ℕ → List Entry → List Entry
entries_after c [] = []
entries_after c (e ∷ o) = let r = entries_after c o in cond (is c e) o r

abbrev pub entries_before : ℕ → List Entry → List Entry
entries_before c [] = []
entries_before c (e ∷ o) = let r = entries_before c o in cond (is c e) [] (e ∷ r)

abbrev pub items_of : List Entry → List ℕ
items_of o = map (λ e. e.item) o

-- the items of the other entries, going round the option cyclically from the entry after c
unfoldable pub around : ℕ → List Entry → List ℕ
around c o = items_of (entries_after c o ++ entries_before c o)

-- Entries leave one after another, their items in the order of the list, and s is what stays. When an entry leaves, its item is
-- left in no option if s does not hold it and no later entry that has yet to leave is one of it. The first such item, of those
-- in question:
abbrev pub first_emptied : (ℕ → Bool) → State → List ℕ → Option ℕ
first_emptied which s [] = none
first_emptied which s (q ∷ qs) =
    let r = first_emptied which s qs in
    cond (which q && not (mem q qs) && not (in_live q s)) (some q) r

-- What an item's step comes to: a state, and whether an item or an option was removed; or a primary item that is left in no
-- option, with the cause.
pub data Step : Type 0 where
  went : State → Bool → Step
  emptied : ℕ → ℕ → Step

-- the step, unless an item was emptied
abbrev pub unless : Option ℕ → ℕ → Step → Step
unless none cause t = t
unless (some q) cause t = emptied q cause
