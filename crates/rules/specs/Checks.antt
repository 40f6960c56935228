-- Checks 10 to 22 with their places, in their order, over any lists of numbers and any figures. Document 01, "What comes
-- back". Assumes nothing.
use Rattle.std.specs.Prelude.{ℕ, suc, ◌+◌, ◌-◌, Bool, true, false, not, ◌&&◌, ◌||◌, cond, List, [], ◌∷◌, ◌++◌, ltb, eqb, length}
use Rattle.std.proofs.Math.Option.{Option, none, some}
use Rattle.rules.specs.Lists.{or_else, first_of, mem}
use Rattle.rules.specs.Problem.{Entry, Figures, entries_of, cut}
use Rattle.rules.specs.Rooms.{Room, Results, Handed}

pub record Refusal : Type 0 where
  pub number : ℕ
  pub place : ℕ

-- the refusal, if the test says so
abbrev pub refuse : ℕ → ℕ → Bool → Option Refusal
refuse number place true = some (record { number = number; place = place })
refuse number place false = none

-- 16: the first option whose end is below the one before it (0 before the first) or above E; else, if the last end isn't E,
-- the last option. k is the number of the first option of the list.
abbrev pub bad_end : ℕ → ℕ → ℕ → List ℕ → Option ℕ
bad_end E before k [] = none
bad_end E before k (b ∷ ends) = let r = bad_end E b (suc k) ends in cond (ltb b before || ltb E b) (some k) r

abbrev pub last_end : ℕ → List ℕ → ℕ
last_end before [] = before
last_end before (b ∷ ends) = last_end b ends

abbrev pub last_missed : ℕ → List ℕ → Option ℕ
last_missed E ends = cond (eqb (last_end 0 ends) E) none (some (length ends - 1))

abbrev pub refuse_at : ℕ → Option ℕ → Option Refusal
refuse_at number none = none
refuse_at number (some place) = some (record { number = number; place = place })

unfoldable pub check16 : ℕ → List ℕ → Option Refusal
check16 E ends = refuse_at 16 (or_else (bad_end E 0 0 ends) (last_missed E ends))

-- 17: four lists of at least n + 2 + E + M numbers and one of at least n + 1
unfoldable pub short_room : ℕ → ℕ → ℕ → Room → Bool
short_room n E M r =
    let size = n + 2 + E + M in
    ltb (length r.heads) size || ltb (length r.up) size || ltb (length r.down) size || ltb (length r.tints) size
    || ltb (length r.marks) (n + 1)

-- 18: n for kept items, M for ends, M for option numbers, E for items, E for colours
unfoldable pub short_results : ℕ → ℕ → ℕ → Results → Bool
short_results n E M r =
    ltb (length r.kept) n || ltb (length r.ends) M || ltb (length r.numbers) M || ltb (length r.items) E
    || ltb (length r.colours) E

-- 19 to 22, of the entry e at place i, where seen holds the items of the entries before it in its option
unfoldable pub check_entry : ℕ → ℕ → ℕ → ℕ → List ℕ → Entry → Option Refusal
check_entry np n colour i seen e =
    first_of (refuse 19 i (not (ltb e.item n))
    ∷ refuse 20 i (ltb colour e.colour)
    ∷ refuse 21 i (ltb e.item np && ltb 0 e.colour)
    ∷ refuse 22 i (mem e.item seen)
    ∷ [])

-- entry by entry, within an option
abbrev pub check_option : ℕ → ℕ → ℕ → ℕ → List ℕ → List Entry → Option Refusal
check_option np n colour i seen [] = none
check_option np n colour i seen (e ∷ o) =
    let r = check_option np n colour (suc i) (e.item ∷ seen) o in
    or_else (check_entry np n colour i seen e) r

-- and option by option, where i is the place of the first entry
abbrev pub check_options : ℕ → ℕ → ℕ → ℕ → List (List Entry) → Option Refusal
check_options np n colour i [] = none
check_options np n colour i (o ∷ os) =
    let r = check_options np n colour (i + length o) os in
    or_else (check_option np n colour i [] o) r

-- 10 to 15, of the counts: np and ns items, M options, E entries; `differ` says that item and colour lists differ in length
abbrev pub size_checks : Figures → ℕ → ℕ → ℕ → ℕ → Bool → List (Option Refusal)
size_checks f np ns M E differ =
    refuse 10 0 (eqb np 0)
    ∷ refuse 11 0 (ltb f.items (np + ns))
    ∷ refuse 12 0 (eqb M 0)
    ∷ refuse 13 0 (ltb f.options M)
    ∷ refuse 14 0 differ
    ∷ refuse 15 0 (ltb f.entries E)
    ∷ []

-- The whole table, in its order. What is handed in as bytes may be ragged; lists of numbers never are.
unfoldable pub refusal_of : Figures → Bool → Handed → Option Refusal
refusal_of f ragged h =
    let n = h.np + h.ns in
    let M = length h.ends in
    let E = length h.items in
    first_of (size_checks f h.np h.ns M E (ragged || not (eqb E (length h.colours)))
    ++ (check16 E h.ends
    ∷ refuse 17 0 (short_room n E M h.room)
    ∷ refuse 18 0 (short_results n E M h.results)
    ∷ check_options h.np n f.colour 0 (cut 0 h.ends (entries_of h.items h.colours))
    ∷ []))
