-- The desk's call never gives 17: its room is large enough for every problem that the checks before 17 leave. Document 01, "This face has working
-- room of its own and never gives 17". Assumes nothing.
use Prim.Native.Nat.{ℕ, suc, ◌+◌}
use native.Mathlib.Omega.{arith}
use mathlib.Core.Path.{◌≡◌, refl}
use mathlib.Core.Logic.{◌≢◌}
use mathlib.Core.Bool.{Bool, true, false, not, ◌&&◌, ◌||◌}
use mathlib.Core.List.{List, [], ◌∷◌}
use mathlib.Core.Option.{Option, none, some}
use lib.Dec.{T, ltb, eqb, nltb→le}
use lib.ListN.{length}
use Rattle.rules.specs.Lists.{or_else, mem}
use Rattle.rules.specs.Problem.{Entry, desk_figures, entries_of, cut}
use Rattle.rules.specs.Rooms.{Results}
use Rattle.rules.specs.Checks.{Refusal, refuse, refuse_at, bad_end, last_missed, check16, short_room, short_results, check_entry, check_option, check_options, refusal_of}
use Rattle.theorems.proofs.Checks.Accept.{refuse-none}
use Rattle.engine.specs.Call.{handed}
use Rattle.desk_call.specs.Desk.{desk_room}
use Rattle.desk_call.proofs.Thinning.{room-enough}

-- no refusal, or another one
abbrev pub Not17 : Option Refusal → Type 0
Not17 none = Unit {0}
Not17 (some r) = r.number ≢ 17

-- the first of two; the second is given only if the first is not
either-not : (x y : Option Refusal) → Not17 x → (x ≡ none → Not17 y) → Not17 (or_else x y)
either-not none y p q = q refl
either-not (some r) y p q = p

refuse-not : (number place : ℕ) (b : Bool) → number ≢ 17 → Not17 (refuse number place b)
refuse-not number place true n = n
refuse-not number place false n = tt

-- a check of another number, and what comes behind it
check-not : (number place : ℕ) (b : Bool) (y : Option Refusal) → number ≢ 17 → (refuse number place b ≡ none → Not17 y) → Not17 (or_else (refuse number place b) y)
check-not number place b y n k = either-not (refuse number place b) y (refuse-not number place b n) k

refuse-at-not : (number : ℕ) (o : Option ℕ) → number ≢ 17 → Not17 (refuse_at number o)
refuse-at-not number none n = tt
refuse-at-not number (some place) n = n

passed-not : (place : ℕ) (b : Bool) → T (not b) → Not17 (refuse 17 place b)
passed-not place true t = absurd t
passed-not place false t = tt

-- checks 19 to 22
module _ (np n colour : ℕ) where
  entry-not : (i : ℕ) (seen : List ℕ) (e : Entry) → Not17 (check_entry np n colour i seen e)
  unfolding check_entry
  entry-not i seen e =
      check-not 19 i (not (ltb e.item n)) _ (λ u. absurd (omega arith)) λ a.
      check-not 20 i (ltb colour e.colour) _ (λ u. absurd (omega arith)) λ b.
      check-not 21 i (ltb e.item np && ltb 0 e.colour) _ (λ u. absurd (omega arith)) λ c.
      check-not 22 i (mem e.item seen) none (λ u. absurd (omega arith)) λ d. tt

  option-not : (i : ℕ) (seen : List ℕ) (o : List Entry) → Not17 (check_option np n colour i seen o)
  option-not i seen [] = tt
  option-not i seen (e ∷ o) = either-not (check_entry np n colour i seen e) _ (entry-not i seen e) (λ a. option-not (suc i) (e.item ∷ seen) o)

  options-not : (i : ℕ) (os : List (List Entry)) → Not17 (check_options np n colour i os)
  options-not i [] = tt
  options-not i (o ∷ os) = either-not (check_option np n colour i [] o) _ (option-not i [] o) (λ a. options-not (i + length o) os)

ends-not : (E : ℕ) (ends : List ℕ) → Not17 (check16 E ends)
unfolding check16
ends-not E ends = refuse-at-not 16 (or_else (bad_end E 0 0 ends) (last_missed E ends)) (λ u. absurd (omega arith))

pub never-seventeen : (ragged : Bool) (np ns cap : ℕ) (items colours ends : List ℕ) (results : Results)
    → Not17 (refusal_of desk_figures ragged (handed np ns cap items colours ends desk_room results))
unfolding refusal_of
never-seventeen ragged np ns cap items colours ends results =
    let n = np + ns in
    let M = length ends in
    let E = length items in
    check-not 10 0 (eqb np 0) _ (λ u. absurd (omega arith)) λ a.
    check-not 11 0 (ltb desk_figures.items n) _ (λ u. absurd (omega arith)) λ items-few.
    check-not 12 0 (eqb M 0) _ (λ u. absurd (omega arith)) λ b.
    check-not 13 0 (ltb desk_figures.options M) _ (λ u. absurd (omega arith)) λ options-few.
    check-not 14 0 (ragged || not (eqb E (length colours))) _ (λ u. absurd (omega arith)) λ c.
    check-not 15 0 (ltb desk_figures.entries E) _ (λ u. absurd (omega arith)) λ entries-few.
    either-not (check16 E ends) _ (ends-not E ends) λ d.
    either-not (refuse 17 0 (short_room n E M desk_room)) _
    (passed-not 0 (short_room n E M desk_room)
    (room-enough n E M
    (nltb→le desk_figures.items n (refuse-none 11 0 (ltb desk_figures.items n) items-few))
    (nltb→le desk_figures.entries E (refuse-none 15 0 (ltb desk_figures.entries E) entries-few))
    (nltb→le desk_figures.options M (refuse-none 13 0 (ltb desk_figures.options M) options-few)))) λ e.
    check-not 18 0 (short_results n E M results) _ (λ u. absurd (omega arith)) λ f.
    let options = cut 0 ends (entries_of items colours) in
    either-not (check_options np n desk_figures.colour 0 options) none (options-not np n desk_figures.colour 0 options) λ g. tt
