-- The paper's numbers and values tell the answers apart: two answers that say the same are the same. Assumes nothing.
use Prim.Native.Nat.{ℕ, ◌-◌}
use native.Mathlib.Omega.{arith}
use mathlib.Core.Path.{◌≡◌, refl, sym, ap, ◌∙◌}
use mathlib.Core.Bool.{Bool, true, false, cond}
use mathlib.Core.List.{[], ◌∷◌}
use lib.ListN.{length, get_or}
use Rattle.rules.specs.declared.answer.Answer.{Answer}
use Rattle.rules.specs.declared.answer.Answer.TheVariants.{Reduced, Infeasible, Refused}
use Rattle.rules.specs.declared.answer.Cause.{Cause}
use Rattle.rules.specs.declared.answer.Cause.TheVariants.{Start, Redundant, Blocked}
use Rattle.rules.specs.declared.number.Item.{Item}
use Rattle.rules.specs.declared.refusal.Check.{Check}
use Rattle.rules.specs.declared.refusal.Check.TheVariants.{NoPrimary, TooManyItems, NoOption, TooManyOptions, Uneven, TooManyEntries}
use Rattle.rules.specs.declared.refusal.Check.TheVariants.{WrongEnd, ShortRoom, ShortResult, NoSuchItem, ColourTooHigh, ColouredPrimary, ItemTwice}
use Rattle.rules.specs.declared.refusal.Refusal.{Refusal}
use Rattle.rules.specs.Checks.{Refusal as PaperRefusal}
use Rattle.rules.specs.Refusals.{number_of, as_paper}
use Rattle.rules.specs.Paper.{Said, said_infeasible, said_refused, cause_number, paper}

-- Each number is that of one check, and of one cause

abbrev check_of : ℕ → Check
check_of n = get_or (NoPrimary ∷ TooManyItems ∷ NoOption ∷ TooManyOptions ∷ Uneven ∷ TooManyEntries ∷ WrongEnd ∷ ShortRoom ∷ ShortResult ∷ NoSuchItem ∷ ColourTooHigh
    ∷ ColouredPrimary ∷ ItemTwice ∷ []) (n - 10) NoPrimary

check-back : (c : Check) → check_of (number_of c) ≡ c
check-back NoPrimary = refl
check-back TooManyItems = refl
check-back NoOption = refl
check-back TooManyOptions = refl
check-back Uneven = refl
check-back TooManyEntries = refl
check-back WrongEnd = refl
check-back ShortRoom = refl
check-back ShortResult = refl
check-back NoSuchItem = refl
check-back ColourTooHigh = refl
check-back ColouredPrimary = refl
check-back ItemTwice = refl

pub check-one : (c d : Check) → number_of c ≡ number_of d → c ≡ d
check-one c d e = sym (check-back c) ∙ ap check_of e ∙ check-back d

abbrev cause_of : ℕ → Cause
cause_of n = get_or (Start ∷ Redundant ∷ Blocked ∷ []) (n - 1) Start

cause-back : (c : Cause) → cause_of (cause_number c) ≡ c
cause-back Start = refl
cause-back Redundant = refl
cause-back Blocked = refl

pub cause-one : (c d : Cause) → cause_number c ≡ cause_number d → c ≡ d
cause-one c d e = sym (cause-back c) ∙ ap cause_of e ∙ cause-back d

-- The cases

-- settled is 1 and not settled is 0
settled-one : (a b : Bool) → ◌≡◌ {A = ℕ} (cond a 1 0) (cond b 1 0) → a ≡ b
settled-one true true e = refl
settled-one true false e = absurd (omega arith)
settled-one false true e = absurd (omega arith)
settled-one false false e = refl

values : {x y : Said} → x ≡ y → x.values ≡ y.values
values e = ap (λ (z : Said). z.values) e

lengths : {x y : Said} → x ≡ y → length x.values ≡ length y.values
lengths e = ap (λ (z : Said). length z.values) e

item-one : (i k : Item) → i.0 ≡ k.0 → i ≡ k
item-one i k e = ap {B = Item} (λ (n : ℕ). record { 0 = n }) e

refused-same : {c d : Check} {p q : ℕ} → c ≡ d → p ≡ q → ◌≡◌ {A = Answer} (Refused (record { check = c; place = p })) (Refused (record { check = d; place = q }))
refused-same e f = cc

pub paper-one : (x y : Answer) → paper x ≡ paper y → x ≡ y
paper-one (Reduced a b c d r t) (Reduced a' b' c' d' r' t') e =
    let v = values e in
    let s : t ≡ t' = settled-one t t' (cc) in
    cc
paper-one (Reduced a b c d r t) (Infeasible i k l) e = let h = lengths e in absurd (omega arith)
paper-one (Reduced a b c d r t) (Refused n) e = let h = lengths e in absurd (omega arith)
paper-one (Infeasible i k l) (Reduced a b c d r t) e = let h = lengths e in absurd (omega arith)
paper-one (Infeasible i k l) (Infeasible i' k' l') e =
    let v = values e in
    let j : i ≡ i' = item-one i i' (cc) in
    let z : k ≡ k' = cause-one k k' (cc) in
    cc
paper-one (Infeasible i k l) (Refused n) e = let h = lengths e in absurd (omega arith)
paper-one (Refused n) (Reduced a b c d r t) e = let h = lengths e in absurd (omega arith)
paper-one (Refused n) (Infeasible i k l) e = let h = lengths e in absurd (omega arith)
paper-one (Refused r) (Refused q) e =
    let v = values e in
    let c = check-one r.check q.check (ap (λ (z : Said). z.number) e) in
    let p : r.place ≡ q.place = cc in
    refused-same c p

-- what says infeasible is infeasible
pub infeasible-one : (x : Answer) {item cause round : ℕ} → paper x ≡ said_infeasible item cause round
    → (i : Item) × (k : Cause) × (x ≡ Infeasible i k round) × (i.0 ≡ item) × (cause_number k ≡ cause)
infeasible-one (Reduced a b c d r t) e = let h = lengths e in absurd (omega arith)
infeasible-one (Infeasible i k l) e = let v = values e in (i, k, cc, cc, cc)
infeasible-one (Refused n) e = let h = lengths e in absurd (omega arith)

-- and what says refused is refused
abbrev refusal_said : Said → PaperRefusal
refusal_said s = record { number = s.number; place = get_or s.values 0 0 }

pub refused-one : (x : Answer) {r : PaperRefusal} → paper x ≡ said_refused r → (q : Refusal) × (x ≡ Refused q) × (as_paper q ≡ r)
refused-one (Reduced a b c d r t) e = let h = lengths e in absurd (omega arith)
refused-one (Infeasible i k l) e = let h = lengths e in absurd (omega arith)
refused-one (Refused q) e = (q, refl, ap refusal_said e)
