-- Checks 19 to 22, entry by entry. When the entries of an option below place j have passed, what is left of the check is the same check of the
-- entries from j on, and the items seen are those that have the option's mark. Assumes nothing.
use Prim.Native.Nat.{ℕ, zero, suc, ◌+◌, ◌<◌, ◌≤◌}
use native.Mathlib.Omega.{arith}
use native.Mathlib.Numerals.{add-one}
use mathlib.Core.Path.{◌≡◌, refl, sym, ◌∙◌}
use mathlib.Core.Logic.{◌⊎◌, inl, inr}
use mathlib.Core.Bool.{false, not, and-true, and-false}
use mathlib.Core.List.{List, [], ◌∷◌}
use mathlib.Core.Option.{Option, none, some}
use borrow.Author.Tests.{eq-eqb, ne_eqb, lt-ltb, le-ltb}
use lib.Dec.{T, eqb, leb, ltb, eqb→eq, ltb→lt}
use lib.ListN.{length, get_or, set}
use lib.Seq.{slice, slice_empty, get_or-set_same, get_or-set_other}
use Rattle.std.proofs.lemmas.Bool.Decides.{nat_tests}
use mir.Facts.{T_not-not}
use Rattle.rules.specs.Lists.{mem}
use Rattle.rules.specs.Problem.{Entry, entries_of}
use Rattle.rules.specs.Checks.{Refusal, refuse, check_entry, check_option}
use Rattle.theorems.proofs.Words.Tests.{T-dec, neqb→ne}
use Rattle.theorems.proofs.Words.Choices.{or_else-nothing, or_else-none}
use Rattle.theorems.proofs.Checks.Accept.{refuse-none}
use Rattle.checking.specs.Marks.{Seen, BelowMark}

abbrev entry : ℕ → ℕ → Entry
entry item colour = record { item = item; colour = colour }

-- the first entry of a part of the lists, and the others
entries-cons : (is cs : List ℕ) → length is ≡ length cs → (j b : ℕ) → j < b → b ≤ length is
    → slice j b (entries_of is cs) ≡ entry (get_or is j 0) (get_or cs j 0) ∷ slice (suc j) b (entries_of is cs)
entries-cons is cs e j zero h l = absurd (omega arith)
entries-cons [] cs e j (suc b) h l = absurd (omega arith)
entries-cons (i ∷ is) [] e j (suc b) h l = absurd (omega arith)
entries-cons (i ∷ is) (c ∷ cs) e zero (suc b) h l = refl
entries-cons (i ∷ is) (c ∷ cs) e (suc j) (suc b) h l = entries-cons is cs (omega arith) j b (omega arith) (omega arith)

-- The checks of one entry, as the program makes them
module _ (np n most i : ℕ) (seen : List ℕ) (item colour : ℕ) where
  abbrev told : Option Refusal
  told = check_entry np n most i seen (entry item colour)

  at-least : leb n item ≡ not (ltb item n)
  at-least = grind (arith, nat_tests)

  pub told-19 : (r : Refusal) → refuse 19 i (leb n item) ≡ some r → told ≡ some r
  unfolding check_entry
  told-19 r e = rw (← at-least, e)

  module _ (a : refuse 19 i (leb n item) ≡ none) where
    pub told-20 : (r : Refusal) → refuse 20 i (ltb most colour) ≡ some r → told ≡ some r
    unfolding check_entry
    told-20 r e = rw (← at-least, a, e)

    pub told-21 : 0 < colour → refuse 20 i (ltb most colour) ≡ none → (r : Refusal) → refuse 21 i (ltb item np) ≡ some r → told ≡ some r
    unfolding check_entry
    told-21 h b r e = rw (← at-least, a, b, lt-ltb 0 colour h, and-true (ltb item np), e)

    -- with a colour, behind 20 and 21
    pub told-coloured : 0 < colour → refuse 20 i (ltb most colour) ≡ none → refuse 21 i (ltb item np) ≡ none → told ≡ refuse 22 i (mem item seen)
    unfolding check_entry
    told-coloured h b e = rw (← at-least, a, b, lt-ltb 0 colour h, and-true (ltb item np), e) (or_else-nothing (refuse 22 i (mem item seen)))

    -- without one neither refuses
    pub told-plain : colour ≤ 0 → told ≡ refuse 22 i (mem item seen)
    unfolding check_entry
    told-plain h = rw (← at-least, a, le-ltb most colour (omega arith), le-ltb 0 colour h, and-false (ltb item np)) (or_else-nothing (refuse 22 i (mem item seen)))

-- an item that passes is one of the n
pub item-below : (np n most i : ℕ) (seen : List ℕ) (item colour : ℕ) → check_entry np n most i seen (entry item colour) ≡ none → item < n
unfolding check_entry
item-below np n most i seen item colour e =
    ltb→lt item n (T_not-not (ltb item n) (refuse-none 19 i (not (ltb item n)) (or_else-none (refuse 19 i (not (ltb item n))) _ e).0))

-- Marks: no item has a mark that is above all, and an item that is marked is one seen.
pub none-marked : (mark : ℕ) (marks : List ℕ) → BelowMark mark marks → Seen mark marks []
none-marked mark marks B i = sym (ne_eqb (get_or marks i 0) mark (λ e. let b = B i in absurd (omega arith)))

module _ (mark item : ℕ) (marks : List ℕ) (h : item < length marks) where
  at_set : (i : ℕ) → T (eqb i item) ⊎ T (not (eqb i item)) → ((i ≡ item) × (get_or (set marks item mark) i 0 ≡ mark))
      ⊎ ((eqb i item ≡ false) × (get_or (set marks item mark) i 0 ≡ get_or marks i 0))
  at_set i (inl t) = let e = eqb→eq i item t in inl (e, rw e (get_or-set_same marks item mark 0 h))
  at_set i (inr t) = let n = neqb→ne i item t in inr (ne_eqb i item n, get_or-set_other marks item i mark 0 n)

  pub now-marked : (seen : List ℕ) → Seen mark marks seen → Seen mark (set marks item mark) (item ∷ seen)
  now-marked seen M i = go (at_set i (T-dec (eqb i item)))
    where
      go : ((i ≡ item) × (get_or (set marks item mark) i 0 ≡ mark)) ⊎ ((eqb i item ≡ false) × (get_or (set marks item mark) i 0 ≡ get_or marks i 0))
          → mem i (item ∷ seen) ≡ eqb (get_or (set marks item mark) i 0) mark
      go (inl w) = rw (w.1, eq-eqb i item w.0, eq-eqb mark mark refl)
      go (inr w) = rw (w.1, w.0) (M i)

  pub still-below : BelowMark (mark + 1) marks → BelowMark (mark + 1) (set marks item mark)
  still-below B i = go (at_set i (T-dec (eqb i item)))
    where
      go : ((i ≡ item) × (get_or (set marks item mark) i 0 ≡ mark)) ⊎ ((eqb i item ≡ false) × (get_or (set marks item mark) i 0 ≡ get_or marks i 0))
          → get_or (set marks item mark) i 0 < mark + 1
      go (inl w) = let e = w.1 in omega arith
      go (inr w) = let e = w.1 in let b = B i in omega arith

-- The entries at a .. j have passed.
pub record Through (np n most a b mark : ℕ) (items colours marks : List ℕ) (j : ℕ) : Type 0 where
  pub low : a ≤ j
  pub high : j ≤ b
  pub below : BelowMark (mark + 1) marks
  pub seen : List ℕ
  pub marked : Seen mark marks seen
  pub same : check_option np n most a [] (slice a b (entries_of items colours)) ≡ check_option np n most j seen (slice j b (entries_of items colours))

module _ (np n most a b mark : ℕ) (items colours : List ℕ) where
  pub option-begin : (marks : List ℕ) → a ≤ b → BelowMark mark marks → Through np n most a b mark items colours marks a
  option-begin marks h B =
      record { low = omega arith; high = h; below = λ i. let l = B i in omega arith; seen = []; marked = none-marked mark marks B; same = refl }

  module _ (marks : List ℕ) (j : ℕ) (R : Through np n most a b mark items colours marks j) where
    -- behind the last entry
    pub option-passed : b ≤ j → check_option np n most a [] (slice a b (entries_of items colours)) ≡ none
    option-passed h = let e : b ≡ j = let l = R.high in omega arith in R.same ∙ rw (e, slice_empty j (entries_of items colours))

    module _ (alike : length items ≡ length colours) (h : j < b) (l : b ≤ length items) where
      pub option-refused : (r : Refusal) → check_entry np n most j R.seen (entry (get_or items j 0) (get_or colours j 0)) ≡ some r
          → check_option np n most a [] (slice a b (entries_of items colours)) ≡ some r
      option-refused r e = R.same ∙ rw (entries-cons items colours alike j b h l, e)

      pub option-next : n ≤ length marks → check_entry np n most j R.seen (entry (get_or items j 0) (get_or colours j 0)) ≡ none
          → Through np n most a b mark items colours (set marks (get_or items j 0) mark) (j + 1)
      option-next m e =
          let i = item-below np n most j R.seen (get_or items j 0) (get_or colours j 0) e in
          rw (add-one j) (record {
            low = let k = R.low in omega arith;
            high = omega arith;
            below = still-below mark (get_or items j 0) marks (omega arith) R.below;
            seen = get_or items j 0 ∷ R.seen;
            marked = now-marked mark (get_or items j 0) marks (omega arith) R.seen R.marked;
            same = R.same ∙ rw (entries-cons items colours alike j b h l, e);
          })
