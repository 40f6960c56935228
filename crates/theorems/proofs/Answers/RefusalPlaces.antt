-- The refusals of document 01's table: which numbers there are, and how far their places go. Assumes nothing.
use Prim.Native.Nat.{ℕ, suc, ◌+◌, ◌-◌, ◌≤◌, ◌<◌}
use native.Mathlib.Omega.{arith}
use mathlib.Core.Path.{◌≡◌, refl, ap, subst}
use mathlib.Core.Bool.{Bool, true, false, not, ◌&&◌, ◌||◌, cond}
use mathlib.Core.List.{List, [], ◌∷◌, ◌++◌}
use mathlib.Core.Option.{Option, none, some}
use lib.Dec.{T, ltb, eqb, eqb→eq, nltb→le, T_not}
use lib.ListN.{length, length-append}
use Rattle.rules.specs.Lists.{or_else, each, mem}
use Rattle.rules.specs.Problem.{Entry, Figures, entries_of, cut}
use Rattle.rules.specs.Rooms.{Handed}
use Rattle.rules.specs.Checks.{Refusal, refuse, refuse_at, bad_end, last_end, last_missed, check16, short_room, short_results, check_entry, check_option, check_options, refusal_of}
use Rattle.theorems.proofs.Words.Tests.{T-nor, neqb→ne, T-stable}
use Rattle.theorems.proofs.Checks.Cutting.{length-entries_of, cut-whole}
use Rattle.theorems.proofs.Checks.Accept.{refuse-none}

-- One refusal of several

module _ (P : Refusal → Type 0) where
  refuse-has : (number place : ℕ) (b : Bool) → P (record { number = number; place = place }) → (r : Refusal) → refuse number place b ≡ some r → P r
  refuse-has number place true p r e = let q : record { number = number; place = place } ≡ r = cc in subst P q p
  refuse-has number place false p r e = let z : ◌≡◌ {A = ℕ} 0 1 = cc in absurd (omega arith)

  refuse-at : (number : ℕ) (o : Option ℕ) → ((place : ℕ) → o ≡ some place → P (record { number = number; place = place })) → (r : Refusal) → refuse_at number o ≡ some r → P r
  refuse-at number none p r e = let z : ◌≡◌ {A = ℕ} 0 1 = cc in absurd (omega arith)
  refuse-at number (some place) p r e = let q : record { number = number; place = place } ≡ r = cc in subst P q (p place refl)

  -- the first of two; the second is given only if the first is not
  either-has : (x y : Option Refusal) → ((r : Refusal) → x ≡ some r → P r) → (x ≡ none → (r : Refusal) → y ≡ some r → P r) → (r : Refusal) → or_else x y ≡ some r → P r
  either-has none y p q r e = q refl r e
  either-has (some x) y p q r e = p r e

-- Check 16: the place is that of an option

bad-end-place : (E before k : ℕ) (ends : List ℕ) {j : ℕ} → bad_end E before k ends ≡ some j → j < k + length ends
bad-end-place E before k [] {j} e = let z : ◌≡◌ {A = ℕ} 0 1 = cc in absurd (omega arith)
bad-end-place E before k (b ∷ ends) {j} e = go (ltb b before || ltb E b) e (λ u. bad-end-place E b (suc k) ends u)
  where
    go : (bad : Bool) → cond bad (some k) (bad_end E b (suc k) ends) ≡ some j → (bad_end E b (suc k) ends ≡ some j → j < suc k + length ends) → j < k + suc (length ends)
    go true e r = let q : k ≡ j = cc in omega arith
    go false e r = let h = r e in omega arith

end-place : (E : ℕ) (ends : List ℕ) → 0 < length ends → {j : ℕ} → or_else (bad_end E 0 0 ends) (last_missed E ends) ≡ some j → j < length ends
end-place E ends h {j} e = go (bad_end E 0 0 ends) refl e
  where
    last : (b : Bool) → cond b none (some (length ends - 1)) ≡ some j → j < length ends
    last true e = let z : ◌≡◌ {A = ℕ} 0 1 = cc in absurd (omega arith)
    last false e = let q : length ends - 1 ≡ j = cc in omega arith

    go : (o : Option ℕ) → bad_end E 0 0 ends ≡ o → or_else o (last_missed E ends) ≡ some j → j < length ends
    go none k e = last (eqb (last_end 0 ends) E) e
    go (some i) k e = let l = bad-end-place E 0 0 ends k in let q : i ≡ j = cc in omega arith

-- Checks 19 to 22: the place is that of an entry before k

record EntryRefused (k : ℕ) (r : Refusal) : Type 0 where
  least : 19 ≤ r.number
  most : r.number ≤ 22
  before : r.place < k

further : {k l : ℕ} {r : Refusal} → k ≤ l → EntryRefused k r → EntryRefused l r
further h R = record { least = R.least; most = R.most; before = let b = R.before in omega arith }

module _ (np n colour : ℕ) where
  entry_place : (i : ℕ) (seen : List ℕ) (e : Entry) (r : Refusal) → check_entry np n colour i seen e ≡ some r → EntryRefused (suc i) r
  unfolding check_entry
  entry_place i seen e =
      either-has (EntryRefused (suc i)) (refuse 19 i (not (ltb e.item n))) _ (given 19 (omega arith) (omega arith) (not (ltb e.item n))) λ a.
      either-has (EntryRefused (suc i)) (refuse 20 i (ltb colour e.colour)) _ (given 20 (omega arith) (omega arith) (ltb colour e.colour)) λ b.
      either-has (EntryRefused (suc i)) (refuse 21 i (ltb e.item np && ltb 0 e.colour)) _ (given 21 (omega arith) (omega arith) (ltb e.item np && ltb 0 e.colour)) λ d.
      either-has (EntryRefused (suc i)) (refuse 22 i (mem e.item seen)) _ (given 22 (omega arith) (omega arith) (mem e.item seen)) λ g r h.
      let z : ◌≡◌ {A = ℕ} 0 1 = cc in
      absurd (omega arith)
    where
      given : (number : ℕ) → 19 ≤ number → number ≤ 22 → (b : Bool) (r : Refusal) → refuse number i b ≡ some r → EntryRefused (suc i) r
      given number l m b = refuse-has (EntryRefused (suc i)) number i b (record { least = l; most = m; before = omega arith })

  option-place : (i : ℕ) (seen : List ℕ) (o : List Entry) (r : Refusal) → check_option np n colour i seen o ≡ some r → EntryRefused (i + length o) r
  option-place i seen [] r h = let z : ◌≡◌ {A = ℕ} 0 1 = cc in absurd (omega arith)
  option-place i seen (e ∷ o) r h =
      either-has (EntryRefused (i + suc (length o))) (check_entry np n colour i seen e) (check_option np n colour (suc i) (e.item ∷ seen) o)
      (λ r k. further (omega arith) (entry_place i seen e r k))
      (λ g r k. further (omega arith) (option-place (suc i) (e.item ∷ seen) o r k))
      r h

  options-place : (i : ℕ) (os : List (List Entry)) (r : Refusal) → check_options np n colour i os ≡ some r → EntryRefused (i + length (each (λ o. o) os)) r
  options-place i [] r h = let z : ◌≡◌ {A = ℕ} 0 1 = cc in absurd (omega arith)
  options-place i (o ∷ os) r h =
      let a = length-append o (each (λ o. o) os) in
      either-has (EntryRefused (i + length (o ++ each (λ o. o) os))) (check_option np n colour i [] o) (check_options np n colour (i + length o) os)
      (λ r k. further (omega arith) (option-place i [] o r k))
      (λ g r k. further (omega arith) (options-place (i + length o) os r k))
      r h

-- The whole table

-- a refusal's number, and its place
pub data Tabled (f : Figures) (h : Handed) : ℕ → ℕ → Type 0 where
  -- 10 to 15: place 0
  of-sizes : {number : ℕ} → 10 ≤ number → number ≤ 15 → Tabled f h number 0
  -- 16: one of the options, which are no more than the figure
  of-ends : {place : ℕ} → place < length h.ends → length h.ends ≤ f.options → Tabled f h 16 place
  -- 17 and 18: place 0
  of_room : {number : ℕ} → 17 ≤ number → number ≤ 18 → Tabled f h number 0
  -- 19 to 22: one of the entries, which are no more than the figure
  of-entries : {number place : ℕ} → 19 ≤ number → number ≤ 22 → place < length h.items → length h.items ≤ f.entries → Tabled f h number place

module _ (f : Figures) (h : Handed) where
  abbrev InTable : Refusal → Type 0
  InTable r = Tabled f h r.number r.place

  -- a check of sizes or of room, and what comes behind it
  size-check : (number : ℕ) → 10 ≤ number → number ≤ 15 → (b : Bool) (rest : Option Refusal) → (T (not b) → (r : Refusal) → rest ≡ some r → InTable r)
      → (r : Refusal) → or_else (refuse number 0 b) rest ≡ some r → InTable r
  size-check number l m b rest k =
      either-has InTable (refuse number 0 b) rest (refuse-has InTable number 0 b (of-sizes l m)) (λ e. k (refuse-none number 0 b e))

  room-check : (number : ℕ) → 17 ≤ number → number ≤ 18 → (b : Bool) (rest : Option Refusal) → ((r : Refusal) → rest ≡ some r → InTable r)
      → (r : Refusal) → or_else (refuse number 0 b) rest ≡ some r → InTable r
  room-check number l m b rest k = either-has InTable (refuse number 0 b) rest (refuse-has InTable number 0 b (of_room l m)) (λ e. k)

  -- check 16, where there are options, and no more than the figure
  ends-check : 0 < length h.ends → length h.ends ≤ f.options → (r : Refusal) → check16 (length h.items) h.ends ≡ some r → InTable r
  unfolding check16
  ends-check some-option options =
      refuse-at InTable 16 (or_else (bad_end (length h.items) 0 0 h.ends) (last_missed (length h.items) h.ends))
      (λ place e. of-ends (end-place (length h.items) h.ends some-option e) options)

  -- checks 19 to 22, where the ends cut up all the entries, and these are no more than the figure
  entries-check : length h.items ≡ length h.colours → length h.items ≤ f.entries → check16 (length h.items) h.ends ≡ none
      → (r : Refusal) → check_options h.np (h.np + h.ns) f.colour 0 (cut 0 h.ends (entries_of h.items h.colours)) ≡ some r → InTable r
  entries-check lengths entries ends r e =
      let es = entries_of h.items h.colours in
      let many = length-entries_of h.items h.colours lengths in
      let whole = ap (λ (l : List Entry). length l) (cut-whole h.ends es (rw many ends)) in
      let R = options-place h.np (h.np + h.ns) f.colour 0 (cut 0 h.ends es) r e in
      let before = R.before in
      let inside : r.place < length h.items = omega arith in
      of-entries R.least R.most inside entries

pub tabled : (f : Figures) (ragged : Bool) (h : Handed) (r : Refusal) → refusal_of f ragged h ≡ some r → Tabled f h r.number r.place
unfolding refusal_of
tabled f ragged h =
    let n = h.np + h.ns in
    let M = length h.ends in
    let E = length h.items in
    size-check f h 10 (omega arith) (omega arith) (eqb h.np 0) _ λ a.
    size-check f h 11 (omega arith) (omega arith) (ltb f.items n) _ λ b.
    size-check f h 12 (omega arith) (omega arith) (eqb M 0) _ λ some-option.
    size-check f h 13 (omega arith) (omega arith) (ltb f.options M) _ λ options.
    size-check f h 14 (omega arith) (omega arith) (ragged || not (eqb E (length h.colours))) _ λ lengths.
    size-check f h 15 (omega arith) (omega arith) (ltb f.entries E) _ λ entries.
    either-has (InTable f h) (check16 E h.ends) _ (ends-check f h (above_zero M some-option) (nltb→le f.options M options)) λ ends.
    room-check f h 17 (omega arith) (omega arith) (short_room n E M h.room) _
    (room-check f h 18 (omega arith) (omega arith) (short_results n E M h.results) _
    (either-has (InTable f h) (check_options h.np n f.colour 0 (cut 0 h.ends (entries_of h.items h.colours))) _
    (entries-check f h (same-lengths (T-nor ragged (not (eqb E (length h.colours))) lengths).1) (nltb→le f.entries E entries) ends)
    (λ g r e. let z : ◌≡◌ {A = ℕ} 0 1 = cc in absurd (omega arith))))
  where
    above_zero : (k : ℕ) → T (not (eqb k 0)) → 0 < k
    above_zero k t = let ne = neqb→ne k 0 t in omega arith

    same-lengths : T (not (not (eqb (length h.items) (length h.colours)))) → length h.items ≡ length h.colours
    same-lengths t =
        let b = eqb (length h.items) (length h.colours) in
        eqb→eq (length h.items) (length h.colours) (T-stable b (T_not (not b) t))
