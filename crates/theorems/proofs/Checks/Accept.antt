-- What the checks leave: a problem that no check refuses is accepted, and the entries of an accepted problem pass the checks.
-- Assumes nothing.
use Prim.Native.Nat.{ℕ, suc, ◌+◌, ◌≤◌, ◌<◌}
use native.Mathlib.Omega.{arith}
use mathlib.Core.Path.{◌≡◌, refl, sym}
use mathlib.Core.Bool.{Bool, true, false, not, ◌&&◌, ◌||◌}
use mathlib.Core.List.Memᴰ
use mathlib.Core.List.Memᴰ.{head as here}
use mathlib.Core.List.Memᴰ.{not-nil}
use mathlib.Core.List.Memᴰ.{tail as next}
use mathlib.Core.List.{List, [], ◌∷◌, Memᴰ as In}
use mathlib.Core.Option.{none, some-ne-none}
use lib.Dec.{T, ltb, eqb, eqb→eq, ltb→lt, lt→ltb, nltb→le, not_T}
use lib.ListN.{length}
use mir.Facts.{T_not-not}
use borrow.Author.Tests.{lt-ltb, le-ltb, eq-eqb, ne_eqb}
use Rattle.rules.specs.Lists.{mem}
use Rattle.rules.specs.Problem.{Entry, Problem, Figures, entries_of, cut, problem_of}
use Rattle.rules.specs.Rooms.{Handed}
use Rattle.rules.specs.Checks.{refuse, check16, short_room, short_results, check_entry, check_option, check_options, refusal_of}
use Rattle.rules.specs.State.{items_of}
use Rattle.rules.specs.Promises.{distinct, AcceptedEntry, Accepted, ChecksAccept}
use Rattle.theorems.proofs.Words.Tests.{T_false, T_and, T-nor, T-nand, neqb→ne, ne→neqb, nor-T}
use Rattle.theorems.proofs.Words.Lists.{map-In, In-map}
use Rattle.theorems.proofs.Words.Choices.{or_else-none, none-or_else}
use Rattle.theorems.proofs.Words.Distinct.{distinct→, distinct←}
use Rattle.theorems.proofs.Checks.Cutting.{length-entries_of, length_cut, cut-whole}

pub refuse-none : (number place : ℕ) (b : Bool) → refuse number place b ≡ none → T (not b)
refuse-none number place true e = absurd (some-ne-none _ e)
refuse-none number place false e = tt

-- Checks 19 to 22

-- What they leave of an option, behind entries of the items seen.
pub record Passes (np n colour : ℕ) (seen : List ℕ) (o : List Entry) : Type 0 where
  pub entry : (e : Entry) → In e o → AcceptedEntry np n colour e
  pub fresh : (e : Entry) → In e o → T (not (mem e.item seen))
  pub once : T (distinct (items_of o))

module _ (np n colour : ℕ) where
  entry→ : (i : ℕ) (seen : List ℕ) (e : Entry) → check_entry np n colour i seen e ≡ none → AcceptedEntry np n colour e × T (not (mem e.item seen))
  unfolding check_entry
  entry→ i seen e h =
      let a = or_else-none (refuse 19 i (not (ltb e.item n))) _ h in
      let b = or_else-none (refuse 20 i (ltb colour e.colour)) _ a.1 in
      let c = or_else-none (refuse 21 i (ltb e.item np && ltb 0 e.colour)) _ b.1 in
      let d = or_else-none (refuse 22 i (mem e.item seen)) _ c.1 in
      let plain = refuse-none 21 i (ltb e.item np && ltb 0 e.colour) c.0 in (
        record {
          below = ltb→lt e.item n (T_not-not (ltb e.item n) (refuse-none 19 i (not (ltb e.item n)) a.0));
          colour-below = nltb→le colour e.colour (refuse-none 20 i (ltb colour e.colour) b.0);
          primary-plain = λ lt. let z = nltb→le 0 e.colour (T-nand (ltb e.item np) (ltb 0 e.colour) plain (lt→ltb e.item np lt)) in omega arith;
        },
        refuse-none 22 i (mem e.item seen) d.0,
      )

  entry← : (i : ℕ) (seen : List ℕ) (e : Entry) → AcceptedEntry np n colour e → T (not (mem e.item seen)) → check_entry np n colour i seen e ≡ none
  unfolding check_entry
  entry← i seen e A t =
      rw (lt-ltb e.item n A.below, le-ltb colour e.colour A.colour-below, plain, T_false (mem e.item seen) t)
    where
      plain : (ltb e.item np && ltb 0 e.colour) ≡ false
      plain =
          T_false (ltb e.item np && ltb 0 e.colour)
          (not_T (ltb e.item np && ltb 0 e.colour) (λ u.
          let w = T_and (ltb e.item np) (ltb 0 e.colour) u in
          let z = A.primary-plain (ltb→lt e.item np w.0) in
          let p = ltb→lt 0 e.colour w.1 in
          absurd (omega arith)))

  option→ : (i : ℕ) (seen : List ℕ) (o : List Entry) → check_option np n colour i seen o ≡ none → Passes np n colour seen o
  option→ i seen [] h = record { entry = λ e m. absurd (not-nil m); fresh = λ e m. absurd (not-nil m); once = tt }
  option→ i seen (e ∷ o) h =
      let w = or_else-none (check_entry np n colour i seen e) (check_option np n colour (suc i) (e.item ∷ seen) o) h in
      go (entry→ i seen e w.0) (option→ (suc i) (e.item ∷ seen) o w.1)
    where
      go : AcceptedEntry np n colour e × T (not (mem e.item seen)) → Passes np n colour (e.item ∷ seen) o → Passes np n colour seen (e ∷ o)
      go w P =
          record {
            entry = entry;
            fresh = fresh;
            once = distinct← e.item (items_of o) (λ m. let v = In-map (λ (d : Entry). d.item) o m in neqb→ne v.0.item e.item (later v.0 v.1).0 (sym v.2)) P.once;
          }
        where
          later : (d : Entry) → In d o → T (not (eqb d.item e.item)) × T (not (mem d.item seen))
          later d m = T-nor (eqb d.item e.item) (mem d.item seen) (P.fresh d m)

          entry : (d : Entry) → In d (e ∷ o) → AcceptedEntry np n colour d
          entry d (here k) = rw k w.0
          entry d (next m) = P.entry d m

          fresh : (d : Entry) → In d (e ∷ o) → T (not (mem d.item seen))
          fresh d (here k) = rw k w.1
          fresh d (next m) = (later d m).1

  option← : (i : ℕ) (seen : List ℕ) (o : List Entry) → Passes np n colour seen o → check_option np n colour i seen o ≡ none
  option← i seen [] P = refl
  option← i seen (e ∷ o) P =
      none-or_else (check_entry np n colour i seen e) (check_option np n colour (suc i) (e.item ∷ seen) o)
      (entry← i seen e (P.entry e (here refl)) (P.fresh e (here refl)))
      (option← (suc i) (e.item ∷ seen) o
      (record {
        entry = λ d m. P.entry d (next m);
        fresh = λ d m. nor-T (eqb d.item e.item) (mem d.item seen) (ne→neqb d.item e.item (λ k. own.0 (Memᴰ.cast (sym k) (map-In (λ (d : Entry). d.item) o m)))) (P.fresh d (next m));
        once = own.1;
      }))
    where
      own : (In e.item (items_of o) → ⊥) × T (distinct (items_of o))
      own = distinct→ e.item (items_of o) P.once

  pub options→ : (i : ℕ) (os : List (List Entry)) → check_options np n colour i os ≡ none → (o : List Entry) → In o os → Passes np n colour [] o
  options→ i [] h o x'' = elim x'' [ ]
  options→ i (x ∷ os) h o (here k) = rw k (option→ i [] x (or_else-none (check_option np n colour i [] x) (check_options np n colour (i + length x) os) h).0)
  options→ i (x ∷ os) h o (next m) = options→ (i + length x) os (or_else-none (check_option np n colour i [] x) (check_options np n colour (i + length x) os) h).1 o m

  pub options← : (i : ℕ) (os : List (List Entry)) → ((o : List Entry) → In o os → Passes np n colour [] o) → check_options np n colour i os ≡ none
  options← i [] h = refl
  options← i (o ∷ os) h =
      none-or_else (check_option np n colour i [] o) (check_options np n colour (i + length o) os)
      (option← i [] o (h o (here refl)))
      (options← (i + length o) os (λ x m. h x (next m)))

-- The entries of an accepted problem pass, whatever place is said to be the first.
pub accepts-from : (f : Figures) (a : Problem) → Accepted f a → (i : ℕ) → check_options a.np a.n f.colour i a.options ≡ none
accepts-from f a A i =
    options← a.np a.n f.colour i a.options (λ o m. record { entry = A.entry o m; fresh = λ e k. tt; once = A.once o m })

pub accepts : (f : Figures) (a : Problem) → Accepted f a → check_options a.np a.n f.colour 0 a.options ≡ none
accepts f a A = accepts-from f a A 0

-- The whole table

-- What the checks leave of what is handed in.
pub record ChecksPassed (f : Figures) (h : Handed) : Type 0 where
  pub some-primary : 0 < h.np
  pub items : h.np + h.ns ≤ f.items
  pub some-option : 0 < length h.ends
  pub options : length h.ends ≤ f.options
  pub lengths : length h.items ≡ length h.colours
  pub entries : length h.items ≤ f.entries
  pub ends : check16 (length h.items) h.ends ≡ none
  pub room : T (not (short_room (h.np + h.ns) (length h.items) (length h.ends) h.room))
  pub results : T (not (short_results (h.np + h.ns) (length h.items) (length h.ends) h.results))
  pub checked : check_options h.np (h.np + h.ns) f.colour 0 (cut 0 h.ends (entries_of h.items h.colours)) ≡ none

-- a number that is not 0
above_zero : (n : ℕ) → T (not (eqb n 0)) → 0 < n
above_zero n t = let ne = neqb→ne n 0 t in omega arith

pub passed : (f : Figures) (ragged : Bool) (h : Handed) → refusal_of f ragged h ≡ none → ChecksPassed f h
unfolding refusal_of
passed f ragged h e =
    let n = h.np + h.ns in
    let M = length h.ends in
    let E = length h.items in
    let a = or_else-none (refuse 10 0 (eqb h.np 0)) _ e in
    let b = or_else-none (refuse 11 0 (ltb f.items n)) _ a.1 in
    let c = or_else-none (refuse 12 0 (eqb M 0)) _ b.1 in
    let d = or_else-none (refuse 13 0 (ltb f.options M)) _ c.1 in
    let i = or_else-none (refuse 14 0 (ragged || not (eqb E (length h.colours)))) _ d.1 in
    let whole = refuse-none 14 0 (ragged || not (eqb E (length h.colours))) i.0 in
    let j = or_else-none (refuse 15 0 (ltb f.entries E)) _ i.1 in
    let k = or_else-none (check16 E h.ends) _ j.1 in
    let l = or_else-none (refuse 17 0 (short_room n E M h.room)) _ k.1 in
    let m = or_else-none (refuse 18 0 (short_results n E M h.results)) _ l.1 in
    let o = or_else-none (check_options h.np n f.colour 0 (cut 0 h.ends (entries_of h.items h.colours))) _ m.1 in
    record {
      some-primary = above_zero h.np (refuse-none 10 0 (eqb h.np 0) a.0);
      items = nltb→le f.items n (refuse-none 11 0 (ltb f.items n) b.0);
      some-option = above_zero M (refuse-none 12 0 (eqb M 0) c.0);
      options = nltb→le f.options M (refuse-none 13 0 (ltb f.options M) d.0);
      lengths = eqb→eq E (length h.colours) (T_not-not (eqb E (length h.colours)) (T-nor ragged (not (eqb E (length h.colours))) whole).1);
      entries = nltb→le f.entries E (refuse-none 15 0 (ltb f.entries E) j.0);
      ends = k.0;
      room = refuse-none 17 0 (short_room n E M h.room) l.0;
      results = refuse-none 18 0 (short_results n E M h.results) m.0;
      checked = o.0;
    }

-- and nothing else is asked for
pub not-refused : (f : Figures) (h : Handed) → ChecksPassed f h → refusal_of f false h ≡ none
unfolding refusal_of
not-refused f h P =
    let some-primary = P.some-primary in
    let some-option = P.some-option in
    rw (
      ne_eqb h.np 0 (λ e. absurd (omega arith)),
      le-ltb f.items (h.np + h.ns) P.items,
      ne_eqb (length h.ends) 0 (λ e. absurd (omega arith)),
      le-ltb f.options (length h.ends) P.options,
      eq-eqb (length h.items) (length h.colours) P.lengths,
      le-ltb f.entries (length h.items) P.entries,
      P.ends,
      T_false (short_room (h.np + h.ns) (length h.items) (length h.ends) h.room) P.room,
      T_false (short_results (h.np + h.ns) (length h.items) (length h.ends) h.results) P.results,
      P.checked,
    )

pub passed-accepted : (f : Figures) (h : Handed) → ChecksPassed f h → Accepted f (problem_of h.np h.ns h.items h.colours h.ends)
unfolding problem_of
passed-accepted f h P =
    record {
      some-primary = P.some-primary;
      primaries = omega arith;
      items = P.items;
      some-option = rw (length_cut 0 h.ends es) P.some-option;
      options = rw (length_cut 0 h.ends es) P.options;
      entries = rw (cut-whole h.ends es (rw many P.ends), many) P.entries;
      entry = λ o m. (checked o m).entry;
      once = λ o m. (checked o m).once;
    }
  where
    es : List Entry
    es = entries_of h.items h.colours

    many : length es ≡ length h.items
    many = length-entries_of h.items h.colours P.lengths

    checked : (o : List Entry) → In o (cut 0 h.ends es) → Passes h.np (h.np + h.ns) f.colour [] o
    checked o m = options→ h.np (h.np + h.ns) f.colour 0 (cut 0 h.ends es) P.checked o m

pub checks-accept : ChecksAccept
checks-accept f ragged h e = passed-accepted f h (passed f ragged h e)
