-- The flat lists of a result stand for its options: entries joined and cut at the ends are the options again, and the ends pass check 16.
-- Assumes nothing.
use Prim.Native.Nat.{ℕ, suc, ◌+◌, ◌≤◌}
use native.Mathlib.Omega.{arith}
use mathlib.Core.Path.{◌≡◌, refl, ap, ◌∙◌}
use mathlib.Core.List.{List, [], ◌∷◌, ◌++◌, map, append_assoc}
use mathlib.Core.Option.{none}
use lib.ListN.{length, length-append}
use lib.Seq.{slice, take-append_seam, drop-append_seam}
use Rattle.rules.specs.Lists.{each}
use Rattle.rules.specs.Problem.{Entry, entries_of, cut}
use Rattle.rules.specs.Checks.{bad_end, last_end, check16}
use Rattle.rules.specs.State.{items_of}
use Rattle.rules.specs.Result.{Numbered, numbered, ends_from, colours_of}
use borrow.Author.Tests.{le-ltb, eq-eqb}
use Rattle.theorems.proofs.Checks.Cutting.{Ascend, ended, rise}

-- Items and colours side by side

pub entries-append : (o : List Entry) (is cs : List ℕ) → entries_of (items_of o ++ is) (colours_of o ++ cs) ≡ o ++ entries_of is cs
entries-append [] is cs = refl
entries-append (e ∷ o) is cs = ap (λ (r : List Entry). e ∷ r) (entries-append o is cs)

pub entries-joined : {A : Type 0} (g : A → List Entry) (xs : List A) → entries_of (each (λ x. items_of (g x)) xs) (each (λ x. colours_of (g x)) xs) ≡ each g xs
entries-joined g [] = refl
entries-joined g (x ∷ xs) =
    entries-append (g x) (each (λ x. items_of (g x)) xs) (each (λ x. colours_of (g x)) xs) ∙ ap (λ (r : List Entry). g x ++ r) (entries-joined g xs)

-- Cutting

-- the part behind some entries
part-behind : (before o rest : List Entry) → slice (length before) (length before + length o) (before ++ (o ++ rest)) ≡ o
part-behind before o rest =
    rw (← append_assoc before o rest, ← length-append before o, take-append_seam (before ++ o) rest) (drop-append_seam before o)

-- options as g gives them, of the lengths that the ends were made from
module _ (g : Numbered → List Entry) (same : (x : Numbered) → length (g x) ≡ length x.entries) where
  cut-behind : (before : List Entry) (xs : List Numbered) → cut (length before) (ends_from (length before) xs) (before ++ each g xs) ≡ map g xs
  cut-behind before [] = refl
  cut-behind before (x ∷ xs) = rw (← same x, part-behind before (g x) (each g xs), ← length-append before (g x), ← append_assoc before (g x) (each g xs))
      (ap (λ (r : List (List Entry)). g x ∷ r) (cut-behind (before ++ g x) xs))

  pub cut-joined : (xs : List Numbered) → cut 0 (ends_from 0 xs) (each g xs) ≡ map g xs
  cut-joined xs = cut-behind [] xs

  -- the ends of the options are these ends, whatever their numbers
  pub ends-again : (a k : ℕ) (xs : List Numbered) → ends_from a (numbered k (map g xs)) ≡ ends_from a xs
  ends-again a k [] = refl
  ends-again a k (x ∷ xs) = rw (same x, ends-again (a + length x.entries) (suc k) xs)

-- The ends

pub length-ends : (a : ℕ) (xs : List Numbered) → length (ends_from a xs) ≡ length xs
length-ends a [] = refl
length-ends a (x ∷ xs) = ap suc (length-ends (a + length x.entries) xs)

-- all entries of the options
abbrev pub joined : List Numbered → List Entry
joined xs = each (λ x. x.entries) xs

ends-rise : (E a : ℕ) (xs : List Numbered) → a + length (joined xs) ≤ E → Ascend E a (ends_from a xs)
ends-rise E a [] h = ended
ends-rise E a (x ∷ xs) h =
    let l = length-append x.entries (joined xs) in
    rise {a = a} {b = a + length x.entries} (omega arith) (omega arith) (ends-rise E (a + length x.entries) xs (omega arith))

ends_last : (a : ℕ) (xs : List Numbered) → last_end a (ends_from a xs) ≡ a + length (joined xs)
ends_last a [] = omega arith
ends_last a (x ∷ xs) =
    let l = length-append x.entries (joined xs) in
    let r = ends_last (a + length x.entries) xs in
    omega arith

-- ends that rise within E, up to E, pass check 16
no-bad-end : {E a : ℕ} {ends : List ℕ} (k : ℕ) → Ascend E a ends → bad_end E a k ends ≡ none
no-bad-end k ended = refl
no-bad-end {E} {a} k (rise {b = b} h l r) = rw (le-ltb b a h, le-ltb E b l) (no-bad-end (suc k) r)

pub check16← : (E : ℕ) (ends : List ℕ) → Ascend E 0 ends → last_end 0 ends ≡ E → check16 E ends ≡ none
unfolding check16
check16← E ends r e = rw (no-bad-end 0 r, eq-eqb (last_end 0 ends) E e)

pub ends-pass : (xs : List Numbered) → check16 (length (joined xs)) (ends_from 0 xs) ≡ none
ends-pass xs =
    let last = ends_last 0 xs in
    check16← (length (joined xs)) (ends_from 0 xs) (ends-rise (length (joined xs)) 0 xs (omega arith)) (omega arith)
