-- Options one behind another, and one more: their ends, numbers, items and colours. And room for some of them. Assumes nothing.
use Prim.Native.Nat.{ℕ, ◌+◌}
use native.Mathlib.Omega.{arith}
use mathlib.Core.Path.{◌≡◌, ◌∙◌, ap, sym}
use mathlib.Core.List.{List, [], ◌∷◌, ◌++◌, map-append, append-nil}
use lib.ListN.{length, length-append, length-map}
use Rattle.rules.specs.Problem.{Entry}
use Rattle.rules.specs.State.{items_of}
use Rattle.rules.specs.Result.{Numbered, ends_from, numbers_of, colours_of}
use Rattle.theorems.proofs.Words.Lists.{each_append}
use Rattle.theorems.proofs.Answers.EachFacts.{each-lengths}
use Rattle.result.specs.Writing.{FourLists, items_in, colours_in, Suffices}

pub items-one : (xs : List Numbered) (x : Numbered) → items_in (xs ++ (x ∷ [])) ≡ items_in xs ++ items_of x.entries
items-one xs x = each_append (λ x. items_of x.entries) xs (x ∷ []) ∙ ap (λ (l : List ℕ). items_in xs ++ l) (append-nil (items_of x.entries))

pub colours-one : (xs : List Numbered) (x : Numbered) → colours_in (xs ++ (x ∷ [])) ≡ colours_in xs ++ colours_of x.entries
colours-one xs x = each_append (λ x. colours_of x.entries) xs (x ∷ []) ∙ ap (λ (l : List ℕ). colours_in xs ++ l) (append-nil (colours_of x.entries))

pub numbers-one : (xs : List Numbered) (x : Numbered) → numbers_of (xs ++ (x ∷ [])) ≡ numbers_of xs ++ (x.number ∷ [])
numbers-one xs x = map-append (λ x. x.number) xs (x ∷ [])

-- the end of the last is where all entries end
ends-from : (a : ℕ) (xs : List Numbered) (x : Numbered) → ends_from a (xs ++ (x ∷ [])) ≡ ends_from a xs ++ ((a + length (items_in (xs ++ (x ∷ [])))) ∷ [])
ends-from a [] x =
    let m = length-map x.entries (λ (e : Entry). e.item) in
    let n = ap length (append-nil (items_of x.entries)) in
    let e : a + length x.entries ≡ a + length (items_in (x ∷ [])) = omega arith in
    ap (λ (k : ℕ). k ∷ []) e
ends-from a (y ∷ xs) x =
    let m = length-map y.entries (λ (e : Entry). e.item) in
    let n = length-append (items_of y.entries) (items_in (xs ++ (x ∷ []))) in
    let e : a + length y.entries + length (items_in (xs ++ (x ∷ []))) ≡ a + length (items_in (y ∷ (xs ++ (x ∷ [])))) = omega arith in
    ap (λ (l : List ℕ). (a + length y.entries) ∷ l)
    (ends-from (a + length y.entries) xs x ∙ ap (λ (k : ℕ). ends_from (a + length y.entries) xs ++ (k ∷ [])) e)

pub ends-one : (xs : List Numbered) (x : Numbered) → ends_from 0 (xs ++ (x ∷ [])) ≡ ends_from 0 xs ++ (length (items_in (xs ++ (x ∷ []))) ∷ [])
ends-one xs x = let e : 0 + length (items_in (xs ++ (x ∷ []))) ≡ length (items_in (xs ++ (x ∷ []))) = omega arith in ends-from 0 xs x ∙ ap (λ (k : ℕ). ends_from 0 xs ++ (k ∷ [])) e

-- as many numbers as options, and as many colours as items
pub length-numbers : (xs : List Numbered) → length (numbers_of xs) ≡ length xs
length-numbers xs = length-map xs (λ (x : Numbered). x.number)

pub length-colours : (xs : List Numbered) → length (colours_in xs) ≡ length (items_in xs)
length-colours xs =
    each-lengths (λ x. colours_of x.entries) (λ x. items_of x.entries) xs
    (λ x. length-map x.entries (λ (e : Entry). e.colour) ∙ sym (length-map x.entries (λ (e : Entry). e.item)))

-- Room for some of the options.
pub room-front : (old : FourLists) (xs ys : List Numbered) → Suffices old (xs ++ ys) → Suffices old xs
room-front old xs ys r =
    let a = length-append xs ys in
    let b = ap length (each_append (λ x. items_of x.entries) xs ys) in
    let d = length-append (items_in xs) (items_in ys) in
    record {
      ends = omega (arith, r.ends, a);
      numbers = omega (arith, r.numbers, a);
      items = omega (arith, r.items, b, d);
      colours = omega (arith, r.colours, b, d);
      small = omega (arith, r.small, b, d);
    }
