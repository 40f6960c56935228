-- How many entries a result has, at most; and lists with a place for each kept option and each of its entries are long enough for it. Assumes
-- nothing.
use Prim.Native.Nat.{ℕ, ◌≤◌}
use native.Mathlib.Omega.{arith}
use lib.ListN.{length, length-map}
use Rattle.rules.specs.Lists.{each}
use Rattle.rules.specs.Problem.{Entry}
use Rattle.rules.specs.State.{State, items_of}
use Rattle.rules.specs.Result.{kept_options, results_of}
use Rattle.theorems.proofs.Answers.EachFacts.{each-lengths}
use Rattle.theorems.proofs.Answers.KeptSizes.{entries-most}
use Rattle.result.specs.Writing.{FourLists, items_in}
use Rattle.result.specs.Reading.{LongEnough}
use Rattle.theorems.proofs.Answers.Joining.{length-ends}
use Rattle.result.proofs.Lists.{length-numbers, length-colours}

-- as many items in the kept options as entries of the state, at most
pub items-most : (n : ℕ) (s : State) → length (items_in (kept_options n s)) ≤ length (each (λ o. o) s)
items-most n s =
    let a = entries-most n s in
    let b = each-lengths (λ x. items_of x.entries) (λ x. x.entries) (kept_options n s) (λ x. length-map x.entries (λ (e : Entry). e.item)) in
    omega arith

pub enough : (n : ℕ) (s : State) (old : FourLists) → length (kept_options n s) ≤ length old.ends → length (kept_options n s) ≤ length old.numbers
    → length (results_of n s).items ≤ length old.items → length (results_of n s).items ≤ length old.colours → LongEnough (results_of n s) old
unfolding results_of
enough n s old a b c d = record {
  ends = omega (arith, length-ends 0 (kept_options n s));
  numbers = omega (arith, length-numbers (kept_options n s));
  items = c;
  colours = omega (arith, length-colours (kept_options n s));
}
