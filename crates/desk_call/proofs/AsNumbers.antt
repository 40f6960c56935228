-- The desk's call over byte lists comes to what the outcome over lists is, read as numbers: at the desk's figures it says the same, and the
-- numbers of the five byte lists it leaves are the result lists of the outcome. Assumes nothing.
use Prim.Native.Nat.{ℕ, ◌+◌, ◌≤◌, ◌<◌}
use native.Mathlib.Omega.{arith}
use mathlib.Core.Path.{◌≡◌, refl, subst}
use Rattle.rules.specs.Bounds.{word_bound}
use mathlib.Core.Bool.{Bool}
use mathlib.Core.List.{List, Memᴰ as In}
use mathlib.Core.Option.{Option, none, some}
use Rattle.rules.specs.Lists.{written}
use Rattle.rules.specs.Problem.{desk_figures}
use Rattle.rules.specs.Rooms.{Results, Handed}
use Rattle.rules.specs.Checks.{Refusal, refusal_of}
use Rattle.rules.specs.Rounds.{Finding, reduced, infeasible}
use Rattle.rules.specs.Result.{results_of}
use Rattle.rules.specs.Outcome.{fronts, refused_or, outcome_at}
use Rattle.theorems.proofs.Checks.Accept.{passed}
use Rattle.theorems.proofs.Answers.ResultBounds.{ListsWithin, ResultWithin, result-bounds}
use Rattle.words.specs.Bytes.{numbers_of, bytes_of}
use Rattle.words.proofs.Numbers.{below_each, numbers-written}
use Rattle.desk_call.specs.Desk.{numbers_in, bytes_in, any_ragged, handed_bytes, bytes_after, served, desk_outcome}
use Rattle.desk_call.proofs.OwnRoom.{found_of}

-- numbers of four bytes each, written as bytes to the front of a byte list
front-as-numbers : (new old : List ℕ) → ((x : ℕ) → In x new → x < word_bound) → numbers_of (written (bytes_of new) old) ≡ written new (numbers_of old)
front-as-numbers new old small = numbers-written new old (below_each word_bound new (omega arith) small)

-- the lists of a result that keeps to the desk's figures
fronts-as-numbers : {n M E : ℕ} → n ≤ desk_figures.items → M ≤ desk_figures.options → E ≤ desk_figures.entries → (new bytes : Results) → ListsWithin n M E desk_figures.colour new
    → numbers_in (fronts (bytes_in new) bytes) ≡ fronts new (numbers_in bytes)
unfolding fronts
fronts-as-numbers i o m new bytes L =
    let kept = front-as-numbers new.kept bytes.kept (λ x k. let h = L.kept x k in omega arith) in
    let ends = front-as-numbers new.ends bytes.ends (λ x k. let h = L.ends x k in omega arith) in
    let numbers = front-as-numbers new.numbers bytes.numbers (λ x k. let h = L.numbers x k in omega arith) in
    let items = front-as-numbers new.items bytes.items (λ x k. let h = L.items x k in omega arith) in
    let colours = front-as-numbers new.colours bytes.colours (λ x k. let h = L.colours x k in omega arith) in
    rw (kept, ends, numbers, items, colours)

-- The theorem

module _ (np ns cap : ℕ) (items colours ends : List ℕ) (results : Results) where
  pub desk-as-numbers :
      let r = any_ragged items colours ends results in
      let h = handed_bytes np ns cap items colours ends results in
      let o = desk_outcome np ns cap items colours ends results in
      (o.said ≡ (outcome_at desk_figures r h).said) × (numbers_in o.results ≡ (outcome_at desk_figures r h).results)
  unfolding served outcome_at
  desk-as-numbers = (refl, go (refusal_of desk_figures r h) refl (found_of h) refl)
    where
      r : Bool
      r = any_ragged items colours ends results

      h : Handed
      h = handed_bytes np ns cap items colours ends results

      -- a refusal and infeasible leave the bytes as they were
      go : (x : Option Refusal) → refusal_of desk_figures r h ≡ x → (y : Finding) → found_of h ≡ y → numbers_in (bytes_after (np + ns) x y results) ≡ (refused_or h x y).results
      go (some f) e y k = refl
      go none e (reduced s rounds settled) k =
          let P = passed desk_figures r h e in
          let L = subst (ResultWithin desk_figures h) k (result-bounds desk_figures r h e) in
          fronts-as-numbers P.items P.options P.entries (results_of (np + ns) s) results L
      go none e (infeasible item cause round) k = refl
