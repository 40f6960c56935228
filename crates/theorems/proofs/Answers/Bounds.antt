-- How large the numbers of an answer get: counts, rounds, item and cause of a finding, number and place of a refusal. Assumes nothing.
use Prim.Native.Nat.{ℕ, ◌+◌, ◌^◌, ◌≤◌, ◌<◌}
use native.Mathlib.Omega.{arith}
use mathlib.Core.Path.{◌≡◌, refl, ap, ◌∙◌}
use mathlib.Core.Bool.{Bool}
use mathlib.Core.List.{List}
use mathlib.Core.Option.{none, some}
use lib.ListN.{length}
use Rattle.rules.specs.Lists.{each}
use Rattle.rules.specs.Problem.{Entry, Problem, Figures, figures, entries_of, problem_of}
use Rattle.rules.specs.Rooms.{Handed}
use Rattle.rules.specs.Checks.{Refusal, refusal_of}
use Rattle.rules.specs.State.{State}
use Rattle.rules.specs.Rounds.{Finding, reduced, infeasible, reduce}
use Rattle.rules.specs.Result.{kept_items, primaries_of, secondaries_of, kept_options, results_of}
use Rattle.rules.specs.Promises.{Accepted, RoundsWithin, SoundResult}
use Rattle.theorems.proofs.Checks.Cutting.{length-entries_of, length_cut, cut-whole}
use Rattle.theorems.proofs.Checks.Accept.{ChecksPassed, passed, passed-accepted}
use Rattle.theorems.proofs.Steps.Soundness.{sound}
use Rattle.theorems.proofs.Settled.InTime.{rounds-within}
use Rattle.theorems.proofs.Answers.Parts.{PartOf, part_of}
use Rattle.theorems.proofs.Answers.KeptSizes.{items-most, primaries-most, secondaries-most, options-most, entries-most}
use Rattle.theorems.proofs.Answers.CompactFlat.{all-kept-items, items-many}
use Rattle.theorems.proofs.Answers.Causes.{Cause, CauseOf, cause-of}
use Rattle.theorems.proofs.Answers.RefusalPlaces.{Tabled, of-sizes, of-ends, of_room, of-entries, tabled}

-- Findings

-- the numbers of a reduced answer
pub record ReducedWithin (h : Handed) (s : State) (rounds : ℕ) : Type 0 where
  pub primaries : primaries_of h.np (kept_items (h.np + h.ns) s) ≤ h.np
  pub secondaries : secondaries_of h.np (kept_items (h.np + h.ns) s) ≤ h.ns
  pub items : primaries_of h.np (kept_items (h.np + h.ns) s) + secondaries_of h.np (kept_items (h.np + h.ns) s) ≡ length (kept_items (h.np + h.ns) s)
  pub kept : length (kept_items (h.np + h.ns) s) ≤ h.np + h.ns
  pub options : length (kept_options (h.np + h.ns) s) ≤ length h.ends
  pub entries : length (results_of (h.np + h.ns) s).items ≤ length h.items
  pub capped : rounds ≤ h.cap
  pub in-time : rounds + 1 ≤ h.np + h.ns + length h.ends

-- the numbers of an infeasible one
pub record InfeasibleWithin (h : Handed) (item cause round : ℕ) : Type 0 where
  pub primary : item < h.np
  pub why : Cause cause
  pub capped : round ≤ h.cap
  pub in-time : round + 1 ≤ h.np + h.ns + length h.ends

abbrev pub Within : Handed → Finding → Type 0
Within h (reduced s rounds settled) = ReducedWithin h s rounds
Within h (infeasible item cause round) = InfeasibleWithin h item cause round

pub bounds : (f : Figures) (ragged : Bool) (h : Handed) → refusal_of f ragged h ≡ none
    → Within h (reduce (problem_of h.np h.ns h.items h.colours h.ends) h.cap)
unfolding problem_of
bounds f ragged h e = go (reduce a h.cap) (sound f a A h.cap) (part_of a h.cap) (rounds-within f a A h.cap) (cause-of a h.cap)
  where
    n : ℕ
    n = h.np + h.ns

    es : List Entry
    es = entries_of h.items h.colours

    a : Problem
    a = problem_of h.np h.ns h.items h.colours h.ends

    P : ChecksPassed f h
    P = passed f ragged h e

    A : Accepted f a
    A = passed-accepted f h P

    -- the options and the entries of the problem are those handed in
    options : length a.options ≡ length h.ends
    options = length_cut 0 h.ends es

    entries : length (each (λ o. o) a.options) ≡ length h.items
    entries =
        let many = length-entries_of h.items h.colours P.lengths in
        ap (λ (l : List Entry). length l) (cut-whole h.ends es (rw many P.ends)) ∙ many

    go : (x : Finding) → SoundResult a x → PartOf a x → RoundsWithin a h.cap x → CauseOf x → Within h x
    go (reduced s r settled) S Q W k = record {
      primaries = primaries-most n s h.np (omega arith);
      secondaries = secondaries-most n s h.np h.ns refl;
      items = all-kept-items h.np n s;
      kept = items-most n s;
      options = let most = options-most n s in let same = S.numbers in let o = options in omega arith;
      entries = let many = items-many n s in let most = entries-most n s in let part = Q.size in let e = entries in omega arith;
      capped = W.0;
      in-time = let w = W.1 in let o = options in omega arith;
    }
    go (infeasible q cause r) S Q W k = record { primary = S; why = k; capped = W.0; in-time = let w = W.1 in let o = options in omega arith }

-- Refusals

-- the number is one of 10 to 22
pub number-range : {f : Figures} {h : Handed} {number place : ℕ} → Tabled f h number place → (10 ≤ number) × (number ≤ 22)
number-range (of-sizes l m) = (l, omega arith)
number-range (of-ends l m) = (omega arith, omega arith)
number-range (of_room l m) = (omega arith, omega arith)
number-range (of-entries l m i k) = (omega arith, m)

-- the place is below any bound that the figures of options and entries keep to
pub place-below : {f : Figures} {h : Handed} {number place : ℕ} (bound : ℕ) → 0 < bound → f.options ≤ bound → f.entries ≤ bound → Tabled f h number place → place < bound
place-below bound z o e (of-sizes l m) = z
place-below bound z o e (of-ends l m) = omega arith
place-below bound z o e (of_room l m) = z
place-below bound z o e (of-entries l m i k) = omega arith

-- at the full figures
pub refusal-bounds : (ragged : Bool) (h : Handed) (r : Refusal) → refusal_of figures ragged h ≡ some r → (10 ≤ r.number) × (r.number ≤ 22) × (r.place < 2 ^ 14)
refusal-bounds ragged h r e =
    let t = tabled figures ragged h r e in
    let w = number-range t in
    (w.0, w.1, place-below (2 ^ 14) (omega arith) (omega arith) (omega arith) t)
