-- How large the numbers of the five result lists get: kept items, ends, option numbers, items and colours. Assumes nothing.
use Prim.Native.Nat.{ℕ, ◌+◌, ◌≤◌, ◌<◌}
use native.Mathlib.Omega.{arith}
use mathlib.Core.Path.{◌≡◌}
use mathlib.Core.Bool.{Bool}
use mathlib.Core.List.Memᴰ.{head as here}
use mathlib.Core.List.Memᴰ.{tail as next}
use mathlib.Core.List.{List, map, Memᴰ as In}
use mathlib.Core.Option.{none}
use lib.ListN.{length}
use Rattle.rules.specs.Lists.{each}
use Rattle.rules.specs.Problem.{Entry, Problem, Figures, entries_of, problem_of}
use Rattle.rules.specs.Rooms.{Results, Handed}
use Rattle.rules.specs.Checks.{refusal_of}
use Rattle.rules.specs.State.{State}
use Rattle.rules.specs.Rounds.{Finding, reduced, infeasible, reduce}
use Rattle.rules.specs.Result.{Numbered, kept_options, results_of}
use Rattle.rules.specs.Promises.{Accepted, SoundResult}
use Rattle.theorems.proofs.Words.Lists.{In-map, In-each}
use Rattle.theorems.proofs.Steps.Soundness.{sound}
use Rattle.theorems.proofs.Results.Kept.{kept→, option→, In-kept}
use Rattle.theorems.proofs.Checks.Cutting.{Ascend, rise, length_cut, check16→}
use Rattle.theorems.proofs.Checks.Accept.{passed, passed-accepted}
use Rattle.theorems.proofs.Answers.Parts.{PartOf, part_of}
use Rattle.theorems.proofs.Answers.CompactFlat.{result-ends-pass}
use Rattle.theorems.proofs.Answers.Bounds.{Within, bounds}

-- ends that rise within E are within E
ends-within : {E a : ℕ} {ends : List ℕ} → Ascend E a ends → {x : ℕ} → In x ends → x ≤ E
ends-within {E = E} (Rattle.theorems.proofs.Checks.Cutting.ended {a = a}) x8 = elim x8 [ ]
ends-within (rise h k r) (here e) = omega arith
ends-within (rise h k r) (next m) = ends-within r m

-- Of any state

module _ (n : ℕ) (s : State) where
  -- a kept item is one of the n,
  pub kept-below : (x : ℕ) → In x (results_of n s).kept → x < n
  unfolding results_of
  kept-below x m = (kept→ n s m).0

  -- no end is past the entries,
  pub ends-most : (x : ℕ) → In x (results_of n s).ends → x ≤ length (results_of n s).items
  ends-most x m = ends-within (check16→ (length (results_of n s).items) (results_of n s).ends (result-ends-pass n s)).0 m

  -- an option number is that of an option,
  pub numbers-below : (x : ℕ) → In x (results_of n s).numbers → x < length s
  unfolding results_of
  numbers-below x m =
      let w = In-map (λ (y : Numbered). y.number) (kept_options n s) m in
      let lt = (In-kept n s w.1).0 in
      omega (arith, w.2)

  -- and an item or a colour is that of an entry.
  entry_of : (g : Entry → ℕ) {x : ℕ} → In x (each (λ y. map g y.entries) (kept_options n s)) → (o : List Entry) × In o s × (e : Entry) × In e o × (x ≡ g e)
  entry_of g m =
      let w = In-each (λ (y : Numbered). map g y.entries) (kept_options n s) m in
      let v = In-map g w.0.entries w.2 in
      (w.0.entries, (option→ n s w.1).0, v.0, v.1, v.2)

  pub item-of : {x : ℕ} → In x (results_of n s).items → (o : List Entry) × In o s × (e : Entry) × In e o × (x ≡ e.item)
  unfolding results_of
  item-of m = entry_of (λ e. e.item) m

  pub colour-of : {x : ℕ} → In x (results_of n s).colours → (o : List Entry) × In o s × (e : Entry) × In e o × (x ≡ e.colour)
  unfolding results_of
  colour-of m = entry_of (λ e. e.colour) m

-- Of what is handed in, where no check refuses it

-- the five lists of a result, by counts of items, options and entries, and the highest colour
pub record ListsWithin (n M E colour : ℕ) (r : Results) : Type 0 where
  pub kept : (x : ℕ) → In x r.kept → x < n
  pub ends : (x : ℕ) → In x r.ends → x ≤ E
  pub numbers : (x : ℕ) → In x r.numbers → x < M
  pub items : (x : ℕ) → In x r.items → x < n
  pub colours : (x : ℕ) → In x r.colours → x ≤ colour

abbrev pub ResultWithin : Figures → Handed → Finding → Type 0
ResultWithin f h (reduced s rounds settled) = ListsWithin (h.np + h.ns) (length h.ends) (length h.items) f.colour (results_of (h.np + h.ns) s)
ResultWithin f h (infeasible item cause round) = Unit {0}

pub result-bounds : (f : Figures) (ragged : Bool) (h : Handed) → refusal_of f ragged h ≡ none
    → ResultWithin f h (reduce (problem_of h.np h.ns h.items h.colours h.ends) h.cap)
unfolding problem_of
result-bounds f ragged h e = go (reduce a h.cap) (sound f a A h.cap) (part_of a h.cap) (bounds f ragged h e)
  where
    n : ℕ
    n = h.np + h.ns

    a : Problem
    a = problem_of h.np h.ns h.items h.colours h.ends

    A : Accepted f a
    A = passed-accepted f h (passed f ragged h e)

    go : (x : Finding) → SoundResult a x → PartOf a x → Within h x → ResultWithin f h x
    go (reduced s r settled) S P W = record {
      kept = kept-below n s;
      ends = λ x m. let le = ends-most n s x m in let most = W.entries in omega arith;
      numbers = λ x m.
          let lt = numbers-below n s x m in
          let same = S.numbers in
          let options = length_cut 0 h.ends (entries_of h.items h.colours) in
          omega arith;
      items = λ x m. let w = item-of n s m in let lt = S.below w.0 w.1 w.2 w.3 in omega (arith, w.4);
      colours = λ x m.
          let w = colour-of n s m in
          let v = P.from w.0 w.1 in
          let le = (A.entry v.0 v.1 w.2 (v.2 w.2 w.3)).colour-below in
          omega (arith, w.4);
    }
    go (infeasible item cause round) S P W = tt
