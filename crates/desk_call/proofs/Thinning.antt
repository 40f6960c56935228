-- The desk's call over numbers: it checks, runs the core in room of its own, and hands back. Assumes nothing.
use Prim.Native.Nat.{ℕ, ◌+◌, ◌≤◌}
use native.Mathlib.Omega.{arith}
use mathlib.Core.Path.{◌≡◌, refl, sym, ap, subst, ◌∙◌}
use mathlib.Core.Bool.{Bool, false, not}
use mathlib.Core.List.{List}
use mathlib.Core.Option.{none, some}
use lib.Dec.{T}
use lib.ListN.{length, take, drop, replicate, length-append, length-map}
use lib.Seq.{take-append_seam}
use borrow.Author.Tests.{le-ltb}
use Rattle.rules.specs.Lists.{written}
use Rattle.rules.specs.Problem.{figures, desk_figures, nodes_at, marks_at}
use Rattle.rules.specs.Rooms.{Results, Handed, result_lists}
use Rattle.rules.specs.Checks.{Refusal, short_room, short_results, refusal_of}
use Rattle.rules.specs.State.{State}
use Rattle.rules.specs.Rounds.{Finding, reduced, infeasible}
use Rattle.rules.specs.Result.{kept_items, kept_options, primaries_of, secondaries_of, results_of}
use Rattle.rules.specs.Paper.{Said, said_refused, said_infeasible, paper}
use Rattle.rules.specs.Outcome.{Outcome, cleared, fronts, said_of, concluded}
use Rattle.rules.specs.Lent.{handed_lists}
use Rattle.rules.specs.declared.lent.Lists.{Lists}
use Rattle.rules.specs.declared.problem.Problem.{Problem}
use Rattle.rules.specs.declared.answer.Answer.{Answer}
use Rattle.rules.specs.declared.answer.Answer.TheVariants.{Reduced, Infeasible}
use Rattle.theorems.proofs.Checks.Accept.{ChecksPassed, passed}
use Rattle.theorems.proofs.Checks.Paper.{paper-one, infeasible-one}
use Rattle.theorems.proofs.Answers.OneOutcome.{outcome-refused, outcome-found}
use Rattle.theorems.proofs.Answers.Bounds.{Within, ReducedWithin, bounds}
use Rattle.theorems.proofs.Answers.CompactFlat.{items-many, colours-many, ends-many}
use Rattle.engine.specs.Call.{outcome}
use Rattle.engine.proofs.Concluding.{spacious}
use Rattle.checking.proofs.Grow.{figures-grow}
use Rattle.words.proofs.Counting.{fours-fit}
use Rattle.desk_call.specs.Desk.{desk_room, numbers_in, bytes_in, bytes_after, serving, served}
use Rattle.desk_call.specs.HandingBack.{firsts, handed_back, RoomFor, Handable}
use Rattle.desk_call.proofs.OwnRoom.{found_of}

-- the desk's own result lists, before the core writes to them
abbrev pub blank : Results
blank = result_lists (replicate desk_figures.items 0) (replicate desk_figures.options 0) (replicate desk_figures.options 0) (replicate desk_figures.entries 0)
    (replicate desk_figures.entries 0)

-- Room that is long enough

pub room-enough : (n E M : ℕ) → n ≤ desk_figures.items → E ≤ desk_figures.entries → M ≤ desk_figures.options → T (not (short_room n E M desk_room))
unfolding short_room desk_room
room-enough n E M a b c =
    rw (le-ltb (nodes_at desk_figures) (n + 2 + E + M) (omega arith), le-ltb (marks_at desk_figures) (n + 1) (omega arith)) tt

results-enough : (n E M : ℕ) → n ≤ desk_figures.items → E ≤ desk_figures.entries → M ≤ desk_figures.options → T (not (short_results n E M blank))
unfolding short_results
results-enough n E M a b c =
    rw (le-ltb desk_figures.items n a, le-ltb desk_figures.options M c, le-ltb desk_figures.entries E b) tt

-- What the call comes to, refused and found

pub refused-served : (ragged : Bool) (h : Handed) (bytes : Results) (r : Refusal) → refusal_of desk_figures ragged h ≡ some r
    → serving (said_refused r) bytes ≡ served ragged h bytes
unfolding served
refused-served ragged h bytes r e = rw (outcome-refused desk_figures ragged h r e, e) refl

found-served : (h : Handed) (bytes : Results) (x : Finding) → refusal_of desk_figures false h ≡ none → found_of h ≡ x
    → serving (concluded h x).said (bytes_after (h.np + h.ns) none x bytes) ≡ served false h bytes
unfolding served
found-served h bytes x e k = rw (outcome-found desk_figures false h x e k, e, k) refl

-- The fronts that the answer counts are what the core wrote

pub front : (new old : List ℕ) {k : ℕ} → k ≡ length new → take k (written new old) ≡ new
front new old e = rw e (take-append_seam new _)

front-there : (new old : List ℕ) {k : ℕ} → k ≡ length new → k ≤ length (written new old)
front-there new old e = let a = length-append new (drop (length new) old) in rw a (omega arith)

-- The call, once no check refuses

module _ (p : Problem) (cap : ℕ) (lists : Lists) (bytes : Results) (e : refusal_of desk_figures false (handed_lists p cap lists desk_room (numbers_in bytes)) ≡ none) where
  abbrev h : Handed
  h = handed_lists p cap lists desk_room (numbers_in bytes)

  abbrev h' : Handed
  h' = handed_lists p cap lists desk_room blank

  P : ChecksPassed desk_figures h
  P = passed desk_figures false h e

  -- the core takes it, in the desk's room and with the desk's result lists
  pub accepted : refusal_of figures false h' ≡ none
  accepted =
      figures-grow desk_figures figures (record { items = omega arith; options = omega arith; entries = omega arith; colour = omega arith }) false h h'
      (record { np = refl; ns = refl; items = refl; colours = refl; ends = refl })
      (record {
        room = room-enough (h.np + h.ns) (length h.items) (length h.ends) P.items P.entries P.options;
        results = results-enough (h.np + h.ns) (length h.items) (length h.ends) P.items P.entries P.options;
      }) e

  -- what its answer is good for
  pub record Done (a : Answer) (words : Results) : Type 0 where
    pub handable : Handable a words bytes
    pub thinned : serving (paper a) (handed_back a words bytes) ≡ served false h bytes

  -- the counts of a reduced answer are those of the lists that the core wrote, and the desk's byte lists hold as many
  module _ (s : State) (rounds : ℕ) (W : ReducedWithin h' s rounds) where
    abbrev n : ℕ
    n = h.np + h.ns

    abbrev new : Results
    new = results_of n s

    abbrev kept-count : ℕ
    kept-count = primaries_of h.np (kept_items n s) + secondaries_of h.np (kept_items n s)

    kept-many : kept-count ≡ length new.kept
    unfolding results_of
    kept-many = W.items

    numbers-many : length (kept_options n s) ≡ length new.numbers
    unfolding results_of
    numbers-many = sym (length-map (kept_options n s) (λ x. x.number))

    ends_same : length (kept_options n s) ≡ length new.ends
    ends_same = sym (ends-many n s)

    colours-same : length new.items ≡ length new.colours
    colours-same = items-many n s ∙ sym (colours-many n s)

    whole : firsts kept-count (length (kept_options n s)) (length new.items) (fronts new blank) ≡ new
    unfolding fronts
    whole =
        let a = front new.kept blank.kept kept-many in
        let b = front new.ends blank.ends ends_same in
        let c = front new.numbers blank.numbers numbers-many in
        let d = front new.items blank.items refl in
        let f = front new.colours blank.colours colours-same in
        rw (a, b, c, d, f) refl

    room_for : RoomFor kept-count (length (kept_options n s)) (length new.items) (fronts new blank) bytes
    unfolding fronts
    room_for =
        let S = spacious n (length h.items) (length h.ends) (numbers_in bytes) P.results in
        let i = W.items in
        let k = W.kept in
        let o = W.options in
        let m = W.entries in
        let f = P.items in
        record {
          few = omega arith;
          kept = front-there new.kept blank.kept kept-many;
          ends = front-there new.ends blank.ends ends_same;
          numbers = front-there new.numbers blank.numbers numbers-many;
          items-there = front-there new.items blank.items refl;
          colours = front-there new.colours blank.colours colours-same;
          kept-bytes = let b = fours-fit bytes.kept in let t = S.kept in omega arith;
          ends-bytes = let b = fours-fit bytes.ends in let t = S.ends in omega arith;
          numbers-bytes = let b = fours-fit bytes.numbers in let t = S.numbers in omega arith;
          items-bytes = let b = fours-fit bytes.items in let t = S.items in omega arith;
          colours-bytes = let b = fours-fit bytes.colours in let t = S.colours in omega arith;
        }

  done-reduced : (a : Answer) (words : Results) (s : State) (rounds : ℕ) (settled : Bool) → found_of h ≡ reduced s rounds settled
      → outcome (paper a) (cleared desk_room) words ≡ concluded h' (reduced s rounds settled) → Done a words
  unfolding said_of
  done-reduced a words s rounds settled k o =
      let n = h.np + h.ns in
      let W = subst (Within h') k (bounds figures false h' accepted) in
      let b : Answer = Reduced (primaries_of h.np (kept_items n s)) (secondaries_of h.np (kept_items n s)) (length (kept_options n s)) (length (results_of n s).items) rounds settled in
      let ab : a ≡ b = paper-one a b (ap (λ (z : Outcome). z.said) o) in
      let ww : words ≡ fronts (results_of n s) blank = ap (λ (z : Outcome). z.results) o in
      let back : handed_back b (fronts (results_of n s) blank) bytes ≡ fronts (bytes_in (results_of n s)) bytes = ap (λ (r : Results). fronts (bytes_in r) bytes) (whole s rounds W) in
      rw (ab, ww) (record {
        handable = room_for s rounds W;
        thinned = ap (serving (paper b)) back ∙ found-served h bytes (reduced s rounds settled) e k;
      })

  done-infeasible : (a : Answer) (words : Results) (item cause round : ℕ) → found_of h ≡ infeasible item cause round
      → outcome (paper a) (cleared desk_room) words ≡ concluded h' (infeasible item cause round) → Done a words
  done-infeasible a words item cause round k o =
      let w = infeasible-one a (ap (λ (z : Outcome). z.said) o) in
      let b : Answer = Infeasible w.0 w.1 round in
      let said : paper b ≡ said_infeasible item cause round = rw (w.3, w.4) refl in
      rw w.2 (record { handable = tt; thinned = ap (λ (z : Said). serving z bytes) said ∙ found-served h bytes (infeasible item cause round) e k })

  pub done : (a : Answer) (words : Results) → outcome (paper a) (cleared desk_room) words ≡ concluded h' (found_of h') → Done a words
  done a words o = go (found_of h) refl
    where
      go : (x : Finding) → found_of h ≡ x → Done a words
      go (reduced s rounds settled) k = done-reduced a words s rounds settled k (o ∙ ap (concluded h') k)
      go (infeasible item cause round) k = done-infeasible a words item cause round k (o ∙ ap (concluded h') k)

  pub handed-back : {a : Answer} {words after : Results} → Done a words → after ≡ handed_back a words bytes → serving (paper a) after ≡ served false h bytes
  handed-back {a} D k = ap (serving (paper a)) k ∙ D.thinned
