-- The second run: the compact result of a settled run, handed in again, is taken, and comes back as it is after one round.
-- Assumes nothing.
use Prim.Native.Nat.{ℕ, suc, ◌+◌}
use mathlib.Core.Path.{◌≡◌, sym, subst, ◌∙◌}
use mathlib.Core.Bool.{true, false}
use mathlib.Core.Option.{none}
use lib.ListN.{length}
use Rattle.rules.specs.Problem.{Problem, Figures, problem_of}
use Rattle.rules.specs.Rooms.{Room, Results, Handed}
use Rattle.rules.specs.Checks.{check16, refusal_of}
use Rattle.rules.specs.State.{State}
use Rattle.rules.specs.Rounds.{Finding, reduced, reduce}
use Rattle.rules.specs.Result.{compact_of}
use Rattle.rules.specs.Outcome.{cleared, fronts, said_of, concluded}
use Rattle.rules.specs.Promises.{Accepted, Repeats, SettledMeans, Sound, SoundResult}
use Rattle.rules.specs.SecondRun.{handed_again, Roomy, all_of, RunsAgain}
use Rattle.theorems.proofs.Checks.Accept.{passed, passed-accepted}
use Rattle.theorems.proofs.Answers.Taken.{taken}
use Rattle.theorems.proofs.Answers.OneOutcome.{outcome-found}
use Rattle.theorems.proofs.Steps.Soundness.{sound}
use Rattle.theorems.proofs.Settled.Means.{settled-means}
use Rattle.theorems.proofs.Answers.Parts.{Part, PartOf, part_of}
use Rattle.theorems.proofs.Answers.CompactFlat.{all-kept-items, compact-flat, items-many, colours-many, compact-many, result-ends-pass}
use Rattle.theorems.proofs.Answers.CompactAccepted.{compact-accepted}
use Rattle.theorems.proofs.Answers.CompactAgain.{results-again, said-again}

-- the problem that is handed in
abbrev problem_in : Handed → Problem
problem_in h = problem_of h.np h.ns h.items h.colours h.ends

-- What is handed in again
module _ (h : Handed) (s : State) (cap : ℕ) (room : Room) (results : Results) where
  -- it stands for the compact problem, ..
  again-problem : problem_in (handed_again h s cap room results) ≡ compact_of h.np (h.np + h.ns) s
  unfolding handed_again
  again-problem = compact-flat h.np (h.np + h.ns) s

  -- .. passes checks 14 and 16, ..
  again-lengths : length (handed_again h s cap room results).items ≡ length (handed_again h s cap room results).colours
  unfolding handed_again
  again-lengths = compact-many (h.np + h.ns) s ∙ items-many (h.np + h.ns) s ∙ sym (colours-many (h.np + h.ns) s)

  again-ends : check16 (length (handed_again h s cap room results).items) (handed_again h s cap room results).ends ≡ none
  unfolding handed_again
  again-ends = rw (compact-many (h.np + h.ns) s) (result-ends-pass (h.np + h.ns) s)

  -- .. and no check refuses it where the compact problem is accepted and the room is large enough.
  again-taken : (f : Figures) → Accepted f (compact_of h.np (h.np + h.ns) s) → Roomy (handed_again h s cap room results)
      → refusal_of f false (handed_again h s cap room results) ≡ none
  again-taken f A R = taken f (handed_again h s cap room results) (rw again-problem A) again-lengths again-ends R

  -- If the compact problem is found unchanged after one round, all of it comes back.
  again-concluded : Repeats h.np (h.np + h.ns) s → concluded (handed_again h s cap room results) (reduced (compact_of h.np (h.np + h.ns) s).options 1 true) ≡ record {
    said = said_of h.np (h.np + h.ns) s 1 true;
    room = cleared room;
    results = fronts (all_of (handed_again h s cap room results)) results;
  }
  unfolding handed_again compact_of
  again-concluded R =
      rw (all-kept-items h.np (h.np + h.ns) s, said-again h.np (h.np + h.ns) s R true, results-again h.np (h.np + h.ns) s R)

-- With a cap of 1 or more that is what is found.
again-found : (h : Handed) (s : State) (cap : ℕ) (room : Room) (results : Results) → Repeats h.np (h.np + h.ns) s
    → reduce (problem_in (handed_again h s (suc cap) room results)) (handed_again h s (suc cap) room results).cap ≡ reduced (compact_of h.np (h.np + h.ns) s).options 1 true
unfolding handed_again
again-found h s cap room results R = rw (again-problem h s (suc cap) room results) (R.again cap)

-- The theorem

-- What is known of the compact problem, if the run ended settled.
record Settles (f : Figures) (a : Problem) (s : State) : Type 0 where
  accepted : Accepted f (compact_of a.np a.n s)
  repeats : Repeats a.np a.n s

settles : (f : Figures) (a : Problem) → Accepted f a → (cap : ℕ) (s : State) (r : ℕ) → reduce a cap ≡ reduced s r true → Settles f a s
settles f a A cap s r e = record { accepted = compact-accepted f a A s sounds parts; repeats = means.1 }
  where
    sounds : Sound a s
    sounds = subst (λ (x : Finding). SoundResult a x) e (sound f a A cap)

    parts : Part a.options s
    parts = subst (λ (x : Finding). PartOf a x) e (part_of a cap)

    means : SettledMeans a (reduced s r true)
    means = subst (λ (x : Finding). SettledMeans a x) e (settled-means f a A cap)

pub runs-again : (f : Figures) (h : Handed) → RunsAgain f h
unfolding problem_of
runs-again f h e s r run cap room results R =
    let again = handed_again h s (suc cap) room results in
    let k = settles f (problem_in h) (passed-accepted f h (passed f false h e)) h.cap s r run in
    outcome-found f false again (reduced (compact_of h.np (h.np + h.ns) s).options 1 true)
    (again-taken h s (suc cap) room results f k.accepted R)
    (again-found h s cap room results k.repeats)
    ∙ again-concluded h s (suc cap) room results k.repeats
