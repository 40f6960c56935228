-- The whole outcome, from what the parts of the call ensure. Assumes nothing.
use Prim.Native.Nat.{ℕ, ◌+◌, ◌<◌, ◌≤◌}
use native.Mathlib.Omega.{arith}
use mathlib.Core.Path.{◌≡◌, refl, ◌∙◌, ap, sym, subst}
use Rattle.rules.specs.Bounds.{node_bound}
use mathlib.Core.Bool.{Bool, false, not}
use mathlib.Core.List.{List}
use mathlib.Core.Option.{none}
use lib.Dec.{T}
use lib.ListN.{length}
use Rattle.rules.specs.Problem.{Problem, figures, problem_of}
use Rattle.rules.specs.Rooms.{Room, Results, Handed}
use Rattle.rules.specs.Checks.{refusal_of, short_results}
use Rattle.rules.specs.State.{State}
use Rattle.rules.specs.Rounds.{Finding, reduced, infeasible, reduce}
use Rattle.rules.specs.Result.{results_of}
use Rattle.rules.specs.Outcome.{cleared, fronts, said_of, concluded}
use Rattle.rules.specs.Paper.{Said, said_infeasible}
use Rattle.theorems.proofs.Words.Tests.{five-suffice}
use Rattle.theorems.proofs.Checks.Accept.{ChecksPassed, passed}
use Rattle.theorems.proofs.Answers.Bounds.{ReducedWithin, Within, bounds}
use Rattle.building.specs.Layout.{plan_for, plan_of}
use Rattle.building.specs.Build.{Buildable}
use Rattle.building.proofs.Premises.{buildable}
use Rattle.links.specs.declared.nodes.Nodes.{Nodes}
use Rattle.links.specs.Plan.{Plan}
use Rattle.showing.specs.Showing.{state_of}
use Rattle.preproc.specs.Standing.{Holding}
use Rattle.result.specs.Writing.{out}
use Rattle.result.specs.Reading.{NodesRead}
use Rattle.result.proofs.Enough.{enough}
use Rattle.engine.specs.Call.{outcome}
use Rattle.engine.specs.Report.{Reported}

-- two ways for the finding, two outcomes
concludes-reduced : (h : Handed) {x : Finding} {s : State} {rounds : ℕ} {settled : Bool} {said : Said} {room : Room} {results : Results}
    → x ≡ reduced s rounds settled → said ≡ said_of h.np (h.np + h.ns) s rounds settled → room ≡ cleared h.room → results ≡ fronts (results_of (h.np + h.ns) s) h.results
    → outcome said room results ≡ concluded h x
concludes-reduced h e a b c = rw e (rw a (rw b (rw c refl)))

concludes-infeasible : (h : Handed) {x : Finding} {item cause round : ℕ} {room : Room}
    → x ≡ infeasible item cause round → room ≡ cleared h.room
    → outcome (said_infeasible item cause round) room h.results ≡ concluded h x
concludes-infeasible h e b = rw e (rw b refl)

-- the result lists that check 18 leaves
pub record Spacious (n E M : ℕ) (r : Results) : Type 0 where
  pub kept : n ≤ length r.kept
  pub ends : M ≤ length r.ends
  pub numbers : M ≤ length r.numbers
  pub items : E ≤ length r.items
  pub colours : E ≤ length r.colours

pub spacious : (n E M : ℕ) (r : Results) → T (not (short_results n E M r)) → Spacious n E M r
unfolding short_results
spacious n E M r t =
    let w = five-suffice (length r.kept) (length r.ends) (length r.numbers) (length r.items) (length r.colours) t in
    record { kept = w.0; ends = w.1; numbers = w.2; items = w.3; colours = w.4 }

-- no check refuses what is handed
pub record TakenIn (h : Handed) : Type 0 where
  pub unrefused : refusal_of figures false h ≡ none

pub takes : (h : Handed) → refusal_of figures false h ≡ none → TakenIn h
takes h e = record { unrefused = e }

module _ {h : Handed} (t : TakenIn h) where
  e : refusal_of figures false h ≡ none
  e = t.unrefused

  abbrev a : Problem
  a = problem_of h.np h.ns h.items h.colours h.ends

  P : ChecksPassed figures h
  P = passed figures false h e

  pub call-small : h.np + h.ns < node_bound
  call-small = omega (arith, P.items)

  pub call-buildable : {np n : ℕ} → np ≡ h.np → n ≡ h.np + h.ns
      → Buildable figures np h.ns n h.items h.colours h.ends h.room.heads h.room.up h.room.down h.room.tints h.room.marks
  call-buildable p k = rw (p, k) (buildable figures (omega arith) h false e)

  -- the rounds stop at an item: no result is written
  pub call-infeasible : {item cause round number : ℕ} {room : Room} → reduce a h.cap ≡ infeasible item cause round → number ≡ cause → room ≡ cleared h.room
      → outcome (said_infeasible item number round) room h.results ≡ concluded h (reduce a h.cap)
  call-infeasible q k = rw k (concludes-infeasible h q)

  abbrev n : ℕ
  n = h.np + h.ns

  plan-items : (plan_of a).n ≡ n
  unfolding plan_for problem_of
  plan-items = refl

  -- the nodes are as the rounds left them
  module _ (nodes : Nodes) (np-is : nodes.shape.np ≡ h.np) (n-is : nodes.shape.n ≡ h.np + h.ns) {s : State} {rounds : ℕ} {settled : Bool} {tints marks : List ℕ}
      (q : reduce a h.cap ≡ reduced s rounds settled) (H : Holding (plan_of a) s nodes.heads.now nodes.up.now nodes.down.now tints marks) where
    laid : NodesRead H.ground nodes tints
    laid = record {
      standing = record {
        ready = H.standing.ready;
        items-are = n-is ∙ sym (ap (λ (X : Plan). X.n) H.plan ∙ plan-items);
        heads-are = H.standing.holds.heads-are;
      };
      down-are = H.standing.holds.down-are;
      tinted = H.standing.tinted;
    }

    shown-is : reduce a h.cap ≡ reduced (state_of H.ground) rounds settled
    shown-is = q ∙ ap (λ (x : State). reduced x rounds settled) (sym H.shows)

    -- what the rounds end with can be written
    pub call-reported : Reported H.ground nodes tints h.results
    call-reported =
        let w : ReducedWithin h (state_of H.ground) rounds = subst (Within h) shown-is (bounds figures false h e) in
        let r = spacious n (length h.items) (length h.ends) h.results P.results in
        record {
          laid = laid;
          few = omega (arith, np-is, n-is);
          kept-room = omega (arith, n-is, r.kept);
          holding = rw n-is (enough n (state_of H.ground) (out h.results.ends h.results.numbers h.results.items h.results.colours)
              (omega (arith, w.options, r.ends)) (omega (arith, w.options, r.numbers)) (omega (arith, w.entries, r.items)) (omega (arith, w.entries, r.colours)));
          options-small = rw n-is (omega (arith, w.options, P.options));
          entries-small = rw n-is (omega (arith, w.entries, P.entries));
        }

    -- and is the outcome
    pub call-reduced : {said : Said} {room : Room} {results : Results}
        → (said ≡ said_of nodes.shape.np nodes.shape.n (state_of H.ground) rounds settled) × (results ≡ fronts (results_of nodes.shape.n (state_of H.ground)) h.results) → room ≡ cleared h.room
        → outcome said room results ≡ concluded h (reduce a h.cap)
    call-reduced o c = concludes-reduced h shown-is (o.0 ∙ rw (np-is, n-is) refl) c (o.1 ∙ rw n-is refl)
