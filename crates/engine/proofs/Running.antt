-- From the nodes as they are built to what the rounds find, in the words of the rules. Assumes nothing.
use Prim.Native.Nat.{ℕ, ◌≤◌}
use native.Mathlib.Omega.{arith}
use mathlib.Core.Path.{◌≡◌, refl, ◌∙◌, ap, sym, subst}
use mathlib.Core.List.{List}
use mathlib.Core.Option.{Option, none, some}
use lib.ListN.{length}
use lib.IntN.{ℤ}
use Rattle.std.specs.Prelude.{Result, Err, Some, None}
use Rattle.rules.specs.declared.answer.Cause.TheVariants.{Start}
use Rattle.rules.specs.declared.number.Item.{Item}
use Rattle.std.proofs.Common.{rules}
use Rattle.rules.specs.Problem.{Problem, Figures, problem_of}
use Rattle.rules.specs.Rounds.{Finding, infeasible, uncovered, unless_uncovered, rounds, reduce}
use Rattle.rules.specs.Rounds.{start as starting}
use Rattle.links.specs.declared.shape.Shape.{Shape}
use Rattle.links.specs.Ground.{Ground}
use Rattle.condemning.specs.Marks.{Known}
use Rattle.showing.specs.Showing.{state_of}
use Rattle.building.specs.Layout.{plan_of}
use Rattle.building.specs.Laid.{every}
use Rattle.building.specs.Build.{Buildable, Built, built}
use Rattle.preproc.specs.declared.rounds.Done.{Done}
use Rattle.preproc.specs.declared.rounds.Infeasible.{Infeasible}
use Rattle.preproc.specs.Standing.{Standing, Figured, Looking, item_told, Ended}

-- the answer as the rules put it together
reduce-is : (a : Problem) (cap : ℕ) → reduce a cap ≡ unless_uncovered (uncovered a.np (starting a)) (rounds a.np a.n cap 0 (starting a))
unfolding reduce
reduce-is a cap = refl

-- an item is told, or there is none
found_some : (o : Option ℕ) (t : Finding) (i : Item) → Some i ≡ item_told o → unless_uncovered o t ≡ infeasible i.0 1 0
found_some none t i e = search rules
found_some (some q) t i e = search rules

found_none : (o : Option ℕ) (t : Finding) → None ≡ item_told o → unless_uncovered o t ≡ t
found_none none t e = refl
found_none (some q) t e = search rules

module _ {f : Figures} {np ns n : ℕ} {items colours ends : List ℕ} {heads₀ : List ℤ} {up₀ down₀ tints₀ marks₀ : List ℕ}
    (b : Buildable f np ns n items colours ends heads₀ up₀ down₀ tints₀ marks₀) where
  abbrev a : Problem
  a = problem_of np ns items colours ends

  np-is : a.np ≡ np
  unfolding problem_of
  np-is = refl

  n-is : a.n ≡ n
  unfolding problem_of
  n-is = sym b.total

  module _ {heads : List ℤ} {up down tints marks : List ℕ} (w : Built a n (length ends) heads up down tints marks) where
    abbrev ground : Ground
    ground = built a heads up down

    few : np ≤ (plan_of a).n
    few = omega (arith, w.items, b.total)

    -- no item is marked yet
    known : length marks ≡ length marks₀ → Known ground (every (plan_of a)) marks
    known e = record {
      room = omega (arith, w.items, e, b.marks-room);
      names = λ y i o q. absurd (q (w.unmarked ((plan_of a).col y) (omega (arith, w.items, (w.ready.tidy.planned.entry y i).below))));
    }

    pub built-standing : length marks ≡ length marks₀ → Standing ground heads up down tints marks
    built-standing e = record {
      ready = w.ready;
      tinted = w.tinted;
      known = known e;
      holds = record { heads-are = refl; up-are = refl; down-are = refl };
    }

    -- what is asked where the nodes carry the figures
    pub built-figured : {shape : Shape} → shape.np ≡ np → shape.n ≡ n → Figured (plan_of a) shape
    built-figured {shape} e i = record { begins = omega (arith, w.items, shape.begins, i); few = omega (arith, few, e); items = i ∙ sym w.items }

    pub built-looking : {m : ℕ} → m ≡ np → Looking ground m heads
    built-looking e = record { ready = w.ready; few = omega (arith, few, e); heads-are = refl }

    module _ (cap : ℕ) where
      -- with the state that the nodes show
      finds : reduce a cap ≡ unless_uncovered (uncovered np (state_of ground)) (rounds np n cap 0 (state_of ground))
      finds =
          reduce-is a cap
          ∙ ap (λ (k : ℕ). unless_uncovered (uncovered k (starting a)) (rounds k a.n cap 0 (starting a))) np-is
          ∙ ap (λ (k : ℕ). unless_uncovered (uncovered np (starting a)) (rounds np k cap 0 (starting a))) n-is
          ∙ ap (λ s. unless_uncovered (uncovered np s) (rounds np n cap 0 s)) (sym w.shows)

      module _ {m : ℕ} (me : m ≡ np) {heads' : List ℤ} {up' down' tints' marks' : List ℕ} where
        pub run-uncovered : {i : Item} → Some i ≡ item_told (uncovered m (state_of ground))
            → Ended (plan_of a) (reduce a cap) (Err (record { item = i; cause = Start; round = 0 })) heads' up' down' tints' marks'
        run-uncovered {i} e = record {
          stops = finds ∙ found_some (uncovered np (state_of ground)) _ i (e ∙ ap (λ (k : ℕ). item_told (uncovered k (state_of ground))) me);
          goes = tt;
        }

        pub run-rounds : {k : ℕ} {found : Result Done Infeasible} → None ≡ item_told (uncovered m (state_of ground)) → k ≡ n
            → Ended (plan_of a) (rounds m k cap 0 (state_of ground)) found heads' up' down' tints' marks' → Ended (plan_of a) (reduce a cap) found heads' up' down' tints' marks'
        run-rounds {k} {found} q ke o = subst (λ (X : Finding). Ended (plan_of a) X found heads' up' down' tints' marks') (sym same) o
          where
            same : reduce a cap ≡ rounds m k cap 0 (state_of ground)
            same =
                finds
                ∙ found_none (uncovered np (state_of ground)) _ (q ∙ ap (λ (j : ℕ). item_told (uncovered j (state_of ground))) me)
                ∙ sym (ap (λ (j : ℕ). rounds j k cap 0 (state_of ground)) me ∙ ap (λ (j : ℕ). rounds np j cap 0 (state_of ground)) ke)
