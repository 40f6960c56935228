-- What a walk down a column takes out, as items: option by option, round each option that is chosen. So hiding and removing an item take out what
-- the rules say, in the order that they say. Assumes nothing.
use Prim.Native.Nat.{ℕ, zero, suc, ◌+◌, ◌-◌, ◌<◌}
use native.Mathlib.Omega.{arith}
use mathlib.Core.Path.{◌≡◌, refl, ◌∙◌, ap, sym}
use mathlib.Core.Logic.{◌⊎◌, inl, inr}
use mathlib.Core.Bool.{Bool, true, ◌&&◌, not, cond}
use mathlib.Core.List.{List, [], ◌∷◌, ◌++◌, map, append-nil}
use lib.Dec.{T, eqb, eqb→eq, T_not}
use Rattle.rules.specs.Lists.{keep, each, from, up_to}
use Rattle.rules.specs.Problem.{Entry}
use Rattle.rules.specs.State.{option_at, holds, holds_uncoloured, around}
use Rattle.rules.specs.Redundant.{leaving_with}
use Rattle.theorems.proofs.Words.Tests.{T-dec, T_true, T_false, true-T, T_and, and_T, T-same, eq→eqb}
use Rattle.theorems.proofs.Words.Lists.{each-cong, In-up_to, each_append}
use Rattle.theorems.proofs.Steps.States.{uncoloured-holds}
use Rattle.theorems.proofs.Laws.Hiding.{leaving_hidden}
use Rattle.links.specs.Plan.{EntryOf, Planned}
use Rattle.links.specs.Ground.{Ground}
use Rattle.links.specs.Row.{others}
use Rattle.links.specs.Shown.{Ready}
use Rattle.links.specs.Taking.{gather_to, in_column, hidden, hides, holds_column, leaving, leaves}
use Rattle.showing.specs.Showing.{state_of}
use Rattle.theorems.proofs.Answers.EachFacts.{each_map, map_each}
use Rattle.showing.proofs.Lists.{each_keep, each-each}
use Rattle.showing.proofs.Shows.{Linked, item_at, holds-node, node-holds, uncoloured-node, node-uncoloured, one-node, own-option, shown-options}
use Rattle.showing.proofs.InOrder.{nodes_in, by_rows, row_one, row-none}
use Rattle.showing.proofs.Around.{around-shown}
use Rattle.links.proofs.Spans.{from_end}
use Rattle.links.proofs.Descending.{column-entry}
use Rattle.links.proofs.Passing.{hidden-inside, leaving-inside}
use Rattle.showing.proofs.Columns.{column←, column-holds}

pub up_to-end : (n : ℕ) → up_to (suc n) ≡ up_to n ++ (n ∷ [])
up_to-end n =
    let f : 0 + n ≡ n = omega arith in
    from_end 0 n ∙ ap (λ (i : ℕ). up_to n ++ (i ∷ [])) f

-- a walk by node number, as lists made of the nodes
pub gather-each : (chosen : ℕ → Bool) (g : Ground) (n : ℕ) → gather_to chosen g n ≡ each (λ y. cond (chosen y) (others g y) []) (up_to n)
gather-each chosen g zero = refl
gather-each chosen g (suc n) =
    ap (λ (l : List ℕ). l ++ cond (chosen n) (others g n) []) (gather-each chosen g n)
    ∙ ap (λ (l : List ℕ). each (λ y. cond (chosen y) (others g y) []) (up_to n) ++ l) (sym (append-nil (cond (chosen n) (others g n) [])))
    ∙ sym (each_append (λ y. cond (chosen y) (others g y) []) (up_to n) (n ∷ []))
    ∙ ap (each (λ y. cond (chosen y) (others g y) [])) (sym (up_to-end n))

module _ (g : Ground) (R : Ready g) (c : ℕ) where
  W : Planned g.plan
  W = R.tidy.planned

  -- The test picks entries of column c + 1 that are in it, by a test on their options.
  module _ (chosen : ℕ → Bool) (out : List Entry → Bool)
      (picks : (y : ℕ) → chosen y ≡ true → EntryOf g.plan y × (g.on y ≡ true) × (g.plan.col y ≡ c + 1))
      (tests : (y : ℕ) → EntryOf g.plan y → g.on y ≡ true → g.plan.col y ≡ c + 1 → chosen y ≡ out (option_at (state_of g) (g.plan.number y))) where
    -- what one option gives
    in_row : (k : ℕ) → k < g.plan.M
        → map (item_at g.plan) (each (others g) (keep chosen (nodes_in g.plan k)))
        ≡ cond (holds c (option_at (state_of g) k) && out (option_at (state_of g) k)) (around c (option_at (state_of g) k)) []
    in_row k h = go (T-dec (holds c o && out o))
      where
        o : List Entry
        o = option_at (state_of g) k

        go : T (holds c o && out o) ⊎ T (not (holds c o && out o)) → map (item_at g.plan) (each (others g) (keep chosen (nodes_in g.plan k))) ≡ cond (holds c o && out o) (around c o) []
        go (inl u) =
            let v = T_and (holds c o) (out o) u in
            let w = holds-node g.plan W g.on k c v.0 in
            let same : out (option_at (state_of g) (g.plan.number w.0)) ≡ out o = ap (λ (j : ℕ). out (option_at (state_of g) j)) w.1.option in
            let yes = tests w.0 w.1.entry w.1.is-on w.2 ∙ same ∙ T_true (out o) v.1 in
            ap (λ (l : List ℕ). map (item_at g.plan) (each (others g) l)) (row_one g.plan W chosen (c + 1) (λ y e. (picks y e).2) k h w.0 w.1.entry w.1.option yes)
            ∙ ap (map (item_at g.plan)) (append-nil (others g w.0))
            ∙ around-shown g R w.1 c w.2
            ∙ ap (λ (b : Bool). cond b (around c o) []) (sym (T_true (holds c o && out o) u))
        go (inr u) =
            ap (λ (l : List ℕ). map (item_at g.plan) (each (others g) l)) (row-none g.plan W chosen (c + 1) (λ y e. (picks y e).2) k h none)
            ∙ ap (λ (b : Bool). cond b (around c o) []) (sym (T_false (holds c o && out o) u))
          where
            none : (y : ℕ) → EntryOf g.plan y → g.plan.number y ≡ k → chosen y ≡ true → ⊥
            none y e n s =
                let w = picks y s in
                let same : out (option_at (state_of g) (g.plan.number y)) ≡ out o = ap (λ (j : ℕ). out (option_at (state_of g) j)) n in
                T_not (holds c o && out o) u
                (and_T (holds c o) (out o) (node-holds g.plan W g.on k y c (record { entry = e; option = n; is-on = w.1 }) w.2) (true-T (sym same ∙ sym (tests y e w.1 w.2) ∙ s)))

    pub gathered : map (item_at g.plan) (gather_to chosen g g.plan.N) ≡ each (λ o. cond (holds c o && out o) (around c o) []) (state_of g)
    gathered =
        let n : g.plan.N ≡ g.plan.N - 0 = omega arith in
        ap (map (item_at g.plan))
        (gather-each chosen g g.plan.N
        ∙ sym (each_keep chosen (others g) (up_to g.plan.N))
        ∙ ap (λ (m : ℕ). each (others g) (keep chosen (from 0 m))) n
        ∙ ap (each (others g)) (by_rows g.plan W chosen (λ y e. (picks y e).0) 0 (omega arith))
        ∙ each-each (λ k. keep chosen (nodes_in g.plan k)) (others g) (up_to g.plan.M))
        ∙ map_each (item_at g.plan) (λ k. each (others g) (keep chosen (nodes_in g.plan k))) (up_to g.plan.M)
        ∙ each-cong (λ k. map (item_at g.plan) (each (others g) (keep chosen (nodes_in g.plan k)))) (λ k. given (option_at (state_of g) k)) (up_to g.plan.M)
        (λ k m. in_row k (In-up_to g.plan.M m))
        ∙ sym (each_map (option_at (state_of g)) given (up_to g.plan.M))
        ∙ ap (each given) (sym (shown-options g.plan W g.on))
      where
        given : List Entry → List ℕ
        given o = cond (holds c o && out o) (around c o) []

  -- Hiding item c.
  pub hidden-picks : (y : ℕ) → hidden g (c + 1) y ≡ true → EntryOf g.plan y × (g.on y ≡ true) × (g.plan.col y ≡ c + 1)
  hidden-picks y e = column-entry g R.tidy (c + 1) y (hidden-inside g (c + 1) y e)

  pub hides-items : map (item_at g.plan) (hides g (c + 1)) ≡ leaving_hidden c (state_of g)
  unfolding hides
  hides-items =
      gathered (hidden g (c + 1)) (holds_uncoloured c) hidden-picks tests
      ∙ each-cong (λ o. cond (holds c o && holds_uncoloured c o) (around c o) []) (λ o. cond (holds_uncoloured c o) (around c o) []) (state_of g)
      (λ o m. ap (λ (b : Bool). cond b (around c o) [])
      (T-same (holds c o && holds_uncoloured c o) (holds_uncoloured c o) (λ u. (T_and (holds c o) (holds_uncoloured c o) u).1)
      (λ u. and_T (holds c o) (holds_uncoloured c o) (uncoloured-holds c o u) u)))
    where
      tests : (y : ℕ) → EntryOf g.plan y → g.on y ≡ true → g.plan.col y ≡ c + 1 → hidden g (c + 1) y ≡ holds_uncoloured c (option_at (state_of g) (g.plan.number y))
      tests y e o i =
          T-same (hidden g (c + 1) y) (holds_uncoloured c (option_at (state_of g) (g.plan.number y)))
          (λ u. node-uncoloured g.plan W g.on (g.plan.number y) y c l i (eqb→eq (g.plan.tint y) 0 (T_and (in_column g (c + 1) y) (eqb (g.plan.tint y) 0) u).1))
          (λ u.
          let w = uncoloured-node g.plan W g.on (g.plan.number y) c u in
          let same = one-node g.plan W g.on l w.1 (i ∙ sym w.2) in
          and_T (in_column g (c + 1) y) (eqb (g.plan.tint y) 0) (column← g R.tidy (c + 1) y e o i) (eq→eqb (g.plan.tint y) 0 (ap g.plan.tint same ∙ w.3)))
        where
          l : Linked g.plan g.on (g.plan.number y) y
          l = own-option g.plan W g.on e o

  -- Removing item c, which is redundant for p.
  pub leaving-picks : (p y : ℕ) → leaving g (c + 1) (p + 1) y ≡ true → EntryOf g.plan y × (g.on y ≡ true) × (g.plan.col y ≡ c + 1)
  leaving-picks p y e = column-entry g R.tidy (c + 1) y (leaving-inside g (c + 1) y (p + 1) e)

  pub leaves-items : (p : ℕ) → map (item_at g.plan) (leaves g (c + 1) (p + 1)) ≡ leaving_with c p (state_of g)
  unfolding leaves leaving_with
  leaves-items p = gathered (leaving g (c + 1) (p + 1)) (λ o. not (holds p o)) (leaving-picks p) tests
    where
      tests : (y : ℕ) → EntryOf g.plan y → g.on y ≡ true → g.plan.col y ≡ c + 1 → leaving g (c + 1) (p + 1) y ≡ not (holds p (option_at (state_of g) (g.plan.number y)))
      tests y e o i =
          ap (λ (b : Bool). b && not (holds_column g (g.plan.number y) (p + 1))) (T_true (in_column g (c + 1) y) (column← g R.tidy (c + 1) y e o i))
          ∙ ap not (column-holds g R.tidy (g.plan.number y) p e.option)
