-- The result, at nodes: kept items are those whose column is not empty, and walking down the columns upward, each node that is the first of its
-- option gives the next option of the result, its entries in the order of a walk from that node. Assumes nothing.
use Prim.Native.Nat.{ℕ, zero, suc, ◌+◌, ◌<◌}
use native.Mathlib.Omega.{arith}
use mathlib.Core.Path.{◌≡◌, refl, ◌∙◌, ap, sym, subst}
use mathlib.Core.Bool.{Bool, true, false, not}
use mathlib.Core.List.Memᴰ.{head as here}
use mathlib.Core.List.{List, [], ◌∷◌, map, map-map}
use lib.Dec.{T, ltb, ltb→lt, lt→ltb}
use Rattle.rules.specs.Lists.{keep, each, from, up_to}
use Rattle.rules.specs.Problem.{Entry}
use Rattle.rules.specs.State.{State, option_at, is, holds, begins, in_live}
use Rattle.rules.specs.Result.{Numbered, numbered, kept_items, kept_options}
use Rattle.theorems.proofs.Words.Tests.{T_true, T_false, true-T, T_and, and_T, T-same}
use Rattle.theorems.proofs.Words.Lists.{any←, keep→, keep-cong, map-cong, each-cong, In-up_to}
use Rattle.links.specs.Plan.{EntryOf, Header, Planned}
use Rattle.links.specs.Ground.{Ground}
use Rattle.links.specs.Row.{others}
use Rattle.links.specs.Shown.{entry_at, Ready}
use Rattle.links.specs.Taking.{length_of, in_column}
use Rattle.showing.specs.Showing.{state_of, full_before, first_in, option_from}
use Rattle.showing.proofs.Lists.{keep-map}
use Rattle.showing.proofs.Shows.{own-option, shown-options, holds-node}
use Rattle.showing.proofs.InOrder.{live-length, length-live, numbers-in-order}
use Rattle.showing.proofs.Around.{option-first, others-behind}
use Rattle.showing.proofs.Columns.{column→, column←}
use Rattle.showing.proofs.Begins.{begins-node}

-- an option that begins with c holds it
begins-holds : (c : ℕ) (o : List Entry) → T (begins (is c) o) → T (holds c o)
begins-holds c [] t = absurd t
begins-holds c (e ∷ o) t = any← (is c) (e ∷ o) (here refl) t

-- options numbered in a row
numbered-map : (f : ℕ → List Entry) (n i : ℕ) → numbered i (map f (from i n)) ≡ map (λ k. record { number = k; entries = f k }) (from i n)
numbered-map f zero i = refl
numbered-map f (suc n) i = ap (λ (l : List Numbered). record { number = i; entries = f i } ∷ l) (numbered-map f n (suc i))

module _ (g : Ground) (R : Ready g) where
  W : Planned g.plan
  W = R.tidy.planned

  -- an item is in a live option if its column is not empty
  pub live_test : (c : ℕ) → c < g.plan.n → in_live c (state_of g) ≡ ltb 0 (length_of g (c + 1))
  live_test c h = T-same (in_live c (state_of g)) (ltb 0 (length_of g (c + 1)))
      (λ t. lt→ltb 0 (length_of g (c + 1)) (let n = live-length g R.tidy c header on t in omega (arith, n)))
      (λ t. length-live g R.tidy c header on (λ e. let l = ltb→lt 0 (length_of g (c + 1)) t in omega arith))
    where
      header : Header g.plan (c + 1)
      header = record { above = omega arith; below = omega arith }

      on : g.on (c + 1) ≡ true
      on = R.whole.headers (c + 1) header

  pub kept-items : kept_items g.plan.n (state_of g) ≡ keep (λ c. ltb 0 (length_of g (c + 1))) (up_to g.plan.n)
  unfolding kept_items
  kept-items = keep-cong (λ c. in_live c (state_of g)) (λ c. ltb 0 (length_of g (c + 1))) (up_to g.plan.n) (λ c m. live_test c (In-up_to g.plan.n m))

  -- the options that begin with c, by the nodes of column c + 1 that are the first of theirs
  pub firsts-numbers : (c : ℕ) → map g.plan.number (keep (first_in g (c + 1)) (up_to g.plan.N)) ≡ keep (λ k. begins (is c) (option_at (state_of g) k)) (up_to g.plan.M)
  firsts-numbers c = numbers-in-order g.plan W (first_in g (c + 1)) (c + 1) (λ k. begins (is c) (option_at (state_of g) k)) sound found
    where
      sound : (y : ℕ) → first_in g (c + 1) y ≡ true → EntryOf g.plan y × (g.plan.col y ≡ c + 1) × T (begins (is c) (option_at (state_of g) (g.plan.number y)))
      sound y e =
          let w = T_and (in_column g (c + 1) y) (not (full_before g y)) (true-T e) in
          let v = column→ g R.tidy (c + 1) y w.0 in
          (v.0, v.2, subst (λ (b : Bool). T b) (sym (begins-node g R (own-option g.plan W g.on v.0 v.1) c v.2)) w.1)

      found : (k : ℕ) → k < g.plan.M → T (begins (is c) (option_at (state_of g) k)) → (y : ℕ) × EntryOf g.plan y × (g.plan.number y ≡ k) × (first_in g (c + 1) y ≡ true)
      found k h t =
          let w = holds-node g.plan W g.on k c (begins-holds c (option_at (state_of g) k) t) in
          let l = w.1 in (
            w.0,
            l.entry,
            l.option,
            T_true (first_in g (c + 1) w.0)
                (and_T (in_column g (c + 1) w.0) (not (full_before g w.0)) (column← g R.tidy (c + 1) w.0 l.entry l.is-on w.2) (subst (λ (b : Bool). T b) (begins-node g R l c w.2) t)),
          )

  -- the entries of such an option, in the order of a walk from its first node
  pub option-walk : (y : ℕ) → EntryOf g.plan y → g.on y ≡ true → full_before g y ≡ false → option_at (state_of g) (g.plan.number y) ≡ map (entry_at g.plan) (y ∷ others g y)
  option-walk y e o f =
      let l = own-option g.plan W g.on e o in
      option-first g R l f ∙ ap (λ (m : List ℕ). map (entry_at g.plan) (y ∷ m)) (sym (others-behind g R l f))

  pub kept-options : (n : ℕ) → kept_options n (state_of g) ≡ each (λ c. map (option_from g) (keep (first_in g (c + 1)) (up_to g.plan.N))) (up_to n)
  unfolding kept_options
  kept-options n = each-cong (λ c. keep (λ x. begins (is c) x.entries) (numbered 0 (state_of g)))
      (λ c. map (option_from g) (keep (first_in g (c + 1)) (up_to g.plan.N))) (up_to n) (λ c m. one c)
    where
      under : ℕ → Numbered
      under k = record { number = k; entries = option_at (state_of g) k }

      same : (c y : ℕ) → T (first_in g (c + 1) y) → under (g.plan.number y) ≡ option_from g y
      same c y t =
          let w = T_and (in_column g (c + 1) y) (not (full_before g y)) t in
          let v = column→ g R.tidy (c + 1) y w.0 in
          ap (λ (o : List Entry). record { number = g.plan.number y; entries = o }) (option-walk y v.0 v.1 (T_false (full_before g y) w.1))

      one : (c : ℕ) → keep (λ x. begins (is c) x.entries) (numbered 0 (state_of g)) ≡ map (option_from g) (keep (first_in g (c + 1)) (up_to g.plan.N))
      one c =
          ap (λ (s : State). keep (λ x. begins (is c) x.entries) (numbered 0 s)) (shown-options g.plan W g.on)
          ∙ ap (keep (λ x. begins (is c) x.entries)) (numbered-map (option_at (state_of g)) g.plan.M 0)
          ∙ keep-map (λ x. begins (is c) x.entries) under (up_to g.plan.M)
          ∙ ap (map under) (sym (firsts-numbers c))
          ∙ map-map under g.plan.number (keep (first_in g (c + 1)) (up_to g.plan.N))
          ∙ map-cong (λ y. under (g.plan.number y)) (option_from g) (keep (first_in g (c + 1)) (up_to g.plan.N)) (λ y m. same c y (keep→ (first_in g (c + 1)) (up_to g.plan.N) m).1)
