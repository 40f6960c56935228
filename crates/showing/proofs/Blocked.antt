-- The block test, made at nodes while item c is hidden, answers what the rules say of the tested option. Assumes nothing.
use Prim.Native.Nat.{ℕ, zero, suc, ◌+◌, ◌-◌}
use native.Mathlib.Omega.{arith}
use mathlib.Core.Path.{◌≡◌, refl, ◌∙◌, ap, sym, subst}
use mathlib.Core.Logic.{◌≢◌}
use mathlib.Core.Bool.{Bool, true, false, ◌&&◌, ◌||◌, not}
use mathlib.Core.List.{List, ◌∷◌, map, Memᴰ as In}
use mathlib.Core.Option.{none}
use lib.Dec.{T, eqb, eqb→eq, T_not}
use Rattle.rules.specs.Lists.{any, all, from, up_to}
use Rattle.rules.specs.Problem.{Entry}
use Rattle.rules.specs.State.{option_at, is_uncoloured, holds, holds_uncoloured, begins, in_live}
use Rattle.rules.specs.Redundant.{chosen}
use Rattle.rules.specs.Blocked.{agree, clashes, blocked}
use Rattle.theorems.proofs.Words.Tests.{T_true, true-T, false-T, T_and, and_T, T-same, T-imp, imp-T, eq→eqb}
use Rattle.theorems.proofs.Words.Lists.{any→, any←, all→, all←, any-cong, any-map, map-In, In-map}
use Rattle.theorems.proofs.Steps.Blocking.{clashes→, clashes←}
use Rattle.theorems.proofs.Laws.Hiding.{hidden_state, In-hidden, hidden-In, live-hidden, hidden-live}
use Rattle.theorems.proofs.Laws.AnyOrder.{shut_out, Others, blocked-any-order}
use Rattle.links.specs.Plan.{start, lo, hi, EntryOf, Planned}
use Rattle.links.specs.Ground.{Ground, taken}
use Rattle.links.specs.Row.{span, full, others}
use Rattle.links.specs.Shown.{entry_at, Ready}
use Rattle.links.specs.Taking.{in_column, hides, nodes_of, clashes_at, shut_at, node_blocked}
use Rattle.links.proofs.Plans.{entry-from, entry-till}
use Rattle.links.proofs.Spans.{span-In}
use Rattle.links.proofs.Rows.{In-others, others-In}
use Rattle.showing.specs.Showing.{state_of, full_before}
use Rattle.showing.proofs.Shows.{Linked, item-col, col-item, same-col, own-option, shown-In, In-shown, holds-node, node-holds, option-In, In-option}
use Rattle.showing.proofs.InOrder.{nodes_in, In-nodes, nodes-In}
use Rattle.showing.proofs.Around.{full-linked}
use Rattle.showing.proofs.Begins.{begins-uncoloured}
use Rattle.showing.proofs.Columns.{column→, column←, column-holds}
use Rattle.links.proofs.Passing.{others-within}
use Rattle.showing.proofs.HiddenStates.{hiding, hiding-is, hiding-tidy, hiding→, hiding←, hiding-full, hiding-others}

-- columns are items, one further on
from-items : (n i : ℕ) → from (suc i) n ≡ map (λ q. q + 1) (from i n)
from-items zero i = refl
from-items (suc n) i = let e : suc i ≡ i + 1 = omega arith in ap (λ (j : ℕ). j ∷ from (suc (suc i)) n) e ∙ ap (λ (l : List ℕ). (i + 1) ∷ l) (from-items n (suc i))

module _ (g : Ground) (R : Ready g) (c : ℕ) where
  W : Planned g.plan
  W = R.tidy.planned

  -- An entry in its column while c is hidden, off column c, is of an option that is left; and so back.
  left→ : (q y : ℕ) → q ≢ c → T (in_column (hiding g c) (q + 1) y)
      → EntryOf g.plan y × (g.on y ≡ true) × (g.plan.col y ≡ q + 1) × T (not (holds_uncoloured c (option_at (state_of g) (g.plan.number y))))
  left→ q y n t =
      let w = column→ (hiding g c) (hiding-tidy g R c) (q + 1) y t in
      let v = hiding→ g R c y w.0 w.1 in
      (w.0, v.0, w.2, v.1 (λ e. n (omega (arith, w.2, e))))

  left← : (q k y : ℕ) → Linked g.plan g.on k y → g.plan.col y ≡ q + 1 → T (not (holds_uncoloured c (option_at (state_of g) k))) → T (in_column (hiding g c) (q + 1) y)
  left← q k y l i t =
      column← (hiding g c) (hiding-tidy g R c) (q + 1) y l.entry
      (hiding← g R c y l.is-on (subst (λ (j : ℕ). T (not (holds_uncoloured c (option_at (state_of g) j)))) (sym l.option) t)) i

  node-In : (y : ℕ) → EntryOf g.plan y → In y (nodes_of (hiding g c))
  node-In y e = span-In (start g.plan) g.plan.N (entry-from g.plan W y e) (entry-till g.plan W y e)

  -- A column other than c's is not empty if its item is in an option that is left.
  some_left : (q : ℕ) → q ≢ c → any (in_column (hiding g c) (q + 1)) (nodes_of (hiding g c)) ≡ in_live q (hidden_state c (state_of g))
  some_left q n = T-same (any (in_column (hiding g c) (q + 1)) (nodes_of (hiding g c))) (in_live q (hidden_state c (state_of g))) forth back
    where
      forth : T (any (in_column (hiding g c) (q + 1)) (nodes_of (hiding g c))) → T (in_live q (hidden_state c (state_of g)))
      forth t =
          let w = any→ (in_column (hiding g c) (q + 1)) (nodes_of (hiding g c)) t in
          let v = left→ q w.0 n w.2 in
          live-hidden c (state_of g) q (option-In g.plan W g.on (g.plan.number w.0) v.0.option)
          (node-holds g.plan W g.on (g.plan.number w.0) w.0 q (own-option g.plan W g.on v.0 v.1) v.2) v.3

      back : T (in_live q (hidden_state c (state_of g))) → T (any (in_column (hiding g c) (q + 1)) (nodes_of (hiding g c)))
      back t =
          let w = hidden-live c (state_of g) q t in
          let k = In-option g.plan W g.on w.1 in
          let v = holds-node g.plan W g.on k.0 q (subst (λ (o : List Entry). T (holds q o)) (sym k.2) w.2) in
          any← (in_column (hiding g c) (q + 1)) (nodes_of (hiding g c)) (node-In v.0 v.1.entry)
          (left← q k.0 v.0 v.1 v.2 (subst (λ (o : List Entry). T (not (holds_uncoloured c o))) (sym k.2) w.3))

  -- The tested option's node r, of column c.
  module _ (r : ℕ) (e : EntryOf g.plan r) (o : g.on r ≡ true) (i : g.plan.col r ≡ c + 1) where
    l : Linked g.plan g.on (g.plan.number r) r
    l = own-option g.plan W g.on e o

    -- its items
    own-items : (q : ℕ) → any (λ z. full (hiding g c).heads z && eqb (g.plan.col z) (q + 1)) (span (lo g.plan r) (hi g.plan r)) ≡ holds q (option_at (state_of g) (g.plan.number r))
    own-items q =
        any-cong (λ z. full (hiding g c).heads z && eqb (g.plan.col z) (q + 1)) (λ z. g.on z && eqb (g.plan.col z) (q + 1)) (nodes_in g.plan (g.plan.number r))
        (λ z m. let w = In-nodes g.plan W (g.plan.number r) e.option m in
        ap (λ (b : Bool). b && eqb (g.plan.col z) (q + 1)) (hiding-full g R c z w.0 ∙ full-linked g R l z w.0 w.1))
        ∙ column-holds g R.tidy (g.plan.number r) q e.option

    -- its other entries
    rest-are : Others c (option_at (state_of g) (g.plan.number r)) (map (entry_at g.plan) (others g r))
    rest-are x = (forth, back)
      where
        forth : In x (map (entry_at g.plan) (others g r)) → In x (option_at (state_of g) (g.plan.number r)) × (x.item ≢ c)
        forth m =
            let w = In-map (entry_at g.plan) (others g r) m in
            let v = In-others g R.tidy r e w.1 in
            let z : Linked g.plan g.on (g.plan.number r) w.0 = record { entry = v.0; option = v.1; is-on = (others-within g R r e o w.1).on } in (
              subst (λ (x : Entry). In x (option_at (state_of g) (g.plan.number r))) (sym w.2) (In-shown g.plan W g.on (g.plan.number r) w.0 z),
              λ q. v.2 (W.once w.0 r v.0 e v.1 (item-col g.plan W v.0 c (ap (λ (x : Entry). x.item) (sym w.2) ∙ q) ∙ sym i)),
            )

        back : In x (option_at (state_of g) (g.plan.number r)) × (x.item ≢ c) → In x (map (entry_at g.plan) (others g r))
        back m =
            let w = shown-In g.plan W g.on (g.plan.number r) m.0 in
            let z = w.1 in
            let n : w.0 ≢ r = λ q. m.1 (ap (λ (x : Entry). x.item) w.2 ∙ col-item g.plan W w.0 c (ap g.plan.col q ∙ i)) in
            subst (λ (x : Entry). In x (map (entry_at g.plan) (others g r))) (sym w.2)
            (map-In (entry_at g.plan) (others g r) (others-In g R.tidy r e z.entry z.option n (R.tidy.full w.0 z.entry z.is-on)))

    -- an option that is left clashes with it at nodes if it does at entries
    clash-left : (y : ℕ) → EntryOf g.plan y → T (not (holds_uncoloured c (option_at (state_of g) (g.plan.number y))))
        → clashes_at (hiding g c) r y ≡ any (λ x. clashes x (option_at (state_of g) (g.plan.number y))) (map (entry_at g.plan) (others g r))
    clash-left y f t =
        ap (any (λ x. any (λ p. (hiding g c).on p && eqb (g.plan.col p) (g.plan.col x) && not (agree (g.plan.tint x) (g.plan.tint p)))
        (nodes_in g.plan (g.plan.number y)))) (hiding-others g R c r e)
        ∙ any-cong (λ x. any (λ p. (hiding g c).on p && eqb (g.plan.col p) (g.plan.col x) && not (agree (g.plan.tint x) (g.plan.tint p))) (nodes_in g.plan (g.plan.number y)))
        (λ x. clashes (entry_at g.plan x) v) (others g r) (λ x m. one x (In-others g R.tidy r e m).0)
        ∙ sym (any-map (entry_at g.plan) (λ x. clashes x v) (others g r))
      where
        v : List Entry
        v = option_at (state_of g) (g.plan.number y)

        one : (x : ℕ) → EntryOf g.plan x
            → any (λ p. (hiding g c).on p && eqb (g.plan.col p) (g.plan.col x) && not (agree (g.plan.tint x) (g.plan.tint p)))
            (nodes_in g.plan (g.plan.number y)) ≡ clashes (entry_at g.plan x) v
        one x d = T-same (any test (nodes_in g.plan (g.plan.number y))) (clashes (entry_at g.plan x) v) forth back
          where
            test : ℕ → Bool
            test p = (hiding g c).on p && eqb (g.plan.col p) (g.plan.col x) && not (agree (g.plan.tint x) (g.plan.tint p))

            forth : T (any test (nodes_in g.plan (g.plan.number y))) → T (clashes (entry_at g.plan x) v)
            forth u =
                let w = any→ test (nodes_in g.plan (g.plan.number y)) u in
                let n = In-nodes g.plan W (g.plan.number y) f.option w.1 in
                let a = T_and ((hiding g c).on w.0 && eqb (g.plan.col w.0) (g.plan.col x)) (not (agree (g.plan.tint x) (g.plan.tint w.0))) w.2 in
                let b = T_and ((hiding g c).on w.0) (eqb (g.plan.col w.0) (g.plan.col x)) a.0 in
                let z : Linked g.plan g.on (g.plan.number y) w.0 = record { entry = n.0; option = n.1; is-on = (hiding→ g R c w.0 n.0 (T_true ((hiding g c).on w.0) b.0)).0 } in
                clashes← (entry_at g.plan x) v (In-shown g.plan W g.on (g.plan.number y) w.0 z)
                (ap (λ (j : ℕ). j - 1) (eqb→eq (g.plan.col w.0) (g.plan.col x) b.1)) a.1

            back : T (clashes (entry_at g.plan x) v) → T (any test (nodes_in g.plan (g.plan.number y)))
            back u =
                let w = clashes→ (entry_at g.plan x) v u in
                let s = shown-In g.plan W g.on (g.plan.number y) w.1 in
                let z = s.1 in
                let same : g.plan.col s.0 ≡ g.plan.col x = same-col g.plan W z.entry d (ap (λ (h : Entry). h.item) (sym s.2) ∙ w.2) in
                let on : (hiding g c).on s.0 ≡ true = hiding← g R c s.0 z.is-on (subst (λ (j : ℕ). T (not (holds_uncoloured c (option_at (state_of g) j)))) (sym z.option) t) in
                any← test (nodes_in g.plan (g.plan.number y)) (nodes-In g.plan W (g.plan.number y) z.entry z.option)
                (and_T ((hiding g c).on s.0 && eqb (g.plan.col s.0) (g.plan.col x)) (not (agree (g.plan.tint x) (g.plan.tint s.0)))
                (and_T ((hiding g c).on s.0) (eqb (g.plan.col s.0) (g.plan.col x)) (true-T on) (eq→eqb (g.plan.col s.0) (g.plan.col x) same))
                (subst (λ (h : Entry). T (not (agree (g.plan.tint x) h.colour))) s.2 w.3))

    all_left : (q : ℕ) → q ≢ c
        → all (λ y. not (in_column (hiding g c) (q + 1) y) || clashes_at (hiding g c) r y) (nodes_of (hiding g c))
        ≡ all (λ v. not (holds q v) || any (λ x. clashes x v) (map (entry_at g.plan) (others g r))) (hidden_state c (state_of g))
    all_left q n =
        T-same (all there (nodes_of (hiding g c))) (all left (hidden_state c (state_of g)))
        (λ t. all← left (hidden_state c (state_of g)) (λ v m. imp-T (holds q v) (meets v) (λ h. forth t v m h)))
        (λ t. all← there (nodes_of (hiding g c)) (λ y m. imp-T (in_column (hiding g c) (q + 1) y) (clashes_at (hiding g c) r y) (λ h. back t y h)))
      where
        meets : List Entry → Bool
        meets v = any (λ x. clashes x v) (map (entry_at g.plan) (others g r))

        left : List Entry → Bool
        left v = not (holds q v) || any (λ x. clashes x v) (map (entry_at g.plan) (others g r))

        there : ℕ → Bool
        there y = not (in_column (hiding g c) (q + 1) y) || clashes_at (hiding g c) r y

        forth : T (all there (nodes_of (hiding g c))) → (v : List Entry) → In v (hidden_state c (state_of g)) → T (holds q v) → T (meets v)
        forth t v m h =
            let a = hidden-In c (state_of g) q m h in
            let k = In-option g.plan W g.on a.0 in
            let w = holds-node g.plan W g.on k.0 q (subst (λ (x : List Entry). T (holds q x)) (sym k.2) h) in
            let j = w.1 in
            let not-c : T (not (holds_uncoloured c (option_at (state_of g) k.0))) = subst (λ (x : List Entry). T (not (holds_uncoloured c x))) (sym k.2) a.1 in
            let u : T (clashes_at (hiding g c) r w.0) =
            T-imp (in_column (hiding g c) (q + 1) w.0) (clashes_at (hiding g c) r w.0) (all→ there (nodes_of (hiding g c)) t (node-In w.0 j.entry)) (left← q k.0 w.0 j w.2 not-c) in
            let same : option_at (state_of g) (g.plan.number w.0) ≡ v = ap (option_at (state_of g)) j.option ∙ k.2 in
            subst (λ (x : List Entry). T (meets x)) same
            (subst (λ (b : Bool). T b) (clash-left w.0 j.entry (subst (λ (x : List Entry). T (not (holds_uncoloured c x))) (sym same) a.1)) u)

        back : T (all left (hidden_state c (state_of g))) → (y : ℕ) → T (in_column (hiding g c) (q + 1) y) → T (clashes_at (hiding g c) r y)
        back t y h =
            let w = left→ q y n h in
            let v = option_at (state_of g) (g.plan.number y) in
            let u = all→ left (hidden_state c (state_of g)) t (In-hidden c (state_of g) (option-In g.plan W g.on (g.plan.number y) w.0.option) w.3) in
            subst (λ (b : Bool). T b) (sym (clash-left y w.0 w.3))
            (T-imp (holds q v) (meets v) u (node-holds g.plan W g.on (g.plan.number y) y q (own-option g.plan W g.on w.0 w.1) w.2))

    shuts_out : (q : ℕ) → shut_at (hiding g c) r (q + 1) ≡ shut_out (λ v. any (λ x. clashes x v) (map (entry_at g.plan) (others g r))) (hidden_state c (state_of g))
        (option_at (state_of g) (g.plan.number r)) q
    shuts_out q =
        ap (λ (b : Bool). not b && any (in_column (hiding g c) (q + 1)) (nodes_of (hiding g c)) && all
        (λ y. not (in_column (hiding g c) (q + 1) y) || clashes_at (hiding g c) r y) (nodes_of (hiding g c))) (own-items q)
        ∙ go (holds q (option_at (state_of g) (g.plan.number r))) refl
      where
        go : (b : Bool) → holds q (option_at (state_of g) (g.plan.number r)) ≡ b
            → (not b && any (in_column (hiding g c) (q + 1)) (nodes_of (hiding g c)) && all
            (λ y. not (in_column (hiding g c) (q + 1) y) || clashes_at (hiding g c) r y) (nodes_of (hiding g c)))
            ≡ (not b && in_live q (hidden_state c (state_of g)) && all (λ v. not (holds q v) || any (λ x. clashes x v) (map (entry_at g.plan) (others g r))) (hidden_state c (state_of g)))
        go true h = refl
        go false h =
            let n : q ≢ c = λ d. T_not (holds q (option_at (state_of g) (g.plan.number r))) (false-T h) (node-holds g.plan W g.on (g.plan.number r) r q l (omega (arith, i, d))) in
            rw (some_left q n, all_left q n)

    -- The test of an option that begins with c, uncoloured, where c is not redundant.
    pub blocked-shown : (np : ℕ) → chosen np (state_of g) c ≡ none → g.plan.tint r ≡ 0 → full_before g r ≡ false
        → node_blocked (taken g (hides g (c + 1))) r np ≡ blocked np (state_of g) c (option_at (state_of g) (g.plan.number r))
    unfolding node_blocked
    blocked-shown np n z b =
        ap (λ (h : Ground). any (shut_at h r) (from 1 np)) (hiding-is g c)
        ∙ ap (any (shut_at (hiding g c) r)) (from-items np 0)
        ∙ any-map (λ q. q + 1) (shut_at (hiding g c) r) (up_to np)
        ∙ any-cong (λ q. shut_at (hiding g c) r (q + 1))
        (shut_out (λ v. any (λ x. clashes x v) (map (entry_at g.plan) (others g r))) (hidden_state c (state_of g)) (option_at (state_of g) (g.plan.number r))) (up_to np)
        (λ q m. shuts_out q)
        ∙ sym (blocked-any-order np (state_of g) c n (option_at (state_of g) (g.plan.number r)) begin (map (entry_at g.plan) (others g r)) rest-are)
      where
        begin : T (begins (is_uncoloured c) (option_at (state_of g) (g.plan.number r)))
        begin = true-T (begins-uncoloured g R l c i ∙ rw (b, z))
