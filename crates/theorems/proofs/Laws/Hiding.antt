-- Hiding c: every live option that holds c uncoloured leaves, its other entries one after another. The last item emptied on the way is the
-- p to take. Assumes nothing.
use Prim.Native.Nat.{ℕ}
use mathlib.Core.Path.{◌≡◌, refl, sym, ap, ◌∙◌}
use mathlib.Core.Logic.{◌⊎◌, inl, inr}
use mathlib.Core.Bool.{Bool, not, ◌&&◌, cond}
use mathlib.Core.List.{List, [], ◌∷◌, map, Memᴰ as In}
use mathlib.Core.Option.{Option, none, some}
use lib.Dec.{T, ltb, eqb, ltb→lt, lt→ltb, T_not, not_T}
use Rattle.rules.specs.Lists.{each, mem, or_else, last_that}
use Rattle.rules.specs.Problem.{Entry}
use Rattle.rules.specs.State.{State, holds, holds_uncoloured, in_live, around}
use Rattle.rules.specs.Redundant.{redundant_for, chosen}
use Rattle.theorems.proofs.Words.Tests.{T-dec, T_true, T_false, T_and, and_T, T-same, neqb→ne, ne→neqb, T-stable}
use Rattle.theorems.proofs.Words.Lists.{In-each-if, mem→}
use Rattle.theorems.proofs.Words.Choices.{last_that-none, none-last_that, last_that-cong, last_that-each}
use Rattle.theorems.proofs.Steps.States.{live←, around→, emptied_now, now→, now←}
use Rattle.theorems.proofs.Steps.LeftOut.{leave, In-left, left-In, live-left, left-live}
use Rattle.theorems.proofs.Steps.Redundancy.{redundant→, redundant←}
use Rattle.theorems.proofs.Laws.Walk.{chosen-walk}

-- what is left of an option, and of the state
abbrev pub hide : ℕ → List Entry → List Entry
hide c = leave (holds_uncoloured c)

abbrev pub hidden_state : ℕ → State → State
hidden_state c s = map (hide c) s

-- the items of the other entries of the options that leave, in order
abbrev pub leaving_hidden : ℕ → State → List ℕ
leaving_hidden c s = each (λ o. cond (holds_uncoloured c o) (around c o) []) s

-- Entries leave one after another, as for `first_emptied`: the last item that is left in no option, of those in question.
abbrev pub last_emptied : (ℕ → Bool) → State → List ℕ → Option ℕ
last_emptied which s [] = none
last_emptied which s (q ∷ qs) = or_else (last_emptied which s qs) (cond (emptied_now which s qs q) (some q) none)

-- The last one emptied is the last one that is in no option in the end: it has no later occurrence.
pub last_emptied-that : (which : ℕ → Bool) (s : State) (qs : List ℕ) → last_emptied which s qs ≡ last_that (λ q. which q && not (in_live q s)) qs
last_emptied-that which s [] = refl
last_emptied-that which s (q ∷ qs) = rw (last_emptied-that which s qs) (go (last_that out qs) refl)
  where
    out : ℕ → Bool
    out x = which x && not (in_live x s)

    alone : last_that out qs ≡ none → emptied_now which s qs q ≡ out q
    alone e =
        T-same (emptied_now which s qs q) (out q)
        (λ t. let w = now→ which s qs q t in and_T (which q) (not (in_live q s)) w.0 w.2)
        (λ t.
        let w = T_and (which q) (not (in_live q s)) t in
        now← which s qs q w.0 (not_T (mem q qs) (λ m. T_not (out q) (last_that-none out qs e (mem→ q qs m)) t)) w.1)

    go : (o : Option ℕ) → last_that out qs ≡ o → or_else o (cond (emptied_now which s qs q) (some q) none) ≡ or_else o (cond (out q) (some q) none)
    go none e = ap (λ (b : Bool). cond b (some q) none) (alone e)
    go (some x) e = refl

-- What is left

module _ (c : ℕ) (s : State) where
  pub In-hidden : {o : List Entry} → In o s → T (not (holds_uncoloured c o)) → In o (hidden_state c s)
  In-hidden m t = In-left (holds_uncoloured c) s m t

  -- an option that is left was there, and does not hold c uncoloured
  pub hidden-In : (q : ℕ) {v : List Entry} → In v (hidden_state c s) → T (holds q v) → In v s × T (not (holds_uncoloured c v))
  hidden-In q m t = left-In (holds_uncoloured c) s q m t

  pub live-hidden : (q : ℕ) {o : List Entry} → In o s → T (holds q o) → T (not (holds_uncoloured c o)) → T (in_live q (hidden_state c s))
  live-hidden q m h t = live-left (holds_uncoloured c) s q m h t

  pub hidden-live : (q : ℕ) → T (in_live q (hidden_state c s)) → (o : List Entry) × In o s × T (holds q o) × T (not (holds_uncoloured c o))
  hidden-live = left-live (holds_uncoloured c) s

  -- an item that leaves was live
  pub hidden-leaves : {q : ℕ} → In q (leaving_hidden c s) → T (in_live q s)
  hidden-leaves {q} m = let w = In-each-if (holds_uncoloured c) (around c) s m in live← q s w.1 (around→ c w.0 w.3)

-- The last one emptied

module _ (np : ℕ) (s : State) (c : ℕ) where
  -- what leaves is emptied exactly if c is redundant for it
  emptied-redundant : (q : ℕ) → In q (leaving_hidden c s)
      → ((ltb q np && not (eqb q c)) && not (in_live q (hidden_state c s))) ≡ redundant_for np s c q
  emptied-redundant q m =
      T-same ((ltb q np && not (eqb q c)) && not (in_live q (hidden_state c s))) (redundant_for np s c q) forth back
    where
      forth : T ((ltb q np && not (eqb q c)) && not (in_live q (hidden_state c s))) → T (redundant_for np s c q)
      forth t =
          let w = T_and (ltb q np && not (eqb q c)) (not (in_live q (hidden_state c s))) t in
          let v = T_and (ltb q np) (not (eqb q c)) w.0 in
          redundant← np s c q
          (record {
            primary = ltb→lt q np v.0;
            other = neqb→ne q c v.1;
            live = hidden-leaves c s m;
            only = λ o n h. T-stable (holds_uncoloured c o) (λ u. T_not (in_live q (hidden_state c s)) w.1 (live-hidden c s q n h u));
          })

      back : T (redundant_for np s c q) → T ((ltb q np && not (eqb q c)) && not (in_live q (hidden_state c s)))
      back t =
          let R = redundant→ np s c q t in
          and_T (ltb q np && not (eqb q c)) (not (in_live q (hidden_state c s)))
          (and_T (ltb q np) (not (eqb q c)) (lt→ltb q np R.primary) (ne→neqb q c R.other))
          (not_T (in_live q (hidden_state c s)) (λ u. let w = hidden-live c s q u in T_not (holds_uncoloured c w.0) w.3 (R.only w.0 w.1 w.2)))

  -- going round an option that stays meets none
  none_stays : (o : List Entry) → In o s → last_that (redundant_for np s c) (cond (holds_uncoloured c o) (around c o) []) ≡ last_that (redundant_for np s c) (around c o)
  none_stays o m = go (T-dec (holds_uncoloured c o))
    where
      go : T (holds_uncoloured c o) ⊎ T (not (holds_uncoloured c o))
          → last_that (redundant_for np s c) (cond (holds_uncoloured c o) (around c o) []) ≡ last_that (redundant_for np s c) (around c o)
      go (inl t) = rw (T_true (holds_uncoloured c o) t)
      go (inr t) =
          rw (T_false (holds_uncoloured c o) t)
          (sym (none-last_that (redundant_for np s c) (around c o)
          (λ q n. not_T (redundant_for np s c q) (λ u. T_not (holds_uncoloured c o) t ((redundant→ np s c q u).only o m (around→ c o n))))))

  pub hiding-finds : last_emptied (λ q. ltb q np && not (eqb q c)) (hidden_state c s) (leaving_hidden c s) ≡ chosen np s c
  hiding-finds =
      last_emptied-that (λ q. ltb q np && not (eqb q c)) (hidden_state c s) (leaving_hidden c s)
      ∙ last_that-cong (λ q. (ltb q np && not (eqb q c)) && not (in_live q (hidden_state c s))) (redundant_for np s c) (leaving_hidden c s) emptied-redundant
      ∙ last_that-each (redundant_for np s c) (λ o. cond (holds_uncoloured c o) (around c o) []) (around c) s none_stays
      ∙ chosen-walk np s c
