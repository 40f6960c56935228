-- A walk with counters. Entries leave one after another, and each takes one off its item's counter; an item whose counter comes to 0 is left
-- in no option. If the counters say how many live options hold each item, the walk finds the first item emptied, and the last. Assumes nothing.
use Prim.Native.Nat.{ℕ, suc, ◌+◌, ◌-◌}
use native.Mathlib.Omega.{arith}
use mathlib.Core.Path.{◌≡◌, refl, ◌∙◌}
use mathlib.Core.Logic.{◌≢◌}
use mathlib.Core.Bool.{Bool, true, false, not, ◌&&◌, cond}
use mathlib.Core.List.Memᴰ.{head as here}
use mathlib.Core.List.Memᴰ.{tail as next}
use mathlib.Core.List.{List, [], ◌∷◌, Memᴰ as In}
use mathlib.Core.Option.{Option, none, some}
use lib.Dec.{T, ltb, eqb, eqb→eq, not_T}
use borrow.Author.Tests.{eq-eqb}
use Rattle.rules.specs.Lists.{or_else, mem}
use Rattle.rules.specs.Problem.{Entry}
use Rattle.rules.specs.State.{State, holds, holds_uncoloured, in_live, items_of, first_emptied}
use Rattle.rules.specs.Redundant.{chosen, state_without, leaving_with}
use Rattle.rules.specs.Blocked.{state_spared, leaving_blocked}
use Rattle.rules.specs.Promises.{distinct}
use Rattle.theorems.proofs.Words.Tests.{T_and, and_T, T-same, eq→eqb}
use Rattle.theorems.proofs.Words.Lists.{any→}
use Rattle.theorems.proofs.Words.Counts.{count_none, count-pos}
use Rattle.theorems.proofs.Steps.States.{emptied_now, now→, now←}
use Rattle.theorems.proofs.Steps.Redundancy.{emptied_with}
use Rattle.theorems.proofs.Steps.Blocking.{emptied_blocked}
use Rattle.theorems.proofs.Laws.Hiding.{last_emptied, hidden_state, leaving_hidden, hiding-finds}
use Rattle.theorems.proofs.Laws.Held.{held, times, live-held, held-hidden, held-without, held-spared, leaving-other}

-- one off the counter of q
abbrev pub less : (ℕ → ℕ) → ℕ → ℕ → ℕ
less cnt q i = cond (eqb i q) (cnt i - 1) (cnt i)

-- the first item whose counter comes to 0, of those in question, and the last
abbrev pub counted_first : (ℕ → Bool) → (ℕ → ℕ) → List ℕ → Option ℕ
counted_first which cnt [] = none
counted_first which cnt (q ∷ qs) =
    let r = counted_first which (less cnt q) qs in
    cond (which q && eqb (cnt q - 1) 0) (some q) r

abbrev pub counted_last : (ℕ → Bool) → (ℕ → ℕ) → List ℕ → Option ℕ
counted_last which cnt [] = none
counted_last which cnt (q ∷ qs) =
    let r = cond (which q && eqb (cnt q - 1) 0) (some q) none in
    or_else (counted_last which (less cnt q) qs) r

-- The counters say of each item that has yet to leave, with qs to leave and s to stay, how many options hold it.
abbrev pub Counts : (ℕ → ℕ) → List ℕ → State → Type 0
Counts cnt qs s = (q : ℕ) → In q qs → cnt q ≡ times q qs + held q s

module _ (which : ℕ → Bool) (s : State) where
  -- they still do when one has left
  counts-less : (cnt : ℕ → ℕ) (q : ℕ) (qs : List ℕ) → Counts cnt (q ∷ qs) s → Counts (less cnt q) qs s
  counts-less cnt q qs C i m = go (eqb i q) (C i (next m))
    where
      go : (b : Bool) → cnt i ≡ cond b (suc (times i qs)) (times i qs) + held i s → cond b (cnt i - 1) (cnt i) ≡ times i qs + held i s
      go true e = omega arith
      go false e = e

  -- a counter comes to 0 exactly if its item is emptied
  comes-to-zero : (cnt : ℕ → ℕ) (q : ℕ) (qs : List ℕ) → Counts cnt (q ∷ qs) s → (which q && eqb (cnt q - 1) 0) ≡ emptied_now which s qs q
  comes-to-zero cnt q qs C = T-same (which q && eqb (cnt q - 1) 0) (emptied_now which s qs q) forth back
    where
      left : cnt q - 1 ≡ times q qs + held q s
      left = let e = rw (eq-eqb q q refl) at (C q (here refl)) in omega arith

      forth : T (which q && eqb (cnt q - 1) 0) → T (emptied_now which s qs q)
      forth t =
          let w = T_and (which q) (eqb (cnt q - 1) 0) t in
          let z = eqb→eq (cnt q - 1) 0 w.1 in
          let l = left in
          now← which s qs q w.0
          (not_T (mem q qs) (λ u. let v = any→ (eqb q) qs u in let p = count-pos (eqb q) qs v.1 v.2 in absurd (omega arith)))
          (not_T (in_live q s) (λ u. let p = live-held q s u in absurd (omega arith)))

      back : T (emptied_now which s qs q) → T (which q && eqb (cnt q - 1) 0)
      back t =
          let w = now→ which s qs q t in
          let a = count_none (eqb q) qs w.1 in
          let b = count_none (holds q) s w.2 in
          let l = left in
          and_T (which q) (eqb (cnt q - 1) 0) w.0 (eq→eqb (cnt q - 1) 0 (omega arith))

  pub counted-first : (cnt : ℕ → ℕ) (qs : List ℕ) → Counts cnt qs s → counted_first which cnt qs ≡ first_emptied which s qs
  counted-first cnt [] C = refl
  counted-first cnt (q ∷ qs) C = rw (comes-to-zero cnt q qs C, counted-first (less cnt q) qs (counts-less cnt q qs C))

  pub counted-last : (cnt : ℕ → ℕ) (qs : List ℕ) → Counts cnt qs s → counted_last which cnt qs ≡ last_emptied which s qs
  counted-last cnt [] C = refl
  counted-last cnt (q ∷ qs) C = rw (comes-to-zero cnt q qs C, counted-last (less cnt q) qs (counts-less cnt q qs C))

-- The three walks, with counters that say how many live options hold each item. Hiding c finds the p to take; removing c, and deleting the
-- blocked options, find the first primary item emptied. The counter of c is not looked at where c's own entries do not leave.
module _ (np : ℕ) (s : State) (once : (o : List Entry) → In o s → T (distinct (items_of o))) (cnt : ℕ → ℕ) where
  pub hiding-counted : (c : ℕ) → ((q : ℕ) → q ≢ c → cnt q ≡ held q s) → counted_last (λ q. ltb q np && not (eqb q c)) cnt (leaving_hidden c s) ≡ chosen np s c
  hiding-counted c C =
      counted-last (λ q. ltb q np && not (eqb q c)) (hidden_state c s) cnt (leaving_hidden c s)
      (λ q m.
      let ne = leaving-other s once (holds_uncoloured c) c m in
      let a = C q ne in
      let b = held-hidden s once c q ne in
      omega arith)
      ∙ hiding-finds np s c

  pub removing-counted : (c p : ℕ) → ((q : ℕ) → q ≢ c → cnt q ≡ held q s)
      → counted_first (λ q. ltb q np && not (eqb q c)) cnt (leaving_with c p s) ≡ emptied_with np c p s
  unfolding leaving_with
  removing-counted c p C =
      counted-first (λ q. ltb q np && not (eqb q c)) (state_without c p s) cnt (leaving_with c p s)
      (λ q m.
      let ne = leaving-other s once (λ o. holds c o && not (holds p o)) c m in
      let a = C q ne in
      let b = held-without s once c p q ne in
      omega arith)

  pub deleting-counted : (c : ℕ) → ((q : ℕ) → cnt q ≡ held q s) → counted_first (λ q. ltb q np) cnt (leaving_blocked np s c) ≡ emptied_blocked np c s
  deleting-counted c C =
      counted-first (λ q. ltb q np) (state_spared np s c) cnt (leaving_blocked np s c) (λ q m. let a = C q in let b = held-spared s once np c q in omega arith)
