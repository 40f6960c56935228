-- How many live options hold an item: what is counted before some entries leave is what is counted after, and the entries of the item that
-- left. Assumes nothing.
use Prim.Native.Nat.{ℕ, suc, ◌+◌, ◌<◌}
use native.Mathlib.Omega.{arith}
use mathlib.Core.Path.{◌≡◌, refl, sym, ap, ◌∙◌}
use mathlib.Core.Logic.{◌⊎◌, inl, inr, ◌≢◌}
use mathlib.Core.Bool.{Bool, true, false, not, ◌&&◌, ◌||◌, cond}
use mathlib.Core.List.Memᴰ
use mathlib.Core.List.Memᴰ.{append_cases as In-append}
use mathlib.Core.List.Memᴰ.{head as here}
use mathlib.Core.List.Memᴰ.{not-nil}
use mathlib.Core.List.Memᴰ.{tail as next}
use mathlib.Core.List.{List, [], ◌∷◌, ◌++◌, map, Memᴰ as In}
use lib.Dec.{T, eqb, eqb→eq, not_T}
use borrow.Author.Tests.{ne_eqb}
use Rattle.rules.specs.Lists.{count, each, mem}
use Rattle.rules.specs.Problem.{Entry}
use Rattle.rules.specs.State.{State, is, holds, holds_uncoloured, in_live, entries_after, entries_before, items_of, around}
use Rattle.rules.specs.Redundant.{shortened, state_without, leaving_with}
use Rattle.rules.specs.Blocked.{condemned, state_spared, second_to_first, leaving_blocked}
use Rattle.rules.specs.Promises.{distinct}
use Rattle.theorems.proofs.Words.Tests.{T_true, T_false, T-same, eqb-sym, T-stable}
use Rattle.theorems.proofs.Words.Lists.{any→, map-In, In-map, In-each-if, mem→}
use Rattle.theorems.proofs.Words.Counts.{count-pos, count_none, count-append, count_map, count-cong, count-reverse}
use Rattle.theorems.proofs.Words.Distinct.{distinct→}
use Rattle.theorems.proofs.Steps.States.{before→}
use Rattle.theorems.proofs.Steps.LeftOut.{leave}
use Rattle.theorems.proofs.Steps.Redundancy.{Fate, stays, loses, leaves, fate, shortened-deleted, shortened-holds, holds-shortened}
use Rattle.theorems.proofs.Steps.Blocking.{spare}
use Rattle.theorems.proofs.Laws.Hiding.{hide, hidden_state, leaving_hidden}

-- how many live options hold q, and how many times it is in a list
abbrev pub held : ℕ → State → ℕ
held q s = count (holds q) s

abbrev pub times : ℕ → List ℕ → ℕ
times q qs = count (eqb q) qs

pub held-live : (q : ℕ) (s : State) → 0 < held q s → T (in_live q s)
held-live q s h = T-stable (in_live q s) (λ t. let z = count_none (holds q) s t in absurd (omega arith))

pub live-held : (q : ℕ) (s : State) → T (in_live q s) → 0 < held q s
live-held q s t = let w = any→ (holds q) s t in count-pos (holds q) s w.1 w.2

-- options that are left out hold nothing
pub held-left : (out : List Entry → Bool) (q : ℕ) (s : State) → held q (map (leave out) s) ≡ count (λ o. not (out o) && holds q o) s
held-left out q s =
    count_map (leave out) (holds q) s ∙ count-cong (λ o. holds q (leave out o)) (λ o. not (out o) && holds q o) s (λ o m. go o (out o))
  where
    go : (o : List Entry) (b : Bool) → holds q (cond b [] o) ≡ (not b && holds q o)
    go o true = refl
    go o false = refl

-- How many times an item is in one option

abbrev pub one : Bool → ℕ
one b = cond b 1 0

-- once, if the option holds it
pub times-items : (q : ℕ) (o : List Entry) → T (distinct (items_of o)) → times q (items_of o) ≡ one (holds q o)
times-items q [] t = refl
times-items q (e ∷ o) t =
    let w = distinct→ e.item (items_of o) t in
    rw (eqb-sym e.item q) (go (eqb q e.item) refl w.0 (times-items q o w.1))
  where
    go : (b : Bool) → eqb q e.item ≡ b → (In e.item (items_of o) → ⊥) → times q (items_of o) ≡ one (holds q o)
        → cond b (suc (times q (items_of o))) (times q (items_of o)) ≡ one (b || holds q o)
    go true h u r = ap suc (count_none (eqb q) (items_of o) (not_T (mem q (items_of o)) (λ m. u (Memᴰ.cast (sym (eqb→eq q e.item (rw h tt))) (mem→ q (items_of o) m)))))
    go false h u r = r

-- going round it from c, any other item
pub times-around : (c q : ℕ) (o : List Entry) → q ≢ c → times q (around c o) ≡ times q (items_of o)
unfolding around
times-around c q o ne =
    let a = count_map (λ (e : Entry). e.item) (eqb q) (entries_after c o ++ entries_before c o) in
    let b = count-append own (entries_after c o) (entries_before c o) in
    let d = count_map (λ (e : Entry). e.item) (eqb q) o in
    let r = parts o in
    omega arith
  where
    own : Entry → Bool
    own e = eqb q e.item

    other : (e : Entry) → T (is c e) → own e ≡ false
    other e t = ne_eqb q e.item (λ h. ne (h ∙ eqb→eq e.item c t))

    parts : (l : List Entry) → count own (entries_after c l) + count own (entries_before c l) ≡ count own l
    parts [] = refl
    parts (e ∷ l) = go (is c e) refl (own e) refl (parts l)
      where
        go : (b : Bool) → is c e ≡ b → (d : Bool) → own e ≡ d → count own (entries_after c l) + count own (entries_before c l) ≡ count own l
            → count own (cond b l (entries_after c l)) + count own (cond b [] (e ∷ entries_before c l)) ≡ cond d (suc (count own l)) (count own l)
        go true h true k r = let f = other e (rw h tt) in let z : ◌≡◌ {A = ℕ} 0 1 = cc in absurd (omega arith)
        go true h false k r = omega arith
        go false h true k r = rw k (omega arith)
        go false h false k r = rw k (omega arith)

-- and never c
after-other : (c : ℕ) (o : List Entry) → T (distinct (items_of o)) → {e : Entry} → In e (entries_after c o) → e.item ≢ c
after-other c [] t m = absurd (not-nil m)
after-other c (d ∷ o) t {e} m = go (is c d) refl m (distinct→ d.item (items_of o) t) (λ u n. after-other c o u n)
  where
    go : (b : Bool) → is c d ≡ b → In e (cond b o (entries_after c o)) → (In d.item (items_of o) → ⊥) × T (distinct (items_of o))
        → (T (distinct (items_of o)) → In e (entries_after c o) → e.item ≢ c) → e.item ≢ c
    go true h n w r = λ k. w.0 (Memᴰ.cast (eqb→eq d.item c (rw h tt) ∙ sym k) (map-In (λ (x : Entry). x.item) o n))
    go false h n w r = r w.1 n

pub around-other : (c : ℕ) (o : List Entry) → T (distinct (items_of o)) → {q : ℕ} → In q (around c o) → q ≢ c
unfolding around
around-other c o t {q} m =
    let w = In-map (λ (e : Entry). e.item) (entries_after c o ++ entries_before c o) m in
    go w.0 w.2 (In-append (entries_after c o) w.1)
  where
    go : (e : Entry) → q ≡ e.item → In e (entries_after c o) ⊎ In e (entries_before c o) → q ≢ c
    go e h (inl n) = λ k. after-other c o t n (sym h ∙ k)
    go e h (inr n) = λ k. (before→ c o n).1 (sym h ∙ k)

pub times-second : (q : ℕ) (o : List Entry) → times q (second_to_first o) ≡ times q (items_of o)
times-second q [] = refl
times-second q (e ∷ o) = count-append (eqb q) (items_of o) (e.item ∷ []) ∙ go (eqb q e.item)
  where
    go : (b : Bool) → times q (items_of o) + cond b 1 0 ≡ cond b (suc (times q (items_of o))) (times q (items_of o))
    go true = omega arith
    go false = omega arith

-- Some entries leave. What stays of an option is `stay`, the items of the entries that leave are `yield`. If each option that held q holds it
-- still or yields it once, and no other does, then the holders of q before are those after, and the times that it left.
pub held-split : (stay : List Entry → List Entry) (yield : List Entry → List ℕ) (q : ℕ) (s : State)
    → ((o : List Entry) → In o s → one (holds q o) ≡ one (holds q (stay o)) + times q (yield o))
    → held q s ≡ held q (map stay s) + times q (each yield s)
held-split stay yield q [] h = refl
held-split stay yield q (o ∷ s) h =
    let a = count-append (eqb q) (yield o) (each yield s) in
    go (holds q o) (holds q (stay o)) (h o (here refl)) (held-split stay yield q s (λ x m. h x (next m))) a
  where
    go : (a b : Bool) → one a ≡ one b + times q (yield o) → held q s ≡ held q (map stay s) + times q (each yield s)
        → times q (yield o ++ each yield s) ≡ times q (yield o) + times q (each yield s)
        → cond a (suc (held q s)) (held q s) ≡ cond b (suc (held q (map stay s))) (held q (map stay s)) + times q (yield o ++ each yield s)
    go true true h r k = omega arith
    go true false h r k = omega arith
    go false true h r k = omega arith
    go false false h r k = omega arith

-- an option stays as it is, or leaves and yields q once if it holds it
whole : (q : ℕ) (o : List Entry) (items : List ℕ) (out : Bool) → times q items ≡ one (holds q o) → one (holds q o) ≡ one (holds q (cond out [] o)) + times q (cond out items [])
whole q o items true h = omega arith
whole q o items false h = omega arith

module _ (s : State) (once : (o : List Entry) → In o s → T (distinct (items_of o))) where
  yields : (c q : ℕ) → q ≢ c → (o : List Entry) → In o s → times q (around c o) ≡ one (holds q o)
  yields c q ne o m = times-around c q o ne ∙ times-items q o (once o m)

  -- an option that leaves going round from c yields no c
  pub leaving-other : (out : List Entry → Bool) (c : ℕ) {q : ℕ} → In q (each (λ o. cond (out o) (around c o) []) s) → q ≢ c
  leaving-other out c m = let w = In-each-if out (around c) s m in around-other c w.0 (once w.0 w.1) w.3

  pub held-hidden : (c q : ℕ) → q ≢ c → held q s ≡ held q (hidden_state c s) + times q (leaving_hidden c s)
  held-hidden c q ne = held-split (hide c) (λ o. cond (holds_uncoloured c o) (around c o) []) q s (λ o m. whole q o (around c o) (holds_uncoloured c o) (yields c q ne o m))

  pub held-without : (c p q : ℕ) → q ≢ c → held q s ≡ held q (state_without c p s) + times q (leaving_with c p s)
  unfolding leaving_with
  held-without c p q ne = held-split (shortened c p) (λ o. cond (holds c o && not (holds p o)) (around c o) []) q s (λ o m. go o m (fate c p o))
    where
      same : (o : List Entry) → T (not (holds c o)) ⊎ T (holds p o) → holds q (shortened c p o) ≡ holds q o
      same o d = T-same (holds q (shortened c p o)) (holds q o) (λ t. (shortened-holds c p o q t).0) (λ t. holds-shortened c p o q t ne d)

      go : (o : List Entry) → In o s → Fate c p o → one (holds q o) ≡ one (holds q (shortened c p o)) + times q (cond (holds c o && not (holds p o)) (around c o) [])
      go o m (stays t) = rw (same o (inl t), T_false (holds c o) t) (omega arith)
      go o m (loses t u) = rw (same o (inr u), T_true (holds c o) t, T_true (holds p o) u) (omega arith)
      go o m (leaves t u) = let y = yields c q ne o m in rw (shortened-deleted c p o t u, T_true (holds c o) t, T_false (holds p o) u) (omega arith)

  pub held-spared : (np c q : ℕ) → held q s ≡ held q (state_spared np s c) + times q (leaving_blocked np s c)
  unfolding leaving_blocked
  held-spared np c q =
      let r = count-reverse (eqb q) (λ o. cond (condemned np s c o) (second_to_first o) []) s in
      let h = held-split (spare np s c) (λ o. cond (condemned np s c o) (second_to_first o) []) q s
      (λ o m. whole q o (second_to_first o) (condemned np s c o) (times-second q o ∙ times-items q o (once o m))) in
      omega arith
