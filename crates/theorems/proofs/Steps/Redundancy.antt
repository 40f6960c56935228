-- What being redundant means, which p is chosen, and what removing an item leaves. Assumes nothing.
use Prim.Native.Nat.{ℕ, ◌≤◌, ◌<◌}
use mathlib.Core.Path.{◌≡◌, refl, sym, subst, ◌∙◌}
use mathlib.Core.Logic.{◌⊎◌, inl, inr, ◌≢◌}
use mathlib.Core.Bool.{not, ◌&&◌, ◌||◌}
use mathlib.Core.List.Memᴰ.{not-nil}
use mathlib.Core.List.{List, [], map, Memᴰ as In}
use mathlib.Core.Option.{Option, none, some}
use lib.Dec.{T, ltb, eqb, ltb→lt, lt→ltb, T_not, not_T}
use lib.ListN.{length, get_or-map}
use Rattle.rules.specs.Lists.{all, up_to, greatest}
use Rattle.rules.specs.Problem.{Entry}
use Rattle.rules.specs.State.{State, option_at, is, holds, holds_uncoloured, in_live, around, first_emptied}
use Rattle.rules.specs.Redundant.{redundant_for, candidates, holders, highest, chosen, without_item, shortened, state_without, leaving_with}
use Rattle.theorems.proofs.Words.Tests.{T-dec, T_true, T_false, T_and, and_T, T-imp, imp-T, eq→eqb, neqb→ne, ne→neqb}
use Rattle.theorems.proofs.Words.Lists.{all→, all←, keep→, keep←, map-In, In-map, In-each-if, each-if-In, up_to-In}
use Rattle.theorems.proofs.Words.Choices.{last_that→, last_that-none}
use Rattle.theorems.proofs.Words.Greatest.{greatest-above, greatest-of}
use Rattle.theorems.proofs.Steps.States.{holds→, holds←, uncoloured-holds, live→, live←, live_at, holds-below, around→, around←, none-emptied, emptied→}

-- Item c is redundant for p.
pub record Redundant (np : ℕ) (s : State) (c p : ℕ) : Type 0 where
  pub primary : p < np
  pub other : p ≢ c
  pub live : T (in_live p s)
  pub only : (o : List Entry) → In o s → T (holds p o) → T (holds_uncoloured c o)

pub redundant→ : (np : ℕ) (s : State) (c p : ℕ) → T (redundant_for np s c p) → Redundant np s c p
unfolding redundant_for
redundant→ np s c p t =
    let a = T_and (ltb p np && not (eqb p c) && in_live p s) (all (λ o. not (holds p o) || holds_uncoloured c o) s) t in
    let b = T_and (ltb p np && not (eqb p c)) (in_live p s) a.0 in
    let d = T_and (ltb p np) (not (eqb p c)) b.0 in
    record {
      primary = ltb→lt p np d.0;
      other = neqb→ne p c d.1;
      live = b.1;
      only = λ o m h. T-imp (holds p o) (holds_uncoloured c o) (all→ (λ o. not (holds p o) || holds_uncoloured c o) s a.1 m) h;
    }

pub redundant← : (np : ℕ) (s : State) (c p : ℕ) → Redundant np s c p → T (redundant_for np s c p)
unfolding redundant_for
redundant← np s c p R =
    and_T (ltb p np && not (eqb p c) && in_live p s) (all (λ o. not (holds p o) || holds_uncoloured c o) s)
    (and_T (ltb p np && not (eqb p c)) (in_live p s) (and_T (ltb p np) (not (eqb p c)) (lt→ltb p np R.primary) (ne→neqb p c R.other)) R.live)
    (all← (λ o. not (holds p o) || holds_uncoloured c o) s (λ o m. imp-T (holds p o) (holds_uncoloured c o) (λ h. R.only o m h)))

-- a live option that holds p holds c
pub redundant-holds : {np : ℕ} {s : State} {c p : ℕ} → Redundant np s c p → {o : List Entry} → In o s → T (holds p o) → T (holds c o)
redundant-holds {np} {s} {c} {p} R {o} m t = uncoloured-holds c o (R.only o m t)

-- The highest live option that holds a live item holds it.
pub highest-holds : (s : State) (p : ℕ) → T (in_live p s) → T (holds p (option_at s (highest s p)))
unfolding highest
highest-holds s p t =
    let w = live_at p s t in
    (keep→ (λ k. holds p (option_at s k)) (up_to (length s))
    (greatest-of (holders s p) (keep← (λ k. holds p (option_at s k)) (up_to (length s)) (up_to-In (length s) w.1) w.2))).1

pub highest-above : (s : State) (p k : ℕ) → T (holds p (option_at s k)) → k ≤ highest s p
unfolding highest
highest-above s p k t = greatest-above (holders s p) (keep← (λ k. holds p (option_at s k)) (up_to (length s)) (up_to-In (length s) (holds-below p s k t)) t)

-- Which p is chosen

module _ (np : ℕ) (s : State) (c : ℕ) where
  pub candidate : (q : ℕ) → T (redundant_for np s c q) → In q (candidates np s c)
  candidate q t = keep← (redundant_for np s c) (up_to np) (up_to-In np (redundant→ np s c q t).primary) t

  -- the highest live option number of all candidates
  abbrev pub top : ℕ
  top = greatest (map (highest s) (candidates np s c))

  pub top_above : (q : ℕ) → T (redundant_for np s c q) → highest s q ≤ top
  top_above q t = greatest-above (map (highest s) (candidates np s c)) (map-In (highest s) (candidates np s c) (candidate q t))

  -- it is that of a candidate, if there are any, which that option holds
  pub top-holds : (q : ℕ) → T (redundant_for np s c q) → (p : ℕ) × T (redundant_for np s c p) × (highest s p ≡ top) × T (holds p (option_at s top))
  top-holds q t =
      let w = In-map (highest s) (candidates np s c) (greatest-of (map (highest s) (candidates np s c)) (map-In (highest s) (candidates np s c) (candidate q t))) in
      let u = (keep→ (redundant_for np s c) (up_to np) w.1).1 in
      (w.0, u, sym w.2, subst (λ (k : ℕ). T (holds w.0 (option_at s k))) (sym w.2) (highest-holds s w.0 (redundant→ np s c w.0 u).live))

  pub chosen→ : {p : ℕ} → chosen np s c ≡ some p → Redundant np s c p
  unfolding chosen
  chosen→ {p} e =
      let w = last_that→ (λ p. redundant_for np s c p && eqb (highest s p) top) (around c (option_at s top)) e in
      redundant→ np s c p (T_and (redundant_for np s c p) (eqb (highest s p) top) w.1).0

  pub chosen_none : chosen np s c ≡ none → (p : ℕ) → T (not (redundant_for np s c p))
  unfolding chosen
  chosen_none e p = not_T (redundant_for np s c p) (λ t. let w = top-holds p t in met w.0 w.1 w.2 w.3)
    where
      met : (q : ℕ) → T (redundant_for np s c q) → highest s q ≡ top → T (holds q (option_at s top)) → ⊥
      met q t h at =
          T_not (redundant_for np s c q && eqb (highest s q) top)
          (last_that-none (λ p. redundant_for np s c p && eqb (highest s p) top) (around c (option_at s top)) e (around← c (option_at s top) at (redundant→ np s c q t).other))
          (and_T (redundant_for np s c q) (eqb (highest s q) top) t (eq→eqb (highest s q) top h))

-- An option after c is removed

-- what becomes of it: it did not hold c and stays; it held c and p and loses c; it held c and not p and is deleted
pub data Fate (c p : ℕ) (o : List Entry) : Type 0 where
  stays : T (not (holds c o)) → Fate c p o
  loses : T (holds c o) → T (holds p o) → Fate c p o
  leaves : T (holds c o) → T (not (holds p o)) → Fate c p o

pub fate : (c p : ℕ) (o : List Entry) → Fate c p o
fate c p o = go (T-dec (holds c o)) (T-dec (holds p o))
  where
    go : T (holds c o) ⊎ T (not (holds c o)) → T (holds p o) ⊎ T (not (holds p o)) → Fate c p o
    go (inr t) d = stays t
    go (inl t) (inl u) = loses t u
    go (inl t) (inr u) = leaves t u

-- it stays or loses c, if it cannot leave
pub not-leaving : (c p : ℕ) (o : List Entry) → (T (holds c o) → T (not (holds p o)) → ⊥) → T (not (holds c o)) ⊎ T (holds p o)
not-leaving c p o h = go (fate c p o)
  where
    go : Fate c p o → T (not (holds c o)) ⊎ T (holds p o)
    go (stays t) = inl t
    go (loses t u) = inr u
    go (leaves t u) = absurd (h t u)

module _ (c p : ℕ) (o : List Entry) where
  pub shortened_same : T (not (holds c o)) → shortened c p o ≡ o
  unfolding shortened
  shortened_same t = rw (T_false (holds c o) t)

  pub shortened-short : T (holds c o) → T (holds p o) → shortened c p o ≡ without_item c o
  unfolding shortened
  shortened-short t u = rw (T_true (holds c o) t, T_true (holds p o) u)

  pub shortened-deleted : T (holds c o) → T (not (holds p o)) → shortened c p o ≡ []
  unfolding shortened
  shortened-deleted t u = rw (T_true (holds c o) t, T_false (holds p o) u)

  pub shortened-sub : {e : Entry} → In e (shortened c p o) → In e o
  shortened-sub {e} m = go (fate c p o)
    where
      go : Fate c p o → In e o
      go (stays t) = rw (shortened_same t) at m
      go (loses t u) = (keep→ (λ e. not (is c e)) o (rw (shortened-short t u) at m)).0
      go (leaves t u) = absurd (not-nil (rw (shortened-deleted t u) at m))

  -- c is gone
  pub shortened-gone : {e : Entry} → In e (shortened c p o) → e.item ≢ c
  shortened-gone {e} m = go (fate c p o)
    where
      go : Fate c p o → e.item ≢ c
      go (stays t) = λ h. T_not (holds c o) t (holds← c o (rw (shortened_same t) at m) h)
      go (loses t u) = neqb→ne e.item c (keep→ (λ e. not (is c e)) o (rw (shortened-short t u) at m)).1
      go (leaves t u) = absurd (not-nil (rw (shortened-deleted t u) at m))

  -- everything else stays, if the option does
  pub shortened-stays : {e : Entry} → In e o → e.item ≢ c → T (not (holds c o)) ⊎ T (holds p o) → In e (shortened c p o)
  shortened-stays {e} m ne d = go (fate c p o) d
    where
      go : Fate c p o → T (not (holds c o)) ⊎ T (holds p o) → In e (shortened c p o)
      go (stays t) d = rw (shortened_same t) m
      go (loses t u) d = rw (shortened-short t u) (keep← (λ e. not (is c e)) o m (ne→neqb e.item c ne))
      go (leaves t u) (inl v) = absurd (T_not (holds c o) v t)
      go (leaves t u) (inr v) = absurd (T_not (holds p o) u v)

  pub shortened-holds : (q : ℕ) → T (holds q (shortened c p o)) → T (holds q o) × (q ≢ c)
  shortened-holds q t =
      let w = holds→ q (shortened c p o) t in
      (holds← q o (shortened-sub w.1) w.2, λ h. shortened-gone w.1 (w.2 ∙ h))

  pub holds-shortened : (q : ℕ) → T (holds q o) → q ≢ c → T (not (holds c o)) ⊎ T (holds p o) → T (holds q (shortened c p o))
  holds-shortened q t ne d =
      let w = holds→ q o t in
      holds← q (shortened c p o) (shortened-stays w.1 (λ h. ne (sym w.2 ∙ h)) d) w.2

-- The state after c is removed

pub without_at : (c p : ℕ) (s : State) (k : ℕ) → option_at (state_without c p s) k ≡ shortened c p (option_at s k)
unfolding shortened
without_at c p s k = get_or-map (shortened c p) s k []

pub without-live : (c p : ℕ) (s : State) (q : ℕ) → T (in_live q (state_without c p s)) → T (in_live q s) × (q ≢ c)
without-live c p s q t =
    let w = live→ q (state_without c p s) t in
    let v = In-map (shortened c p) s w.1 in
    let h = shortened-holds c p v.0 q (subst (λ (o : List Entry). T (holds q o)) v.2 w.2) in
    (live← q s v.1 h.0, h.1)

-- c is gone
pub without_gone : (c p : ℕ) (s : State) → T (not (in_live c (state_without c p s)))
without_gone c p s = not_T (in_live c (state_without c p s)) (λ t. (without-live c p s c t).1 refl)

-- what stays of an option is in the state
pub live-without : (c p : ℕ) (s : State) (q : ℕ) {o : List Entry} → In o s → T (holds q o) → q ≢ c → T (not (holds c o)) ⊎ T (holds p o) → T (in_live q (state_without c p s))
live-without c p s q {o} m h ne d = live← q (state_without c p s) (map-In (shortened c p) s m) (holds-shortened c p o q h ne d)

-- the first primary item that removing c empties
abbrev pub emptied_with : ℕ → ℕ → ℕ → State → Option ℕ
emptied_with np c p s = first_emptied (λ q. ltb q np && not (eqb q c)) (state_without c p s) (leaving_with c p s)

module _ (np c p : ℕ) (s : State) where
  -- p stays
  pub without-p : Redundant np s c p → T (in_live p (state_without c p s))
  without-p R = let w = live→ p s R.live in live-without c p s p w.1 w.2 R.other (inr w.2)

  -- every other primary item stays, unless one was emptied
  pub stays-live : emptied_with np c p s ≡ none → (q : ℕ) → q < np → q ≢ c → T (in_live q s) → T (in_live q (state_without c p s))
  unfolding leaving_with
  stays-live e q lt ne t = let w = live→ q s t in go w.0 w.1 w.2 (fate c p w.0)
    where
      go : (o : List Entry) → In o s → T (holds q o) → Fate c p o → T (in_live q (state_without c p s))
      go o m h (stays u) = live-without c p s q m h ne (inl u)
      go o m h (loses t u) = live-without c p s q m h ne (inr u)
      go o m h (leaves t u) =
          none-emptied (λ q. ltb q np && not (eqb q c)) (state_without c p s) (leaving_with c p s) e
          (each-if-In (λ o. holds c o && not (holds p o)) (around c) s m (and_T (holds c o) (not (holds p o)) t u) (around← c o h ne))
          (and_T (ltb q np) (not (eqb q c)) (lt→ltb q np lt) (ne→neqb q c ne))

  -- what is emptied was a live primary item, and is in no option any more
  pub emptied-with : {q : ℕ} → emptied_with np c p s ≡ some q → (q < np) × (q ≢ c) × T (in_live q s) × T (not (in_live q (state_without c p s)))
  unfolding leaving_with
  emptied-with {q} e =
      let w = emptied→ (λ q. ltb q np && not (eqb q c)) (state_without c p s) (leaving_with c p s) e in
      let b = T_and (ltb q np) (not (eqb q c)) w.1 in
      let v = In-each-if (λ o. holds c o && not (holds p o)) (around c) s w.0 in
      (ltb→lt q np b.0, neqb→ne q c b.1, live← q s v.1 (around→ c v.0 v.3), w.2)
