-- Removing a redundant item keeps the covers of a state; if that empties a primary item, there was none. Assumes nothing.
use Prim.Native.Nat.{ℕ, ◌≤◌, ◌<◌}
use mathlib.Core.Path.{◌≡◌, sym, subst, ◌∙◌}
use mathlib.Core.Logic.{◌⊎◌, inl, inr, ◌≢◌}
use mathlib.Core.Bool.{not}
use mathlib.Core.List.{List, [], Memᴰ as In}
use mathlib.Core.Option.{none, some}
use lib.Dec.{T, eqb, eqb→eq, T_not}
use Rattle.rules.specs.Problem.{Entry}
use Rattle.rules.specs.State.{State, option_at, holds, holds_uncoloured, holds_primary, in_live}
use Rattle.rules.specs.Redundant.{shortened, state_without}
use Rattle.theorems.proofs.Words.Tests.{T-dec, neqb→ne}
use Rattle.theorems.proofs.Steps.States.{holds←, uncoloured-holds, primary→, primary←, holds-primary, holds-In, at-live}
use Rattle.theorems.proofs.Steps.Redundancy.{Redundant, not-leaving, shortened_same, shortened-deleted, shortened-sub, shortened-stays, shortened-holds}
use Rattle.theorems.proofs.Steps.Redundancy.{holds-shortened, without_at, without-live, without-p, stays-live, emptied-with, emptied_with}
use Rattle.theorems.proofs.Covers.State.{StateCover, cover-smaller, uncoloured-alone}

-- an option that holds p holds c uncoloured
only_at : {np : ℕ} {s : State} {c p : ℕ} → Redundant np s c p → (k : ℕ) → T (holds p (option_at s k)) → T (holds_uncoloured c (option_at s k))
only_at {np} {s} {c} {p} R k t = R.only (option_at s k) (holds-In p s k t) t

module _ {np : ℕ} {s : State} {c p : ℕ} (R : Redundant np s c p) {ks : List ℕ} where
  -- No option of a cover is deleted: the one that holds p holds c too, uncoloured, so no other does.
  none-deleted : StateCover np s ks → (k : ℕ) → In k ks → T (not (holds c (option_at s k))) ⊎ T (holds p (option_at s k))
  none-deleted C k m = not-leaving c p (option_at s k) (λ t u.
      let w = C.covered p R.primary R.live in
      let same : w.0 ≡ k = uncoloured-alone s C c w.1 m (only_at R w.0 w.2) t in
      T_not (holds p (option_at s k)) u (subst (λ (l : ℕ). T (holds p (option_at s l))) same w.2))

  pub cover-without : StateCover np s ks → StateCover np (state_without c p s) ks
  cover-without C =
      cover-smaller C
      (λ q lt t. (without-live c p s q t).0)
      (λ k m. rw (without_at c p s k) (primary k m (none-deleted C k m)))
      (λ q lt h k m t. rw (without_at c p s k) (holds-shortened c p (option_at s k) q t (without-live c p s q h).1 (none-deleted C k m)))
      (λ k m e i. shortened-sub c p (option_at s k) (rw (without_at c p s k) at i))
    where
      primary : (k : ℕ) → In k ks → T (not (holds c (option_at s k))) ⊎ T (holds p (option_at s k)) → T (holds_primary np (shortened c p (option_at s k)))
      primary k m (inl t) = rw (shortened_same c p (option_at s k) t) (C.primary k m)
      primary k m (inr t) =
          holds-primary np p (shortened c p (option_at s k)) R.primary (holds-shortened c p (option_at s k) p t R.other (inr t))

-- If it empties a primary item, there is no cover.
pub no-cover-without : {np : ℕ} {s : State} {c p q : ℕ} → Redundant np s c p → emptied_with np c p s ≡ some q → (ks : List ℕ) → StateCover np s ks → ⊥
no-cover-without {np} {s} {c} {p} {q} R e ks C =
    let w = emptied-with np c p s e in
    let v = C.covered q w.0 w.2 in
    let held = holds-shortened c p (option_at s v.0) q v.2 w.1 (none-deleted R C v.0 v.1) in
    T_not (in_live q (state_without c p s)) w.3
    (at-live q (state_without c p s) v.0 (subst (λ (o : List Entry). T (holds q o)) (sym (without_at c p s v.0)) held))

-- The other way round: a cover of what is left
module _ {np : ℕ} {s : State} {c p : ℕ} (R : Redundant np s c p) {ks : List ℕ} (C : StateCover np (state_without c p s) ks) where
  -- its options were not deleted
  not-deleted : (k : ℕ) → In k ks → T (not (holds c (option_at s k))) ⊎ T (holds p (option_at s k))
  not-deleted k m = not-leaving c p (option_at s k) (λ t u.
      let gone : option_at (state_without c p s) k ≡ [] = without_at c p s k ∙ shortened-deleted c p (option_at s k) t u in
      absurd (subst (λ (o : List Entry). T (holds_primary np o)) gone (C.primary k m)))

  -- nor did they lose anything but c
  entry-left : (k : ℕ) → In k ks → {e : Entry} → In e (option_at s k) → e.item ≢ c → In e (option_at (state_without c p s) k)
  entry-left k m i ne = rw (without_at c p s k) (shortened-stays c p (option_at s k) i ne (not-deleted k m))

  item-left : (k q : ℕ) → In k ks → T (holds q (option_at s k)) → q ≢ c → T (holds q (option_at (state_without c p s) k))
  item-left k q m t ne = rw (without_at c p s k) (holds-shortened c p (option_at s k) q t ne (not-deleted k m))

  had-item : (k q : ℕ) → T (holds q (option_at (state_without c p s) k)) → T (holds q (option_at s k))
  had-item k q t = (shortened-holds c p (option_at s k) q (rw (without_at c p s k) at t)).0

  -- two that held c both hold p
  one-held : (k l : ℕ) → In k ks → In l ks → T (holds c (option_at s k)) → T (holds c (option_at s l)) → k ≡ l
  one-held k l m n t u = C.once p R.primary (without-p np c p s R) k l m n (held k m t (not-deleted k m)) (held l n u (not-deleted l n))
    where
      held : (k : ℕ) → In k ks → T (holds c (option_at s k)) → T (not (holds c (option_at s k))) ⊎ T (holds p (option_at s k)) → T (holds p (option_at (state_without c p s) k))
      held k m t (inl v) = absurd (T_not (holds c (option_at s k)) v t)
      held k m t (inr v) = item-left k p m v R.other

  -- It is a cover of the state, if no other primary item was emptied.
  pub without-cover : emptied_with np c p s ≡ none → StateCover np s ks
  without-cover none-empty = record {
    set = C.set;
    primary = λ k m. primary k m;
    covered = λ q lt t. covered q lt t (T-dec (eqb q c));
    once = λ q lt h k l m n t u. once q lt h k l m n t u (T-dec (eqb q c));
    agreed = λ k l m n ne e f i j h sec. agreed k l m n ne e f i j h sec (T-dec (eqb e.item c));
  }
    where
      primary : (k : ℕ) → In k ks → T (holds_primary np (option_at s k))
      primary k m =
          let w = primary→ np (option_at (state_without c p s) k) (C.primary k m) in
          primary← np (option_at s k) (shortened-sub c p (option_at s k) (subst (λ (o : List Entry). In w.0 o) (without_at c p s k) w.1)) w.2

      still : (q : ℕ) → q < np → T (in_live q s) → T (not (eqb q c)) → T (in_live q (state_without c p s))
      still q lt h d = stays-live np c p s none-empty q lt (neqb→ne q c d) h

      covered : (q : ℕ) → q < np → T (in_live q s) → T (eqb q c) ⊎ T (not (eqb q c)) → (k : ℕ) × In k ks × T (holds q (option_at s k))
      covered q lt h (inl d) =
          let w = C.covered p R.primary (without-p np c p s R) in
          let has = uncoloured-holds c (option_at s w.0) (only_at R w.0 (had-item w.0 p w.2)) in
          (w.0, w.1, subst (λ (x : ℕ). T (holds x (option_at s w.0))) (sym (eqb→eq q c d)) has)
      covered q lt h (inr d) = let w = C.covered q lt (still q lt h d) in (w.0, w.1, had-item w.0 q w.2)

      once : (q : ℕ) → q < np → T (in_live q s) → (k l : ℕ) → In k ks → In l ks → T (holds q (option_at s k)) → T (holds q (option_at s l)) → T (eqb q c) ⊎ T (not (eqb q c)) → k ≡ l
      once q lt h k l m n t u (inl d) = let e = eqb→eq q c d in one-held k l m n (rw e at t) (rw e at u)
      once q lt h k l m n t u (inr d) = let ne = neqb→ne q c d in C.once q lt (still q lt h d) k l m n (item-left k q m t ne) (item-left l q n u ne)

      agreed : (k l : ℕ) → In k ks → In l ks → k ≢ l → (e f : Entry) → In e (option_at s k) → In f (option_at s l) → e.item ≡ f.item → np ≤ e.item
          → T (eqb e.item c) ⊎ T (not (eqb e.item c)) → (e.colour ≡ f.colour) × (0 < e.colour)
      agreed k l m n ne e f i j h sec (inl d) =
          let q = eqb→eq e.item c d in
          absurd (ne (one-held k l m n (holds← c (option_at s k) i q) (holds← c (option_at s l) j (sym h ∙ q))))
      agreed k l m n ne e f i j h sec (inr d) =
          let q = neqb→ne e.item c d in
          C.agreed k l m n ne e f (entry-left k m i q) (entry-left l n j (λ r. q (h ∙ r))) h sec
