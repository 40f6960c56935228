-- Deleting the blocked options keeps the covers of a state; if that empties a primary item, there was none. Assumes nothing.
use Prim.Native.Nat.{ℕ}
use mathlib.Core.Path.{◌≡◌, sym, subst, ◌∙◌}
use mathlib.Core.Logic.{◌⊎◌, inl, inr, ◌≢◌}
use mathlib.Core.Bool.{not}
use mathlib.Core.List.{List, Memᴰ as In}
use mathlib.Core.Option.{none, some}
use lib.Dec.{T, T_not, not_T}
use Rattle.rules.specs.Problem.{Entry}
use Rattle.rules.specs.State.{State, option_at, holds, holds_uncoloured, in_live}
use Rattle.rules.specs.Blocked.{agree, clashes, rival, condemned, state_spared}
use Rattle.theorems.proofs.Steps.States.{uncoloured-holds, primary→, holds-In, live←, at-live}
use Rattle.theorems.proofs.Steps.Blocking.{agree←, clashes→, rival→, Blocks, blocked→, condemned→, condemned-holds}
use Rattle.theorems.proofs.Steps.Blocking.{spare, spare-same, spare-sub, spared-at, spared-live, stays-spared, emptied-blocked, emptied_blocked}
use Rattle.theorems.proofs.Covers.State.{StateCover, cover-same, shared-agree, uncoloured-alone}

module _ {np : ℕ} (s : State) {ks : List ℕ} (C : StateCover np s ks) where
  -- No option of a cover is a rival of another that holds c uncoloured.
  no_rival : (c : ℕ) {k l : ℕ} → In k ks → In l ks → k ≢ l → T (holds_uncoloured c (option_at s k)) → T (rival c (option_at s k) (option_at s l)) → ⊥
  no_rival c {k} {l} m n ne t r = go (rival→ c (option_at s k) (option_at s l) r)
    where
      go : T (holds_uncoloured c (option_at s l)) ⊎ ((e : Entry) × In e (option_at s k) × (e.item ≢ c) × T (clashes e (option_at s l))) → ⊥
      go (inl u) = ne (uncoloured-alone s C c m n t (uncoloured-holds c (option_at s l) u))
      go (inr w) =
          let v = clashes→ w.0 (option_at s l) w.3 in
          let a = shared-agree s C m n ne w.1 v.1 (sym v.2) in
          T_not (agree w.0.colour v.0.colour) v.3 (agree← _ _ a.0 a.1)

  -- No option of a cover is condemned: the item that blocks it would be covered by a rival.
  none-condemned : (c k : ℕ) → In k ks → T (not (condemned np s c (option_at s k)))
  none-condemned c k m = not_T (condemned np s c (option_at s k)) (λ t. clash t)
    where
      clash : T (condemned np s c (option_at s k)) → ⊥
      clash t =
          let b = blocked→ np s c (option_at s k) (condemned→ np s c (option_at s k) t).1 in
          let q = b.0 in
          let B : Blocks s c (option_at s k) q = b.2 in
          let w = C.covered q b.1 B.live in
          let l = w.0 in
          let other : k ≢ l = λ e. T_not (holds q (option_at s k)) B.absent (subst (λ (i : ℕ). T (holds q (option_at s i))) (sym e) w.2) in
          no_rival c m w.1 other (condemned-holds np s c (option_at s k) t)
          (B.only (option_at s l) (holds-In q s l w.2) w.2)

  pub cover-spared : (c : ℕ) → StateCover np (state_spared np s c) ks
  cover-spared c =
      cover-same C
      (λ q lt t. let w = spared-live np s c q t in live← q s w.1 w.2)
      (λ k m. sym (spared-at np s c k ∙ spare-same np s c (option_at s k) (none-condemned c k m)))

-- If it empties a primary item, there is no cover.
pub no-cover-spared : {np : ℕ} (c : ℕ) (s : State) {q : ℕ} → emptied_blocked np c s ≡ some q → (ks : List ℕ) → StateCover np s ks → ⊥
no-cover-spared {np} c s {q} e ks C =
    let w = emptied-blocked np s c e in
    let v = C.covered q w.0 w.1 in
    let same = sym (spared-at np s c v.0 ∙ spare-same np s c (option_at s v.0) (none-condemned s C c v.0 v.1)) in
    T_not (in_live q (state_spared np s c)) w.2 (at-live q (state_spared np s c) v.0 (subst (λ (o : List Entry). T (holds q o)) same v.2))

-- The other way round: a cover of what is left is one of the state, if no primary item was emptied.
pub spared-cover : {np : ℕ} (c : ℕ) (s : State) → emptied_blocked np c s ≡ none → (ks : List ℕ) → StateCover np (state_spared np s c) ks → StateCover np s ks
spared-cover {np} c s e ks C = cover-same C (λ q lt t. stays-spared np s c e q lt t) (λ k m. spared-at np s c k ∙ same k m)
  where
    same : (k : ℕ) → In k ks → spare np s c (option_at s k) ≡ option_at s k
    same k m =
        let w = primary→ np (option_at (state_spared np s c) k) (C.primary k m) in
        spare-same np s c (option_at s k) (spare-sub np s c (option_at s k) (subst (λ (o : List Entry). In w.0 o) (spared-at np s c k) w.1)).1
