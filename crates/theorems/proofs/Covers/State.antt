-- Covers of a state; when a cover of some options is one of other options; two options of a cover that share an item. Assumes nothing.
use Prim.Native.Nat.{ℕ, ◌<◌}
use native.Mathlib.Omega.{arith}
use mathlib.Core.Path.{◌≡◌, sym, subst, ◌∙◌}
use mathlib.Core.Logic.{◌⊎◌, inl, inr, ◌≢◌}
use mathlib.Core.Bool.{not}
use mathlib.Core.List.{List, Memᴰ as In}
use lib.Dec.{T, ltb, ltb→lt, nltb→le}
use Rattle.rules.specs.Problem.{Entry}
use Rattle.rules.specs.State.{State, option_at, holds, holds_uncoloured, holds_primary, in_live}
use Rattle.rules.specs.Cover.{CoverOf}
use Rattle.theorems.proofs.Words.Tests.{T-dec, eq-stable}
use Rattle.theorems.proofs.Steps.States.{holds→, holds←, holds-own, uncoloured→, at-live}

-- ks covers the state: the items that are in a live option, and the live entries of the options
abbrev pub StateCover : ℕ → State → List ℕ → Type 0
StateCover np s ks = CoverOf np (λ q. T (in_live q s)) (option_at s) ks

module _ {np : ℕ} {P P' : ℕ → Type 0} {option option' : ℕ → List Entry} {ks : List ℕ} where
  -- A cover stays one where its options lose entries, but no primary item that is asked for, and still hold some primary item.
  pub cover-smaller : CoverOf np P option ks → ((q : ℕ) → q < np → P' q → P q) → ((k : ℕ) → In k ks → T (holds_primary np (option' k)))
      → ((q : ℕ) → q < np → P' q → (k : ℕ) → In k ks → T (holds q (option k)) → T (holds q (option' k)))
      → ((k : ℕ) → In k ks → (e : Entry) → In e (option' k) → In e (option k)) → CoverOf np P' option' ks
  cover-smaller C asked primary held less = record {
    set = C.set;
    primary = primary;
    covered = λ q lt h. let w = C.covered q lt (asked q lt h) in (w.0, w.1, held q lt h w.0 w.1 w.2);
    once = λ q lt h k l m n t u. C.once q lt (asked q lt h) k l m n (back q k m t) (back q l n u);
    agreed = λ k l m n ne e f i j h sec. C.agreed k l m n ne e f (less k m e i) (less l n f j) h sec;
  }
    where
      back : (q k : ℕ) → In k ks → T (holds q (option' k)) → T (holds q (option k))
      back q k m t = let w = holds→ q (option' k) t in holds← q (option k) (less k m w.0 w.1) w.2

  -- A cover stays one where its options stay the same.
  pub cover-same : CoverOf np P option ks → ((q : ℕ) → q < np → P' q → P q) → ((k : ℕ) → In k ks → option k ≡ option' k) → CoverOf np P' option' ks
  cover-same C asked same =
      cover-smaller C asked
      (λ k m. subst (λ (o : List Entry). T (holds_primary np o)) (same k m) (C.primary k m))
      (λ q lt h k m t. subst (λ (o : List Entry). T (holds q o)) (same k m) t)
      (λ k m e i. subst (λ (o : List Entry). In e o) (sym (same k m)) i)

module _ {np : ℕ} (s : State) {ks : List ℕ} (C : StateCover np s ks) where
  -- Two different options of a cover that share an item hold it with one equal colour above 0.
  pub shared-agree : {k l : ℕ} → In k ks → In l ks → k ≢ l → {e f : Entry} → In e (option_at s k) → In f (option_at s l) → e.item ≡ f.item
      → (e.colour ≡ f.colour) × (0 < e.colour)
  shared-agree {k} {l} m n ne {e} {f} i j h = go (T-dec (ltb e.item np))
    where
      go : T (ltb e.item np) ⊎ T (not (ltb e.item np)) → (e.colour ≡ f.colour) × (0 < e.colour)
      go (inl t) =
          let own = holds-own (option_at s k) i in
          absurd (ne (C.once e.item (ltb→lt _ _ t) (at-live e.item s k own) k l m n own (holds← e.item (option_at s l) j (sym h))))
      go (inr t) = C.agreed k l m n ne e f i j h (nltb→le _ _ t)

  -- An option of a cover that holds an item uncoloured is the only one to hold it.
  pub uncoloured-alone : (c : ℕ) {k l : ℕ} → In k ks → In l ks → T (holds_uncoloured c (option_at s k)) → T (holds c (option_at s l)) → k ≡ l
  uncoloured-alone c {k} {l} m n t u = eq-stable k l (λ ne.
      let v = uncoloured→ c (option_at s k) t in
      let w = holds→ c (option_at s l) u in
      let a = shared-agree m n ne v.1 w.1 (v.2 ∙ sym w.2) in
      let positive = a.1 in
      let zero = v.3 in
      absurd (omega arith))
