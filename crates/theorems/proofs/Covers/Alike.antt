-- Two problems that are one but for the names of items and options: their covers correspond. Assumes nothing.
use Prim.Native.Nat.{ℕ, suc, ◌≤◌, ◌<◌}
use native.Mathlib.Nat.{lt_of_not-le}
use native.Mathlib.Omega.{arith}
use mathlib.Core.Path.{◌≡◌, sym, subst, ◌∙◌}
use mathlib.Core.Logic.{◌≢◌}
use mathlib.Core.List.{List, Memᴰ as In}
use lib.Dec.{T}
use Rattle.rules.specs.Lists.{rising}
use Rattle.rules.specs.Problem.{Entry}
use Rattle.rules.specs.State.{holds, holds_primary}
use Rattle.rules.specs.Cover.{CoverOf}
use Rattle.theorems.proofs.Steps.States.{holds→, holds←, primary→, primary←}

-- Item q q': item q of the one is q' in the other. Opt k k': option k of the one is k' in the other.
pub record Alike (Item Opt : ℕ → ℕ → Type 0) (np np' : ℕ) (P P' : ℕ → Type 0) (option option' : ℕ → List Entry) : Type 0 where
  -- an item has one name on each side, primary on both or on neither
  pub item-there : (q q' r' : ℕ) → Item q q' → Item q r' → q' ≡ r'
  pub item_back : (q r q' : ℕ) → Item q q' → Item r q' → q ≡ r
  pub primary-there : (q q' : ℕ) → Item q q' → q < np → q' < np'
  pub primary-back : (q q' : ℕ) → Item q q' → q' < np' → q < np
  -- every item present has one
  pub present-there : (q : ℕ) → P q → (q' : ℕ) × P' q' × Item q q'
  pub present-back : (q' : ℕ) → P' q' → (q : ℕ) × P q × Item q q'
  -- an option has one name on each side, and the same entries but for the items' names
  pub option-there : (k k' l' : ℕ) → Opt k k' → Opt k l' → k' ≡ l'
  pub option_back : (k l k' : ℕ) → Opt k k' → Opt l k' → k ≡ l
  pub entry-there : (k k' : ℕ) → Opt k k' → (e : Entry) → In e (option k) → (e' : Entry) × In e' (option' k') × Item e.item e'.item × (e.colour ≡ e'.colour)
  pub entry-back : (k k' : ℕ) → Opt k k' → (e' : Entry) → In e' (option' k') → (e : Entry) × In e (option k) × Item e.item e'.item × (e.colour ≡ e'.colour)

module _ {Item Opt : ℕ → ℕ → Type 0} {np np' : ℕ} {P P' : ℕ → Type 0} {option option' : ℕ → List Entry} (A : Alike Item Opt np np' P P' option option') where
  -- seen from the other side
  pub alike_turned : Alike (λ q' q. Item q q') (λ k' k. Opt k k') np' np P' P option' option
  alike_turned = record {
    item-there = λ q' q r i j. A.item_back q r q' i j;
    item_back = λ q' r' q i j. A.item-there q q' r' i j;
    primary-there = λ q' q i lt. A.primary-back q q' i lt;
    primary-back = λ q' q i lt. A.primary-there q q' i lt;
    present-there = λ q' m. A.present-back q' m;
    present-back = λ q m. A.present-there q m;
    option-there = λ k' k l i j. A.option_back k l k' i j;
    option_back = λ k' l' k i j. A.option-there k k' l' i j;
    entry-there = λ k' k o e' m. let w = A.entry-back k k' o e' m in (w.0, w.1, w.2, sym w.3);
    entry-back = λ k' k o e m. let w = A.entry-there k k' o e m in (w.0, w.1, w.2, sym w.3);
  }

  holds-there : (k k' q q' : ℕ) → Opt k k' → Item q q' → T (holds q (option k)) → T (holds q' (option' k'))
  holds-there k k' q q' o i t =
      let w = holds→ q (option k) t in
      let v = A.entry-there k k' o w.0 w.1 in
      let own : Item q v.0.item = subst (λ (x : ℕ). Item x v.0.item) w.2 v.2 in
      holds← q' (option' k') v.1 (A.item-there q v.0.item q' own i)

module _ {Item Opt : ℕ → ℕ → Type 0} {np np' : ℕ} {P P' : ℕ → Type 0} {option option' : ℕ → List Entry} (A : Alike Item Opt np np' P P' option option') where
  -- a secondary item is one on the other side too
  secondary-back : (q q' : ℕ) → Item q q' → np' ≤ q' → np ≤ q
  secondary-back q q' i le =
      let h : np < suc q = lt_of_not-le (λ lt. let lt' = A.primary-there q q' i lt in absurd (omega arith)) in
      omega arith

  -- The options that go by the names of a cover's options are a cover.
  pub alike-cover : (ks ks' : List ℕ) → ((k : ℕ) → In k ks → (k' : ℕ) × In k' ks' × Opt k k') → ((k' : ℕ) → In k' ks' → (k : ℕ) × In k ks × Opt k k')
      → T (rising ks') → CoverOf np P option ks → CoverOf np' P' option' ks'
  alike-cover ks ks' there back set C = record {
    set = set;
    primary = λ k' m. primary k' m;
    covered = λ q' lt h. covered q' lt h;
    once = λ q' lt h k' l' m n t u. once q' lt h k' l' m n t u;
    agreed = λ k' l' m n ne e' f' i j h sec. agreed k' l' m n ne e' f' i j h sec;
  }
    where
      primary : (k' : ℕ) → In k' ks' → T (holds_primary np' (option' k'))
      primary k' m =
          let b = back k' m in
          let w = primary→ np (option b.0) (C.primary b.0 b.1) in
          let v = A.entry-there b.0 k' b.2 w.0 w.1 in
          primary← np' (option' k') v.1 (A.primary-there w.0.item v.0.item v.2 w.2)

      covered : (q' : ℕ) → q' < np' → P' q' → (k' : ℕ) × In k' ks' × T (holds q' (option' k'))
      covered q' lt h =
          let p = A.present-back q' h in
          let w = C.covered p.0 (A.primary-back p.0 q' p.2 lt) p.1 in
          let t = there w.0 w.1 in
          (t.0, t.1, holds-there A w.0 t.0 p.0 q' t.2 p.2 w.2)

      once : (q' : ℕ) → q' < np' → P' q' → (k' l' : ℕ) → In k' ks' → In l' ks' → T (holds q' (option' k')) → T (holds q' (option' l')) → k' ≡ l'
      once q' lt h k' l' m n t u =
          let p = A.present-back q' h in
          let b = back k' m in
          let d = back l' n in
          let same : b.0 ≡ d.0 =
          C.once p.0 (A.primary-back p.0 q' p.2 lt) p.1 b.0 d.0 b.1 d.1
          (holds-there (alike_turned A) k' b.0 q' p.0 b.2 p.2 t) (holds-there (alike_turned A) l' d.0 q' p.0 d.2 p.2 u) in
          A.option-there b.0 k' l' b.2 (subst (λ (k : ℕ). Opt k l') (sym same) d.2)

      agreed : (k' l' : ℕ) → In k' ks' → In l' ks' → k' ≢ l' → (e' f' : Entry) → In e' (option' k') → In f' (option' l') → e'.item ≡ f'.item → np' ≤ e'.item
          → (e'.colour ≡ f'.colour) × (0 < e'.colour)
      agreed k' l' m n ne e' f' i j h sec =
          let b = back k' m in
          let d = back l' n in
          let e = A.entry-back b.0 k' b.2 e' i in
          let f = A.entry-back d.0 l' d.2 f' j in
          let other : b.0 ≢ d.0 = λ same. ne (A.option-there b.0 k' l' b.2 (subst (λ (k : ℕ). Opt k l') (sym same) d.2)) in
          let one : e.0.item ≡ f.0.item =
          A.item_back e.0.item f.0.item e'.item e.2 (subst (λ (q' : ℕ). Item f.0.item q') (sym h) f.2) in
          let a = C.agreed b.0 d.0 b.1 d.1 other e.0 f.0 e.1 f.1 one (secondary-back e.0.item e'.item e.2 sec) in
          (sym e.3 ∙ a.0 ∙ f.3, subst (λ (c : ℕ). 0 < c) e.3 a.1)
