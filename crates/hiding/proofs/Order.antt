-- What a walk down a column gathers, option by option: the nodes rise in each column, and what is gathered later comes behind. Assumes nothing.
use Prim.Native.Nat.{ℕ, zero, suc, ◌+◌, ◌-◌, ◌<◌, ◌≤◌}
use native.Mathlib.Omega.{arith}
use mathlib.Core.Path.{◌≡◌, refl, ◌∙◌, ap, sym, subst}
use mathlib.Core.Logic.{⊎_elim, ◌≢◌}
use mathlib.Core.Bool.{Bool, true, false, cond}
use mathlib.Core.List.Memᴰ
use mathlib.Core.List.Memᴰ.{head as here}
use mathlib.Core.List.Memᴰ.{not-nil}
use mathlib.Core.List.Memᴰ.{tail as next}
use mathlib.Core.List.{List, [], ◌∷◌, ◌++◌, append_assoc, append-nil, append_cancel_left, Memᴰ as In}
use lib.Dec.{T}
use Rattle.rules.specs.Promises.{distinct}
use Rattle.theorems.proofs.Words.Distinct.{distinct→}
use Rattle.links.specs.Plan.{Plan, lo, hi, EntryOf, Planned}
use Rattle.links.specs.Ground.{Ground, Tidy, Within}
use Rattle.links.specs.Row.{others}
use Rattle.links.specs.Taking.{gather_to}
use Rattle.links.proofs.Stores.{less?}
use Rattle.links.proofs.Plans.{entry_row}
use Rattle.links.proofs.Rows.{In-others}
use Rattle.links.proofs.Gathering.{others-distinct, In-gather, gather-one}
use Rattle.hiding.specs.Away.{Rising}
use Rattle.hiding.proofs.Rises.{rising-append}

-- Of two options, the nodes of one lie before those of the other.
rows-ordered : (P : Plan) → Planned P → (j k x y : ℕ) → EntryOf P j → EntryOf P k → P.number j ≢ P.number k → j < k
    → EntryOf P x → P.number x ≡ P.number j → EntryOf P y → P.number y ≡ P.number k → x < y
rows-ordered P W j k x y ej ek n l ex nx ey ny =
    ⊎_elim (λ (q : P.number j < P.number k). omega (arith, W.apart (P.number j) (P.number k) q ek.option (entry_row P W j ej) (entry_row P W k ek), x-till, y-from))
    (λ (q : P.number k ≤ P.number j). omega
    (arith, W.apart (P.number k) (P.number j) (omega arith) ej.option (entry_row P W k ek) (entry_row P W j ej), ek.till, ej.from)) (less? (P.number j) (P.number k))
  where
    x-till : x < hi P j
    x-till = subst (λ (i : ℕ). x < P.past i) nx ex.till

    y-from : lo P k ≤ y
    y-from = subst (λ (i : ℕ). P.first i ≤ y) ny ey.from

-- Nodes of one option, each once, are of one column each.
row-rising : (g : Ground) → Tidy g → (i : ℕ) (xs : List ℕ) → T (distinct xs) → ((y : ℕ) → In y xs → Within g y × (g.plan.number y ≡ i)) → Rising g xs
row-rising g t i [] d h = tt
row-rising g t i (x ∷ xs) d h =
    let v = distinct→ x xs d in
    let w = h x (here refl) in (
      w.0,
      (λ y m e. let u = h y (next m) in absurd (v.0 (Memᴰ.cast (sym (t.planned.once y x u.0.entry w.0.entry (u.1 ∙ sym w.1) e)) m))),
      row-rising g t i xs v.1 (λ y m. h y (next m)),
    )

-- Where the chosen nodes are entries of one column c, and their others are in their columns:
module _ (chosen : ℕ → Bool) (g : Ground) (t : Tidy g) (c : ℕ) (entry : (k : ℕ) → chosen k ≡ true → EntryOf g.plan k × (g.plan.col k ≡ c))
    (within : (k : ℕ) → chosen k ≡ true → (y : ℕ) → In y (others g k) → Within g y) where
  others-rising : (k : ℕ) → chosen k ≡ true → Rising g (others g k)
  others-rising k e = row-rising g t (g.plan.number k) (others g k) (others-distinct g k) (λ y m. (within k e y m, (In-others g t k (entry k e).0 m).1))

  before : (j k : ℕ) → chosen j ≡ true → chosen k ≡ true → j < k → (x y : ℕ) → In x (others g j) → In y (others g k) → x < y
  before j k a b l x y m n =
      let u = entry j a in
      let v = entry k b in
      let p = In-others g t j u.0 m in
      let q = In-others g t k v.0 n in
      rows-ordered g.plan t.planned j k x y u.0 v.0 (λ s. omega (arith, l, t.planned.once j k u.0 v.0 s (u.1 ∙ sym v.1))) l p.0 p.1 q.0 q.1

  pub gather-rising : (k : ℕ) → Rising g (gather_to chosen g k)
  gather-rising zero = tt
  gather-rising (suc k) = rising-append g (gather_to chosen g k) (cond (chosen k) (others g k) []) (gather-rising k) (own (chosen k) refl) (cross (chosen k) refl)
    where
      own : (b : Bool) → chosen k ≡ b → Rising g (cond b (others g k) [])
      own true e = others-rising k e
      own false e = tt

      cross : (b : Bool) → chosen k ≡ b → (x y : ℕ) → In x (gather_to chosen g k) → In y (cond b (others g k) []) → g.plan.col y ≡ g.plan.col x → x < y
      cross true e x y m n q = let w = In-gather chosen g k m in before w.0 k w.2 e w.1 x y w.3 n
      cross false e x y m n q = absurd (not-nil n)

-- What is gathered from node k on
abbrev gather_from : (ℕ → Bool) → Ground → ℕ → ℕ → List ℕ
gather_from chosen g k zero = []
gather_from chosen g k (suc n) = cond (chosen k) (others g k) [] ++ gather_from chosen g (suc k) n

abbrev pub gather_later : (ℕ → Bool) → Ground → ℕ → List ℕ
gather_later chosen g k = gather_from chosen g k (g.plan.N - k)

module _ (chosen : ℕ → Bool) (g : Ground) where
  gather-more : (n k : ℕ) → gather_to chosen g (k + n) ≡ gather_to chosen g k ++ gather_from chosen g k n
  gather-more zero k = let e : k + 0 ≡ k = omega arith in rw e (sym (append-nil (gather_to chosen g k)))
  gather-more (suc n) k = let e : k + suc n ≡ suc k + n = omega arith in
      rw e (gather-more n (suc k) ∙ append_assoc (gather_to chosen g k) (cond (chosen k) (others g k) []) (gather_from chosen g (suc k) n))

  pub gather-split : (k : ℕ) → k ≤ g.plan.N → gather_to chosen g g.plan.N ≡ gather_to chosen g k ++ gather_later chosen g k
  gather-split k h = let e : g.plan.N ≡ k + (g.plan.N - k) = omega arith in ap (gather_to chosen g) e ∙ gather-more (g.plan.N - k) k

  -- where nothing is gathered between, the same comes later
  pub later_same : (j k : ℕ) → j ≤ g.plan.N → k ≤ g.plan.N → gather_to chosen g j ≡ gather_to chosen g k → gather_later chosen g j ≡ gather_later chosen g k
  later_same j k a b e = append_cancel_left (gather_to chosen g j) _ _ (sym (gather-split j a) ∙ gather-split k b ∙ ap (λ (l : List ℕ). l ++ gather_later chosen g k) (sym e))

  pub later-one : (k : ℕ) → k < g.plan.N → chosen k ≡ true → gather_later chosen g k ≡ others g k ++ gather_later chosen g (k + 1)
  later-one k h e =
      append_cancel_left (gather_to chosen g k) _ _
      (sym (gather-split k (omega arith))
      ∙ gather-split (k + 1) (omega arith)
      ∙ ap (λ (l : List ℕ). l ++ gather_later chosen g (k + 1)) (gather-one chosen g k e)
      ∙ append_assoc (gather_to chosen g k) (others g k) (gather_later chosen g (k + 1)))

  pub later-none : gather_later chosen g g.plan.N ≡ []
  later-none = let e : g.plan.N - g.plan.N ≡ 0 = omega arith in ap (gather_from chosen g g.plan.N) e
