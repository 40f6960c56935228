-- What a walk down a column takes out: node by node, the others of each chosen node; all of them are in their columns, each once, and none is
-- of the column that is walked. Assumes nothing.
use Prim.Native.Nat.{ℕ, zero, suc, ◌+◌, ◌-◌, ◌<◌, ◌≤◌}
use native.Mathlib.Omega.{arith}
use native.Mathlib.Numerals.{add-one}
use mathlib.Core.Path.{◌≡◌, refl, ◌∙◌, ap, sym, subst}
use mathlib.Core.Logic.{◌⊎◌, inl, inr, ⊎_elim, ◌≢◌}
use mathlib.Core.Bool.{Bool, true, false, cond}
use mathlib.Core.List.Memᴰ.{append_cases as In-append}
use mathlib.Core.List.Memᴰ.{append_left as In-append-l}
use mathlib.Core.List.Memᴰ.{append_right as In-append-r}
use mathlib.Core.List.Memᴰ.{not-nil}
use mathlib.Core.List.{[], ◌++◌, append-nil, Memᴰ as In}
use borrow.Author.Tests.{le-ltb}
use lib.Dec.{T}
use Rattle.rules.specs.Lists.{keep}
use Rattle.rules.specs.Promises.{distinct}
use Rattle.theorems.proofs.Words.Lists.{keep→}
use Rattle.theorems.proofs.Words.Distinct.{distinct_append}
use Rattle.theorems.proofs.Words.Rising.{from-rises, rising-distinct}
use Rattle.theorems.proofs.Words.Order.{ordered-keep}
use Rattle.links.specs.Plan.{lo, hi, EntryOf}
use Rattle.links.specs.Ground.{Ground, Tidy, Within, Fresh}
use Rattle.links.specs.Row.{span, full, others}
use Rattle.links.specs.Taking.{gather_to}
use Rattle.links.proofs.Stores.{same?}
use Rattle.links.proofs.Spans.{In-span}
use Rattle.links.proofs.Rows.{In-others}
use Rattle.links.proofs.Taken.{fresh-of}

-- A walk round an option meets each node once.
pub others-distinct : (g : Ground) (r : ℕ) → T (distinct (others g r))
unfolding others
others-distinct g r =
    subst (λ (t : Bool). T (distinct (cond t (keep (full g.heads) (span (r + 1) r)) (keep (full g.heads) (span (r + 1) (hi g.plan r)) ++ keep (full g.heads) (span (lo g.plan r) r)))))
    (sym (le-ltb r r (omega arith)))
    (distinct_append (keep (full g.heads) (span (r + 1) (hi g.plan r))) (keep (full g.heads) (span (lo g.plan r) r)) (part (r + 1) (hi g.plan r)) (part (lo g.plan r) r)
    (λ x m n. let a = In-span (r + 1) (hi g.plan r) (keep→ (full g.heads) (span (r + 1) (hi g.plan r)) m).0 in
    let b = In-span (lo g.plan r) r (keep→ (full g.heads) (span (lo g.plan r) r) n).0 in omega (arith, a.0, b.1)))
  where
    part : (a b : ℕ) → T (distinct (keep (full g.heads) (span a b)))
    part a b = rising-distinct (keep (full g.heads) (span a b)) (ordered-keep ◌<◌ (full g.heads) (span a b) (from-rises a (b - a)))

module _ (chosen : ℕ → Bool) (g : Ground) where
  -- where none is chosen, nothing is gathered
  pub gather-same : (a b : ℕ) → a ≤ b → ((k : ℕ) → a ≤ k → k < b → chosen k ≡ false) → gather_to chosen g b ≡ gather_to chosen g a
  gather-same a zero h f = let e : 0 ≡ a = omega arith in ap (gather_to chosen g) e
  gather-same a (suc b) h f = ⊎_elim (λ (e : a ≡ suc b). ap (gather_to chosen g) (sym e)) (λ n. more n (gather-same a b)) (same? a (suc b))
    where
      more : a ≢ suc b → (a ≤ b → ((k : ℕ) → a ≤ k → k < b → chosen k ≡ false) → gather_to chosen g b ≡ gather_to chosen g a) → gather_to chosen g (suc b) ≡ gather_to chosen g a
      more n d =
          ap (λ (t : Bool). gather_to chosen g b ++ cond t (others g b) []) (f b (omega arith) (omega arith))
          ∙ append-nil (gather_to chosen g b)
          ∙ d (omega arith) (λ k i j. f k i (omega arith))

  pub gather-one : (k : ℕ) → chosen k ≡ true → gather_to chosen g (k + 1) ≡ gather_to chosen g k ++ others g k
  gather-one k e = ap (gather_to chosen g) (add-one k) ∙ ap (λ (t : Bool). gather_to chosen g k ++ cond t (others g k) []) e

  pub gather_none : (k : ℕ) → chosen k ≡ false → gather_to chosen g (k + 1) ≡ gather_to chosen g k
  gather_none k e = ap (gather_to chosen g) (add-one k) ∙ ap (λ (t : Bool). gather_to chosen g k ++ cond t (others g k) []) e ∙ append-nil (gather_to chosen g k)

  pub In-gather : (k : ℕ) {y : ℕ} → In y (gather_to chosen g k) → (j : ℕ) × (j < k) × (chosen j ≡ true) × In y (others g j)
  In-gather zero m = absurd (not-nil m)
  In-gather (suc k) {y} m = go (In-append (gather_to chosen g k) m) (λ u. In-gather k u)
    where
      own : (b : Bool) → chosen k ≡ b → In y (cond b (others g k) []) → (j : ℕ) × (j < suc k) × (chosen j ≡ true) × In y (others g j)
      own true e n = (k, omega arith, e, n)
      own false e n = absurd (not-nil n)

      go : In y (gather_to chosen g k) ⊎ In y (cond (chosen k) (others g k) [])
          → (In y (gather_to chosen g k) → (j : ℕ) × (j < k) × (chosen j ≡ true) × In y (others g j)) → (j : ℕ) × (j < suc k) × (chosen j ≡ true) × In y (others g j)
      go (inl n) d = let w = d n in (w.0, omega (arith, w.1), w.2, w.3)
      go (inr n) d = own (chosen k) refl n

  pub gather-In : (k j : ℕ) → j < k → chosen j ≡ true → {y : ℕ} → In y (others g j) → In y (gather_to chosen g k)
  gather-In zero j h e m = absurd (omega arith)
  gather-In (suc k) j h e {y} m = ⊎_elim (λ (s : j ≡ k). In-append-r (gather_to chosen g k) (own s)) (λ n. earlier n (λ h e. gather-In k j h e m)) (same? j k)
    where
      own : j ≡ k → In y (cond (chosen k) (others g k) [])
      own s = subst (λ (b : Bool). In y (cond b (others g k) [])) (sym (subst (λ (i : ℕ). chosen i ≡ true) s e)) (subst (λ (i : ℕ). In y (others g i)) s m)

      earlier : j ≢ k → (j < k → chosen j ≡ true → In y (gather_to chosen g k)) → In y (gather_to chosen g (suc k))
      earlier n d = In-append-l (cond (chosen k) (others g k) []) (d (omega arith) e)

  -- Where the chosen nodes are entries of one column c, and their others are in their columns:
  module _ (t : Tidy g) (c : ℕ) (entry : (k : ℕ) → chosen k ≡ true → EntryOf g.plan k × (g.plan.col k ≡ c)) where
    -- two of them are of two options
    rows_apart : (j k : ℕ) → chosen j ≡ true → chosen k ≡ true → j ≢ k → {y : ℕ} → In y (others g j) → In y (others g k) → ⊥
    rows_apart j k a b n {y} l m =
        let u = entry j a in
        let v = entry k b in
        let x = In-others g t j u.0 l in
        let z = In-others g t k v.0 m in
        n (t.planned.once j k u.0 v.0 (sym x.1 ∙ z.1) (u.1 ∙ sym v.1))

    -- the column itself loses nothing
    pub gather-column : (k : ℕ) {y : ℕ} → In y (gather_to chosen g k) → g.plan.col y ≢ c
    gather-column k {y} m e =
        let w = In-gather k m in
        let u = entry w.0 w.2 in
        let x = In-others g t w.0 u.0 w.3 in
        x.2 (t.planned.once y w.0 x.0 u.0 x.1 (e ∙ sym u.1))

    gather-distinct : (k : ℕ) → T (distinct (gather_to chosen g k))
    gather-distinct zero = tt
    gather-distinct (suc k) = distinct_append (gather_to chosen g k) (cond (chosen k) (others g k) []) (gather-distinct k) (own (chosen k)) (λ x m n. clash x m (chosen k) refl n)
      where
        own : (b : Bool) → T (distinct (cond b (others g k) []))
        own true = others-distinct g k
        own false = tt

        clash : (x : ℕ) → In x (gather_to chosen g k) → (b : Bool) → chosen k ≡ b → In x (cond b (others g k) []) → ⊥
        clash x m true e n = let w = In-gather k m in rows_apart w.0 k w.2 e (λ q. omega (arith, w.1, q)) w.3 n
        clash x m false e n = not-nil n

    pub gather-fresh : ((k : ℕ) → chosen k ≡ true → (y : ℕ) → In y (others g k) → Within g y) → (k : ℕ) → Fresh g (gather_to chosen g k)
    gather-fresh h k = fresh-of g (gather_to chosen g k) t (λ x m. let w = In-gather k m in h w.0 w.2 x w.3) (gather-distinct k)
