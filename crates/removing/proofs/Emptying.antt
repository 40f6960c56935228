-- The first primary column that is emptied when nodes are taken out: list after list, and by plan and mask alone. Assumes nothing.
use Prim.Native.Nat.{ℕ, zero, suc, ◌-◌, ◌≤◌}
use native.Mathlib.Omega.{arith}
use mathlib.Core.Path.{◌≡◌, refl, ◌∙◌, ap, sym}
use mathlib.Core.Logic.{⊎_elim, ◌≢◌}
use mathlib.Core.Bool.{Bool, true, false, ◌&&◌, cond}
use mathlib.Core.List.{List, [], ◌∷◌, ◌++◌}
use lib.Dec.{leb, eqb}
use Rattle.links.specs.Head.{item_of}
use Rattle.links.specs.Column.{without}
use Rattle.links.specs.Plan.{Plan}
use Rattle.links.specs.Ground.{Ground, tally, Tidy, cut_one, taken, Fresh}
use Rattle.links.specs.Row.{others}
use Rattle.links.specs.Taking.{length_of, empties_at, first_out, gather_to}
use Rattle.links.proofs.Endings.{earlier, earlier-first}
use Rattle.links.proofs.Stores.{same?}
use Rattle.links.proofs.Grounds.{tidy-cut, length-is}

-- A column that is emptied by the first nodes is the first by all.
pub first_some : (g : Ground) (np : ℕ) (xs ys : List ℕ) → first_out g np xs ≢ 0 → first_out g np (xs ++ ys) ≡ first_out g np xs
first_some g np [] ys n = absurd (n refl)
first_some g np (x ∷ xs) ys n = go (empties_at g np x) n (first_some (cut_one g x) np xs ys)
  where
    go : (b : Bool) → cond b (g.plan.col x) (first_out (cut_one g x) np xs) ≢ 0
        → (first_out (cut_one g x) np xs ≢ 0 → first_out (cut_one g x) np (xs ++ ys) ≡ first_out (cut_one g x) np xs)
        → cond b (g.plan.col x) (first_out (cut_one g x) np (xs ++ ys)) ≡ cond b (g.plan.col x) (first_out (cut_one g x) np xs)
    go true m r = refl
    go false m r = r m

-- So it is for what a walk down a column gathers, when the walk is further down.
pub first-gather : (h : Ground) (np : ℕ) (chosen : ℕ → Bool) (g : Ground) (k m : ℕ) → k ≤ m → first_out h np (gather_to chosen g k) ≢ 0
    → first_out h np (gather_to chosen g m) ≡ first_out h np (gather_to chosen g k)
first-gather h np chosen g k zero l n = let e : 0 ≡ k = omega arith in ap (λ (j : ℕ). first_out h np (gather_to chosen g j)) e
first-gather h np chosen g k (suc m) l n =
    ⊎_elim (λ (e : k ≡ suc m). ap (λ (j : ℕ). first_out h np (gather_to chosen g j)) (sym e)) (λ d. more d (λ a. first-gather h np chosen g k m a n)) (same? k (suc m))
  where
    more : k ≢ suc m → (k ≤ m → first_out h np (gather_to chosen g m) ≡ first_out h np (gather_to chosen g k))
        → first_out h np (gather_to chosen g (suc m)) ≡ first_out h np (gather_to chosen g k)
    more d r = let e = r (omega arith) in first_some h np (gather_to chosen g m) (cond (chosen m) (others g m) []) (λ z. n (sym e ∙ z)) ∙ e

-- By all it is the first of the first nodes' and the rest's; so where the first nodes empty none, it is the rest's.
pub first-append : (g : Ground) (np : ℕ) (xs ys : List ℕ) → Tidy g → Fresh g xs → first_out g np (xs ++ ys) ≡ earlier (first_out g np xs) (first_out (taken g xs) np ys)
first-append g np [] ys t f = refl
first-append g np (x ∷ xs) ys t f = go (empties_at g np x) (first-append (cut_one g x) np xs ys (tidy-cut g t x f.0) f.1)
  where
    go : (b : Bool) → first_out (cut_one g x) np (xs ++ ys) ≡ earlier (first_out (cut_one g x) np xs) (first_out (taken (cut_one g x) xs) np ys)
        → cond b (g.plan.col x) (first_out (cut_one g x) np (xs ++ ys))
        ≡ earlier (cond b (g.plan.col x) (first_out (cut_one g x) np xs)) (first_out (taken (cut_one g x) xs) np ys)
    go true r = sym (earlier-first (g.plan.col x) _ (t.planned.entry x f.0.entry).above)
    go false r = r

pub first-none : (g : Ground) (np : ℕ) (xs ys : List ℕ) → Tidy g → Fresh g xs → first_out g np xs ≡ 0 → first_out g np (xs ++ ys) ≡ first_out (taken g xs) np ys
first-none g np xs ys t f e = first-append g np xs ys t f ∙ ap (λ (k : ℕ). earlier k (first_out (taken g xs) np ys)) e

-- The same by plan and mask: which lists a tidy ground has does not matter.
abbrev pub first_by : Plan → (ℕ → Bool) → ℕ → List ℕ → ℕ
first_by P on np [] = 0
first_by P on np (x ∷ xs) = let r = first_by P (without on x) np xs in cond (eqb (tally P on (P.col x) - 1) 0 && leb (P.col x) np) (P.col x) r

pub first_out-by : (g : Ground) (np : ℕ) (xs : List ℕ) → Tidy g → Fresh g xs → first_out g np xs ≡ first_by g.plan g.on np xs
unfolding cut_one
first_out-by g np [] t f = refl
first_out-by g np (x ∷ xs) t f =
    let r = first_out-by (cut_one g x) np xs (tidy-cut g t x f.0) f.1 in
    let e : length_of g (g.plan.col x) ≡ tally g.plan g.on (g.plan.col x) = ap item_of (length-is g t x f.0) in
    ap (λ (l : ℕ). cond (eqb (l - 1) 0 && leb (g.plan.col x) np) (g.plan.col x) (first_out (cut_one g x) np xs)) e
    ∙ ap (λ (z : ℕ). cond (eqb (tally g.plan g.on (g.plan.col x) - 1) 0 && leb (g.plan.col x) np) (g.plan.col x) z) r
