-- Lists of nodes that rise in each column. Assumes nothing.
use Prim.Native.Nat.{ℕ, ◌<◌}
use native.Mathlib.Omega.{arith}
use mathlib.Core.Path.{◌≡◌, refl, ap, sym}
use mathlib.Core.Logic.{⊎_elim}
use mathlib.Core.List.Memᴰ.{append_cases as In-append}
use mathlib.Core.List.Memᴰ.{append_right as In-append-r}
use mathlib.Core.List.Memᴰ.{head as here}
use mathlib.Core.List.Memᴰ.{tail as next}
use mathlib.Core.List.{List, [], ◌∷◌, ◌++◌, Memᴰ as In}
use Rattle.links.specs.Ground.{Ground, Tidy, Within, cut_one, Fresh}
use Rattle.links.proofs.Grounds.{tidy-cut, within-cut}
use Rattle.hiding.specs.Away.{Rising}

-- a node stands in the list once
pub rising-once : (g : Ground) (x : ℕ) (xs : List ℕ) → Rising g (x ∷ xs) → In x xs → ⊥
rising-once g x xs r m = let l = r.1 x m refl in omega arith

pub rising-rest : (g : Ground) (xs ys : List ℕ) → Rising g (xs ++ ys) → Rising g ys
rising-rest g [] ys r = r
rising-rest g (x ∷ xs) ys r = rising-rest g xs ys r.2

pub rising-append : (g : Ground) (xs ys : List ℕ) → Rising g xs → Rising g ys → ((x y : ℕ) → In x xs → In y ys → g.plan.col y ≡ g.plan.col x → x < y) → Rising g (xs ++ ys)
rising-append g [] ys r s h = s
rising-append g (x ∷ xs) ys r s h =
    (r.0, (λ y m e. ⊎_elim (λ i. r.1 y i e) (λ i. h x y (here refl) i e) (In-append xs m)), rising-append g xs ys r.2 s (λ a b i j. h a b (next i) j))

-- the others rise when one is taken out
rising-cut : (g : Ground) → Tidy g → (x : ℕ) → Within g x → (xs : List ℕ) → (In x xs → ⊥) → Rising g xs → Rising (cut_one g x) xs
unfolding cut_one
rising-cut g t x w [] n r = tt
rising-cut g t x w (y ∷ ys) n r = (within-cut g t x w r.0 (λ e. n (here (sym e))), r.1, rising-cut g t x w ys (λ m. n (next m)) r.2)

pub rising-next : (g : Ground) → Tidy g → (x : ℕ) (xs : List ℕ) → Rising g (x ∷ xs) → Rising (cut_one g x) xs
rising-next g t x xs r = rising-cut g t x r.0 xs (rising-once g x xs r) r.2

pub rising-fresh : (g : Ground) (xs : List ℕ) → Tidy g → Rising g xs → Fresh g xs
rising-fresh g [] t r = tt
rising-fresh g (x ∷ xs) t r = (r.0, rising-fresh (cut_one g x) xs (tidy-cut g t x r.0) (rising-next g t x xs r))

pub rising-apart : (g : Ground) (xs ys : List ℕ) → Rising g (xs ++ ys) → {y : ℕ} → In y xs → In y ys → ⊥
rising-apart g [] ys r i n = elim i [ ]
rising-apart g (x ∷ xs) ys r {y} (here e) n = omega (arith, r.1 y (In-append-r xs n) (ap g.plan.col e), e)
rising-apart g (x ∷ xs) ys r (next m) n = rising-apart g xs ys r.2 m n
