-- What the nodes taken out leave, as a function of the ground and of the list of those nodes: plan and lengths stay, the mask loses just those nodes,
-- heads of entries stay and so do the links of nodes that are in no column, and the lists are tidy still.
-- So a walk that takes nodes out need only know which it has taken, in order. Assumes nothing.
use Prim.Native.Nat.{ℕ}
use mathlib.Core.Path.{◌≡◌, refl, ◌∙◌, ap, sym, subst}
use mathlib.Core.Logic.{⊎_elim}
use mathlib.Core.Bool.{Bool, true, false, false≢true}
use mathlib.Core.List.Memᴰ
use mathlib.Core.List.Memᴰ.{head as here}
use mathlib.Core.List.Memᴰ.{tail as next}
use mathlib.Core.List.{List, [], ◌∷◌, ◌++◌, Memᴰ as In}
use borrow.Author.Tests.{eq-eqb}
use lib.Dec.{T}
use lib.ListN.{length, length-set}
use lib.IntN.{ℤ}
use Rattle.rules.specs.Promises.{distinct}
use Rattle.theorems.proofs.Words.Distinct.{distinct→}
use Rattle.links.specs.Head.{head}
use Rattle.links.specs.Column.{at}
use Rattle.links.specs.Plan.{EntryOf, Header}
use Rattle.links.specs.Ground.{Ground, Tidy, Within, cut_one, taken, after, Fresh, Holds}
use Rattle.links.proofs.Stores.{same?}
use Rattle.links.proofs.Rings.{without→, without←, without_other, without-off}
use Rattle.links.proofs.Plans.{entry-no-header}
use Rattle.links.proofs.Grounds.{tidy-cut, cut-head, cut-up-off, cut-down-off, within-cut}

pub taken-append : (g : Ground) (xs ys : List ℕ) → taken g (xs ++ ys) ≡ taken (taken g xs) ys
taken-append g [] ys = refl
taken-append g (x ∷ xs) ys = taken-append (cut_one g x) xs ys

pub taken-plan : (g : Ground) (xs : List ℕ) → (taken g xs).plan ≡ g.plan
unfolding cut_one
taken-plan g [] = refl
taken-plan g (x ∷ xs) = taken-plan (cut_one g x) xs

pub taken-tidy : (g : Ground) (xs : List ℕ) → Tidy g → Fresh g xs → Tidy (taken g xs)
taken-tidy g [] t f = t
taken-tidy g (x ∷ xs) t f = taken-tidy (cut_one g x) xs (tidy-cut g t x f.0) f.1

pub fresh-append : (g : Ground) (xs ys : List ℕ) → Fresh g xs → Fresh (taken g xs) ys → Fresh g (xs ++ ys)
fresh-append g [] ys f h = h
fresh-append g (x ∷ xs) ys f h = (f.0, fresh-append (cut_one g x) xs ys f.1 h)

-- nodes that were in their columns one after another were there at first
pub fresh-within : (g : Ground) (xs : List ℕ) → Fresh g xs → {y : ℕ} → In y xs → Within g y
unfolding cut_one
fresh-within g [] f {y = y} x'' = elim x'' [ ]
fresh-within g (x ∷ xs) f {y} (here e) = subst (λ (z : ℕ). Within g z) (sym e) f.0
fresh-within g (x ∷ xs) f {y} (next m) =
    let w = fresh-within (cut_one g x) xs f.1 m in
    record { entry = w.entry; on = (without→ g.on x y w.on).1; header = (without→ g.on x (g.plan.col y) w.header).1 }

pub fresh-front : (g : Ground) (xs ys : List ℕ) → Fresh g (xs ++ ys) → Fresh g xs
fresh-front g [] ys f = tt
fresh-front g (x ∷ xs) ys f = (f.0, fresh-front (cut_one g x) xs ys f.1)

pub fresh-rest : (g : Ground) (xs ys : List ℕ) → Fresh g (xs ++ ys) → Fresh (taken g xs) ys
fresh-rest g [] ys f = f
fresh-rest g (x ∷ xs) ys f = fresh-rest (cut_one g x) xs ys f.1

-- the mask: those that it had, but for those that were taken
pub off-taken : (g : Ground) (xs : List ℕ) (y : ℕ) → g.on y ≡ false → (taken g xs).on y ≡ false
unfolding cut_one
off-taken g [] y o = o
off-taken g (x ∷ xs) y o = off-taken (cut_one g x) xs y (without-off g.on x y o)

pub taken-off : (g : Ground) (xs : List ℕ) {y : ℕ} → In y xs → (taken g xs).on y ≡ false
unfolding cut_one
taken-off g [] {y = y} x' = elim x' [ ]
taken-off g (x ∷ xs) {y} (here e) = off-taken (cut_one g x) xs y (rw (eq-eqb y x e))
taken-off g (x ∷ xs) {y} (next m) = taken-off (cut_one g x) xs m

pub taken-on : (g : Ground) (xs : List ℕ) (y : ℕ) → (In y xs → ⊥) → (taken g xs).on y ≡ g.on y
unfolding cut_one
taken-on g [] y n = refl
taken-on g (x ∷ xs) y n = taken-on (cut_one g x) xs y (λ m. n (next m)) ∙ without_other g.on x y (λ e. n (here e))

pub on-taken : (g : Ground) (xs : List ℕ) (y : ℕ) → (taken g xs).on y ≡ true → (g.on y ≡ true) × (In y xs → ⊥)
on-taken g xs y o = (was (g.on y) refl, λ m. false≢true (sym (taken-off g xs m) ∙ o))
  where
    was : (b : Bool) → g.on y ≡ b → b ≡ true
    was true e = refl
    was false e = absurd (false≢true (sym (off-taken g xs y e) ∙ o))

-- heads of nodes that are no headers stay, and so do the links of nodes that are in no column
pub taken-head : (g : Ground) (xs : List ℕ) → Tidy g → Fresh g xs → (y : ℕ) → (Header g.plan y → ⊥) → head (taken g xs).heads y ≡ head g.heads y
unfolding cut_one
taken-head g [] t f y n = refl
taken-head g (x ∷ xs) t f y n =
    taken-head (cut_one g x) xs (tidy-cut g t x f.0) f.1 y n
    ∙ cut-head g t x f.0 y (λ e. n (subst (λ (i : ℕ). Header g.plan i) (sym e) (t.planned.entry x f.0.entry)))

pub taken-up-off : (g : Ground) (xs : List ℕ) → Tidy g → Fresh g xs → (y : ℕ) → g.on y ≡ false → at (taken g xs).up y ≡ at g.up y
unfolding cut_one
taken-up-off g [] t f y o = refl
taken-up-off g (x ∷ xs) t f y o = taken-up-off (cut_one g x) xs (tidy-cut g t x f.0) f.1 y (without-off g.on x y o) ∙ cut-up-off g t x f.0 y o

pub taken-down-off : (g : Ground) (xs : List ℕ) → Tidy g → Fresh g xs → (y : ℕ) → g.on y ≡ false → at (taken g xs).down y ≡ at g.down y
unfolding cut_one
taken-down-off g [] t f y o = refl
taken-down-off g (x ∷ xs) t f y o = taken-down-off (cut_one g x) xs (tidy-cut g t x f.0) f.1 y (without-off g.on x y o) ∙ cut-down-off g t x f.0 y o

pub within-taken : (g : Ground) (xs : List ℕ) → Tidy g → Fresh g xs → {y : ℕ} → Within g y → (In y xs → ⊥) → Within (taken g xs) y
within-taken g [] t f v n = v
within-taken g (x ∷ xs) t f v n = within-taken (cut_one g x) xs (tidy-cut g t x f.0) f.1 (within-cut g t x f.0 v (λ e. n (here e))) (λ m. n (next m))

-- Nodes that are in their columns, each once, are fresh.
pub fresh-of : (g : Ground) (xs : List ℕ) → Tidy g → ((x : ℕ) → In x xs → Within g x) → T (distinct xs) → Fresh g xs
fresh-of g [] t h d = tt
fresh-of g (x ∷ xs) t h d =
    let w = distinct→ x xs d in
    let v = h x (here refl) in
    (v, fresh-of (cut_one g x) xs (tidy-cut g t x v) (λ y m. within-cut g t x v (h y (next m)) (λ e. w.0 (Memᴰ.cast (sym e) m))) w.1)

-- Lengths stay.
pub taken-lengths : (g : Ground) (xs : List ℕ)
    → (length (taken g xs).heads ≡ length g.heads) × (length (taken g xs).up ≡ length g.up) × (length (taken g xs).down ≡ length g.down)
unfolding cut_one
taken-lengths g [] = (refl, refl, refl)
taken-lengths g (x ∷ xs) =
    let r = taken-lengths (cut_one g x) xs in
    (r.0 ∙ length-set g.heads _ _, r.1 ∙ length-set g.up _ _, r.2 ∙ length-set g.down _ _)

-- only entries are taken, so every header is where it was, and every entry has the head that it had
module _ (g : Ground) (xs : List ℕ) (t : Tidy g) (f : Fresh g xs) where
  pub taken-header : (i : ℕ) → Header g.plan i → (taken g xs).on i ≡ g.on i
  taken-header i h = taken-on g xs i (λ m. entry-no-header g.plan t.planned i (fresh-within g xs f m).entry h)

  pub taken-entry-head : (y : ℕ) → EntryOf g.plan y → head (taken g xs).heads y ≡ head g.heads y
  taken-entry-head y e = taken-head g xs t f y (entry-no-header g.plan t.planned y e)

-- A node that left its column is among those that were taken.
pub gone-In : (g : Ground) (xs : List ℕ) (y : ℕ) → g.on y ≡ true → (taken g xs).on y ≡ false → In y xs
unfolding cut_one
gone-In g [] y o n = absurd (false≢true (sym n ∙ o))
gone-In g (x ∷ xs) y o n = ⊎_elim (λ e. here e) (λ d. next (gone-In (cut_one g x) xs y (without← g.on x y d o) n)) (same? y x)

-- The same, of the ground with its plan in sight.

pub taken-after : (g : Ground) (xs : List ℕ) → taken g xs ≡ after g xs
unfolding cut_one
taken-after g [] = refl
taken-after g (x ∷ xs) = taken-after (cut_one g x) xs

-- the two have the same lists
pub holds-taken : (g : Ground) (xs : List ℕ) {heads : List ℤ} {up down : List ℕ} → Holds (after g xs) heads up down → Holds (taken g xs) heads up down
holds-taken g xs l = record { heads-are = l.heads-are; up-are = l.up-are; down-are = l.down-are }

pub holds-after : (g : Ground) (xs : List ℕ) {heads : List ℤ} {up down : List ℕ} → Holds (taken g xs) heads up down → Holds (after g xs) heads up down
holds-after g xs l = record { heads-are = l.heads-are; up-are = l.up-are; down-are = l.down-are }

module _ (g : Ground) (xs : List ℕ) where
  pub after_more : (ys : List ℕ) → taken (after g xs) ys ≡ taken g (xs ++ ys)
  after_more ys = ap (λ (k : Ground). taken k ys) (sym (taken-after g xs)) ∙ sym (taken-append g xs ys)

  pub fresh-after : (ys : List ℕ) → Fresh g (xs ++ ys) → Fresh (after g xs) ys
  fresh-after ys f = subst (λ (k : Ground). Fresh k ys) (taken-after g xs) (fresh-rest g xs ys f)

  pub after-fresh : (ys : List ℕ) → Fresh g xs → Fresh (after g xs) ys → Fresh g (xs ++ ys)
  after-fresh ys f h = fresh-append g xs ys f (subst (λ (k : Ground). Fresh k ys) (sym (taken-after g xs)) h)

  module _ (t : Tidy g) (f : Fresh g xs) where
    pub after-tidy : Tidy (after g xs)
    after-tidy = subst (λ (k : Ground). Tidy k) (taken-after g xs) (taken-tidy g xs t f)

    pub after-within : {y : ℕ} → Within g y → (In y xs → ⊥) → Within (after g xs) y
    after-within {y} w n = subst (λ (k : Ground). Within k y) (taken-after g xs) (within-taken g xs t f w n)
