-- What the lists hold when nodes are out is determined: each list is a function of what it held before and of the nodes in order, whatever walk took them
-- out; and for the mask and the lengths of columns not even the order matters. Assumes nothing.
use Prim.Native.Nat.{ℕ, ◌-◌}
use mathlib.Core.Path.{◌≡◌, refl, ◌∙◌, ap, sym, fun_ext}
use mathlib.Core.Logic.{⊎_elim, ◌≢◌}
use mathlib.Core.Bool.{Bool, true}
use mathlib.Core.List.{List, [], ◌∷◌, Memᴰ as In}
use lib.ListN.{set}
use lib.Seq.{get_or-set_other, set_comm}
use lib.IntN.{ℤ, pos}
use Rattle.links.specs.Head.{item_of, head}
use Rattle.links.specs.Column.{cut_up, cut_down, without}
use Rattle.links.specs.Plan.{Plan}
use Rattle.links.specs.Ground.{Ground, cut_one, taken, Holds}
use Rattle.links.proofs.Stores.{same?, same-test}
use Rattle.links.proofs.Taken.{taken-plan, on-taken, taken-on}

-- a mask without the nodes
abbrev pub without_all : (ℕ → Bool) → List ℕ → ℕ → Bool
without_all on [] = on
without_all on (x ∷ xs) = without_all (without on x) xs

-- the column of item i is one shorter; and the columns of all nodes of a list, one after another
abbrev less : List ℤ → ℕ → List ℤ
less heads i = set heads i (pos (item_of (head heads i) - 1))

abbrev pub spent : (ℕ → ℕ) → List ℤ → List ℕ → List ℤ
spent col heads [] = heads
spent col heads (x ∷ xs) = spent col (less heads (col x)) xs

-- the links when the nodes are taken out
abbrev pub cut_ups : List ℕ → List ℕ → List ℕ → List ℕ
cut_ups up down [] = up
cut_ups up down (x ∷ xs) = cut_ups (cut_up up down x) (cut_down up down x) xs

abbrev pub cut_downs : List ℕ → List ℕ → List ℕ → List ℕ
cut_downs up down [] = down
cut_downs up down (x ∷ xs) = cut_downs (cut_up up down x) (cut_down up down x) xs

pub taken-mask : (g : Ground) (xs : List ℕ) → (taken g xs).on ≡ without_all g.on xs
unfolding cut_one
taken-mask g [] = refl
taken-mask g (x ∷ xs) = taken-mask (cut_one g x) xs

pub taken-heads : (g : Ground) (xs : List ℕ) → (taken g xs).heads ≡ spent g.plan.col g.heads xs
unfolding cut_one
taken-heads g [] = refl
taken-heads g (x ∷ xs) = taken-heads (cut_one g x) xs

pub taken-up : (g : Ground) (xs : List ℕ) → (taken g xs).up ≡ cut_ups g.up g.down xs
unfolding cut_one
taken-up g [] = refl
taken-up g (x ∷ xs) = taken-up (cut_one g x) xs

pub taken-down : (g : Ground) (xs : List ℕ) → (taken g xs).down ≡ cut_downs g.up g.down xs
unfolding cut_one
taken-down g [] = refl
taken-down g (x ∷ xs) = taken-down (cut_one g x) xs

-- Lists that hold one ground are the same lists. A walk that did and undid uses it to say that nothing was changed.
pub holds-same : {h : Ground} {heads heads' : List ℤ} {up up' down down' : List ℕ} → Holds h heads up down → Holds h heads' up' down'
    → (heads' ≡ heads) × (up' ≡ up) × (down' ≡ down)
holds-same a b = (b.heads-are ∙ sym a.heads-are, b.up-are ∙ sym a.up-are, b.down-are ∙ sym a.down-are)

-- Two runs that began with the same lists and took out the same nodes in the same order ended with the same lists: whatever the two grounds say
-- of the mask. With it a walk is followed in a ground from whose mask a column was left out, say, and its lists are those of the whole ground.
pub runs-same : (g h : Ground) → h.plan.col ≡ g.plan.col → {heads : List ℤ} {up down : List ℕ} → Holds g heads up down → Holds h heads up down → (xs : List ℕ)
    → {heads₁ heads₂ : List ℤ} {up₁ up₂ down₁ down₂ : List ℕ} → Holds (taken g xs) heads₁ up₁ down₁ → Holds (taken h xs) heads₂ up₂ down₂
    → (heads₂ ≡ heads₁) × (up₂ ≡ up₁) × (down₂ ≡ down₁)
runs-same g h c k l xs a b = (
  b.heads-are ∙ taken-heads h xs ∙ ap (λ (col : ℕ → ℕ). spent col h.heads xs) c ∙ ap (λ (z : List ℤ). spent g.plan.col z xs) heads-same ∙ sym (taken-heads g xs) ∙ sym a.heads-are,
  b.up-are ∙ taken-up h xs ∙ ap (λ (z : List ℕ). cut_ups z h.down xs) up-same ∙ ap (λ (z : List ℕ). cut_ups g.up z xs) down-same ∙ sym (taken-up g xs) ∙ sym a.up-are,
  b.down-are ∙ taken-down h xs ∙ ap (λ (z : List ℕ). cut_downs z h.down xs) up-same ∙ ap (λ (z : List ℕ). cut_downs g.up z xs) down-same ∙ sym (taken-down g xs) ∙ sym a.down-are,
)
  where
    heads-same : h.heads ≡ g.heads
    heads-same = sym l.heads-are ∙ k.heads-are

    up-same : h.up ≡ g.up
    up-same = sym l.up-are ∙ k.up-are

    down-same : h.down ≡ g.down
    down-same = sym l.down-are ∙ k.down-are

-- and with one mask, one mask
pub masks-same : (g h : Ground) → g.on ≡ h.on → (xs : List ℕ) → (taken g xs).on ≡ (taken h xs).on
masks-same g h e xs = taken-mask g xs ∙ ap (λ (on : ℕ → Bool). without_all on xs) e ∙ sym (taken-mask h xs)

-- A ground is what its parts are.
pub ground-is : (h : Ground) (P : Plan) (on : ℕ → Bool) (heads : List ℤ) (up down : List ℕ) → h.plan ≡ P → h.on ≡ on → heads ≡ h.heads → up ≡ h.up → down ≡ h.down
    → h ≡ record { plan = P; on = on; heads = heads; up = up; down = down }
ground-is h P on heads up down p o a b c =
    ap (λ (Q : Plan). record { plan = Q; on = h.on; heads = h.heads; up = h.up; down = h.down }) p
    ∙ ap (λ (m : ℕ → Bool). record { plan = P; on = m; heads = h.heads; up = h.up; down = h.down }) o
    ∙ rw (a, b, c)

-- In any order

-- which nodes are left depends only on which were taken
pub mask_any-order : (g : Ground) (xs ys : List ℕ) → ((y : ℕ) → In y xs → In y ys) → ((y : ℕ) → In y ys → In y xs) → (taken g xs).on ≡ (taken g ys).on
mask_any-order g xs ys f b = fun_ext (λ y. same-test ((taken g xs).on y) ((taken g ys).on y) (λ o. one xs ys b y o) (λ o. one ys xs f y o))
  where
    one : (xs ys : List ℕ) → ((y : ℕ) → In y ys → In y xs) → (y : ℕ) → (taken g xs).on y ≡ true → (taken g ys).on y ≡ true
    one xs ys b y o = let w = on-taken g xs y o in taken-on g ys y (λ m. w.1 (b y m)) ∙ w.0

less-swap : (heads : List ℤ) (i j : ℕ) → less (less heads i) j ≡ less (less heads j) i
less-swap heads i j = ⊎_elim (λ e. rw e) other (same? i j)
  where
    other : i ≢ j → less (less heads i) j ≡ less (less heads j) i
    other n =
        ap (λ (z : ℤ). set (less heads i) j (pos (item_of z - 1))) (get_or-set_other heads i j (pos (item_of (head heads i) - 1)) (pos 0) (λ e. n (sym e)))
        ∙ set_comm heads i j _ _ n
        ∙ ap (λ (z : ℤ). set (less heads j) i (pos (item_of z - 1))) (sym (get_or-set_other heads j i (pos (item_of (head heads j) - 1)) (pos 0) n))

spent-later : (col : ℕ → ℕ) (heads : List ℤ) (xs : List ℕ) (i : ℕ) → spent col (less heads i) xs ≡ less (spent col heads xs) i
spent-later col heads [] i = refl
spent-later col heads (x ∷ xs) i = ap (λ (l : List ℤ). spent col l xs) (less-swap heads i (col x)) ∙ spent-later col (less heads (col x)) xs i

-- for the lengths the first may as well be taken last: so nodes can come back in the order in which they went
pub heads_first-last : (g : Ground) (x : ℕ) (xs : List ℕ) → (taken (cut_one g x) xs).heads ≡ (cut_one (taken g xs) x).heads
unfolding cut_one
heads_first-last g x xs =
    taken-heads (cut_one g x) xs
    ∙ spent-later g.plan.col g.heads xs (g.plan.col x)
    ∙ ap (λ (l : List ℤ). less l (g.plan.col x)) (sym (taken-heads g xs))
    ∙ ap (λ (P : Plan). less (taken g xs).heads (P.col x)) (sym (taken-plan g xs))
