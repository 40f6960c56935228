-- Zeros in every place of the working lists: what they are does not depend on what the lists held. Assumes nothing.
use Prim.Native.Nat.{ℕ}
use native.Mathlib.Omega.{arith}
use mathlib.Core.Path.{◌≡◌, refl, ap}
use mathlib.Core.List.{List, [], ◌∷◌, map}
use lib.ListN.{length}
use lib.IntN.{ℤ, pos}
use Rattle.rules.specs.Outcome.{cleared}
use Rattle.rules.specs.Rooms.{room_lists}

map_same : {A B : Type 0} (b : B) (xs ys : List A) → length xs ≡ length ys → map (λ (x : A). b) xs ≡ map (λ (x : A). b) ys
map_same b [] [] e = refl
map_same b [] (y ∷ ys) e = absurd (omega (arith, e))
map_same b (x ∷ xs) [] e = absurd (omega (arith, e))
map_same b (x ∷ xs) (y ∷ ys) e = ap (λ l. b ∷ l) (map_same b xs ys (omega (arith, e)))

pub cleared-is : (heads : List ℤ) (up down tints marks : List ℕ) {heads' : List ℤ} {up' down' tints' marks' : List ℕ}
    → heads' ≡ map (λ (x : ℤ). pos 0) heads → up' ≡ map (λ (x : ℕ). 0) up → down' ≡ map (λ (x : ℕ). 0) down → tints' ≡ map (λ (x : ℕ). 0) tints → marks' ≡ map (λ (x : ℕ). 0) marks
    → room_lists heads' up' down' tints' marks' ≡ cleared (room_lists heads up down tints marks)
unfolding cleared
cleared-is heads up down tints marks a b c d e = rw a (rw b (rw c (rw d (rw e refl))))

pub cleared-alike : (heads heads' : List ℤ) (up up' down down' tints tints' marks marks' : List ℕ)
    → length heads' ≡ length heads → length up' ≡ length up → length down' ≡ length down → length tints' ≡ length tints → length marks' ≡ length marks
    → cleared (room_lists heads' up' down' tints' marks') ≡ cleared (room_lists heads up down tints marks)
unfolding cleared
cleared-alike heads heads' up up' down down' tints tints' marks marks' a b c d e =
    rw (map_same (pos 0) heads' heads a)
    (rw (map_same {B = ℕ} 0 up' up b) (rw (map_same {B = ℕ} 0 down' down c) (rw (map_same {B = ℕ} 0 tints' tints d) (rw (map_same {B = ℕ} 0 marks' marks e) refl))))
