-- A live option has entries, and so a first item. Assumes nothing.
use Prim.Native.Nat.{ℕ}
use mathlib.Core.Path.{◌≡◌, refl}
use mathlib.Core.Bool.{Bool, true, false}
use mathlib.Core.List.Memᴰ.{head as here}
use mathlib.Core.List.{List, [], ◌∷◌, Memᴰ as In}
use lib.Dec.{T, eqb, eqb→eq, eqb_refl}
use Rattle.rules.specs.Problem.{Entry}
use Rattle.rules.specs.State.{is, begins}

abbrev pub nonempty : List Entry → Bool
nonempty [] = false
nonempty (e ∷ o) = true

pub nonempty→ : (o : List Entry) → T (nonempty o) → (e : Entry) × In e o
nonempty→ [] t = absurd t
nonempty→ (e ∷ o) t = (e, here refl)

pub nonempty← : (o : List Entry) {e : Entry} → In e o → T (nonempty o)
nonempty← [] {e = e} m = elim m [ ]
nonempty← (d ∷ o) m = tt

pub begins-nonempty : (f : Entry → Bool) (o : List Entry) → T (begins f o) → T (nonempty o)
begins-nonempty f [] t = absurd t
begins-nonempty f (e ∷ o) t = tt

-- the first live item, 0 where there is none
abbrev pub first_item : List Entry → ℕ
first_item [] = 0
first_item (e ∷ o) = e.item

pub first-in : (o : List Entry) → T (nonempty o) → (e : Entry) × In e o × (e.item ≡ first_item o)
first-in [] t = absurd t
first-in (e ∷ o) t = (e, here refl, refl)

pub begins-first : (c : ℕ) (o : List Entry) → T (begins (is c) o) → first_item o ≡ c
begins-first c [] t = absurd t
begins-first c (e ∷ o) t = eqb→eq e.item c t

pub first-begins : (o : List Entry) → T (nonempty o) → T (begins (is (first_item o)) o)
first-begins [] t = absurd t
first-begins (e ∷ o) t = eqb_refl e.item

-- beginning with an item is a test on the first item
pub begins-test : (c : ℕ) (o : List Entry) → T (nonempty o) → begins (is c) o ≡ eqb (first_item o) c
begins-test c [] t = absurd t
begins-test c (e ∷ o) t = refl
