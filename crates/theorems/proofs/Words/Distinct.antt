-- Lists of numbers in which none stands twice. Assumes nothing.
use Prim.Native.Nat.{ℕ}
use mathlib.Core.Path.{◌≡◌, refl, sym, ◌∙◌}
use mathlib.Core.Logic.{◌⊎◌, inl, inr}
use mathlib.Core.Bool.{Bool, true, false, not, cond}
use mathlib.Core.List.Memᴰ
use mathlib.Core.List.Memᴰ.{append_cases as In-append}
use mathlib.Core.List.Memᴰ.{head as here}
use mathlib.Core.List.Memᴰ.{tail as next}
use mathlib.Core.List.{List, [], ◌∷◌, ◌++◌, map, map-append, Memᴰ as In}
use lib.Dec.{T, T_not, not_T}
use Rattle.rules.specs.Lists.{keep, each, mem}
use Rattle.rules.specs.Promises.{distinct}
use Rattle.theorems.proofs.Words.Tests.{T_and, and_T}
use Rattle.theorems.proofs.Words.Lists.{mem→, mem←, keep→, map-In, In-map, In-each}

pub distinct→ : (a : ℕ) (l : List ℕ) → T (distinct (a ∷ l)) → (In a l → ⊥) × T (distinct l)
distinct→ a l t = let w = T_and (not (mem a l)) (distinct l) t in (λ m. T_not (mem a l) w.0 (mem← a l m), w.1)

pub distinct← : (a : ℕ) (l : List ℕ) → (In a l → ⊥) → T (distinct l) → T (distinct (a ∷ l))
distinct← a l new t = and_T (not (mem a l)) (distinct l) (not_T (mem a l) (λ u. new (mem→ a l u))) t

-- two lists that share nothing
pub distinct_append : (l m : List ℕ) → T (distinct l) → T (distinct m) → ((x : ℕ) → In x l → In x m → ⊥) → T (distinct (l ++ m))
distinct_append [] m s t apart = t
distinct_append (a ∷ l) m s t apart =
    let w = distinct→ a l s in
    distinct← a (l ++ m) (λ n. go (In-append l n)) (distinct_append l m w.1 t (λ x i j. apart x (next i) j))
  where
    go : In a l ⊎ In a m → ⊥
    go (inl i) = (distinct→ a l s).0 i
    go (inr i) = apart a (here refl) i

-- numbers of things: of those that are kept, ..
pub distinct-keep : {A : Type 0} (number : A → ℕ) (f : A → Bool) (l : List A) → T (distinct (map number l)) → T (distinct (map number (keep f l)))
distinct-keep number f [] t = t
distinct-keep {A} number f (x ∷ l) t = go (f x) (distinct-keep number f l w.1)
  where
    w : (In (number x) (map number l) → ⊥) × T (distinct (map number l))
    w = distinct→ (number x) (map number l) t

    fewer : In (number x) (map number (keep f l)) → In (number x) (map number l)
    fewer m = let v = In-map number (keep f l) m in Memᴰ.cast v.2 (map-In number l (keep→ f l v.1).0)

    go : (b : Bool) → T (distinct (map number (keep f l))) → T (distinct (map number (cond b (x ∷ keep f l) (keep f l))))
    go true r = distinct← (number x) (map number (keep f l)) (λ m. w.0 (fewer m)) r
    go false r = r

-- .. and of buckets, one behind another, none of which shares a number with another
pub distinct-each : {A : Type 0} (number : A → ℕ) (bucket : ℕ → List A) (l : List ℕ) → T (distinct l) → ((c : ℕ) → T (distinct (map number (bucket c))))
    → ((c d : ℕ) (x y : A) → In x (bucket c) → In y (bucket d) → number x ≡ number y → c ≡ d) → T (distinct (map number (each bucket l)))
distinct-each number bucket [] t own apart = tt
distinct-each number bucket (c ∷ l) t own apart =
    let w = distinct→ c l t in
    rw (map-append number (bucket c) (each bucket l))
    (distinct_append (map number (bucket c)) (map number (each bucket l)) (own c) (distinct-each number bucket l w.1 own apart) (λ n i j. clash n i j))
  where
    clash : (n : ℕ) → In n (map number (bucket c)) → In n (map number (each bucket l)) → ⊥
    clash n i j =
        let v = In-map number (bucket c) i in
        let u = In-map number (each bucket l) j in
        let z = In-each bucket l u.1 in
        (distinct→ c l t).0 (Memᴰ.cast (apart c z.0 v.0 u.0 v.1 z.2 (sym v.2 ∙ u.2)) z.1)
