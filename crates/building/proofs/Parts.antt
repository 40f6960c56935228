-- The parts of the handed lists that are the options: between which ends each lies, what stands at its places, and whether an item of it
-- is primary. Assumes nothing.
use Rattle.std.proofs.Common.{◌≡◌, ℕ, zero, suc, ◌+◌, ◌-◌, ◌<◌, ◌≤◌, true, ltb, List, [], ◌∷◌, map, length, get_or, take, drop, sym, refl, ap, ◌∙◌, arith, get_or-drop, get_or-take}
use mathlib.Core.Bool.{false≢true}
use lib.Seq.{slice}
use Rattle.std.proofs.lemmas.List.{drop-take, drop-map, take-map}
use Rattle.rules.specs.Lists.{any}
use Rattle.rules.specs.Problem.{Entry, entries_of, cut}
use Rattle.rules.specs.State.{holds_primary}
use Rattle.theorems.proofs.Words.Lists.{any-map}
use Rattle.theorems.proofs.Checks.Cutting.{Ascend, ended, rise}
use Rattle.links.specs.Column.{at}
use Rattle.building.specs.Build.{primary_in}

-- the end before option k, where a is that before option 0
abbrev pub end_before : ℕ → List ℕ → ℕ → ℕ
end_before a ends zero = a
end_before a ends (suc k) = at ends k

end-next : (a b : ℕ) (ends : List ℕ) (k : ℕ) → end_before b ends k ≡ end_before a (b ∷ ends) (suc k)
end-next a b ends zero = refl
end-next a b ends (suc k) = refl

pub cut_at : (a : ℕ) (ends : List ℕ) (es : List Entry) (k : ℕ) → k < length ends → get_or (cut a ends es) k [] ≡ slice (end_before a ends k) (at ends k) es
cut_at a [] es k h = absurd (omega arith)
cut_at a (b ∷ ends) es zero h = refl
cut_at a (b ∷ ends) es (suc k) h = cut_at b ends es k (omega arith) ∙ ap (λ (z : ℕ). slice z (at ends k) es) (end-next a b ends k)

-- ends that rise
pub ends_at : {E a : ℕ} {ends : List ℕ} → Ascend E a ends → (k : ℕ) → k < length ends → (end_before a ends k ≤ at ends k) × (at ends k ≤ E)
ends_at ended k h = absurd (omega arith)
ends_at (rise l m r) zero h = (l, m)
ends_at {a = a} (rise {b = b} {ends = ends} l m r) (suc k) h = let w = ends_at r k (omega arith) in (rw (sym (end-next a b ends k)) w.0, w.1)

-- what stands in a part
pub get_or-slice : {A : Type 0} (a b : ℕ) (l : List A) (i : ℕ) (d : A) → a + i < b → get_or (slice a b l) i d ≡ get_or l (a + i) d
get_or-slice a b l i d h = get_or-drop a (take b l) i d ∙ get_or-take b l (a + i) d h

-- the part as a program takes it
abbrev pub part : {A : Type 0} → ℕ → ℕ → List A → List A
part a b l = take (b - a) (drop a l)

pub part-is : {A : Type 0} (a b : ℕ) (l : List A) → a ≤ b → part a b l ≡ slice a b l
part-is a b l h = let e : a + (b - a) ≡ b = omega arith in sym (drop-take a (b - a) l) ∙ ap (λ (z : ℕ). drop a (take z l)) e

pub entries_at : (is cs : List ℕ) → length is ≡ length cs → (j : ℕ) → j < length is
    → get_or (entries_of is cs) j (record { item = 0; colour = 0 }) ≡ record { item = at is j; colour = at cs j }
entries_at [] cs e j h = absurd (omega arith)
entries_at (i ∷ is) [] e j h = absurd (omega arith)
entries_at (i ∷ is) (c ∷ cs) e zero h = refl
entries_at (i ∷ is) (c ∷ cs) e (suc j) h = entries_at is cs (omega arith) j (omega arith)

entries-items : (is cs : List ℕ) → length is ≡ length cs → map (λ e. e.item) (entries_of is cs) ≡ is
entries-items [] cs e = refl
entries-items (i ∷ is) [] e = absurd (omega arith)
entries-items (i ∷ is) (c ∷ cs) e = ap (λ (z : List ℕ). i ∷ z) (entries-items is cs (omega arith))

-- An option holds a primary item if the items of its part have one.
pub primary-same : (np a b : ℕ) (is cs : List ℕ) → length is ≡ length cs → holds_primary np (slice a b (entries_of is cs)) ≡ primary_in np (slice a b is)
primary-same np a b is cs e =
    let f : Entry → ℕ = λ e. e.item in
    let es = entries_of is cs in
    sym (any-map f (λ (i : ℕ). ltb i np) (slice a b es))
    ∙ ap (any (λ i. ltb i np)) (sym (drop-map f a (take b es)) ∙ ap (drop a) (sym (take-map f b es)) ∙ ap (slice a b) (entries-items is cs e))

-- and then it has an item
pub primary-some : (np : ℕ) (items : List ℕ) → primary_in np items ≡ true → 0 < length items
primary-some np [] e = absurd (false≢true e)
primary-some np (i ∷ items) e = omega arith
