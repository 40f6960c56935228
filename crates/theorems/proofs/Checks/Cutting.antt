-- The parts that ends cut a list of entries into: ends that pass check 16 cut it into consecutive parts, which joined are the list.
-- Assumes nothing.
use Prim.Native.Nat.{ℕ, zero, suc, ◌-◌, ◌≤◌}
use native.Mathlib.Omega.{arith}
use mathlib.Core.Path.{◌≡◌, refl, sym, ap, ◌∙◌}
use mathlib.Core.Bool.{Bool, true, false, ◌||◌, cond}
use mathlib.Core.List.{List, [], ◌∷◌, ◌++◌}
use mathlib.Core.Option.{Option, none, some, some-ne-none}
use lib.Dec.{ltb, eqb, eqb→eq, nltb→le}
use lib.ListN.{length, take, drop, take-append-drop}
use lib.Seq.{slice, slice_empty, take-take, take-length}
use Rattle.rules.specs.Lists.{or_else, each}
use Rattle.rules.specs.Problem.{Entry, entries_of, cut}
use Rattle.rules.specs.Checks.{bad_end, last_end, last_missed, refuse_at, check16}
use Rattle.theorems.proofs.Words.Tests.{T-nor}

pub length-entries_of : (is cs : List ℕ) → length is ≡ length cs → length (entries_of is cs) ≡ length is
length-entries_of [] cs e = refl
length-entries_of (i ∷ is) [] e = absurd (omega arith)
length-entries_of (i ∷ is) (c ∷ cs) e = ap suc (length-entries_of is cs (omega arith))

pub length_cut : (a : ℕ) (ends : List ℕ) (es : List Entry) → length (cut a ends es) ≡ length ends
length_cut a [] es = refl
length_cut a (b ∷ ends) es = ap suc (length_cut b ends es)

-- Two parts of a list that meet are one part.
module _ {A : Type 0} where
  from-then-rest : (a b : ℕ) (l : List A) → a ≤ b → drop a (take b l) ++ drop b l ≡ drop a l
  from-then-rest zero b l h = take-append-drop b l
  from-then-rest (suc a) zero l h = absurd (omega arith)
  from-then-rest (suc a) (suc b) [] h = refl
  from-then-rest (suc a) (suc b) (x ∷ l) h = from-then-rest a b l (omega arith)

  pub slices-join : (a b c : ℕ) (l : List A) → a ≤ b → b ≤ c → slice a b l ++ slice b c l ≡ slice a c l
  slices-join a b c l h k = rw (← take-take b c l k) (from-then-rest a b (take c l) h)

-- The ends rise from a and stay within E.
pub data Ascend (E : ℕ) : ℕ → List ℕ → Type 0 where
  ended : {a : ℕ} → Ascend E a []
  rise : {a b : ℕ} {ends : List ℕ} → a ≤ b → b ≤ E → Ascend E b ends → Ascend E a (b ∷ ends)

pub good-ends : (E a k : ℕ) (ends : List ℕ) → bad_end E a k ends ≡ none → Ascend E a ends
good-ends E a k [] e = ended
good-ends E a k (b ∷ ends) e = go (ltb b a || ltb E b) refl e (λ u. good-ends E b (suc k) ends u)
  where
    go : (bad : Bool) → (ltb b a || ltb E b) ≡ bad → cond bad (some k) (bad_end E b (suc k) ends) ≡ none
        → (bad_end E b (suc k) ends ≡ none → Ascend E b ends) → Ascend E a (b ∷ ends)
    go true t e r = absurd (some-ne-none k e)
    go false t e r = let w = T-nor (ltb b a) (ltb E b) (rw t tt) in rise (nltb→le b a w.0) (nltb→le E b w.1) (r e)

pub last-above : {E a : ℕ} {ends : List ℕ} → Ascend E a ends → a ≤ last_end a ends
last-above ended = omega arith
last-above (rise h k r) = let l = last-above r in omega arith

-- the parts between ends that rise, joined
pub cut-joins : {E a : ℕ} {ends : List ℕ} (es : List Entry) → Ascend E a ends → each (λ o. o) (cut a ends es) ≡ slice a (last_end a ends) es
cut-joins {a = a} es ended = sym (slice_empty a es)
cut-joins {a = a} es (rise {b = b} {ends = ends} h k r) = rw (cut-joins es r) (slices-join a b (last_end b ends) es h (last-above r))

-- what check 16 leaves
pub check16→ : (E : ℕ) (ends : List ℕ) → check16 E ends ≡ none → Ascend E 0 ends × (last_end 0 ends ≡ E)
unfolding check16
check16→ E ends e = go (bad_end E 0 0 ends) refl e
  where
    last : (b : Bool) → eqb (last_end 0 ends) E ≡ b → refuse_at 16 (cond b none (some (length ends - 1))) ≡ none → last_end 0 ends ≡ E
    last true t e = eqb→eq (last_end 0 ends) E (rw t tt)
    last false t e = absurd (some-ne-none _ e)

    go : (o : Option ℕ) → bad_end E 0 0 ends ≡ o → refuse_at 16 (or_else o (last_missed E ends)) ≡ none → Ascend E 0 ends × (last_end 0 ends ≡ E)
    go none h e = (good-ends E 0 0 ends h, last (eqb (last_end 0 ends) E) refl e)
    go (some k) h e = absurd (some-ne-none _ e)

-- ends that pass check 16 cut the whole list
pub cut-whole : (ends : List ℕ) (es : List Entry) → check16 (length es) ends ≡ none → each (λ o. o) (cut 0 ends es) ≡ es
cut-whole ends es e =
    let w = check16→ (length es) ends e in
    cut-joins es w.0 ∙ ap (λ (b : ℕ). take b es) w.1 ∙ take-length es
