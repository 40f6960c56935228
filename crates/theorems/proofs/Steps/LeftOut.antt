-- A state with some of its options left out: what is left of an option, and of the state. Assumes nothing.
use Prim.Native.Nat.{ℕ}
use mathlib.Core.Path.{◌≡◌, refl, subst}
use mathlib.Core.Bool.{Bool, true, false, not, cond}
use mathlib.Core.List.Memᴰ.{not-nil}
use mathlib.Core.List.{List, [], map, Memᴰ as In}
use lib.Dec.{T}
use lib.ListN.{get_or, get_or-map}
use Rattle.rules.specs.Problem.{Entry}
use Rattle.rules.specs.State.{State, option_at, holds, in_live}
use Rattle.theorems.proofs.Words.Tests.{T_true, T_false, false-T}
use Rattle.theorems.proofs.Words.Lists.{map-In, map-has}
use Rattle.theorems.proofs.Steps.States.{holds→, holds←, live→, live←}

-- the option, unless it is left out
abbrev pub leave : (List Entry → Bool) → List Entry → List Entry
leave out o = cond (out o) [] o

module _ (out : List Entry → Bool) where
  pub left-same : (o : List Entry) → T (not (out o)) → leave out o ≡ o
  left-same o t = rw (T_false (out o) t)

  pub left-gone : (o : List Entry) → T (out o) → leave out o ≡ []
  left-gone o t = rw (T_true (out o) t)

  pub left-sub : (o : List Entry) {e : Entry} → In e (leave out o) → In e o × T (not (out o))
  left-sub o {e} m = go (out o) m
    where
      go : (b : Bool) → In e (cond b [] o) → In e o × T (not b)
      go true n = absurd (not-nil n)
      go false n = (n, tt)

  pub left-holds : (o : List Entry) (q : ℕ) → T (holds q (leave out o)) → T (holds q o) × T (not (out o))
  left-holds o q t = let w = holds→ q (leave out o) t in let v = left-sub o w.1 in (holds← q o v.0 w.2, v.1)

module _ (out : List Entry → Bool) (s : State) where
  -- by its number
  pub left_at : (k : ℕ) → option_at (map (leave out) s) k ≡ leave out (option_at s k)
  left_at k = subst (λ (d : List Entry). get_or (map (leave out) s) k d ≡ leave out (option_at s k)) (none (out [])) (get_or-map (leave out) s k [])
    where
      none : (b : Bool) → ◌≡◌ {A = List Entry} (cond b [] []) []
      none true = refl
      none false = refl

  -- what holds of none, and of every option that is not left out, holds of those that are left
  pub left-has : (P : List Entry → Type 0) → P [] → ((o : List Entry) → In o s → T (not (out o)) → P o) → (o : List Entry) → In o (map (leave out) s) → P o
  left-has P nil h = map-has (leave out) s P (λ o m. go o m (out o) refl)
    where
      go : (o : List Entry) → In o s → (b : Bool) → out o ≡ b → P (cond b [] o)
      go o m true e = nil
      go o m false e = h o m (false-T e)

  pub In-left : {o : List Entry} → In o s → T (not (out o)) → In o (map (leave out) s)
  In-left {o} m t = subst (λ (v : List Entry). In v (map (leave out) s)) (left-same out o t) (map-In (leave out) s m)

  -- an option that is left and holds something was there, and was not left out
  pub left-In : (q : ℕ) {v : List Entry} → In v (map (leave out) s) → T (holds q v) → In v s × T (not (out v))
  left-In q {v} m = left-has (λ o. T (holds q o) → In o s × T (not (out o))) (λ h. absurd h) (λ o n t h. (n, t)) v m

  pub live-left : (q : ℕ) {o : List Entry} → In o s → T (holds q o) → T (not (out o)) → T (in_live q (map (leave out) s))
  live-left q m h t = live← q (map (leave out) s) (In-left m t) h

  pub left-live : (q : ℕ) → T (in_live q (map (leave out) s)) → (o : List Entry) × In o s × T (holds q o) × T (not (out o))
  left-live q t = let w = live→ q (map (leave out) s) t in let v = left-In q w.1 w.2 in (w.0, v.0, w.2, v.1)
