-- The block test, made while c is hidden: only the options that are left are looked at, and the entries of the tested option may be taken in
-- any order. Assumes nothing.
use Prim.Native.Nat.{ℕ, ◌<◌}
use mathlib.Core.Path.{◌≡◌, ap, ◌∙◌}
use mathlib.Core.Logic.{◌⊎◌, inl, inr, ◌≢◌, ◌↔◌}
use mathlib.Core.Bool.{Bool, not, ◌&&◌, ◌||◌}
use mathlib.Core.List.{List, Memᴰ as In}
use mathlib.Core.Option.{none}
use lib.Dec.{T, T_not}
use Rattle.rules.specs.Lists.{any, all, up_to}
use Rattle.rules.specs.Problem.{Entry}
use Rattle.rules.specs.State.{State, is_uncoloured, holds, holds_uncoloured, begins, in_live}
use Rattle.rules.specs.Redundant.{redundant_for, chosen}
use Rattle.rules.specs.Blocked.{clashes, rival, blocks, blocked}
use Rattle.theorems.proofs.Words.Tests.{T-dec, T_and, and_T, T-same, T-imp, imp-T, T-stable}
use Rattle.theorems.proofs.Words.Lists.{any→, any←, all→, all←, any-cong, all-cong, In-up_to}
use Rattle.theorems.proofs.Steps.States.{begins-holds, uncoloured-holds, live←}
use Rattle.theorems.proofs.Steps.Redundancy.{redundant←, chosen_none}
use Rattle.theorems.proofs.Steps.Blocking.{meets, meets→, meets←, rival→, rival-holds, rival-clashes, Blocks, blocks→, blocks←}
use Rattle.theorems.proofs.Laws.Hiding.{hidden_state, In-hidden, hidden-In, live-hidden, hidden-live}

-- q is not in o, is in an option of s, and all its options clash
abbrev pub shut_out : (List Entry → Bool) → State → List Entry → ℕ → Bool
shut_out clash s o q = not (holds q o) && in_live q s && all (λ v. not (holds q v) || clash v) s

module _ (np : ℕ) (s : State) (c : ℕ) where
  -- a primary item that c is not redundant for is left when c is hidden
  pub stays-hidden : (q : ℕ) → q < np → q ≢ c → T (not (redundant_for np s c q)) → T (in_live q s) → T (in_live q (hidden_state c s))
  stays-hidden q lt ne r t =
      T-stable (in_live q (hidden_state c s)) (λ u.
      T_not (redundant_for np s c q) r
      (redundant← np s c q
      (record {
        primary = lt;
        other = ne;
        live = t;
        only = λ o m h. T-stable (holds_uncoloured c o) (λ v. T_not (in_live q (hidden_state c s)) u (live-hidden c s q m h v));
      })))

  -- for an option that holds c
  pub blocks-hidden : (o : List Entry) → T (holds c o) → (q : ℕ) → q < np → T (not (redundant_for np s c q)) → blocks s c o q ≡ shut_out (meets c o) (hidden_state c s) o q
  blocks-hidden o h q lt r = T-same (blocks s c o q) (shut_out (meets c o) (hidden_state c s) o q) forth back
    where
      forth : T (blocks s c o q) → T (shut_out (meets c o) (hidden_state c s) o q)
      forth t =
          and_T (not (holds q o) && in_live q (hidden_state c s)) (all (λ v. not (holds q v) || meets c o v) (hidden_state c s))
          (and_T (not (holds q o)) (in_live q (hidden_state c s)) B.absent (stays-hidden q lt ne r B.live))
          (all← (λ v. not (holds q v) || meets c o v) (hidden_state c s) (λ v m. imp-T (holds q v) (meets c o v) (λ k. only v m k)))
        where
          B : Blocks s c o q
          B = blocks→ s c o q t

          ne : q ≢ c
          ne e = T_not (holds q o) B.absent (rw e h)

          only : (v : List Entry) → In v (hidden_state c s) → T (holds q v) → T (meets c o v)
          only v m k = let w = hidden-In c s q m k in go (rival→ c o v (B.only v w.0 k)) w.1
            where
              go : T (holds_uncoloured c v) ⊎ ((e : Entry) × In e o × (e.item ≢ c) × T (clashes e v)) → T (not (holds_uncoloured c v)) → T (meets c o v)
              go (inl u) n = absurd (T_not (holds_uncoloured c v) n u)
              go (inr u) n = meets← c o v u.1 u.2 u.3

      back : T (shut_out (meets c o) (hidden_state c s) o q) → T (blocks s c o q)
      back t = blocks← s c o q (record { absent = b.0; live = live← q s l.1 l.2; only = λ v m k. only v m k (T-dec (holds_uncoloured c v)) })
        where
          a : T (not (holds q o) && in_live q (hidden_state c s)) × T (all (λ v. not (holds q v) || meets c o v) (hidden_state c s))
          a = T_and (not (holds q o) && in_live q (hidden_state c s)) (all (λ v. not (holds q v) || meets c o v) (hidden_state c s)) t

          b : T (not (holds q o)) × T (in_live q (hidden_state c s))
          b = T_and (not (holds q o)) (in_live q (hidden_state c s)) a.0

          l : (v : List Entry) × In v s × T (holds q v) × T (not (holds_uncoloured c v))
          l = hidden-live c s q b.1

          only : (v : List Entry) → In v s → T (holds q v) → T (holds_uncoloured c v) ⊎ T (not (holds_uncoloured c v)) → T (rival c o v)
          only v m k (inl u) = rival-holds c o v u
          only v m k (inr u) =
              let w = meets→ c o v (T-imp (holds q v) (meets c o v) (all→ (λ v. not (holds q v) || meets c o v) (hidden_state c s) a.1 (In-hidden c s m u)) k) in
              rival-clashes c o v w.1 w.2 w.3

  -- The block test of an option that begins with c, uncoloured, where c is not redundant: only what is left when c is hidden counts.
  pub blocked-hidden : chosen np s c ≡ none → (o : List Entry) → T (begins (is_uncoloured c) o) → blocked np s c o ≡ any (shut_out (meets c o) (hidden_state c s) o) (up_to np)
  unfolding blocked
  blocked-hidden e o t =
      any-cong (blocks s c o) (shut_out (meets c o) (hidden_state c s) o) (up_to np)
      (λ q m. blocks-hidden o (uncoloured-holds c o (begins-holds c o t)) q (In-up_to np m) (chosen_none np s c e q))

-- In any order

-- es lists the entries of o other than c's, in any order, any number of times
abbrev pub Others : ℕ → List Entry → List Entry → Type 0
Others c o es = (e : Entry) → In e es ↔ (In e o × (e.item ≢ c))

pub clash-any-order : (c : ℕ) (o es : List Entry) → Others c o es → (v : List Entry) → meets c o v ≡ any (λ e. clashes e v) es
clash-any-order c o es h v = T-same (meets c o v) (any (λ e. clashes e v) es) forth back
  where
    forth : T (meets c o v) → T (any (λ e. clashes e v) es)
    forth t = let w = meets→ c o v t in any← (λ e. clashes e v) es ((h w.0).1 (w.1, w.2)) w.3

    back : T (any (λ e. clashes e v) es) → T (meets c o v)
    back t = let w = any→ (λ e. clashes e v) es t in let d = (h w.0).0 w.1 in meets← c o v d.0 d.1 w.2

pub blocked-any-order : (np : ℕ) (s : State) (c : ℕ) → chosen np s c ≡ none → (o : List Entry) → T (begins (is_uncoloured c) o)
    → (es : List Entry) → Others c o es → blocked np s c o ≡ any (shut_out (λ v. any (λ e. clashes e v) es) (hidden_state c s) o) (up_to np)
blocked-any-order np s c n o t es h =
    blocked-hidden np s c n o t
    ∙ any-cong (shut_out (meets c o) (hidden_state c s) o) (shut_out (λ v. any (λ e. clashes e v) es) (hidden_state c s) o) (up_to np)
    (λ q m. ap (λ (b : Bool). not (holds q o) && in_live q (hidden_state c s) && b)
    (all-cong (λ v. not (holds q v) || meets c o v) (λ v. not (holds q v) || any (λ e. clashes e v) es) (hidden_state c s)
    (λ v i. ap (λ (b : Bool). not (holds q v) || b) (clash-any-order c o es h v))))
