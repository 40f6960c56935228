-- A round that removed nothing left the state as it was, and nothing in it is redundant or blocked. Assumes nothing.
use Prim.Native.Nat.{ℕ}
use mathlib.Core.Path.{◌≡◌, subst}
use mathlib.Core.Bool.{false, not}
use mathlib.Core.List.{List, Memᴰ as In}
use lib.Dec.{T, T_not, not_T}
use Rattle.rules.specs.Lists.{up_to}
use Rattle.rules.specs.Problem.{Entry}
use Rattle.rules.specs.State.{State, Step, went, is_uncoloured, begins}
use Rattle.rules.specs.Blocked.{blocked, condemned}
use Rattle.rules.specs.Rounds.{round}
use Rattle.rules.specs.Promises.{NothingLeft}
use Rattle.theorems.proofs.Words.Lists.{none_any, up_to-In}
use Rattle.theorems.proofs.Steps.States.{uncoloured-holds, begins-holds, live←, live_below, ItemsBelow}
use Rattle.theorems.proofs.Steps.Redundancy.{chosen_none}
use Rattle.theorems.proofs.Steps.Blocking.{condemned←}
use Rattle.theorems.proofs.Results.Kept.{kept→}
use Rattle.theorems.proofs.Settled.Flag.{AllQuiet, Tells, round-tells}

module _ (np n : ℕ) (s : State) where
  pub round-false : {s' : State} → round np n s ≡ went s' false → (s' ≡ s) × AllQuiet np s (up_to n)
  round-false e = subst (λ (x : Step). Tells np n (up_to n) s false x) e (round-tells np n s)

  pub quiet-left : ItemsBelow n s → AllQuiet np s (up_to n) → NothingLeft np n s
  quiet-left below Q =
      record
      { no-redundant = λ c m p. let k = kept→ n s m in chosen_none np s c (Q c (up_to-In n k.0) k.1).0 p; no-blocked = λ c o m t. spared c o m t }
    where
      spared : (c : ℕ) (o : List Entry) → In o s → T (begins (is_uncoloured c) o) → T (not (blocked np s c o))
      spared c o m t =
          let h = begins-holds c o t in
          let l = live← c s m (uncoloured-holds c o h) in
          let q = Q c (up_to-In n (live_below n s below c l)) l in
          not_T (blocked np s c o) (λ b. T_not (condemned np s c o) (none_any (condemned np s c) s q.1 m) (condemned← np s c o t b))

-- Settled: the state is as it was before the round, and nothing is left to do in it.
pub nothing_left : (np n : ℕ) (s s' : State) → ItemsBelow n s → round np n s ≡ went s' false
    → (s' ≡ s) × NothingLeft np n s
nothing_left np n s s' below e = let w = round-false np n s e in (w.0, quiet-left np n s below w.1)
