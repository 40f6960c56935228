-- A state's entries are entries of the problem: the rounds take entries and options away, and put none in. Assumes nothing.
use Prim.Native.Nat.{ℕ, ◌≤◌}
use native.Mathlib.Omega.{arith}
use mathlib.Core.Path.{subst}
use mathlib.Core.Bool.{Bool, true, false, not, cond}
use mathlib.Core.List.Memᴰ.{not-nil}
use mathlib.Core.List.{List, [], map, Memᴰ as In}
use mathlib.Core.Option.{Option, none, some}
use lib.ListN.{length}
use Rattle.rules.specs.Lists.{each}
use Rattle.rules.specs.Problem.{Entry, Problem}
use Rattle.rules.specs.State.{State, is, holds_primary}
use Rattle.rules.specs.Redundant.{shortened}
use Rattle.rules.specs.Blocked.{condemned}
use Rattle.rules.specs.Rounds.{Finding, reduced, infeasible, start, uncovered, unless_uncovered, rounds, reduce}
use Rattle.theorems.proofs.Words.Lists.{In-map}
use Rattle.theorems.proofs.Words.Counts.{length-keep}
use Rattle.theorems.proofs.Steps.Redundancy.{Fate, stays, loses, leaves, fate, shortened_same, shortened-short, shortened-deleted, shortened-sub}
use Rattle.theorems.proofs.Steps.Blocking.{spare, spare-sub}
use Rattle.theorems.proofs.Steps.Preserve.{Kept, FindingIs, rounds-are}
use Rattle.theorems.proofs.Answers.EachFacts.{each_map, each-shorter}

-- Every option of t has entries of one option of s only, and t has no more entries than s.
pub record Part (s t : State) : Type 0 where
  pub from : (o : List Entry) → In o t → (v : List Entry) × In v s × ((e : Entry) → In e o → In e v)
  pub size : length (each (λ o. o) t) ≤ length (each (λ o. o) s)

part_same : (s : State) → Part s s
part_same s = record { from = λ o m. (o, m, λ e k. k); size = omega arith }

part_then : (s t u : State) → Part s t → Part t u → Part s u
part_then s t u P Q = record { from = from; size = let p = P.size in let q = Q.size in omega arith }
  where
    from : (o : List Entry) → In o u → (v : List Entry) × In v s × ((e : Entry) → In e o → In e v)
    from o m = let w = Q.from o m in let z = P.from w.0 w.1 in (z.0, z.1, λ e k. z.2 e (w.2 e k))

-- options as f leaves them, where f only takes entries away
part-map : (f : List Entry → List Entry) (s : State) → ((o : List Entry) (e : Entry) → In e (f o) → In e o) → ((o : List Entry) → length (f o) ≤ length o) → Part s (map f s)
part-map f s sub less =
    record {
      from = λ o m. let w = In-map f s m in (w.0, w.1, λ e k. sub w.0 e (subst (λ (v : List Entry). In e v) w.2 k));
      size = rw (each_map f (λ o. o) s) (each-shorter f (λ o. o) s less);
    }

-- an option, or nothing of it
module _ (o : List Entry) where
  or_nothing : (b : Bool) {e : Entry} → In e (cond b o []) → In e o
  or_nothing true m = m
  or_nothing false m = absurd (not-nil m)

  or-less : (b : Bool) → length (cond b o []) ≤ length o
  or-less true = omega arith
  or-less false = omega arith

  nothing-less : (b : Bool) → length (cond b [] o) ≤ length o
  nothing-less true = omega arith
  nothing-less false = omega arith

shortened-less : (c p : ℕ) (o : List Entry) → length (shortened c p o) ≤ length o
shortened-less c p o = go (fate c p o)
  where
    go : Fate c p o → length (shortened c p o) ≤ length o
    go (stays t) = rw (shortened_same c p o t) (omega arith)
    go (loses t u) = rw (shortened-short c p o t u) (length-keep (λ e. not (is c e)) o)
    go (leaves t u) = rw (shortened-deleted c p o t u) (omega arith)

part-kept : (np : ℕ) → Kept np Part (λ s q cause. Unit {0})
part-kept np = record {
  same = part_same;
  then = part_then;
  late = λ s t q cause P h. tt;
  without = λ c p s t R e. part-map (shortened c p) s (λ o e m. shortened-sub c p o m) (shortened-less c p);
  without-emptied = λ c p q s t R e. tt;
  spared = λ c s h e. part-map (spare np s c) s (λ o e m. (spare-sub np s c o m).0) (λ o. nothing-less o (condemned np s c o));
  spared-emptied = λ c q s h e. tt;
}

part-start : (a : Problem) → Part a.options (start a)
unfolding start
part-start a =
    part-map (λ o. cond (holds_primary a.np o) o []) a.options (λ o e m. or_nothing o (holds_primary a.np o) m) (λ o. or-less o (holds_primary a.np o))

-- The state that the rounds end in is part of the problem.
abbrev pub PartOf : Problem → Finding → Type 0
PartOf a (reduced s r settled) = Part a.options s
PartOf a (infeasible item cause r) = Unit {0}

pub part_of : (a : Problem) (cap : ℕ) → PartOf a (reduce a cap)
unfolding reduce
part_of a cap = go (uncovered a.np (start a))
  where
    ran : (x : Finding) → FindingIs Part (λ s q cause. Unit {0}) (start a) x → PartOf a x
    ran (reduced s r b) P = part_then a.options (start a) s (part-start a) P
    ran (infeasible q cause r) P = tt

    go : (o : Option ℕ) → PartOf a (unless_uncovered o (rounds a.np a.n cap 0 (start a)))
    go none = ran (rounds a.np a.n cap 0 (start a)) (rounds-are (part-kept a.np) a.n cap 0 (start a))
    go (some q) = tt
