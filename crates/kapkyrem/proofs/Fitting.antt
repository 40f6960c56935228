-- Every answer of a call fits its number: no field overflows into the next, at figures that leave the counts their room. Assumes nothing.
use Prim.Native.Nat.{ℕ, ◌+◌, ◌-◌, ◌^◌, ◌<◌}
use native.Mathlib.Omega.{arith}
use mathlib.Core.Path.{◌≡◌, refl, sym, ap, subst, ◌∙◌}
use mathlib.Core.Bool.{Bool, true, false, cond}
use mathlib.Core.Option.{Option, none, some}
use lib.ListN.{length}
use Rattle.rules.specs.Problem.{Figures, problem_of}
use Rattle.rules.specs.Rooms.{Handed}
use Rattle.rules.specs.Checks.{Refusal, refusal_of}
use Rattle.rules.specs.Rounds.{Finding, reduced, infeasible, reduce}
use Rattle.rules.specs.Result.{kept_items, kept_options, primaries_of, secondaries_of, results_of}
use Rattle.rules.specs.Paper.{paper}
use Rattle.rules.specs.Outcome.{Outcome, said_of, outcome_at}
use Rattle.rules.specs.declared.answer.Answer.{Answer}
use Rattle.rules.specs.declared.answer.Answer.TheVariants.{Reduced}
use Rattle.theorems.proofs.Checks.Accept.{passed}
use Rattle.theorems.proofs.Checks.Paper.{paper-one, infeasible-one, refused-one}
use Rattle.theorems.proofs.Answers.Bounds.{Within, bounds, number-range, place-below}
use Rattle.theorems.proofs.Answers.Causes.{cause-range}
use Rattle.theorems.proofs.Answers.RefusalPlaces.{tabled}
use Rattle.theorems.proofs.Answers.OneOutcome.{outcome-refused, outcome-found}
use Rattle.kapkyrem.specs.Packed.{RefusalFits, InfeasibleFits, Fits}

-- figures whose counts fit the fields, and the rounds and places with them
pub record FiguresFit (p s o : ℕ) (f : Figures) : Type 0 where
  pub items : f.items < 2 ^ 15
  pub options : f.options < 2 ^ 15
  pub entries : f.entries < 2 ^ 15
  pub primaries : f.items < 2 ^ (s - p)
  pub secondaries : f.items < 2 ^ (o - s)
  pub counted : f.options < 2 ^ (64 - o)

module _ {p s o : ℕ} {f : Figures} (small : FiguresFit p s o f) (ragged : Bool) (h : Handed) where
  -- an answer that says the same as one that fits is that one
  alike : (a b : Answer) → paper a ≡ paper b → Fits p s o b → Fits p s o a
  alike a b e fits = subst (Fits p s o) (sym (paper-one a b e)) fits

  refused : (r : Refusal) → refusal_of f ragged h ≡ some r → RefusalFits r
  refused r e =
      let t = tabled f ragged h r e in
      let n = number-range t in
      let i = small.options in
      let j = small.entries in
      let l = place-below (2 ^ 15) (omega arith) (omega arith) (omega arith) t in
      record { number_is = let m = n.0 in omega arith; number_fits = let m = n.1 in omega arith; place-fits = omega arith }

  settled-small : (b : Bool) → cond b 1 0 < 2
  settled-small true = omega arith
  settled-small false = omega arith

  answered : (a : Answer) → refusal_of f ragged h ≡ none → (x : Finding) → reduce (problem_of h.np h.ns h.items h.colours h.ends) h.cap ≡ x
      → paper a ≡ (outcome_at f ragged h).said → Fits p s o a
  unfolding said_of
  answered a e (reduced t rounds settled) k q =
      let n = h.np + h.ns in
      let w = subst (Within h) k (bounds f ragged h e) in
      let P = passed f ragged h e in
      let b : Answer = Reduced (primaries_of h.np (kept_items n t)) (secondaries_of h.np (kept_items n t)) (length (kept_options n t)) (length (results_of n t).items) rounds settled in
      alike a b (q ∙ ap (λ (z : Outcome). z.said) (outcome-found f ragged h _ e k)) (record {
        rounds-fit = let v = w.in-time in let i = P.items in let m = P.options in let a = small.items in let c = small.options in omega arith;
        settled-fits = settled-small settled;
        primaries-fit = let v = w.primaries in let i = P.items in let a = small.primaries in omega arith;
        secondaries-fit = let v = w.secondaries in let i = P.items in let a = small.secondaries in omega arith;
        options-fit = let v = w.options in let m = P.options in let a = small.counted in omega arith;
      })
  answered a e (infeasible item cause round) k q =
      let w = subst (Within h) k (bounds f ragged h e) in
      let P = passed f ragged h e in
      let o = infeasible-one a (q ∙ ap (λ (z : Outcome). z.said) (outcome-found f ragged h _ e k)) in
      let fits : InfeasibleFits item cause round = record {
        item-fits = let v = w.primary in let i = P.items in let a = small.items in omega arith;
        cause-fits = let c = (cause-range w.why).1 in omega arith;
        round-fits = let v = w.in-time in let i = P.items in let m = P.options in let a = small.items in let c = small.options in omega arith;
      } in
      rw (o.2, o.3, o.4) fits

  pub answer-fits : (a : Answer) → paper a ≡ (outcome_at f ragged h).said → Fits p s o a
  answer-fits a q = go (refusal_of f ragged h) refl
    where
      go : (x : Option Refusal) → refusal_of f ragged h ≡ x → Fits p s o a
      go none e = answered a e (reduce (problem_of h.np h.ns h.items h.colours h.ends) h.cap) refl q
      go (some r) e =
          let o = refused-one a (q ∙ ap (λ (z : Outcome). z.said) (outcome-refused f ragged h r e)) in
          rw (o.1, o.2) (refused r e)
