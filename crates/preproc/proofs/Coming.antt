-- What a step comes to by the number of the column that it empties, 0 if it empties none; and the step's answer from it. Assumes nothing.
use Rattle.std.proofs.Common.{◌≡◌, ◌≢◌, ◌+◌, ◌-◌, ℕ, ℤ, zero, suc, List, Bool, refl, sym, ap, arith, rules, Option, is_some, true, false, Ok, Err}
use Rattle.rules.specs.declared.answer.Cause.{Cause}
use Rattle.rules.specs.Paper.{cause_number}
use Rattle.rules.specs.State.{State, Step, went, emptied}
use Rattle.links.specs.Plan.{Plan}
use Rattle.links.specs.Nodes.{column}
use Rattle.preproc.specs.declared.stop.Stop.{Stop}
use Rattle.preproc.specs.Standing.{Holding, Stepped}
use Rattle.preproc.specs.Stopping.{stopping}

pub record Came (P : Plan) (step : Step) (z : ℕ) (cause : Cause) (removed : Bool) (heads : List ℤ) (up down tints marks : List ℕ) : Type 0 where
  pub stops : z ≢ 0 → step ≡ emptied (z - 1) (cause_number cause)
  pub goes : z ≡ 0 → (s : State) × (step ≡ went s removed) × Holding P s heads up down tints marks

pub stopping_ok : (z : ℕ) (cause : Cause) → Ok tt ≡ stopping z cause → z ≡ 0
stopping_ok zero cause e = refl
stopping_ok (suc i) cause e = search rules

pub stopping_err : (z : ℕ) (cause : Cause) (s : Stop) → Err s ≡ stopping z cause → (z ≡ s.item.0 + 1) × (cause ≡ s.cause)
stopping_err zero cause s e = search rules
stopping_err (suc i) cause s e = search (rules, arith)

module _ {P : Plan} {step : Step} {z : ℕ} {cause : Cause} {removed : Bool} {heads : List ℤ} {up down tints marks : List ℕ} (c : Came P step z cause removed heads up down tints marks) where
  pub came_ok : Ok tt ≡ stopping z cause → Stepped P step (Ok removed) heads up down tints marks
  came_ok e = record { stops = tt; goes = c.goes (stopping_ok z cause e) }

  pub came_err : (s : Stop) → Err s ≡ stopping z cause → Stepped P step (Err s) heads up down tints marks
  came_err s e =
      let w = stopping_err z cause s e in
      let i : z - 1 ≡ s.item.0 = omega (arith, w.0) in
      record { stops = rw (sym i, sym w.1) (c.stops (omega (arith, w.0))); goes = tt }

-- whether the tests found an option, by the end of the chain
pub some-found : {o : Option ℕ} {z : ℕ} → o ≡ column z → z ≢ 0 → is_some o ≡ true
some-found {z = zero} e n = absurd (n refl)
some-found {z = suc i} e n = ap is_some e

pub none-found : {o : Option ℕ} {z : ℕ} → o ≡ column z → z ≡ 0 → is_some o ≡ false
none-found {z = zero} e n = ap is_some e
none-found {z = suc i} e n = absurd (omega (arith, n))
