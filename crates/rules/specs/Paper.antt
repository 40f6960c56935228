-- The answer in the paper's terms: its number, and its values in the order of the table in document 01, "What comes back".
-- Assumes nothing.
use Rattle.std.specs.Prelude.{ℕ, Bool, cond, List, [], ◌∷◌}
use Rattle.rules.specs.declared.answer.Answer.{Answer}
use Rattle.rules.specs.declared.answer.Answer.TheVariants.{Reduced, Infeasible, Refused}
use Rattle.rules.specs.declared.answer.Cause.{Cause}
use Rattle.rules.specs.declared.answer.Cause.TheVariants.{Start, Redundant, Blocked}
use Rattle.rules.specs.Checks.{Refusal}
use Rattle.rules.specs.Refusals.{as_paper}

pub record Said : Type 0 where
  pub number : ℕ
  pub values : List ℕ

-- 0: counts of kept primaries, secondaries, options and entries; rounds; settled (1) or not (0)
abbrev pub said_reduced : ℕ → ℕ → ℕ → ℕ → ℕ → Bool → Said
said_reduced primaries secondaries options entries rounds settled =
    record { number = 0; values = primaries ∷ secondaries ∷ options ∷ entries ∷ rounds ∷ cond settled 1 0 ∷ [] }

-- 1: primary item, cause, round
abbrev pub said_infeasible : ℕ → ℕ → ℕ → Said
said_infeasible item cause round = record { number = 1; values = item ∷ cause ∷ round ∷ [] }

-- 10 to 22: the place
abbrev pub said_refused : Refusal → Said
said_refused r = record { number = r.number; values = r.place ∷ [] }

-- the number of each cause
abbrev pub cause_number : Cause → ℕ
cause_number Start = 1
cause_number Redundant = 2
cause_number Blocked = 3

-- what each case of the answer says
abbrev pub paper : Answer → Said
paper (Reduced primaries secondaries options entries rounds settled) = said_reduced primaries secondaries options entries rounds settled
paper (Infeasible item cause round) = said_infeasible item.0 (cause_number cause) round
paper (Refused r) = said_refused (as_paper r)
