-- The answer as one 64-bit number, of the desk's call and of the call over lists of numbers. Document 01, "What comes back", its last lines.
-- Assumes nothing.
use Rattle.std.specs.Prelude.{ℕ, ◌+◌, ◌-◌, ◌*◌, ◌^◌, ◌<◌, ◌≤◌, cond, eqb, get_or}
use Rattle.rules.specs.Checks.{Refusal}
use Rattle.rules.specs.Refusals.{as_paper}
use Rattle.rules.specs.Paper.{Said, cause_number}
use Rattle.rules.specs.declared.answer.Answer.{Answer}
use Rattle.rules.specs.declared.answer.Answer.TheVariants.{Reduced, Infeasible, Refused}

-- Refusal: number + 256 x place.
abbrev pub packed_refusal : Refusal → ℕ
packed_refusal r = r.number + 2 ^ 8 * r.place

-- Infeasible: 1 + 2^8 x item + 2^24 x cause + 2^32 x round.
abbrev pub packed_infeasible : ℕ → ℕ → ℕ → ℕ
packed_infeasible item cause round = 1 + 2 ^ 8 * item + 2 ^ 24 * cause + 2 ^ 32 * round

-- Reduced: 2^8 x rounds + 2^24 x settled (1 or 0) + 2^p x primaries + 2^s x secondaries + 2^o x options.
abbrev pub packed_reduced : ℕ → ℕ → ℕ → ℕ → ℕ → ℕ → ℕ → ℕ → ℕ
packed_reduced p s o primaries secondaries options rounds settled =
    2 ^ 8 * rounds + 2 ^ 24 * settled + 2 ^ p * primaries + 2 ^ s * secondaries + 2 ^ o * options

-- by the answer's number; its values stand in the order of the table
abbrev pub packed_at : ℕ → ℕ → ℕ → Said → ℕ
packed_at p s o said =
    let value : ℕ → ℕ = λ k. get_or said.values k 0 in
    cond (eqb said.number 0) (packed_reduced p s o (value 0) (value 1) (value 2) (value 4) (value 5))
    (cond (eqb said.number 1) (packed_infeasible (value 0) (value 1) (value 2)) (packed_refusal (record { number = said.number; place = value 0 })))

-- of the desk's call
abbrev pub packed_desk : Said → ℕ
packed_desk said = packed_at 32 40 48 said

-- of the call over lists of numbers
abbrev pub packed_lists : Said → ℕ
packed_lists said = packed_at 25 36 47 said

-- No field overflows into the next: each is below what its place in the number leaves it.
pub record RefusalFits (r : Refusal) : Type 0 where
  pub number_is : 1 < r.number
  pub number_fits : r.number < 2 ^ 8
  pub place-fits : r.place < 2 ^ 56

pub record InfeasibleFits (item cause round : ℕ) : Type 0 where
  pub item-fits : item < 2 ^ 16
  pub cause-fits : cause < 2 ^ 8
  pub round-fits : round < 2 ^ 32

-- the primaries, the secondaries and the options begin in this order, behind the rounds and the flag
abbrev pub InOrder : ℕ → ℕ → ℕ → Type 0
InOrder p s o = (25 ≤ p) × (p ≤ s) × (s ≤ o) × (o < 64)

pub record ReducedFits (p s o primaries secondaries options rounds settled : ℕ) : Type 0 where
  pub rounds-fit : rounds < 2 ^ 16
  pub settled-fits : settled < 2
  pub primaries-fit : primaries < 2 ^ (s - p)
  pub secondaries-fit : secondaries < 2 ^ (o - s)
  pub options-fit : options < 2 ^ (64 - o)

abbrev pub Fits : ℕ → ℕ → ℕ → Answer → Type 0
Fits p s o (Reduced primaries secondaries options entries rounds settled) = ReducedFits p s o primaries secondaries options rounds (cond settled 1 0)
Fits p s o (Infeasible item cause round) = InfeasibleFits item.0 (cause_number cause) round
Fits p s o (Refused r) = RefusalFits (as_paper r)
