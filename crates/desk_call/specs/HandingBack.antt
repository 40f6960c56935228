-- The fronts of number lists, written to byte lists: as many numbers as the answer counts. Assumes nothing.
use Rattle.std.specs.Prelude.{ℕ, ◌+◌, ◌*◌, ◌≤◌, length, take}
use Rattle.rules.specs.Problem.{desk_figures}
use Rattle.rules.specs.Rooms.{Results}
use Rattle.rules.specs.Outcome.{fronts}
use Rattle.rules.specs.declared.answer.Answer.{Answer}
use Rattle.rules.specs.declared.answer.Answer.TheVariants.{Reduced, Infeasible, Refused}
use Rattle.desk_call.specs.Desk.{bytes_in}

-- the fronts that are so long: items, options and entries
abbrev pub firsts : ℕ → ℕ → ℕ → Results → Results
firsts items options entries r = record {
  kept = take items r.kept;
  ends = take options r.ends;
  numbers = take options r.numbers;
  items = take entries r.items;
  colours = take entries r.colours;
}

abbrev pub handed_back : Answer → Results → Results → Results
handed_back (Reduced primaries secondaries options entries rounds settled) words bytes = fronts (bytes_in (firsts (primaries + secondaries) options entries words)) bytes
handed_back (Infeasible item cause round) words bytes = bytes
handed_back (Refused refusal) words bytes = bytes

-- so many numbers are there, and there is room for their bytes
pub record RoomFor (items options entries : ℕ) (words bytes : Results) : Type 0 where
  pub few : items ≤ desk_figures.items
  pub kept : items ≤ length words.kept
  pub ends : options ≤ length words.ends
  pub numbers : options ≤ length words.numbers
  pub items-there : entries ≤ length words.items
  pub colours : entries ≤ length words.colours
  pub kept-bytes : 4 * items ≤ length bytes.kept
  pub ends-bytes : 4 * options ≤ length bytes.ends
  pub numbers-bytes : 4 * options ≤ length bytes.numbers
  pub items-bytes : 4 * entries ≤ length bytes.items
  pub colours-bytes : 4 * entries ≤ length bytes.colours

abbrev pub Handable : Answer → Results → Results → Type 0
Handable (Reduced primaries secondaries options entries rounds settled) words bytes = RoomFor (primaries + secondaries) options entries words bytes
Handable (Infeasible item cause round) words bytes = Unit {0}
Handable (Refused refusal) words bytes = Unit {0}
