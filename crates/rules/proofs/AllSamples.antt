-- The samples and the cases of the table hold, by computation. Assumes nothing.
use mathlib.Core.Path.{refl}
use Rattle.rules.specs.Problem.{problem_of}
use Rattle.rules.specs.Checks.{refusal_of, check16, short_room, short_results, check_entry}
use Rattle.rules.specs.State.{around}
use Rattle.rules.specs.Redundant.{redundant_for, highest, chosen, shortened, leaving_with, remove_item}
use Rattle.rules.specs.Blocked.{rival, blocks, blocked, condemned, leaving_blocked, delete_blocked}
use Rattle.rules.specs.Rounds.{start, uncovered, item_step, item_steps, round, rounds, reduce}
use Rattle.rules.specs.Result.{kept_items, kept_options, results_of}
use Rattle.rules.specs.Renumber.{sd, crate_item, renumber_refusal, compact_outcome, crate_outcome}
use Rattle.rules.specs.Outcome.{cleared, fronts, said_of, outcome_at}
use Rattle.rules.specs.Samples.{SamplesHold}
use Rattle.rules.specs.Cases.{CasesHold}

pub samples-hold : SamplesHold
unfolding problem_of refusal_of check16 short_room short_results check_entry around redundant_for highest chosen shortened leaving_with remove_item rival blocks
    blocked condemned leaving_blocked delete_blocked start uncovered item_step item_steps round rounds reduce kept_items kept_options results_of sd crate_item
    renumber_refusal compact_outcome crate_outcome cleared fronts said_of outcome_at
samples-hold = record { outcomes = refl; compacts = refl; crates = refl }

pub cases-hold : CasesHold
unfolding refusal_of check16 short_room short_results check_entry sd crate_item renumber_refusal compact_outcome crate_outcome
cases-hold = record { refusals = refl; compacts = refl; crates = refl }
