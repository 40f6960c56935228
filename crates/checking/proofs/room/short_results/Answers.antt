-- `checking::room::short_results` meets its contract: the lists have the lengths that are tested. Assumes nothing.
use Rattle.rules.specs.Checks.{short_results}
use Rattle.checking.proofs.room.short_results.Goals as goal

pub returns : goal.returns
unfolding short_results
returns c = λ room results L. rw (L.kept, L.ends, L.numbers, L.items, L.colours)
