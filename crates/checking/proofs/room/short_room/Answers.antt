-- `checking::room::short_room` meets its contract: the lists have the lengths that are tested. Assumes nothing.
use Rattle.rules.specs.Checks.{short_room}
use Rattle.checking.proofs.room.short_room.Goals as goal

pub returns : goal.returns
unfolding short_room
returns c = λ room results L. rw (L.heads, L.up, L.down, L.tints, L.marks)
