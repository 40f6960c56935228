-- `desk_call::own_room::in_own_room` meets its contract. Assumes nothing.
use Rattle.desk_call.specs.Desk.{desk_room}
use Rattle.desk_call.proofs.OwnRoom.{room-cleared}
use Rattle.desk_call.proofs.own_room.in_own_room.Goals as goal

pub returns-clause-outcome : goal.returns-clause-outcome
unfolding desk_room
returns-clause-outcome c = room-cleared _ c.reduce.ensures.outcome
