-- `room::clear_room::clear_room` meets its contract. Assumes nothing.
use Rattle.room.proofs.Clearing.{cleared-is}
use Rattle.room.proofs.clear_room.clear_room.Goals as goal

pub returns-clause-cleared : goal.returns-clause-cleared
returns-clause-cleared c = cleared-is _ _ _ _ _ c.clear.ensures c.clear-2.ensures c.clear-3.ensures c.clear-4.ensures c.clear-5.ensures
