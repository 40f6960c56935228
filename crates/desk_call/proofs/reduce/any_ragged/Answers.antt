-- `desk_call::reduce::any_ragged` meets its contract: the lengths are those of the eight lists. Assumes nothing.
use Rattle.desk_call.proofs.reduce.any_ragged.Goals as goal

pub returns : goal.returns
returns c = c.any_ragged.ensures
