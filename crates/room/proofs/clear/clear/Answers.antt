-- `room::clear::clear` meets its contract: at place i the elements before i are zeros, and the others as they were. Assumes nothing.
use Rattle.std.proofs.Common.{arith}
use Rattle.room.proofs.Remade.{remade}
use Rattle.room.proofs.clear.clear.Goals as goal

pub loop-place-preserved : goal.loop-place-preserved
loop-place-preserved g c = rw c.loop-place.invariant (remade (λ x. c.args.zero) c.args.list.now c.loop-place.place c.args.zero (omega arith))
