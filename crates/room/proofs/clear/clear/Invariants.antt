-- The loop of `clear`: at place i the elements before i are zeros, and the others as they were.
use Rattle.std.proofs.Common.{◌≡◌, map, take}
use Rattle.rules.specs.Lists.{written}
use Rattle.room.proofs.clear.clear.Given as goal

abbrev pub invariant-loop-place : goal.invariant-loop-place
invariant-loop-place g l = l.list ≡ written (map (λ x. l.zero) (take l.place l.initial.list)) l.initial.list
