-- What no check refuses can be built, at figures that the nodes' numbers allow for. Assumes nothing.
use Rattle.std.proofs.Common.{◌≡◌, ℕ, ◌+◌, ◌<◌, ◌≤◌, Bool, not, T, length, refl, arith}
use Rattle.rules.specs.Bounds.{node_bound}
use mathlib.Core.Option.{none}
use Rattle.rules.specs.Problem.{Figures}
use Rattle.rules.specs.Rooms.{Room, Handed}
use Rattle.rules.specs.Checks.{short_room, refusal_of}
use Rattle.theorems.proofs.Words.Tests.{five-suffice}
use Rattle.theorems.proofs.Checks.Accept.{ChecksPassed, passed, passed-accepted}
use Rattle.building.specs.Build.{Buildable}

-- the room that check 17 leaves
pub record Enough (n E M : ℕ) (r : Room) : Type 0 where
  pub heads : n + 2 + E + M ≤ length r.heads
  pub up : n + 2 + E + M ≤ length r.up
  pub down : n + 2 + E + M ≤ length r.down
  pub tints : n + 2 + E + M ≤ length r.tints
  pub marks : n + 1 ≤ length r.marks

pub enough : (n E M : ℕ) (r : Room) → T (not (short_room n E M r)) → Enough n E M r
unfolding short_room
enough n E M r t =
    let w = five-suffice (length r.heads) (length r.up) (length r.down) (length r.tints) (length r.marks) t in
    record { heads = w.0; up = w.1; down = w.2; tints = w.3; marks = w.4 }

module _ (f : Figures) (room : f.items + 2 + f.entries + f.options < node_bound) (h : Handed) where
  pub passed-buildable : ChecksPassed f h
      → Buildable f h.np h.ns (h.np + h.ns) h.items h.colours h.ends h.room.heads h.room.up h.room.down h.room.tints h.room.marks
  passed-buildable P =
      let r = enough (h.np + h.ns) (length h.items) (length h.ends) h.room P.room in
      record {
        total = refl;
        accepted = passed-accepted f h P;
        lengths = P.lengths;
        ends-rise = P.ends;
        small = omega (arith, P.items, P.options, P.entries);
        heads-room = r.heads;
        up_room = r.up;
        down-room = r.down;
        tints-room = r.tints;
        marks-room = r.marks;
      }

  pub buildable : (ragged : Bool) → refusal_of f ragged h ≡ none
      → Buildable f h.np h.ns (h.np + h.ns) h.items h.colours h.ends h.room.heads h.room.up h.room.down h.room.tints h.room.marks
  buildable ragged e = passed-buildable (passed f ragged h e)
