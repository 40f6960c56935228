-- Room and result lists of which only the lengths are known. Assumes nothing.
use Rattle.std.specs.Prelude.{◌≡◌, length}
use Rattle.rules.specs.Rooms.{Room, Results}
use Rattle.checking.specs.declared.room.Lengths.{Lengths}

-- The ten lists have these lengths.
pub record Lent (lent : Lengths) (room : Room) (results : Results) : Type 0 where
  pub heads : length room.heads ≡ lent.heads
  pub up : length room.up ≡ lent.up
  pub down : length room.down ≡ lent.down
  pub tints : length room.tints ≡ lent.tints
  pub marks : length room.marks ≡ lent.marks
  pub kept : length results.kept ≡ lent.kept
  pub ends : length results.ends ≡ lent.ends
  pub numbers : length results.numbers ≡ lent.numbers
  pub items : length results.items ≡ lent.items
  pub colours : length results.colours ≡ lent.colours
