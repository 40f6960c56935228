-- What a call is handed and lent: the problem's numbers and lists, the working room and the result room. Document 01, "The problem as handed in".
-- Assumes nothing.
use Rattle.std.specs.Prelude.{ℕ, List, ℤ}

-- The working lists and the result lists, as lent.
pub record Room : Type 0 where
  pub heads : List ℤ
  pub up : List ℕ
  pub down : List ℕ
  pub tints : List ℕ
  pub marks : List ℕ

pub record Results : Type 0 where
  pub kept : List ℕ
  pub ends : List ℕ
  pub numbers : List ℕ
  pub items : List ℕ
  pub colours : List ℕ

-- All that a call is handed: the numbers, the lists, and the room.
pub record Handed : Type 0 where
  pub np : ℕ
  pub ns : ℕ
  pub cap : ℕ
  pub items : List ℕ
  pub colours : List ℕ
  pub ends : List ℕ
  pub room : Room
  pub results : Results

-- a room, and result lists, put together from their lists
abbrev pub room_lists : List ℤ → List ℕ → List ℕ → List ℕ → List ℕ → Room
room_lists heads up down tints marks = record { heads = heads; up = up; down = down; tints = tints; marks = marks }

abbrev pub result_lists : List ℕ → List ℕ → List ℕ → List ℕ → List ℕ → Results
result_lists kept ends numbers items colours = record { kept = kept; ends = ends; numbers = numbers; items = items; colours = colours }
