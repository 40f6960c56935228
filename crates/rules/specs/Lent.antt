-- The program's lists as those of document 01: what is handed in, the room, and the result. And that a call leaves what it is lent the same
-- lists, whatever it writes in them. Assumes nothing.
use Rattle.std.specs.Prelude.{ℕ, ◌≡◌, length}
use Rattle.rules.specs.Rooms.{Room as PaperRoom, Results as PaperResults, Handed}
use Rattle.rules.specs.declared.problem.Problem.{Problem}
use Rattle.rules.specs.declared.lent.Given.{Given}
use Rattle.rules.specs.declared.lent.Lists.{Lists}
use Rattle.rules.specs.declared.lent.Room.{Room}
use Rattle.rules.specs.declared.lent.Results.{Results}

abbrev pub room_in : Room → PaperRoom
room_in r = record { heads = r.heads.now; up = r.up.now; down = r.down.now; tints = r.tints.now; marks = r.marks.now }

abbrev pub results_in : Results ℕ → PaperResults
results_in r = record { kept = r.kept.now; ends = r.ends.now; numbers = r.numbers.now; items = r.items.now; colours = r.colours.now }

-- all that a call is handed
abbrev pub handed_in : Given ℕ → PaperRoom → PaperResults → Handed
handed_in p room results = record {
  np = p.np;
  ns = p.ns;
  cap = p.cap;
  items = p.items.now;
  colours = p.colours.now;
  ends = p.ends.now;
  room = room;
  results = results;
}

-- the same, of a problem and its lists
abbrev pub handed_lists : Problem → ℕ → Lists → PaperRoom → PaperResults → Handed
handed_lists p cap lists room results = record {
  np = p.np;
  ns = p.ns;
  cap = cap;
  items = lists.items.now;
  colours = lists.colours.now;
  ends = lists.ends.now;
  room = room;
  results = results;
}

-- b is what a became: the same lists, as long as they were
pub record SameRoom (a b : Room) : Type 0 where
  pub heads : b.heads.ghost_name ≡ a.heads.ghost_name
  pub up : b.up.ghost_name ≡ a.up.ghost_name
  pub down : b.down.ghost_name ≡ a.down.ghost_name
  pub tints : b.tints.ghost_name ≡ a.tints.ghost_name
  pub marks : b.marks.ghost_name ≡ a.marks.ghost_name
  pub heads-long : length b.heads.now ≡ length a.heads.now
  pub up-long : length b.up.now ≡ length a.up.now
  pub down-long : length b.down.now ≡ length a.down.now
  pub tints-long : length b.tints.now ≡ length a.tints.now
  pub marks-long : length b.marks.now ≡ length a.marks.now

pub record SameResults {T : Type 0} (a b : Results T) : Type 0 where
  pub kept : b.kept.ghost_name ≡ a.kept.ghost_name
  pub ends : b.ends.ghost_name ≡ a.ends.ghost_name
  pub numbers : b.numbers.ghost_name ≡ a.numbers.ghost_name
  pub items : b.items.ghost_name ≡ a.items.ghost_name
  pub colours : b.colours.ghost_name ≡ a.colours.ghost_name
  pub kept-long : length b.kept.now ≡ length a.kept.now
  pub ends-long : length b.ends.now ≡ length a.ends.now
  pub numbers-long : length b.numbers.now ≡ length a.numbers.now
  pub items-long : length b.items.now ≡ length a.items.now
  pub colours-long : length b.colours.now ≡ length a.colours.now
