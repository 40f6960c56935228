-- A writer's lists, and those of a result that it writes. And that a function leaves them the same ones, whatever it writes in them. Assumes nothing.
use Rattle.std.specs.Prelude.{ℕ, ◌≡◌, length}
use Rattle.rules.specs.declared.lent.Results.{Results}
use Rattle.result.specs.Writing.{FourLists, out}
use Rattle.result.specs.declared.writer.Writer.{Writer}

abbrev pub lists_of : Writer → FourLists
lists_of w = out w.ends.now w.numbers.now w.items.now w.colours.now

abbrev pub lists_in : Results ℕ → FourLists
lists_in r = out r.ends.now r.numbers.now r.items.now r.colours.now

-- b is what a became: the same four lists, as long as they were
pub record SameWriter (a b : Writer) : Type 0 where
  pub ends : b.ends.ghost_name ≡ a.ends.ghost_name
  pub numbers : b.numbers.ghost_name ≡ a.numbers.ghost_name
  pub items : b.items.ghost_name ≡ a.items.ghost_name
  pub colours : b.colours.ghost_name ≡ a.colours.ghost_name
  pub ends-long : length b.ends.now ≡ length a.ends.now
  pub numbers-long : length b.numbers.now ≡ length a.numbers.now
  pub items-long : length b.items.now ≡ length a.items.now
  pub colours-long : length b.colours.now ≡ length a.colours.now
