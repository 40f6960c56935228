-- What is asked where the result is written: the nodes as the rounds left them, and lists that are long enough. Assumes nothing.
use Rattle.std.specs.Prelude.{ℕ, ◌≤◌, ◌<◌, List, length}
use Rattle.rules.specs.Bounds.{word_bound}
use Rattle.rules.specs.Rooms.{Results}
use Rattle.rules.specs.Result.{kept_options, results_of}
use Rattle.links.specs.Ground.{Ground}
use Rattle.showing.specs.Showing.{state_of}
use Rattle.result.specs.Writing.{out}
use Rattle.links.specs.declared.nodes.Nodes.{Nodes}
use Rattle.result.specs.Reading.{NodesRead, LongEnough}

pub record Reported (g : Ground) (nodes : Nodes) (tints : List ℕ) (lists : Results) : Type 0 where
  pub laid : NodesRead g nodes tints
  pub few : nodes.shape.np ≤ nodes.shape.n
  pub kept-room : nodes.shape.n ≤ length lists.kept
  pub holding : LongEnough (results_of nodes.shape.n (state_of g)) (out lists.ends lists.numbers lists.items lists.colours)
  -- the counts are numbers of 32 bits
  pub options-small : length (kept_options nodes.shape.n (state_of g)) < word_bound
  pub entries-small : length (results_of nodes.shape.n (state_of g)).items < word_bound
