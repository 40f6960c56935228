-- The loop of `init_links`: the options before k are laid out, and option k lies within the lists that were handed in.
use Rattle.std.proofs.Common.{ℕ, ◌<◌, ◌≤◌, length}
use Rattle.rules.specs.Problem.{Figures}
use Rattle.links.specs.Column.{at}
use Rattle.links.specs.Nodes.{SameNodes}
use Rattle.building.specs.Build.{Buildable}
use Rattle.building.proofs.Options.{AtOption}
use Rattle.building.proofs.init_links.init_links.Given as goal

abbrev pub invariant-loop-k : goal.invariant-loop-k
invariant-loop-k l =
    let g = l.lists in
    SameNodes l.fn.nodes l.nodes
    × (l.k < length g.ends.now → (l.begin ≤ at g.ends.now l.k) × (at g.ends.now l.k ≤ length g.items.now) × (at g.ends.now l.k ≤ length g.colours.now))
    × ((f : Figures) (ns : ℕ)
    → Buildable f l.fn.nodes.shape.np ns l.fn.nodes.shape.n g.items.now g.colours.now g.ends.now l.fn.nodes.heads.now l.fn.nodes.up.now l.fn.nodes.down.now l.fn.tints l.fn.marks
    → AtOption l.fn.nodes.shape.np ns g.items.now g.colours.now g.ends.now l.nodes.heads.now l.nodes.up.now l.nodes.down.now l.tints l.edge l.begin l.k)
