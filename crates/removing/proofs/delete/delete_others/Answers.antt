-- `removing::delete::delete_others` meets its contract: at each place of the walk the lists are those without what was passed, and the first primary
-- column that this emptied is remembered. Assumes nothing.
use Rattle.std.proofs.Common.{◌≡◌, ◌≢◌, ℕ, [], ◌∷◌, arith, ◌∙◌, sym}
use Rattle.links.specs.Ending.{ending}
use Rattle.links.specs.Ground.{Ground, taken}
use Rattle.links.specs.Head.{item_of, head}
use Rattle.links.specs.Nodes.{in_nodes}
use Rattle.links.specs.Row.{walked}
use Rattle.links.proofs.Endings.{item_none, item_some, earlier, ending-and}
use Rattle.links.proofs.SameNodes.{same-then}
use Rattle.removing.specs.Deleting.{Sitting, Deleting, Deleted}
use Rattle.removing.proofs.Deletes.{midway-over, midway-over-way, midway-sits, midway-next, midway-round}
use Rattle.removing.proofs.delete.delete_others.Goals as goal
use Rattle.removing.proofs.delete.delete_others.Goals.{In-None, In-Some, After-take_out}

-- where the node at q has no item; and where it has one, which sits in its column, and what taking it out came to
bare : (c : In-None) → item_of (head c.loop-q.nodes.heads.now c.loop-q.q) ≡ 0
bare c = item_none _ (sym c.in-None.is ∙ c.column.ensures)

some : (c : In-Some) → item_of (head c.loop-q.nodes.heads.now c.loop-q.q) ≢ 0
some c = omega (arith, item_some _ _ (sym c.in-Some.is ∙ c.column.ensures))

sits : (c : In-Some) (g : Ground) → in_nodes (Deleting g c.args.r) c.args.nodes.now → in_nodes (Sitting (taken g (walked g c.args.r c.loop-q.q)) c.loop-q.q) c.loop-q.nodes
sits c g d = midway-sits d (c.loop-q.invariant.1 g d).2 c.loop-q-test.true (some c)

taken_out : (c : After-take_out) (g : Ground) → in_nodes (Sitting (taken g (walked g c.args.r c.loop-q.q)) c.loop-q.q) c.loop-q.nodes
    → (z : ℕ) × (c.take_out.result ≡ ending z) × in_nodes (Deleted (taken g (walked g c.args.r c.loop-q.q)) c.args.nodes.now.shape.np (c.loop-q.q ∷ [])) c.take_out.new.nodes z
taken_out c g s = rw c.loop-q.invariant.0.shape at (c.take_out.ensures.deleted (taken g (walked g c.args.r c.loop-q.q)) s)

pub loop-q-smaller-in-None : goal.loop-q-smaller-in-None
loop-q-smaller-in-None c =
    rw c.above-q.ensures.node (midway-over-way c.requires.1 (c.loop-q.invariant.1 c.requires.0 c.requires.1).2 c.loop-q-test.true (bare (goal.at.loop-q-smaller-in-None c).In-None))

pub loop-q-preserved-in-None : goal.loop-q-preserved-in-None
loop-q-preserved-in-None c =
    let none = bare (goal.at.loop-q-preserved-in-None c).In-None in (
      c.loop-q.invariant.0,
      λ g d. let m = c.loop-q.invariant.1 g d in (m.0, m.1, rw c.above-q.ensures.node (midway-over d m.2 c.loop-q-test.true none)),
    )

pub take_out-requires : goal.take_out-requires
take_out-requires c = (taken c.requires.0 (walked c.requires.0 c.args.r c.loop-q.q), sits (goal.at.take_out-requires c).In-Some c.requires.0 c.requires.1)

pub loop-q-preserved : goal.loop-q-preserved
loop-q-preserved c =
    let a = goal.at.loop-q-preserved c in (
      same-then c.loop-q.invariant.0 c.take_out.ensures.nodes,
      λ g d.
          let m = c.loop-q.invariant.1 g d in
          let o = taken_out a.After-take_out g (sits a.In-Some g d) in
          (earlier m.0 o.0, c.and-ended.ensures ∙ ending-and m.0 o.0 m.1 o.1, midway-next d m.2 c.loop-q-test.true (some a.In-Some) o.2),
    )

pub returns-clause-deleted : goal.returns-clause-deleted
returns-clause-deleted c = λ g d. let m = c.loop-q.invariant.1 g d in (m.0, m.1, midway-round d m.2 c.loop-q-test.false)
