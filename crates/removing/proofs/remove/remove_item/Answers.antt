-- `removing::remove::remove_item` meets its contract: at each place of the walk down the column the options passed are deleted or shortened,
-- and no primary column was emptied yet. Assumes nothing.
use Rattle.std.proofs.Common.{◌≡◌, ◌≤◌, ℕ, rules, arith, refl, ◌∙◌, sym}
use Rattle.links.specs.Ending.{ending}
use Rattle.links.specs.Ground.{Ground}
use Rattle.links.specs.declared.nodes.Nodes.{Nodes}
use Rattle.links.specs.Nodes.{in_nodes}
use Rattle.links.proofs.Endings.{ending_err, at_ok}
use Rattle.links.proofs.SameNodes.{same-refl, same-then}
use Rattle.removing.specs.Deleting.{Deleting}
use Rattle.removing.specs.Removing.{Dropped, Removing}
use Rattle.removing.proofs.Going.{midst}
use Rattle.removing.proofs.Removes.{remove-begin, remove-node, remove-deletes, remove-stop, remove-way, remove-next, remove-end}
use Rattle.removing.proofs.remove.remove_item.Goals as goal
use Rattle.removing.proofs.remove.remove_item.Goals.{In-loop-nodes, After-delete_or_shorten}

-- the ground at the walk's place, from the nodes
abbrev midst_in : Ground → ℕ → ℕ → ℕ → Nodes → Ground
midst_in g c p r n = midst g c p r n.heads.now n.up.now n.down.now

-- at a node of the column: the walk has not ended, its option may be deleted, and what came of that
behind : (c : In-loop-nodes) → c.args.nodes.now.shape.start ≤ c.loop-nodes.r
behind c = rw c.loop-nodes.invariant.0.shape at c.loop-nodes-test.true

deletes : (c : In-loop-nodes) (g : Ground) → in_nodes (Removing g c.args.c c.args.p c.args.nodes.now.shape.start) c.args.nodes.now
    → in_nodes (Deleting (midst_in g c.args.c c.args.p c.loop-nodes.r c.loop-nodes.nodes) c.loop-nodes.r) c.loop-nodes.nodes
deletes c g q = remove-deletes q (c.loop-nodes.invariant.1 g q) (behind c)

dropped : (c : After-delete_or_shorten) (g : Ground) → in_nodes (Deleting (midst_in g c.args.c c.args.p c.loop-nodes.r c.loop-nodes.nodes) c.loop-nodes.r) c.loop-nodes.nodes
    → (z : ℕ) × (c.delete_or_shorten.result ≡ ending z)
    × in_nodes (Dropped (midst_in g c.args.c c.args.p c.loop-nodes.r c.loop-nodes.nodes) c.args.nodes.now.shape.np c.loop-nodes.r c.args.p) c.delete_or_shorten.new.nodes z
dropped c g d = rw c.loop-nodes.invariant.0.shape at (c.delete_or_shorten.ensures.dropped (midst_in g c.args.c c.args.p c.loop-nodes.r c.loop-nodes.nodes) d)

pub loop-nodes-init : goal.loop-nodes-init
loop-nodes-init c = (same-refl c.args.nodes.now, λ g q. rw c.below-r.ensures.node (remove-begin q))

pub below-next-requires : goal.below-next-requires
below-next-requires c = omega (arith, remove-node c.requires.1 (c.loop-nodes.invariant.1 c.requires.0 c.requires.1), c.loop-nodes.invariant.0.down-long)

pub delete_or_shorten-requires : goal.delete_or_shorten-requires
delete_or_shorten-requires c =
    (midst_in c.requires.0 c.args.c c.args.p c.loop-nodes.r c.loop-nodes.nodes, deletes (goal.at.delete_or_shorten-requires c).In-loop-nodes c.requires.0 c.requires.1)

pub returns-in_err-delete_or_shorten-clause-removed : goal.returns-in_err-delete_or_shorten-clause-removed
returns-in_err-delete_or_shorten-clause-removed c =
    let a = goal.at.returns-in_err-delete_or_shorten-clause-removed c in
    let same : c.from_residual.result ≡ c.delete_or_shorten.result = search rules in
    λ g q.
    let o = dropped a.After-delete_or_shorten g (deletes a.In-loop-nodes g q) in
    (o.0, same ∙ o.1, remove-stop q (c.loop-nodes.invariant.1 g q) (behind a.In-loop-nodes) o.2 (omega (arith, ending_err o.0 _ (sym c.in_err-delete_or_shorten.was ∙ o.1))))

pub loop-nodes-smaller : goal.loop-nodes-smaller
loop-nodes-smaller c =
    remove-way c.requires.1 (c.loop-nodes.invariant.1 c.requires.0 c.requires.1) (behind (goal.at.loop-nodes-smaller c).In-loop-nodes) c.below-next.ensures.node

pub loop-nodes-preserved : goal.loop-nodes-preserved
loop-nodes-preserved c =
    let a = goal.at.loop-nodes-preserved c in (
      same-then c.loop-nodes.invariant.0 c.delete_or_shorten.ensures.nodes,
      λ g q.
          let o = at_ok (dropped a.After-delete_or_shorten g (deletes a.In-loop-nodes g q)) c.in_ok-delete_or_shorten.was in
          remove-next q (c.loop-nodes.invariant.1 g q) (behind a.In-loop-nodes) o refl c.below-next.ensures.node,
    )

pub returns-clause-removed : goal.returns-clause-removed
returns-clause-removed c =
    let o = c.clear_column.ensures in
    λ g q. (0, refl, remove-end q (c.loop-nodes.invariant.1 g q) (rw c.loop-nodes.invariant.0.shape at c.loop-nodes-test.false) o.heads o.up o.down)
