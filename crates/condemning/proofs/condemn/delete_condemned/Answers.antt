-- `condemning::condemn::delete_condemned` meets its contract: the options of the chain are deleted one after another, until a primary item is left in none.
-- Assumes nothing.
use Rattle.std.proofs.Common.{◌≡◌, ℕ, rules, arith, refl, ◌∙◌, sym, ap}
use Rattle.links.specs.Ground.{Ground, after}
use Rattle.links.specs.Nodes.{in_nodes, column}
use Rattle.links.proofs.Endings.{ending_err, at_ok, at_some}
use Rattle.links.proofs.SameNodes.{same-refl, same-then}
use Rattle.showing.specs.Showing.{deletes}
use Rattle.condemning.specs.Condemning.{Sparing}
use Rattle.condemning.proofs.Chained.{node_in, node_column, at_end}
use Rattle.condemning.proofs.Sparing.{Onwards, spare-begin, spare-end, spare-deleting, spare-within, spare-stop, spare-onwards}
use Rattle.condemning.proofs.condemn.delete_condemned.Goals as goal
use Rattle.condemning.proofs.condemn.delete_condemned.Goals.{In_ok-really_delete_option}

-- where the option of a node of the chain is deleted, and no column was emptied
onwards : (c : In_ok-really_delete_option) {g : Ground} {i z : ℕ} → c.args.stack ≡ column z → in_nodes (Sparing g i c.args.nodes.now.shape.np z) c.args.nodes.now c.args.tints.now
    → in_nodes (Onwards g i c.args.nodes.now.shape.np c.in-Some.r c.args.tints.now) c.really_delete_option.new.nodes
onwards c {g} {i} {z} e s =
    let d = at_some (c.loop-next.invariant.1 g i z e s) c.in-Some.is in
    let o = at_ok (c.really_delete_option.ensures.deleted (after g (deletes g d.0.done)) (spare-deleting s d) (spare-within s d)) c.in_ok-really_delete_option.was in
    spare-onwards s d (rw c.loop-next.invariant.0.shape at o)

pub loop-next-init : goal.loop-next-init
loop-next-init c = (same-refl c.args.nodes.now, λ g i z e s. (z, e, spare-begin s))

pub really_delete_option-requires : goal.really_delete_option-requires
really_delete_option-requires c =
    let q = c.requires in
    let d = at_some (c.loop-next.invariant.1 q.0 q.1 q.2 q.3 q.4) c.in-Some.is in
    (after q.0 (deletes q.0 d.0.done), spare-deleting q.4 d, spare-within q.4 d)

pub returns-in_err-really_delete_option-clause-nodes : goal.returns-in_err-really_delete_option-clause-nodes
returns-in_err-really_delete_option-clause-nodes c = same-then c.loop-next.invariant.0 c.really_delete_option.ensures.nodes

pub returns-in_err-really_delete_option-clause-deleted : goal.returns-in_err-really_delete_option-clause-deleted
returns-in_err-really_delete_option-clause-deleted c =
    let same : c.from_residual.result ≡ c.really_delete_option.result = search rules in
    λ g i z e s.
    let d = at_some (c.loop-next.invariant.1 g i z e s) c.in-Some.is in
    let o = c.really_delete_option.ensures.deleted (after g (deletes g d.0.done)) (spare-deleting s d) (spare-within s d) in
    (o.0, same ∙ o.1, spare-stop s d (rw c.loop-next.invariant.0.shape at o.2) (omega (arith, ending_err o.0 _ (sym c.in_err-really_delete_option.was ∙ o.1))))

pub lead-requires : goal.lead-requires
lead-requires c = let q = c.requires in (_, (onwards (goal.at.lead-requires c).In_ok-really_delete_option q.3 q.4).led)

pub chained-next-requires : goal.chained-next-requires
chained-next-requires c =
    let q = c.requires in
    let o = onwards (goal.at.chained-next-requires c).In_ok-really_delete_option q.3 q.4 in
    o.inside _ (c.lead.ensures _ o.led)

pub loop-next-smaller : goal.loop-next-smaller
loop-next-smaller c =
    let q = c.requires in
    let o = onwards (goal.at.loop-next-smaller c).In_ok-really_delete_option q.3 q.4 in
    omega (arith, o.lower _ (c.lead.ensures _ o.led), ap node_in c.chained-next.ensures ∙ node_column _, ap node_in c.in-Some.is)

pub loop-next-preserved : goal.loop-next-preserved
loop-next-preserved c = (
  same-then c.loop-next.invariant.0 c.really_delete_option.ensures.nodes,
  λ g i z e s.
      let o = onwards (goal.at.loop-next-preserved c).In_ok-really_delete_option e s in
      (_, c.chained-next.ensures, o.next _ (c.lead.ensures _ o.led)),
)

pub returns-clause-nodes : goal.returns-clause-nodes
returns-clause-nodes c = c.loop-next.invariant.0

pub returns-clause-deleted : goal.returns-clause-deleted
returns-clause-deleted c = λ g i z e s. (0, refl, spare-end s (at_end (c.loop-next.invariant.1 g i z e s) c.in_default.not-Some))
