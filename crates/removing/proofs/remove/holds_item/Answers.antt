-- `removing::remove::holds_item` meets its contract: no entry of column p was met before the place of the walk. Assumes nothing.
use Rattle.std.proofs.Common.{◌≡◌, ◌≢◌, arith, ◌∙◌, sym}
use Rattle.links.specs.Head.{item_of, head}
use Rattle.links.proofs.Endings.{item_none, item_some}
use Rattle.removing.proofs.Holding.{looks-over, looks-over-way, looks-next, looks-found, looks-round}
use Rattle.removing.proofs.remove.holds_item.Goals as goal
use Rattle.removing.proofs.remove.holds_item.Goals.{In-None, In-Some}

-- what is read at q, where there is no item and where there is one
bare : (c : In-None) → item_of (head c.args.nodes.now.heads.now c.loop-q.q) ≡ 0
bare c = item_none _ (sym c.in-None.is ∙ c.column.ensures)

some : (c : In-Some) → (item_of (head c.args.nodes.now.heads.now c.loop-q.q) ≡ c.in-Some.i) × (item_of (head c.args.nodes.now.heads.now c.loop-q.q) ≢ 0)
some c = let s = item_some _ _ (sym c.in-Some.is ∙ c.column.ensures) in (s.0, omega (arith, s))

pub loop-q-smaller-in-None : goal.loop-q-smaller-in-None
loop-q-smaller-in-None c =
    rw c.above-q.ensures.node (looks-over-way c.requires.1 (c.loop-q.invariant c.requires.0 c.requires.1) c.loop-q-test.true (bare (goal.at.loop-q-smaller-in-None c).In-None))

pub loop-q-preserved-in-None : goal.loop-q-preserved-in-None
loop-q-preserved-in-None c = λ g w. rw c.above-q.ensures.node (looks-over w (c.loop-q.invariant g w) c.loop-q-test.true (bare (goal.at.loop-q-preserved-in-None c).In-None))

pub returns-then-i-p : goal.returns-then-i-p
returns-then-i-p c =
    let s = some (goal.at.returns-then-i-p c).In-Some in
    λ g w. looks-found w (c.loop-q.invariant g w) c.loop-q-test.true s.1 (s.0 ∙ c.if-i-p.true)

pub loop-q-preserved : goal.loop-q-preserved
loop-q-preserved c =
    let s = some (goal.at.loop-q-preserved c).In-Some in
    λ g w. looks-next w (c.loop-q.invariant g w) c.loop-q-test.true s.1 (λ e. c.if-i-p.false (sym s.0 ∙ e))

pub returns : goal.returns
returns c = λ g w. looks-round w (c.loop-q.invariant g w) c.loop-q-test.false
