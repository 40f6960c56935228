-- `preproc::rounds::round` meets its contract: at each item the rest of the round is the rules' rest. Assumes nothing.
use Rattle.std.proofs.Common.{◌≡◌, ◌≢◌, ◌+◌, ℕ, rules, arith, ap, Err}
use Rattle.rules.specs.Rounds.{item_step}
use Rattle.links.specs.Head.{item_of, head}
use Rattle.links.proofs.SameNodes.{same-refl, same-then, same-np}
use Rattle.showing.specs.Showing.{state_of}
use Rattle.preproc.proofs.Same.{restep}
use Rattle.preproc.proofs.Rounding.{round-begin, round-over, round-end, round-standing, round-figured, round-header, round-stop, round-next, round-in}
use Rattle.preproc.proofs.rounds.round.Goals as goal
use Rattle.preproc.proofs.rounds.round.Goals.{then-not-is_empty+in_ok-removed, else-not-is_empty}

pub loop-number-init : goal.loop-number-init
loop-number-init c = (same-refl c.args.nodes.now, λ g s f. round-begin _ _ s)

pub is_empty-requires : goal.is_empty-requires
is_empty-requires c = let q = c.requires in rw c.column_of.ensures (round-in q.2 (c.loop-number.invariant.1 q.0 q.1 q.2) c.loop-number-test.true)

pub reduce_options-requires : goal.reduce_options-requires
reduce_options-requires c =
    let q = c.requires in
    let t = c.loop-number-test.true in
    let G = c.loop-number.invariant.1 q.0 q.1 q.2 in
    (G.holding.ground, round-standing q.2 G t, rw c.loop-number.invariant.0.shape (round-figured q.2 G t), round-header q.2 G t)

pub returns-in_err-removed-clause-round : goal.returns-in_err-removed-clause-round
returns-in_err-removed-clause-round c =
    let is : c.from_residual.result ≡ Err c.in_err-removed.field-0.0 = search rules in
    let some : item_of (head c.loop-number.nodes.heads.now (c.loop-number.number + 1)) ≢ 0 = search rules in
    let v = c.loop-number.invariant.0 in
    let t = c.loop-number-test.true in
    λ g s f.
    let G = c.loop-number.invariant.1 g s f in
    let o = c.reduce_options.ensures.step G.holding.ground (round-standing f G t) (rw v.shape (round-figured f G t)) (round-header f G t) in
    rw is (round-stop f G t some (restep (ap (λ (k : ℕ). item_step k c.loop-number.number (state_of G.holding.ground)) (same-np v)) c.in_err-removed.was o))

pub loop-number-preserved : goal.loop-number-preserved
loop-number-preserved c = (
  elim c.if-not-is_empty.branch [
    | then-not-is_empty+in_ok-removed w ↦ rw w.nodes-is (same-then c.loop-number.invariant.0 w.reduce_options.ensures.nodes)
    | else-not-is_empty w ↦ rw w.nodes-is c.loop-number.invariant.0
  ],
  λ g s f.
      let v = c.loop-number.invariant.0 in
      let t = c.loop-number-test.true in
      let G = c.loop-number.invariant.1 g s f in
      elim c.if-not-is_empty.branch [
        | then-not-is_empty+in_ok-removed w ↦
            let some : item_of (head c.loop-number.nodes.heads.now (c.loop-number.number + 1)) ≢ 0 = search rules in
            let o = w.reduce_options.ensures.step G.holding.ground (round-standing f G t) (rw v.shape (round-figured f G t)) (round-header f G t) in
            rw (w.nodes-is, w.tints-is, w.marks-is, w.removed-is)
            (round-next f G t some (restep (ap (λ (k : ℕ). item_step k c.loop-number.number (state_of G.holding.ground)) (same-np v)) w.in_ok-removed.was o))
        | else-not-is_empty w ↦
            let none : item_of (head c.loop-number.nodes.heads.now (c.loop-number.number + 1)) ≡ 0 = search rules in
            rw (w.nodes-is, w.tints-is, w.marks-is, w.removed-is) (round-over f G t none)
      ],
)

pub returns-clause-round : goal.returns-clause-round
returns-clause-round c = λ g s f. round-end f (c.loop-number.invariant.1 g s f) (omega arith)
