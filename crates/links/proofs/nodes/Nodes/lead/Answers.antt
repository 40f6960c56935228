-- `links::lead` meets its contract: at each place the walk has met shortened entries only. Assumes nothing.
use Rattle.std.proofs.Common.{ℕ, ◌+◌, ◌∙◌, ap, sym, arith}
use Rattle.std.proofs.Common.{inl, inr}
use Rattle.links.proofs.Leading.{led-begin, led-heads, led-down, led-more, led-step, led-done}
use Rattle.links.proofs.nodes.Nodes.lead.Goals as goal

pub loop-q-init : goal.loop-q-init
loop-q-init c = λ g l. led-begin g c.args.r c.args.self.now.heads.now c.args.self.now.down.now l

pub is_zero-requires : goal.is_zero-requires
is_zero-requires c =
    led-heads c.requires.0 c.args.r c.args.self.now.heads.now c.args.self.now.down.now c.requires.1 c.loop-q.q (c.loop-q.invariant c.requires.0 c.requires.1)

pub below-requires : goal.below-requires
below-requires c =
    led-down c.requires.0 c.args.r c.args.self.now.heads.now c.args.self.now.down.now c.requires.1 c.loop-q.q (c.loop-q.invariant c.requires.0 c.requires.1)

pub loop-q-smaller : goal.loop-q-smaller
loop-q-smaller c =
    omega (arith, led-more c.requires.0 c.args.r c.args.self.now.heads.now c.args.self.now.down.now c.requires.1 c.loop-q.q (c.loop-q.invariant c.requires.0 c.requires.1))

pub loop-q-preserved : goal.loop-q-preserved
loop-q-preserved c =
    λ g m.
    led-step g c.args.r c.args.self.now.heads.now c.args.self.now.down.now m c.loop-q.q (c.loop-q.invariant g m)
    (sym c.is_zero.ensures ∙ c.loop-q-test.true) (ap (λ (z : ℕ). z + 1) (sym c.below.ensures.node) ∙ c.if-below-q.true)

pub returns-else-below-q : goal.returns-else-below-q
returns-else-below-q c =
    λ g m. led-done g c.args.r c.args.self.now.heads.now c.args.self.now.down.now m c.loop-q.q (c.loop-q.invariant g m)
    (inr (λ e. c.if-below-q.false (ap (λ (z : ℕ). z + 1) c.below.ensures.node ∙ e)))

pub returns-after-loop-q : goal.returns-after-loop-q
returns-after-loop-q c =
    λ g m. led-done g c.args.r c.args.self.now.heads.now c.args.self.now.down.now m c.loop-q.q (c.loop-q.invariant g m) (inl (sym c.is_zero.ensures ∙ c.loop-q-test.false))
