-- `init_links::init_links` meets its contract: the options before k are laid out, and then the columns are closed. Assumes nothing.
use Rattle.std.proofs.Common.{ℕ, ◌∙◌, ap}
use Rattle.links.proofs.SameNodes.{same-then, same-np, same-n}
use Rattle.rules.specs.Problem.{Figures}
use Rattle.building.specs.Laid.{closing}
use Rattle.building.specs.Build.{Buildable}
use Rattle.building.proofs.Options.{place-begin, part-in, turn-asks, place-next, place-closes, place_end}
use Rattle.building.proofs.init_links.init_links.Goals as goal

pub loop-k-init : goal.loop-k-init
loop-k-init c =
    let s = c.clear_headers.ensures.nodes in
    let begin = λ (f : Figures) (ns : ℕ) (B : Buildable f _ ns _ _ _ _ _ _ _ _ _). place-begin B s.heads-long s.up-long s.down-long c.clear_headers.ensures.lists in
    (s, λ m. part-in c.requires.2 (begin _ _ c.requires.2) m, λ f ns B. rw s.shape (begin f ns B))

pub put_option-edge-requires-clause-turn : goal.put_option-edge-requires-clause-turn
put_option-edge-requires-clause-turn c =
    let B = c.requires.2 in
    turn-asks B (c.loop-k.invariant.2 _ _ B) c.loop-k-test.true (same-np c.loop-k.invariant.0) c.from.ensures

pub loop-k-preserved : goal.loop-k-preserved
loop-k-preserved c =
    let l = c.loop-k in
    let o = c.put_option-edge.ensures in
    let np = same-np l.invariant.0 in
    let next = λ (f : Figures) (ns : ℕ) (B : Buildable f _ ns _ _ _ _ _ _ _ _ _). place-next B (l.invariant.2 f ns B) c.loop-k-test.true np c.from.ensures o.place o.laid in
    (same-then l.invariant.0 o.nodes, λ m. part-in c.requires.2 (next _ _ c.requires.2) m, next)

pub close_columns-requires : goal.close_columns-requires
close_columns-requires c =
    let B = c.requires.2 in
    rw c.loop-k.invariant.0.shape (place-closes B (c.loop-k.invariant.2 _ _ B) c.loop-k-test.false)

pub returns-clause-lists : goal.returns-clause-lists
returns-clause-lists c =
    let l = c.loop-k in
    let e = c.close_columns.ensures in
    λ f ns B.
    rw (e.heads, e.up)
    (place_end B (l.invariant.2 f ns B) c.loop-k-test.false (e.down ∙ ap (λ (z : ℕ). closing z l.nodes.up.now l.nodes.down.now) (same-n l.invariant.0)) c.clear_headers.ensures.lists.unmarked)
