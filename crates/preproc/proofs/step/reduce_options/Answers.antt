-- `preproc::step::reduce_options` meets its contract: what hiding empties says which step it is, and the calls of that step answer as the rules do. Assumes nothing.
use Rattle.std.proofs.Common.{◌≡◌, ◌+◌, ℕ, rules, refl, sym, ◌∙◌, is_some, true, Err}
use Rattle.rules.specs.Rounds.{item_step}
use Rattle.rules.specs.declared.answer.Cause.TheVariants.{Redundant, Blocked}
use Rattle.links.specs.Ground.{Ground}
use Rattle.links.specs.Plan.{Header}
use Rattle.links.proofs.Endings.{at_some, at_none}
use Rattle.links.proofs.SameNodes.{same-then, same-np}
use Rattle.showing.specs.Showing.{state_of}
use Rattle.preproc.specs.Standing.{Standing, Figured}
use Rattle.preproc.specs.Stopping.{stopping}
use Rattle.preproc.proofs.Coming.{Came, came_ok, came_err, some-found, none-found}
use Rattle.preproc.proofs.Same.{removed-np, tried-np, spared-np}
use Rattle.preproc.proofs.Stepping.{held_same, step-column, step-removing, step-removed, step-before, step-hiding, step-column-again, step-sparing, step-deleted}
use Rattle.preproc.proofs.step.reduce_options.Goals as goal
use Rattle.preproc.proofs.step.reduce_options.Goals.{After-because, After-because-2}

-- Hiding the item empties a column: what the removal leaves, whichever way it ends.
removed : (c : After-because) (g : Ground) → Standing g c.args.nodes.now.heads.now c.args.nodes.now.up.now c.args.nodes.now.down.now c.args.tints.now c.args.marks.now
    → Figured g.plan c.args.nodes.now.shape → c.column_of-c.result ≡ c.args.item.0 + 1 → Header g.plan (c.args.item.0 + 1)
    → (z : ℕ) × (c.because.result ≡ stopping z Redundant)
    × Came g.plan (item_step c.args.nodes.now.shape.np c.args.item.0 (state_of g)) z Redundant true
    c.remove_item.new.nodes.heads.now c.remove_item.new.nodes.up.now c.remove_item.new.nodes.down.now c.args.tints.now c.args.marks.now
removed c g s f e d =
    let i = c.args.item.0 in
    let kept = same-then c.hide.ensures.nodes c.unhide.ensures.nodes in
    let k = step-column i s f e d in
    let h = at_some (c.hide.ensures.taken g k s.holds) c.in-Some.is in
    let w = c.unhide.ensures.back g (rw c.hide.ensures.nodes.shape k) h.0.holds in
    let r = c.remove_item.ensures.removed g (rw kept.shape (step-removing i s f e d h.0 h.1 w)) in
    (r.0, c.because.ensures r.0 r.1, step-removed i s f e d h.0 h.1 (removed-np (same-np kept) r.2))

-- It empties none: what the deletion leaves.
deleted : (c : After-because-2) (g : Ground) → Standing g c.args.nodes.now.heads.now c.args.nodes.now.up.now c.args.nodes.now.down.now c.args.tints.now c.args.marks.now
    → Figured g.plan c.args.nodes.now.shape → c.column_of-c.result ≡ c.args.item.0 + 1 → Header g.plan (c.args.item.0 + 1)
    → (z : ℕ) × (c.because-2.result ≡ stopping z Blocked)
    × Came g.plan (item_step c.args.nodes.now.shape.np c.args.item.0 (state_of g)) z Blocked (is_some c.condemn-last.result)
    c.delete_condemned.new.nodes.heads.now c.delete_condemned.new.nodes.up.now c.delete_condemned.new.nodes.down.now c.condemn-last.new.tints c.condemn-last.new.marks
deleted c g s f e d =
    let i = c.args.item.0 in
    let n = c.hide.ensures.nodes in
    let kept = same-then n c.condemn-last.ensures.nodes in
    let all = same-then kept c.unhide-2.ensures.nodes in
    let h = at_none (c.hide.ensures.taken g (step-column i s f e d) s.holds) c.in_default.is in
    let t = c.condemn-last.ensures.found g i (rw n.shape (step-before i s f e d h refl)) (step-hiding i s f e d h refl) in
    let o = c.condemn-last.ensures.same in
    let u = tried-np (same-np n) t.2 in
    let v = c.unhide-2.ensures.back g (rw kept.shape (step-column-again i s f e d h refl u)) (held_same h.holds o.0 o.1 o.2) in
    let r = c.delete_condemned.ensures.deleted g i t.0 t.1 (rw all.shape (step-sparing i s f e d h refl u v)) in
    (r.0, c.because-2.ensures r.0 r.1, step-deleted i s f e d h refl u (spared-np (same-np all) r.2) _ (some-found t.1) (none-found t.1))

pub remove_item-requires : goal.remove_item-requires
remove_item-requires c =
    let q = c.requires in
    let i = c.args.item.0 in
    let e = c.column_of-c.ensures in
    let k = step-column i q.1 q.2 e q.3 in
    let h = at_some (c.hide.ensures.taken q.0 k q.1.holds) c.in-Some.is in
    let w = c.unhide.ensures.back q.0 (rw c.hide.ensures.nodes.shape k) h.0.holds in
    (q.0, rw (same-then c.hide.ensures.nodes c.unhide.ensures.nodes).shape (step-removing i q.1 q.2 e q.3 h.0 h.1 w))

pub returns-in_err-because-clause-step : goal.returns-in_err-because-clause-step
returns-in_err-because-clause-step c =
    let is : c.from_residual.result ≡ Err c.in_err-because.field-0.0 = search rules in
    λ g s f d. let r = removed (goal.at.returns-in_err-because-clause-step c).After-because g s f c.column_of-c.ensures d in rw is (came_err r.2 _ (sym c.in_err-because.was ∙ r.1))

pub returns-in-Some-clause-step : goal.returns-in-Some-clause-step
returns-in-Some-clause-step c =
    λ g s f d. let r = removed (goal.at.returns-in-Some-clause-step c).After-because g s f c.column_of-c.ensures d in came_ok r.2 (sym c.in_ok-because.was ∙ r.1)

pub delete_condemned-requires : goal.delete_condemned-requires
delete_condemned-requires c =
    let q = c.requires in
    let i = c.args.item.0 in
    let e = c.column_of-c.ensures in
    let n = c.hide.ensures.nodes in
    let kept = same-then n c.condemn-last.ensures.nodes in
    let h = at_none (c.hide.ensures.taken q.0 (step-column i q.1 q.2 e q.3) q.1.holds) c.in_default.is in
    let t = c.condemn-last.ensures.found q.0 i (rw n.shape (step-before i q.1 q.2 e q.3 h refl)) (step-hiding i q.1 q.2 e q.3 h refl) in
    let o = c.condemn-last.ensures.same in
    let u = tried-np (same-np n) t.2 in
    let v = c.unhide-2.ensures.back q.0 (rw kept.shape (step-column-again i q.1 q.2 e q.3 h refl u)) (held_same h.holds o.0 o.1 o.2) in
    (q.0, i, t.0, t.1, rw (same-then kept c.unhide-2.ensures.nodes).shape (step-sparing i q.1 q.2 e q.3 h refl u v))

pub returns-in_err-because-2-clause-step : goal.returns-in_err-because-2-clause-step
returns-in_err-because-2-clause-step c =
    let is : c.from_residual-in_err-because-2.result ≡ Err c.in_err-because-2.field-0.0 = search rules in
    λ g s f d.
    let r = deleted (goal.at.returns-in_err-because-2-clause-step c).After-because-2 g s f c.column_of-c.ensures d in
    rw is (came_err r.2 _ (sym c.in_err-because-2.was ∙ r.1))

pub returns-clause-step : goal.returns-clause-step
returns-clause-step c =
    let some : c.is_some.result ≡ is_some c.condemn-last.result = search rules in
    λ g s f d.
    let r = deleted (goal.at.returns-clause-step c).After-because-2 g s f c.column_of-c.ensures d in
    rw some (came_ok r.2 (sym c.in_ok-because-2.was ∙ r.1))
