-- `entries::put_entries` meets its contract: below node x everything is laid out. Assumes nothing.
use Rattle.std.proofs.Common.{◌≡◌, ◌+◌, ◌<◌, ◌%◌, length, length-append, arith, rules}
use Rattle.std.proofs.lemmas.Slice.Zip.{zip_turn, zip_end}
use Rattle.rules.specs.Bounds.{node_bound, word_bound}
use Rattle.links.proofs.SameNodes.{same-then}
use Rattle.building.proofs.Turns.{fill-small, fill-in, fill-next}
use Rattle.building.proofs.entries.put_entries.Goals as goal

pub append-requires : goal.append-requires
append-requires c =
    let F = c.requires.filling in
    let l = c.loop-item in
    let t = zip_turn c.args.items.now c.args.colours.now l.yielded c.into_iter-item-iterator.result l.item-iterator c.next.new.self _ (cc) (cc) l.yielded_by _
    c.in-Some.is c.next.ensures.steps in
    let O = l.invariant.2 F.0 F.1 in
    record { c_bound = fill-small F.1 O t.0 l.invariant.1 (t.2 0); growing = fill-in F.1 O t.0 l.invariant.1 (t.2 0); x_in_bounds = search rules }

pub loop-item-preserved : goal.loop-item-preserved
loop-item-preserved c =
    let F = c.requires.filling in
    let l = c.loop-item in
    let e = c.append.ensures in
    let t = zip_turn c.args.items.now c.args.colours.now l.yielded c.into_iter-item-iterator.result l.item-iterator c.next.new.self _ (cc) (cc) l.yielded_by _
    c.in-Some.is c.next.ensures.steps in
    let small : l.x < node_bound = (fill-small F.1 (l.invariant.2 F.0 F.1) t.0 l.invariant.1 (t.2 0)).1 in
    let next : (l.x + 1) % word_bound ≡ l.x + 1 = omega arith in (
      same-then l.invariant.0 e.nodes,
      simp length-append (omega (arith, next)),
      λ P G. rw next
          (fill-next G (l.invariant.2 P G) t.0 l.invariant.1 (t.2 0) (t.3 0) e.heads e.up e.down e.tints),
    )

pub returns-clause-lists : goal.returns-clause-lists
returns-clause-lists c =
    let l = c.loop-item in
    let all = zip_end c.args.items.now c.args.colours.now l.yielded c.into_iter-item-iterator.result l.item-iterator c.next.new.self _ (cc) (cc) l.yielded_by
    c.in-None.is c.next.ensures.steps in
    let done : c.args.edge + 1 + length c.args.items.now ≡ l.x = omega (arith, all, c.requires.lengths.0, l.invariant.1) in
    λ P G. rw done (l.invariant.2 P G)
