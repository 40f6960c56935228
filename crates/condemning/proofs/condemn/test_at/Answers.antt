-- `condemning::condemn::test_at` meets its contract: an entry that is coloured or not the first is left alone, any other is tested, and a blocked one goes to
-- the front of the chain. Assumes nothing.
use Rattle.std.proofs.Common.{ℕ, arith, rules, sym, ◌∙◌, ap, is_some}
use Rattle.links.specs.Head.{head}
use Rattle.links.specs.Ground.{Ground}
use Rattle.links.specs.Nodes.{in_nodes}
use Rattle.links.proofs.Endings.{no-item, some-item, column_of}
use Rattle.showing.proofs.HiddenStates.{hiding}
use Rattle.condemning.specs.Condemning.{Trying}
use Rattle.condemning.proofs.Trying.{Testing, try-coloured, try-led, try-item, try-later, try-marking, try-test, try-no, try-yes, try-place, try_holds, try-small, try-node}
use Rattle.condemning.proofs.condemn.test_at.Goals as goal
use Rattle.condemning.proofs.condemn.test_at.Goals.{After-mark_items}

pub returns-then-tints-r-ne0-clause-found : goal.returns-then-tints-r-ne0-clause-found
returns-then-tints-r-ne0-clause-found c = λ g i z e t. (z, e, try-coloured t (omega arith))

pub lead-q-requires : goal.lead-q-requires
lead-q-requires c = let q = c.requires in (hiding q.0 q.1, try-led q.4)

pub column-requires : goal.column-requires
column-requires c = let q = c.requires in try-item q.4 (c.lead-q.ensures (hiding q.0 q.1) (try-led q.4))

pub returns-then-is_some-clause-found : goal.returns-then-is_some-clause-found
returns-then-is_some-clause-found c =
    λ g i z e t. (z, e, try-later t (c.lead-q.ensures (hiding g i) (try-led t)) (some-item _ (ap is_some (sym c.column.ensures) ∙ sym c.if-is_some.ensures)))

pub mark_items-requires : goal.mark_items-requires
mark_items-requires c =
    let q = c.requires in
    (hiding q.0 q.1, q.0.on, try-marking q.4 (c.lead-q.ensures (hiding q.0 q.1) (try-led q.4)) (no-item (head c.args.nodes.now.heads.now c.lead-q.result) (search rules)))

-- where the option is tested
testing : (c : After-mark_items) {g : Ground} {i z : ℕ} → in_nodes (Trying g i c.args.r c.args.nodes.now.shape z) c.args.nodes.now c.args.tints.now c.args.marks.now
    → Testing g i c.args.r c.lead-q.result c.args.nodes.now.heads.now c.args.tints.now c.mark_items.new.marks
testing c {g} {i} t =
    let l = c.lead-q.ensures (hiding g i) (try-led t) in
    let f = no-item (head c.args.nodes.now.heads.now c.lead-q.result) (search rules) in
    let m = c.mark_items.ensures (hiding g i) g.on (try-marking t l f) in
    record { leads = l; plain = omega arith; first = f; known = m.0; marked = m.1 }

pub blocked-requires : goal.blocked-requires
blocked-requires c = let q = c.requires in (hiding q.0 q.1, try-test q.4 (testing (goal.at.blocked-requires c).After-mark_items q.4), try_holds q.4)

pub chain-requires : goal.chain-requires
chain-requires c = let q = c.requires in (try-place q.4 (c.lead-q.ensures (hiding q.0 q.1) (try-led q.4)), q.2, q.3, try-small q.4)

pub returns-then-blocked-clause-found : goal.returns-then-blocked-clause-found
returns-then-blocked-clause-found c =
    λ g i z e t.
    let x = testing (goal.at.returns-then-blocked-clause-found c).After-mark_items t in
    let b = sym (c.blocked.ensures.answer (hiding g i) (try-test t x) (try_holds t)) ∙ c.if-blocked.true in
    (c.args.r, column_of c.args.r (try-node t), rw (c.chain.ensures z e) (try-yes t x b))

pub returns-clause-found : goal.returns-clause-found
returns-clause-found c =
    λ g i z e t.
    let x = testing (goal.at.returns-clause-found c).After-mark_items t in
    (z, e, try-no t x (sym (c.blocked.ensures.answer (hiding g i) (try-test t x) (try_holds t)) ∙ c.if-blocked.false))
