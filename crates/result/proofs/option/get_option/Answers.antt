-- `result::option::get_option` meets its contract: at node q the live entries before q are written; at the boundary the end and the number follow.
-- Assumes nothing.
use Rattle.std.proofs.Common.{◌≡◌, ◌-◌, ◌∙◌, arith}
use Rattle.result.proofs.SameWriter.{writer-then}
use Rattle.result.proofs.OneOption.{reading-heads, reading-tints, reading-over, reading-items, reading-colours, reading-column, reading-one, reading-fits, reading-ends, reading-numbers, reading-done}
use Rattle.result.proofs.option.get_option.Goals.{in-Some-column, in_default-column}
use Rattle.result.proofs.option.get_option.Goals as goal

pub option-requires : goal.option-requires
option-requires c = let p = c.requires in reading-heads p.3 (c.loop-k.invariant.4 p.0 p.1 p.2 p.3)

pub column-column-requires : goal.column-column-requires
column-column-requires c = let p = c.requires in reading-heads p.3 (c.loop-k.invariant.4 p.0 p.1 p.2 p.3)

pub item_of_column-requires : goal.item_of_column-requires
item_of_column-requires c =
    let p = c.requires in
    let b = reading-column p.3 (c.loop-k.invariant.4 p.0 p.1 p.2 p.3) (cc) c.in-Some-column.i (cc) in
    (omega (arith, b), omega (arith, b))

pub bounds-tints-q : goal.bounds-tints-q
bounds-tints-q c = let p = c.requires in reading-tints p.3 (c.loop-k.invariant.4 p.0 p.1 p.2 p.3)

pub put-requires : goal.put-requires
put-requires c =
    let p = c.requires in
    let b = c.loop-k.invariant.4 p.0 p.1 p.2 p.3 in
    (reading-items p.3 b (cc) c.in-Some-column.i (cc), reading-colours p.3 b (cc) c.in-Some-column.i (cc))

pub overflow_add-q : goal.overflow_add-q
overflow_add-q c = let p = c.requires in omega (arith, reading-heads p.3 (c.loop-k.invariant.4 p.0 p.1 p.2 p.3))

pub loop-k-smaller : goal.loop-k-smaller
loop-k-smaller c = let p = c.requires in omega (arith, reading-heads p.3 (c.loop-k.invariant.4 p.0 p.1 p.2 p.3))

pub loop-k-preserved : goal.loop-k-preserved
loop-k-preserved c =
    let v = c.loop-k.invariant in
    elim c.match-column.branch [
      | in-Some-column w ↦
          let item : w.item_of_column.result.0 ≡ w.in-Some-column.i - 1 = omega (arith, w.item_of_column.ensures) in
          rw w.out-is (
            writer-then v.0 w.put.ensures.lists,
            w.put.ensures.ends ∙ v.1,
            w.put.ensures.numbers ∙ v.2,
            w.put.ensures.option ∙ v.3,
            λ g old xs d. rw (w.put.ensures.items, w.put.ensures.colours, w.put.ensures.entry, item) (reading-one d (v.4 g old xs d) (cc) w.in-Some-column.i (cc)),
          )
      | in_default-column w ↦ rw w.out-is (v.0, v.1, v.2, v.3, λ g old xs d. reading-over d (v.4 g old xs d) (cc) (cc))
    ]

pub end-requires : goal.end-requires
end-requires c =
    let p = c.requires in
    let v = c.loop-k.invariant in
    let b = v.4 p.0 p.1 p.2 p.3 in
    rw (v.1, v.2, v.3) (reading-ends p.3 b c.in-Some.k (cc), reading-numbers p.3 b c.in-Some.k (cc), reading-fits p.3 b c.in-Some.k (cc))

pub returns-clause-option : goal.returns-clause-option
returns-clause-option c = λ g old xs d.
    let v = c.loop-k.invariant in
    let e = c.end.ensures in
    rw (e.ends, e.numbers, e.items, e.colours, e.option, e.entry, v.1, v.2, v.3) (reading-done d (v.4 g old xs d) c.in-Some.k (cc))
