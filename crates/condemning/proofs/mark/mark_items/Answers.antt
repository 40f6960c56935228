-- `condemning::mark::mark_items` meets its contract: at each place the full entries passed are marked. Assumes nothing.
use Rattle.std.proofs.Common.{◌≡◌, ◌≢◌, ◌∙◌, sym, arith, false}
use Rattle.links.specs.Head.{item_of, below_zero, head}
use Rattle.links.proofs.Endings.{option_is, item_none, item_some}
use Rattle.condemning.proofs.Marking.{mark-in, mark-far, mark-place, mark-low, mark-over, mark-full, mark-done}
use Rattle.condemning.proofs.mark.mark_items.Goals as goal
use Rattle.condemning.proofs.mark.mark_items.Goals.{After-column, In-Some, in-Some, in-None}

-- where the walk goes on: its place is no boundary; and the item there, if there is one
inside : (c : After-column) → below_zero (head c.args.nodes.now.heads.now c.loop-i.q) ≡ false
inside c = sym (option_is _ c.option.ensures) ∙ c.loop-i-test.ensures

some : (c : In-Some) → (item_of (head c.args.nodes.now.heads.now c.loop-i.q) ≡ c.in-Some.i) × (item_of (head c.args.nodes.now.heads.now c.loop-i.q) ≢ 0)
some c = let s = item_some _ _ (sym c.in-Some.is ∙ c.column.ensures) in (s.0, omega (arith, s))

pub option-requires : goal.option-requires
option-requires c = mark-in c.requires.2 (c.loop-i.invariant c.requires.0 c.requires.1 c.requires.2)

pub column-requires : goal.column-requires
column-requires c = mark-in c.requires.2 (c.loop-i.invariant c.requires.0 c.requires.1 c.requires.2)

pub bounds-marks-i : goal.bounds-marks-i
bounds-marks-i c =
    let a = goal.at.bounds-marks-i c in
    let s = some a.In-Some in
    omega (arith, mark-place c.requires.2 (c.loop-i.invariant c.requires.0 c.requires.1 c.requires.2) (inside a.After-column) s.1, s.0)

pub offset_bounds-marks-i : goal.offset_bounds-marks-i
offset_bounds-marks-i c =
    let a = goal.at.offset_bounds-marks-i c in
    let s = some a.In-Some in
    omega (arith, mark-low c.requires.2 (c.loop-i.invariant c.requires.0 c.requires.1 c.requires.2) (inside a.After-column) s.1, s.0)

pub overflow_add-q-in-loop-i : goal.overflow_add-q-in-loop-i
overflow_add-q-in-loop-i c = omega (arith, mark-far c.requires.2 (c.loop-i.invariant c.requires.0 c.requires.1 c.requires.2))

pub loop-i-smaller : goal.loop-i-smaller
loop-i-smaller c = omega (arith, mark-in c.requires.2 (c.loop-i.invariant c.requires.0 c.requires.1 c.requires.2))

pub loop-i-preserved : goal.loop-i-preserved
loop-i-preserved c =
    let b = inside (goal.at.loop-i-preserved c).After-column in
    λ g on m.
    let p = c.loop-i.invariant g on m in
    elim c.match-column.branch [
      | in-Some w ↦ let s = item_some _ _ (sym w.in-Some.is ∙ c.column.ensures) in rw (w.marks-is, sym s.0) (mark-full m p b (omega (arith, s)))
      | in-None w ↦ rw w.marks-is (mark-over m p b (item_none _ (sym w.in-None.is ∙ c.column.ensures)))
    ]

pub returns : goal.returns
returns c = λ g on m. mark-done m (c.loop-i.invariant g on m) (sym (option_is _ c.option.ensures) ∙ c.loop-i-test.ensures)
