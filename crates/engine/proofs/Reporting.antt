-- The result's lists and counts, put together to what the rules say of them. Assumes nothing.
use Prim.Native.Nat.{ℕ, ◌<◌, ◌≤◌}
use native.Mathlib.Omega.{arith}
use mathlib.Core.Path.{◌≡◌, refl}
use Rattle.rules.specs.Bounds.{node_bound}
use mathlib.Core.Bool.{Bool}
use mathlib.Core.List.{List}
use lib.ListN.{length}
use Rattle.rules.specs.Lists.{written}
use Rattle.rules.specs.Rooms.{Results, result_lists}
use Rattle.rules.specs.State.{State}
use Rattle.rules.specs.Result.{kept_items, kept_options, primaries_of, secondaries_of, results_of}
use Rattle.rules.specs.Outcome.{fronts, said_of}
use Rattle.rules.specs.Paper.{said_reduced}
use Rattle.links.specs.Ground.{Ground}
use Rattle.links.specs.declared.nodes.Nodes.{Nodes}
use Rattle.result.specs.Writing.{FourLists}
use Rattle.result.specs.Reading.{Returned}
use Rattle.engine.specs.Report.{Reported}

pub said-counts : (np n : ℕ) (s : State) (rounds : ℕ) (settled : Bool) {primaries secondaries options entries : ℕ}
    → primaries ≡ primaries_of np (kept_items n s) → secondaries ≡ secondaries_of np (kept_items n s) → options ≡ length (kept_options n s) → entries ≡ length (results_of n s).items
    → said_reduced primaries secondaries options entries rounds settled ≡ said_of np n s rounds settled
unfolding said_of
said-counts np n s rounds settled a b c d = rw a (rw b (rw c (rw d refl)))

-- the kept items are the first of the five lists of the result
kept_of : (n : ℕ) (s : State) → (results_of n s).kept ≡ kept_items n s
unfolding results_of
kept_of n s = refl

pub results-fronts : (n : ℕ) (s : State) (old : Results) {lists : FourLists} {kept : List ℕ}
    → kept ≡ written (kept_items n s) old.kept → Returned (results_of n s) (record { ends = old.ends; numbers = old.numbers; items = old.items; colours = old.colours }) lists
    → result_lists kept lists.ends lists.numbers lists.items lists.colours ≡ fronts (results_of n s) old
unfolding fronts
results-fronts n s old e r = rw e (rw r.ends (rw r.numbers (rw r.items (rw r.colours (rw (kept_of n s) refl)))))

module _ {g : Ground} {nodes : Nodes} {tints : List ℕ} {lists : Results} (o : Reported g nodes tints lists) where
  -- what the writing of the kept items asks
  pub report-items : (nodes.shape.np ≤ nodes.shape.n) × (nodes.shape.n < node_bound) × (nodes.shape.n < length nodes.heads.now) × (nodes.shape.n ≤ length lists.kept)
  report-items =
      let t = o.laid.standing.ready.tidy in
      let e = o.laid.standing.items-are in
      let h = o.laid.standing.heads-are in (
        o.few,
        omega (arith, e, t.planned.room, t.planned.small),
        rw h (omega (arith, e, t.planned.room, t.heads-in)),
        o.kept-room,
      )
