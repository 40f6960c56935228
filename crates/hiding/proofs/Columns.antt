-- A walk down the column of an item: what the code asks at each node, whether the node's option is hidden, and that none is between two nodes.
-- Assumes nothing.
use Prim.Native.Nat.{ℕ, ◌+◌, ◌<◌, ◌≤◌}
use native.Mathlib.Omega.{arith}
use mathlib.Core.Path.{◌≡◌, ◌∙◌, sym}
use Rattle.rules.specs.Bounds.{node_bound}
use mathlib.Core.Logic.{◌≢◌}
use mathlib.Core.Bool.{true, false, and-false}
use mathlib.Core.List.{List, []}
use borrow.Author.Tests.{eq-eqb, ne_eqb}
use Rattle.links.specs.Column.{at}
use Rattle.links.specs.Plan.{start, EntryOf}
use Rattle.links.specs.Ground.{Ground}
use Rattle.links.specs.Taking.{gather_to, in_column, hidden}
use Rattle.links.proofs.Passing.{hidden-inside, kept-none, gathered-none, down-gathered}
use Rattle.links.proofs.Descending.{Stand, column←, on-entry, reach, stand-header, stand-in}
use Rattle.hiding.specs.Hiding.{Column}

module _ {g : Ground} {tints : List ℕ} {c from : ℕ} (w : Column g tints c from) where
  pub head-stand : Stand g c c
  head-stand = stand-header g w.ready.tidy c w.header (w.ready.whole.headers c w.header)

  -- above the first entry nothing is hidden
  pub header-gathers : gather_to (hidden g c) g (c + 1) ≡ []
  header-gathers = gathered-none w.ready.tidy c (hidden g c) (hidden-inside g c) (c + 1) (omega (arith, w.header.below))

  module _ {rr : ℕ} (s : Stand g c rr) where
    pub stand-inside : rr < g.plan.N
    stand-inside = stand-in g w.ready.tidy c w.header rr s

    pub further : rr + 1 ≤ g.plan.N
    further = omega (arith, stand-inside)

    pub stand-small : rr < node_bound
    stand-small = omega (arith, stand-inside, w.ready.tidy.planned.small)

    -- nor between a node and the one below it
    pub step-gathers : gather_to (hidden g c) g (reach g.plan (at g.down rr)) ≡ gather_to (hidden g c) g (rr + 1)
    step-gathers = down-gathered (kept-none w.ready.tidy w.header) rr s (hidden g c) (hidden-inside g c)

    module _ (l : from ≤ rr) where
      pub behind-headers : start g.plan ≤ rr
      behind-headers = omega (arith, w.begins)

      pub stand-entry : EntryOf g.plan rr
      stand-entry = on-entry g w.ready.tidy rr s.on behind-headers

      pub hidden-here : at tints rr ≡ 0 → hidden g c rr ≡ true
      hidden-here z = rw (column← g c rr s.on s.col behind-headers, eq-eqb (g.plan.tint rr) 0 (sym (w.tinted.tint rr stand-entry) ∙ z))

      pub shown-here : at tints rr ≢ 0 → hidden g c rr ≡ false
      shown-here n = rw (ne_eqb (g.plan.tint rr) 0 (λ e. n (w.tinted.tint rr stand-entry ∙ e))) (and-false (in_column g c rr))
