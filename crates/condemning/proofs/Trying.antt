-- The test of one option, as the code goes: what each call asks, and what each answer leaves. Assumes nothing.
use Prim.Native.Nat.{ℕ, ◌+◌, ◌<◌}
use native.Mathlib.Omega.{arith}
use mathlib.Core.Path.{◌≡◌, ◌∙◌, sym, subst}
use Rattle.rules.specs.Bounds.{node_bound}
use mathlib.Core.Logic.{⊎_elim, ◌≢◌}
use mathlib.Core.Bool.{true, false}
use mathlib.Core.List.{List}
use borrow.Author.Tests.{eq-eqb, ne_eqb}
use lib.Dec.{eqb}
use lib.ListN.{length, set}
use lib.IntN.{ℤ}
use Rattle.links.specs.declared.shape.Shape.{Shape}
use Rattle.links.specs.Head.{item_of, head}
use Rattle.links.specs.Column.{at}
use Rattle.links.specs.Plan.{EntryOf}
use Rattle.links.specs.Ground.{Ground, Holds}
use Rattle.links.specs.Row.{first_live}
use Rattle.links.specs.Taking.{hides, node_blocked, Marked}
use Rattle.links.proofs.Plans.{entry-from, entry-till}
use Rattle.links.proofs.Descending.{column-entry}
use Rattle.showing.specs.Showing.{condemned_at}
use Rattle.showing.proofs.HiddenStates.{hiding, hiding-tidy}
use Rattle.blocking.specs.Forward.{Test}
use Rattle.links.specs.Lead.{Led, Leads}
use Rattle.condemning.specs.Marks.{Known, Marking}
use Rattle.condemning.specs.Condemning.{Chain, Tried, Trying}
use Rattle.links.proofs.Taken.{holds-after}
use Rattle.condemning.proofs.WhileHidden.{hidden-known, hidden-led, hidden-marking, hidden-tested, led-first, led-before, coloured-not, later-not, tested-is, tried-not, tried-yes}
use Rattle.condemning.proofs.Sparing.{down-front}

-- The option of r is tested: the node q leads it and has no item, r is uncoloured, and its items are marked.
pub record Testing (g : Ground) (i r q : ℕ) (heads : List ℤ) (tints marks : List ℕ) : Type 0 where
  pub leads : Leads (hiding g i) r q
  pub plain : at tints r ≡ 0
  pub first : item_of (head heads q) ≡ 0
  pub known : Known (hiding g i) g.on marks
  pub marked : Marked (hiding g i) r marks

module _ {g : Ground} {i r : ℕ} {shape : Shape} {z : ℕ} {heads : List ℤ} {up down tints marks : List ℕ} (t : Trying g i r shape z heads up down tints marks) where
  entry : EntryOf g.plan r
  entry = (column-entry g t.ready.tidy (i + 1) r t.column).0

  inside : r < g.plan.N
  inside = entry-till g.plan t.ready.tidy.planned r entry

  pub try-node : r ≢ 0
  try-node = omega (arith, entry-from g.plan t.ready.tidy.planned r entry)

  -- a coloured one is not tested
  pub try-coloured : at tints r ≢ 0 → Tried g i shape.np (r + 1) z tints marks
  try-coloured n = tried-not g t.ready i r t.column shape.np (coloured-not g t.ready i r t.column shape.np (λ e. n (t.tried.tinted.tint r entry ∙ e))) t.tried

  -- the walk back
  pub try-led : Led (hiding g i) r heads down
  try-led = hidden-led g t.ready i r t.column t.holds

  module _ {q : ℕ} (l : Leads (hiding g i) r q) where
    pub try-item : q < length heads
    try-item = rw t.holds.heads-are (omega (arith, l.inside, (hiding-tidy g t.ready i).heads-in))

    first-is : eqb (item_of (head heads q)) 0 ≡ first_live g r
    first-is = rw t.holds.heads-are (led-first g t.ready i r t.column l)

    -- one that is not the first is not tested
    pub try-later : item_of (head heads q) ≢ 0 → Tried g i shape.np (r + 1) z tints marks
    try-later n = tried-not g t.ready i r t.column shape.np (later-not g t.ready i r t.column shape.np (sym first-is ∙ ne_eqb (item_of (head heads q)) 0 n)) t.tried

    live : item_of (head heads q) ≡ 0 → first_live g r ≡ true
    live f = sym first-is ∙ eq-eqb (item_of (head heads q)) 0 f

    pub try-marking : item_of (head heads q) ≡ 0 → Marking (hiding g i) g.on r heads marks
    try-marking f = hidden-marking g t.ready i r t.column t.holds (live f) marks t.tried.known

    pub try-place : q < length tints
    try-place = omega (arith, l.inside, t.tried.tinted.room)

  -- the test
  module _ {q : ℕ} {marks' : List ℕ} (x : Testing g i r q heads tints marks') where
    plain : g.plan.tint r ≡ 0
    plain = sym (t.tried.tinted.tint r entry) ∙ x.plain

    tested : condemned_at shape.np i g r ≡ node_blocked (hiding g i) r shape.np
    tested = tested-is g t.ready i r t.column shape.np plain (live x.leads x.first)

    marked-tried : Tried g i shape.np r z tints marks'
    marked-tried = record { tinted = t.tried.tinted; known = hidden-known g t.ready i marks' x.known; chain = t.tried.chain }

    pub try-test : Test (hiding g i) tints marks' r shape
    try-test = record { tested = hidden-tested g t.ready i r t.column plain; tinted = t.tried.tinted; marked = x.marked; starts = t.begins; few = t.few }

    pub try-no : node_blocked (hiding g i) r shape.np ≡ false → Tried g i shape.np (r + 1) z tints marks'
    try-no b = tried-not g t.ready i r t.column shape.np (tested ∙ b) marked-tried

    pub try-yes : node_blocked (hiding g i) r shape.np ≡ true → Tried g i shape.np (r + 1) r (set tints q z) marks'
    try-yes b =
        subst (λ (y : ℕ). Tried g i shape.np (r + 1) r (set tints y z) marks') (sym (led-before g t.ready i r t.column x.leads (live x.leads x.first)))
        (tried-yes g t.ready i r t.column shape.np (tested ∙ b) marked-tried)

  pub try_holds : Holds (hiding g i) heads up down
  try_holds = holds-after g (hides g (i + 1)) t.holds

  -- the chain begins at a node, or at 0
  pub try-small : z < node_bound
  try-small =
      ⊎_elim (λ e. let c = subst (Chain g.plan tints z) e t.tried.chain in omega (arith, c))
      (λ w. let c = subst (Chain g.plan tints z) w.3 t.tried.chain in omega (arith, c.0, w.1, inside, t.ready.tidy.planned.small)) (down-front (condemned_at shape.np i g) r)
