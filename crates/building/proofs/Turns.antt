-- An option's turn: its entries one after another, and then its boundary. Assumes nothing.
use Rattle.std.proofs.Common.{◌≡◌, ℕ, ◌+◌, ◌-◌, ◌<◌, true, List, length, set, ℤ, negsuc, arith}
use Rattle.rules.specs.Bounds.{node_bound}
use Rattle.links.specs.Head.{Growing}
use Rattle.links.specs.Column.{at}
use Rattle.links.specs.Plan.{Plan}
use Rattle.building.specs.Laid.{Open}
use Rattle.building.specs.Build.{primary_in, Spelled, Filling, Turn}
use Rattle.building.proofs.Parts.{primary-some}
use Rattle.building.proofs.RingEnd.{end_up}
use Rattle.building.proofs.Laying.{end_heads, entry-small, entry_in}
use Rattle.building.proofs.Opening.{open-entry, open-close}

module _ {P : Plan} {p : ℕ} {items colours : List ℕ} {heads₀ : List ℤ} {up₀ down₀ tints₀ : List ℕ} (F : Filling P p items colours heads₀ up₀ down₀ tints₀)
    {heads : List ℤ} {up down tints : List ℕ} {x j i : ℕ} (O : Open P 0 x heads up down tints) (inside : j < length items) (node : x ≡ p + 1 + j) (item : i ≡ at items j) where
  spelled : Spelled P x j items colours
  spelled = rw node (F.spelled j inside)

  col-is : P.col x ≡ i + 1
  col-is = rw item spelled.col

  -- what putting the entry there asks for
  pub fill-small : (i + 1 < node_bound) × (x < node_bound) × (at up (i + 1) < node_bound)
  fill-small = rw (← col-is) (entry-small P F.planned x heads up O.closed tints O.laid spelled.entry)

  pub fill-in : Growing heads (i + 1) × (i + 1 < length up) × (at up (i + 1) < length down)
  fill-in = rw (← col-is) (let a = entry_in P F.planned x heads up O.closed tints O.laid spelled.entry in (a.0, a.1, omega (arith, a.2, O.long)))

  pub fill-next : {c : ℕ} → c ≡ at colours j → {heads' : List ℤ} {up' down' tints' : List ℕ} → heads' ≡ end_heads heads (i + 1) x → up' ≡ end_up up (i + 1) x
      → down' ≡ set down (at up (i + 1)) x → tints' ≡ set tints x c → Open P 0 (x + 1) heads' up' down' tints'
  fill-next q e f g h = rw (e, f, g, h, q, ← spelled.tint, ← col-is) (open-entry P F.planned x heads up down tints O spelled.entry)

module _ {P : Plan} {np k p : ℕ} {items colours : List ℕ} {heads₀ : List ℤ} {up₀ down₀ tints₀ : List ℕ} (t : Turn P np k p items colours heads₀ up₀ down₀ tints₀)
    (live : primary_in np items ≡ true) where
  pub turn-fill : Filling P p items colours heads₀ up₀ down₀ tints₀
  turn-fill = record { planned = t.planned; spelled = t.spelled live; so_far = t.so_far }

  row : P.first k < P.past k
  row = omega (arith, t.first, t.past live, primary-some np items live)

  module _ {heads : List ℤ} {up down tints : List ℕ} (O : Open P 0 (p + 1 + length items) heads up down tints) where
    at-past : Open P 0 (P.past k) heads up down tints
    at-past = rw (t.past live) O

    before : P.first k - 1 ≡ p
    before = omega (arith, t.first)

    pub turn-close : {heads' : List ℤ} {up' down' : List ℕ} → heads' ≡ set heads (p + 1 + length items) (negsuc k) → up' ≡ set up (p + 1 + length items) (p + 1)
        → down' ≡ set down p (p + 1 + length items - 1) → Open P 0 (p + 1 + length items + 1) heads' up' down' tints
    turn-close e f g = rw (e, f, g, ← t.past live, ← t.first, ← before) (open-close P t.planned k t.option row heads up down tints at-past)
