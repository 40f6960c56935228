-- What hiding an item takes out: the other entries of the options that hold it uncoloured, all of them in their columns, none of the item's own.
-- Assumes nothing.
use Prim.Native.Nat.{ℕ}
use mathlib.Core.Path.{◌≡◌}
use mathlib.Core.Logic.{◌≢◌}
use mathlib.Core.Bool.{true}
use mathlib.Core.List.{Memᴰ as In}
use Rattle.links.specs.Plan.{EntryOf}
use Rattle.links.specs.Ground.{Ground, Tidy, Within, Fresh}
use Rattle.links.specs.Row.{others}
use Rattle.links.specs.Shown.{Ready}
use Rattle.links.specs.Taking.{gather_to, hidden}
use Rattle.links.proofs.Gathering.{gather-column}
use Rattle.links.proofs.Passing.{hidden-inside, chosen-entry, chosen-within, chosen-fresh}
use Rattle.hiding.specs.Away.{Rising}
use Rattle.hiding.proofs.Order.{gather-rising}

module _ (g : Ground) (r : Ready g) (c : ℕ) where
  t : Tidy g
  t = r.tidy

  -- a hidden node is an entry of the column
  pub hidden-entry : (k : ℕ) → hidden g c k ≡ true → EntryOf g.plan k × (g.plan.col k ≡ c)
  hidden-entry = chosen-entry t c (hidden g c) (hidden-inside g c)

  pub hidden-within : (k : ℕ) → hidden g c k ≡ true → (y : ℕ) → In y (others g k) → Within g y
  hidden-within = chosen-within t c (hidden g c) (hidden-inside g c) r.whole

  pub gathered-rising : (k : ℕ) → Rising g (gather_to (hidden g c) g k)
  gathered-rising = gather-rising (hidden g c) g t c hidden-entry hidden-within

  pub gathered-fresh : (k : ℕ) → Fresh g (gather_to (hidden g c) g k)
  gathered-fresh = chosen-fresh t c (hidden g c) (hidden-inside g c) r.whole

  pub gathered-off-column : (k : ℕ) {y : ℕ} → In y (gather_to (hidden g c) g k) → g.plan.col y ≢ c
  gathered-off-column = gather-column (hidden g c) g t c hidden-entry
