-- A walk down or up a column while nodes of other columns are out: each step stays in the column, and as no entry of the column lies between the two
-- nodes, it changes nothing of what is gathered from entries of the column. Assumes nothing.
use Prim.Native.Nat.{ℕ, ◌+◌, ◌<◌, ◌≤◌}
use native.Mathlib.Omega.{arith}
use mathlib.Core.Path.{◌≡◌, refl, ◌∙◌, ap, sym}
use mathlib.Core.Bool.{Bool, true, not, false≢true, and-eq-true_iff}
use mathlib.Core.List.{List, [], Memᴰ as In}
use lib.Dec.{eqb}
use Rattle.rules.specs.Blocked.{agree}
use Rattle.links.specs.Column.{at, Tied}
use Rattle.links.specs.Plan.{start, EntryOf, Header}
use Rattle.links.specs.Ground.{Ground, Tidy, Within, taken, after, Fresh}
use Rattle.links.specs.Row.{others}
use Rattle.links.specs.Shown.{Whole, Ready}
use Rattle.links.specs.Taking.{gather_to, in_column, hidden, rival_at, holds_column, leaving}
use Rattle.links.proofs.Stores.{not_so}
use Rattle.links.proofs.Plans.{header-before, entry-from, entry-not-col}
use Rattle.links.proofs.Rings.{above_before, above-col}
use Rattle.links.proofs.Taken.{taken-on, on-taken, after-tidy}
use Rattle.links.proofs.Rows.{In-others}
use Rattle.links.proofs.Gathering.{gather-same, gather-column, gather-fresh}
use Rattle.links.proofs.Descending.{column→, column←, column-entry, before-gap, reach, reach-past, reach-at, Stand, stand-next, step-gap, step-far}

-- The walks choose entries of the column alone.
module _ (g : Ground) (i k : ℕ) where
  pub hidden-inside : hidden g i k ≡ true → in_column g i k ≡ true
  hidden-inside e = ((and-eq-true_iff (in_column g i k) (eqb (g.plan.tint k) 0)).0 e).0

  pub rival-inside : (x : ℕ) → rival_at g i x k ≡ true → in_column g i k ≡ true
  rival-inside x e = ((and-eq-true_iff (in_column g i k) (not (agree x (g.plan.tint k)))).0 e).0

  pub leaving-inside : (p : ℕ) → leaving g i p k ≡ true → in_column g i k ≡ true
  leaving-inside p e = ((and-eq-true_iff (in_column g i k) (not (holds_column g (g.plan.number k) p))).0 e).0

-- In a ground whose options are each wholly in their columns, the others of a node that is in its column are in theirs.
pub others-within : (g : Ground) → Ready g → (y : ℕ) → EntryOf g.plan y → g.on y ≡ true → {z : ℕ} → In z (others g y) → Within g z
others-within g R y e o {z} m =
    let w = In-others g R.tidy y e m in
    record {
      entry = w.0;
      on = R.whole.mates y z e w.0 (sym w.1) o w.3;
      header = R.whole.headers (g.plan.col z) (R.tidy.planned.entry z w.0);
    }

-- The nodes xs are out of g, and none of them is of column i.
pub record KeptColumn (g : Ground) (i : ℕ) (xs : List ℕ) : Type 0 where
  pub tidy : Tidy g
  pub header : Header g.plan i
  pub now : Tidy (after g xs)
  pub still : (y : ℕ) → g.plan.col y ≡ i → (taken g xs).on y ≡ g.on y

pub kept-none : {g : Ground} {i : ℕ} → Tidy g → Header g.plan i → KeptColumn g i []
kept-none t h = record { tidy = t; header = h; now = t; still = λ y c. refl }

-- Where a test chooses entries of column i, their others are of other columns.
module _ {g : Ground} (t : Tidy g) (i : ℕ) (chosen : ℕ → Bool) (inside : (k : ℕ) → chosen k ≡ true → in_column g i k ≡ true) where
  pub chosen-entry : (k : ℕ) → chosen k ≡ true → EntryOf g.plan k × (g.plan.col k ≡ i)
  chosen-entry k e = let w = column-entry g t i k (inside k e) in (w.0, w.2)

  pub chosen-kept : Header g.plan i → (k : ℕ) → Fresh g (gather_to chosen g k) → KeptColumn g i (gather_to chosen g k)
  chosen-kept h k f = record {
    tidy = t;
    header = h;
    now = after-tidy g (gather_to chosen g k) t f;
    still = λ y e. taken-on g (gather_to chosen g k) y (λ m. gather-column chosen g t i chosen-entry k m e);
  }

  -- Where each option is wholly in its columns, or wholly out of them, the others are in theirs, and none is gathered twice.
  module _ (whole : Whole g) where
    pub chosen-within : (k : ℕ) → chosen k ≡ true → (y : ℕ) → In y (others g k) → Within g y
    chosen-within k e y m = let w = column-entry g t i k (inside k e) in others-within g (record { tidy = t; whole = whole }) k w.0 w.1 m

    pub chosen-fresh : (k : ℕ) → Fresh g (gather_to chosen g k)
    chosen-fresh = gather-fresh chosen g t i chosen-entry chosen-within

  -- above the first entry nothing is gathered
  pub gathered-none : (k : ℕ) → k ≤ start g.plan → gather_to chosen g k ≡ []
  gathered-none k h = gather-same chosen g 0 k (omega arith) (λ j a b. not_so (chosen j) (λ e. false≢true (sym (before-gap g i j (omega arith)) ∙ inside j e)))

-- A step from node k of the column.
module _ {g : Ground} {i : ℕ} {xs : List ℕ} (w : KeptColumn g i xs) (k : ℕ) (s : Stand g i k) where
  now-stand : Stand (after g xs) i k
  now-stand = record { on = w.still k s.col ∙ s.on; col = s.col }

  tk : Tied g.plan.N g.plan.col (taken g xs).on (taken g xs).up (taken g xs).down k
  tk = w.now.ring.tied k now-stand.on

  pub down-stand : Stand g i (at (taken g xs).down k)
  down-stand =
      let n = stand-next (after g xs) w.now i w.header k now-stand in
      record { on = (on-taken g xs (at (taken g xs).down k) n.on).0; col = n.col }

  pub up-stand : Stand g i (at (taken g xs).up k)
  up-stand = record {
    on = (on-taken g xs (at (taken g xs).up k) tk.above_on).0;
    col = above-col g.plan.N g.plan.col (taken g xs).on (taken g xs).up (taken g xs).down w.now.ring w.tidy.planned.low k now-stand.on ∙ s.col;
  }

  pub up-falls : EntryOf g.plan k → at (taken g xs).up k < k
  up-falls e = above_before g.plan.N g.plan.col (taken g xs).on (taken g xs).up (taken g xs).down w.now.ring k now-stand.on (entry-not-col g.plan w.tidy.planned k e)

  pub down-up : at (taken g xs).down (at (taken g xs).up k) ≡ k
  down-up = tk.above_down

  -- What is gathered.
  module _ (chosen : ℕ → Bool) (inside : (k : ℕ) → chosen k ≡ true → in_column g i k ≡ true) where
    pub down-gathered : gather_to chosen g (reach g.plan (at (taken g xs).down k)) ≡ gather_to chosen g (k + 1)
    down-gathered =
        gather-same chosen g (k + 1) (reach g.plan (at (taken g xs).down k)) (step-far (after g xs) w.now i w.header k now-stand).0
        (λ j a b. not_so (chosen j) (λ e.
        let r = column→ g i j (inside j e) in
        false≢true (sym (step-gap (after g xs) w.now i w.header k now-stand j a b) ∙ column← (after g xs) i j (w.still j r.1 ∙ r.0) r.1 r.2)))

    -- from the last node it leads to the header, and the whole column is behind it
    pub last-gathered : at (taken g xs).down k ≡ i → gather_to chosen g g.plan.N ≡ gather_to chosen g (k + 1)
    last-gathered e = ap (gather_to chosen g) (sym (reach-past g.plan (at (taken g xs).down k) (omega (arith, e, header-before g.plan w.tidy.planned i w.header)))) ∙ down-gathered

-- The step up, which the step down undoes.
pub up-gathered : {g : Ground} {i : ℕ} {xs : List ℕ} (w : KeptColumn g i xs) (k : ℕ) → Stand g i k
    → (chosen : ℕ → Bool) → ((k : ℕ) → chosen k ≡ true → in_column g i k ≡ true) → EntryOf g.plan k
    → gather_to chosen g k ≡ gather_to chosen g (at (taken g xs).up k + 1)
up-gathered {g} {i} {xs} w k s chosen inside e =
    ap (gather_to chosen g) (sym (ap (reach g.plan) (down-up w k s) ∙ reach-at g.plan k (entry-from g.plan w.tidy.planned k e)))
    ∙ down-gathered w (at (taken g xs).up k) (up-stand w k s) chosen inside
