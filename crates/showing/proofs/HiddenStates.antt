-- The ground while item c is hidden: which nodes are in their columns then. Outside column c they are those of the options that do not hold c
-- uncoloured. Assumes nothing.
use Prim.Native.Nat.{ℕ, ◌+◌}
use mathlib.Core.Path.{◌≡◌, ◌∙◌, ap, sym}
use mathlib.Core.Logic.{◌≢◌}
use mathlib.Core.Bool.{true, not}
use mathlib.Core.List.{Memᴰ as In}
use lib.Dec.{T, eqb, eqb→eq, T_not, not_T}
use Rattle.rules.specs.State.{option_at, holds_uncoloured}
use Rattle.theorems.proofs.Words.Tests.{T_true, true-T, T_and, and_T, eq→eqb}
use Rattle.links.specs.Plan.{EntryOf, Planned}
use Rattle.links.specs.Ground.{Ground, Tidy, taken, after, Fresh}
use Rattle.links.specs.Row.{full, others}
use Rattle.links.specs.Shown.{Ready}
use Rattle.links.specs.Taking.{in_column, hidden, hides}
use Rattle.links.proofs.Plans.{entry-till}
use Rattle.links.proofs.Taken.{taken-after, taken-on, on-taken, after-tidy}
use Rattle.links.proofs.Rows.{In-others, others-In, after-full, after-others}
use Rattle.links.proofs.Gathering.{In-gather, gather-In, gather-column}
use Rattle.links.proofs.Passing.{hidden-inside, chosen-entry, chosen-fresh}
use Rattle.showing.specs.Showing.{state_of}
use Rattle.showing.proofs.Shows.{Linked, uncoloured-node, node-uncoloured}
use Rattle.showing.proofs.Columns.{column←}
use Rattle.showing.proofs.Gathered.{hidden-picks}

-- while c is hidden
abbrev pub hiding : Ground → ℕ → Ground
hiding g c = after g (hides g (c + 1))

pub hiding-is : (g : Ground) (c : ℕ) → taken g (hides g (c + 1)) ≡ hiding g c
hiding-is g c = taken-after g (hides g (c + 1))

module _ (g : Ground) (R : Ready g) (c : ℕ) where
  W : Planned g.plan
  W = R.tidy.planned

  -- What hiding takes out: the other nodes of the options that hold c uncoloured.
  pub hides-In : {y : ℕ} → In y (hides g (c + 1)) → EntryOf g.plan y × (g.plan.col y ≢ c + 1) × T (holds_uncoloured c (option_at (state_of g) (g.plan.number y)))
  unfolding hides
  hides-In {y} m =
      let w = In-gather (hidden g (c + 1)) g g.plan.N m in
      let u = hidden-picks g R c w.0 w.2 in
      let v = In-others g R.tidy w.0 u.0 w.3 in
      let z = (T_and (in_column g (c + 1) w.0) (eqb (g.plan.tint w.0) 0) (true-T w.2)).1 in
      let l : Linked g.plan g.on (g.plan.number y) w.0 = record { entry = u.0; option = sym v.1; is-on = u.1 } in (
        v.0,
        gather-column (hidden g (c + 1)) g R.tidy (c + 1) (chosen-entry R.tidy (c + 1) (hidden g (c + 1)) (hidden-inside g (c + 1))) g.plan.N m,
        node-uncoloured g.plan W g.on (g.plan.number y) w.0 c l u.2 (eqb→eq (g.plan.tint w.0) 0 z),
      )

  pub In-hides : (y : ℕ) → EntryOf g.plan y → g.on y ≡ true → g.plan.col y ≢ c + 1 → T (holds_uncoloured c (option_at (state_of g) (g.plan.number y))) → In y (hides g (c + 1))
  unfolding hides
  In-hides y e o n t =
      let w = uncoloured-node g.plan W g.on (g.plan.number y) c t in
      let l = w.1 in
      gather-In (hidden g (c + 1)) g g.plan.N w.0 (entry-till g.plan W w.0 l.entry)
      (T_true (hidden g (c + 1) w.0)
      (and_T (in_column g (c + 1) w.0) (eqb (g.plan.tint w.0) 0) (column← g R.tidy (c + 1) w.0 l.entry l.is-on w.2) (eq→eqb (g.plan.tint w.0) 0 w.3)))
      (others-In g R.tidy w.0 l.entry e (sym l.option) (λ q. n (ap g.plan.col q ∙ w.2)) (R.tidy.full y e o))

  pub hides-fresh : Fresh g (hides g (c + 1))
  unfolding hides
  hides-fresh = chosen-fresh R.tidy (c + 1) (hidden g (c + 1)) (hidden-inside g (c + 1)) R.whole g.plan.N

  -- so the lists are tidy then
  pub hiding-tidy : Tidy (hiding g c)
  hiding-tidy = after-tidy g (hides g (c + 1)) R.tidy hides-fresh

  -- which nodes are in their columns
  pub hiding→ : (y : ℕ) → EntryOf g.plan y → (hiding g c).on y ≡ true → (g.on y ≡ true) × (g.plan.col y ≢ c + 1 → T (not (holds_uncoloured c (option_at (state_of g) (g.plan.number y)))))
  hiding→ y e o =
      let w = on-taken g (hides g (c + 1)) y o in
      (w.0, λ n. not_T (holds_uncoloured c (option_at (state_of g) (g.plan.number y))) (λ t. w.1 (In-hides y e w.0 n t)))

  pub hiding← : (y : ℕ) → g.on y ≡ true → T (not (holds_uncoloured c (option_at (state_of g) (g.plan.number y)))) → (hiding g c).on y ≡ true
  hiding← y o t = taken-on g (hides g (c + 1)) y (λ m. T_not (holds_uncoloured c (option_at (state_of g) (g.plan.number y))) t (hides-In m).2) ∙ o

  -- column c loses nothing
  pub hiding-own : (y : ℕ) → g.plan.col y ≡ c + 1 → (hiding g c).on y ≡ g.on y
  hiding-own y e = taken-on g (hides g (c + 1)) y (λ m. (hides-In m).1 e)

  -- the rows are as they were
  pub hiding-full : (y : ℕ) → EntryOf g.plan y → full (hiding g c).heads y ≡ full g.heads y
  hiding-full = after-full g (hides g (c + 1)) R.tidy hides-fresh

  pub hiding-others : (y : ℕ) → EntryOf g.plan y → others (hiding g c) y ≡ others g y
  hiding-others = after-others g (hides g (c + 1)) R.tidy hides-fresh
