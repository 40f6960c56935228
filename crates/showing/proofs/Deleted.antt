-- Deleting options, each by one node of it: every node is in its column when its turn comes, and what is left is ready for the next item's step.
-- Assumes nothing.
use Prim.Native.Nat.{ℕ}
use mathlib.Core.Path.{◌≡◌, refl, ◌∙◌, ap, sym, subst}
use mathlib.Core.Logic.{◌⊎◌, inl, inr}
use mathlib.Core.Bool.{Bool, true}
use mathlib.Core.List.Memᴰ.{append_cases as In-append}
use mathlib.Core.List.Memᴰ.{head as here}
use mathlib.Core.List.Memᴰ.{not-nil}
use mathlib.Core.List.Memᴰ.{tail as next}
use mathlib.Core.List.{List, [], ◌∷◌, ◌++◌, map, Memᴰ as In}
use lib.Dec.{T}
use lib.IntN.{pos}
use Rattle.rules.specs.Lists.{keep, up_to}
use Rattle.rules.specs.State.{option_at}
use Rattle.rules.specs.Blocked.{condemned}
use Rattle.rules.specs.Promises.{distinct}
use Rattle.theorems.proofs.Words.Lists.{In-each, map-In}
use Rattle.theorems.proofs.Words.Distinct.{distinct→, distinct_append}
use Rattle.theorems.proofs.Words.Rising.{some-rise, rising-distinct}
use Rattle.links.specs.Head.{head}
use Rattle.links.specs.Plan.{EntryOf, Planned}
use Rattle.links.specs.Ground.{Ground, Within, taken, Fresh, after}
use Rattle.links.specs.Row.{others}
use Rattle.links.specs.Shown.{Ready, Whole}
use Rattle.links.proofs.Plans.{entry-no-header}
use Rattle.links.proofs.Taken.{fresh-of, taken-tidy, taken-head, taken-on, on-taken, taken-after}
use Rattle.links.proofs.Rows.{In-others}
use Rattle.links.proofs.Gathering.{others-distinct}
use Rattle.showing.specs.Showing.{state_of, deletes, Condemns}
use Rattle.showing.proofs.Lists.{distinct-reverse}
use Rattle.links.proofs.Passing.{others-within}
use Rattle.showing.proofs.Deleting.{In-deletes, deletes-In}

module _ (g : Ground) (R : Ready g) where
  W : Planned g.plan
  W = R.tidy.planned

  -- nodes of options that differ
  deletes-distinct : (rs : List ℕ) → ((r : ℕ) → In r rs → EntryOf g.plan r) → T (distinct (map g.plan.number rs)) → T (distinct (deletes g rs))
  deletes-distinct [] entry d = tt
  deletes-distinct (r ∷ rs) entry d =
      distinct_append (others g r ++ (r ∷ [])) (deletes g rs) own (deletes-distinct rs (λ x m. entry x (next m)) w.1)
      (λ x m n. w.0 (subst (λ (k : ℕ). In k (map g.plan.number rs)) (sym (number x m n)) (map-In g.plan.number rs (In-deletes g R rs (λ x m. entry x (next m)) n).1)))
    where
      w : (In (g.plan.number r) (map g.plan.number rs) → ⊥) × T (distinct (map g.plan.number rs))
      w = distinct→ (g.plan.number r) (map g.plan.number rs) d

      own : T (distinct (others g r ++ (r ∷ [])))
      own = distinct_append (others g r) (r ∷ []) (others-distinct g r) tt (λ x m n. itself x m n)
        where
          itself : (x : ℕ) → In x (others g r) → In x (r ∷ []) → ⊥
          itself x m (here e) = (In-others g R.tidy r (entry r (here refl)) m).2 e
          itself x m (next n) = not-nil n

      of : (x : ℕ) → In x (others g r) ⊎ In x (r ∷ []) → g.plan.number x ≡ g.plan.number r
      of x (inl m) = (In-others g R.tidy r (entry r (here refl)) m).1
      of x (inr (here e)) = ap g.plan.number e
      of x (inr (next m)) = absurd (not-nil m)

      number : (x : ℕ) → In x (others g r ++ (r ∷ [])) → (n : In x (deletes g rs)) → g.plan.number r ≡ g.plan.number (In-deletes g R rs (λ x m. entry x (next m)) n).0
      number x m n = sym (of x (In-append (others g r) m)) ∙ (In-deletes g R rs (λ x m. entry x (next m)) n).3

  module _ (rs : List ℕ) (entry : (r : ℕ) → In r rs → EntryOf g.plan r) (on : (r : ℕ) → In r rs → g.on r ≡ true) (apart : T (distinct (map g.plan.number rs))) where
    deletes-within : (x : ℕ) → In x (deletes g rs) → Within g x
    deletes-within x m = let w = In-each (λ r. others g r ++ (r ∷ [])) rs m in go w.0 w.1 (In-append (others g w.0) w.2)
      where
        go : (r : ℕ) → In r rs → In x (others g r) ⊎ In x (r ∷ []) → Within g x
        go r n (inl i) = others-within g R r (entry r n) (on r n) i
        go r n (inr (here e)) = subst (Within g) (sym e) (record { entry = entry r n; on = on r n; header = R.whole.headers (g.plan.col r) (W.entry r (entry r n)) })
        go r n (inr (next i)) = absurd (not-nil i)

    pub deletes-fresh : Fresh g (deletes g rs)
    deletes-fresh = fresh-of g (deletes g rs) R.tidy deletes-within (deletes-distinct rs entry apart)

    whole : Whole (after g (deletes g rs))
    whole = record {
      headers = λ i h. taken-on g (deletes g rs) i (λ m. entry-no-header g.plan W i (deletes-within i m).entry h) ∙ R.whole.headers i h;
      mates = mates;
    }
      where
        mates : (y z : ℕ) → EntryOf g.plan y → EntryOf g.plan z → g.plan.number y ≡ g.plan.number z → (after g (deletes g rs)).on y ≡ true
            → head (after g (deletes g rs)).heads z ≡ pos (g.plan.col z) → (after g (deletes g rs)).on z ≡ true
        mates y z e f n o h =
            let w = on-taken g (deletes g rs) y o in
            let was = sym (taken-head g (deletes g rs) R.tidy deletes-fresh z (entry-no-header g.plan W z f)) ∙ h in
            taken-on g (deletes g rs) z (λ m. let v = In-deletes g R rs entry m in w.1 (deletes-In g R rs v.1 (entry v.0 v.1) y e w.0 (n ∙ v.3)))
            ∙ R.whole.mates y z e f n w.0 was

    pub deleted-ready : Ready (taken g (deletes g rs))
    deleted-ready = record {
      tidy = taken-tidy g (deletes g rs) R.tidy deletes-fresh;
      whole = subst Whole (sym (taken-after g (deletes g rs))) whole;
    }

-- the condemned options differ
pub condemned-apart : (np c : ℕ) (g : Ground) (rs : List ℕ) → Condemns np c g rs → T (distinct (map g.plan.number rs))
condemned-apart np c g rs C =
    rw C.numbers
    (distinct-reverse (keep doomed (up_to g.plan.M)) (rising-distinct (keep doomed (up_to g.plan.M)) (some-rise doomed g.plan.M)))
  where
    doomed : ℕ → Bool
    doomed k = condemned np (state_of g) c (option_at (state_of g) k)
