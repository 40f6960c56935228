-- What deleting the condemned options takes out is what the rules say, and so is the first primary item that it empties. Assumes nothing.
use Prim.Native.Nat.{ℕ}
use mathlib.Core.Path.{◌≡◌, refl, ◌∙◌, ap, sym, subst}
use mathlib.Core.Logic.{◌⊎◌, inl, inr, ⊎_elim}
use mathlib.Core.Bool.{Bool, true, cond}
use mathlib.Core.List.Memᴰ.{append_cases as In-append}
use mathlib.Core.List.Memᴰ.{append_left as In-append-l}
use mathlib.Core.List.Memᴰ.{append_right as In-append-r}
use mathlib.Core.List.Memᴰ.{head as here}
use mathlib.Core.List.Memᴰ.{not-nil}
use mathlib.Core.List.Memᴰ.{tail as next}
use mathlib.Core.List.{List, [], ◌∷◌, ◌++◌, map, reverse, Memᴰ as In}
use lib.Dec.{ltb}
use Rattle.rules.specs.Lists.{each, up_to}
use Rattle.rules.specs.Problem.{Entry}
use Rattle.rules.specs.State.{option_at}
use Rattle.rules.specs.Blocked.{condemned, second_to_first, leaving_blocked}
use Rattle.theorems.proofs.Words.Lists.{In-each, each-In, each-cong}
use Rattle.theorems.proofs.Steps.Blocking.{emptied_blocked}
use Rattle.theorems.proofs.Laws.Held.{held}
use Rattle.theorems.proofs.Laws.Counters.{counted_first, deleting-counted}
use Rattle.links.specs.Plan.{EntryOf}
use Rattle.links.specs.Ground.{Ground}
use Rattle.links.specs.Row.{others}
use Rattle.links.specs.Shown.{Ready}
use Rattle.links.specs.Taking.{first_out}
use Rattle.links.proofs.Stores.{same?}
use Rattle.links.proofs.Rows.{In-others, others-In}
use Rattle.showing.specs.Showing.{state_of, column_or, deletes, Condemns}
use Rattle.theorems.proofs.Answers.EachFacts.{each_map, map_each}
use Rattle.showing.proofs.Lists.{keep-reverse, map-reverse, each_keep}
use Rattle.showing.proofs.Shows.{item_at, col-some, own-option, shown-once, shown-options}
use Rattle.showing.proofs.Around.{second-shown}
use Rattle.showing.proofs.Lengths.{Counted, first_counted}
use Rattle.showing.proofs.Chosen.{entry-held, primary-column}

module _ (g : Ground) (R : Ready g) where
  -- what is taken out of an option is the node itself, and its others
  pub In-deletes : (rs : List ℕ) → ((r : ℕ) → In r rs → EntryOf g.plan r) → {y : ℕ} → In y (deletes g rs)
      → (r : ℕ) × In r rs × EntryOf g.plan y × (g.plan.number y ≡ g.plan.number r)
  In-deletes rs entry {y} m = let w = In-each (λ r. others g r ++ (r ∷ [])) rs m in go w.0 w.1 (In-append (others g w.0) w.2)
    where
      go : (r : ℕ) → In r rs → In y (others g r) ⊎ In y (r ∷ []) → (r : ℕ) × In r rs × EntryOf g.plan y × (g.plan.number y ≡ g.plan.number r)
      go r n (inl i) = let w = In-others g R.tidy r (entry r n) i in (r, n, w.0, w.1)
      go r n (inr (here e)) = (r, n, subst (EntryOf g.plan) (sym e) (entry r n), ap g.plan.number e)
      go r n (inr (next i)) = absurd (not-nil i)

  pub deletes-In : (rs : List ℕ) {r : ℕ} → In r rs → EntryOf g.plan r → (y : ℕ) → EntryOf g.plan y → g.on y ≡ true
      → g.plan.number y ≡ g.plan.number r → In y (deletes g rs)
  deletes-In rs {r} m f y e o n =
      each-In (λ r. others g r ++ (r ∷ [])) rs m
      (⊎_elim (λ i. In-append-r (others g r) (here i)) (λ i. In-append-l (r ∷ []) (others-In g R.tidy r f e n i (R.tidy.full y e o))) (same? y r))

  module _ (np c : ℕ) (rs : List ℕ) (C : Condemns np c g rs) where
    pub deletes-items : map (item_at g.plan) (deletes g rs) ≡ leaving_blocked np (state_of g) c
    unfolding leaving_blocked
    deletes-items =
        map_each (item_at g.plan) (λ r. others g r ++ (r ∷ [])) rs
        ∙ each-cong (λ r. map (item_at g.plan) (others g r ++ (r ∷ []))) (λ r. second (g.plan.number r)) rs
        (λ r m. second-shown g R (own-option g.plan R.tidy.planned g.on (C.entry r m) (C.on r m)) (C.first r m))
        ∙ sym (each_map g.plan.number second rs)
        ∙ ap (each second) (C.numbers ∙ sym (keep-reverse doomed (up_to g.plan.M)))
        ∙ each_keep doomed second (reverse (up_to g.plan.M))
        ∙ sym (each_map (option_at (state_of g)) given (reverse (up_to g.plan.M)))
        ∙ ap (each given) (map-reverse (option_at (state_of g)) (up_to g.plan.M) ∙ ap reverse (sym (shown-options g.plan R.tidy.planned g.on)))
      where
        second : ℕ → List ℕ
        second k = second_to_first (option_at (state_of g) k)

        doomed : ℕ → Bool
        doomed k = condemned np (state_of g) c (option_at (state_of g) k)

        given : List Entry → List ℕ
        given o = cond (condemned np (state_of g) c o) (second_to_first o) []

    deletes-counted : (y : ℕ) → In y (deletes g rs) → Counted np (λ q. ltb q np) g (λ q. held q (state_of g)) y
    deletes-counted y m =
        let e = (In-deletes rs C.entry m).2 in
        record { column = col-some g.plan R.tidy.planned e; primary = primary-column g R np y e; counter = entry-held g R y e }

    pub deleting-shown : first_out g np (deletes g rs) ≡ column_or 0 (emptied_blocked np c (state_of g))
    deleting-shown =
        first_counted np (λ q. ltb q np) g (λ q. held q (state_of g)) (deletes g rs) deletes-counted
        ∙ ap (λ (l : List ℕ). column_or 0 (counted_first (λ q. ltb q np) (λ q. held q (state_of g)) l)) deletes-items
        ∙ ap (column_or 0) (deleting-counted np (state_of g) (shown-once g.plan R.tidy.planned g.on) (λ q. held q (state_of g)) c (λ q. refl))
