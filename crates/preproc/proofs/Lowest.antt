-- The lowest primary item that is in no option, by the lengths of the columns. Assumes nothing.
use Prim.Native.Nat.{ℕ, zero, suc, ◌+◌, ◌<◌, ◌≤◌}
use native.Mathlib.Omega.{arith}
use mathlib.Core.Path.{◌≡◌, refl, ◌∙◌, ap, sym, subst}
use mathlib.Core.Logic.{⊎_elim, ◌≢◌}
use mathlib.Core.Bool.{Bool, true, false, not, cond}
use mathlib.Core.List.{List, ◌∷◌}
use mathlib.Core.Option.{none, some}
use borrow.Author.Tests.{lt-ltb, le-ltb}
use lib.Dec.{T, ltb}
use lib.ListN.{length}
use Rattle.std.specs.Prelude.{Some, None}
use Rattle.rules.specs.declared.number.Item.{Item}
use Rattle.rules.specs.Bounds.{node_bound}
use lib.IntN.{ℤ}
use Rattle.rules.specs.Lists.{from, up_to, first_that}
use Rattle.rules.specs.State.{in_live}
use Rattle.rules.specs.Rounds.{uncovered}
use Rattle.theorems.proofs.Words.Lists.{In-up_to}
use Rattle.theorems.proofs.Words.Choices.{none-first_that}
use Rattle.links.specs.Head.{item_of, head}
use Rattle.links.specs.Ground.{Ground}
use Rattle.links.proofs.Stores.{same?}
use Rattle.showing.specs.Showing.{state_of}
use Rattle.showing.proofs.Results.{live_test}
use Rattle.preproc.specs.Standing.{Looking, item_told}

-- the first that passes, where those before it do not
first-at : (f : ℕ → Bool) (i n k : ℕ) → i ≤ k → k < i + n → ((j : ℕ) → i ≤ j → j < k → f j ≡ false) → f k ≡ true → first_that f (from i n) ≡ some k
first-at f i zero k a b h e = absurd (omega arith)
first-at f i (suc n) k a b h e = ⊎_elim here (λ d. later d (λ u. first-at f (suc i) n k u (omega arith) (λ j x y. h j (omega arith) y) e)) (same? i k)
  where
    here : i ≡ k → first_that f (i ∷ from (suc i) n) ≡ some k
    here s = ap (λ (t : Bool). cond t (some i) (first_that f (from (suc i) n))) (ap f s ∙ e) ∙ ap some s

    later : i ≢ k → (suc i ≤ k → first_that f (from (suc i) n) ≡ some k) → first_that f (i ∷ from (suc i) n) ≡ some k
    later d r = ap (λ (t : Bool). cond t (some i) (first_that f (from (suc i) n))) (h i (omega arith) (omega arith)) ∙ r (omega arith)

-- The items below i are all in options.
abbrev pub AllLive : Ground → ℕ → Type 0
AllLive g i = (q : ℕ) → q < i → in_live q (state_of g) ≡ true

module _ {g : Ground} {np : ℕ} {heads : List ℤ} (k : Looking g np heads) where
  module _ (i : ℕ) (l : i < np) where
    pub look_in : i + 1 < length heads
    look_in =
        let t = k.ready.tidy in
        rw k.heads-are (omega (arith, k.few, t.planned.room, t.heads-in))

    live-is : in_live i (state_of g) ≡ ltb 0 (item_of (head heads (i + 1)))
    live-is = live_test g k.ready i (omega (arith, k.few)) ∙ ap (λ (x : List ℤ). ltb 0 (item_of (head x (i + 1)))) (sym k.heads-are)

    look-found : AllLive g i → item_of (head heads (i + 1)) ≡ 0 → uncovered np (state_of g) ≡ some i
    unfolding uncovered
    look-found a z =
        first-at (λ q. not (in_live q (state_of g))) 0 np i (omega arith) (omega arith) (λ j x y. ap not (a j y))
        (ap not (live-is ∙ le-ltb 0 (item_of (head heads (i + 1))) (omega arith)))

    live : item_of (head heads (i + 1)) ≢ 0 → in_live i (state_of g) ≡ true
    live d = live-is ∙ lt-ltb 0 (item_of (head heads (i + 1))) (omega (arith, d))

  look-end : AllLive g np → uncovered np (state_of g) ≡ none
  unfolding uncovered
  look-end a = none-first_that (λ q. not (in_live q (state_of g))) (up_to np) (λ q m. subst T (sym (ap (λ (b : Bool). not (not b)) (a q (omega (arith, In-up_to np m))))) tt)

  -- what `find` gives over the headers of the primary items
  pub looked_none : ((c : ℕ) → 1 ≤ c → c < np + 1 → item_of (head heads c) ≢ 0) → None ≡ item_told (uncovered np (state_of g))
  looked_none h = rw (look-end (λ q l. live q l (h (q + 1) (omega arith) (omega arith)))) refl

  module _ {c : ℕ} (h : (1 ≤ c) × (c < np + 1) × (item_of (head heads c) ≡ 0) × ((b : ℕ) → 1 ≤ b → b < c → item_of (head heads b) ≢ 0)) where
    pub look-column : (0 < c) × (c < node_bound)
    look-column = let t = k.ready.tidy in (omega (arith, h.0), omega (arith, h.1, k.few, t.planned.room, t.planned.small))

    pub looked_some : (i : Item) → i.0 + 1 ≡ c → Some i ≡ item_told (uncovered np (state_of g))
    looked_some i e =
        rw (look-found i.0 (omega (arith, h.1, e)) (λ q l. live q (omega (arith, l, h.1, e)) (h.3 (q + 1) (omega arith) (omega (arith, l, e))))
        (subst (λ (x : ℕ). item_of (head heads x) ≡ 0) (sym e) h.2)) refl
