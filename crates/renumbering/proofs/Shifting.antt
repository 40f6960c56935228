-- The crate's numbers: primary means a place below the count of primaries, and a secondary is not below sd. Assumes nothing.
use Prim.Native.Nat.{ℕ, zero, suc, ◌-◌, ◌≤◌, ◌<◌}
use native.Mathlib.Omega.{arith}
use mathlib.Core.Path.{◌≡◌, refl, sym, ap, ◌∙◌}
use mathlib.Core.Logic.{◌⊎◌, inl, inr}
use mathlib.Core.Bool.{Bool, not, ◌||◌, cond}
use mathlib.Core.List.{List, [], ◌∷◌, map}
use lib.Dec.{T, ltb, eqb, eqb→eq, ltb→lt, lt→ltb}
use lib.ListN.{length, get_or, take, length-map}
use Rattle.std.proofs.lemmas.List.{map-id}
use borrow.Author.Tests.{lt-ltb, le-ltb, eq-eqb, ne_eqb}
use Rattle.rules.specs.Lists.{mem, place}
use Rattle.rules.specs.Renumber.{sd, crate_item}
use Rattle.theorems.proofs.Words.Tests.{T-dec, T-same, neqb→ne}
use Rattle.theorems.proofs.Words.Places.{place-first, place-later}
use Rattle.renumbering.specs.Parts.{Renumberable}
use Rattle.renumbering.proofs.Climbing.{rises, rises-to}
use Rattle.renumbering.proofs.Halving.{place-present}

-- among the first n: a place below n
pub among_first : (l : List ℕ) (n i : ℕ) → n ≤ length l → mem i (take n l) ≡ ltb (place l i) n
among_first [] zero i h = refl
among_first [] (suc n) i h = absurd (omega arith)
among_first (b ∷ l) zero i h = sym (le-ltb (place (b ∷ l) i) zero (omega arith))
among_first (b ∷ l) (suc n) i h = go (T-dec (eqb i b)) (among_first l n i (omega arith))
  where
    later : (p : ℕ) (m : Bool) → m ≡ ltb p n → m ≡ ltb (suc p) (suc n)
    later p m e = T-same m (ltb (suc p) (suc n)) (λ t. lt→ltb (suc p) (suc n) (up t)) (λ t. down t)
      where
        up : T m → suc p < suc n
        up t = let k = ltb→lt p n (rw e at t) in omega arith

        down : T (ltb (suc p) (suc n)) → T m
        down t = let k = ltb→lt (suc p) (suc n) t in rw e (lt→ltb p n (omega arith))

    go : T (eqb i b) ⊎ T (not (eqb i b)) → mem i (take n l) ≡ ltb (place l i) n → (eqb i b || mem i (take n l)) ≡ ltb (place (b ∷ l) i) (suc n)
    go (inl t) r = let e = eqb→eq i b t in rw (eq-eqb i b e, place-first b l e) (sym (lt-ltb 0 (suc n) (omega arith)))
    go (inr t) r = let ne = neqb→ne i b t in rw (ne_eqb i b ne, place-later b l ne) (later (place l i) (mem i (take n l)) r)

module _ (kept : List ℕ) (primaries : ℕ) (s : Renumberable kept primaries) where
  -- the last kept primary is below the first kept secondary
  pub gap : primaries < length kept → get_or kept (primaries - 1) 0 < get_or kept primaries 0
  gap h = rises kept s.rises (primaries - 1) primaries (omega (arith, s.some-primary)) h

  pub sd-some : primaries < length kept → get_or kept primaries 0 - get_or kept (primaries - 1) 0 - 1 ≡ sd kept primaries
  unfolding sd
  sd-some h = rw (lt-ltb primaries (length kept) h)

  pub sd-none : length kept ≤ primaries → ◌≡◌ {A = ℕ} 0 (sd kept primaries)
  unfolding sd
  sd-none h = rw (le-ltb primaries (length kept) h)

  pub secondary-above : (i : ℕ) → T (mem i kept) → primaries ≤ place kept i → sd kept primaries ≤ i
  secondary-above i m h =
      let w = place-present kept i m in
      let first = rises-to kept s.rises primaries (place kept i) h w.0 in
      let e = sd-some (omega (arith, w.0)) in
      omega (arith, w.1)

-- what the code makes of a place and the item, over what stands for the numbers
pub crate-number : (kept : List ℕ) (primaries i n d : ℕ) → primaries ≤ length (map (λ m. m) kept) → d ≡ sd kept primaries
    → n ≡ cond (ltb (place (map (λ m. m) kept) i) primaries) i (i - d) → n ≡ crate_item kept primaries i
unfolding crate_item
crate-number kept primaries i n d h e f =
    f
    ∙ ap (λ (l : List ℕ). cond (ltb (place l i) primaries) i (i - d)) (map-id kept)
    ∙ ap (λ (b : Bool). cond b i (i - d)) (sym (among_first kept primaries i (omega (arith, length-map kept (λ (m : ℕ). m)))))
    ∙ ap (λ (x : ℕ). cond (mem i (take primaries kept)) i (i - x)) e
