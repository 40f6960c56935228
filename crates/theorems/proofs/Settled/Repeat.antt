-- A settled result, written as a compact problem and run again, comes back as it is after one round. Assumes nothing.
use Prim.Native.Nat.{ℕ, suc, ◌≤◌, ◌<◌}
use native.Mathlib.Omega.{arith}
use mathlib.Core.Path.{◌≡◌, ap, subst, ◌∙◌}
use mathlib.Core.Logic.{◌⊎◌, inl, inr}
use mathlib.Core.Bool.{true, false}
use mathlib.Core.List.{List, [], Memᴰ as In}
use mathlib.Core.Option.{none}
use lib.Dec.{T, ltb, eqb}
use lib.ListN.{length}
use Rattle.rules.specs.Lists.{keep, up_to}
use Rattle.rules.specs.Problem.{Entry, Problem}
use Rattle.rules.specs.State.{State, went, is, begins, holds_primary, in_live}
use Rattle.rules.specs.Rounds.{reduced, start, uncovered, round, reduce}
use Rattle.rules.specs.Result.{kept_items, primaries_of, Numbered, numbered, kept_options, renamed, compact_of}
use Rattle.rules.specs.Promises.{none_yet, Starts, NothingLeft, Repeats}
use Rattle.theorems.proofs.Words.Lists.{map-In, keep_all, keep-cong, each-cong, In-up_to}
use Rattle.theorems.proofs.Words.Counts.{count-length}
use Rattle.theorems.proofs.Words.Order.{ByKey, gather}
use Rattle.theorems.proofs.Steps.States.{primary→, primary←, ItemsBelow}
use Rattle.theorems.proofs.Steps.LiveOptions.{nonempty, first_item, begins-test}
use Rattle.theorems.proofs.Steps.Start.{start-all, all-covered}
use Rattle.theorems.proofs.Results.Kept.{bucket, numbered→, numbered-ordered}
use Rattle.theorems.proofs.Results.Compact.{ren, compact_options}
use Rattle.theorems.proofs.Settled.LastRound.{settles, ended, found-so}
use Rattle.theorems.proofs.Settled.Flag.{AllQuiet}
use Rattle.theorems.proofs.Settled.Image.{Image, none-redundant, none-blocked}
use Rattle.theorems.proofs.Settled.CompactImage.{compact-image, compact-live, compact-first, compact-ordered}
use Rattle.theorems.proofs.Settled.Idle.{idle-round}

-- Items that are all live, and options that are ordered by first item, are kept as they are.
items-same : (n : ℕ) (s : State) → ((q : ℕ) → q < n → T (in_live q s)) → kept_items n s ≡ up_to n
unfolding kept_items
items-same n s h = keep_all (λ c. in_live c s) (up_to n) (λ c m. h c (In-up_to n m))

options-same : (n : ℕ) (s : State) → ByKey first_item s → ((o : List Entry) → In o s → (first_item o < n) × T (nonempty o)) → kept_options n s ≡ numbered 0 s
unfolding kept_options
options-same n s o h =
    each-cong (bucket s) (λ c. keep (λ x. eqb (first_item x.entries) c) (numbered 0 s)) (up_to n)
    (λ c m. keep-cong (λ x. begins (is c) x.entries) (λ x. eqb (first_item x.entries) c) (numbered 0 s) (λ x k. begins-test c x.entries (h x.entries (numbered→ 0 s k)).1))
    ∙ gather (λ (x : Numbered). first_item x.entries) n 0 (numbered 0 s) (numbered-ordered first_item 0 s o)
    (λ x k. let w = h x.entries (numbered→ 0 s k) in let lt = w.0 in (omega arith, omega arith))

-- One round that does nothing
runs-once : (a : Problem) → start a ≡ a.options → uncovered a.np a.options ≡ none → AllQuiet a.np a.options (up_to a.n)
    → (cap : ℕ) → reduce a (suc cap) ≡ reduced a.options 1 true
runs-once a e u q cap =
    let starts : Starts a = rw e u in
    let one : 1 ≤ suc cap = omega arith in
    let idle : round a.np a.n (start a) ≡ went a.options false = rw e (idle-round a.np a.n a.options q) in
    found-so a (suc cap) (ended starts (settles one none_yet idle))

-- The state is sound as far as it is needed here, and nothing is left to do in it.
module _ (np n : ℕ) (s : State) (below : ItemsBelow n s)
    (primary : (o : List Entry) → In o s → (o ≡ []) ⊎ T (holds_primary np o)) (left : NothingLeft np n s) where
  image : Image np (primaries_of np (kept_items n s)) (kept_items n s) s (compact_options n s)
  image = compact-image np n s below

  compact-primary : (v : List Entry) → In v (compact_options n s) → T (holds_primary (primaries_of np (kept_items n s)) v)
  compact-primary v m = let w = image.back v m in go w.0 w.1 w.2 (primary w.0 w.1)
    where
      go : (o : List Entry) → In o s → v ≡ renamed (kept_items n s) o → (o ≡ []) ⊎ T (holds_primary np o) → T (holds_primary (primaries_of np (kept_items n s)) v)
      go o k e (inl h) =
          let empty : v ≡ [] = e ∙ ap (λ (z : List Entry). renamed (kept_items n s) z) h in
          absurd (subst (λ (z : List Entry). T (nonempty z)) empty (compact-first np n s below v m).1)
      go o k e (inr t) =
          let w = primary→ np o t in
          rw e
          (primary← (primaries_of np (kept_items n s)) (renamed (kept_items n s) o) (map-In (ren (kept_items n s)) o w.1)
          (image.primary→ w.0.item (image.inside o k w.0 w.1) w.2))

  -- every primary item is a place, and so live
  compact-covered : uncovered (primaries_of np (kept_items n s)) (compact_options n s) ≡ none
  compact-covered =
      all-covered (primaries_of np (kept_items n s)) (compact_options n s)
      (λ q h. let le = count-length (λ c. ltb c np) (kept_items n s) in compact-live np n s below q (omega arith))

  compact-quiet : AllQuiet (primaries_of np (kept_items n s)) (compact_options n s) (up_to (length (kept_items n s)))
  compact-quiet d m h = (
    none-redundant np (primaries_of np (kept_items n s)) (kept_items n s) s (compact_options n s) image left.no-redundant d h,
    none-blocked np (primaries_of np (kept_items n s)) (kept_items n s) s (compact_options n s) image left.no-blocked d,
  )

  pub repeats : Repeats np n s
  unfolding compact_of
  repeats =
      record {
        again = runs-once (compact_of np n s) (start-all (compact_of np n s) compact-primary) compact-covered compact-quiet;
        items = items-same (length (kept_items n s)) (compact_options n s) (compact-live np n s below);
        options = options-same (length (kept_items n s)) (compact_options n s) (compact-ordered np n s below) (compact-first np n s below);
      }
