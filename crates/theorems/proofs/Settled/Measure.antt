-- Items that are in a live option, and live options: no step makes more of them, and a step that removes something makes fewer.
-- Assumes nothing.
use Prim.Native.Nat.{ℕ, ◌+◌, ◌≤◌, ◌<◌}
use native.Mathlib.Omega.{arith}
use mathlib.Core.Path.{◌≡◌}
use mathlib.Core.Bool.{not}
use mathlib.Core.List.{List, map, Memᴰ as In}
use lib.Dec.{T}
use lib.ListN.{length}
use Rattle.rules.specs.Lists.{any, count, up_to}
use Rattle.rules.specs.Problem.{Entry}
use Rattle.rules.specs.State.{State, is_uncoloured, in_live}
use Rattle.rules.specs.Redundant.{shortened, state_without}
use Rattle.rules.specs.Blocked.{condemned, state_spared}
use Rattle.theorems.proofs.Words.Lists.{any→, none_any, map_same, up_to-In, length_from}
use Rattle.theorems.proofs.Words.Counts.{count-le, count-lt, count-length, count-pos, count_map}
use Rattle.theorems.proofs.Steps.States.{live→, live←, holds→}
use Rattle.theorems.proofs.Steps.LiveOptions.{nonempty, nonempty→, nonempty←, begins-nonempty}
use Rattle.theorems.proofs.Steps.Redundancy.{shortened-sub, without-live, without_gone}
use Rattle.theorems.proofs.Steps.Blocking.{condemned→, spare, spare-same, spare-sub, spare-gone, spared-live}

abbrev pub live_items : ℕ → State → ℕ
live_items n s = count (λ c. in_live c s) (up_to n)

abbrev pub live_options : State → ℕ
live_options s = count nonempty s

pub measure : ℕ → State → ℕ
measure n s = live_items n s + live_options s

-- No more than all of them, and no less than two where a live item is left.
pub measure-most : (n : ℕ) (s : State) → measure n s ≤ n + length s
unfolding measure
measure-most n s =
    let a = count-length (λ c. in_live c s) (up_to n) in
    let b = count-length nonempty s in
    let d = length_from 0 n in
    omega arith

pub measure-least : (n : ℕ) (s : State) {q : ℕ} → q < n → T (in_live q s) → 2 ≤ measure n s
unfolding measure
measure-least n s {q} h t =
    let w = live→ q s t in
    let a = count-pos (λ c. in_live c s) (up_to n) (up_to-In n h) t in
    let b = count-pos nonempty s w.1 (nonempty← w.0 (holds→ q w.0 w.2).1) in
    omega arith

-- the options of s as f leaves them, where f makes none live that was not
module _ (f : List Entry → List Entry) (s : State) (sub : (o : List Entry) (e : Entry) → In e (f o) → In e o) where
  live-before : (o : List Entry) → T (nonempty (f o)) → T (nonempty o)
  live-before o t = let w = nonempty→ (f o) t in nonempty← o (sub o w.0 w.1)

  options-le : live_options (map f s) ≤ live_options s
  options-le = rw (count_map f nonempty s) (count-le (λ o. nonempty (f o)) nonempty s (λ o m t. live-before o t))

  options-lt : {o : List Entry} → In o s → T (nonempty o) → T (not (nonempty (f o))) → live_options (map f s) < live_options s
  options-lt m t u = rw (count_map f nonempty s) (count-lt (λ o. nonempty (f o)) nonempty s (λ o m t. live-before o t) m t u)

-- Removing item c.
pub without-falls : (n c p : ℕ) (s : State) → c < n → T (in_live c s) → measure n (state_without c p s) < measure n s
unfolding measure
without-falls n c p s h t =
    let a : live_items n (state_without c p s) < live_items n s
    = count-lt (λ q. in_live q (state_without c p s)) (λ q. in_live q s) (up_to n) (λ q m u. (without-live c p s q u).0) (up_to-In n h) t (without_gone c p s) in
    let b : live_options (state_without c p s) ≤ live_options s = options-le (shortened c p) s (λ o e m. shortened-sub c p o m) in
    omega arith

-- Deleting the blocked options.
pub spared-falls : (np n c : ℕ) (s : State) → T (any (condemned np s c) s) → measure n (state_spared np s c) < measure n s
unfolding measure
spared-falls np n c s t =
    let w = any→ (condemned np s c) s t in
    let a : live_items n (state_spared np s c) ≤ live_items n s
    = count-le (λ q. in_live q (state_spared np s c)) (λ q. in_live q s) (up_to n) (λ q m u. let z = spared-live np s c q u in live← q s z.1 z.2) in
    let b : live_options (state_spared np s c) < live_options s
    = options-lt (spare np s c) s (λ o e m. (spare-sub np s c o m).0) w.1 (begins-nonempty (is_uncoloured c) w.0 (condemned→ np s c w.0 w.2).0) (rw (spare-gone np s c w.0 w.2) tt) in
    omega arith

pub spared-same : (np c : ℕ) (s : State) → T (not (any (condemned np s c) s)) → state_spared np s c ≡ s
spared-same np c s t = map_same (spare np s c) s (λ o m. spare-same np s c o (none_any (condemned np s c) s t m))
