-- The compact problem of an accepted one is accepted. Assumes nothing.
use Prim.Native.Nat.{ℕ, ◌<◌, ◌≤◌}
use native.Mathlib.Omega.{arith}
use mathlib.Core.Path.{◌≡◌, refl, ap}
use mathlib.Core.List.Memᴰ
use mathlib.Core.List.Memᴰ.{head as here}
use mathlib.Core.List.Memᴰ.{tail as next}
use mathlib.Core.List.{List, [], ◌∷◌, map, Memᴰ as In}
use lib.Dec.{T, ltb, lt→ltb}
use lib.ListN.{length}
use Rattle.rules.specs.Lists.{each, place}
use Rattle.rules.specs.Problem.{Entry, Problem, Figures}
use Rattle.rules.specs.State.{State, items_of}
use Rattle.rules.specs.Result.{kept_items, primaries_of, Numbered, kept_options, renamed, compact_of}
use Rattle.rules.specs.Promises.{distinct, AcceptedEntry, Accepted, Sound}
use Rattle.theorems.proofs.Words.Lists.{In-map, In-get_or}
use Rattle.theorems.proofs.Words.Counts.{count-pos, count-length}
use Rattle.theorems.proofs.Steps.States.{holds→, live→}
use Rattle.theorems.proofs.Words.Distinct.{distinct→, distinct←}
use Rattle.theorems.proofs.Words.Places.{place_found, place-inj}
use Rattle.theorems.proofs.Results.Kept.{live-kept}
use Rattle.theorems.proofs.Settled.Image.{Image}
use Rattle.theorems.proofs.Results.Compact.{ren, compact_options}
use Rattle.theorems.proofs.Settled.CompactImage.{compact-image}
use Rattle.theorems.proofs.Answers.EachFacts.{each_map, each-lengths}
use Rattle.theorems.proofs.Answers.Parts.{Part}
use Rattle.theorems.proofs.Answers.KeptSizes.{items-most, options-most, entries-most}
use Rattle.theorems.proofs.Answers.CompactFlat.{items-renamed, length-renamed, compact-count}

-- numbers of which none stands twice, under names that tell them apart
distinct-map : (g : ℕ → ℕ) (l : List ℕ) → ((x y : ℕ) → In x l → In y l → g x ≡ g y → x ≡ y) → T (distinct l) → T (distinct (map g l))
distinct-map g [] one t = tt
distinct-map g (a ∷ l) one t =
    let w = distinct→ a l t in
    distinct← (g a) (map g l) (λ m. let v = In-map g l m in w.0 (Memᴰ.cast (one a v.0 (here refl) (next v.1) v.2) v.1))
    (distinct-map g l (λ x y i j. one x y (next i) (next j)) w.1)

module _ (f : Figures) (a : Problem) (A : Accepted f a) (s : State) (S : Sound a s) (P : Part a.options s) where
  image : Image a.np (primaries_of a.np (kept_items a.n s)) (kept_items a.n s) s (compact_options a.n s)
  image = compact-image a.np a.n s S.below

  -- an entry of the state, under its item's place
  entry-accepted : (v : List Entry) → In v s → (d : Entry) → In d v
      → AcceptedEntry (primaries_of a.np (kept_items a.n s)) (length (kept_items a.n s)) f.colour (ren (kept_items a.n s) d)
  entry-accepted v m d k =
      let u = P.from v m in
      let B = A.entry u.0 u.1 d (u.2 d k) in
      let i = image.inside v m d k in
      record {
        below = (place_found (kept_items a.n s) i).0;
        colour-below = B.colour-below;
        primary-plain = λ lt. B.primary-plain (image.primary← d.item i lt);
      }

  once-renamed : (v : List Entry) → In v s → T (distinct (items_of (renamed (kept_items a.n s) v)))
  once-renamed v m = rw (items-renamed (kept_items a.n s) v) (distinct-map (place (kept_items a.n s)) (items_of v) one (S.once v m))
    where
      inside : (q : ℕ) → In q (items_of v) → In q (kept_items a.n s)
      inside q k = let w = In-map (λ (e : Entry). e.item) v k in Memᴰ.cast w.2 (image.inside v m w.0 w.1)

      one : (x y : ℕ) → In x (items_of v) → In y (items_of v) → place (kept_items a.n s) x ≡ place (kept_items a.n s) y → x ≡ y
      one x y i j e = place-inj (kept_items a.n s) (inside x i) (inside y j) e

  -- some option is left, and no more options and entries than the problem has
  some-live : 0 < length (compact_options a.n s)
  some-live =
      let q = S.some-kept in
      let o = live→ q.0 s q.2 in
      let e = holds→ q.0 o.0 o.2 in
      let lt = (In-get_or (compact_options a.n s) [] (image.there o.0 o.1 e.0 e.1)).1 in
      omega arith

  fewer-options : length (compact_options a.n s) ≤ f.options
  fewer-options =
      let count = compact-count a.n s in
      let most = options-most a.n s in
      let same = S.numbers in
      let given = A.options in
      omega arith

  fewer-entries : length (each (λ o. o) (compact_options a.n s)) ≤ f.entries
  fewer-entries =
      let made = ap (λ (l : List Entry). length l) (each_map (λ (x : Numbered). renamed (kept_items a.n s) x.entries) (λ o. o) (kept_options a.n s)) in
      let same = each-lengths (λ (x : Numbered). renamed (kept_items a.n s) x.entries) (λ (x : Numbered). x.entries) (kept_options a.n s)
      (λ x. length-renamed (kept_items a.n s) x.entries) in
      let most = entries-most a.n s in
      let part = P.size in
      let given = A.entries in
      omega arith

  pub compact-accepted : Accepted f (compact_of a.np a.n s)
  unfolding compact_of
  compact-accepted =
      record {
        some-primary = let q = S.some-kept in count-pos (λ c. ltb c a.np) (kept_items a.n s) (live-kept a.n s S.below q.2) (lt→ltb q.0 a.np q.1);
        primaries = count-length (λ c. ltb c a.np) (kept_items a.n s);
        items = let most = items-most a.n s in let given = A.items in omega arith;
        some-option = some-live;
        options = fewer-options;
        entries = fewer-entries;
        entry = λ o m. let w = image.back o m in rw w.2 (λ e k. accepted w.0 w.1 e k);
        once = λ o m. let w = image.back o m in rw w.2 (once-renamed w.0 w.1);
      }
    where
      accepted : (v : List Entry) → In v s → (e : Entry) → In e (renamed (kept_items a.n s) v)
          → AcceptedEntry (primaries_of a.np (kept_items a.n s)) (length (kept_items a.n s)) f.colour e
      accepted v m e k = let w = In-map (ren (kept_items a.n s)) v k in rw w.2 (entry-accepted v m w.0 w.1)
