-- Sets of option numbers and sets of places in the list of numbers: each is made from the other, and back. Assumes nothing.
use Prim.Native.Nat.{ℕ, ◌<◌}
use mathlib.Core.Path.{◌≡◌, sym}
use mathlib.Core.List.Memᴰ
use mathlib.Core.List.{List, map, Memᴰ as In}
use lib.Dec.{T}
use lib.ListN.{length, get_or}
use Rattle.rules.specs.Lists.{up_to, mem, rising}
use Rattle.rules.specs.Promises.{distinct, originals_of, places_of}
use Rattle.theorems.proofs.Words.Lists.{keep→, keep←, map-In, In-map, In-up_to, up_to-In, mem→, mem←}
use Rattle.theorems.proofs.Words.Rising.{rising→, rising←, some-rise, rising-same}
use Rattle.theorems.proofs.Words.Places.{get_or-inj}

module _ (M : ℕ) (numbers : List ℕ) where
  -- the numbers that places stand for
  pub In-originals : (js : List ℕ) {k : ℕ} → In k (originals_of M numbers js) → (j : ℕ) × In j js × (k ≡ get_or numbers j 0)
  In-originals js {k} m =
      let w = keep→ (λ k. mem k (map (λ j. get_or numbers j 0) js)) (up_to M) m in
      In-map (λ j. get_or numbers j 0) js (mem→ k (map (λ j. get_or numbers j 0) js) w.1)

  pub originals-In : (js : List ℕ) {j : ℕ} → In j js → get_or numbers j 0 < M → In (get_or numbers j 0) (originals_of M numbers js)
  originals-In js {j} m lt =
      keep← (λ k. mem k (map (λ j. get_or numbers j 0) js)) (up_to M) (up_to-In M lt)
      (mem← (get_or numbers j 0) (map (λ j. get_or numbers j 0) js) (map-In (λ j. get_or numbers j 0) js m))

  pub originals-rising : (js : List ℕ) → T (rising (originals_of M numbers js))
  originals-rising js = rising← (originals_of M numbers js) (some-rise (λ k. mem k (map (λ j. get_or numbers j 0) js)) M)

module _ (numbers : List ℕ) (ks : List ℕ) where
  -- the places of numbers
  pub In-places : {j : ℕ} → In j (places_of numbers ks) → (j < length numbers) × In (get_or numbers j 0) ks
  In-places {j} m =
      let w = keep→ (λ j. mem (get_or numbers j 0) ks) (up_to (length numbers)) m in
      (In-up_to (length numbers) w.0, mem→ (get_or numbers j 0) ks w.1)

  pub places-In : {j : ℕ} → j < length numbers → In (get_or numbers j 0) ks → In j (places_of numbers ks)
  places-In {j} lt m = keep← (λ j. mem (get_or numbers j 0) ks) (up_to (length numbers)) (up_to-In (length numbers) lt) (mem← (get_or numbers j 0) ks m)

  pub places-rising : T (rising (places_of numbers ks))
  places-rising = rising← (places_of numbers ks) (some-rise (λ j. mem (get_or numbers j 0) ks) (length numbers))

module _ (M : ℕ) (numbers : List ℕ) (below : (j : ℕ) → j < length numbers → get_or numbers j 0 < M) where
  -- The places of the numbers that places stand for are these places.
  pub places-back : T (distinct numbers) → (js : List ℕ) → T (rising js) → ((j : ℕ) → In j js → j < length numbers)
      → places_of numbers (originals_of M numbers js) ≡ js
  places-back once js set inside =
      rising-same (places_of numbers (originals_of M numbers js)) js (some-rise (λ j. mem (get_or numbers j 0) (originals_of M numbers js)) (length numbers)) (rising→ js set)
      (λ j m. there j m) (λ j m. places-In numbers (originals_of M numbers js) (inside j m) (originals-In M numbers js m (below j (inside j m))))
    where
      there : (j : ℕ) → In j (places_of numbers (originals_of M numbers js)) → In j js
      there j m =
          let w = In-places numbers (originals_of M numbers js) m in
          let v = In-originals M numbers js w.1 in
          Memᴰ.cast (get_or-inj numbers once w.0 (inside v.0 v.1) v.2) v.1

  -- The numbers that stand at the places of numbers are these numbers.
  pub originals-back : (ks : List ℕ) → T (rising ks) → ((k : ℕ) → In k ks → (j : ℕ) × (j < length numbers) × (get_or numbers j 0 ≡ k))
      → originals_of M numbers (places_of numbers ks) ≡ ks
  originals-back ks set inside =
      rising-same (originals_of M numbers (places_of numbers ks)) ks (some-rise (λ k. mem k (map (λ j. get_or numbers j 0) (places_of numbers ks))) M) (rising→ ks set)
      (λ k m. there k m) (λ k m. back k m)
    where
      there : (k : ℕ) → In k (originals_of M numbers (places_of numbers ks)) → In k ks
      there k m = let w = In-originals M numbers (places_of numbers ks) m in Memᴰ.cast w.2 (In-places numbers ks w.1).1

      back : (k : ℕ) → In k ks → In k (originals_of M numbers (places_of numbers ks))
      back k m =
          let w = inside k m in
          Memᴰ.cast (sym w.2) (originals-In M numbers (places_of numbers ks) (places-In numbers ks w.1 (Memᴰ.cast w.2 m)) (below w.0 w.1))
