-- The compact problem's options are the live options of the state, renamed, and ordered by their first items. Assumes nothing.
use Prim.Native.Nat.{ℕ, ◌≤◌, ◌<◌}
use mathlib.Core.Path.{◌≡◌, refl, sym, ap, subst}
use mathlib.Core.List.Memᴰ
use mathlib.Core.List.{List, [], ◌∷◌, Memᴰ as In}
use lib.Dec.{T}
use lib.ListN.{length, get_or}
use Rattle.rules.specs.Lists.{place}
use Rattle.rules.specs.Problem.{Entry}
use Rattle.rules.specs.State.{State, in_live}
use Rattle.rules.specs.Result.{kept_items, primaries_of, Numbered, kept_options, renamed}
use Rattle.theorems.proofs.Words.Lists.{map-In, get_or-In}
use Rattle.theorems.proofs.Words.Order.{ordered-map, ByKey}
use Rattle.theorems.proofs.Words.Places.{place_found, place-get_or, place_mono, place-below, below-place}
use Rattle.theorems.proofs.Steps.States.{ItemsBelow}
use Rattle.theorems.proofs.Steps.LiveOptions.{nonempty, nonempty←, first_item, first-in}
use Rattle.theorems.proofs.Results.Kept.{kept→, kept-once, entry_kept, kept-rises, option→, option←, options-ordered}
use Rattle.theorems.proofs.Results.Compact.{compact_options, compact→}
use Rattle.theorems.proofs.Settled.Image.{Image, live-renamed}

first-renamed : (kept : List ℕ) (o : List Entry) → T (nonempty o) → first_item (renamed kept o) ≡ place kept (first_item o)
first-renamed kept [] t = absurd t
first-renamed kept (e ∷ o) t = refl

renamed-nonempty : (kept : List ℕ) (o : List Entry) → T (nonempty o) → T (nonempty (renamed kept o))
renamed-nonempty kept [] t = absurd t
renamed-nonempty kept (e ∷ o) t = tt

-- Where every item is one of the n.
module _ (np n : ℕ) (s : State) (below : ItemsBelow n s) where
  first-kept : (o : List Entry) → In o s → T (nonempty o) → In (first_item o) (kept_items n s)
  first-kept o m t = let w = first-in o t in Memᴰ.cast (sym w.2) (entry_kept n s below o m w.0 w.1)

  pub compact-image : Image np (primaries_of np (kept_items n s)) (kept_items n s) s (compact_options n s)
  compact-image =
      record {
        inside = entry_kept n s below;
        there = there;
        back = back;
        primary→ = λ q m h. place-below (kept_items n s) (kept-rises n s) np m h;
        primary← = λ q m h. below-place (kept_items n s) (kept-rises n s) np m h;
      }
    where
      there : (o : List Entry) → In o s → (e : Entry) → In e o → In (renamed (kept_items n s) o) (compact_options n s)
      there o m e k =
          let t = nonempty← o k in
          let w = option← n s m (kept→ n s (first-kept o m t)).0 t in
          Memᴰ.cast (ap (λ (v : List Entry). renamed (kept_items n s) v) (sym w.2)) (map-In (λ x. renamed (kept_items n s) x.entries) (kept_options n s) w.1)

      back : (v : List Entry) → In v (compact_options n s) → (o : List Entry) × In o s × (v ≡ renamed (kept_items n s) o)
      back v m = let w = compact→ n s v m in (w.0, w.1, w.2)

  -- every place is live
  pub compact-live : (d : ℕ) → d < length (kept_items n s) → T (in_live d (compact_options n s))
  compact-live d h =
      let c = get_or (kept_items n s) d 0 in
      subst (λ (z : ℕ). T (in_live z (compact_options n s))) (place-get_or (kept_items n s) (kept-once n s) d h)
      (live-renamed np (primaries_of np (kept_items n s)) (kept_items n s) s (compact_options n s) compact-image c (kept→ n s (get_or-In (kept_items n s) d 0 h)).1)

  -- every option begins with a place
  pub compact-first : (v : List Entry) → In v (compact_options n s) → (first_item v < length (kept_items n s)) × T (nonempty v)
  compact-first v m =
      let w = compact→ n s v m in
      rw w.2 (
        rw (first-renamed (kept_items n s) w.0 w.3) (place_found (kept_items n s) (first-kept w.0 w.1 w.3)).0,
        renamed-nonempty (kept_items n s) w.0 w.3,
      )

  pub compact-ordered : ByKey first_item (compact_options n s)
  compact-ordered =
      ordered-map (λ x y. first_item x.entries ≤ first_item y.entries) (λ v w. first_item v ≤ first_item w) (λ (x : Numbered). renamed (kept_items n s) x.entries)
      (kept_options n s) rise (options-ordered n s)
    where
      rise : (x y : Numbered) → In x (kept_options n s) → In y (kept_options n s) → first_item x.entries ≤ first_item y.entries
          → first_item (renamed (kept_items n s) x.entries) ≤ first_item (renamed (kept_items n s) y.entries)
      rise x y m k h =
          let a = option→ n s m in
          let b = option→ n s k in
          rw (first-renamed (kept_items n s) x.entries a.2, first-renamed (kept_items n s) y.entries b.2)
          (place_mono (kept_items n s) (kept-rises n s) (first-kept x.entries a.0 a.2) (first-kept y.entries b.0 b.2) h)
