-- The compact problem is the state but for the names of items and options. Assumes nothing.
use Prim.Native.Nat.{ℕ, ◌<◌}
use mathlib.Core.Path.{◌≡◌, refl, sym, ap, subst, ◌∙◌}
use mathlib.Core.List.{List, Memᴰ as In}
use lib.Dec.{T}
use lib.ListN.{length, get_or}
use Rattle.rules.specs.Lists.{up_to, place}
use Rattle.rules.specs.Problem.{Entry}
use Rattle.rules.specs.State.{State, option_at, in_live}
use Rattle.rules.specs.Result.{numbers_of, kept_items, kept_options, compact_of}
use Rattle.theorems.proofs.Words.Lists.{map-In, In-map, get_or-In, In-up_to, up_to-In}
use Rattle.theorems.proofs.Words.Places.{place_found, place-inj, place-get_or, get_or-inj, place-below, below-place}
use Rattle.theorems.proofs.Steps.States.{entry-In, ItemsBelow}
use Rattle.theorems.proofs.Results.Kept.{kept→, kept-rises, kept-once, live-kept, entry_kept}
use Rattle.theorems.proofs.Results.Numbers.{kept-distinct, number_at, kept_count}
use Rattle.theorems.proofs.Results.Compact.{ren, compact_options, compact-at}
use Rattle.theorems.proofs.Covers.Alike.{Alike}

module _ (n : ℕ) (s : State) where
  -- An item is its place in the kept list, an option its place in the result.
  abbrev pub ItemPlace : ℕ → ℕ → Type 0
  ItemPlace q q' = In q (kept_items n s) × (place (kept_items n s) q ≡ q')

  abbrev pub OptionPlace : ℕ → ℕ → Type 0
  OptionPlace k j = (j < kept_count n s) × (number_at n s j ≡ k)

  -- entries correspond
  renamed-there : ItemsBelow n s → (k j : ℕ) → OptionPlace k j → (e : Entry) → In e (option_at s k)
      → (e' : Entry) × In e' (option_at (compact_options n s) j) × ItemPlace e.item e'.item × (e.colour ≡ e'.colour)
  renamed-there below k j o e m =
      let at : In e (option_at s (number_at n s j)) = subst (λ (i : ℕ). In e (option_at s i)) (sym o.1) m in
      let put : In (ren (kept_items n s) e) (option_at (compact_options n s) j) =
      subst (λ (v : List Entry). In (ren (kept_items n s) e) v) (sym (compact-at n s j o.0)) (map-In (ren (kept_items n s)) (option_at s (number_at n s j)) at) in
      (ren (kept_items n s) e, put, (entry_kept n s below (option_at s k) (entry-In s k m) e m, refl), refl)

  renamed-back : ItemsBelow n s → (k j : ℕ) → OptionPlace k j → (e' : Entry) → In e' (option_at (compact_options n s) j)
      → (e : Entry) × In e (option_at s k) × ItemPlace e.item e'.item × (e.colour ≡ e'.colour)
  renamed-back below k j o e' m =
      let w = In-map (ren (kept_items n s)) (option_at s (number_at n s j)) (subst (λ (v : List Entry). In e' v) (compact-at n s j o.0) m) in
      let at : In w.0 (option_at s k) = subst (λ (i : ℕ). In w.0 (option_at s i)) o.1 w.1 in
      (w.0, at, (entry_kept n s below (option_at s k) (entry-In s k at) w.0 at, ap (λ (z : Entry). z.item) (sym w.2)), ap (λ (z : Entry). z.colour) (sym w.2))

-- The compact problem is the state but for these names.
pub compact-alike : (np n : ℕ) (s : State) → ItemsBelow n s
    → Alike (ItemPlace n s) (OptionPlace n s) np (compact_of np n s).np (λ q. T (in_live q s)) (λ q. In q (up_to (compact_of np n s).n)) (option_at s) (option_at (compact_of np n s).options)
unfolding compact_of
compact-alike np n s below = record {
  item-there = λ q q' r' i j. sym i.1 ∙ j.1;
  item_back = λ q r q' i j. place-inj (kept_items n s) i.0 j.0 (i.1 ∙ sym j.1);
  primary-there = λ q q' i lt. subst (λ (x : ℕ). x < (compact_of np n s).np) i.1 (place-below (kept_items n s) (kept-rises n s) np i.0 lt);
  primary-back = λ q q' i lt. below-place (kept_items n s) (kept-rises n s) np i.0 (subst (λ (x : ℕ). x < (compact_of np n s).np) (sym i.1) lt);
  present-there = λ q t. let m = live-kept n s below t in (place (kept_items n s) q, up_to-In (length (kept_items n s)) (place_found (kept_items n s) m).0, (m, refl));
  present-back = λ q' m. let i = get_or-In (kept_items n s) q' 0 (inside q' m) in
      (get_or (kept_items n s) q' 0, (kept→ n s i).1, (i, place-get_or (kept_items n s) (kept-once n s) q' (inside q' m)));
  option-there = λ k k' l' o p. get_or-inj (numbers_of (kept_options n s)) (kept-distinct n s) o.0 p.0 (o.1 ∙ sym p.1);
  option_back = λ k l k' o p. sym o.1 ∙ p.1;
  entry-there = λ k k' o e m. renamed-there n s below k k' o e m;
  entry-back = λ k k' o e' m. renamed-back n s below k k' o e' m;
}
  where
    inside : (q' : ℕ) → In q' (up_to (length (kept_items n s))) → q' < length (kept_items n s)
    inside q' m = In-up_to (length (kept_items n s)) m
