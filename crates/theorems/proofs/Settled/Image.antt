-- A state whose options are the live ones of another state, in whatever order, with each item renamed to its place in a list: if nothing is
-- redundant or blocked in the other, nothing is in this one. Assumes nothing.
use Prim.Native.Nat.{ℕ, ◌<◌}
use mathlib.Core.Path.{◌≡◌, refl, sym, ap, subst, ◌∙◌}
use mathlib.Core.Logic.{◌⊎◌, inl, inr, ◌≢◌}
use mathlib.Core.Bool.{not}
use mathlib.Core.List.Memᴰ.{head as here}
use mathlib.Core.List.{List, [], ◌∷◌, Memᴰ as In}
use mathlib.Core.Option.{Option, none, some}
use lib.Dec.{T, eqb, eqb→eq, eqb_refl, T_not, not_T}
use Rattle.rules.specs.Lists.{any, place}
use Rattle.rules.specs.Problem.{Entry}
use Rattle.rules.specs.State.{State, is, is_uncoloured, holds, holds_uncoloured, begins, in_live}
use Rattle.rules.specs.Redundant.{redundant_for, chosen}
use Rattle.rules.specs.Blocked.{agree, clashes, rival, blocked, condemned}
use Rattle.rules.specs.Result.{renamed}
use Rattle.theorems.proofs.Words.Tests.{T_and, and_T}
use Rattle.theorems.proofs.Words.Lists.{any_none, map-In, In-map}
use Rattle.theorems.proofs.Words.Places.{place-inj}
use Rattle.theorems.proofs.Steps.States.{holds→, holds←, holds-own, uncoloured→, uncoloured←, live→, live←}
use Rattle.theorems.proofs.Steps.Redundancy.{Redundant, redundant←, chosen→}
use Rattle.theorems.proofs.Steps.Blocking.{clashes→, clashes←, rival→, rival-holds, rival-clashes, Blocks, blocked→, blocked←, condemned→}
use Rattle.theorems.proofs.Results.Compact.{ren}

pub record Image (np np' : ℕ) (kept : List ℕ) (s t : State) : Type 0 where
  -- the items of s are in the list
  pub inside : (o : List Entry) → In o s → (e : Entry) → In e o → In e.item kept
  -- the live options of s are in t, renamed, and nothing else is
  pub there : (o : List Entry) → In o s → (e : Entry) → In e o → In (renamed kept o) t
  pub back : (v : List Entry) → In v t → (o : List Entry) × In o s × (v ≡ renamed kept o)
  -- places of primary items, and no others, are below np'
  pub primary→ : (q : ℕ) → In q kept → q < np → place kept q < np'
  pub primary← : (q : ℕ) → In q kept → place kept q < np' → q < np

pub holds-renamed : (kept : List ℕ) (q : ℕ) (o : List Entry) → T (holds q o) → T (holds (place kept q) (renamed kept o))
holds-renamed kept q o t =
    let w = holds→ q o t in
    holds← (place kept q) (renamed kept o) (map-In (ren kept) o w.1) (ap (place kept) w.2)

module _ (np np' : ℕ) (kept : List ℕ) (s t : State) (I : Image np np' kept s t) where
  -- an entry of a renamed option
  entry-back : (o : List Entry) → In o s → {d : Entry} → In d (renamed kept o) → (e : Entry) × In e o × In e.item kept × (d.item ≡ place kept e.item) × (d.colour ≡ e.colour)
  entry-back o m {d} k =
      let w = In-map (ren kept) o k in
      (w.0, w.1, I.inside o m w.0 w.1, ap (λ (z : Entry). z.item) w.2, ap (λ (z : Entry). z.colour) w.2)

  uncoloured-back : (q : ℕ) → In q kept → (o : List Entry) → In o s → T (holds_uncoloured (place kept q) (renamed kept o)) → T (holds_uncoloured q o)
  uncoloured-back q i o m h =
      let w = uncoloured→ (place kept q) (renamed kept o) h in
      let v = entry-back o m w.1 in
      uncoloured← q o v.1 (place-inj kept v.2 i (sym v.3 ∙ w.2)) (sym v.4 ∙ w.3)

  pub live-renamed : (q : ℕ) → T (in_live q s) → T (in_live (place kept q) t)
  live-renamed q h =
      let w = live→ q s h in
      let e = holds→ q w.0 w.2 in
      live← (place kept q) t (I.there w.0 w.1 e.0 e.1) (holds-renamed kept q w.0 w.2)

  -- an item of t is the place of an item of s
  pub live_back : (d : ℕ) → T (in_live d t) → (q : ℕ) × In q kept × (d ≡ place kept q) × T (in_live q s)
  live_back d h =
      let w = live→ d t h in
      let v = I.back w.0 w.1 in
      let k = holds→ d (renamed kept v.0) (subst (λ (z : List Entry). T (holds d z)) v.2 w.2) in
      let e = entry-back v.0 v.1 k.1 in
      (e.0.item, e.2, sym k.2 ∙ e.3, live← e.0.item s v.1 (holds-own v.0 e.1))

  live_same : (q : ℕ) → In q kept → T (in_live (place kept q) t) → T (in_live q s)
  live_same q i h =
      let w = live_back (place kept q) h in
      subst (λ (z : ℕ). T (in_live z s)) (place-inj kept w.1 i (sym w.2)) w.3

  -- Redundant items
  redundant-back : (c p : ℕ) → In c kept → In p kept → Redundant np' t (place kept c) (place kept p) → Redundant np s c p
  redundant-back c p i j R =
      record {
        primary = I.primary← p j R.primary;
        other = λ e. R.other (ap (place kept) e);
        live = live_same p j R.live;
        only = only;
      }
    where
      only : (o : List Entry) → In o s → T (holds p o) → T (holds_uncoloured c o)
      only o m h =
          let e = holds→ p o h in
          uncoloured-back c i o m (R.only (renamed kept o) (I.there o m e.0 e.1) (holds-renamed kept p o h))

  pub none-redundant : ((c : ℕ) → In c kept → (p : ℕ) → T (not (redundant_for np s c p))) → (d : ℕ) → T (in_live d t) → chosen np' t d ≡ none
  none-redundant never d h = go (chosen np' t d) refl
    where
      clash : (p : ℕ) → Redundant np' t d p → ⊥
      clash p R =
          let c = live_back d h in
          let q = live_back p R.live in
          T_not (redundant_for np s c.0 q.0) (never c.0 c.1 q.0)
          (redundant← np s c.0 q.0 (redundant-back c.0 q.0 c.1 q.1 (subst (λ (z : ℕ). Redundant np' t z (place kept q.0)) c.2 (subst (λ (z : ℕ). Redundant np' t d z) q.2 R))))

      go : (x : Option ℕ) → chosen np' t d ≡ x → chosen np' t d ≡ none
      go none e = e
      go (some p) e = absurd (clash p (chosen→ np' t d e))

  -- Blocked options
  clashes-back : (e : Entry) → In e.item kept → (v : List Entry) → In v s → {d : Entry} → d.item ≡ place kept e.item → d.colour ≡ e.colour → T (clashes d (renamed kept v)) → T (clashes e v)
  clashes-back e i v m {d} h k u =
      let w = clashes→ d (renamed kept v) u in
      let x = entry-back v m w.1 in
      clashes← e v x.1 (place-inj kept x.2 i (sym x.3 ∙ w.2 ∙ h))
      (subst (λ (z : ℕ). T (not (agree e.colour z))) x.4 (subst (λ (z : ℕ). T (not (agree z w.0.colour))) k w.3))

  rival-back : (c : ℕ) → In c kept → (o v : List Entry) → In o s → In v s → T (rival (place kept c) (renamed kept o) (renamed kept v)) → T (rival c o v)
  rival-back c i o v m k u = go (rival→ (place kept c) (renamed kept o) (renamed kept v) u)
    where
      go : T (holds_uncoloured (place kept c) (renamed kept v)) ⊎ ((d : Entry) × In d (renamed kept o) × (d.item ≢ place kept c) × T (clashes d (renamed kept v))) → T (rival c o v)
      go (inl h) = rival-holds c o v (uncoloured-back c i v k h)
      go (inr w) =
          let x = entry-back o m w.1 in
          rival-clashes c o v x.1 (λ e. w.2 (x.3 ∙ ap (place kept) e)) (clashes-back x.0 x.2 v k x.3 x.4 w.3)

  blocks-back : (c q : ℕ) → In c kept → In q kept → (o : List Entry) → In o s → Blocks t (place kept c) (renamed kept o) (place kept q) → Blocks s c o q
  blocks-back c q i j o m B =
      record {
        absent = not_T (holds q o) (λ h. T_not (holds (place kept q) (renamed kept o)) B.absent (holds-renamed kept q o h));
        live = live_same q j B.live;
        only = only;
      }
    where
      only : (v : List Entry) → In v s → T (holds q v) → T (rival c o v)
      only v k h =
          let e = holds→ q v h in
          rival-back c i o v m k (B.only (renamed kept v) (I.there v k e.0 e.1) (holds-renamed kept q v h))

  pub none-blocked : ((c : ℕ) (o : List Entry) → In o s → T (begins (is_uncoloured c) o) → T (not (blocked np s c o))) → (d : ℕ) → T (not (any (condemned np' t d) t))
  none-blocked never d = any_none (condemned np' t d) t (λ v m. not_T (condemned np' t d v) (λ u. clash v m u))
    where
      back : (c : ℕ) → In c kept → d ≡ place kept c → (o : List Entry) → In o s → T (blocked np' t d (renamed kept o)) → T (blocked np s c o)
      back c i e o m u =
          let w = blocked→ np' t d (renamed kept o) u in
          let q = live_back w.0 w.2.live in
          blocked← np s c o (I.primary← q.0 q.1 (subst (λ (z : ℕ). z < np') q.2 w.1))
          (blocks-back c q.0 i q.1 o m (subst (λ (z : ℕ). Blocks t z (renamed kept o) (place kept q.0)) e (subst (λ (z : ℕ). Blocks t d (renamed kept o) z) q.2 w.2)))

      begun : (o : List Entry) → In o s → T (begins (is_uncoloured d) (renamed kept o)) → T (blocked np' t d (renamed kept o)) → ⊥
      begun [] m b u = absurd b
      begun (e ∷ o) m b u =
          let x = T_and (eqb (place kept e.item) d) (eqb e.colour 0) b in
          T_not (blocked np s e.item (e ∷ o)) (never e.item (e ∷ o) m (and_T (is e.item e) (eqb e.colour 0) (eqb_refl e.item) x.1))
          (back e.item (I.inside (e ∷ o) m e (here refl)) (sym (eqb→eq _ _ x.0)) (e ∷ o) m u)

      clash : (v : List Entry) → In v t → T (condemned np' t d v) → ⊥
      clash v m u =
          let w = I.back v m in
          let y = condemned→ np' t d v u in
          begun w.0 w.1 (subst (λ (z : List Entry). T (begins (is_uncoloured d) z)) w.2 y.0) (subst (λ (z : List Entry). T (blocked np' t d z)) w.2 y.1)
