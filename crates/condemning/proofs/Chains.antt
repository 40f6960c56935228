-- The chain of condemned options: one more at its front, and what it does not disturb. Assumes nothing.
use Prim.Native.Nat.{ℕ, zero, suc, ◌+◌, ◌-◌, ◌<◌, ◌≤◌}
use native.Mathlib.Omega.{arith}
use native.Mathlib.Numerals.{add-one}
use mathlib.Core.Path.{◌≡◌, refl, ◌∙◌, ap, sym, subst}
use mathlib.Core.Logic.{⊎_elim, ◌≢◌}
use mathlib.Core.Bool.{Bool, true, false, cond}
use mathlib.Core.List.Memᴰ.{head as here}
use mathlib.Core.List.Memᴰ.{not-nil}
use mathlib.Core.List.Memᴰ.{tail as next}
use mathlib.Core.List.{List, [], ◌∷◌, ◌++◌, reverse, reverse-append, append-nil, Memᴰ as In}
use lib.ListN.{set, length-set}
use lib.Seq.{get_or-set_same, get_or-set_other}
use Rattle.rules.specs.Lists.{keep, up_to}
use Rattle.links.specs.Column.{at}
use Rattle.links.specs.Plan.{Plan, lo, EntryOf, Planned}
use Rattle.links.specs.Shown.{Tinted}
use Rattle.links.proofs.Stores.{same?, less?}
use Rattle.links.proofs.Plans.{entry_row, before-no-entry}
use Rattle.theorems.proofs.Words.Lists.{keep_append}
use Rattle.showing.proofs.Gathered.{up_to-end}
use Rattle.condemning.specs.Condemning.{down_to, Chain}

-- Those found below a node

module _ (f : ℕ → Bool) where
  pub down-yes : (k : ℕ) → f k ≡ true → down_to f (k + 1) ≡ k ∷ down_to f k
  down-yes k e = ap (down_to f) (add-one k) ∙ ap (λ (t : Bool). cond t (k ∷ down_to f k) (down_to f k)) e

  pub down-no : (k : ℕ) → f k ≡ false → down_to f (k + 1) ≡ down_to f k
  down-no k e = ap (down_to f) (add-one k) ∙ ap (λ (t : Bool). cond t (k ∷ down_to f k) (down_to f k)) e

  pub down-same : (a b : ℕ) → a ≤ b → ((k : ℕ) → a ≤ k → k < b → f k ≡ false) → down_to f b ≡ down_to f a
  down-same a zero h n = let e : 0 ≡ a = omega arith in ap (down_to f) e
  down-same a (suc b) h n = ⊎_elim (λ (e : a ≡ suc b). ap (down_to f) (sym e)) (λ d. more d (down-same a b)) (same? a (suc b))
    where
      more : a ≢ suc b → (a ≤ b → ((k : ℕ) → a ≤ k → k < b → f k ≡ false) → down_to f b ≡ down_to f a) → down_to f (suc b) ≡ down_to f a
      more d r = ap (λ (t : Bool). cond t (b ∷ down_to f b) (down_to f b)) (n b (omega arith) (omega arith)) ∙ r (omega arith) (λ k i j. n k i (omega arith))

  pub In-down : (k : ℕ) {y : ℕ} → In y (down_to f k) → (y < k) × (f y ≡ true)
  In-down zero m = absurd (not-nil m)
  In-down (suc k) {y} m = go (f k) refl m (λ u. In-down k u)
    where
      wider : (y < k) × (f y ≡ true) → (y < suc k) × (f y ≡ true)
      wider w = (omega (arith, w.0), w.1)

      go : (b : Bool) → f k ≡ b → In y (cond b (k ∷ down_to f k) (down_to f k)) → (In y (down_to f k) → (y < k) × (f y ≡ true)) → (y < suc k) × (f y ≡ true)
      go true e (here q) r = (omega arith, ap f q ∙ e)
      go true e (next n) r = wider (r n)
      go false e n r = wider (r n)

  -- the same as the rising list, turned round
  pub down-reverse : (k : ℕ) → down_to f k ≡ reverse (keep f (up_to k))
  down-reverse zero = refl
  down-reverse (suc k) = go (f k) refl (down-reverse k)
    where
      last : (b : Bool) → f k ≡ b → keep f (up_to (suc k)) ≡ keep f (up_to k) ++ cond b (k ∷ []) []
      last b e = ap (keep f) (up_to-end k) ∙ keep_append f (up_to k) (k ∷ []) ∙ ap (λ (t : Bool). keep f (up_to k) ++ cond t (k ∷ []) []) e

      go : (b : Bool) → f k ≡ b → down_to f k ≡ reverse (keep f (up_to k)) → cond b (k ∷ down_to f k) (down_to f k) ≡ reverse (keep f (up_to (suc k)))
      go true e r = ap (λ (l : List ℕ). k ∷ l) r ∙ sym (ap reverse (last true e) ∙ reverse-append (keep f (up_to k)) (k ∷ []))
      go false e r = r ∙ sym (ap reverse (last false e ∙ append-nil (keep f (up_to k))))

-- The chain

-- rows of two options begin apart
pub lo-apart : (P : Plan) → Planned P → (x y : ℕ) → EntryOf P x → EntryOf P y → P.number x ≢ P.number y → lo P x ≢ lo P y
lo-apart P W x y a b n e =
    ⊎_elim (λ (l : P.number x < P.number y). omega (arith, W.apart (P.number x) (P.number y) l b.option (entry_row P W x a) (entry_row P W y b), W.order (P.number x) a.option))
    (λ (l : P.number y ≤ P.number x). omega
    (arith, W.apart (P.number y) (P.number x) (omega arith) a.option (entry_row P W y b) (entry_row P W x a), W.order (P.number y) b.option)) (less? (P.number x) (P.number y))

module _ (P : Plan) (W : Planned P) (tints : List ℕ) (r v : ℕ) (e : EntryOf P r) where
  -- a boundary's colour is no entry's
  pub tinted-set : Tinted P tints → Tinted P (set tints (lo P r - 1) v)
  tinted-set t = record {
    room = rw length-set t.room;
    tint = λ y m. get_or-set_other tints (lo P r - 1) y v 0 (λ q. before-no-entry P W (P.number r) e.option (entry_row P W r e) (subst (EntryOf P) q m)) ∙ t.tint y m;
  }

  pub chain-set : (z : ℕ) (rs : List ℕ) → ((x : ℕ) → In x rs → EntryOf P x × (P.number x ≢ P.number r)) → Chain P tints z rs → Chain P (set tints (lo P r - 1) v) z rs
  chain-set z [] h c = c
  chain-set z (x ∷ rs) h c =
      let w = h x (here refl) in
      let s : at (set tints (lo P r - 1) v) (lo P x - 1) ≡ at tints (lo P x - 1) =
      get_or-set_other tints (lo P r - 1) (lo P x - 1) v 0 (λ q. lo-apart P W x r w.0 e w.1 (omega (arith, q, W.from (P.number x) w.0.option, W.from (P.number r) e.option))) in
      (c.0, chain-set (at (set tints (lo P r - 1) v) (lo P x - 1)) rs (λ y m. h y (next m)) (subst (λ (u : ℕ). Chain P tints u rs) (sym s) c.1))

-- r at its front
pub chain-push : (P : Plan) → Planned P → (tints : List ℕ) → Tinted P tints → (z r : ℕ) (rs : List ℕ) → EntryOf P r → ((x : ℕ) → In x rs → EntryOf P x × (P.number x ≢ P.number r))
    → Chain P tints z rs → Chain P (set tints (lo P r - 1) z) r (r ∷ rs)
chain-push P W tints t z r rs e h c =
    let s : at (set tints (lo P r - 1) z) (lo P r - 1) ≡ z =
    get_or-set_same tints (lo P r - 1) z 0 (omega (arith, t.room, e.from, e.till, W.till (P.number r) e.option (entry_row P W r e))) in
    (refl, subst (λ (u : ℕ). Chain P (set tints (lo P r - 1) z) u rs) (sym s) (chain-set P W tints r z e z rs h c))
