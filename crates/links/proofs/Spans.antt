-- Numbers in a row, those of them that pass a test, and what a walk round a row has passed. Assumes nothing.
use Prim.Native.Nat.{ℕ, suc, ◌+◌, ◌-◌, ◌<◌, ◌≤◌}
use native.Mathlib.Omega.{arith}
use mathlib.Core.Path.{◌≡◌, ◌∙◌, ap, sym, subst}
use mathlib.Core.Logic.{◌⊎◌, inl, inr, ⊎_elim, ◌≢◌}
use mathlib.Core.Bool.{Bool, true, false, cond}
use mathlib.Core.List.Memᴰ.{append_cases as In-append}
use mathlib.Core.List.Memᴰ.{append_left as In-append-l}
use mathlib.Core.List.Memᴰ.{append_right as In-append-r}
use mathlib.Core.List.{List, [], ◌∷◌, ◌++◌, append_assoc, append-nil, Memᴰ as In}
use borrow.Author.Tests.{lt-ltb, le-ltb}
use lib.Dec.{T}
use lib.ListN.{length, length-append}
use lib.IntN.{ℤ}
use Rattle.rules.specs.Lists.{keep, from}
use Rattle.theorems.proofs.Words.Tests.{false-T}
use Rattle.theorems.proofs.Words.Lists.{keep→, keep←, keep_append, keep-none, In-from, from-In, from-split}
use Rattle.links.specs.Row.{span, full, passed}
use Rattle.links.specs.Way.{way, way_back}
use Rattle.links.proofs.Stores.{less?}

-- a row in two parts, and those of it that pass
pub span-join : (a b c : ℕ) → a ≤ b → b ≤ c → span a c ≡ span a b ++ span b c
span-join a b c h k =
    let e : c - a ≡ (b - a) + (c - b) = omega arith in
    let f : a + (b - a) ≡ b = omega arith in
    ap (from a) e ∙ from-split (b - a) a (c - b) ∙ ap (λ (i : ℕ). span a b ++ from i (c - b)) f

pub keep_join : (f : ℕ → Bool) (a b c : ℕ) → a ≤ b → b ≤ c → keep f (span a c) ≡ keep f (span a b) ++ keep f (span b c)
keep_join f a b c h k = ap (keep f) (span-join a b c h k) ∙ keep_append f (span a b) (span b c)

-- one number more
pub from_end : (i k : ℕ) → from i (suc k) ≡ from i k ++ ((i + k) ∷ [])
from_end i k = let e : suc k ≡ k + 1 = omega arith in ap (from i) e ∙ from-split k i 1

pub span-end : (a b : ℕ) → a ≤ b → span a (b + 1) ≡ span a b ++ (b ∷ [])
span-end a b h = let e : b + 1 - b ≡ 1 = omega arith in span-join a b (b + 1) h (omega arith) ∙ ap (λ (n : ℕ). span a b ++ from b n) e

pub span_none : (a b : ℕ) → b ≤ a → span a b ≡ []
span_none a b h = let e : b - a ≡ 0 = omega arith in ap (from a) e

pub In-span : (a b : ℕ) {y : ℕ} → In y (span a b) → (a ≤ y) × (y < b)
In-span a b m = let u = In-from a (b - a) m in (u.0, omega arith)

pub span-In : (a b : ℕ) {y : ℕ} → a ≤ y → y < b → In y (span a b)
span-In a b h k = from-In a (b - a) h (omega arith)

-- a row begins with its first number; and those before y, y, and those after it
pub span-begin : (a b : ℕ) → a < b → span a b ≡ a ∷ span (a + 1) b
span-begin a b h =
    let e : b - a ≡ suc (b - (a + 1)) = omega arith in
    let f : suc a ≡ a + 1 = omega arith in
    ap (from a) e ∙ ap (λ (z : ℕ). a ∷ from z (b - (a + 1))) f

pub span-split : (a y b : ℕ) → a ≤ y → y < b → span a b ≡ span a y ++ (y ∷ span (y + 1) b)
span-split a y b h k = span-join a y b h (omega arith) ∙ ap (λ (l : List ℕ). span a y ++ l) (span-begin y b k)

-- those that pass a test: one number more, which passes or not, and a stretch in which none passes
module _ (f : ℕ → Bool) (a b : ℕ) (h : a ≤ b) where
  pub keep-end : f b ≡ true → keep f (span a (b + 1)) ≡ keep f (span a b) ++ (b ∷ [])
  keep-end e = ap (keep f) (span-end a b h) ∙ keep_append f (span a b) (b ∷ []) ∙ ap (λ (t : Bool). keep f (span a b) ++ cond t (b ∷ []) []) e

  pub keep-over : f b ≡ false → keep f (span a (b + 1)) ≡ keep f (span a b)
  keep-over e = ap (keep f) (span-end a b h) ∙ keep_append f (span a b) (b ∷ []) ∙ ap (λ (t : Bool). keep f (span a b) ++ cond t (b ∷ []) []) e ∙ append-nil (keep f (span a b))

  pub keep_same : (c : ℕ) → b ≤ c → ((y : ℕ) → b ≤ y → y < c → f y ≡ false) → keep f (span a c) ≡ keep f (span a b)
  keep_same c k n =
      keep_join f a b c h k
      ∙ ap (λ (l : List ℕ). keep f (span a b) ++ l) (keep-none f (span b c) (λ y m. let w = In-span b c m in false-T (n y w.0 w.1)))
      ∙ append-nil (keep f (span a b))

  -- where b passes, there are more up to c behind it
  pub keep-rises : (c : ℕ) → b < c → f b ≡ true → length (keep f (span a b)) < length (keep f (span a c))
  keep-rises c k e =
      let s = ap (keep f) (span-split a b c h k) ∙ keep_append f (span a b) (b ∷ span (b + 1) c)
      ∙ ap (λ (t : Bool). keep f (span a b) ++ cond t (b ∷ keep f (span (b + 1) c)) (keep f (span (b + 1) c))) e in
      let n = ap length s in
      let m = length-append (keep f (span a b)) (b ∷ keep f (span (b + 1) c)) in
      omega (arith, n, m)

module _ (heads : List ℤ) (a b r : ℕ) where
  pub passed-begin : passed heads a b r (r + 1) ≡ []
  passed-begin = rw (lt-ltb r (r + 1) (omega arith)) (ap (keep (full heads)) (span_none (r + 1) (r + 1) (omega arith)))

  pub passed-full : (q : ℕ) → a ≤ q → q ≢ r → full heads q ≡ true → passed heads a b r (q + 1) ≡ passed heads a b r q ++ (q ∷ [])
  passed-full q h n f = ⊎_elim ahead behind (less? r q)
    where
      ahead : r < q → passed heads a b r (q + 1) ≡ passed heads a b r q ++ (q ∷ [])
      ahead l = rw (lt-ltb r (q + 1) (omega arith), lt-ltb r q l) (keep-end (full heads) (r + 1) q (omega arith) f)

      behind : q ≤ r → passed heads a b r (q + 1) ≡ passed heads a b r q ++ (q ∷ [])
      behind l =
          rw (le-ltb r (q + 1) (omega arith), le-ltb r q l)
          (ap (λ (z : List ℕ). keep (full heads) (span (r + 1) b) ++ z) (keep-end (full heads) a q h f)
          ∙ sym (append_assoc (keep (full heads) (span (r + 1) b)) (keep (full heads) (span a q)) (q ∷ [])))

  pub passed_over : (q : ℕ) → a ≤ q → q ≢ r → full heads q ≡ false → passed heads a b r (q + 1) ≡ passed heads a b r q
  passed_over q h n f = ⊎_elim ahead behind (less? r q)
    where
      ahead : r < q → passed heads a b r (q + 1) ≡ passed heads a b r q
      ahead l = rw (lt-ltb r (q + 1) (omega arith), lt-ltb r q l) (keep-over (full heads) (r + 1) q (omega arith) f)

      behind : q ≤ r → passed heads a b r (q + 1) ≡ passed heads a b r q
      behind l = rw (le-ltb r (q + 1) (omega arith), le-ltb r q l) (ap (λ (z : List ℕ). keep (full heads) (span (r + 1) b) ++ z) (keep-over (full heads) a q h f))

  -- from the boundary to the first node
  pub passed-edge : a ≤ r → r < b → passed heads a b r a ≡ passed heads a b r b
  passed-edge h k = rw (le-ltb r a h, lt-ltb r b k)
      (ap (λ (z : List ℕ). keep (full heads) (span (r + 1) b) ++ keep (full heads) z) (span_none a a (omega arith)) ∙ append-nil (keep (full heads) (span (r + 1) b)))

  -- what was passed is full, in the row, not r, and not the place
  pub In-passed : a ≤ r → r < b → (q : ℕ) → a ≤ q → q ≤ b → {y : ℕ} → In y (passed heads a b r q) → (a ≤ y) × (y < b) × (y ≢ r) × (y ≢ q) × T (full heads y)
  In-passed h k q i j {y} m = ⊎_elim ahead behind (less? r q)
    where
      ahead : r < q → (a ≤ y) × (y < b) × (y ≢ r) × (y ≢ q) × T (full heads y)
      ahead l =
          let w = keep→ (full heads) (span (r + 1) q)
          (subst (λ (t : Bool). In y (cond t (keep (full heads) (span (r + 1) q)) (keep (full heads) (span (r + 1) b) ++ keep (full heads) (span a q)))) (lt-ltb r q l) m) in
          let s = In-span (r + 1) q w.0 in
          (omega arith, omega arith, (λ e. omega (arith, s.0, e)), (λ e. omega (arith, s.1, e)), w.1)

      first : q ≤ r → In y (keep (full heads) (span (r + 1) b)) ⊎ In y (keep (full heads) (span a q)) → (a ≤ y) × (y < b) × (y ≢ r) × (y ≢ q) × T (full heads y)
      first l (inl n) = let w = keep→ (full heads) (span (r + 1) b) n in let s = In-span (r + 1) b w.0 in
          (omega arith, s.1, (λ e. omega (arith, s.0, e)), (λ e. omega (arith, s.0, l, e)), w.1)
      first l (inr n) = let w = keep→ (full heads) (span a q) n in let s = In-span a q w.0 in (s.0, omega arith, (λ e. omega (arith, s.1, l, e)), (λ e. omega (arith, s.1, e)), w.1)

      behind : q ≤ r → (a ≤ y) × (y < b) × (y ≢ r) × (y ≢ q) × T (full heads y)
      behind l = first l (In-append (keep (full heads) (span (r + 1) b))
          (subst (λ (t : Bool). In y (cond t (keep (full heads) (span (r + 1) q)) (keep (full heads) (span (r + 1) b) ++ keep (full heads) (span a q)))) (le-ltb r q l) m))

  -- and all others were passed when the walk is at r again
  pub passed-all : {y : ℕ} → a ≤ y → y < b → y ≢ r → T (full heads y) → In y (passed heads a b r r)
  passed-all {y} h k n f = subst (λ (t : Bool). In y
      (cond t (keep (full heads) (span (r + 1) r)) (keep (full heads) (span (r + 1) b) ++ keep (full heads) (span a r)))) (sym (le-ltb r r (omega arith))) (⊎_elim after before (less? r y))
    where
      after : r < y → In y (keep (full heads) (span (r + 1) b) ++ keep (full heads) (span a r))
      after l = In-append-l (keep (full heads) (span a r)) (keep← (full heads) (span (r + 1) b) (span-In (r + 1) b (omega arith) k) f)

      before : y ≤ r → In y (keep (full heads) (span (r + 1) b) ++ keep (full heads) (span a r))
      before l = In-append-r (keep (full heads) (span (r + 1) b)) (keep← (full heads) (span a r) (span-In a r h (omega arith)) f)

-- The way falls at each step, and at the jump over the boundary.
pub way_next : (n r q : ℕ) → q ≢ r → q < n → way n r (q + 1) < way n r q
way_next n r q d h = ⊎_elim (λ l. rw (lt-ltb r (q + 1) (omega arith), lt-ltb r q l) (omega arith)) (λ l. rw (le-ltb r (q + 1) (omega arith), le-ltb r q l) (omega arith)) (less? r q)

pub way-jump : (n r q to : ℕ) → r < q → q < n → to ≤ r → way n r to < way n r q
way-jump n r q to l h k = rw (le-ltb r to k, lt-ltb r q l) (omega arith)

pub back-next : (n r q : ℕ) → q ≢ r → 0 < q → q < n → r < n → way_back n r (q - 1) < way_back n r q
back-next n r q d h k i = ⊎_elim (λ l. rw (lt-ltb (q - 1) r (omega arith), lt-ltb q r l) (omega arith)) (λ l. rw (le-ltb (q - 1) r (omega arith), le-ltb q r l) (omega arith)) (less? q r)

pub back-jump : (n r q to : ℕ) → q < r → r ≤ to → to < n → way_back n r to < way_back n r q
back-jump n r q to l h k = rw (le-ltb to r h, lt-ltb q r l) (omega arith)
