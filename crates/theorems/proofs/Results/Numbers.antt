-- The option numbers of a result: none stands twice, each is below the count of options, and every option with an entry has one there.
-- Assumes nothing.
use Prim.Native.Nat.{ℕ, suc, ◌<◌}
use native.Mathlib.Omega.{arith}
use mathlib.Core.Path.{◌≡◌, refl, sym, ap, ◌∙◌}
use mathlib.Core.List.Memᴰ
use mathlib.Core.List.{List, [], ◌∷◌, Memᴰ as In}
use lib.Dec.{T}
use lib.ListN.{length, get_or, length-map, get_or-map}
use Rattle.rules.specs.Lists.{from, up_to}
use Rattle.rules.specs.Problem.{Entry}
use Rattle.rules.specs.State.{State, option_at, is, begins}
use Rattle.rules.specs.Result.{Numbered, numbered, numbers_of, kept_options}
use Rattle.rules.specs.Promises.{distinct}
use Rattle.theorems.proofs.Words.Lists.{map-In, get_or-In, In-get_or}
use Rattle.theorems.proofs.Words.Distinct.{distinct-keep, distinct-each}
use Rattle.theorems.proofs.Words.Rising.{up_to-distinct}
use Rattle.theorems.proofs.Steps.States.{ItemsBelow}
use Rattle.theorems.proofs.Steps.LiveOptions.{first_item}
use Rattle.theorems.proofs.Results.Kept.{bucket, bucket→, In-numbered, In-kept, kept-In}

-- numbered from i, the numbers are i, i + 1, ..
pub numbers-row : (i : ℕ) (s : State) → numbers_of (numbered i s) ≡ from i (length s)
numbers-row i [] = refl
numbers-row i (o ∷ s) = ap (λ (l : List ℕ). i ∷ l) (numbers-row (suc i) s)

-- a number stands in one bucket only, since an option begins with one item only
one-bucket : (s : State) (c d : ℕ) (x y : Numbered) → In x (bucket s c) → In y (bucket s d) → x.number ≡ y.number → c ≡ d
one-bucket s c d x y i j e =
    let v = bucket→ s c i in
    let w = bucket→ s d j in
    let a = In-numbered 0 s v.0 in
    let b = In-numbered 0 s w.0 in
    let p = a.2 in
    let q = b.2 in
    let k : a.0 ≡ b.0 = omega arith in
    let same : x.entries ≡ y.entries = a.3 ∙ ap (λ (k : ℕ). option_at s k) k ∙ sym b.3 in
    sym v.1 ∙ ap first_item same ∙ w.1

module _ (n : ℕ) (s : State) where
  -- none stands twice
  pub kept-distinct : T (distinct (numbers_of (kept_options n s)))
  unfolding kept_options
  kept-distinct = distinct-each (λ (x : Numbered). x.number) (bucket s) (up_to n) (up_to-distinct n) (λ c. own c) (λ c d x y i j e. one-bucket s c d x y i j e)
    where
      own : (c : ℕ) → T (distinct (numbers_of (bucket s c)))
      own c = distinct-keep (λ (x : Numbered). x.number) (λ x. begins (is c) x.entries) (numbered 0 s) (rw (numbers-row 0 s) (up_to-distinct (length s)))

  -- the option at a place of the result, its number, and how many there are
  abbrev pub kept_at : ℕ → Numbered
  kept_at j = get_or (kept_options n s) j (record { number = 0; entries = [] })

  abbrev pub number_at : ℕ → ℕ
  number_at j = get_or (numbers_of (kept_options n s)) j 0

  abbrev pub kept_count : ℕ
  kept_count = length (numbers_of (kept_options n s))

  pub number-at : (j : ℕ) → number_at j ≡ (kept_at j).number
  number-at j = get_or-map (λ (x : Numbered). x.number) (kept_options n s) j (record { number = 0; entries = [] })

  pub kept-at : (j : ℕ) → j < kept_count → In (kept_at j) (kept_options n s)
  kept-at j lt = get_or-In (kept_options n s) j (record { number = 0; entries = [] }) (rw (length-map (kept_options n s) (λ (x : Numbered). x.number)) at lt)

  -- its number is below the count of options, and its entries are the state's under that number
  pub number-below : (j : ℕ) → j < kept_count → number_at j < length s
  number-below j lt = rw (number-at j) (In-kept n s (kept-at j lt)).0

  pub entries_at : (j : ℕ) → j < kept_count → (kept_at j).entries ≡ option_at s (number_at j)
  entries_at j lt = rw (number-at j) (In-kept n s (kept-at j lt)).1

  -- an option with an entry has a place
  pub number_of : ItemsBelow n s → (k : ℕ) {e : Entry} → In e (option_at s k) → (j : ℕ) × (j < kept_count) × (number_at j ≡ k)
  number_of below k m =
      let w = kept-In n s below k m in
      In-get_or (numbers_of (kept_options n s)) 0 (Memᴰ.cast (sym w.2) (map-In (λ (x : Numbered). x.number) (kept_options n s) w.1))
