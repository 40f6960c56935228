-- What the kept items and the kept options of a state are, under which numbers the options stand, and that they are in order. Assumes nothing.
use Prim.Native.Nat.{ℕ, zero, suc, ◌+◌, ◌<◌}
use native.Mathlib.Omega.{arith}
use mathlib.Core.Path.{◌≡◌, refl, sym, ap, subst, ◌∙◌}
use mathlib.Core.List.Memᴰ.{head as here}
use mathlib.Core.List.Memᴰ.{not-nil}
use mathlib.Core.List.Memᴰ.{tail as next}
use mathlib.Core.List.{List, [], ◌∷◌, Memᴰ as In}
use lib.Dec.{T}
use lib.ListN.{length}
use Rattle.rules.specs.Lists.{keep, up_to}
use Rattle.rules.specs.Problem.{Entry}
use Rattle.rules.specs.State.{State, option_at, is, begins, in_live}
use Rattle.rules.specs.Result.{Numbered, numbered, kept_items, kept_options}
use Rattle.rules.specs.Promises.{distinct}
use Rattle.theorems.proofs.Words.Lists.{keep→, keep←, each-In, In-each, In-up_to, up_to-In, get_or-In, In-get_or}
use Rattle.theorems.proofs.Words.Order.{Ordered, ByKey, gathered}
use Rattle.theorems.proofs.Words.Rising.{some-rise, rising-distinct}
use Rattle.theorems.proofs.Steps.States.{ItemsBelow, holds-own, holds-below, live←, live_below, entry-below}
use Rattle.theorems.proofs.Steps.LiveOptions.{nonempty, nonempty←, begins-nonempty, first_item, first-in, begins-first, first-begins}

-- Kept items: those of the n that are in a live option, upward

pub kept→ : (n : ℕ) (s : State) {c : ℕ} → In c (kept_items n s) → (c < n) × T (in_live c s)
unfolding kept_items
kept→ n s m = let w = keep→ (λ c. in_live c s) (up_to n) m in (In-up_to n w.0, w.1)

pub kept← : (n : ℕ) (s : State) {c : ℕ} → c < n → T (in_live c s) → In c (kept_items n s)
unfolding kept_items
kept← n s h t = keep← (λ c. in_live c s) (up_to n) (up_to-In n h) t

pub kept-rises : (n : ℕ) (s : State) → Ordered ◌<◌ (kept_items n s)
unfolding kept_items
kept-rises n s = some-rise (λ c. in_live c s) n

pub kept-once : (n : ℕ) (s : State) → T (distinct (kept_items n s))
kept-once n s = rising-distinct (kept_items n s) (kept-rises n s)

-- where every item is below n, those of live options, and so of entries, are kept
pub live-kept : (n : ℕ) (s : State) → ItemsBelow n s → {q : ℕ} → T (in_live q s) → In q (kept_items n s)
live-kept n s below {q} t = kept← n s (live_below n s below q t) t

pub entry_kept : (n : ℕ) (s : State) → ItemsBelow n s → (o : List Entry) → In o s → (e : Entry) → In e o → In e.item (kept_items n s)
entry_kept n s below o m e k = kept← n s (below o m e k) (live← e.item s m (holds-own o k))

-- Options with their numbers; i is the number of the first

pub In-numbered : (i : ℕ) (s : State) {x : Numbered} → In x (numbered i s) → (k : ℕ) × (k < length s) × (x.number ≡ i + k) × (x.entries ≡ option_at s k)
In-numbered i [] m = absurd (not-nil m)
In-numbered i (o ∷ s) (here e) =
    let n = ap (λ (x : Numbered). x.number) e in
    (0, omega arith, omega arith, ap (λ (x : Numbered). x.entries) e)
In-numbered i (o ∷ s) (next m) =
    let w = In-numbered (suc i) s m in
    let n = w.2 in
    let lt = w.1 in
    (suc w.0, omega arith, omega arith, w.3)

pub numbered-In : (i : ℕ) (s : State) (k : ℕ) → k < length s → (x : Numbered) × In x (numbered i s) × (x.number ≡ i + k) × (x.entries ≡ option_at s k)
numbered-In i [] k lt = absurd (omega arith)
numbered-In i (o ∷ s) zero lt = (record { number = i; entries = o }, here refl, omega arith, refl)
numbered-In i (o ∷ s) (suc k) lt =
    let w = numbered-In (suc i) s k (omega arith) in
    let n = w.2 in
    (w.0, next w.1, omega arith, w.3)

pub numbered→ : (i : ℕ) (s : State) {x : Numbered} → In x (numbered i s) → In x.entries s
numbered→ i s m = let w = In-numbered i s m in subst (λ (o : List Entry). In o s) (sym w.3) (get_or-In s w.0 [] w.1)

pub numbered-ordered : (key : List Entry → ℕ) (k : ℕ) (s : State) → ByKey key s → ByKey (λ (x : Numbered). key x.entries) (numbered k s)
numbered-ordered key k [] h = tt
numbered-ordered key k (o ∷ s) h = (λ x m. h.0 x.entries (numbered→ (suc k) s m), numbered-ordered key (suc k) s h.1)

-- Kept options: the live ones that begin with one of the n items, by that item

-- the options that begin with item c
abbrev pub bucket : State → ℕ → List Numbered
bucket s c = keep (λ x. begins (is c) x.entries) (numbered 0 s)

pub bucket→ : (s : State) (c : ℕ) {x : Numbered} → In x (bucket s c) → In x (numbered 0 s) × (first_item x.entries ≡ c) × T (nonempty x.entries)
bucket→ s c {x} m =
    let v = keep→ (λ x. begins (is c) x.entries) (numbered 0 s) m in
    (v.0, begins-first c x.entries v.1, begins-nonempty (is c) x.entries v.1)

pub kept-option→ : (n : ℕ) (s : State) {x : Numbered} → In x (kept_options n s) → In x (numbered 0 s) × (first_item x.entries < n) × T (nonempty x.entries)
unfolding kept_options
kept-option→ n s m =
    let w = In-each (bucket s) (up_to n) m in
    let v = bucket→ s w.0 w.2 in
    (v.0, rw v.1 (In-up_to n w.1), v.2)

pub kept-option← : (n : ℕ) (s : State) {x : Numbered} → In x (numbered 0 s) → first_item x.entries < n → T (nonempty x.entries) → In x (kept_options n s)
unfolding kept_options
kept-option← n s {x} m h t =
    each-In (bucket s) (up_to n) (up_to-In n h) (keep← (λ y. begins (is (first_item x.entries)) y.entries) (numbered 0 s) m (first-begins x.entries t))

-- whatever their numbers
pub option→ : (n : ℕ) (s : State) {x : Numbered} → In x (kept_options n s) → In x.entries s × (first_item x.entries < n) × T (nonempty x.entries)
option→ n s m = let w = kept-option→ n s m in (numbered→ 0 s w.0, w.1, w.2)

pub option← : (n : ℕ) (s : State) {o : List Entry} → In o s → first_item o < n → T (nonempty o) → (x : Numbered) × In x (kept_options n s) × (x.entries ≡ o)
option← n s {o} m h t =
    let k = In-get_or s [] m in
    let w = numbered-In 0 s k.0 k.1 in
    let e : w.0.entries ≡ o = w.3 ∙ k.2 in
    (w.0, kept-option← n s w.1 (rw e h) (rw e t), e)

-- What stands in the result stands under its original number, ..
pub In-kept : (n : ℕ) (s : State) {x : Numbered} → In x (kept_options n s) → (x.number < length s) × (x.entries ≡ option_at s x.number)
In-kept n s {x} m =
    let v = In-numbered 0 s (kept-option→ n s m).0 in
    let lt = v.1 in
    let e : x.number ≡ v.0 = omega (arith, v.2) in
    (omega arith, v.3 ∙ ap (λ (k : ℕ). option_at s k) (sym e))

-- .. and where every item is below n, an option with an entry stands there.
pub kept-In : (n : ℕ) (s : State) → ItemsBelow n s → (k : ℕ) {e : Entry} → In e (option_at s k) → (x : Numbered) × In x (kept_options n s) × (x.number ≡ k)
kept-In n s below k {e} m =
    let w = numbered-In 0 s k (holds-below e.item s k (holds-own (option_at s k) m)) in
    let t = nonempty← (option_at s k) m in
    let f = first-in (option_at s k) t in
    let lt : first_item (option_at s k) < n = subst (λ (i : ℕ). i < n) f.2 (entry-below n s below k f.1) in
    let number = w.2 in
    (w.0, kept-option← n s w.1 (rw w.3 lt) (rw w.3 t), omega arith)

pub options-ordered : (n : ℕ) (s : State) → ByKey (λ (x : Numbered). first_item x.entries) (kept_options n s)
unfolding kept_options
options-ordered n s = gathered (λ (x : Numbered). first_item x.entries) (bucket s) (λ c x m. (bucket→ s c m).1) 0 n
