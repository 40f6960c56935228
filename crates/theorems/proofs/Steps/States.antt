-- What the tests on options and states mean: holding, being live, going round an option, the first item emptied. Assumes nothing.
use Prim.Native.Nat.{ℕ, ◌<◌}
use native.Mathlib.Nat.{lt_of_not-le}
use mathlib.Core.Path.{◌≡◌, refl, sym, ap, subst, ◌∙◌}
use mathlib.Core.Logic.{◌⊎◌, inl, inr, ◌≢◌}
use mathlib.Core.Bool.{Bool, true, false, not, ◌&&◌, cond}
use mathlib.Core.List.Memᴰ
use mathlib.Core.List.Memᴰ.{append_cases as In-append}
use mathlib.Core.List.Memᴰ.{append_left as In-append-l}
use mathlib.Core.List.Memᴰ.{append_right as In-append-r}
use mathlib.Core.List.Memᴰ.{head as here}
use mathlib.Core.List.Memᴰ.{not-nil}
use mathlib.Core.List.Memᴰ.{tail as next}
use mathlib.Core.List.{List, [], ◌∷◌, ◌++◌, Memᴰ as In}
use mathlib.Core.Option.{none, some, none-ne-some, some-ne-none}
use lib.Dec.{T, ltb, eqb, eqb→eq, ltb→lt, lt→ltb, T_not}
use lib.ListN.{length, get_or-eq_default}
use Rattle.rules.specs.Lists.{mem}
use Rattle.rules.specs.Problem.{Entry}
use Rattle.rules.specs.State.{State, option_at, is, is_uncoloured, holds, holds_uncoloured, holds_primary, begins, in_live, entries_after, entries_before, around, first_emptied}
use Rattle.theorems.proofs.Words.Tests.{T-dec, T_true, T_false, T_and, and_T, T-stable, eq→eqb, neqb→ne, ne→neqb}
use Rattle.theorems.proofs.Words.Lists.{any→, any←, map-In, In-map, get_or-In, In-get_or, mem→}

-- An option holds an item

pub holds→ : (c : ℕ) (o : List Entry) → T (holds c o) → (e : Entry) × In e o × (e.item ≡ c)
holds→ c o t = let r = any→ (is c) o t in (r.0, r.1, eqb→eq _ _ r.2)

pub holds← : (c : ℕ) (o : List Entry) {e : Entry} → In e o → e.item ≡ c → T (holds c o)
holds← c o {e} m h = any← (is c) o m (eq→eqb e.item c h)

-- the entry's own item
pub holds-own : (o : List Entry) {e : Entry} → In e o → T (holds e.item o)
holds-own o {e} m = holds← e.item o m refl

pub uncoloured→ : (c : ℕ) (o : List Entry) → T (holds_uncoloured c o) → (e : Entry) × In e o × (e.item ≡ c) × (e.colour ≡ 0)
uncoloured→ c o t =
    let r = any→ (is_uncoloured c) o t in
    let b = T_and (is c r.0) (eqb r.0.colour 0) r.2 in
    (r.0, r.1, eqb→eq _ _ b.0, eqb→eq _ _ b.1)

pub uncoloured← : (c : ℕ) (o : List Entry) {e : Entry} → In e o → e.item ≡ c → e.colour ≡ 0 → T (holds_uncoloured c o)
uncoloured← c o {e} m h k = any← (is_uncoloured c) o m (and_T (is c e) (eqb e.colour 0) (eq→eqb _ _ h) (eq→eqb _ _ k))

pub uncoloured-holds : (c : ℕ) (o : List Entry) → T (holds_uncoloured c o) → T (holds c o)
uncoloured-holds c o t = let r = uncoloured→ c o t in holds← c o r.1 r.2

pub primary→ : (np : ℕ) (o : List Entry) → T (holds_primary np o) → (e : Entry) × In e o × (e.item < np)
primary→ np o t = let r = any→ (λ e. ltb e.item np) o t in (r.0, r.1, ltb→lt _ _ r.2)

pub primary← : (np : ℕ) (o : List Entry) {e : Entry} → In e o → e.item < np → T (holds_primary np o)
primary← np o {e} m h = any← (λ e. ltb e.item np) o m (lt→ltb e.item np h)

-- an option that holds a primary item
pub holds-primary : (np q : ℕ) (o : List Entry) → q < np → T (holds q o) → T (holds_primary np o)
holds-primary np q o h t = let r = holds→ q o t in primary← np o r.1 (rw r.2 h)

-- the first live entry
pub begins→ : (f : Entry → Bool) (o : List Entry) → T (begins f o) → (e : Entry) × (r : List Entry) × (o ≡ e ∷ r) × T (f e)
begins→ f [] t = absurd t
begins→ f (e ∷ r) t = (e, r, refl, t)

pub begins-holds : (c : ℕ) (o : List Entry) → T (begins (is_uncoloured c) o) → T (holds_uncoloured c o)
begins-holds c [] t = absurd t
begins-holds c (e ∷ o) t = any← (is_uncoloured c) (e ∷ o) (here refl) t

-- An item is in some live option

pub live→ : (c : ℕ) (s : State) → T (in_live c s) → (o : List Entry) × In o s × T (holds c o)
live→ c s t = any→ (holds c) s t

pub live← : (c : ℕ) (s : State) {o : List Entry} → In o s → T (holds c o) → T (in_live c s)
live← c s m t = any← (holds c) s m t

-- by the option's number
pub live_at : (c : ℕ) (s : State) → T (in_live c s) → (k : ℕ) × (k < length s) × T (holds c (option_at s k))
live_at c s t =
    let r = live→ c s t in
    let g = In-get_or s [] r.1 in
    (g.0, g.1, subst (λ (o : List Entry). T (holds c o)) (sym g.2) r.2)

-- an option that holds something has a number below the count
pub holds-below : (c : ℕ) (s : State) (k : ℕ) → T (holds c (option_at s k)) → k < length s
holds-below c s k t = lt_of_not-le (λ le. absurd (subst (λ (o : List Entry). T (holds c o)) (get_or-eq_default s [] le) t))

-- and is one of the list
pub holds-In : (c : ℕ) (s : State) (k : ℕ) → T (holds c (option_at s k)) → In (option_at s k) s
holds-In c s k t = get_or-In s k [] (holds-below c s k t)

pub entry-In : (s : State) (k : ℕ) {e : Entry} → In e (option_at s k) → In (option_at s k) s
entry-In s k {e} m = holds-In e.item s k (holds-own (option_at s k) m)

pub at-live : (c : ℕ) (s : State) (k : ℕ) → T (holds c (option_at s k)) → T (in_live c s)
at-live c s k t = live← c s (holds-In c s k t) t

-- every item of the state is below n
abbrev pub ItemsBelow : ℕ → State → Type 0
ItemsBelow n s = (o : List Entry) → In o s → (e : Entry) → In e o → e.item < n

pub entry-below : (n : ℕ) (s : State) → ItemsBelow n s → (k : ℕ) {e : Entry} → In e (option_at s k) → e.item < n
entry-below n s below k {e} m = below (option_at s k) (entry-In s k m) e m

pub live_below : (n : ℕ) (s : State) → ItemsBelow n s → (c : ℕ) → T (in_live c s) → c < n
live_below n s below c t =
    let w = live→ c s t in
    let v = holds→ c w.0 w.2 in
    subst (λ (i : ℕ). i < n) v.2 (below w.0 w.1 v.0 v.1)

-- Going round an option

pub after→ : (c : ℕ) (o : List Entry) {e : Entry} → In e (entries_after c o) → In e o
after→ c [] m = m
after→ c (d ∷ o) {e} m = go (is c d) m (λ u. after→ c o u)
  where
    go : (b : Bool) → In e (cond b o (entries_after c o)) → (In e (entries_after c o) → In e o) → In e (d ∷ o)
    go true m r = next m
    go false m r = next (r m)

pub before→ : (c : ℕ) (o : List Entry) {e : Entry} → In e (entries_before c o) → In e o × (e.item ≢ c)
before→ c [] m = absurd (not-nil m)
before→ c (d ∷ o) {e} m = go (T-dec (is c d)) (λ u. before→ c o u)
  where
    there : In e (d ∷ entries_before c o) → T (not (is c d)) → (In e (entries_before c o) → In e o × (e.item ≢ c)) → In e (d ∷ o) × (e.item ≢ c)
    there (here h) u r = (here h, λ q. neqb→ne d.item c u (ap (λ (z : Entry). z.item) (sym h) ∙ q))
    there (next n) u r = (next (r n).0, (r n).1)

    go : T (is c d) ⊎ T (not (is c d)) → (In e (entries_before c o) → In e o × (e.item ≢ c)) → In e (d ∷ o) × (e.item ≢ c)
    go (inl u) r = absurd (not-nil (subst (λ (b : Bool). In e (cond b [] (d ∷ entries_before c o))) (T_true (is c d) u) m))
    go (inr u) r = there (subst (λ (b : Bool). In e (cond b [] (d ∷ entries_before c o))) (T_false (is c d) u) m) u r

pub after-or-before : (c : ℕ) (o : List Entry) {e : Entry} → In e o → e.item ≢ c → In e (entries_after c o ++ entries_before c o)
after-or-before c [] {e = e} x'' ne = elim x'' [ ]
after-or-before c (d ∷ o) {e} (here h) ne =
    let u : is c d ≡ false = T_false (is c d) (ne→neqb d.item c (λ q. ne (ap (λ (z : Entry). z.item) h ∙ q))) in
    subst (λ (b : Bool). In e (cond b o (entries_after c o) ++ cond b [] (d ∷ entries_before c o))) (sym u) (In-append-r (entries_after c o) (here h))
after-or-before c (d ∷ o) {e} (next m) ne = go (is c d) (after-or-before c o m ne)
  where
    wider : In e (entries_after c o) ⊎ In e (entries_before c o) → In e (entries_after c o ++ (d ∷ entries_before c o))
    wider (inl h) = In-append-l (d ∷ entries_before c o) h
    wider (inr h) = In-append-r (entries_after c o) (next h)

    go : (b : Bool) → In e (entries_after c o ++ entries_before c o) → In e (cond b o (entries_after c o) ++ cond b [] (d ∷ entries_before c o))
    go true r = In-append-l [] m
    go false r = wider (In-append (entries_after c o) r)

pub around→ : (c : ℕ) (o : List Entry) {q : ℕ} → In q (around c o) → T (holds q o)
unfolding around
around→ c o {q} m = let r = In-map (λ (e : Entry). e.item) (entries_after c o ++ entries_before c o) m in go r.0 r.2 (In-append (entries_after c o) r.1)
  where
    go : (e : Entry) → q ≡ e.item → In e (entries_after c o) ⊎ In e (entries_before c o) → T (holds q o)
    go e h (inl n) = holds← q o (after→ c o n) (sym h)
    go e h (inr n) = holds← q o (before→ c o n).0 (sym h)

pub around← : (c : ℕ) (o : List Entry) {q : ℕ} → T (holds q o) → q ≢ c → In q (around c o)
unfolding around
around← c o {q} t ne =
    let r = holds→ q o t in
    Memᴰ.cast (sym r.2) (map-In (λ (e : Entry). e.item) (entries_after c o ++ entries_before c o) (after-or-before c o r.1 (λ h. ne (sym r.2 ∙ h))))

-- The first item emptied

-- q is emptied when it leaves and qs have yet to leave
abbrev pub emptied_now : (ℕ → Bool) → State → List ℕ → ℕ → Bool
emptied_now which s qs q = which q && not (mem q qs) && not (in_live q s)

pub now→ : (which : ℕ → Bool) (s : State) (qs : List ℕ) (q : ℕ) → T (emptied_now which s qs q) → T (which q) × T (not (mem q qs)) × T (not (in_live q s))
now→ which s qs q t =
    let p = T_and (which q && not (mem q qs)) (not (in_live q s)) t in
    let w = T_and (which q) (not (mem q qs)) p.0 in
    (w.0, w.1, p.1)

pub now← : (which : ℕ → Bool) (s : State) (qs : List ℕ) (q : ℕ) → T (which q) → T (not (mem q qs)) → T (not (in_live q s)) → T (emptied_now which s qs q)
now← which s qs q t u v = and_T (which q && not (mem q qs)) (not (in_live q s)) (and_T (which q) (not (mem q qs)) t u) v

pub emptied→ : (which : ℕ → Bool) (s : State) (qs : List ℕ) {q : ℕ} → first_emptied which s qs ≡ some q → In q qs × T (which q) × T (not (in_live q s))
emptied→ which s [] {q} e = absurd (none-ne-some q e)
emptied→ which s (x ∷ qs) {q} e = go (emptied_now which s qs x) refl e (λ u. emptied→ which s qs u)
  where
    own : T (emptied_now which s qs x) → x ≡ q → In q (x ∷ qs) × T (which q) × T (not (in_live q s))
    own t h =
        let w = now→ which s qs x t in
        (here (sym h), subst (λ (y : ℕ). T (which y)) h w.0, subst (λ (y : ℕ). T (not (in_live y s))) h w.2)

    go : (b : Bool) → emptied_now which s qs x ≡ b → cond b (some x) (first_emptied which s qs) ≡ some q
        → (first_emptied which s qs ≡ some q → In q qs × T (which q) × T (not (in_live q s))) → In q (x ∷ qs) × T (which q) × T (not (in_live q s))
    go true t e r = own (rw t tt) (cc)
    go false t e r = let w = r e in (next w.0, w.1, w.2)

pub none-emptied : (which : ℕ → Bool) (s : State) (qs : List ℕ) → first_emptied which s qs ≡ none → {q : ℕ} → In q qs → T (which q) → T (in_live q s)
none-emptied which s [] e {q = q} m w = elim m [ ]
none-emptied which s (x ∷ qs) e {q} m w = go (emptied_now which s qs x) refl e (λ u n. none-emptied which s qs u n w)
  where
    alive : T (not (emptied_now which s qs q)) → T (not (mem q qs)) → T (in_live q s)
    alive t u = T-stable (in_live q s) (λ v. T_not (emptied_now which s qs q) t (now← which s qs q w u v))

    last : T (not (emptied_now which s qs x)) → (In q qs → T (in_live q s)) → In q (x ∷ qs) → T (mem q qs) ⊎ T (not (mem q qs)) → T (in_live q s)
    last t r (next n) d = r n
    last t r (here h) (inl d) = r (mem→ q qs d)
    last t r (here h) (inr d) = alive (subst (λ (y : ℕ). T (not (emptied_now which s qs y))) (sym h) t) d

    go : (b : Bool) → emptied_now which s qs x ≡ b → cond b (some x) (first_emptied which s qs) ≡ none
        → (first_emptied which s qs ≡ none → In q qs → T (in_live q s)) → T (in_live q s)
    go true t e r = absurd (some-ne-none x e)
    go false t e r = last (rw t tt) (r e) m (T-dec (mem q qs))
