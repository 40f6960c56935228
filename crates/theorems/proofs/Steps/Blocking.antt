-- What being blocked means, and what deleting the blocked options leaves. Assumes nothing.
use Prim.Native.Nat.{ℕ, ◌<◌}
use mathlib.Core.Path.{◌≡◌, refl, sym, ap, ◌∙◌}
use mathlib.Core.Logic.{◌⊎◌, inl, inr, ◌≢◌}
use mathlib.Core.Bool.{Bool, not, ◌&&◌, ◌||◌}
use mathlib.Core.List.Memᴰ
use mathlib.Core.List.Memᴰ.{append_cases as In-append}
use mathlib.Core.List.Memᴰ.{append_left as In-append-l}
use mathlib.Core.List.Memᴰ.{append_right as In-append-r}
use mathlib.Core.List.Memᴰ.{head as here}
use mathlib.Core.List.Memᴰ.{not-nil}
use mathlib.Core.List.Memᴰ.{tail as next}
use mathlib.Core.List.{List, [], ◌∷◌, reverse, Memᴰ as In}
use mathlib.Core.Option.{Option, none, some}
use lib.Dec.{T, ltb, eqb, eqb→eq, ltb→lt, lt→ltb}
use Rattle.rules.specs.Lists.{any, all, up_to}
use Rattle.rules.specs.Problem.{Entry}
use Rattle.rules.specs.State.{State, option_at, is, is_uncoloured, holds, holds_uncoloured, begins, in_live, items_of, first_emptied}
use Rattle.rules.specs.Blocked.{agree, clashes, rival, blocks, blocked, condemned, state_spared, second_to_first, leaving_blocked}
use Rattle.theorems.proofs.Words.Tests.{T-dec, T_and, and_T, T-or, or_left, or_right, T-imp, imp-T, eq→eqb, neqb→ne, ne→neqb}
use Rattle.theorems.proofs.Words.Lists.{any→, any←, all→, all←, map-In, In-map, In-each-if, each-if-In, In-up_to, up_to-In, reverse-In, In-reverse}
use Rattle.theorems.proofs.Steps.States.{holds→, holds←, begins-holds, live→, live←, none-emptied, emptied→}
use Rattle.theorems.proofs.Steps.LeftOut.{leave, left-same, left-gone, left-sub, left-holds, left_at, left-live, live-left}

-- Colours agree when they are one colour above 0.
pub agree→ : (x y : ℕ) → T (agree x y) → (x ≡ y) × (0 < x)
agree→ x y t = let w = T_and (ltb 0 x) (eqb x y) t in (eqb→eq x y w.1, ltb→lt 0 x w.0)

pub agree← : (x y : ℕ) → x ≡ y → 0 < x → T (agree x y)
agree← x y e h = and_T (ltb 0 x) (eqb x y) (lt→ltb 0 x h) (eq→eqb x y e)

pub clashes→ : (e : Entry) (v : List Entry) → T (clashes e v) → (f : Entry) × In f v × (f.item ≡ e.item) × T (not (agree e.colour f.colour))
clashes→ e v t =
    let w = any→ (λ f. is e.item f && not (agree e.colour f.colour)) v t in
    let b = T_and (is e.item w.0) (not (agree e.colour w.0.colour)) w.2 in
    (w.0, w.1, eqb→eq _ _ b.0, b.1)

pub clashes← : (e : Entry) (v : List Entry) {f : Entry} → In f v → f.item ≡ e.item → T (not (agree e.colour f.colour)) → T (clashes e v)
clashes← e v {f} m h t =
    any← (λ f. is e.item f && not (agree e.colour f.colour)) v m (and_T (is e.item f) (not (agree e.colour f.colour)) (eq→eqb f.item e.item h) t)

-- some entry of o other than c's clashes with v
abbrev pub meets : ℕ → List Entry → List Entry → Bool
meets c o v = any (λ e. not (is c e) && clashes e v) o

pub meets→ : (c : ℕ) (o v : List Entry) → T (meets c o v) → (e : Entry) × In e o × (e.item ≢ c) × T (clashes e v)
meets→ c o v t =
    let w = any→ (λ e. not (is c e) && clashes e v) o t in
    let b = T_and (not (is c w.0)) (clashes w.0 v) w.2 in
    (w.0, w.1, neqb→ne w.0.item c b.0, b.1)

pub meets← : (c : ℕ) (o v : List Entry) {e : Entry} → In e o → e.item ≢ c → T (clashes e v) → T (meets c o v)
meets← c o v {e} m ne t = any← (λ e. not (is c e) && clashes e v) o m (and_T (not (is c e)) (clashes e v) (ne→neqb e.item c ne) t)

-- v is a rival of o: they hold c, v uncoloured; or some entry of o other than c's clashes with v
pub rival→ : (c : ℕ) (o v : List Entry) → T (rival c o v) → T (holds_uncoloured c v) ⊎ ((e : Entry) × In e o × (e.item ≢ c) × T (clashes e v))
unfolding rival
rival→ c o v t = go (T-or (holds_uncoloured c v) (meets c o v) t)
  where
    go : T (holds_uncoloured c v) ⊎ T (meets c o v) → T (holds_uncoloured c v) ⊎ ((e : Entry) × In e o × (e.item ≢ c) × T (clashes e v))
    go (inl u) = inl u
    go (inr u) = inr (meets→ c o v u)

pub rival-holds : (c : ℕ) (o v : List Entry) → T (holds_uncoloured c v) → T (rival c o v)
unfolding rival
rival-holds c o v t = or_left (holds_uncoloured c v) (meets c o v) t

pub rival-clashes : (c : ℕ) (o v : List Entry) {e : Entry} → In e o → e.item ≢ c → T (clashes e v) → T (rival c o v)
unfolding rival
rival-clashes c o v m ne t = or_right (holds_uncoloured c v) (meets c o v) (meets← c o v m ne t)

-- Primary item q blocks o.
pub record Blocks (s : State) (c : ℕ) (o : List Entry) (q : ℕ) : Type 0 where
  pub absent : T (not (holds q o))
  pub live : T (in_live q s)
  pub only : (v : List Entry) → In v s → T (holds q v) → T (rival c o v)

pub blocks→ : (s : State) (c : ℕ) (o : List Entry) (q : ℕ) → T (blocks s c o q) → Blocks s c o q
unfolding blocks
blocks→ s c o q t =
    let a = T_and (not (holds q o) && in_live q s) (all (λ v. not (holds q v) || rival c o v) s) t in
    let b = T_and (not (holds q o)) (in_live q s) a.0 in
    record
    { absent = b.0; live = b.1; only = λ v m h. T-imp (holds q v) (rival c o v) (all→ (λ v. not (holds q v) || rival c o v) s a.1 m) h }

pub blocks← : (s : State) (c : ℕ) (o : List Entry) (q : ℕ) → Blocks s c o q → T (blocks s c o q)
unfolding blocks
blocks← s c o q B =
    and_T (not (holds q o) && in_live q s) (all (λ v. not (holds q v) || rival c o v) s)
    (and_T (not (holds q o)) (in_live q s) B.absent B.live)
    (all← (λ v. not (holds q v) || rival c o v) s (λ v m. imp-T (holds q v) (rival c o v) (λ h. B.only v m h)))

pub blocked→ : (np : ℕ) (s : State) (c : ℕ) (o : List Entry) → T (blocked np s c o) → (q : ℕ) × (q < np) × Blocks s c o q
unfolding blocked
blocked→ np s c o t = let w = any→ (blocks s c o) (up_to np) t in (w.0, In-up_to np w.1, blocks→ s c o w.0 w.2)

pub blocked← : (np : ℕ) (s : State) (c : ℕ) (o : List Entry) {q : ℕ} → q < np → Blocks s c o q → T (blocked np s c o)
unfolding blocked
blocked← np s c o {q} h B = any← (blocks s c o) (up_to np) (up_to-In np h) (blocks← s c o q B)

pub condemned→ : (np : ℕ) (s : State) (c : ℕ) (o : List Entry) → T (condemned np s c o) → T (begins (is_uncoloured c) o) × T (blocked np s c o)
unfolding condemned
condemned→ np s c o t = T_and (begins (is_uncoloured c) o) (blocked np s c o) t

pub condemned← : (np : ℕ) (s : State) (c : ℕ) (o : List Entry) → T (begins (is_uncoloured c) o) → T (blocked np s c o) → T (condemned np s c o)
unfolding condemned
condemned← np s c o t u = and_T (begins (is_uncoloured c) o) (blocked np s c o) t u

-- a condemned option holds c uncoloured
pub condemned-holds : (np : ℕ) (s : State) (c : ℕ) (o : List Entry) → T (condemned np s c o) → T (holds_uncoloured c o)
condemned-holds np s c o t = begins-holds c o (condemned→ np s c o t).0

-- the items of a deleted option, as they leave
pub second→ : (o : List Entry) {q : ℕ} → In q (second_to_first o) → T (holds q o)
second→ [] m = absurd (not-nil m)
second→ (e ∷ o) {q} m = go (In-append (items_of o) m)
  where
    go : In q (items_of o) ⊎ In q (e.item ∷ []) → T (holds q (e ∷ o))
    go (inl n) = let w = In-map (λ (e : Entry). e.item) o n in holds← q (e ∷ o) (next w.1) (sym w.2)
    go (inr (here h)) = holds← q (e ∷ o) (here refl) (sym h)
    go (inr (next n)) = absurd (not-nil n)

pub second← : (o : List Entry) {q : ℕ} → T (holds q o) → In q (second_to_first o)
second← [] t = absurd t
second← (e ∷ o) {q} t = let w = holds→ q (e ∷ o) t in go w.0 w.1 w.2
  where
    go : (d : Entry) → In d (e ∷ o) → d.item ≡ q → In q (second_to_first (e ∷ o))
    go d (here h) k = In-append-r (items_of o) (here (sym k ∙ ap (λ (z : Entry). z.item) h))
    go d (next n) k = In-append-l (e.item ∷ []) (Memᴰ.cast (sym k) (map-In (λ (e : Entry). e.item) o n))

-- The state after the blocked options are deleted

-- the first primary item that deleting them empties
abbrev pub emptied_blocked : ℕ → ℕ → State → Option ℕ
emptied_blocked np c s = first_emptied (λ q. ltb q np) (state_spared np s c) (leaving_blocked np s c)

module _ (np : ℕ) (s : State) (c : ℕ) where
  -- an option stays as it is, unless it is condemned
  abbrev pub spare : List Entry → List Entry
  spare = leave (condemned np s c)

  pub spare-same : (o : List Entry) → T (not (condemned np s c o)) → spare o ≡ o
  spare-same = left-same (condemned np s c)

  pub spare-gone : (o : List Entry) → T (condemned np s c o) → spare o ≡ []
  spare-gone = left-gone (condemned np s c)

  pub spare-sub : (o : List Entry) {e : Entry} → In e (spare o) → In e o × T (not (condemned np s c o))
  spare-sub o m = left-sub (condemned np s c) o m

  pub spare-holds : (o : List Entry) (q : ℕ) → T (holds q (spare o)) → T (holds q o) × T (not (condemned np s c o))
  spare-holds = left-holds (condemned np s c)

  pub spared-at : (k : ℕ) → option_at (state_spared np s c) k ≡ spare (option_at s k)
  spared-at = left_at (condemned np s c) s

  pub spared-live : (q : ℕ) → T (in_live q (state_spared np s c)) → (o : List Entry) × In o s × T (holds q o) × T (not (condemned np s c o))
  spared-live = left-live (condemned np s c) s

  pub live-spared : (q : ℕ) {o : List Entry} → In o s → T (holds q o) → T (not (condemned np s c o)) → T (in_live q (state_spared np s c))
  live-spared q m h t = live-left (condemned np s c) s q m h t

  -- every primary item stays, unless one was emptied
  pub stays-spared : emptied_blocked np c s ≡ none → (q : ℕ) → q < np → T (in_live q s) → T (in_live q (state_spared np s c))
  unfolding leaving_blocked
  stays-spared e q lt t = let w = live→ q s t in go w.0 w.1 w.2 (T-dec (condemned np s c w.0))
    where
      go : (o : List Entry) → In o s → T (holds q o) → T (condemned np s c o) ⊎ T (not (condemned np s c o)) → T (in_live q (state_spared np s c))
      go o m h (inr u) = live-spared q m h u
      go o m h (inl u) =
          none-emptied (λ q. ltb q np) (state_spared np s c) (leaving_blocked np s c) e
          (each-if-In (condemned np s c) second_to_first (reverse s) (reverse-In s m) u (second← o h))
          (lt→ltb q np lt)

  -- what is emptied was a live primary item, and is in no option any more
  pub emptied-blocked : {q : ℕ} → emptied_blocked np c s ≡ some q → (q < np) × T (in_live q s) × T (not (in_live q (state_spared np s c)))
  unfolding leaving_blocked
  emptied-blocked {q} e =
      let w = emptied→ (λ q. ltb q np) (state_spared np s c) (leaving_blocked np s c) e in
      let v = In-each-if (condemned np s c) second_to_first (reverse s) w.0 in
      (ltb→lt q np w.1, live← q s (In-reverse s v.1) (second→ v.0 v.3), w.2)
