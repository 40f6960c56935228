-- A result has under each number the entries that the state has; so the covers of a state are those of the result made of it. Assumes nothing.
use Prim.Native.Nat.{ℕ}
use mathlib.Core.Path.{◌≡◌, refl, sym, ap, ◌∙◌}
use mathlib.Core.Logic.{◌↔◌}
use mathlib.Core.Bool.{Bool, true, false, cond}
use mathlib.Core.List.Memᴰ.{head as here}
use mathlib.Core.List.Memᴰ.{not-nil}
use mathlib.Core.List.Memᴰ.{tail as next}
use mathlib.Core.List.{List, [], ◌∷◌, Memᴰ as In}
use lib.Dec.{eqb, eqb→eq}
use Rattle.rules.specs.Problem.{Entry}
use Rattle.rules.specs.State.{State, option_at}
use Rattle.rules.specs.Result.{Numbered, kept_items, kept_options}
use Rattle.rules.specs.Cover.{entries_at, CoverResult}
use Rattle.theorems.proofs.Words.Tests.{neqb→ne}
use Rattle.theorems.proofs.Steps.States.{ItemsBelow}
use Rattle.theorems.proofs.Results.Kept.{In-kept, kept-In, kept→, live-kept}
use Rattle.theorems.proofs.Covers.State.{StateCover, cover-same}

-- The entries under a number, where all that stand under it have these entries, and some do unless there are none.
entries_at-by : (xs : List Numbered) (k : ℕ) (o : List Entry) → ((x : Numbered) → In x xs → x.number ≡ k → x.entries ≡ o)
    → ((e : Entry) → In e o → (x : Numbered) × In x xs × (x.number ≡ k)) → entries_at xs k ≡ o
entries_at-by [] k [] all some = refl
entries_at-by [] k (e ∷ o) all some = absurd (not-nil (some e (here refl)).1)
entries_at-by (y ∷ xs) k o all some = go (eqb y.number k) refl (λ r. entries_at-by xs k o (λ x m. all x (next m)) r)
  where
    go : (b : Bool) → eqb y.number k ≡ b → (((e : Entry) → In e o → (x : Numbered) × In x xs × (x.number ≡ k)) → entries_at xs k ≡ o)
        → cond b y.entries (entries_at xs k) ≡ o
    go true h r = all y (here refl) (eqb→eq _ _ (rw h tt))
    go false h r = r (λ e m. later (some e m))
      where
        later : (x : Numbered) × In x (y ∷ xs) × (x.number ≡ k) → (x : Numbered) × In x xs × (x.number ≡ k)
        later (x, here e, q) = absurd (neqb→ne y.number k (rw h tt) (ap (λ (z : Numbered). z.number) (sym e) ∙ q))
        later (x, next m, q) = (x, m, q)

-- The entries that a result has under a number are the state's.
pub entries_at-kept : (n : ℕ) (s : State) → ItemsBelow n s → (k : ℕ) → entries_at (kept_options n s) k ≡ option_at s k
entries_at-kept n s below k =
    entries_at-by (kept_options n s) k (option_at s k)
    (λ x m e. (In-kept n s m).1 ∙ ap (λ (i : ℕ). option_at s i) e)
    (λ e m. kept-In n s below k m)

pub covers-result : (np n : ℕ) (s : State) → ItemsBelow n s → (ks : List ℕ) → StateCover np s ks ↔ CoverResult np (kept_items n s) (kept_options n s) ks
unfolding CoverResult
covers-result np n s below ks = (
  λ C. cover-same C (λ q lt m. (kept→ n s m).1) (λ k m. sym (entries_at-kept n s below k)),
  λ C. cover-same C (λ q lt t. live-kept n s below t) (λ k m. entries_at-kept n s below k),
)
