-- A cover: exact covering with colours, by Knuth's rule. Document 01, "A cover". Assumes nothing.
use Rattle.std.specs.Prelude.{ℕ, ◌≤◌, ◌<◌, ◌≡◌, ◌≢◌, cond, T, eqb}
use mathlib.Core.List.{List, [], ◌∷◌, Memᴰ as In}
use Rattle.rules.specs.Lists.{rising, up_to}
use Rattle.rules.specs.Problem.{Entry, Problem}
use Rattle.rules.specs.State.{option_at, holds, holds_primary}
use Rattle.rules.specs.Result.{Numbered}

-- The set ks of option numbers is a cover. np: items below it are primary; Present q: item q is one of the problem's;
-- option k: the entries of option k.
pub record CoverOf (np : ℕ) (Present : ℕ → Type 0) (option : ℕ → List Entry) (ks : List ℕ) : Type 0 where
  -- a set of options, ..
  pub set : T (rising ks)
  -- .. each holding a primary item, ..
  pub primary : (k : ℕ) → In k ks → T (holds_primary np (option k))
  -- .. such that every primary item is held by exactly one, ..
  pub covered : (q : ℕ) → q < np → Present q → (k : ℕ) × In k ks × T (holds q (option k))
  pub once : (q : ℕ) → q < np → Present q → (k l : ℕ) → In k ks → In l ks → T (holds q (option k)) → T (holds q (option l)) → k ≡ l
  -- .. and any two that hold the same secondary item hold it with one equal colour above 0.
  pub agreed : (k l : ℕ) → In k ks → In l ks → k ≢ l
      → (e f : Entry) → In e (option k) → In f (option l) → e.item ≡ f.item → np ≤ e.item → (e.colour ≡ f.colour) × (0 < e.colour)

-- ks covers the problem
unfoldable pub Cover : Problem → List ℕ → Type 0
Cover a ks = CoverOf a.np (λ q. In q (up_to a.n)) (option_at a.options) ks

-- the entries of the option with original number k, in a result
abbrev pub entries_at : List Numbered → ℕ → List Entry
entries_at [] k = []
entries_at (x ∷ xs) k = let r = entries_at xs k in cond (eqb x.number k) x.entries r

-- ks covers a result: the items that were kept, and the options under their original numbers
unfoldable pub CoverResult : ℕ → List ℕ → List Numbered → List ℕ → Type 0
CoverResult np kept options ks = CoverOf np (λ q. In q kept) (entries_at options) ks
