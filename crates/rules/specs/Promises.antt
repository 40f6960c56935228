-- What is promised of every accepted problem and every cap, as statements. Their proofs stand in proofs/; docs/PROMISES.md says which
-- demand each one meets. Assumes nothing.
use Rattle.std.specs.Prelude.{ℕ, zero, suc, ◌+◌, ◌≤◌, ◌<◌, ◌≡◌, ◌⊎◌, ◌↔◌, Bool, true, false, not, ◌&&◌, T, length, get_or}
use mathlib.Core.List.{List, [], ◌∷◌, map, Memᴰ as In}
use Rattle.std.proofs.Math.Option.{none, some}
use Rattle.rules.specs.Lists.{keep, each, up_to, mem}
use Rattle.rules.specs.Problem.{Entry, Problem, Figures, problem_of}
use Rattle.rules.specs.Rooms.{Handed}
use Rattle.rules.specs.Checks.{refusal_of}
use Rattle.rules.specs.State.{State, went, emptied, is_uncoloured, holds_primary, begins, in_live, items_of}
use Rattle.rules.specs.Redundant.{redundant_for}
use Rattle.rules.specs.Blocked.{blocked}
use Rattle.rules.specs.Rounds.{Finding, reduced, infeasible, start, uncovered, item_step, round, reduce}
use Rattle.rules.specs.Result.{numbered, numbers_of, kept_items, kept_options, compact_of}
use Rattle.rules.specs.Cover.{Cover, CoverResult}

-- Accepted problems

-- no number stands twice in the list
abbrev pub distinct : List ℕ → Bool
distinct [] = true
distinct (i ∷ is) = not (mem i is) && distinct is

-- What the checks leave of an option's entries.
pub record AcceptedEntry (np n colour : ℕ) (e : Entry) : Type 0 where
  pub below : e.item < n
  pub colour-below : e.colour ≤ colour
  pub primary-plain : e.item < np → e.colour ≡ 0

-- What the checks leave of a problem, at some figures.
pub record Accepted (f : Figures) (a : Problem) : Type 0 where
  pub some-primary : 0 < a.np
  pub primaries : a.np ≤ a.n
  pub items : a.n ≤ f.items
  pub some-option : 0 < length a.options
  pub options : length a.options ≤ f.options
  pub entries : length (each (λ o. o) a.options) ≤ f.entries
  pub entry : (o : List Entry) → In o a.options → (e : Entry) → In e o → AcceptedEntry a.np a.n f.colour e
  pub once : (o : List Entry) → In o a.options → T (distinct (items_of o))

-- Accepted by the checks implies it.
abbrev pub ChecksAccept : Type 0
ChecksAccept = (f : Figures) (ragged : Bool) (h : Handed) → refusal_of f ragged h ≡ none
    → Accepted f (problem_of h.np h.ns h.items h.colours h.ends)

-- Demand 2: covers

-- The sets of option numbers that cover the problem are exactly those that cover the result; infeasible means there is none.
abbrev pub SameCovers : Problem → Finding → Type 0
SameCovers a (reduced s rounds settled) =
    (ks : List ℕ) → Cover a ks ↔ CoverResult a.np (kept_items a.n s) (kept_options a.n s) ks
SameCovers a (infeasible item cause round) = (ks : List ℕ) → Cover a ks → ⊥

-- The same for the compact problem, whose options are numbered by place: the original numbers that places stand for, below M, and the
-- places of original numbers.
abbrev pub originals_of : ℕ → List ℕ → List ℕ → List ℕ
originals_of M numbers js = keep (λ k. mem k (map (λ j. get_or numbers j 0) js)) (up_to M)

abbrev pub places_of : List ℕ → List ℕ → List ℕ
places_of numbers ks = keep (λ j. mem (get_or numbers j 0) ks) (up_to (length numbers))

-- Covers of the compact problem and covers of the problem correspond one to one, through the map of numbers.
pub record CompactCovers (a : Problem) (s : State) (numbers : List ℕ) : Type 0 where
  pub originals : (js : List ℕ) → Cover (compact_of a.np a.n s) js → Cover a (originals_of (length a.options) numbers js)
  pub places : (ks : List ℕ) → Cover a ks → Cover (compact_of a.np a.n s) (places_of numbers ks)
  pub back : (js : List ℕ) → Cover (compact_of a.np a.n s) js → places_of numbers (originals_of (length a.options) numbers js) ≡ js
  pub forth : (ks : List ℕ) → Cover a ks → originals_of (length a.options) numbers (places_of numbers ks) ≡ ks

abbrev pub SameCompactCovers : Problem → Finding → Type 0
SameCompactCovers a (reduced s rounds settled) = CompactCovers a s (numbers_of (kept_options a.n s))
SameCompactCovers a (infeasible item cause round) = (ks : List ℕ) → Cover a ks → ⊥

-- Demand 3: settled

-- From s₀, r rounds, each of which removed an item or an option, lead to s.
pub data Ran (np n : ℕ) (s₀ : State) : ℕ → State → Type 0 where
  none_yet : Ran np n s₀ zero s₀
  one_more : {r : ℕ} {s s' : State} → Ran np n s₀ r s → round np n s ≡ went s' true → Ran np n s₀ (suc r) s'

-- The work starts: no primary item is in no live option.
abbrev pub Starts : Problem → Type 0
Starts a = uncovered a.np (start a) ≡ none

-- Settled exactly when the last round run changed nothing, not settled exactly when the cap stopped it, infeasible exactly when a
-- primary item was in no option at the start or was emptied in the last round run.
pub record LastRound (a : Problem) (cap : ℕ) : Type 0 where
  pub settled : (s : State) (r : ℕ) → (reduce a cap ≡ reduced s r true)
      ↔ (Starts a × ((r' : ℕ) × (s' : State) × (r ≡ suc r') × (r ≤ cap) × Ran a.np a.n (start a) r' s' × (round a.np a.n s' ≡ went s false)))
  pub stopped : (s : State) (r : ℕ) → (reduce a cap ≡ reduced s r false) ↔ (Starts a × (r ≡ cap) × Ran a.np a.n (start a) r s)
  pub none_left : (q cause r : ℕ) → (reduce a cap ≡ infeasible q cause r)
      ↔ (((uncovered a.np (start a) ≡ some q) × (cause ≡ 1) × (r ≡ 0))
      ⊎ (Starts a × ((r' : ℕ) × (s' : State) × (r ≡ suc r') × (r ≤ cap) × Ran a.np a.n (start a) r' s' × (round a.np a.n s' ≡ emptied q cause))))

-- The rounds run never exceed the cap, nor items + options - 1.
abbrev pub RoundsWithin : Problem → ℕ → Finding → Type 0
RoundsWithin a cap (reduced s r settled) = (r ≤ cap) × (r + 1 ≤ a.n + length a.options)
RoundsWithin a cap (infeasible item cause r) = (r ≤ cap) × (r + 1 ≤ a.n + length a.options)

-- Settled or infeasible: what a cap of items + options - 1 or more comes to.
abbrev pub Ended : Finding → Type 0
Ended (reduced s r settled) = T settled
Ended (infeasible item cause r) = Unit {0}

abbrev pub EndsInTime : Problem → Type 0
EndsInTime a = (cap : ℕ) → a.n + length a.options ≤ cap + 1 → Ended (reduce a cap)

-- At settled no kept item is redundant, and no option with an uncoloured first live item is blocked.
pub record NothingLeft (np n : ℕ) (s : State) : Type 0 where
  pub no-redundant : (c : ℕ) → In c (kept_items n s) → (p : ℕ) → T (not (redundant_for np s c p))
  pub no-blocked : (c : ℕ) (o : List Entry) → In o s → T (begins (is_uncoloured c) o) → T (not (blocked np s c o))

-- The compact result, run again with any cap of 1 or more, answers reduced with every item, option and entry in the same order, numbers
-- from 0, 1 round, settled.
pub record Repeats (np n : ℕ) (s : State) : Type 0 where
  pub again : (cap : ℕ) → reduce (compact_of np n s) (suc cap) ≡ reduced (compact_of np n s).options 1 true
  pub items : kept_items (compact_of np n s).n (compact_of np n s).options ≡ up_to (compact_of np n s).n
  pub options : kept_options (compact_of np n s).n (compact_of np n s).options ≡ numbered 0 (compact_of np n s).options

abbrev pub SettledMeans : Problem → Finding → Type 0
SettledMeans a (reduced s r true) = NothingLeft a.np a.n s × Repeats a.np a.n s
SettledMeans a (reduced s r false) = Unit {0}
SettledMeans a (infeasible item cause r) = Unit {0}

-- What holds of every state that the rounds end in

pub record Sound (a : Problem) (s : State) : Type 0 where
  -- option numbers stay
  pub numbers : length s ≡ length a.options
  -- every live option holds a primary item
  pub primary : (o : List Entry) → In o s → (o ≡ []) ⊎ T (holds_primary a.np o)
  -- at least one primary item is kept
  pub some-kept : (q : ℕ) × (q < a.np) × T (in_live q s)
  -- items stay below n, and no option holds an item twice
  pub below : (o : List Entry) → In o s → (e : Entry) → In e o → e.item < a.n
  pub once : (o : List Entry) → In o s → T (distinct (items_of o))

abbrev pub SoundResult : Problem → Finding → Type 0
SoundResult a (reduced s r settled) = Sound a s
SoundResult a (infeasible item cause r) = item < a.np

-- Cause 3 names the item in hand.
abbrev pub CauseThreeNames : Type 0
CauseThreeNames = (np c q : ℕ) (s : State) → item_step np c s ≡ emptied q 3 → q ≡ c
