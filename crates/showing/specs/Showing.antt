-- The state that a ground shows, and what the walks answer of it. Assumes nothing.
use Rattle.std.specs.Prelude.{ℕ, ◌+◌, ◌≡◌, Bool, true, false, ◌&&◌, not, eqb}
use mathlib.Core.List.{List, [], ◌∷◌, ◌++◌, map, reverse, Memᴰ as In}
use Rattle.std.proofs.Math.Option.{Option, none, some}
use Rattle.rules.specs.Lists.{any, keep, each, up_to}
use Rattle.rules.specs.State.{State, option_at}
use Rattle.rules.specs.Blocked.{condemned}
use Rattle.rules.specs.Result.{Numbered}
use Rattle.links.specs.Plan.{lo, EntryOf}
use Rattle.links.specs.Ground.{Ground, taken}
use Rattle.links.specs.Row.{span, full, others}
use Rattle.links.specs.Shown.{entry_at, shown}
use Rattle.links.specs.Taking.{in_column, hides, node_blocked}

abbrev pub state_of : Ground → State
state_of g = shown g.plan g.on

-- the column of the item found, or z if there is none
abbrev pub column_or : ℕ → Option ℕ → ℕ
column_or z none = z
column_or z (some q) = q + 1

-- some node of r's option before r is full
abbrev pub full_before : Ground → ℕ → Bool
full_before g r = any (full g.heads) (span (lo g.plan r) r)

-- Deleting options, each by its first node: what is taken out. rs are the first nodes of the condemned options, from the highest number down.
abbrev pub deletes : Ground → List ℕ → List ℕ
deletes g rs = each (λ r. others g r ++ (r ∷ [])) rs

pub record Condemns (np c : ℕ) (g : Ground) (rs : List ℕ) : Type 0 where
  pub entry : (r : ℕ) → In r rs → EntryOf g.plan r
  pub on : (r : ℕ) → In r rs → g.on r ≡ true
  pub first : (r : ℕ) → In r rs → full_before g r ≡ false
  pub numbers : map g.plan.number rs ≡ reverse (keep (λ k. condemned np (state_of g) c (option_at (state_of g) k)) (up_to g.plan.M))

-- Which nodes a walk down column c + 1 finds, testing while c is hidden: the first node of an option, uncoloured and blocked.
abbrev pub condemned_at : ℕ → ℕ → Ground → ℕ → Bool
condemned_at np c g y =
    in_column g (c + 1) y && (not (full_before g y) && eqb (g.plan.tint y) 0 && node_blocked (taken g (hides g (c + 1))) y np)

-- The result: the node is the first of its option, and in column i; and that option, under its number.
abbrev pub first_in : Ground → ℕ → ℕ → Bool
first_in g i y = in_column g i y && not (full_before g y)

abbrev pub option_from : Ground → ℕ → Numbered
option_from g y = record { number = g.plan.number y; entries = map (entry_at g.plan) (y ∷ others g y) }
