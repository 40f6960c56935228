-- Where the nodes of a problem lie: behind the headers and the first boundary the live options, one after another, each with its entries
-- and then its boundary. Assumes nothing.
use Rattle.std.specs.Prelude.{ℕ, zero, suc, ◌+◌, ◌-◌, cond, List, [], ◌∷◌, length, nat_lt, slice_index_or}
use Rattle.rules.specs.Problem.{Entry, Problem}
use Rattle.rules.specs.State.{State, option_at}
use Rattle.rules.specs.Rounds.{start as starting}
use Rattle.links.specs.Plan.{Plan}

-- the nodes of an option: its entries and a boundary, none of a skipped one
abbrev pub size_of : List Entry → ℕ
size_of [] = 0
size_of (e ∷ o) = length o + 2

-- the first node of option k, where b is that of option 0; of the option behind the last one, how many nodes there are
abbrev pub first_node : ℕ → State → ℕ → ℕ
first_node b [] k = b
first_node b (o ∷ s) zero = b
first_node b (o ∷ s) (suc k) = first_node (b + size_of o) s k

-- the option whose nodes, entries or boundary, node y is one of; of a node before them all 0, and behind them all the count of options
abbrev pub number_at : ℕ → State → ℕ → ℕ
number_at b [] y = 0
number_at b (o ∷ s) y = let r = number_at (b + size_of o) s y in cond (nat_lt y (b + size_of o)) 0 (suc r)

-- the entry that node y stands for
abbrev pub node_entry : ℕ → State → ℕ → Entry
node_entry b s y = slice_index_or (option_at s (number_at b s y)) (y - first_node b s (number_at b s y)) (record { item = 0; colour = 0 })

-- the plan of a state of n items
unfoldable pub plan_for : ℕ → State → Plan
plan_for n s = record {
  n = n;
  M = length s;
  N = first_node (n + 2) s (length s);
  first = first_node (n + 2) s;
  past = λ k. first_node (n + 2) s k + length (option_at s k);
  number = number_at (n + 2) s;
  col = λ y. cond (nat_lt y (n + 2)) y ((node_entry (n + 2) s y).item + 1);
  tint = λ y. (node_entry (n + 2) s y).colour;
}

-- and of a problem, whose live options are those that hold a primary item
abbrev pub plan_of : Problem → Plan
plan_of a = plan_for a.n (starting a)
