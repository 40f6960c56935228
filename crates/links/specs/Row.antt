-- Walking round an option. Assumes nothing.
use Rattle.std.specs.Prelude.{ℕ, ◌+◌, ◌-◌, Bool, not, cond, List, ◌++◌, ltb, ℤ}
use Rattle.rules.specs.Lists.{any, keep, from}
use Rattle.links.specs.Head.{item_of, head}
use Rattle.links.specs.Plan.{lo, hi}
use Rattle.links.specs.Ground.{Ground}

-- a .. b - 1
abbrev pub span : ℕ → ℕ → List ℕ
span a b = from a (b - a)

-- the node is an entry that is not shortened
abbrev pub full : List ℤ → ℕ → Bool
full heads y = ltb 0 (item_of (head heads y))

-- A walk round the option with nodes a .. b - 1 from the node after r on stands at q: the full nodes that it has passed, in order.
abbrev pub passed : List ℤ → ℕ → ℕ → ℕ → ℕ → List ℕ
passed heads a b r q = cond (ltb r q) (keep (full heads) (span (r + 1) q)) (keep (full heads) (span (r + 1) b) ++ keep (full heads) (span a q))

-- the same in a ground, round r's own option; and all the others, when the walk is at r again
abbrev pub walked : Ground → ℕ → ℕ → List ℕ
walked g r q = passed g.heads (lo g.plan r) (hi g.plan r) r q

unfoldable pub others : Ground → ℕ → List ℕ
others g r = walked g r r

-- r is the first live entry of its option: no full node stands before it
abbrev pub first_live : Ground → ℕ → Bool
first_live g r = not (any (full g.heads) (span (lo g.plan r) r))
