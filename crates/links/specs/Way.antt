-- How far a walk round an option has still to go, by numbers that the code has at hand; and how far one down a column has come. Assumes nothing.
use Rattle.std.specs.Prelude.{ℕ, ◌+◌, ◌-◌, cond, ltb}
use Rattle.links.specs.Plan.{Plan, start}

-- forwards from the node after r round to r: n is above every node
abbrev pub way : ℕ → ℕ → ℕ → ℕ
way n r q = cond (ltb r q) (n + n - q) (r - q)

-- backwards from the node before r round to r
abbrev pub way_back : ℕ → ℕ → ℕ → ℕ
way_back n r q = cond (ltb q r) (n + q) (q - r)

-- down a column: at x; when it is at the header again, over all nodes
abbrev pub reach : Plan → ℕ → ℕ
reach P x = cond (ltb x (start P)) P.N x
