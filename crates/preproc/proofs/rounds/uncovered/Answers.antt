-- `preproc::rounds::uncovered` meets its contract: what `find` gives over the headers is the lowest. Assumes nothing.
use Rattle.std.proofs.Common.{◌≡◌, ◌≢◌, ◌<◌, ◌≤◌, ◌+◌, ℕ, ◌∙◌, rules, None}
use Rattle.std.specs.Prelude.{MatchOption}
use Rattle.std.proofs.lemmas.Iterator.{first_from_Range}
use Rattle.links.specs.Head.{item_of, head}
use Rattle.preproc.proofs.Lowest.{looked_none, looked_some, look-column}
use Rattle.preproc.proofs.rounds.uncovered.Goals as goal
use Rattle.preproc.proofs.rounds.uncovered.Goals.{After-find}

-- what `find` gives over the headers of the primary items
found : (c : After-find)
    → MatchOption c.find.result ((x : ℕ) → 1 ≤ x → x < c.args.nodes.now.shape.np + 1 → item_of (head c.args.nodes.now.heads.now x) ≢ 0)
    (λ x. (1 ≤ x) × (x < c.args.nodes.now.shape.np + 1) × (item_of (head c.args.nodes.now.heads.now x) ≡ 0) × ((b : ℕ) → 1 ≤ b → b < x → item_of (head c.args.nodes.now.heads.now b) ≢ 0))
found c =
    let length_at : ℕ → ℕ = λ x. item_of (head c.args.nodes.now.heads.now x) in
    first_from_Range _ _ _ c.find.result (λ x. length_at x ≡ 0) (λ x. length_at x ≢ 0) c.find.ensures.ran (λ x q e. search rules) (λ x q e. search rules)

pub item_of_column-requires : goal.item_of_column-requires
item_of_column-requires c = look-column c.requires.1 (rw c.in_ok-c.was at (found (goal.at.item_of_column-requires c).After-find))

pub returns-in_err-c : goal.returns-in_err-c
returns-in_err-c c =
    let is : c.from_residual.result ≡ None = search rules in
    λ g k. is ∙ looked_none k (rw c.in_err-c.was at (found (goal.at.returns-in_err-c c).After-find))

pub returns : goal.returns
returns c = λ g k. looked_some k (rw c.in_ok-c.was at (found (goal.at.returns c).After-find)) _ c.item_of_column.ensures
