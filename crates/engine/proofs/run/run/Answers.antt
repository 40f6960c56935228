-- `engine::run::run` meets its contract. Assumes nothing.
use Rattle.std.proofs.Common.{◌∙◌, sym}
use Rattle.links.proofs.SameNodes.{same-np, same-n}
use Rattle.engine.proofs.Running.{built-standing, built-figured, built-looking, run-uncovered, run-rounds}
use Rattle.engine.proofs.run.run.Goals as goal

pub uncovered-requires : goal.uncovered-requires
uncovered-requires c = let a = c.requires in (_, built-looking a.2 (c.init_links.ensures.lists a.0 a.1 a.2) (same-np c.init_links.ensures.nodes))

pub returns-in-Some-clause-found : goal.returns-in-Some-clause-found
returns-in-Some-clause-found c =
    let np = same-np c.init_links.ensures.nodes in
    λ f ns b.
    let w = c.init_links.ensures.lists f ns b in
    run-uncovered b w _ np (sym c.in-Some.is ∙ c.uncovered.ensures _ (built-looking b w np))

pub rounds-requires : goal.rounds-requires
rounds-requires c =
    let a = c.requires in
    let n = c.init_links.ensures.nodes in
    let w = c.init_links.ensures.lists a.0 a.1 a.2 in
    (_, built-standing a.2 w c.init_links.auto.marks, built-figured a.2 w (same-np n) (same-n n))

pub returns-clause-found : goal.returns-clause-found
returns-clause-found c =
    let np = same-np c.init_links.ensures.nodes in
    let n = same-n c.init_links.ensures.nodes in
    λ f ns b.
    let w = c.init_links.ensures.lists f ns b in
    run-rounds b w _ np (sym c.in_default.is ∙ c.uncovered.ensures _ (built-looking b w np)) n
    (c.rounds.ensures.rounds _ (built-standing b w c.init_links.auto.marks) (built-figured b w np n))
