-- `result::items::get_items` meets its contract: the kept items below np are the primary ones, and the others come behind them. Assumes nothing.
use Rattle.result.proofs.KeptColumns.{kept_result}
use Rattle.result.proofs.items.get_items.Goals as goal

pub returns : goal.returns
returns c = λ g s.
    let n = c.args.nodes.now in
    kept_result g n.shape.n n.heads.now s n.shape.np c.requires.0 c.args.kept.now _ _ _ _ c.keep_items-primaries.ensures.filled c.keep_items-secondaries.ensures.filled
