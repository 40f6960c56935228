-- `option::put_option` meets its contract: an option is skipped, or its entries are laid out and then its boundary. Assumes nothing.
use Rattle.std.proofs.Common.{sym, ◌∙◌}
use Rattle.building.proofs.Turns.{turn-fill, turn-close}
use Rattle.building.proofs.option.put_option.Goals as goal

pub put_entries-requires-clause-filling : goal.put_entries-requires-clause-filling
put_entries-requires-clause-filling c = let t = c.requires.turn in (t.0, turn-fill t.1 (sym c.has_primary.ensures ∙ c.if-not-has_primary.false))

pub returns-clause-laid : goal.returns-clause-laid
returns-clause-laid c =
    let live = sym c.has_primary.ensures ∙ c.if-not-has_primary.false in
    let e = c.put_spacer.ensures in
    λ P t. turn-close t live (c.put_entries.ensures.lists P (turn-fill t live)) e.heads e.up e.down
