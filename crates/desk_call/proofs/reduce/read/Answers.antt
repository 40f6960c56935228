-- `desk_call::reduce::read` meets its contract: the lists have room for the numbers, and their fronts are these. Assumes nothing.
use Rattle.std.proofs.Common.{◌∙◌}
use mathlib.Core.Bool.{false}
use Rattle.checking.proofs.Table.{sizes}
use Rattle.desk_call.proofs.Reading.{read-back}
use Rattle.desk_call.proofs.reduce.read.Goals as goal

pub read_words-requires : goal.read_words-requires
read_words-requires c = let w = sizes _ false _ _ _ _ _ c.requires.taken in w.entries

pub read_words-requires-2 : goal.read_words-requires-2
read_words-requires-2 c = let w = sizes _ false _ _ _ _ _ c.requires.taken in rw (← w.lengths) w.entries

pub read_words-requires-3 : goal.read_words-requires-3
read_words-requires-3 c = let w = sizes _ false _ _ _ _ _ c.requires.taken in w.options

pub thin-requires : goal.thin-requires
thin-requires c =
    let M = c.requires in
    let w = sizes _ false _ _ _ _ _ M.taken in
    let items = read-back _ _ c.read_words.ensures M.entries in
    let colours = read-back _ _ c.read_words-2.ensures (M.entries ∙ w.lengths) in
    let ends = read-back _ _ c.read_words-3.ensures M.options in
    rw (items, colours, ends) M

pub returns-clause-served : goal.returns-clause-served
returns-clause-served c =
    let M = c.requires in
    let w = sizes _ false _ _ _ _ _ M.taken in
    let items = read-back _ _ c.read_words.ensures M.entries in
    let colours = read-back _ _ c.read_words-2.ensures (M.entries ∙ w.lengths) in
    let ends = read-back _ _ c.read_words-3.ensures M.options in
    rw (items, colours, ends) at c.thin.ensures.served
