-- `renumbering::lists::sd` meets its contract: the first kept secondary is above the last kept primary. Assumes nothing.
use Rattle.std.proofs.Common.{arith}
use Rattle.renumbering.proofs.Shifting.{gap, sd-some, sd-none}
use Rattle.renumbering.proofs.lists.sd.Goals as goal

pub overflow_sub-result-then-primaries-kept : goal.overflow_sub-result-then-primaries-kept
overflow_sub-result-then-primaries-kept c = omega (arith, gap c.args.kept.now c.args.primaries c.requires c.if-primaries-kept.true)

pub overflow_sub-result-then-primaries-kept-2 : goal.overflow_sub-result-then-primaries-kept-2
overflow_sub-result-then-primaries-kept-2 c = omega (arith, gap c.args.kept.now c.args.primaries c.requires c.if-primaries-kept.true)

pub returns-then-primaries-kept : goal.returns-then-primaries-kept
returns-then-primaries-kept c = sd-some c.args.kept.now c.args.primaries c.requires c.if-primaries-kept.true

pub returns-else-primaries-kept : goal.returns-else-primaries-kept
returns-else-primaries-kept c = sd-none c.args.kept.now c.args.primaries c.requires c.if-primaries-kept.false
