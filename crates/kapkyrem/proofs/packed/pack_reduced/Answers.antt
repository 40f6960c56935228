-- `kapkyrem::packed::pack_reduced` meets its contract: no field reaches the next, and no bit is lost. Assumes nothing.
use Rattle.std.proofs.Common.{arith}
use Rattle.kapkyrem.proofs.Fields.{flag_is, sum-fits, sum-packed}
use Rattle.kapkyrem.proofs.packed.pack_reduced.Goals as goal

pub overflow_add-result-2 : goal.overflow_add-result-2
overflow_add-result-2 g c =
    let n = sum-fits c.requires.order c.requires.fits in rw (c.from.ensures, c.from-2.ensures, c.from-3.ensures, flag_is c.args.settled) (record { fits = omega arith })

pub overflow_add-result-3 : goal.overflow_add-result-3
overflow_add-result-3 g c =
    let n = sum-fits c.requires.order c.requires.fits in
    rw (c.from.ensures, c.from-2.ensures, c.from-3.ensures, c.from-4.ensures, flag_is c.args.settled) (record { fits = omega arith })

pub overflow_add-result-4 : goal.overflow_add-result-4
overflow_add-result-4 g c =
    let n = sum-fits c.requires.order c.requires.fits in
    rw (c.from.ensures, c.from-2.ensures, c.from-3.ensures, c.from-4.ensures, c.from-5.ensures, flag_is c.args.settled) (record { fits = n })

pub returns : goal.returns
returns g c = rw (c.from.ensures, c.from-2.ensures, c.from-3.ensures, c.from-4.ensures, c.from-5.ensures, flag_is c.args.settled) (sum-packed c.requires.order c.requires.fits)
