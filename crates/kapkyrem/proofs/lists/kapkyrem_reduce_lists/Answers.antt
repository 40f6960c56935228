-- `kapkyrem::lists::kapkyrem_reduce_lists` meets its contract. Assumes nothing.
use Rattle.kapkyrem.proofs.Telling.{lists-fit}
use Rattle.kapkyrem.proofs.lists.kapkyrem_reduce_lists.Goals as goal

pub pack_lists-requires : goal.pack_lists-requires
pack_lists-requires c = lists-fit _ c.reduce.result c.reduce.ensures.outcome
