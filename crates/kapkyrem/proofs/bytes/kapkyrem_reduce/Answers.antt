-- `kapkyrem::bytes::kapkyrem_reduce` meets its contract. Assumes nothing.
use Rattle.kapkyrem.proofs.Telling.{bytes_fit}
use Rattle.kapkyrem.proofs.bytes.kapkyrem_reduce.Goals as goal

pub pack_desk-requires : goal.pack_desk-requires
pack_desk-requires c = bytes_fit _ _ _ c.reduce.result c.reduce.ensures.served
