-- What a seat carries: the empty places of what it has out.
use Rattle.std.proofs.Common.{◌≡◌, sym}
use Rattle.lk_domain.proofs.Names.{carried_of, carried_with, View}

-- it is the same while the seat is who it is and the journal is where it was
pub carried_same : (v w : View) → w.who ≡ v.who → w.ledger.out ≡ v.ledger.out → carried_of v ≡ carried_of w
carried_same v w who out i = carried_with (sym who i).outs (sym out i)
