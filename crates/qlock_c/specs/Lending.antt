-- What a handle lends.
use Rattle.std.specs.Prelude.{Some}
use Rattle.std.specs.Borrow.{Lends, MutBor, Fml}
use Rattle.lk_port.specs.declared.port.Port.{Port}
use Rattle.lk_port.specs.contracts.port.Port.{the_row as port_row}
use Rattle.qlock_c.specs.declared.handle.Handle.{Handle}
use Rattle.qlock_c.specs.contracts.handle.Handle.{the_row}

-- the handle with this port in place of its own
abbrev pub with_port : Handle → Port → Handle
with_port h p = record { at = h.at; alloc = h.alloc; inner = Some p }

-- the handle ends with the port that is left behind r
abbrev pub LendsPort : MutBor Handle → MutBor Port → Fml
LendsPort h r = Lends the_row port_row h r (with_port h.now)
