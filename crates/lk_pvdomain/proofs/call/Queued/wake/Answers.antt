use Rattle.std.proofs.Common.{refl}
use Rattle.lk_pvdomain.proofs.{ways.Arrives.{woke, sleeps_on}, ways.Ways.moved_seat}
use Rattle.lk_pvdomain.proofs.call.Queued.wake.Goals as goal

pub is_woken-requires : goal.is_woken-requires
is_woken-requires c =
    let w = c.requires.1 in
    record { of = moved_seat w.wakes.of refl refl; one = (w.call, w.only); asleep = w.asleep }

pub returns-clause-kicked : goal.returns-clause-kicked
returns-clause-kicked c e s w = woke c.is_woken.ensures.same w (c.is_woken.ensures.woken e)

pub returns-clause-sleeps : goal.returns-clause-sleeps
returns-clause-sleeps c e s w = sleeps_on c.is_woken.ensures.same w (c.is_woken.ensures.stays e)
