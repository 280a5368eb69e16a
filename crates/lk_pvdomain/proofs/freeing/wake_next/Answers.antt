use Rattle.lk_pvdomain.proofs.freeing.wake_next.Goals as goal

pub wake_thread-requires : goal.wake_thread-requires
wake_thread-requires c = record { halting = c.requires.at.2.of.halting; cpu = c.kick_next-kicked.ensures.low }
