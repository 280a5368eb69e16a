use Rattle.lk_pvdomain.proofs.call.Queued.pass.Goals as goal

pub mark_hashed-requires : goal.mark_hashed-requires
mark_hashed-requires c =
    let s = c.requires.waits.0 in record { to = c.requires.to; waits = (s, c.hand_on.ensures s c.requires.waits.1) }

pub store_slow-requires : goal.store_slow-requires
store_slow-requires c =
    let s = c.requires.waits.0 in (s, c.mark_hashed.ensures.halted c.if-mark_hashed.true s (c.hand_on.ensures s c.requires.waits.1))

pub enlist_next-requires : goal.enlist_next-requires
enlist_next-requires c =
    let s = c.requires.waits.0 in
    record {
      to = c.requires.to;
      waits = (s, c.store_slow.ensures s (c.mark_hashed.ensures.halted c.if-mark_hashed.true s (c.hand_on.ensures s c.requires.waits.1)));
    }

pub returns-then-mark_hashed : goal.returns-then-mark_hashed
returns-then-mark_hashed c s w =
    c.enlist_next.ensures s (c.store_slow.ensures s (c.mark_hashed.ensures.halted c.if-mark_hashed.true s (c.hand_on.ensures s w)))

pub returns : goal.returns
returns c s w = c.mark_hashed.ensures.runs c.if-mark_hashed.false s (c.hand_on.ensures s w)
