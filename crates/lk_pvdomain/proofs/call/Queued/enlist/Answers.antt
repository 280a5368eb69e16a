use Rattle.lk_pvdomain.proofs.call.Queued.enlist.Goals as goal

pub returns-then-not-enter_hash : goal.returns-then-not-enter_hash
returns-then-not-enter_hash c s w = c.enter_hash.ensures.stays c.if-not-enter_hash.true s w

pub exchange_slow-requires : goal.exchange_slow-requires
exchange_slow-requires c = (c.requires.0, c.enter_hash.ensures.enters c.if-not-enter_hash.false c.requires.0 c.requires.1)

pub store_held-requires : goal.store_held-requires
store_held-requires c =
    let s = c.requires.0 in (s, c.exchange_slow.ensures.takes c.if-exchange_slow.true s (c.enter_hash.ensures.enters c.if-not-enter_hash.false s c.requires.1))

pub leave_hash-requires : goal.leave_hash-requires
leave_hash-requires c =
    let s = c.requires.0 in
    (s, c.store_held.ensures s (c.exchange_slow.ensures.takes c.if-exchange_slow.true s (c.enter_hash.ensures.enters c.if-not-enter_hash.false s c.requires.1)))

pub hand-requires : goal.hand-requires
hand-requires c =
    let s = c.requires.0 in (
      s,
      c.leave_hash.ensures s
          (c.store_held.ensures s (c.exchange_slow.ensures.takes c.if-exchange_slow.true s (c.enter_hash.ensures.enters c.if-not-enter_hash.false s c.requires.1))),
    )

pub returns-then-exchange_slow : goal.returns-then-exchange_slow
returns-then-exchange_slow c s w =
    c.hand.ensures s
    (c.leave_hash.ensures s
    (c.store_held.ensures s (c.exchange_slow.ensures.takes c.if-exchange_slow.true s (c.enter_hash.ensures.enters c.if-not-enter_hash.false s w))))

pub doze-requires : goal.doze-requires
doze-requires c =
    let s = c.requires.0 in (s, c.exchange_slow.ensures.waits c.if-exchange_slow.false s (c.enter_hash.ensures.enters c.if-not-enter_hash.false s c.requires.1))

pub returns : goal.returns
returns c s w = c.doze.ensures s (c.exchange_slow.ensures.waits c.if-exchange_slow.false s (c.enter_hash.ensures.enters c.if-not-enter_hash.false s w))
