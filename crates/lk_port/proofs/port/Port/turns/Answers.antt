use Rattle.std.proofs.Common.{◌<◌, ap, refl, sym, subst, arith}
use Rattle.lk_port.proofs.Names.{Lock, Domain, locks_of, own_node}
use Rattle.lk_pvdomain.specs.PvTurns.{waiter_in}
use Rattle.lk_port.proofs.Ports.{held_first, is_free, waited}
use Rattle.lk_port.proofs.Shares.{halts_by, halts_waiting, is_of, same_domain, still_in}
use Rattle.lk_port.proofs.HaltingPorts as port
use Rattle.lk_port.proofs.port.Port.turns.Goals as goal

pub halting-requires : goal.halting-requires
halting-requires c =
    let me = c.args.self.now in
    halts_waiting me.share me.notes.items me.pending c.args.waiter me.cpu c.requires.waits c.stands.ensures

pub pv_poll-requires : goal.pv_poll-requires
pv_poll-requires c =
    let me = c.args.self.now in
    let d = c.halting.result.now in
    let is = c.halting.ensures in
    let was = port.waits me.share d me.notes.items me.pending c.args.waiter me.cpu is c.requires.waits c.stands.ensures in
    record { domain = is_of me.share d is me.of; waits = (was.0, was.2) }

pub get_mut-requires : goal.get_mut-requires
get_mut-requires c =
    let me = c.args.self.now in
    let was = port.waits me.share c.halting.result.now me.notes.items me.pending c.args.waiter me.cpu c.halting.ensures c.requires.waits c.stands.ensures in
    omega (arith, was.2.low, was.1.noted.long)

pub invariant_of-self : goal.invariant_of-self
invariant_of-self c =
    let me = c.args.self.now in
    let d = c.halting.result.now in
    let is = c.halting.ensures in
    let w = c.args.waiter in
    let was = port.waits me.share d me.notes.items me.pending w me.cpu is c.requires.waits c.stands.ensures in
    let new = c.pv_poll.new.cpu in
    let has = c.pv_poll.ensures.taken c.in-Has.is was.0 was.2 in
    record {
      of = still_in me.share me.cpu new c.pv_poll.ensures.same me.of;
      lasts = λ _. record {
        free = refl;
        lock = subst (λ (e : Domain). w.lock.index < locks_of e.plan) (sym (same_domain me.share d is)) was.2.low;
        kind = port.spins me.share d w.lock.index is;
        holds = held_first has.took.holds;
      };
      stands = ∣ halts_by _ _ me.share d is (port.taken d Lock w.lock.index (own_node new) was.0 new me.notes.items was.1 was.2.low has.took has.rests) ∣₁;
    }

pub invariant_of-self-in-Waits : goal.invariant_of-self-in-Waits
invariant_of-self-in-Waits c =
    let me = c.args.self.now in
    let d = c.halting.result.now in
    let is = c.halting.ensures in
    let w = c.args.waiter in
    let was = port.waits me.share d me.notes.items me.pending w me.cpu is c.requires.waits c.stands.ensures in
    let new = c.pv_poll.new.cpu in
    record {
      of = still_in me.share me.cpu new c.pv_poll.ensures.same me.of;
      lasts = waited (ap is_free c.requires.waits) me.lasts;
      stands = ∣ halts_by _ _ me.share d is (was.0, was.1, c.pv_poll.ensures.waits c.in-Waits.waiter (ap waiter_in c.in-Waits.is) was.0 was.2) ∣₁;
    }

pub invariant_of-self-in-Halts : goal.invariant_of-self-in-Halts
invariant_of-self-in-Halts c =
    let me = c.args.self.now in
    let d = c.halting.result.now in
    let is = c.halting.ensures in
    let w = c.args.waiter in
    let was = port.waits me.share d me.notes.items me.pending w me.cpu is c.requires.waits c.stands.ensures in
    let new = c.pv_poll.new.cpu in
    record {
      of = still_in me.share me.cpu new c.pv_poll.ensures.same me.of;
      lasts = waited (ap is_free c.requires.waits) me.lasts;
      stands = ∣ halts_by _ _ me.share d is (was.0, was.1, c.pv_poll.ensures.waits c.in-Halts.waiter (ap waiter_in c.in-Halts.is) was.0 was.2) ∣₁;
    }
