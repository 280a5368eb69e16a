use Rattle.std.proofs.Common.{set, true, refl, arith}
use Rattle.lk_port.proofs.Names.{own_node, first_of}
use Rattle.lk_rows.specs.declared.setup.Verb.TheVariants.{Try}
use Rattle.lk_port.proofs.Ports.{held_first, named, ready}
use Rattle.lk_port.proofs.Shares.{is_of, low_in, still_in}
use Rattle.lk_port.proofs.HaltingPorts as port
use Rattle.lk_port.proofs.port.Port.tries_halting.Goals as goal

pub pv_try_lock-has-requires : goal.pv_try_lock-has-requires
pv_try_lock-has-requires c =
    let me = c.args.self.now in
    let d = c.halting.result.now in
    let is = c.halting.ensures in
    let may = c.requires.may in
    record {
      domain = is_of me.share d is me.of;
      lock = low_in me.share d is may.lock;
      rests = (port.rests me.share d me.notes.items me.pending me.cpu is may.free c.stands.ensures).0;
      free = may.holds;
    }

pub get_mut-requires : goal.get_mut-requires
get_mut-requires c =
    let me = c.args.self.now in
    let d = c.halting.result.now in
    let is = c.halting.ensures in
    let may = c.requires.may in
    let low = low_in me.share d is may.lock in
    let r = port.rests me.share d me.notes.items me.pending me.cpu is may.free c.stands.ensures in
    omega (arith, low, r.1.noted.long)

pub invariant_of-self : goal.invariant_of-self
invariant_of-self c =
    let me = c.args.self.now in
    let d = c.halting.result.now in
    let is = c.halting.ensures in
    let may = c.requires.may in
    let l = c.args.lock.index in
    let r = port.rests me.share d me.notes.items me.pending me.cpu is may.free c.stands.ensures in
    let new = c.pv_try_lock-has.new.cpu in
    let has = c.pv_try_lock-has.ensures.taken c.if-has.true in
    record {
      of = still_in me.share me.cpu new c.pv_try_lock-has.ensures.same me.of;
      lasts = named refl (ready may may.free (held_first has.took.holds));
      stands = ∣ port.stands me.share d (set me.notes.items l true) me.pending new is may.free
          (port.taken d Try l (own_node me.cpu) (first_of Try l me.cpu.seat) new me.notes.items r.1 (low_in me.share d is may.lock) has.took has.rests) ∣₁;
    }
