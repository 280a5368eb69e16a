use Rattle.std.proofs.Common.{refl, subst}
use Rattle.lk_port.proofs.Names.{Spins, calls_of, Gains, Domain, domain_of}
use Rattle.lk_rows.specs.declared.setup.Verb.TheVariants.{Try}
use Rattle.lk_port.proofs.Shares.{still_in}
use Rattle.lk_port.proofs.Ports as port
use Rattle.lk_port.proofs.port.Port.tries_running.Goals as goal

pub invariant_of-self : goal.invariant_of-self
invariant_of-self c =
    let me = c.args.self.now in
    let d = domain_of me.share in
    let may = c.requires.may in
    let l = c.args.lock.index in
    let idle = port.rests d me.notes.items me.pending me.cpu may.free c.runs.ensures.stands in
    let new = c.try_lock-has.new.cpu in
    let gains : Gains d Try l Spins (calls_of me.cpu) me.cpu new =
    subst (λ (e : Domain). Gains e Try l Spins (calls_of me.cpu) me.cpu new) c.domain.ensures (c.try_lock-has.ensures.taken c.if-has.true) in
    record {
      of = still_in me.share me.cpu new c.try_lock-has.ensures.rest.same me.of;
      lasts = port.named refl
          (port.ready may may.free (port.held_first gains.taken.holds));
      stands = ∣ port.stands me.share me.notes.items me.pending new c.runs.ensures.runs may.free (port.gained d l me.cpu new Try Spins me.notes.items me.notes.items idle gains
          (port.notes_spin d.plan l me.notes.items idle.noted.long may.kind)) ∣₁;
    }
