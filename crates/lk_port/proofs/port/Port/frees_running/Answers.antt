use Rattle.lk_port.proofs.Names.{calls_of, domain_of}
use Rattle.lk_port.proofs.Shares.{still_in}
use Rattle.lk_port.proofs.Ports as port
use Rattle.lk_port.proofs.port.Port.frees_running.Goals as goal

pub unlock-requires-clause-value : goal.unlock-requires-clause-value
unlock-requires-clause-value c =
    let me = c.args.self.now in
    let d = domain_of me.share in
    let may = c.requires.may in
    let l = c.args.lock.index in
    let idle = port.rests d me.notes.items me.pending me.cpu may.free c.runs.ensures.stands in
    port.none_out (calls_of me.cpu).holds l idle.home

pub invariant_of-self : goal.invariant_of-self
invariant_of-self c =
    let me = c.args.self.now in
    let d = domain_of me.share in
    let may = c.requires.may in
    let l = c.args.lock.index in
    let idle = port.rests d me.notes.items me.pending me.cpu may.free c.runs.ensures.stands in
    let new = c.unlock.new.cpu in
    record {
      of = still_in me.share me.cpu new c.unlock.ensures.rest.same me.of;
      lasts = port.named c.requires.last (port.ready may may.free c.unlock.ensures.freed.freed.none);
      stands = ∣ port.stands me.share me.notes.items me.pending new c.runs.ensures.runs may.free (port.dropped d l me.cpu new me.notes.items idle c.unlock.ensures.freed) ∣₁;
    }
