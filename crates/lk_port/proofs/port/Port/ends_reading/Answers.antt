use Rattle.lk_port.proofs.Names.{calls_of, domain_of}
use Rattle.lk_rows.specs.declared.parts.Pc.TheVariants.{Z1}
use Rattle.lk_port.proofs.Shares.{runs_rw, still_in}
use Rattle.lk_port.proofs.Ports as port
use Rattle.lk_port.proofs.port.Port.ends_reading.Goals as goal

pub runs-requires : goal.runs-requires
runs-requires c = runs_rw c.args.self.now.share c.args.lock.index c.requires.may.kind

pub read_unlock-requires-clause-value : goal.read_unlock-requires-clause-value
read_unlock-requires-clause-value c =
    let me = c.args.self.now in
    let d = domain_of me.share in
    let may = c.requires.may in
    let l = c.args.lock.index in
    let idle = port.rests d me.notes.items me.pending me.cpu may.free c.runs.ensures.stands in
    port.none_out (calls_of me.cpu).holds l idle.home

pub invariant_of-self : goal.invariant_of-self
invariant_of-self c =
    let me = c.args.self.now in
    let d = domain_of me.share in
    let may = c.requires.may in
    let l = c.args.lock.index in
    let idle = port.rests d me.notes.items me.pending me.cpu may.free c.runs.ensures.stands in
    let new = c.read_unlock.new.cpu in
    record {
      of = still_in me.share me.cpu new c.read_unlock.ensures.rest.same me.of;
      lasts = port.other;
      stands = ∣ port.stands me.share me.notes.items me.pending new c.runs.ensures.runs may.free (port.left d l me.cpu new Z1 me.notes.items idle c.read_unlock.ensures.left) ∣₁;
    }
