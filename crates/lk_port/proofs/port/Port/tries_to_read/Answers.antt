use Rattle.std.proofs.Common.{set, false, subst, arith}
use Rattle.lk_port.proofs.Names.{calls_of, Gains, Domain, domain_of}
use Rattle.lk_rows.specs.declared.setup.Verb.TheVariants.{TryRead}
use Rattle.lk_port.proofs.Shares.{runs_rw, still_in}
use Rattle.lk_names.specs.declared.holder.Manner.TheVariants as manner
use Rattle.lk_port.proofs.Ports as port
use Rattle.lk_port.proofs.port.Port.tries_to_read.Goals as goal

pub runs-requires : goal.runs-requires
runs-requires c = runs_rw c.args.self.now.share c.args.lock.index c.requires.may.kind

pub invariant_of-self : goal.invariant_of-self
invariant_of-self c =
    let me = c.args.self.now in
    let d = domain_of me.share in
    let may = c.requires.may in
    let l = c.args.lock.index in
    let idle = port.rests d me.notes.items me.pending me.cpu may.free c.runs.ensures.stands in
    let new = c.try_read-has.new.cpu in
    let gains : Gains d TryRead l manner.Reads (calls_of me.cpu) me.cpu new =
    subst (λ (e : Domain). Gains e TryRead l manner.Reads (calls_of me.cpu) me.cpu new) c.domain.ensures (c.try_read-has.ensures.taken c.if-has.true) in
    record {
      of = still_in me.share me.cpu new c.try_read-has.ensures.rest.same me.of;
      lasts = port.other;
      stands = ∣ port.stands me.share (set me.notes.items l false) me.pending new c.runs.ensures.runs may.free
          (port.gained d l me.cpu new TryRead manner.Reads me.notes.items (set me.notes.items l false) idle gains
          (port.notes_rw d.plan l false me.notes.items idle.noted.long may.lock may.kind)) ∣₁;
    }

pub get_mut-requires : goal.get_mut-requires
get_mut-requires c =
    let me = c.args.self.now in
    let may = c.requires.may in
    let idle = port.rests (domain_of me.share) me.notes.items me.pending me.cpu may.free c.runs.ensures.stands in
    omega (arith, may.lock, idle.noted.long)
