use Rattle.std.proofs.Common.{None, false, true, set, subst, arith}
use Rattle.lk_port.proofs.Names.{Domain, CameIn, starting, domain_of}
use Rattle.lk_rows.specs.declared.setup.Verb.TheVariants.{Write}
use Rattle.lk_run.specs.PolledWrite.{Waits}
use Rattle.lk_port.proofs.Shares.{runs_by, runs_rw, still_in}
use Rattle.lk_names.specs.declared.holder.Manner.TheVariants as manner
use Rattle.lk_port.proofs.Ports as port
use Rattle.lk_port.proofs.port.Port.begins_to_write.Goals as goal

pub runs-requires : goal.runs-requires
runs-requires c = runs_rw c.args.self.now.share c.args.lock.index c.requires.may.kind

pub invariant_of-self : goal.invariant_of-self
invariant_of-self c =
    let me = c.args.self.now in
    let d = domain_of me.share in
    let may = c.requires.may in
    let l = c.args.lock.index in
    let idle = port.rests d me.notes.items me.pending me.cpu may.free c.runs.ensures.stands in
    let s = starting me.cpu false None in
    let new = c.begin_write.new.cpu in
    let has : CameIn d Write l manner.Writes s new None =
    subst (λ (e : Domain). CameIn e Write l manner.Writes s new None) c.domain.ensures (c.begin_write.ensures.entered c.in-None.is false) in
    record {
      of = still_in me.share me.cpu new c.begin_write.ensures.rest.same me.of;
      lasts = port.other;
      stands = ∣ port.stands me.share (set me.notes.items l true) me.pending new c.runs.ensures.runs may.free
          (port.came d Write l true s new None me.notes.items idle has may.lock may.kind) ∣₁;
    }

pub invariant_of-self-in-Some : goal.invariant_of-self-in-Some
invariant_of-self-in-Some c =
    let me = c.args.self.now in
    let d = domain_of me.share in
    let may = c.requires.may in
    let idle = port.rests d me.notes.items me.pending me.cpu may.free c.runs.ensures.stands in
    let s = starting me.cpu false None in
    let w = c.in-Some.waiter in
    let new = c.begin_write.new.cpu in
    let waits : Waits d w s new =
    subst (λ (e : Domain). Waits e w s new) c.domain.ensures (c.begin_write.ensures.waits w c.in-Some.is false) in
    record {
      of = still_in me.share me.cpu new c.begin_write.ensures.rest.same me.of;
      lasts = port.other;
      stands = ∣ runs_by _ _ me.share c.runs.ensures.runs (s, idle, port.same_kind d c.args.lock w.lock (c.begin_write.ensures.lock w c.in-Some.is) may.kind, waits) ∣₁;
    }

pub get_mut-requires : goal.get_mut-requires
get_mut-requires c =
    let me = c.args.self.now in
    let may = c.requires.may in
    let idle = port.rests (domain_of me.share) me.notes.items me.pending me.cpu may.free c.runs.ensures.stands in
    omega (arith, may.lock, idle.noted.long)
