use Rattle.std.proofs.Common.{true, false, None, subst}
use Rattle.lk_port.proofs.Names.{Lock, Domain, Holds, starting, domain_of}
use Rattle.lk_run.proofs.Steps.{still_of, rest_both}
use Rattle.lk_run.specs.Polled.{Arrived}
use Rattle.lk_port.proofs.Shares.{runs_by, still_in}
use Rattle.lk_names.specs.declared.holder.Manner.TheVariants as manner
use Rattle.lk_port.proofs.Ports as port
use Rattle.lk_port.proofs.port.Port.begins_running.Goals as goal

pub invariant_of-self : goal.invariant_of-self
invariant_of-self c =
    let me = c.args.self.now in
    let d = domain_of me.share in
    let may = c.requires.may in
    let l = c.args.lock.index in
    let idle = port.rests d me.notes.items me.pending me.cpu may.free c.runs.ensures.stands in
    let s = starting me.cpu false None in
    let new = c.arrive.new.cpu in
    let has : Holds d Lock l manner.Spins s new None =
    subst (λ (e : Domain). Holds e Lock l manner.Spins s new None) c.domain.ensures (c.arrive.ensures.holds c.in-None.is false) in
    record {
      of = still_in me.share me.cpu new c.arrive.ensures.rest.same me.of;
      lasts = port.named c.requires.last
          (port.ready may may.free (port.held_first has.taken.holds));
      stands = ∣ port.stands me.share me.notes.items me.pending new c.runs.ensures.runs may.free (port.held d Lock l s new None me.notes.items idle has may.kind) ∣₁;
    }

pub invariant_of-self-in-Some : goal.invariant_of-self-in-Some
invariant_of-self-in-Some c =
    let me = c.args.self.now in
    let d = domain_of me.share in
    let may = c.requires.may in
    let lock = c.args.lock in
    let idle = port.rests d me.notes.items me.pending me.cpu may.free c.runs.ensures.stands in
    let s = starting me.cpu false None in
    let new = c.settles.new.cpu in
    let o = c.settles.new.pending in
    let begun = subst (λ (e : Domain). Arrived e lock.index c.in-Some.arrival.met s c.arrive.new.cpu) c.domain.ensures (c.arrive.ensures.met c.in-Some.arrival c.in-Some.is false) in
    record {
      of = still_in me.share me.cpu new (rest_both me.cpu c.arrive.new.cpu new c.arrive.ensures.rest c.settles.ensures.rest).same me.of;
      lasts = port.other;
      stands = ∣ runs_by _ _ me.share c.runs.ensures.runs (port.settled d me.notes.items lock me.pending o s new c.settles.result idle may.free may.kind
          (λ z. c.settles.ensures.holds z s begun)
          c.settles.ensures.same
          (λ z. c.settles.ensures.waits z s begun)) ∣₁;
    }

pub settles-requires-clause-domain : goal.settles-requires-clause-domain
settles-requires-clause-domain c =
    let me = c.args.self.now in
    still_of (domain_of me.share) me.cpu c.arrive.new.cpu c.arrive.ensures.rest c.runs.ensures.of

pub settles-requires-clause-begun : goal.settles-requires-clause-begun
settles-requires-clause-begun c =
    let s = starting c.args.self.now.cpu true None in
    (s, subst (λ (e : Domain). Arrived e c.args.lock.index c.in-Some.arrival.met s c.arrive.new.cpu) c.domain.ensures (c.arrive.ensures.met c.in-Some.arrival c.in-Some.is true))

pub returns-in-None-clause-taken : goal.returns-in-None-clause-taken
returns-in-None-clause-taken c ok nests =
    let me = c.args.self.now in
    let l = c.args.lock.index in
    subst (λ (e : Domain). Holds e Lock l manner.Spins (starting me.cpu nests None) c.arrive.new.cpu None) c.domain.ensures
    (c.arrive.ensures.holds c.in-None.is nests)

pub returns-in-Some-clause-taken : goal.returns-in-Some-clause-taken
returns-in-Some-clause-taken c e nests =
    let s = starting c.args.self.now.cpu nests None in
    c.settles.ensures.holds e s
    (subst (λ (e : Domain). Arrived e c.args.lock.index c.in-Some.arrival.met s c.arrive.new.cpu) c.domain.ensures (c.arrive.ensures.met c.in-Some.arrival c.in-Some.is nests))
