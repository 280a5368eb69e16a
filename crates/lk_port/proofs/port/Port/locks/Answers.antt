use Rattle.std.proofs.Common.{ap, None, refl, subst, sym}
use Rattle.lk_port.proofs.Names.{Lock, Domain, Holds, domain_of, StandsRunning, Pending}
use Rattle.lk_run.specs.Polled.{Waits}
use Rattle.lk_port.proofs.Shares.{is_running, runs_by, runs_pending, still_in}
use Rattle.lk_port.specs.declared.pending.Pending.TheVariants.{Spins}
use Rattle.lk_names.specs.declared.holder.Manner.TheVariants as manner
use Rattle.lk_port.proofs.Ports as port
use Rattle.lk_port.proofs.port.Port.locks.Goals as goal

pub runs-requires : goal.runs-requires
runs-requires c =
    let me = c.args.self.now in
    runs_pending me.share me.notes.items me.pending me.cpu (ap is_running c.requires.waits) me.stands

pub invariant_of-self : goal.invariant_of-self
invariant_of-self c =
    let me = c.args.self.now in
    let d = domain_of me.share in
    let w = c.args.waiter in
    let same = c.domain.ensures in
    let was : StandsRunning d me.notes.items (Spins w) me.cpu = subst (λ (o : Pending). StandsRunning d me.notes.items o me.cpu) c.requires.waits c.runs.ensures.stands in
    let waits : Waits c.domain.result.now w was.0 me.cpu = subst (λ (e : Domain). Waits e w was.0 me.cpu) (sym same) was.3 in
    let has : Holds d Lock w.lock.index manner.Spins was.0 c.poll.new.cpu None =
    subst (λ (e : Domain). Holds e Lock w.lock.index manner.Spins was.0 c.poll.new.cpu None) same (c.poll.ensures.holds c.in-None.is was.0 waits) in
    record {
      of = still_in me.share me.cpu c.poll.new.cpu c.poll.ensures.rest.same me.of;
      lasts = λ _. record {
        free = refl;
        lock = was.3.low;
        kind = was.2;
        holds = port.held_first has.taken.holds;
      };
      stands = ∣ runs_by _ _ me.share c.runs.ensures.runs (port.held d Lock w.lock.index was.0 c.poll.new.cpu None me.notes.items was.1 has was.2) ∣₁;
    }
