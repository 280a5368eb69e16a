use Rattle.std.proofs.Common.{ap, None, true, subst, sym, arith}
use Rattle.lk_port.proofs.Names.{Domain, CameIn, domain_of, StandsRunning, Pending}
use Rattle.lk_rows.specs.declared.setup.Verb.TheVariants.{Write}
use Rattle.lk_run.specs.PolledWrite.{Waits}
use Rattle.lk_port.proofs.Shares.{is_running, runs_by, runs_pending, still_in}
use Rattle.lk_port.specs.declared.pending.Pending.TheVariants.{Writes}
use Rattle.lk_names.specs.declared.holder.Manner.TheVariants as manner
use Rattle.lk_port.proofs.Ports as port
use Rattle.lk_port.proofs.port.Port.comes_to_write.Goals as goal

pub runs-requires : goal.runs-requires
runs-requires c =
    let me = c.args.self.now in
    runs_pending me.share me.notes.items me.pending me.cpu (ap is_running c.requires.waits) me.stands

pub invariant_of-self : goal.invariant_of-self
invariant_of-self c =
    let me = c.args.self.now in
    let d = domain_of me.share in
    let w = c.args.waiter in
    let same = c.domain.ensures in
    let was : StandsRunning d me.notes.items (Writes w) me.cpu = subst (λ (o : Pending). StandsRunning d me.notes.items o me.cpu) c.requires.waits c.runs.ensures.stands in
    let waits : Waits c.domain.result.now w was.0 me.cpu = subst (λ (e : Domain). Waits e w was.0 me.cpu) (sym same) was.3 in
    let has : CameIn d Write w.lock.index manner.Writes was.0 c.poll_write.new.cpu None =
    subst (λ (e : Domain). CameIn e Write w.lock.index manner.Writes was.0 c.poll_write.new.cpu None) same (c.poll_write.ensures.entered c.in-None.is was.0 waits) in
    record {
      of = still_in me.share me.cpu c.poll_write.new.cpu c.poll_write.ensures.rest.same me.of;
      lasts = port.waited (ap port.is_free c.requires.waits) me.lasts;
      stands = ∣ runs_by _ _ me.share c.runs.ensures.runs (port.came d Write w.lock.index true was.0 c.poll_write.new.cpu None me.notes.items was.1 has was.3.low was.2) ∣₁;
    }

pub invariant_of-self-in-Some : goal.invariant_of-self-in-Some
invariant_of-self-in-Some c =
    let me = c.args.self.now in
    let d = domain_of me.share in
    let w = c.args.waiter in
    let v = c.in-Some.waiter in
    let same = c.domain.ensures in
    let was : StandsRunning d me.notes.items (Writes w) me.cpu = subst (λ (o : Pending). StandsRunning d me.notes.items o me.cpu) c.requires.waits c.runs.ensures.stands in
    let waits : Waits c.domain.result.now w was.0 me.cpu = subst (λ (e : Domain). Waits e w was.0 me.cpu) (sym same) was.3 in
    let goes : Waits d v was.0 c.poll_write.new.cpu =
    subst (λ (e : Domain). Waits e v was.0 c.poll_write.new.cpu) same (c.poll_write.ensures.waits v c.in-Some.is was.0 waits) in
    record {
      of = still_in me.share me.cpu c.poll_write.new.cpu c.poll_write.ensures.rest.same me.of;
      lasts = port.waited (ap port.is_free c.requires.waits) me.lasts;
      stands = ∣ runs_by _ _ me.share c.runs.ensures.runs (was.0, was.1, port.same_kind d w.lock v.lock (c.poll_write.ensures.lock v c.in-Some.is) was.2, goes) ∣₁;
    }

pub get_mut-requires : goal.get_mut-requires
get_mut-requires c =
    let me = c.args.self.now in
    let d = domain_of me.share in
    let was : StandsRunning d me.notes.items (Writes c.args.waiter) me.cpu = subst (λ (o : Pending). StandsRunning d me.notes.items o me.cpu) c.requires.waits c.runs.ensures.stands in
    omega (arith, was.3.low, was.1.noted.long)
