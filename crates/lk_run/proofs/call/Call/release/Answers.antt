use Rattle.std.proofs.Common.{subst, sym, ◌≡◌}
use Rattle.lk_run.proofs.Names.{LockName, wait_name, told, ActsIn, frees_by, view_of}
use Rattle.lk_run.proofs.RwSteps as rw
use Rattle.lk_run.proofs.RwRows as rwrow
use Rattle.lk_run.proofs.call.Call.release.Goals as goal

pub release-requires-clause-row : goal.release-requires-clause-row
release-requires-clause-row c =
    let l = c.args.self.now.lock in
    let v = c.args.self.now.verb in
    let name : wait_name l.index ≡ l = (λ i. record { index = l.index; wait = sym c.requires.wait i }) in
    subst (λ (n : LockName). ActsIn (frees_by v) (view_of c.args.cpu.now) v n) name
    (rw.acts_freeing c.args.self.now.domain.now v l.index c.requires.passed.0 c.args.cpu.now c.requires.passed.1 c.requires.passed.2 c.requires.passed.3 c.requires.verb)

pub returns-clause-came : goal.returns-clause-came
returns-clause-came c m s told h =
    let d = c.args.self.now.domain.now in
    let v = c.args.self.now.verb in
    let b = c.release.new.cpu in
    let made = c.release.ensures.step.by in
    rw.on_ends d v c.args.self.now.lock.index m c.args.cpu.now b c.release.ensures.rest c.requires.domain (rw.waits_taking v c.requires.verb)
    made s told h c.requires.verb (λ f. rwrow.frees d.plan.mode b.number f made.found)
