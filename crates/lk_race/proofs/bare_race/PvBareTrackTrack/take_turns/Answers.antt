use Rattle.std.proofs.Common.{refl}
use Rattle.lk_names.specs.declared.holder.Manner.TheVariants.{Spins}
use Rattle.lk_rows.specs.declared.setup.Verb.TheVariants.{Lock}
use Rattle.lk_lock.specs.Standing.{TakesLock}
use Rattle.lk_lock.proofs.HaltingSteps.{pv_frees, pv_takes}
use Rattle.lk_lock.proofs.Resting.{holds_none, rests_again}
use Rattle.lk_lock.proofs.Steps.{is_held, none_out}
use Rattle.lk_race.proofs.bare_race.PvBareTrackTrack.take_turns.Goals as goal

pub pv_unlock-requires-clause-held : goal.pv_unlock-requires-clause-held
pv_unlock-requires-clause-held g c =
    let d = c.args.self.now.domain.now in
    let was = c.loop.invariant.rests in
    let old = c.loop.cpu in
    let mid = c.pv_lock.new.cpu in
    is_held 0 Spins old mid
    (pv_takes d.domain old was.ready d.halting mid c.pv_lock.ensures.same.number 0 Lock (λ hs. refl)
    (holds_none d.domain c.args.cpu.now.number old 0 was) c.pv_lock.ensures.taken.took).holding

pub pv_unlock-requires-clause-value : goal.pv_unlock-requires-clause-value
pv_unlock-requires-clause-value g c =
    let d = c.args.self.now.domain.now in
    let was = c.loop.invariant.rests in
    let old = c.loop.cpu in
    let mid = c.pv_lock.new.cpu in
    none_out 0 Spins old mid
    (pv_takes d.domain old was.ready d.halting mid c.pv_lock.ensures.same.number 0 Lock (λ hs. refl)
    (holds_none d.domain c.args.cpu.now.number old 0 was) c.pv_lock.ensures.taken.took).holding

pub loop-preserved : goal.loop-preserved
loop-preserved g c =
    let d = c.args.self.now.domain.now in
    let i = c.args.cpu.now.number in
    let was = c.loop.invariant.rests in
    let old = c.loop.cpu in
    let mid = c.pv_lock.new.cpu in
    let new = c.pv_unlock.new.cpu in
    let taken : TakesLock d.domain Lock 0 old mid =
    pv_takes d.domain old was.ready d.halting mid c.pv_lock.ensures.same.number 0 Lock (λ hs. refl)
    (holds_none d.domain i old 0 was) c.pv_lock.ensures.taken.took in
    let freed = pv_frees d.domain mid taken.ready d.halting new c.pv_unlock.ensures.same.number 0 c.pv_unlock.ensures.freed.ended in
    let rests = rests_again d.domain i old new was freed.ready (freed.before old taken.holding) in
    record { number = rests.number; rests = rests }
