use Rattle.std.proofs.Common.{length, ap, sym, arith}
use Rattle.lk_names.specs.Workload.{jobs_of, workload_of}
use Rattle.lk_guard.specs.Deeds.{reads_in, writes_in}
use Rattle.lk_workers.proofs.JobCounts.{each_few}
use Rattle.lk_workers.proofs.Starts.{is_through, jobs_shown}
use Rattle.lk_workers.proofs.worker.Worker.work.Goals as goal

pub work-requires-clause-few : goal.work-requires-clause-few
work-requires-clause-few g c =
    let shown = jobs_shown c.args.file.now c.args.index c.get-jobs.result.now c.get-jobs.ensures in
    omega (arith, ap length shown, each_few (workload_of c.args.file.now).jobs c.args.index, c.requires.suits.lawful.jobs)

pub work-requires-clause-share : goal.work-requires-clause-share
work-requires-clause-share g c =
    let shown = jobs_shown c.args.file.now c.args.index c.get-jobs.result.now c.get-jobs.ensures in
    omega (arith, ap writes_in shown, ap (λ l. l.share) c.requires.ready.ledger)

pub work-requires-clause-room : goal.work-requires-clause-room
work-requires-clause-room g c =
    let shown = jobs_shown c.args.file.now c.args.index c.get-jobs.result.now c.get-jobs.ensures in
    omega (arith, ap reads_in shown, ap (λ l. length l.items) c.requires.ready.reads, ap (λ l. l.room) c.requires.ready.reads)

pub returns : goal.returns
returns g c =
    let shown = jobs_shown c.args.file.now c.args.index c.get-jobs.result.now c.get-jobs.ensures in
    is_through (g.D.Guarded.crew c.args.region.now) (jobs_of (workload_of c.args.file.now) c.args.index) c.get-jobs.result.now.items c.args.index
    c.args.self.now (record { cpu = c.work.new.cpu; reads = c.work.new.reads }) (sym shown) c.requires.ready c.work.ensures.stays c.work.ensures.worked
