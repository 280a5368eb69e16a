use Rattle.std.proofs.Common.{refl, ◌+◌, ◌<◌, ◌≤◌, ℕ, length, drop, sym, ◌∙◌, subst, arith}
use Rattle.lk_guard.specs.Deeds.{HasDone, reads_in}
use Rattle.lk_guard.specs.Guards.{guard_in}
use Rattle.lk_domain.specs.Seats.{ledger_of}
use Rattle.lk_guard.proofs.Begins.{same_as}
use Rattle.lk_guard.proofs.Rounds.{has_share, has_room, next_share, next_room, next_worked}
use Rattle.lk_guard.proofs.working.Guarded.work.Goals as goal

pub do_one-requires-clause-share : goal.do_one-requires-clause-share
do_one-requires-clause-share g c =
    let l = c.loop-index in
    let lt : l.index < length c.args.jobs.now.items = let t = c.loop-index-test.true in let len = c.len-index-end.ensures in omega arith in
    has_share c.args.jobs.now.items l.index c.get.result.now lt c.get.ensures (ledger_of l.cpu).share l.invariant.share

pub do_one-requires-clause-room : goal.do_one-requires-clause-room
do_one-requires-clause-room g c =
    let l = c.loop-index in
    let lt : l.index < length c.args.jobs.now.items = let t = c.loop-index-test.true in let len = c.len-index-end.ensures in omega arith in
    has_room c.args.jobs.now.items l.index c.get.result.now lt c.get.ensures (length l.reads.items) l.reads.room l.invariant.left

pub loop-index-preserved : goal.loop-index-preserved
loop-index-preserved g c =
    let crew = g.Self.Guarded.crew c.args.self.now in
    let h = guard_in crew.plan in
    let jobs = c.args.jobs.now.items in
    let job = c.get.result.now in
    let l = c.loop-index in
    let inv = l.invariant in
    let a = c.args.cpu.now in
    let p : ℕ = l.cpu.number in
    let old = ledger_of l.cpu in
    let new = ledger_of c.do_one.new.cpu in
    let before = l.reads.items in
    let after = c.do_one.new.reads.items in
    let n = l.index + 1 in
    let lt : l.index < length jobs = let t = c.loop-index-test.true in let len = c.len-index-end.ensures in omega arith in
    let is = c.do_one.ensures.done in
    record {
      stays = record { same = same_as a l.cpu c.do_one.new.cpu c.do_one.ensures.stays.same inv.stays.same; ready = c.do_one.ensures.stays.ready };
      share = next_share jobs l.index job lt c.get.ensures h p n old new before after is inv.share;
      left = (let m : ℕ = length before + reads_in (drop l.index jobs) in
          next_room jobs l.index job lt c.get.ensures h p n old new before after is c.do_one.new.reads.room
          (subst (λ (k : ℕ). m ≤ k) (sym c.do_one.ensures.room) inv.left));
      room = c.do_one.ensures.room ∙ inv.room;
      worked = next_worked jobs l.index job lt c.get.ensures h a.number n old new before after
          (subst (λ (p : ℕ). HasDone h p n job old new before after) inv.stays.same.number is) (ledger_of a) c.args.reads.now.items refl inv.worked;
    }
