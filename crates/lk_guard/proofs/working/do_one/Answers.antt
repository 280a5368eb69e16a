use Rattle.std.proofs.Common.{ℕ, [], ◌∷◌, ◌++◌, sym, ap, ◌∙◌}
use Rattle.lk_domain.specs.Seats.{ledger_of}
use Rattle.lk_guard.specs.Guards.{guard_in}
use Rattle.lk_guard.proofs.Rounds.{done_write, done_read, seen_record}
use Rattle.lk_guard.proofs.working.do_one.Goals as goal

pub returns-then-writes-clause-done : goal.returns-then-writes-clause-done
returns-then-writes-clause-done g c =
    let crew = g.D.Guarded.crew c.args.region.now in
    let a = c.args.cpu.now in
    let t = c.args.task in
    done_write (guard_in crew.plan) a.number t.number t.job c.write.result (ledger_of a) (ledger_of c.write.new.cpu)
    c.args.reads.now.items (sym c.writes.ensures ∙ c.if-writes.true) c.write.ensures.written

pub returns-else-writes-clause-done : goal.returns-else-writes-clause-done
returns-else-writes-clause-done g c =
    let crew = g.D.Guarded.crew c.args.region.now in
    let a = c.args.cpu.now in
    let t = c.args.task in
    let v = c.read-version.result.0 in
    let reply = c.read-version.result.1 in
    done_read (guard_in crew.plan) a.number t.number v t.job reply (ledger_of a) (ledger_of c.read-version.new.cpu)
    c.args.reads.now.items c.push.new.self.items (sym c.writes.ensures ∙ c.if-writes.false) c.read-version.ensures.read
    (ap (λ l. l.items) c.push.ensures ∙ ap (λ (n : ℕ). c.args.reads.now.items ++ seen_record n t.number v t.job reply ∷ []) c.requires.worker)
