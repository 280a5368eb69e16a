use Rattle.std.proofs.Common.{arith, ℕ, ap, sym, subst}
use Rattle.lk_reach.proofs.Names.{top_frame}
use Rattle.lk_reach.specs.Deeds.{IsThat}
use Rattle.lk_reach.proofs.deeds.is_sought.Goals as goal

pub lock-requires : goal.lock-requires
lock-requires c =
    let cpu = c.cpu_of-cpu.ensures in
    let range = c.requires.range in
    c.requires.sound.1.whole.tops c.cpu_of-cpu.result (omega (arith, cpu, range))

pub returns-then-not-is_that-clause-no : goal.returns-then-not-is_that-clause-no
returns-then-not-is_that-clause-no c = λ _ found.
    c.is_that.ensures.no c.if-not-is_that.true (subst (IsThat c.args.sought.cpu) (sym c.cpu_of-cpu.ensures) found.cpu)

pub returns-then-not-is_that-2-clause-no : goal.returns-then-not-is_that-2-clause-no
returns-then-not-is_that-2-clause-no c = λ _ found.
    c.is_that-2.ensures.no c.if-not-is_that-2.true
    (subst (IsThat c.args.sought.lock) (sym (ap (λ l. l.index) c.lock.ensures))
    (subst (λ (p : ℕ). IsThat c.args.sought.lock (top_frame c.args.machine.now p).lock.index) (sym c.cpu_of-cpu.ensures) found.lock))

pub returns : goal.returns
returns c =
    let cpu = c.cpu_of-cpu.ensures in
    record {
      yes = λ made. record {
        does = c.does.ensures.yes made;
        cpu = subst (IsThat c.args.sought.cpu) cpu (c.is_that.ensures.yes c.if-not-is_that.false);
        lock = subst (λ (p : ℕ). IsThat c.args.sought.lock (top_frame c.args.machine.now p).lock.index) cpu
            (subst (IsThat c.args.sought.lock) (ap (λ l. l.index) c.lock.ensures) (c.is_that-2.ensures.yes c.if-not-is_that-2.false));
      };
      no = λ not_made found. c.does.ensures.no not_made found.does;
      such = c.does.ensures.such;
    }
