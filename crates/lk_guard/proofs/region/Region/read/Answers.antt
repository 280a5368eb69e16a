use Rattle.std.proofs.Common.{ℕ, refl, ap, ◌∙◌, subst}
use Rattle.lk_domain.specs.Ledgers.{Ledger, new_look}
use Rattle.lk_domain.specs.Plans.{kind_at}
use Rattle.lk_domain.specs.Seats.{ledger_of}
use Rattle.lk_domain.specs.Views.{own_number}
use Rattle.lk_guard.specs.Guards.{guard_in, reads_as}
use Rattle.lk_guard.specs.Reads.{HasLooked, HasRead}
use Rattle.lk_guard.proofs.Looks.{out_kept, has_read}
use Rattle.lk_guard.proofs.region.Region.read.Goals as goal

pub look-seen-requires-clause-look : goal.look-seen-requires-clause-look
look-seen-requires-clause-look g c =
    record {
      look = new_look (reads_as (kind_at c.args.self.now.domain.plan 0)) c.hold_to_read.ensures.begun.trail;
      has = ap (λ (l : Ledger). l.look) c.hold_to_read.ensures.begun.ledger;
      none = refl;
    }

pub end_read-requires-clause-home : goal.end_read-requires-clause-home
end_read-requires-clause-home g c =
    let b = c.hold_to_read.new.cpu in
    let begun = c.hold_to_read.ensures.begun in
    out_kept (guard_in c.args.self.now.domain.plan) (own_number b.seat.me.0.who.number) c.look-seen.result.0 c.args.job
    c.look-seen.result.1 (ledger_of c.args.cpu.now) (ledger_of b) c.look-seen.new.seat.me.0.ledger begun.trail begun.ledger c.look-seen.ensures.looked
    ∙ c.requires.idle.home

pub returns-clause-read : goal.returns-clause-read
returns-clause-read g c =
    let h = guard_in c.args.self.now.domain.plan in
    let a = c.args.cpu.now in
    let b = c.hold_to_read.new.cpu in
    let e = c.look-seen.new.seat.me.0.ledger in
    let v = c.look-seen.result.0 in
    let reply = c.look-seen.result.1 in
    let begun = c.hold_to_read.ensures.begun in
    let looks = subst (λ (n : ℕ). HasLooked h.opening n v c.args.job reply (ledger_of b) e) (ap own_number b.numbered) c.look-seen.ensures.looked in
    let done = has_read h b.number v c.args.job reply (ledger_of a) (ledger_of b) e begun.trail begun.ledger looks
    (ledger_of c.end_read.new.cpu) c.end_read.ensures.ledger begun.taken begun.polled in
    subst (λ p. HasRead h p v c.args.job reply (ledger_of a) (ledger_of c.end_read.new.cpu) (g.I.Irq.polls c.args.irq.now)
    (g.I.Irq.polls c.hold_to_read.new.irq)) c.hold_to_read.ensures.same.number done
