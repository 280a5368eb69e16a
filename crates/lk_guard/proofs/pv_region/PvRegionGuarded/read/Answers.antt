use Rattle.std.proofs.Common.{ℕ, refl, ap, ◌∙◌, subst}
use Rattle.lk_names.specs.declared.holder.Manner.TheVariants.{Spins}
use Rattle.lk_domain.specs.Ledgers.{Ledger, new_look}
use Rattle.lk_domain.specs.Views.{own_number}
use Rattle.lk_domain.specs.Seats.{ledger_of}
use Rattle.lk_guard.specs.Guards.{guard_in}
use Rattle.lk_guard.specs.Reads.{HasLooked}
use Rattle.lk_guard.proofs.Looks.{out_kept, has_read}
use Rattle.lk_guard.proofs.PvBegins.{opens_to_read, taken_to_read}
use Rattle.lk_guard.proofs.pv_region.PvRegionGuarded.read.Goals as goal

pub look-seen-requires-clause-look : goal.look-seen-requires-clause-look
look-seen-requires-clause-look g c =
    record {
      look = new_look Spins c.hold.ensures.begun.trail;
      has = ap (λ (l : Ledger). l.look) c.hold.ensures.begun.ledger;
      none = refl;
    }

pub end-requires-clause-home : goal.end-requires-clause-home
end-requires-clause-home g c =
    let d = c.args.self.now.domain in
    let b = c.hold.new.cpu in
    let begun = c.hold.ensures.begun in
    out_kept (guard_in d.domain.plan) (own_number b.seat.me.0.who.number) c.look-seen.result.0 c.args.job c.look-seen.result.1
    (ledger_of c.args.cpu.now) (ledger_of b) c.look-seen.new.seat.me.0.ledger begun.trail
    (opens_to_read d (ledger_of c.args.cpu.now) (ledger_of b) begun.trail begun.ledger) c.look-seen.ensures.looked
    ∙ c.requires.ready.1.nothing.home

pub returns-clause-read : goal.returns-clause-read
returns-clause-read g c =
    let d = c.args.self.now.domain in
    let h = guard_in d.domain.plan in
    let a = c.args.cpu.now in
    let b = c.hold.new.cpu in
    let e = c.look-seen.new.seat.me.0.ledger in
    let v = c.look-seen.result.0 in
    let reply = c.look-seen.result.1 in
    let begun = c.hold.ensures.begun in
    let looks = subst (λ (n : ℕ). HasLooked h.opening n v c.args.job reply (ledger_of b) e)
    (ap own_number b.numbered ∙ c.hold.ensures.same.number) c.look-seen.ensures.looked in
    has_read h a.number v c.args.job reply (ledger_of a) (ledger_of b) e begun.trail
    (opens_to_read d (ledger_of a) (ledger_of b) begun.trail begun.ledger) looks
    (ledger_of c.end.new.cpu) c.end.ensures.ledger (taken_to_read d a.number begun.trail begun.taken) begun.polled
