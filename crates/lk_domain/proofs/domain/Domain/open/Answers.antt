use Rattle.std.proofs.Common.{ap, ◌∙◌, ◌+◌, ◌∷◌, [], length, length-append}
use Rattle.lk_domain.proofs.seats.Openings.{dealt_more}
use Rattle.lk_domain.proofs.domain.Domain.open.Goals as goal

pub loop-number-preserved : goal.loop-number-preserved
loop-number-preserved c =
    let inv = c.loop-number.invariant in
    let items = ap (λ l. l.items) c.push.ensures in
    record {
      table = c.deal.ensures.table ∙ inv.table;
      seat = c.deal.ensures.dealer;
      room = ap (λ l. l.room) c.push.ensures ∙ inv.room;
      many = ap length items ∙ (length-append c.loop-number.cpus.items (c.deal.result ∷ []) ∙ ap (λ n. n + 1) inv.many);
      dealt = dealt_more c.in_ok-domain.domain c.loop-number.cpus.items c.push.new.self.items c.loop-number.number c.deal.result items inv.many inv.dealt c.deal.ensures.cpu;
    }
