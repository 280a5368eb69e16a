use Rattle.std.proofs.Common.{sym, subst, ◌∙◌}
use Rattle.lk_pvdomain.proofs.Names.{H2, At, Steals}
use Rattle.lk_pvdomain.proofs.ways.Arrives.{steals, looks_again, joins}
use Rattle.lk_pvdomain.proofs.call.Queued.look.Goals as goal

pub steal-requires : goal.steal-requires
steal-requires c =
    let s = c.requires.0 in (
      s,
      subst (λ b. At c.args.self.now s H2 (Steals b) c.glance-seen.new.seat) (sym c.is_queued.ensures)
          (steals c.glance-seen.result.word (c.glance-seen.ensures s c.requires.1) (sym c.is_open.ensures ∙ c.if-is_open.true)),
    )

pub returns-then-is_open : goal.returns-then-is_open
returns-then-is_open c s w =
    c.steal.ensures s
    (subst (λ b. At c.args.self.now s H2 (Steals b) c.glance-seen.new.seat) (sym c.is_queued.ensures)
    (steals c.glance-seen.result.word (c.glance-seen.ensures s w) (sym c.is_open.ensures ∙ c.if-is_open.true)))

pub returns-then-is_passing : goal.returns-then-is_passing
returns-then-is_passing c s w =
    looks_again c.glance-seen.result.word (c.glance-seen.ensures s w) (sym c.is_open.ensures ∙ c.if-is_open.false) (sym c.is_passing.ensures ∙ c.if-is_passing.true)

pub queue-requires : goal.queue-requires
queue-requires c = (
  c.requires.0,
  joins c.glance-seen.result.word (c.glance-seen.ensures c.requires.0 c.requires.1) (sym c.is_open.ensures ∙ c.if-is_open.false)
      (sym c.is_passing.ensures ∙ c.if-is_passing.false),
)

pub returns : goal.returns
returns c s w =
    c.queue.ensures s
    (joins c.glance-seen.result.word (c.glance-seen.ensures s w) (sym c.is_open.ensures ∙ c.if-is_open.false) (sym c.is_passing.ensures ∙ c.if-is_passing.false))
