use Rattle.std.proofs.Common.{◌≢◌, ◌%◌, inl, inr, refl, sym, subst, arith, ◌∙◌}
use Rattle.lk_pvdomain.proofs.Names.{H2, Lock, steal_fails, At, Steals}
use Rattle.lk_pvdomain.proofs.Fails.{tried, steal_failed, steal_again}
use Rattle.lk_pvdomain.proofs.{ways.Arrives.{kept, h2_takes, h2_again, h2_joins}, ways.Leads.acts}
use Rattle.lk_pvdomain.specs.PvRows.{tries_steal}
use Rattle.lk_pvdomain.proofs.call.Queued.take_past.Goals as goal

pub try_steal-met-requires : goal.try_steal-met-requires
try_steal-met-requires c =
    let w = c.requires.1 in
    record { on = (_, w.of); lock = w.low; expected = omega (arith, c.without_low_byte-expected.ensures); row = acts w tries_steal refl }

pub returns-then-met-expected-clause-takes : goal.returns-then-met-expected-clause-takes
returns-then-met-expected-clause-takes c e s w =
    let t = c.try_steal-met.ensures.step in
    let is = c.if-met-expected.true in
    h2_takes c.try_steal-met.ensures.same w
    (tried steal_fails Lock c.args.self.now.lock _ c.args.seat.now.me c.try_steal-met.result c.try_steal-met.new.seat.me t (inl is))
    (omega (arith, is, c.without_low_byte-expected.ensures))

pub returns-then-low_byte-eq0-clause-stays : goal.returns-then-low_byte-eq0-clause-stays
returns-then-low_byte-eq0-clause-stays c met e s w =
    let t = c.try_steal-met.ensures.step in
    kept c.try_steal-met.ensures.same w
    (t.stays c.if-met-expected.false (steal_again _ t.found c.try_steal-met.result t.word (sym c.low_byte.ensures ∙ c.if-low_byte-eq0.true)))

pub returns-clause-again : goal.returns-clause-again
returns-clause-again c met e tailed s w =
    let t = c.try_steal-met.ensures.step in
    let ne : c.try_steal-met.result % 256 ≢ 0 = λ h. c.if-low_byte-eq0.false (c.low_byte.ensures ∙ h) in
    h2_again c.try_steal-met.ensures.same (subst (λ b. At c.args.self.now s H2 (Steals b) c.args.seat.now) tailed w)
    (tried steal_fails Lock c.args.self.now.lock _ c.args.seat.now.me c.try_steal-met.result c.try_steal-met.new.seat.me t
    (inr (steal_failed _ t.found c.try_steal-met.result t.word ne))) ne

pub returns-clause-joins : goal.returns-clause-joins
returns-clause-joins c met e tailed s w =
    let t = c.try_steal-met.ensures.step in
    let ne : c.try_steal-met.result % 256 ≢ 0 = λ h. c.if-low_byte-eq0.false (c.low_byte.ensures ∙ h) in
    h2_joins c.try_steal-met.ensures.same (subst (λ b. At c.args.self.now s H2 (Steals b) c.args.seat.now) tailed w)
    (tried steal_fails Lock c.args.self.now.lock _ c.args.seat.now.me c.try_steal-met.result c.try_steal-met.new.seat.me t
    (inr (steal_failed _ t.found c.try_steal-met.result t.word ne))) ne
