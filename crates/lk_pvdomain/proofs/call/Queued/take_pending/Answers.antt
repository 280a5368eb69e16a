use Rattle.std.proofs.Common.{inl, inr, refl, sym, arith, ◌∙◌}
use Rattle.lk_pvdomain.proofs.Names.{eqb-false, eqb-true, Lock, head_fails}
use Rattle.lk_pvdomain.proofs.{Fails.{tried, head_failed, head_again}, ways.Arrives.kept}
use Rattle.lk_pvdomain.proofs.ways.Leads.{acts, e4_takes, e4_last, e4_again}
use Rattle.lk_pvdomain.specs.PvRows.{tries_head}
use Rattle.lk_pvdomain.proofs.call.Queued.take_pending.Goals as goal

pub look_head-seen-requires : goal.look_head-seen-requires
look_head-seen-requires c =
    let w = c.requires.1 in
    record { on = (_, w.of); lock = w.low; row = acts w tries_head refl }

pub returns-then-not-is_free_for_pending-clause-last : goal.returns-then-not-is_free_for_pending-clause-last
returns-then-not-is_free_for_pending-clause-last c n e low s w =
    let t = c.look_head-seen.ensures.step in
    let seen = c.look_head-seen.result in
    let ne = eqb-false _ _ (sym c.is_free_for_pending.ensures ∙ c.if-not-is_free_for_pending.true) in
    let k = tried head_fails Lock c.args.self.now.lock 0 c.args.seat.now.me seen c.look_head-seen.new.seat.me t (inr (head_failed _ t.found seen t.word ne)) in
    e4_last c.look_head-seen.ensures.same w k ne low

pub returns-then-not-is_free_for_pending-clause-again : goal.returns-then-not-is_free_for_pending-clause-again
returns-then-not-is_free_for_pending-clause-again c n e more s w =
    let t = c.look_head-seen.ensures.step in
    let seen = c.look_head-seen.result in
    let ne = eqb-false _ _ (sym c.is_free_for_pending.ensures ∙ c.if-not-is_free_for_pending.true) in
    let k = tried head_fails Lock c.args.self.now.lock 0 c.args.seat.now.me seen c.look_head-seen.new.seat.me t (inr (head_failed _ t.found seen t.word ne)) in
    e4_again c.look_head-seen.ensures.same w k ne (λ z. omega (arith, more, z))

pub try_head-met-requires : goal.try_head-met-requires
try_head-met-requires c =
    let t = c.look_head-seen.ensures.step in
    let seen = c.look_head-seen.result in
    let free = eqb-true _ _ (sym c.is_free_for_pending.ensures ∙ c.if-not-is_free_for_pending.false) in
    let v = kept c.look_head-seen.ensures.same c.requires.1 (t.stays (λ z. omega (arith, z, free)) (head_again _ t.found seen t.word free)) in
    record { on = (_, v.of); lock = v.low; expected = free; row = acts v tries_head refl }

pub returns-then-met-seen-clause-takes : goal.returns-then-met-seen-clause-takes
returns-then-met-seen-clause-takes c e s w =
    let t = c.look_head-seen.ensures.step in
    let seen = c.look_head-seen.result in
    let free = eqb-true _ _ (sym c.is_free_for_pending.ensures ∙ c.if-not-is_free_for_pending.false) in
    let v = kept c.look_head-seen.ensures.same w (t.stays (λ z. omega (arith, z, free)) (head_again _ t.found seen t.word free)) in
    let is = c.if-met-seen.true in
    e4_takes c.try_head-met.ensures.same v
    (tried head_fails Lock c.args.self.now.lock seen c.look_head-seen.new.seat.me c.try_head-met.result c.try_head-met.new.seat.me c.try_head-met.ensures.step (inl is))
    (omega (arith, is, free))

pub returns-then-is_free_for_pending-clause-stays : goal.returns-then-is_free_for_pending-clause-stays
returns-then-is_free_for_pending-clause-stays c n e s w =
    let t = c.look_head-seen.ensures.step in
    let seen = c.look_head-seen.result in
    let free = eqb-true _ _ (sym c.is_free_for_pending.ensures ∙ c.if-not-is_free_for_pending.false) in
    let v = kept c.look_head-seen.ensures.same w (t.stays (λ z. omega (arith, z, free)) (head_again _ t.found seen t.word free)) in
    let u = c.try_head-met.ensures.step in
    let again = eqb-true _ _ (sym c.is_free_for_pending-2.ensures ∙ c.if-is_free_for_pending.true) in
    kept c.try_head-met.ensures.same v (u.stays c.if-met-seen.false (head_again _ u.found c.try_head-met.result u.word again))

pub returns-clause-last : goal.returns-clause-last
returns-clause-last c n e low s w =
    let r = c.look_head-seen.ensures.step in
    let seen = c.look_head-seen.result in
    let free = eqb-true _ _ (sym c.is_free_for_pending.ensures ∙ c.if-not-is_free_for_pending.false) in
    let v = kept c.look_head-seen.ensures.same w (r.stays (λ z. omega (arith, z, free)) (head_again _ r.found seen r.word free)) in
    let t = c.try_head-met.ensures.step in
    let met = c.try_head-met.result in
    let ne = eqb-false _ _ (sym c.is_free_for_pending-2.ensures ∙ c.if-is_free_for_pending.false) in
    let k = tried head_fails Lock c.args.self.now.lock c.look_head-seen.result c.look_head-seen.new.seat.me met c.try_head-met.new.seat.me t
    (inr (head_failed _ t.found met t.word ne)) in
    e4_last c.try_head-met.ensures.same v k ne low

pub returns-clause-again : goal.returns-clause-again
returns-clause-again c n e more s w =
    let r = c.look_head-seen.ensures.step in
    let seen = c.look_head-seen.result in
    let free = eqb-true _ _ (sym c.is_free_for_pending.ensures ∙ c.if-not-is_free_for_pending.false) in
    let v = kept c.look_head-seen.ensures.same w (r.stays (λ z. omega (arith, z, free)) (head_again _ r.found seen r.word free)) in
    let t = c.try_head-met.ensures.step in
    let met = c.try_head-met.result in
    let ne = eqb-false _ _ (sym c.is_free_for_pending-2.ensures ∙ c.if-is_free_for_pending.false) in
    let k = tried head_fails Lock c.args.self.now.lock c.look_head-seen.result c.look_head-seen.new.seat.me met c.try_head-met.new.seat.me t
    (inr (head_failed _ t.found met t.word ne)) in
    e4_again c.try_head-met.ensures.same v k ne (λ z. omega (arith, more, z))
