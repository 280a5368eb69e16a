use Rattle.std.proofs.Common.{ap, refl, subst, sym, ◌∙◌, ◌≡◌, not, ◌&&◌}
use Rattle.lk_run.proofs.Names.{moves_aside, readies, view_of, View}
use Rattle.lk_domain.specs.NodePlays.{AtEntry}
use Rattle.lk_run.proofs.Steps.{rest_both, still_of}
use Rattle.lk_run.proofs.Calling as on
use Rattle.lk_run.proofs.call.Queued.enter.Goals as goal

pub reset-requires-clause-row : goal.reset-requires-clause-row
reset-requires-clause-row c = on.entry c.requires.waits c.requires.node c.args.self.now.node

pub reset-requires-clause-ready : goal.reset-requires-clause-ready
reset-requires-clause-ready c ne = absurd (ne refl)

pub reset-requires-2-clause-domain : goal.reset-requires-2-clause-domain
reset-requires-2-clause-domain c =
    still_of c.args.self.now.call.domain.now c.args.cpu.now c.reset.new.cpu c.reset.ensures.rest c.requires.waits.domain

pub reset-requires-2-clause-row : goal.reset-requires-2-clause-row
reset-requires-2-clause-row c =
    subst (AtEntry c.args.self.now.own c.args.self.now.call.verb) (sym (c.reset.ensures.reset refl))
    (on.entry_at c.requires.waits c.requires.node c.args.self.now.node 1)

pub reset-requires-2-clause-ready : goal.reset-requires-2-clause-ready
reset-requires-2-clause-ready c ne = ap (λ (v : View). v.calls.ready) (c.reset.ensures.reset refl)

pub reset-requires-then-moves_waiters-clause-domain : goal.reset-requires-then-moves_waiters-clause-domain
reset-requires-then-moves_waiters-clause-domain c =
    still_of c.args.self.now.call.domain.now c.args.cpu.now c.reset-2.new.cpu
    (rest_both c.args.cpu.now c.reset.new.cpu c.reset-2.new.cpu c.reset.ensures.rest c.reset-2.ensures.rest) c.requires.waits.domain

pub reset-requires-then-moves_waiters-clause-part : goal.reset-requires-then-moves_waiters-clause-part
reset-requires-then-moves_waiters-clause-part c = sym (c.moves_waiters.ensures ∙ ap moves_aside c.mode.ensures) ∙ c.if-moves_waiters.true

pub reset-requires-then-moves_waiters-clause-row : goal.reset-requires-then-moves_waiters-clause-row
reset-requires-then-moves_waiters-clause-row c =
    let moves = sym (c.moves_waiters.ensures ∙ ap moves_aside c.mode.ensures) ∙ c.if-moves_waiters.true in
    subst (AtEntry c.args.self.now.own c.args.self.now.call.verb)
    (sym (c.reset-2.ensures.reset (λ i. not (moves i) && not (c.requires.waits.domain.awake i)) ∙ ap (readies 2) (c.reset.ensures.reset refl)))
    (on.entry_at c.requires.waits c.requires.node c.args.self.now.node 2)

pub reset-requires-then-moves_waiters-clause-ready : goal.reset-requires-then-moves_waiters-clause-ready
reset-requires-then-moves_waiters-clause-ready c ne =
    let moves = sym (c.moves_waiters.ensures ∙ ap moves_aside c.mode.ensures) ∙ c.if-moves_waiters.true in
    ap (λ (v : View). v.calls.ready) (c.reset-2.ensures.reset (λ i. not (moves i) && not (c.requires.waits.domain.awake i)))

pub reset-requires-then-moves_waiters-2-clause-domain : goal.reset-requires-then-moves_waiters-2-clause-domain
reset-requires-then-moves_waiters-2-clause-domain c =
    still_of c.args.self.now.call.domain.now c.args.cpu.now c.reset-then-moves_waiters.new.cpu
    (rest_both c.args.cpu.now c.reset-2.new.cpu c.reset-then-moves_waiters.new.cpu
    (rest_both c.args.cpu.now c.reset.new.cpu c.reset-2.new.cpu c.reset.ensures.rest c.reset-2.ensures.rest)
    c.reset-then-moves_waiters.ensures.rest) c.requires.waits.domain

pub reset-requires-then-moves_waiters-2-clause-part : goal.reset-requires-then-moves_waiters-2-clause-part
reset-requires-then-moves_waiters-2-clause-part c = sym (c.moves_waiters.ensures ∙ ap moves_aside c.mode.ensures) ∙ c.if-moves_waiters.true

pub reset-requires-then-moves_waiters-2-clause-row : goal.reset-requires-then-moves_waiters-2-clause-row
reset-requires-then-moves_waiters-2-clause-row c =
    let moves = sym (c.moves_waiters.ensures ∙ ap moves_aside c.mode.ensures) ∙ c.if-moves_waiters.true in
    subst (AtEntry c.args.self.now.own c.args.self.now.call.verb)
    (sym (c.reset-then-moves_waiters.ensures.reset refl
    ∙ (ap (readies 3) (c.reset-2.ensures.reset (λ i. not (moves i) && not (c.requires.waits.domain.awake i))) ∙ ap (readies 3) (c.reset.ensures.reset refl))))
    (on.entry_at c.requires.waits c.requires.node c.args.self.now.node 3)

pub reset-requires-then-moves_waiters-2-clause-ready : goal.reset-requires-then-moves_waiters-2-clause-ready
reset-requires-then-moves_waiters-2-clause-ready c ne = ap (λ (v : View). v.calls.ready) (c.reset-then-moves_waiters.ensures.reset refl)

pub returns-then-moves_waiters : goal.returns-then-moves_waiters
returns-then-moves_waiters c =
    let moves = sym (c.moves_waiters.ensures ∙ ap moves_aside c.mode.ensures) ∙ c.if-moves_waiters.true in
    let a = c.args.cpu.now in
    let m = c.reset-then-moves_waiters.new.cpu in
    let b = c.reset-then-moves_waiters-2.new.cpu in
    let reset : view_of m ≡ readies 3 (view_of a) =
    c.reset-then-moves_waiters.ensures.reset refl
    ∙ (ap (readies 3) (c.reset-2.ensures.reset (λ i. not (moves i) && not (c.requires.waits.domain.awake i))) ∙ ap (readies 3) (c.reset.ensures.reset refl)) in
    let rest = rest_both a m b
    (rest_both a c.reset-2.new.cpu m
    (rest_both a c.reset.new.cpu c.reset-2.new.cpu c.reset.ensures.rest c.reset-2.ensures.rest)
    c.reset-then-moves_waiters.ensures.rest) c.reset-then-moves_waiters-2.ensures.rest in
    on.enters c.requires.waits c.requires.node c.args.self.now.node rest 3 m reset (λ i. ((c.reset-then-moves_waiters-2.ensures.row refl).by i).0)

pub returns-else-moves_waiters : goal.returns-else-moves_waiters
returns-else-moves_waiters c =
    let stays = sym (c.moves_waiters.ensures ∙ ap moves_aside c.mode.ensures) ∙ c.if-moves_waiters.false in
    let a = c.args.cpu.now in
    let m = c.reset.new.cpu in
    let b = c.reset-2.new.cpu in
    on.enters c.requires.waits c.requires.node c.args.self.now.node (rest_both a m b c.reset.ensures.rest c.reset-2.ensures.rest) 1 m
    (c.reset.ensures.reset refl)
    (λ i. ((c.reset-2.ensures.row (λ i. not (stays i) && not (c.requires.waits.domain.awake i))).by i).0)
