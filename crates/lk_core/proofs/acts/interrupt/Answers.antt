use Rattle.std.proofs.Common.{◌<◌, ap, sym, ◌∙◌, subst, arith}
use Rattle.lk_core.proofs.Names.{handler_frame, HasTop, Machine, settled, HasPrograms, handlers_of}
use Rattle.lk_core.proofs.Names.{Answer}
use Rattle.lk_rows.specs.Machine.{depth_at, handlers_at, push}
use Rattle.lk_core.proofs.ActDone.{has_top, at_most, awake_top, awake_programs, awake_room}
use Rattle.lk_core.proofs.ActDone.{awake_left, interrupt_is}
use Rattle.lk_core.proofs.acts.interrupt.Goals as goal

pub is_about_to_halt-requires : goal.is_about_to_halt-requires
is_about_to_halt-requires c =
    has_top c.args.machine.now c.args.cpu c.requires.range c.requires.sound

pub end_any_halt-requires : goal.end_any_halt-requires
end_any_halt-requires c = has_top c.args.machine.now c.args.cpu c.requires.range c.requires.sound

pub interrupt-requires-clause-top : goal.interrupt-requires-clause-top
interrupt-requires-clause-top c =
    subst (λ (x : Machine). HasTop x c.args.cpu) (sym c.end_any_halt.ensures)
    (awake_top c.args.machine.now c.args.cpu c.requires.range c.requires.sound)

pub interrupt-requires-clause-programs : goal.interrupt-requires-clause-programs
interrupt-requires-clause-programs c =
    subst (λ (x : Machine). HasPrograms x.setup c.args.cpu) (sym c.end_any_halt.ensures)
    (awake_programs c.args.machine.now c.args.cpu c.requires.range c.requires.sound)

pub interrupt-requires-clause-room : goal.interrupt-requires-clause-room
interrupt-requires-clause-room c =
    let low = at_most c.args.machine.now c.args.cpu c.requires.range c.requires.sound in
    subst (λ (x : Machine). depth_at x c.args.cpu < 6) (sym c.end_any_halt.ensures)
    (awake_room c.args.machine.now c.args.cpu c.requires.range c.requires.sound (omega arith))

pub interrupt-requires-clause-left : goal.interrupt-requires-clause-left
interrupt-requires-clause-left c =
    let low = at_most c.args.machine.now c.args.cpu c.requires.range c.requires.sound in
    subst (λ (x : Machine). handlers_at x c.args.cpu < handlers_of x.setup c.args.cpu)
    (sym c.end_any_halt.ensures)
    (awake_left c.args.machine.now c.args.cpu c.requires.range c.requires.sound (omega arith))

pub returns-clause-next : goal.returns-clause-next
returns-clause-next c =
    let m = c.args.machine.now in
    let p = c.args.cpu in
    let low = at_most m p c.requires.range c.requires.sound in
    let is = interrupt_is m p c.requires.range c.requires.sound (grind arith) (omega arith)
    (omega arith) (sym c.is_about_to_halt.ensures ∙ c.if-is_about_to_halt.false) in
    c.interrupt.ensures
    ∙ ap (λ (x : Machine). settled (push x p (handler_frame x p)) p (handler_frame x p))
    c.end_any_halt.ensures ∙ sym (ap (λ (a : Answer). a.0) is)
