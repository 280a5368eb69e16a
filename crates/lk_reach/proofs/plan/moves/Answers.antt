use Rattle.lk_names.specs.declared.events.Act.TheVariants as act
use Rattle.lk_reach.proofs.apart.Moves.{are_all, among_front}
use Rattle.lk_reach.proofs.plan.moves.Goals as goal

pub returns : goal.returns
returns c =
    let one = c.in_ok-add_steps.ensures in
    let two = c.in_ok-add_handlers.ensures in
    let three = c.in_ok-add_nudges.ensures in
    let four = c.in_ok-add_preempts.ensures in
    let xs = c.add_steps.new.acts.items in
    let ys = c.add_handlers.new.acts.items in
    let zs = c.add_nudges.new.acts.items in
    let us = c.add_preempts.new.acts.items in
    are_all c.args.extras c.args.machine.now.setup us four.only
    (λ p low. among_front zs us four.front (act.Step p)
    (among_front ys zs three.front (act.Step p) (among_front xs ys two.front (act.Step p) (one.all p low))))
    (λ p low some. among_front zs us four.front (act.Interrupt p)
    (among_front ys zs three.front (act.Interrupt p) (two.all p low some)))
    (λ p yes low. among_front zs us four.front (act.Nudge p) (three.all p yes low))
    four.preempts
    four.resumes
