use Rattle.std.proofs.Common.{sym, ◌∙◌, ◌≡◌}
use Rattle.lk_run.proofs.Names.{G7, G8, G9}
use Rattle.lk_run.proofs.Places.{first_of_three}
use Rattle.lk_run.specs.declared.rest.Rest.TheVariants as rest
use Rattle.lk_run.proofs.Calling as on
use Rattle.lk_run.proofs.Turning as turn
use Rattle.lk_run.proofs.call.Front.wait_open.Goals as goal

pub wait_as_front-requires : goal.wait_as_front-requires
wait_as_front-requires c = c.requires

pub take_sole-requires : goal.take_sole-requires
take_sole-requires c = on.stepped (turn.step_is c.in-G8.is (c.wait_as_front.ensures.goes (λ e. let z : G8 ≡ G7 = sym c.in-G8.is ∙ e in cc z))) c.requires

pub returns-then-take_sole : goal.returns-then-take_sole
returns-then-take_sole c = turn.step_turns (turn.step_is c.in-G8.is (c.wait_as_front.ensures.goes (λ e. let z : G8 ≡ G7 = sym c.in-G8.is ∙ e in cc z))) (turn.takes_turns (c.take_sole.ensures.taken c.if-take_sole.true))

pub stake-requires : goal.stake-requires
stake-requires c = on.stepped (c.take_sole.ensures.others c.if-take_sole.false) (on.stepped (turn.step_is c.in-G8.is (c.wait_as_front.ensures.goes (λ e. let z : G8 ≡ G7 = sym c.in-G8.is ∙ e in cc z))) c.requires)

pub returns-else-take_sole : goal.returns-else-take_sole
returns-else-take_sole c = turn.step_turns (turn.step_is c.in-G8.is (c.wait_as_front.ensures.goes (λ e. let z : G8 ≡ G7 = sym c.in-G8.is ∙ e in cc z))) (turn.step_turns (c.take_sole.ensures.others c.if-take_sole.false) c.stake.ensures)

pub stake-requires-in-G9 : goal.stake-requires-in-G9
stake-requires-in-G9 c = on.stepped (turn.step_is c.in-G9.is (c.wait_as_front.ensures.goes (λ e. let z : G9 ≡ G7 = sym c.in-G9.is ∙ e in cc z))) c.requires

pub returns-in-G9 : goal.returns-in-G9
returns-in-G9 c = turn.step_turns (turn.step_is c.in-G9.is (c.wait_as_front.ensures.goes (λ e. let z : G9 ≡ G7 = sym c.in-G9.is ∙ e in cc z))) c.stake-in-G9.ensures

pub returns-in_default : goal.returns-in_default
returns-in_default c =
    let look = c.wait_as_front.ensures.stays (first_of_three c.wait_as_front.result c.wait_as_front.ensures.place c.in_default.not-G8 c.in_default.not-G9) in
    turn.look_turns (rest.Leads (record { own = c.args.self.now.own; second = c.args.self.now.second })) look (record { nodes = record { own = c.args.self.now.node; second = c.args.self.now.aside }; knows = tt })
