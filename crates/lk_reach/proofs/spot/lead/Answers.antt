use Rattle.lk_reach.proofs.apart.Remembered.{remembered_led}
use Rattle.lk_reach.proofs.spot.lead.Goals as goal

pub returns-in-Some-clause-led : goal.returns-in-Some-clause-led
returns-in-Some-clause-led c =
    remembered_led c.args.machine.now.setup c.args.space.now c.args.steps.now.made.items c.args.spot.now c.args.doing
    c.in-Some.made.now c.led_by.result c.requires.made c.requires.spot c.in-Some.ensures c.led_by.ensures.key c.led_by.ensures.event
