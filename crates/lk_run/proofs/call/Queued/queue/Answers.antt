use Rattle.std.proofs.Common.{◌∙◌, ◌≡◌, refl}
use Rattle.lk_run.proofs.Names.{G4, KeepsRest, view_of, Cpu}
use Rattle.lk_run.proofs.Steps.{rest_both, rest_same}
use Rattle.lk_run.specs.{Nodes.{Owns, Steps}, declared.call.Queued.Queued}
use Rattle.lk_run.specs.declared.rest.Rest.TheVariants as rest
use Rattle.lk_run.proofs.Calling as on
use Rattle.lk_run.proofs.Turning as turn
use Rattle.lk_run.proofs.call.Queued.queue.Goals as goal

-- exchanges that failed leave it where it stood
still : (q : Queued) {x y : Cpu} → KeepsRest x y × (view_of y ≡ view_of x) → Steps q G4 Owns G4 Owns x y
still q same = turn.still_steps q.call G4 (Owns q) same.0 same.1

pub loop-init : goal.loop-init
loop-init c = (rest_same c.args.cpu.now, refl)

pub exchange_tail-requires : goal.exchange_tail-requires
exchange_tail-requires c = on.stepped (still c.args.self.now c.loop.invariant) c.requires

pub lead-requires-clause-second : goal.lead-requires-clause-second
lead-requires-clause-second c = tt

pub lead-requires-clause-waits : goal.lead-requires-clause-waits
lead-requires-clause-waits c =
    on.stepped (c.exchange_tail.ensures.first c.in-First.is)
    (on.stepped (still c.args.self.now c.loop.invariant) c.requires)

pub returns-in-First : goal.returns-in-First
returns-in-First c =
    turn.step_turns (still c.args.self.now c.loop.invariant)
    (turn.step_turns (c.exchange_tail.ensures.first c.in-First.is) c.lead.ensures)

pub link-requires-clause-prev : goal.link-requires-clause-prev
link-requires-clause-prev c = c.exchange_tail.ensures.node c.in-Behind.prev c.in-Behind.is

pub link-requires-clause-waits : goal.link-requires-clause-waits
link-requires-clause-waits c =
    on.stepped (c.exchange_tail.ensures.behind c.in-Behind.prev c.in-Behind.is)
    (on.stepped (still c.args.self.now c.loop.invariant) c.requires)

pub wait_turn-requires : goal.wait_turn-requires
wait_turn-requires c =
    on.stepped c.link.ensures
    (on.stepped (c.exchange_tail.ensures.behind c.in-Behind.prev c.in-Behind.is)
    (on.stepped (still c.args.self.now c.loop.invariant) c.requires))

pub returns-in-Behind : goal.returns-in-Behind
returns-in-Behind c =
    turn.step_turns (still c.args.self.now c.loop.invariant)
    (turn.step_turns (c.exchange_tail.ensures.behind c.in-Behind.prev c.in-Behind.is)
    (turn.step_turns c.link.ensures c.wait_turn.ensures))

pub loop-preserved : goal.loop-preserved
loop-preserved c = (
  rest_both c.args.cpu.now c.loop.cpu _ c.loop.invariant.0 c.exchange_tail.ensures.rest,
  c.exchange_tail.ensures.stays c.in-Other.other c.in-Other.is ∙ c.loop.invariant.1,
)

pub returns : goal.returns
returns c =
    let q = c.args.self.now in
    turn.still_turns q.call (rest.Joins (record { own = q.own; met = c.loop.met })) c.loop.invariant.0 c.loop.invariant.1
    (record { nodes = q.node; knows = tt })

pub returns-then-met-tail_unit : goal.returns-then-met-tail_unit
returns-then-met-tail_unit c =
    let q = c.args.self.now in
    turn.step_turns (still q c.loop.invariant)
    (turn.still_turns q.call (rest.Joins (record { own = q.own; met = c.in-Other.other })) c.exchange_tail.ensures.rest
    (c.exchange_tail.ensures.stays c.in-Other.other c.in-Other.is) (record { nodes = q.node; knows = tt }))
