-- Each event leaves the record of the lock as the history says, since it breaks no clause.
use Rattle.std.proofs.Common.{◌<◌, suc, length, arith}
use Rattle.std.proofs.lemmas.Option.{slice_get_within}
use Rattle.lk_abs.proofs.Holding.{held-push, hold_left, held-without}
use Rattle.lk_abs.proofs.QueueRoom.{in_order-push, in_order-pop, in_order-passed, in_order-rejoined, room_left, total_within}
use Rattle.lk_abs.proofs.Clauses.{counts-passed}
use Rattle.lk_abs.proofs.Telling.{new_from_take, new_from_rtake, new_from_wtake, sole-front, leave-front, next_from_pass, few_from_pass, new_from_arrive}
use Rattle.lk_names.specs.Lists.{history_of_lists}
use Rattle.lk_abs.proofs.lock_record.LockRecord.tell.Goals as goal
use Rattle.lk_names.specs.declared.holder.Manner.TheVariants.{Spins, Reads, Writes}

pub push-requires : goal.push-requires
push-requires c =
    let clear = rw (← c.self.view_is, c.in-Take.is) at c.requires.clear in
    let one = rw (← c.self.view_is) at c.requires.in_range in
    let new = new_from_take c.args.rules.now c.self.inside.holders.items c.self.inside.lists c.args.by c.in-Take.lock c.in-Take.how clear in
    hold_left c.self.inside.lists.main.room c.self.inside.holders c.args.by Spins c.self.invariant.1 one new

pub invariant_of-self-in_default-how : goal.invariant_of-self-in_default-how
invariant_of-self-in_default-how c =
    let clear = rw (← c.self.view_is, c.in-Take.is) at c.requires.clear in
    let one = rw (← c.self.view_is) at c.requires.in_range in
    let new = new_from_take c.args.rules.now c.self.inside.holders.items c.self.inside.lists c.args.by c.in-Take.lock c.in-Take.how clear in
    (c.self.invariant.0, rw c.push.ensures (held-push c.self.inside.lists.main.room c.self.inside.holders c.args.by Spins c.self.invariant.1 one new))

pub pop_front-requires : goal.pop_front-requires
pop_front-requires c =
    let clear = rw (← c.self.view_is, c.in-Take.is, c.in-Sole.is) at c.requires.clear in
    sole-front c.args.rules.now c.self.inside.holders.items c.self.inside.lists c.args.by c.in-Take.lock clear

pub invariant_of-self : goal.invariant_of-self
invariant_of-self c =
    let clear = rw (← c.self.view_is, c.in-Take.is) at c.requires.clear in
    let one = rw (← c.self.view_is) at c.requires.in_range in
    let new = new_from_take c.args.rules.now c.self.inside.holders.items c.self.inside.lists c.args.by c.in-Take.lock c.in-Take.how clear in (
      in_order-pop c.self.inside.lists c.self.invariant.0 c.pop_front.result c.pop_front.new.self c.pop_front.ensures.items c.pop_front.ensures.room,
      rw (c.pop_front.ensures.room, c.push.ensures) (held-push c.self.inside.lists.main.room c.self.inside.holders c.args.by Spins c.self.invariant.1 one new),
    )

pub push-requires-in-RTake : goal.push-requires-in-RTake
push-requires-in-RTake c =
    let clear = rw (← c.self.view_is, c.in-RTake.is) at c.requires.clear in
    let one = rw (← c.self.view_is) at c.requires.in_range in
    let new = new_from_rtake c.args.rules.now c.self.inside.holders.items c.self.inside.lists c.args.by c.in-RTake.lock c.in-RTake.how clear in
    hold_left c.self.inside.lists.main.room c.self.inside.holders c.args.by Reads c.self.invariant.1 one new

pub invariant_of-self-in-RTake : goal.invariant_of-self-in-RTake
invariant_of-self-in-RTake c =
    let clear = rw (← c.self.view_is, c.in-RTake.is) at c.requires.clear in
    let one = rw (← c.self.view_is) at c.requires.in_range in
    let new = new_from_rtake c.args.rules.now c.self.inside.holders.items c.self.inside.lists c.args.by c.in-RTake.lock c.in-RTake.how clear in
    (c.self.invariant.0, rw c.push-in-RTake.ensures (held-push c.self.inside.lists.main.room c.self.inside.holders c.args.by Reads c.self.invariant.1 one new))

pub push-requires-in-WTake : goal.push-requires-in-WTake
push-requires-in-WTake c =
    let clear = rw (← c.self.view_is, c.in-WTake.is) at c.requires.clear in
    let one = rw (← c.self.view_is) at c.requires.in_range in
    let new = new_from_wtake c.args.rules.now c.self.inside.holders.items c.self.inside.lists c.args.by c.in-WTake.lock c.in-WTake.how clear in
    hold_left c.self.inside.lists.main.room c.self.inside.holders c.args.by Writes c.self.invariant.1 one new

pub invariant_of-self-in-WTake : goal.invariant_of-self-in-WTake
invariant_of-self-in-WTake c =
    let clear = rw (← c.self.view_is, c.in-WTake.is) at c.requires.clear in
    let one = rw (← c.self.view_is) at c.requires.in_range in
    let new = new_from_wtake c.args.rules.now c.self.inside.holders.items c.self.inside.lists c.args.by c.in-WTake.lock c.in-WTake.how clear in
    (c.self.invariant.0, rw c.push-in-WTake.ensures (held-push c.self.inside.lists.main.room c.self.inside.holders c.args.by Writes c.self.invariant.1 one new))

pub invariant_of-self-in-Release : goal.invariant_of-self-in-Release
invariant_of-self-in-Release c =
    (c.self.invariant.0, rw c.let_go.ensures (held-without c.args.by Spins c.self.inside.lists.main.room c.self.inside.holders c.self.invariant.1))

pub invariant_of-self-in-RRelease : goal.invariant_of-self-in-RRelease
invariant_of-self-in-RRelease c =
    (c.self.invariant.0, rw c.let_go-in-RRelease.ensures (held-without c.args.by Reads c.self.inside.lists.main.room c.self.inside.holders c.self.invariant.1))

pub invariant_of-self-in-WRelease : goal.invariant_of-self-in-WRelease
invariant_of-self-in-WRelease c =
    (c.self.invariant.0, rw c.let_go-in-WRelease.ensures (held-without c.args.by Writes c.self.inside.lists.main.room c.self.inside.holders c.self.invariant.1))

pub push-requires-in-Arrive : goal.push-requires-in-Arrive
push-requires-in-Arrive c =
    let clear = rw (← c.self.view_is, c.in-Arrive.is) at c.requires.clear in
    let one = rw (← c.self.view_is) at c.requires.in_range in
    room_left c.self.inside.holders.items c.self.inside.lists c.args.by c.self.invariant.0 one (new_from_arrive c.args.rules.now c.self.inside.holders.items c.self.inside.lists c.args.by c.in-Arrive.lock clear)

pub invariant_of-self-in-Arrive : goal.invariant_of-self-in-Arrive
invariant_of-self-in-Arrive c =
    let clear = rw (← c.self.view_is, c.in-Arrive.is) at c.requires.clear in
    let one = rw (← c.self.view_is) at c.requires.in_range in
    rw c.push-in-Arrive.ensures (in_order-push c.self.inside.holders.items c.self.inside.lists c.args.by c.self.invariant.0 one (new_from_arrive c.args.rules.now c.self.inside.holders.items c.self.inside.lists c.args.by c.in-Arrive.lock clear), c.self.invariant.1)

pub pop_front-requires-in-Leave : goal.pop_front-requires-in-Leave
pop_front-requires-in-Leave c =
    let clear = rw (← c.self.view_is, c.in-Leave.is) at c.requires.clear in
    leave-front c.args.rules.now c.self.inside.holders.items c.self.inside.lists c.args.by c.in-Leave.lock clear

pub invariant_of-self-in-Leave : goal.invariant_of-self-in-Leave
invariant_of-self-in-Leave c = (
  in_order-pop c.self.inside.lists c.self.invariant.0 c.pop_front-in-Leave.result c.pop_front-in-Leave.new.self c.pop_front-in-Leave.ensures.items c.pop_front-in-Leave.ensures.room,
  rw c.pop_front-in-Leave.ensures.room c.self.invariant.1,
)

pub hand_on-requires-clause-second : goal.hand_on-requires-clause-second
hand_on-requires-clause-second c =
    let clear = rw (← c.self.view_is, c.in-Pass.is) at c.requires.clear in
    let next = next_from_pass c.args.rules.now c.self.inside.holders.items c.self.inside.lists c.args.by c.in-Pass.lock c.in-Pass.to c.in-Pass.moved clear in
    let far : suc c.in-Pass.moved < length c.self.inside.lists.main.items = slice_get_within c.self.inside.lists.main.items (suc c.in-Pass.moved) c.in-Pass.to next in
    omega (arith, far, total_within c.self.inside.lists c.self.invariant.0, c.self.invariant.0.second_room)

pub hand_on-requires-clause-passes : goal.hand_on-requires-clause-passes
hand_on-requires-clause-passes c =
    let clear = rw (← c.self.view_is, c.in-Pass.is) at c.requires.clear in
    let next = next_from_pass c.args.rules.now c.self.inside.holders.items c.self.inside.lists c.args.by c.in-Pass.lock c.in-Pass.to c.in-Pass.moved clear in
    let far : suc c.in-Pass.moved < length c.self.inside.lists.main.items = slice_get_within c.self.inside.lists.main.items (suc c.in-Pass.moved) c.in-Pass.to next in
    omega (arith, far, total_within c.self.inside.lists c.self.invariant.0, c.self.invariant.0.passes_room, c.self.invariant.0.counted)

pub invariant_of-self-in-Pass : goal.invariant_of-self-in-Pass
invariant_of-self-in-Pass c =
    let clear = rw (← c.self.view_is, c.in-Pass.is) at c.requires.clear in
    let next = next_from_pass c.args.rules.now c.self.inside.holders.items c.self.inside.lists c.args.by c.in-Pass.lock c.in-Pass.to c.in-Pass.moved clear in
    let few = few_from_pass c.args.rules.now c.self.inside.holders.items c.self.inside.lists c.args.by c.in-Pass.lock c.in-Pass.to c.in-Pass.moved c.requires.small c.self.invariant.0.counted clear in
    let counted = counts-passed (history_of_lists c.self.inside.holders.items c.self.inside.lists) c.in-Pass.moved c.in-Pass.to c.self.invariant.0.counted next in
    rw c.hand_on.ensures (in_order-passed c.self.inside.lists c.self.invariant.0 c.in-Pass.moved counted few, c.self.invariant.1)

pub rejoin-requires-clause-room : goal.rejoin-requires-clause-room
rejoin-requires-clause-room c = total_within c.self.inside.lists c.self.invariant.0

pub invariant_of-self-in-Flush : goal.invariant_of-self-in-Flush
invariant_of-self-in-Flush c =
    rw c.rejoin.ensures (in_order-rejoined c.self.inside.lists c.self.invariant.0, c.self.invariant.1)
