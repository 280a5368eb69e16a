-- Each count rises by one at most, as the number of events does by one.
use Rattle.lk_abs.proofs.Recording.{state_told, owing_told, made_told, below}
use Rattle.lk_abs.proofs.kick_record.KickRecord.tell.Goals as goal

pub step-requires-clause-few_owing : goal.step-requires-clause-few_owing
step-requires-clause-few_owing c = below _ _ c.args.self.now.owing.items c.requires.kept.owing c.requires.few

pub step-requires-clause-few_kicks : goal.step-requires-clause-few_kicks
step-requires-clause-few_kicks c = below _ _ c.args.self.now.kicks.items c.requires.kept.kicks c.requires.few

pub returns-clause-state : goal.returns-clause-state
returns-clause-state c =
    state_told c.args.self.now c.step.new.self c.args.event.now c.requires.kept.room c.step.ensures.room c.requires.named c.step.ensures.told

pub returns-clause-kept : goal.returns-clause-kept
returns-clause-kept c =
    let room = c.step.ensures.room in
    record {
      room = record { asleep = room.asleep; kicks = room.kicks; kicked = room.kicked; small = room.small };
      owing = owing_told c.args.self.now c.step.new.self c.args.event.now c.requires.kept.room room c.requires.named c.step.ensures.told _ _ c.requires.kept.owing c.step.ensures.count;
      kicks = made_told c.args.self.now c.step.new.self c.args.event.now c.requires.kept.room room c.requires.named c.step.ensures.told _ _ c.requires.kept.kicks c.step.ensures.count;
    }
