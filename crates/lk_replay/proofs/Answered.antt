-- The answer of a replay that has stopped.
use Rattle.std.proofs.Common.{◌≡◌, ◌≢◌, ◌++◌, ◌≤◌, ℕ, List, [], Option, Result, Ok, Err, IfErr, length, ap, ◌∙◌, subst, refl, arith}
use Rattle.std.specs.Io.KnownBytes.{Appends}
use Rattle.std.proofs.KnownBytes.{Appends-nil, Keeps-refl}
use Rattle.lk_names.specs.Lawful.{IsLawful}
use Rattle.lk_text.specs.Causes.{Rose}
use Rattle.lk_text.specs.Bytes.{AppendsFront}
use Rattle.lk_text.specs.Block.{waiting}
use Rattle.lk_text.proofs.Conveyed.{all_conveyed, conveyed_all, front_of_conveyed, front_of_rest}
use Rattle.lk_rows.specs.Run.{events_of}
use Rattle.lk_rows.specs.Rules.{rules_of}
use Rattle.lk_forms.specs.Texts.{closing}
use Rattle.lk_forms.specs.Trace.{Good, Refused}
use Rattle.lk_forms.specs.declared.answers.LineRefusal.TheVariants.{Bad, Limit}
use Rattle.lk_stream.specs.Outside.{outside}
use Rattle.lk_replay.specs.Outcome.{Outcome, Replayed, CutByWrite, as_replay_fault}
use Rattle.lk_replay.specs.Transcript.{history_of_run, lines_of_run, counts_of_run}
use Rattle.lk_replay.specs.Header.{OpenRefused}
use Rattle.lk_replay.specs.Stands.{StopsAtEnd, FaultStops, FaultRose, HasCauses}
use Rattle.lk_stream.specs.declared.answers.ReplayFault.{ReplayFault}
use Rattle.lk_stream.specs.declared.answers.ReplayFault.TheVariants as replay
use Rattle.lk_replay.specs.declared.answers.RunFault.{RunFault}
use Rattle.lk_replay.specs.declared.answers.RunFault.TheVariants as fault
use Rattle.lk_replay.specs.declared.replaying.Replaying.{Replaying}
use Rattle.lk_replay.proofs.Turns.{fails_with}

module _ (input left held held_now held' : Option (List ℕ)) (reads reads_now writes writes' : ℕ) (r : Replaying) where
  closing_is : (s : StopsAtEnd input held r left held_now) → closing r.run.acts r.run.machine.counts ≡ closing (length s.acts) (counts_of_run s.setup s.acts)
  closing_is s = ap (λ n. closing n r.run.machine.counts) s.ran.acts ∙ ap (λ m. closing (length s.acts) m.counts) s.ran.machine

  pub ended_whole : StopsAtEnd input held r left held_now → Appends held_now held' (waiting r.block ++ closing r.run.acts r.run.machine.counts)
      → Replayed (outside input reads held writes) (outside left reads_now held' writes') (record { acts = r.run.acts; events = r.run.events; counts = r.run.machine.counts })
  ended_whole s put = record {
    setup = s.setup;
    acts = s.acts;
    good = s.good;
    all_read = s.over;
    written = subst (λ t. Appends held held' (lines_of_run s.setup s.acts ++ t)) (closing_is s) (conveyed_all held held_now held' [] (waiting r.block) _ _ s.written put);
    acts_made = s.ran.acts;
    events = s.ran.events;
    counts = ap (λ m. m.counts) s.ran.machine;
    lawful = subst (λ x. IsLawful (rules_of x) (events_of (history_of_run s.setup s.acts))) s.ran.setup_is s.ran.lawful.lawful;
  }

  pub ended_cut : StopsAtEnd input held r left held_now → Rose writes writes' → AppendsFront held_now held' (waiting r.block ++ closing r.run.acts r.run.machine.counts)
      → CutByWrite (outside input reads held writes) (outside left reads_now held' writes')
  ended_cut s rose cut = record {
    rose = rose;
    said = Good s.setup s.acts;
    says = s.good;
    written = subst (λ t. AppendsFront held held' (lines_of_run s.setup s.acts ++ t)) (closing_is s) (front_of_rest held held_now held' [] (waiting r.block) _ _ s.written cut);
  }

  pub stopped_whole : (f : RunFault) → f ≢ fault.WriteFault → FaultStops input held r left held_now f → FaultRose reads reads_now writes writes' f → Appends held_now held' (waiting r.block)
      → Outcome (outside input reads held writes) (outside left reads_now held' writes') (Err (as_replay_fault f))
  stopped_whole (fault.BadInput line why) other s rose put = record { setup = s.setup; acts = s.acts; refused = s.refused; written = all_conveyed held held_now held' _ _ _ s.written put }
  stopped_whole (fault.Limit line which) other s rose put = record { setup = s.setup; acts = s.acts; refused = s.refused; written = all_conveyed held held_now held' _ _ _ s.written put }
  stopped_whole fault.ReadFault other s rose put = record { rose = rose; taken = s.taken; consumed = s.consumed; written = all_conveyed held held_now held' _ _ _ s.written put }
  stopped_whole fault.WriteFault other s rose put = absurd (other refl)

  pub stopped_cut : (f : RunFault) → f ≢ fault.WriteFault → FaultStops input held r left held_now f → Rose writes writes' → AppendsFront held_now held' (waiting r.block)
      → CutByWrite (outside input reads held writes) (outside left reads_now held' writes')
  stopped_cut (fault.BadInput line why) other s rose cut =
      record { rose = rose; said = Refused line (Bad why) s.setup s.acts; says = s.refused; written = front_of_conveyed held held_now held' _ _ _ s.written cut }
  stopped_cut (fault.Limit line which) other s rose cut =
      record { rose = rose; said = Refused line (Limit which) s.setup s.acts; says = s.refused; written = front_of_conveyed held held_now held' _ _ _ s.written cut }
  stopped_cut fault.ReadFault other s rose cut =
      let failed = fails_with input held held' _ _ s.from (front_of_conveyed held held_now held' _ _ _ s.written cut) in
      record { rose = rose; said = failed.said; says = failed.says; written = failed.written }
  stopped_cut fault.WriteFault other s rose cut = absurd (other refl)

-- where there is no replayer, nothing was written
pub open_refused : (input left held : Option (List ℕ)) (reads reads_now writes writes' : ℕ) (f : ReplayFault) → OpenRefused input left reads reads_now f
    → Outcome (outside input reads held writes) (outside left reads_now held writes') (Err f)
open_refused input left held reads reads_now writes writes' (replay.BadInput line why) s = record { setup = s.setup; acts = []; refused = s.refused; written = Appends-nil held }
open_refused input left held reads reads_now writes writes' (replay.Limit line which) s = record { setup = s.setup; acts = []; refused = s.refused; written = Appends-nil held }
open_refused input left held reads reads_now writes writes' replay.ReadFault s = record { rose = s.rose; taken = s.taken; consumed = s.consumed; written = rw s.no_acts (Appends-nil held) }
open_refused input left held reads reads_now writes writes' replay.WriteFault s = absurd s
open_refused input left held reads reads_now writes writes' replay.Memory s = record { not_written = Keeps-refl held }

-- a fault that came in a later part came in the whole
pub causes_sooner : {T : Type 0} (reads reads_now writes writes_between writes_now : ℕ) (result : Result T RunFault) → writes ≤ writes_between
    → HasCauses reads reads_now writes_between writes_now result → HasCauses reads reads_now writes writes_now result
causes_sooner reads reads_now writes writes_between writes_now result le c =
    record { reads_later = c.reads_later; writes_later = (let later = c.writes_later in omega (arith, le, later)); rose = by_result result c.rose }
  where
    by_fault : (f : RunFault) → FaultRose reads reads_now writes_between writes_now f → FaultRose reads reads_now writes writes_now f
    by_fault (fault.BadInput line why) rose = tt
    by_fault (fault.Limit line which) rose = tt
    by_fault fault.ReadFault rose = rose
    by_fault fault.WriteFault rose = omega (arith, rose, le)

    by_result : {T : Type 0} (x : Result T RunFault) → IfErr x (FaultRose reads reads_now writes_between writes_now) → IfErr x (FaultRose reads reads_now writes writes_now)
    by_result (Ok t) rose = tt
    by_result (Err f) rose = by_fault f rose
