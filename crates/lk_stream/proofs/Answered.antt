-- The answer to a text whose reading has stopped.
use Rattle.std.proofs.Common.{◌≡◌, ◌≢◌, ◌++◌, ◌≤◌, ◌⊎◌, ℕ, List, [], Option, Result, Ok, Err, IfOk, IfErr, inl, inr, refl, arith}
use Rattle.std.specs.Io.KnownBytes.{Appends}
use Rattle.lk_text.specs.Causes.{Rose}
use Rattle.lk_text.specs.Bytes.{AppendsFront}
use Rattle.lk_text.proofs.Conveyed.{all_conveyed, conveyed_all, front_of_conveyed, front_of_more, front_of_rest}
use Rattle.lk_forms.specs.declared.answers.LineRefusal.TheVariants.{Bad, Limit}
use Rattle.lk_stream.specs.Grammar.{Grammar, Good, Refused}
use Rattle.lk_stream.specs.Outside.{outside}
use Rattle.lk_stream.specs.Outcome.{Done, CutByWrite, FaultMeans}
use Rattle.lk_stream.specs.Stands.{StopsAtEnd, FaultStops, FaultRose}
use Rattle.lk_stream.specs.declared.answers.ReplayFault.{ReplayFault}
use Rattle.lk_stream.specs.declared.answers.ReplayFault.TheVariants as fault

module _ {S : Type 0} (g : Grammar S) (shows : S → Type 0)
    (input left held held_now held' : Option (List ℕ)) (reads reads_now writes writes' : ℕ)
    (waits : List ℕ) where
  pub ended_whole : (s : StopsAtEnd g shows input held waits left held_now)
      → Appends held_now held' (waits ++ g.closing s.said)
      → Done g (outside input reads held writes) (outside left reads_now held' writes') s.said
  ended_whole s put =
      record {
        ends = s.ends;
        good = s.good;
        all_read = s.over;
        written =
            conveyed_all held held_now held' [] waits _ _ s.written put;
      }

  pub ended_cut : (s : StopsAtEnd g shows input held waits left held_now) → Rose writes writes'
      → AppendsFront held_now held' (waits ++ g.closing s.said)
      → CutByWrite g (outside input reads held writes) (outside left reads_now held' writes')
  ended_cut s rose cut =
      record {
        rose = rose;
        saying = Good s.said;
        says = s.good;
        written =
            front_of_rest held held_now held' [] waits _ _ s.written cut;
      }

module _ {S : Type 0} (g : Grammar S) (input left held held_now held' : Option (List ℕ))
    (reads reads_now writes writes' : ℕ) (waits : List ℕ) where
  pub stopped_whole : (f : ReplayFault) → f ≢ fault.WriteFault → f ≢ fault.Memory
      → FaultStops g input held waits left held_now f → FaultRose reads reads_now writes writes' f
      → Appends held_now held' waits
      → FaultMeans g (outside input reads held writes) (outside left reads_now held' writes') f
  stopped_whole (fault.BadInput line why) other known s rose put =
      record {
        said = s.said;
        refused = s.refused;
        written =
            all_conveyed held held_now held' _ _ _ s.written put;
      }
  stopped_whole (fault.Limit line which) other known s rose put =
      record {
        said = s.said;
        refused = s.refused;
        written =
            all_conveyed held held_now held' _ _ _ s.written put;
      }
  stopped_whole fault.ReadFault other known s rose put =
      record {
        rose = rose;
        taken = s.taken;
        consumed = s.consumed;
        written =
            all_conveyed held held_now held' _ _ _ s.written put;
      }
  stopped_whole fault.WriteFault other known s rose put = absurd (other refl)
  stopped_whole fault.Memory other known s rose put = absurd (known refl)

  pub stopped_cut : (f : ReplayFault) → f ≢ fault.WriteFault → f ≢ fault.Memory
      → FaultStops g input held waits left held_now f → Rose writes writes'
      → AppendsFront held_now held' waits
      → CutByWrite g (outside input reads held writes) (outside left reads_now held' writes')
  stopped_cut (fault.BadInput line why) other known s rose cut =
      record {
        rose = rose;
        saying = Refused line (Bad why) s.said;
        says = s.refused;
        written =
            front_of_conveyed held held_now held' _ _ _ s.written cut;
      }
  stopped_cut (fault.Limit line which) other known s rose cut =
      record {
        rose = rose;
        saying = Refused line (Limit which) s.said;
        says = s.refused;
        written =
            front_of_conveyed held held_now held' _ _ _ s.written cut;
      }
  stopped_cut fault.ReadFault other known s rose cut = record {
    rose = rose;
    saying = s.from.saying;
    says = s.from.says;
    written =
        rw s.from.whole
        (front_of_more held held' _ s.from.more
        (front_of_conveyed held held_now held' _ _ _ s.written cut));
  }
  stopped_cut fault.WriteFault other known s rose cut = absurd (other refl)
  stopped_cut fault.Memory other known s rose cut = absurd (known refl)

  -- where nothing is to be put any more
  pub stopped_already : (f : ReplayFault) → FaultStops g input held waits left held_now f
      → FaultRose reads reads_now writes writes' f
      → (f ≡ fault.WriteFault) ⊎ (f ≡ fault.Memory)
      → FaultMeans g (outside input reads held writes) (outside left reads_now held_now writes') f
  stopped_already (fault.BadInput line why) s rose is =
      elim is [ inl e ↦ absurd (cc) | inr e ↦ absurd (cc) ]
  stopped_already (fault.Limit line which) s rose is =
      elim is [ inl e ↦ absurd (cc) | inr e ↦ absurd (cc) ]
  stopped_already fault.ReadFault s rose is = elim is [ inl e ↦ absurd (cc) | inr e ↦ absurd (cc) ]
  stopped_already fault.WriteFault s rose is =
      record { rose = rose; saying = s.saying; says = s.says; written = s.written }
  stopped_already fault.Memory s rose is = s

-- a fault that came in a later part came in the whole
pub rose_sooner : (reads reads_now writes writes_between writes_now : ℕ) (f : ReplayFault)
    → writes_between ≤ writes_now
    → FaultRose reads reads_now writes writes_between f
    → FaultRose reads reads_now writes writes_now f
rose_sooner reads reads_now writes writes_between writes_now (fault.BadInput line why) le rose = tt
rose_sooner reads reads_now writes writes_between writes_now (fault.Limit line which) le rose = tt
rose_sooner reads reads_now writes writes_between writes_now fault.ReadFault le rose = rose
rose_sooner reads reads_now writes writes_between writes_now fault.WriteFault le rose =
    omega (arith, rose, le)
rose_sooner reads reads_now writes writes_between writes_now fault.Memory le rose = tt

-- what holds of the value, and of the fault
pub if_ok-map : {T E : Type 0} (r : Result T E) (P Q : T → Type 0) → ((t : T) → P t → Q t)
    → IfOk r P → IfOk r Q
if_ok-map (Ok t) P Q f p = f t p
if_ok-map (Err e) P Q f p = tt

pub if_err-map : {T E : Type 0} (r : Result T E) (P Q : E → Type 0) → ((e : E) → P e → Q e)
    → IfErr r P → IfErr r Q
if_err-map (Ok t) P Q f p = tt
if_err-map (Err e) P Q f p = f e p
