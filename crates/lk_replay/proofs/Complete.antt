-- What the answers of a replay exclude, since a text says one thing; and a replay in two parts.
use Rattle.std.proofs.Common.{◌≡◌, ◌≢◌, IsOk, ◌⊎◌, ◌≤◌, ℕ, List, Option, Some, Result, Ok, Err, IsOkUnless, IsErrAnd, refl, sym, ap, ◌∙◌, subst, inl, inr, arith}
use Rattle.lk_names.specs.declared.events.Act.{Act}
use Rattle.lk_text.specs.Causes.{Rose}
use Rattle.lk_rows.specs.declared.setup.Setup.{Setup}
use Rattle.lk_forms.specs.Trace.{Trace, Good, Refused, Says, trace}
use Rattle.lk_forms.specs.declared.answers.LineRefusal.{LineRefusal}
use Rattle.lk_forms.specs.declared.answers.LineRefusal.TheVariants.{Bad, Limit}
use Rattle.lk_stream.specs.Outside.{Outside, outside}
use Rattle.lk_replay.specs.Outcome.{Outcome, as_replay, as_replay_fault}
use Rattle.lk_stream.specs.Outcome.{refused_fault}
use Rattle.lk_replay.specs.declared.answers.Summary.{Summary}
use Rattle.lk_stream.specs.declared.answers.ReplayFault.{ReplayFault}
use Rattle.lk_stream.specs.declared.answers.ReplayFault.TheVariants as replay
use Rattle.lk_replay.specs.declared.answers.RunFault.{RunFault}
use Rattle.lk_replay.specs.declared.answers.RunFault.TheVariants as fault

-- a text says one thing
says_one : (left : Option (List ℕ)) (bytes : List ℕ) (t u : Trace) → left ≡ Some bytes → trace bytes ≡ t → Says left u → u ≡ t
says_one left bytes t u known is says = sym (subst (λ l. Says l u) known says) ∙ is

module _ (old new : Outside) (bytes : List ℕ) (known : old.left ≡ Some bytes) (no_read : ¬ Rose old.reads new.reads) (no_write : ¬ Rose old.writes new.writes) where
  pub complete : (setup : Setup) (acts : List Act) (result : Result Summary ReplayFault) → trace bytes ≡ Good setup acts → Outcome old new result → IsOkUnless result replay.Memory
  complete setup acts (Ok summary) is o = tt
  complete setup acts (Err (replay.BadInput line why)) is o = (let other = says_one old.left bytes _ _ known is o.refused in cc)
  complete setup acts (Err (replay.Limit line which)) is o = (let other = says_one old.left bytes _ _ known is o.refused in cc)
  complete setup acts (Err replay.ReadFault) is o = absurd (no_read o.rose)
  complete setup acts (Err replay.WriteFault) is o = absurd (no_write o.rose)
  complete setup acts (Err replay.Memory) is o = refl

  pub exact : (line : ℕ) (why : LineRefusal) (setup : Setup) (acts : List Act) (result : Result Summary ReplayFault) → trace bytes ≡ Refused line why setup acts → Outcome old new result
      → IsErrAnd result (λ f. (f ≡ refused_fault line why) ⊎ (f ≡ replay.Memory))
  exact line why setup acts (Ok summary) is o = (let other = says_one old.left bytes _ _ known is o.good in cc)
  exact line why setup acts (Err (replay.BadInput n w)) is o =
      (let same = says_one old.left bytes (Refused line why setup acts) (Refused n (Bad w) o.setup o.acts) known is o.refused in
      let line_is : n ≡ line = cc in let why_is : Bad w ≡ why = cc in inl (ap (λ x. refused_fault x (Bad w)) line_is ∙ ap (refused_fault line) why_is))
  exact line why setup acts (Err (replay.Limit n w)) is o =
      (let same = says_one old.left bytes (Refused line why setup acts) (Refused n (Limit w) o.setup o.acts) known is o.refused in
      let line_is : n ≡ line = cc in let why_is : Limit w ≡ why = cc in inl (ap (λ x. refused_fault x (Limit w)) line_is ∙ ap (refused_fault line) why_is))
  exact line why setup acts (Err replay.ReadFault) is o = absurd (no_read o.rose)
  exact line why setup acts (Err replay.WriteFault) is o = absurd (no_write o.rose)
  exact line why setup acts (Err replay.Memory) is o = inr refl

-- what comes of the second part is what comes of the whole
pub follows_open : (input left held held' : Option (List ℕ)) (reads reads_between reads_now writes writes_now : ℕ) (result : Result Summary RunFault) → reads ≤ reads_between
    → Outcome (outside input reads_between held writes) (outside left reads_now held' writes_now) (as_replay result)
    → Outcome (outside input reads held writes) (outside left reads_now held' writes_now) (as_replay result)
follows_open input left held held' reads reads_between reads_now writes writes_now (Ok summary) le o =
    record { setup = o.setup; acts = o.acts; good = o.good; all_read = o.all_read; written = o.written; acts_made = o.acts_made; events = o.events; counts = o.counts; lawful = o.lawful }
follows_open input left held held' reads reads_between reads_now writes writes_now (Err (fault.BadInput line why)) le o =
    record { setup = o.setup; acts = o.acts; refused = o.refused; written = o.written }
follows_open input left held held' reads reads_between reads_now writes writes_now (Err (fault.Limit line which)) le o =
    record { setup = o.setup; acts = o.acts; refused = o.refused; written = o.written }
follows_open input left held held' reads reads_between reads_now writes writes_now (Err fault.ReadFault) le o =
    (let rose = o.rose in record { rose = omega (arith, rose, le); taken = o.taken; consumed = o.consumed; written = o.written })
follows_open input left held held' reads reads_between reads_now writes writes_now (Err fault.WriteFault) le o =
    record { rose = o.rose; said = o.said; says = o.says; written = o.written }

-- a run is not cut short for want of memory
pub needs_none : (f : RunFault) → as_replay_fault f ≢ replay.Memory
needs_none (fault.BadInput line why) e = cc
needs_none (fault.Limit line which) e = cc
needs_none fault.ReadFault e = cc
needs_none fault.WriteFault e = cc

pub run_complete : (result : Result Summary RunFault) → IsOkUnless (as_replay result) replay.Memory → IsOk result
run_complete (Ok summary) whole = refl
run_complete (Err f) none = absurd (needs_none f none)

pub run_exact : (line : ℕ) (why : LineRefusal) (result : Result Summary RunFault)
    → IsErrAnd (as_replay result) (λ f. (f ≡ refused_fault line why) ⊎ (f ≡ replay.Memory))
    → IsErrAnd result (λ f. as_replay_fault f ≡ refused_fault line why)
run_exact line why (Ok summary) never = absurd never
run_exact line why (Err f) (inl refused) = refused
run_exact line why (Err f) (inr none) = absurd (needs_none f none)
