-- What a status says of the answer that it was made of.
use Rattle.std.proofs.Common.{◌≡◌, ◌⊎◌, List, ℕ, Result, Ok, Err, OnOk, OnErr, IsErrAnd, IsOkUnless, inl, inr, refl, ap}
use Rattle.std.specs.Io.KnownBytes.{Appends}
use Rattle.lk_text.specs.Bytes.{AppendsFront}
use Rattle.lk_text.specs.Causes.{HasCause}
use Rattle.lk_text.specs.declared.sink.WriteFault.{WriteFault}
use Rattle.lk_stream.specs.Outside.{Outside}
use Rattle.lk_replay.specs.Outcome.{Outcome}
use Rattle.lk_replay.specs.declared.answers.Summary.{Summary}
use Rattle.lk_stream.specs.declared.answers.ReplayFault.{ReplayFault}
use Rattle.lk_stream.specs.declared.answers.ReplayFault.TheVariants as answer
use Rattle.lk_command.specs.Means.{Means, Writes}
use Rattle.lk_command.specs.Status.{status_of, status_of_put}
use Rattle.lk_command.specs.declared.status.Status.TheVariants as status

-- a replay

pub replay_means : (old new : Outside) (r : Result Summary ReplayFault) → Outcome old new r → Means old new (status_of r)
replay_means old new (Ok summary) outcome = (summary, outcome)
replay_means old new (Err (answer.BadInput line why)) outcome = outcome
replay_means old new (Err (answer.Limit line which)) outcome = outcome
replay_means old new (Err answer.ReadFault) outcome = outcome
replay_means old new (Err answer.WriteFault) outcome = outcome
replay_means old new (Err answer.Memory) outcome = outcome

pub replay_complete : (r : Result Summary ReplayFault) → IsOkUnless r answer.Memory → (status_of r ≡ status.Done) ⊎ (status_of r ≡ status.Memory)
replay_complete (Ok summary) is = inl refl
replay_complete (Err why) is = inr (ap (λ w. status_of (Err w)) is)

pub replay_exact : (r : Result Summary ReplayFault) (wanted : ReplayFault) → IsErrAnd r (λ fault. (fault ≡ wanted) ⊎ (fault ≡ answer.Memory))
    → (status_of r ≡ status_of (Err wanted)) ⊎ (status_of r ≡ status.Memory)
replay_exact (Ok summary) wanted is = absurd is
replay_exact (Err why) wanted (inl is) = inl (ap (λ w. status_of (Err w)) is)
replay_exact (Err why) wanted (inr is) = inr (ap (λ w. status_of (Err w)) is)

pub replay_memory : (r : Result Summary ReplayFault) → status_of r ≡ status.Memory → r ≡ Err answer.Memory
replay_memory (Ok summary) is = cc
replay_memory (Err (answer.BadInput line why)) is = cc
replay_memory (Err (answer.Limit line which)) is = cc
replay_memory (Err answer.ReadFault) is = cc
replay_memory (Err answer.WriteFault) is = cc
replay_memory (Err answer.Memory) is = refl

-- a text that is put

pub put_writes : {T : Type 0} (old new : Outside) (text : List ℕ) (r : Result T WriteFault) → OnOk r (Appends old.held new.held text)
    → OnErr r (AppendsFront old.held new.held text) → HasCause old.writes new.writes r → Writes old new text (status_of_put r)
put_writes old new text (Ok t) all front cause = all
put_writes old new text (Err fault) all front cause = (cause.failed, front)

pub put_memory : {T : Type 0} (r : Result T WriteFault) → ¬ (status_of_put r ≡ status.Memory)
put_memory (Ok t) is = cc
put_memory (Err fault) is = cc
