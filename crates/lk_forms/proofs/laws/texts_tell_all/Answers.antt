use Rattle.lk_forms.proofs.TranscriptLemmas.{events_told, ends_told, counts_told, transcripts_told}
use Rattle.lk_forms.proofs.laws.texts_tell_all.Goals as goal

pub returns : goal.returns
returns c = record { events = events_told; ends = ends_told; counts = counts_told; transcripts = transcripts_told }
