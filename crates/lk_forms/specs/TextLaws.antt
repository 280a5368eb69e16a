-- Each text of a transcript determines what it tells.
use Rattle.std.specs.Prelude.{◌≡◌, ◌<◌, ◌^◌, ℕ, List, [], ◌∷◌, ◌++◌, ⊤}
use Rattle.lk_names.specs.declared.events.Event.{Event}
use Rattle.lk_rows.specs.declared.parts.Counts.{Counts}
use Rattle.lk_rows.specs.Run.{Occurrence}
use Rattle.lk_forms.specs.Texts.{IsSmall, event_text, end_text, count_at, count_text, lines, closing}

-- the line of an event tells the act's number and the event
abbrev pub EventsAreTold : Type 0
EventsAreTold = (m n : ℕ) (e f : Event) → m < 2 ^ 64 → n < 2 ^ 64 → IsSmall e → IsSmall f → event_text m e ≡ event_text n f → (m ≡ n) × (e ≡ f)

-- the line `end` tells how many acts there were
abbrev pub EndsAreTold : Type 0
EndsAreTold = (m n : ℕ) → m < 2 ^ 64 → n < 2 ^ 64 → end_text m ≡ end_text n → m ≡ n

-- the line of a count tells which one it is, and that count
abbrev pub CountsAreTold : Type 0
CountsAreTold = (c d : Counts) (v w : ℕ) → v < 10 → w < 10 → count_at c v < 2 ^ 64 → count_at d w < 2 ^ 64 → count_text c v ≡ count_text d w → (v ≡ w) × (count_at c v ≡ count_at d w)

-- all numbers of a history are below 2^64
abbrev pub AreSmall : List Occurrence → Type 0
AreSmall [] = ⊤
AreSmall (o ∷ os) = (o.act < 2 ^ 64) × IsSmall o.event × AreSmall os

-- all ten counts are below 2^64
abbrev pub AreSmallCounts : Counts → Type 0
AreSmallCounts c = (w : ℕ) → w < 10 → count_at c w < 2 ^ 64

-- a whole transcript tells its history, how many acts there were, and each count
abbrev pub TranscriptsAreTold : Type 0
TranscriptsAreTold = (h k : List Occurrence) (m n : ℕ) (c d : Counts) → AreSmall h → AreSmall k → m < 2 ^ 64 → n < 2 ^ 64 → AreSmallCounts c → AreSmallCounts d
    → lines h ++ closing m c ≡ lines k ++ closing n d → (h ≡ k) × (m ≡ n) × (c ≡ d)
