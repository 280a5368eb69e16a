-- A seat that sees enough knows where its row leads.
use Rattle.std.proofs.Common.{◌≡◌, ◌≢◌, ◌⊎◌, inl, inr, ℕ, Option, Some, None, true, false, refl}
use Rattle.std.proofs.Common.{arith, is_some}
use Rattle.lk_domain.proofs.Names.{cases_Bool, NodeName, ChoiceFlag, ChoiceNext, ChoiceWord, FlagOf}
use Rattle.lk_domain.proofs.Names.{NextOf, PvFlag, PvNext, PvWord, QueueWord, RunsOf, RwWord}
use Rattle.lk_domain.proofs.Names.{SecondTailOf, SpinWord, Target, target, Frame, Pc, C1, C2, C5}
use Rattle.lk_domain.proofs.Names.{C7, Sight, pv_row, rw_row, is_rw_row, Flagged, Met, Named}
use Rattle.lk_domain.proofs.Names.{Number, Shared, Word, course_at}
use Rattle.lk_rows.specs.TopRow.{Queued, StateOf, HashEntry, Halted, KickOf}
use Rattle.lk_rows.specs.declared.parts.Pc.TheVariants.{C4, C9}
use Rattle.lk_rows.specs.rows.Cna.{search_row, runs_row, after_first, after_more}
use Rattle.lk_rows.specs.{rows.Pv.state_row, rows.Queue.{queue_row, entry_row, next_row}}
use Rattle.lk_rows.specs.rows.Spin.{spin_row}
use Rattle.lk_law.specs.Leads.{Stated, Marked, Setting, course_of}
use Rattle.lk_domain.proofs.rows.Grips.{IsOwn}

-- every target is one whose course a seat can compute
abbrev pub IsUnseen : Pc → Target → Type 0
IsUnseen c t = Unit {0}

-- it is one of a spinlock or a wait lock, or of a reader or a writer
pub unseen_cases : (c : Pc) (f : Frame) → IsUnseen c (target c f)
    → IsOwn (target c f) ⊎ (is_rw_row c ≡ true)
unseen_cases c f h = elim (cases_Bool (is_rw_row c)) [ inl e ↦ inr e | inr e ↦ inl (own c f e h) ]
  where
    own : (c : Pc) (f : Frame) → is_rw_row c ≡ false → IsUnseen c (target c f) → IsOwn (target c f)
    own c f e h = plain (target c f) h (rw_apart c f e)
      where
        plain : (t : Target) → IsUnseen c t → t ≢ RwWord → IsOwn t
        plain RwWord h ne = absurd (ne refl)
        plain _ h ne = tt

        rw_apart : (c : Pc) (f : Frame) → is_rw_row c ≡ false → target c f ≢ RwWord
        rw_apart c f h e = grind (arith, h, e)

-- where the front looks at the node behind its own, the seat has read the count of handovers
abbrev pub Sees : Pc → Option ℕ → Type 0
Sees C1 r = is_some r ≡ true
Sees c r = Unit {0}

-- the seat knows where the row leads
abbrev pub IsSeen : Pc → Target → Option ℕ → Type 0
IsSeen c t r = IsUnseen c t × Sees c r

-- who is met is local for both, or for neither
abbrev pub SeesWhom : Sight → Sight → Met → Type 0
SeesWhom s s' (Named (Some n)) = s.local n ≡ s'.local n
SeesWhom s s' x = Unit {0}

-- The course needs of the setting the family, the turns and the processor; and where a front looks
-- along the links, what it sees: of the nodes, whether the one that it meets is local.
abbrev pub SeesSame : Pc → Sight → Sight → Met → Type 0
SeesSame C1 s s' x = (s.runs ≡ s'.runs) × (s.threshold ≡ s'.threshold) × SeesWhom s s' x
SeesSame C2 s s' x = SeesWhom s s' x
SeesSame c s s' x = Unit {0}

search_front : (s s' : Sight) (f : Frame) (x : Option NodeName) → SeesSame C1 s s' (Named x)
    → course_of (search_row s C1 f x) ≡ course_of (search_row s' C1 f x)
search_front s s' f None h = refl
search_front s s' f (Some n) h =
    (λ i. course_of (after_first (record { runs = h.0 i; threshold = h.1 i; local = λ m. h.2 i }) f.second n))

search_more : (s s' : Sight) (f : Frame) (x : Option NodeName) → SeesSame C2 s s' (Named x)
    → course_of (search_row s C2 f x) ≡ course_of (search_row s' C2 f x)
search_more s s' f None h = refl
search_more s s' f (Some n) h = (λ i. course_of (after_more (record s { local = λ m. h i }) f n))

search_course : (s s' : Sight) (c : Pc) (f : Frame) (x : Option NodeName) → SeesSame c s s' (Named x)
    → course_of (search_row s c f x) ≡ course_of (search_row s' c f x)
search_course s s' C1 f x h = search_front s s' f x h
search_course s s' C2 f x h = search_more s s' f x h
search_course s s' C4 f x h = refl
search_course s s' C5 f x h = refl
search_course s s' C9 f x h = refl
search_course s s' _ f x h = refl

runs_course : (s s' : Sight) (c : Pc) (f : Frame) (x : ℕ)
    → course_of (runs_row s c f x) ≡ course_of (runs_row s' c f x)
runs_course s s' C7 f x = refl
runs_course s s' _ f x = refl

pub same_course : (s s' : Setting) (c : Pc) (f : Frame) (t : Target) (x : Met) → IsUnseen c t
    → s.mode ≡ s'.mode → s.turns ≡ s'.turns → s.cpu ≡ s'.cpu → SeesSame c s.sight s'.sight x
    → course_at s c f t x ≡ course_at s' c f t x
same_course s s' c f SpinWord (Word x) h mode turns cpu sees = (λ i. course_of (spin_row (mode i) c f x))
same_course s s' c f SpinWord _ h mode turns cpu sees = refl
same_course s s' c f QueueWord (Word x) h mode turns cpu sees = (λ i. course_of (queue_row (mode i) c f x))
same_course s s' c f QueueWord _ h mode turns cpu sees = refl
same_course s s' c f Queued (Number x) h mode turns cpu sees = (λ i. course_of (entry_row (mode i) (cpu i) x))
same_course s s' c f Queued _ h mode turns cpu sees = refl
same_course s s' c f (FlagOf n) (Flagged x) h mode turns cpu sees = refl
same_course s s' c f (FlagOf n) _ h mode turns cpu sees = refl
same_course s s' c f (NextOf n) (Named x) h mode turns cpu sees = (λ i. course_of (next_row (mode i) (turns i) c f x))
same_course s s' c f (NextOf n) _ h mode turns cpu sees = refl
same_course s s' c f RwWord (Shared x) h mode turns cpu sees = (λ i. course_of (rw_row (mode i) c f x))
same_course s s' c f RwWord _ h mode turns cpu sees = refl
same_course s s' c f ChoiceWord (Word x) h mode turns cpu sees = refl
same_course s s' c f ChoiceWord _ h mode turns cpu sees = refl
same_course s s' c f (ChoiceFlag n) (Flagged x) h mode turns cpu sees = refl
same_course s s' c f (ChoiceFlag n) _ h mode turns cpu sees = refl
same_course s s' c f (ChoiceNext n) (Named x) h mode turns cpu sees = search_course s.sight s'.sight c f x sees
same_course s s' c f (ChoiceNext n) _ h mode turns cpu sees = refl
same_course s s' c f (SecondTailOf n) (Named x) h mode turns cpu sees = refl
same_course s s' c f (SecondTailOf n) _ h mode turns cpu sees = refl
same_course s s' c f (RunsOf n) (Number x) h mode turns cpu sees = runs_course s.sight s'.sight c f x
same_course s s' c f (RunsOf n) _ h mode turns cpu sees = refl
same_course s s' c f PvWord (Word x) h mode turns cpu sees = (λ i. course_of (pv_row (turns i) c f x))
same_course s s' c f PvWord _ h mode turns cpu sees = refl
same_course s s' c f (PvFlag n) (Flagged x) h mode turns cpu sees = refl
same_course s s' c f (PvFlag n) _ h mode turns cpu sees = refl
same_course s s' c f (PvNext n) (Named x) h mode turns cpu sees = refl
same_course s s' c f (PvNext n) _ h mode turns cpu sees = refl
same_course s s' c f (StateOf n) (Stated x) h mode turns cpu sees = (λ i. course_of (state_row (turns i) c f x))
same_course s s' c f (StateOf n) _ h mode turns cpu sees = refl
same_course s s' c f HashEntry (Named x) h mode turns cpu sees = refl
same_course s s' c f HashEntry _ h mode turns cpu sees = refl
same_course s s' c f Halted (Marked x) h mode turns cpu sees = refl
same_course s s' c f Halted _ h mode turns cpu sees = refl
same_course s s' c f (KickOf q) (Marked x) h mode turns cpu sees = refl
same_course s s' c f (KickOf q) _ h mode turns cpu sees = refl
