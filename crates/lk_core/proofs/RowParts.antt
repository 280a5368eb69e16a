-- What a row of an operation does with its lock: which part of a lock it is, and on what it
-- operates.
use Rattle.std.proofs.Common.{◌≡◌, inl, inr, Bool, ℕ, Option, Some, None, true, false, List, []}
use Rattle.std.proofs.Common.{◌∷◌, arith, ap, ◌<◌, refl, sym, ◌∙◌, subst, length, ◌||◌}
use Rattle.lk_core.proofs.Names.{cases_Bool, RwFields, LockHistory, Event, LockName, Mode, Cna}
use Rattle.lk_core.proofs.Names.{Native, Pv, Virt, HasNode, Machine, top_of, Answer, Change, Done}
use Rattle.lk_core.proofs.Names.{Enters, Freed, Goes, Granted, Lead, Leaves, Missed, Prev}
use Rattle.lk_core.proofs.Names.{TakesWait, TargetIs, Yields, rules_of, KickOf, Queued, RwWord}
use Rattle.lk_core.proofs.Names.{Target, row, target, Frame, Pc, R1, R2, R4, R5, U2, U3, U4, U5}
use Rattle.lk_core.proofs.Names.{Wr1, Wr2, Wr3, Wr6, Y1, Y2, Y4, Y5, Setup, Verb, Lock, Try, Unlock}
use Rattle.lk_core.proofs.Names.{if-false, MayFollowIfAny, chooses, is_halting_row, is_queued_row}
use Rattle.lk_core.proofs.Names.{is_rw_row, ShowsKicks, with_event, RwPhase, is_inner, Asks, Away}
use Rattle.lk_core.proofs.Names.{BelongsTo, ShowsAll, frees, is_lock_row, is_over, is_virt_row}
use Rattle.lk_core.proofs.Names.{owes_kick, world, rw_own_phase, rw_phase_if, rw_phase_of}
use Rattle.lk_core.proofs.Names.{stores_rw, told_on, World}
use Rattle.lk_rows.specs.Machine.{frame_at}
use Rattle.lk_rows.specs.declared.parts.Pc.TheVariants.{U1, G1, R3, Wr4, Wr5, Y3, Z1, Z2}
use Rattle.lk_law.specs.{Families.is_release_row, RwPhase.RwPhase.Frees}
use Rattle.lk_law.specs.SoundWorld.{Part, part_of, rw_wait_phase}
use Rattle.lk_law.specs.SoundWorld.Part.{Taking as Takes, Freeing as Gives}
use Rattle.lk_core.proofs.{Leads.IsFreeing, Same.{KeepsFrames, node_kept}}
use Rattle.lk_core.proofs.Walks.{LeadFits, LeadIn, ChangesIn, IsOuter}

-- After a row or an act the machine shows the histories told on by the event, and the event is
-- allowed; and where it showed the halts and kicks of some events, it shows those of the events
-- with this one.
pub record StillShows (m : Machine) (hs : LockName → LockHistory) (a : Answer) : Type 0 where
  pub shows : ShowsAll a.0 (told_on hs a.1)
  pub allowed : MayFollowIfAny (rules_of m.setup) hs a.1
  pub kicks : (es : List Event) → ShowsKicks (world m) es
      → ShowsKicks (world a.0) (with_event es a.1)

-- The machine shows these histories, and f stands on top of p at the row c.
pub record StandsOnTop (m : Machine) (p : ℕ) (f : Frame) (c : Pc)
    (hs : LockName → LockHistory) : Type 0 where
  pub shows : ShowsAll m hs
  pub range : p < length m.cpus
  pub live : frame_at m (top_of m p) ≡ Some f
  pub place : f.place ≡ Some c

-- only G1 counts frames
pub entry_is : (c : Pc) (f : Frame) → target c f ≡ Queued → c ≡ G1
entry_is G1 f e = refl
entry_is _ f e = cc

-- what a lead asks stays so on a machine after a store
pub lead_fits_same : (m n : Machine) (v : Verb) (lead : Lead) → KeepsFrames m n
    → LeadFits (HasNode m) m.setup.mode v lead → LeadFits (HasNode n) n.setup.mode v lead
lead_fits_same m n v (Goes c cs) s fits =
    subst (λ (x : Setup). BelongsTo x.mode v c) (sym s.keeps.setup) fits
lead_fits_same m n v (Enters None c) s fits =
    subst (λ (x : Setup). BelongsTo x.mode v c) (sym s.keeps.setup) fits
lead_fits_same m n v (Enters (Some a) c) s fits = (
  subst (λ (x : Setup). BelongsTo x.mode v c) (sym s.keeps.setup) fits.0,
  record { cpu = rw s.keeps.cpus fits.1.cpu; index = fits.1.index },
)
lead_fits_same m n v Granted s fits = fits
lead_fits_same m n v Freed s fits = fits
lead_fits_same m n v Missed s fits = fits
lead_fits_same m n v Leaves s fits = fits
lead_fits_same m n v Done s fits = absurd fits
lead_fits_same m n v (Yields c cs) s fits =
    (ap (λ (x : Setup). x.mode) s.keeps.setup ∙ fits.0, fits.1, fits.2)
lead_fits_same m n v (TakesWait c) s fits = absurd fits

changes_in_same : (m n : Machine) (cs : List Change) → KeepsFrames m n → ChangesIn (HasNode m) cs
    → ChangesIn (HasNode n) cs
changes_in_same m n [] s fits = fits
changes_in_same m n (Prev (Some k) ∷ cs) s fits =
    (node_kept m n k s.keeps fits.0, changes_in_same m n cs s fits.1)
changes_in_same m n (TargetIs (Some k) ∷ cs) s fits =
    (node_kept m n k s.keeps fits.0, changes_in_same m n cs s fits.1)
changes_in_same m n (Prev None ∷ cs) s fits = changes_in_same m n cs s fits
changes_in_same m n (TargetIs None ∷ cs) s fits = changes_in_same m n cs s fits
changes_in_same m n (_ ∷ cs) s fits = changes_in_same m n cs s fits

pub lead_in_same : (m n : Machine) (lead : Lead) → KeepsFrames m n → LeadIn (HasNode m) lead
    → LeadIn (HasNode n) lead
lead_in_same m n (Goes c cs) s fits = changes_in_same m n cs s fits
lead_in_same m n (Yields c cs) s fits = changes_in_same m n cs s fits
lead_in_same m n _ s fits = tt

-- the rows of spinlocks are none of readers and writers

lock_spin_row : (c : Pc) → is_rw_row c ≡ true
    → (is_queued_row c ≡ false) × (is_virt_row c ≡ false) × (chooses c ≡ false)
    × (is_halting_row c ≡ false)
lock_spin_row R1 e = (refl, refl, refl, refl)
lock_spin_row R2 e = (refl, refl, refl, refl)
lock_spin_row R3 e = (refl, refl, refl, refl)
lock_spin_row R4 e = (refl, refl, refl, refl)
lock_spin_row R5 e = (refl, refl, refl, refl)
lock_spin_row Wr1 e = (refl, refl, refl, refl)
lock_spin_row Wr2 e = (refl, refl, refl, refl)
lock_spin_row Wr3 e = (refl, refl, refl, refl)
lock_spin_row Wr4 e = (refl, refl, refl, refl)
lock_spin_row Wr5 e = (refl, refl, refl, refl)
lock_spin_row Wr6 e = (refl, refl, refl, refl)
lock_spin_row Y1 e = (refl, refl, refl, refl)
lock_spin_row Y2 e = (refl, refl, refl, refl)
lock_spin_row Y3 e = (refl, refl, refl, refl)
lock_spin_row Y4 e = (refl, refl, refl, refl)
lock_spin_row Y5 e = (refl, refl, refl, refl)
lock_spin_row Z1 e = (refl, refl, refl, refl)
lock_spin_row Z2 e = (refl, refl, refl, refl)
lock_spin_row _ e = cc

pub spin_row_of : (mode : Mode) (v : Verb) (c : Pc) → BelongsTo mode v c → is_rw_row c ≡ false
spin_row_of mode v c at = elim (cases_Bool (is_rw_row c)) [
  | inl e ↦ absurd (apart mode v at (lock_spin_row c e) e)
  | inr e ↦ e
]
  where
    apart : (mode : Mode) (v : Verb) → BelongsTo mode v c
        → (is_queued_row c ≡ false) × (is_virt_row c ≡ false) × (chooses c ≡ false)
        × (is_halting_row c ≡ false)
        → is_rw_row c ≡ true → ⊥
    apart Virt Lock at none e = grind (arith, at, none.1)
    apart Native Lock at none e = grind (arith, at, none.0)
    apart Cna Lock at none e = grind (arith, at, none.0, none.2)
    apart Pv Lock at none e = grind (arith, at, none.3)
    apart mode Try (inl q) none e = let z = ap is_rw_row q in grind (arith, z, e)
    apart mode Try (inr q) none e = let z = ap is_rw_row q in grind (arith, z, e)
    apart Pv Unlock (inl q) none e = let z = ap is_rw_row q in grind (arith, z, e)
    apart Pv Unlock (inr (inl q)) none e = let z = ap is_rw_row q in grind (arith, z, e)
    apart Pv Unlock (inr (inr q)) none e = let z = ap is_rw_row q in grind (arith, z, e)
    apart mode Unlock q none e = let z = ap is_rw_row q in grind (arith, z, e)
    apart mode _ at none e = absurd at

pub rw_apart : (c : Pc) (f : Frame) → target c f ≡ RwWord → is_rw_row c ≡ false → ⊥
rw_apart R1 f t e = absurd (grind (arith, e))
rw_apart R2 f t e = absurd (grind (arith, e))
rw_apart R3 f t e = absurd (grind (arith, e))
rw_apart R4 f t e = absurd (grind (arith, e))
rw_apart R5 f t e = absurd (grind (arith, e))
rw_apart Wr1 f t e = absurd (grind (arith, e))
rw_apart Wr2 f t e = absurd (grind (arith, e))
rw_apart Wr3 f t e = absurd (grind (arith, e))
rw_apart Wr4 f t e = absurd (grind (arith, e))
rw_apart Wr5 f t e = absurd (grind (arith, e))
rw_apart Wr6 f t e = absurd (grind (arith, e))
rw_apart Y1 f t e = absurd (grind (arith, e))
rw_apart Y2 f t e = absurd (grind (arith, e))
rw_apart Y3 f t e = absurd (grind (arith, e))
rw_apart Y4 f t e = absurd (grind (arith, e))
rw_apart Y5 f t e = absurd (grind (arith, e))
rw_apart Z1 f t e = absurd (grind (arith, e))
rw_apart Z2 f t e = absurd (grind (arith, e))
rw_apart _ f t e = cc

release_row : (c : Pc) → is_release_row c ≡ true
    → (is_queued_row c ≡ false) × (is_virt_row c ≡ false) × (chooses c ≡ false)
    × (is_halting_row c ≡ false)
release_row U1 e = (refl, refl, refl, refl)
release_row U2 e = (refl, refl, refl, refl)
release_row U3 e = (refl, refl, refl, refl)
release_row U4 e = (refl, refl, refl, refl)
release_row U5 e = (refl, refl, refl, refl)
release_row _ e = cc

pub lock_taking : (mode : Mode) (c : Pc) → is_lock_row mode c ≡ true → is_release_row c ≡ false
lock_taking mode c at = elim (cases_Bool (is_release_row c)) [
  | inl e ↦ absurd (apart mode at (release_row c e))
  | inr e ↦ e
]
  where
    apart : (mode : Mode) → is_lock_row mode c ≡ true
        → (is_queued_row c ≡ false) × (is_virt_row c ≡ false) × (chooses c ≡ false)
        × (is_halting_row c ≡ false)
        → ⊥
    apart Virt at none = grind (arith, at, none.1)
    apart Native at none = grind (arith, at, none.0)
    apart Cna at none = grind (arith, at, none.0, none.2)
    apart Pv at none = grind (arith, at, none.3)

-- a row of an operation on a lock that it has not freed owes no kick

owing_release : (c : Pc) → owes_kick (Some c) ≡ true → is_release_row c ≡ true
owing_release U5 e = refl
owing_release _ e = cc

pub not_owing : (mode : Mode) (v : Verb) (c : Pc) → BelongsTo mode v c → owes_kick (Some c) ≡ false
not_owing mode v c at =
    elim (cases_Bool (owes_kick (Some c))) [ inl e ↦ absurd (apart mode v at e) | inr e ↦ e ]
  where
    apart : (mode : Mode) (v : Verb) → BelongsTo mode v c → owes_kick (Some c) ≡ true → ⊥
    apart mode Lock at e =
        let z = lock_taking mode c at in let y = owing_release c e in grind (arith, z, y)
    apart mode Try (inl q) e = let z = ap (λ (x : Pc). owes_kick (Some x)) q in grind (arith, z, e)
    apart mode Try (inr q) e = let z = ap (λ (x : Pc). owes_kick (Some x)) q in grind (arith, z, e)
    apart Pv Unlock (inl q) e = let z = ap (λ (x : Pc). owes_kick (Some x)) q in grind (arith, z, e)
    apart Pv Unlock (inr (inl q)) e =
        let z = ap (λ (x : Pc). owes_kick (Some x)) q in grind (arith, z, e)
    apart Pv Unlock (inr (inr q)) e =
        let z = ap (λ (x : Pc). owes_kick (Some x)) q in grind (arith, z, e)
    apart mode Unlock q e = let z = ap (λ (x : Pc). owes_kick (Some x)) q in grind (arith, z, e)
    apart mode _ at e = at

-- what a row does with its lock

part_taking : (c : Pc) → is_release_row c ≡ false → part_of c ≡ Takes
part_taking U1 e = cc
part_taking U2 e = cc
part_taking U3 e = cc
part_taking U4 e = cc
part_taking U5 e = cc
part_taking _ e = refl

part_freeing : (mode : Mode) (c : Pc) → BelongsTo mode Unlock c → part_of c ≡ Gives
part_freeing Pv c (inl e) = ap part_of e
part_freeing Pv c (inr (inl e)) = ap part_of e
part_freeing Pv c (inr (inr e)) = ap part_of e
part_freeing Virt c e = ap part_of e
part_freeing Native c e = ap part_of e
part_freeing Cna c e = ap part_of e

pub freeing_release : (mode : Mode) (c : Pc) → BelongsTo mode Unlock c → is_release_row c ≡ true
freeing_release Pv c (inl e) = ap is_release_row e
freeing_release Pv c (inr (inl e)) = ap is_release_row e
freeing_release Pv c (inr (inr e)) = ap is_release_row e
freeing_release Virt c e = ap is_release_row e
freeing_release Native c e = ap is_release_row e
freeing_release Cna c e = ap is_release_row e

phase_here : (f : Frame) (c : Pc) (b : Bool) (q : Part) → f.place ≡ Some c → f.lock.wait ≡ b
    → is_rw_row c ≡ false → part_of c ≡ q → rw_phase_of f ≡ rw_wait_phase b q
phase_here f c b q place wait spin part =
    ap (λ (d : Option Pc). rw_phase_if d f.lock.wait) place ∙ ap (rw_phase_if (Some c)) wait
    ∙ if-false (is_rw_row c) (rw_own_phase c) (rw_wait_phase b (part_of c)) spin
    ∙ ap (rw_wait_phase b) part

-- what its operation is for is done or not, by the phase and the place
pub over_here : (f : Frame) (c : Pc) (r : RwPhase) → f.place ≡ Some c → rw_phase_of f ≡ r
    → is_over f ≡ (frees r || owes_kick (Some c))
over_here f c r place phase = ap (λ (q : RwPhase). frees q || owes_kick f.place) phase
    ∙ ap (λ (o : Option Pc). frees r || owes_kick o) place

pub outer_plain : (f : Frame) (c : Pc) → f.place ≡ Some c → f.lock.wait ≡ false
    → is_rw_row c ≡ false
    → owes_kick (Some c) ≡ false → IsOuter f
outer_plain f c place wait spin calm =
    let e = phase_here f c false (part_of c) place wait spin refl in
    record { inner = ap is_inner e; over = over_here f c Away place e ∙ calm }

pub outer_waits : (f : Frame) (c : Pc) → f.place ≡ Some c → f.lock.wait ≡ true → is_rw_row c ≡ false
    → is_release_row c ≡ false → owes_kick (Some c) ≡ false → IsOuter f
outer_waits f c place wait spin taking calm =
    let e = phase_here f c true Takes place wait spin (part_taking c taking) in
    record { inner = ap is_inner e; over = over_here f c Asks place e ∙ calm }

pub freeing_waits : (mode : Mode) (f : Frame) (c : Pc) → f.place ≡ Some c → f.lock.wait ≡ true
    → is_rw_row c ≡ false → BelongsTo mode Unlock c → IsFreeing f
freeing_waits mode f c place wait spin row =
    let e = phase_here f c true Gives place wait spin (part_freeing mode c row) in
    record { inner = ap is_inner e; over = over_here f c Frees place e }

pub stores_held : (y : World) (i : ℕ) (o : Option RwFields) → (stores_rw y i o).held ≡ y.held
stores_held y i None = refl
stores_held y i (Some x) = refl

-- a row of another target than the words of reader-writer locks is none of theirs
abbrev is_rw_target : Target → Bool
is_rw_target RwWord = true
is_rw_target _ = false

rw_target : (c : Pc) (f : Frame) → is_rw_row c ≡ true → is_rw_target (target c f) ≡ true
rw_target R1 f e = refl
rw_target R2 f e = refl
rw_target R3 f e = refl
rw_target R4 f e = refl
rw_target R5 f e = refl
rw_target Wr1 f e = refl
rw_target Wr2 f e = refl
rw_target Wr3 f e = refl
rw_target Wr4 f e = refl
rw_target Wr5 f e = refl
rw_target Wr6 f e = refl
rw_target Y1 f e = refl
rw_target Y2 f e = refl
rw_target Y3 f e = refl
rw_target Y4 f e = refl
rw_target Y5 f e = refl
rw_target Z1 f e = refl
rw_target Z2 f e = refl
rw_target _ f e = cc

pub target_spin : (c : Pc) (f : Frame) (t : Target) → target c f ≡ t → is_rw_target t ≡ false
    → is_rw_row c ≡ false
target_spin c f t e q =
    elim (cases_Bool (is_rw_row c)) [
      | inl r ↦ absurd
          (let z = rw_target c f r in let y = ap is_rw_target e in grind (arith, z, y, q))
      | inr r ↦ r
    ]

-- only U5 is a row on a kick
abbrev pub is_kick_target : Target → Bool
is_kick_target (KickOf q) = true
is_kick_target _ = false

pub owing_target : (c : Pc) (f : Frame) (t : Target) → target c f ≡ t → c ≡ U5
    → is_kick_target t ≡ false → ⊥
owing_target c f t e q n = let z : is_kick_target (target c f) ≡ true =
    ap (λ (d : Pc). is_kick_target (target d f)) q in let y = ap is_kick_target e in
    grind (arith, z, y, n)

pub kick_target : (c : Pc) (f : Frame) → is_kick_target (target c f) ≡ true
    → owes_kick (Some c) ≡ true
kick_target U5 f e = refl
kick_target _ f e = cc
