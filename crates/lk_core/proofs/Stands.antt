-- How a frame at a row stands to the lock on which it acts.
use Rattle.std.proofs.Common.{◌≡◌, inl, inr, Bool, ℕ, Option, Some, true, false, arith, ap, ◌<◌}
use Rattle.std.proofs.Common.{None, ◌≤◌, refl, sym, ◌∙◌, length}
use Rattle.lk_core.proofs.Names.{cases_lt, get_or_past, slice_get_past, LockHistory, LockName, Mode}
use Rattle.lk_core.proofs.Names.{Machine, no_cpu, top_of, row, Frame, Pc, U5, Verb, Lock, Unlock}
use Rattle.lk_core.proofs.Names.{is_rw_row, IsNewest, is_inner, Away, BelongsTo, Footing, Freeing}
use Rattle.lk_core.proofs.Names.{Owing, RwBelongs, Sharing, ShowsAll, Spinning, Waiting, is_over}
use Rattle.lk_core.proofs.Names.{world, rw_phase_if, rw_phase_of}
use Rattle.lk_rows.specs.Machine.{cpu_at, depth_at, frame_at}
use Rattle.lk_core.proofs.{Access.above_top, Leads.{IsAt, IsFreeing, SameHold}}
use Rattle.lk_core.proofs.RowParts.{freeing_release, freeing_waits, lock_taking, not_owing}
use Rattle.lk_core.proofs.RowParts.{outer_plain, outer_waits, over_here, spin_row_of}
use Rattle.lk_core.proofs.Walks.{IsOuter}

-- how a frame at a row stands: at a row of V of a spinlock or a wait lock; with a lock that it has
-- freed, owing a kick; or at a row of a reader or a writer
pub data Stance (mode : Mode) (v : Verb) (f : Frame) (c : Pc) : Type 0 where
  Acts : (V : Verb) → IsAt mode v f V → BelongsTo mode V c → Stance mode v f c
  Owes : c ≡ U5 → is_inner (rw_phase_of f) ≡ false → is_over f ≡ true
      → (f.lock.wait ≡ false → v ≡ Unlock) → Stance mode v f c
  Shares : is_rw_row c ≡ true → RwBelongs v f.lock.wait c → Stance mode v f c

wait_same : (f g : Frame) (b : Bool) → g.lock ≡ f.lock → f.lock.wait ≡ b → g.lock.wait ≡ b
wait_same f g b lock e = ap (λ (l : LockName). l.wait) lock ∙ e

hold_outer : (f g : Frame) → IsOuter f → IsOuter g → SameHold f g
hold_outer f g a b = record { inner = b.inner ∙ sym a.inner; over = b.over ∙ sym a.over }

hold_freeing : (f g : Frame) → IsFreeing f → IsFreeing g → SameHold f g
hold_freeing f g a b = record { inner = b.inner ∙ sym a.inner; over = b.over ∙ sym a.over }

pub stands : (mode : Mode) (v : Verb) (f : Frame) (c : Pc) → f.place ≡ Some c → Footing mode v f c
    → Stance mode v f c
stands mode v f c place (Spinning wait spin row) =
    let here = outer_plain f c place wait spin (not_owing mode v c row) in
    Acts v
    (record {
      stages = λ g d lock at row.
          let w = wait_same f g false lock wait in
          let s = spin_row_of mode v d row in
          (Spinning w s row, hold_outer f g here (outer_plain g d at w s (not_owing mode v d row)));
      plain = λ e. (refl, here);
      waits = λ e. absurd (grind (arith, e, wait));
      locks = λ e. absurd (grind (arith, e, wait));
    })
    row
stands mode v f c place (Sharing rw row) = Shares rw row
stands mode v f c place (Waiting wait spin taking takes row) =
    let here = outer_waits f c place wait spin taking (not_owing mode Lock c row) in
    Acts Lock
    (record {
      stages = λ g d lock at row.
          let w = wait_same f g true lock wait in
          let s = spin_row_of mode Lock d row in
          let t = lock_taking mode d row in (
            Waiting w s t takes row,
            hold_outer f g here (outer_waits g d at w s t (not_owing mode Lock d row)),
          );
      plain = λ e. absurd (grind (arith, e, wait));
      waits = λ e. takes;
      locks = λ e. inl (refl, here);
    })
    row
stands mode v f c place (Freeing wait spin release takes row) =
    let here = freeing_waits mode f c place wait spin row in
    Acts Unlock
    (record {
      stages = λ g d lock at row.
          let w = wait_same f g true lock wait in
          let s = spin_row_of mode Unlock d row in (
            Freeing w s (freeing_release mode d row) takes row,
            hold_freeing f g here (freeing_waits mode g d at w s row),
          );
      plain = λ e. absurd (grind (arith, e, wait));
      waits = λ e. takes;
      locks = λ e. inr (refl, here);
    })
    row
stands mode v f c place (Owing pv is plain waits) =
    let at = place ∙ ap Some is in
    let phase : rw_phase_of f ≡ Away =
    ap (λ (d : Option Pc). rw_phase_if d f.lock.wait) at ∙ away f.lock.wait in
    Owes is (ap is_inner phase) (over_here f U5 Away at phase) plain
  where
    away : (b : Bool) → rw_phase_if (Some U5) b ≡ Away
    away true = refl
    away false = refl

-- a processor has six frames at most
pub few_frames : (m : Machine) (hs : LockName → LockHistory) → ShowsAll m hs → (p : ℕ)
    → length (cpu_at m p).frames ≤ 6
unfolding cpu_at depth_at
few_frames m hs shows p =
    elim (cases_lt p (length m.cpus)) [
      | inl lt ↦ (shows.whole.tops p lt).few
      | inr ge ↦ let past = get_or_past m.cpus p no_cpu ge in rw past (omega arith)
    ]

nobody_deep : (m : Machine) (hs : LockName → LockHistory) → ShowsAll m hs → (p c : ℕ) → 6 ≤ c
    → frame_at m (record { cpu = p; ctx = c }) ≡ None
unfolding frame_at
nobody_deep m hs shows p c ge =
    let few = few_frames m hs shows p in
    slice_get_past (cpu_at m p).frames c (omega (arith, ge, few))

-- the frame on top is the newest of its processor
pub top_newest : (m : Machine) (hs : LockName → LockHistory) → ShowsAll m hs → (p : ℕ)
    → p < length m.cpus → IsNewest (world m) (top_of m p)
top_newest m hs shows p range = let top = shows.whole.tops p range in
    record {
      above = λ d lt. above_top m p d lt;
      low = omega (arith, top.few, top.some);
      shallow = λ q d ge. nobody_deep m hs shows q d ge;
    }
