-- A halt ends in a world with reader-writer locks; and who is owed a kick in it.
use Rattle.std.proofs.Common.{◌≡◌, inl, inr, Option, Some, None, Bool, true, false, List, [], arith}
use Rattle.std.proofs.Common.{ap, refl, sym, ◌∙◌, subst}
use Rattle.lk_law.proofs.Names.{LockHistory, no_history, IsFront, Event, Int, Manner, Rw, LockName}
use Rattle.lk_law.proofs.Names.{Waiter, after_halt, stands_halting, rw_name, Goes, Frame, Pc, E2}
use Rattle.lk_law.proofs.Names.{E12, W6, W7, MayFollow, roused, IsSoundWorld, RwFits, is_rw_name}
use Rattle.lk_law.proofs.Names.{spin_part, put_frame, told_on, World}
use Rattle.lk_names.specs.{History.history_of, Lawful.FrontIsOwed}
use Rattle.lk_law.proofs.common.BothLayers.{IsOf, spin_done}
use Rattle.lk_law.proofs.common.Puts.{if_cases, if-false, put_moves, not-true}
use Rattle.lk_law.proofs.common.RowsMade.{onward}
use Rattle.lk_law.proofs.pv.HaltsEnd.{sleeping_row, halted_sleeps, spin_wake_keeps}
use Rattle.lk_law.proofs.pv.HaltsEnd.{spin_nudge_keeps, spin_int_keeps, roused_is_awake}
use Rattle.lk_law.proofs.{pv.HaltsEnd.top_is_awake, pv.HaltsShown.front_is_owed}
use Rattle.lk_law.proofs.{pv.Interrupts.{nobody_above, nobody_roused}, rw.Begins.end_keeps}
use Rattle.lk_law.proofs.rw.Else.{Put}
use Rattle.lk_law.specs.{Premises.above, SpinLaws.SpinEndsHalt}
use Rattle.lk_law.specs.WorldLaws.{EndsHalt, WakeKeeps, NudgeKeeps, IntKeeps, InterruptKeeps}
use Rattle.lk_law.specs.WorldLaws.{FrontsAreOwed}

-- The world after the end of a halt is the old one but for the frame, which has gone on behind it,
-- and for halts and kicks.
pub record Behind (m m' : World) (w : Waiter) (f : Frame) : Type 0 where
  pub frames : m'.frame ≡ (put_frame m w (Some (record f { place = after_halt f.place }))).frame
  pub helds : m'.held ≡ m.held
  pub rws : m'.rw ≡ m.rw
  pub kinds : m'.kind ≡ m.kind

behind_put : {m m' : World} {w : Waiter} {f : Frame} (d : Pc) → m.frame w ≡ Some f
    → after_halt f.place ≡ Some d → Behind m m' w f
    → Put m m' w f (record f { place = Some d }) f.lock (m.held w f.lock)
behind_put {m = m} {m' = m'} {w = w} {f = f} d live place b =
    let base = put_moves m.frame w (Some f) (Some (record f { place = after_halt f.place })) live in
    let at : (u : Waiter) → m'.frame
    u ≡ (put_frame m w (Some (record f { place = after_halt f.place }))).frame u =
    λ u. ap (λ (h : Waiter → Option Frame). h u) b.frames in
    let same : (u : Waiter) (k : LockName) → m'.held u k ≡ m.held u k =
    λ u k. ap (λ (h : Waiter → LockName → Option Manner). h u k) b.helds in
    record {
      frames = record {
        was = live;
        now = at w ∙ base.now ∙ ap (λ (o : Option Pc). Some (record f { place = o })) place;
        others = λ u ne. at u ∙ base.others u ne;
      };
      here = same w f.lock;
      waiters = λ u ne k. same u k;
      locks = λ k ne u. same u k;
    }

-- where the end of a halt keeps spinlocks sound it keeps the world sound
halt_keeps : (after : World → Waiter → Frame → World) (event : Waiter → Frame → Event)
    → ((m : World) (w : Waiter) (f : Frame) → Behind m (after m w f) w f)
    → ((w : Waiter) (f : Frame) → IsOf f.lock (Some (event w f))) → SpinEndsHalt after event
    → EndsHalt after event
halt_keeps after event shape of ends m hs rules w f sound newest live halted =
    let kept = ends m (spin_part m.kind hs) rules w f sound.spins newest live halted in
    let b = shape m w f in
    let done : IsSoundWorld (after m w f) (told_on hs (Some (event w f))) × MayFollow rules hs
    (event w f) = elim (sleeping_row f.place f (halted_sleeps sound.spins newest live halted)) [
      | inl p ↦ spin_done W6 refl rules (Goes W7 []) (onward W7 refl refl) sound live p
          (behind_put W7 live (ap after_halt p) b) b.rws b.kinds (Some (event w f)) (of w f) kept.1
          kept.2
      | inr p ↦ spin_done E12 refl rules (Goes E2 []) (onward E2 refl refl) sound live p
          (behind_put E2 live (ap after_halt p) b) b.rws b.kinds (Some (event w f)) (of w f) kept.1
          kept.2
    ] in
    (kept.0, done.0, done.1)

behind_same : {m m' : World} {w : Waiter} {f : Frame}
    → m'.frame ≡ (put_frame m w (Some (record f { place = after_halt f.place }))).frame
    → m'.held ≡ m.held → m'.rw ≡ m.rw → m'.kind ≡ m.kind → Behind m m' w f
behind_same a b c d = record { frames = a; helds = b; rws = c; kinds = d }

pub wake_keeps : WakeKeeps
wake_keeps = halt_keeps _ _ (λ m w f. behind_same refl refl refl refl) (λ w f. refl) spin_wake_keeps

pub nudge_keeps : NudgeKeeps
nudge_keeps = halt_keeps _ _ (λ m w f. behind_same refl refl refl refl) (λ w f. tt) spin_nudge_keeps

pub int_keeps : IntKeeps
int_keeps = halt_keeps _ _ (λ m w f. behind_same refl refl refl refl) (λ w f. tt) spin_int_keeps

some_is : (g d : Frame) → Some g ≡ Some d → g ≡ d
some_is g d e = grind arith

pub interrupt_keeps : InterruptKeeps
interrupt_keeps m hs rules w f g sound newest live none fit may =
    let e : Event = record { by = above w; what = Int } in
    let P : World → Type 0 =
    λ n. IsSoundWorld (put_frame n (above w) (Some g)) (told_on hs (Some e)) in (
      if_cases P (m.halted w.cpu) (roused m w f) m
          (λ h. end_keeps (roused m w f) (told_on hs (Some e)) (above w) None (Some g)
          (int_keeps m hs rules w f sound newest live h).1 (nobody_roused newest live) tt none
          (λ q. roused_is_awake m (spin_part m.kind hs) w f sound.spins newest live)
          (λ d q. subst (RwFits m.kind) (some_is g d q) fit))
          (λ h. end_keeps m hs (above w) None (Some g) sound (nobody_above newest) tt none
          (λ q. (top_is_awake m (spin_part m.kind hs) w f sound.spins newest live
          (not-true (stands_halting f.place) (λ s. let z = may s in grind (arith, z, h)))).0)
          (λ d q. subst (RwFits m.kind) (some_is g d q) fit)),
      (λ k q. cc q),
    )

-- an rwlock's own name has no front; and the rest has the history of the events
pub fronts_are_owed : FrontsAreOwed
fronts_are_owed m es on sound shows l = by_kind (is_rw_name m.kind l) refl
  where
    hs : LockName → LockHistory
    hs k = history_of k es

    is_name : is_rw_name m.kind l ≡ true → (rw_name l.index ≡ l) × (m.kind l.index ≡ Rw)
    is_name e = (name l e, kind e)
      where
        kind : is_rw_name m.kind l ≡ true → m.kind l.index ≡ Rw
        kind e = grind (arith, e)

        name : (l : LockName) → is_rw_name m.kind l ≡ true → rw_name l.index ≡ l
        name l e = let z : l.wait ≡ false = grind (arith, e) in
            (λ i. record { index = l.index; wait = sym z i })

    by_kind : (b : Bool) → is_rw_name m.kind l ≡ b → FrontIsOwed es l
    by_kind false e =
        front_is_owed m es on sound.spins shows l
        (if-false (is_rw_name m.kind l) no_history (hs l) e)
    by_kind true e =
        let n = is_name e in
        let empty : (hs l).main ≡ [] =
        ap (λ (k : LockName). (hs k).main) (sym n.0) ∙ (sound.rws l.index n.1).main in
        (λ w front free asleep. absurd (nobody (hs l) w front empty))
      where
        nobody : (h : LockHistory) (w : Waiter) → IsFront h w → h.main ≡ [] → ⊥
        nobody h w front empty = let z : IsFront (record h { main = [] }) w =
            subst (λ (q : List Waiter). IsFront (record h { main = q }) w) empty front in cc z
