-- Where a row hands the lead on, some waiter uses the node that it names.
use Rattle.std.proofs.Common.{◌≡◌, Option, Some, None, Bool, true, false, refl, sym, ap, subst}
use Rattle.std.proofs.Common.{if◌then◌else◌, is_some, ◌-◌, ◌==◌, ◌&&◌}
use Rattle.lk_law.proofs.Names.{NodeName, LockHistory, LockName, Waiter, node_of, Effect, Nothing}
use Rattle.lk_law.proofs.Names.{Passes, Says, Tell, target, Flag, Frame, Pc, C1, C2, C8, C10, E4}
use Rattle.lk_law.proofs.Names.{E7, E13, E15, F1, G3, G6, G8, G11, H2, K1, N2, R1, R2, R5, T1, T2}
use Rattle.lk_law.proofs.Names.{U2, V2, W2, W4, W7, Wr1, Wr3, Wr6, Y1, Y2, Y4, Y5, Sight}
use Rattle.lk_law.proofs.Names.{after_none, is_held, is_last, may_stay, search_first, search_on}
use Rattle.lk_law.proofs.Names.{is_halted, is_running, is_set, after_flag, is_sole, is_free}
use Rattle.lk_law.proofs.Names.{is_unlocked, course_in, IsSoundSpinWorld, Made, sight_in, World}
use Rattle.lk_rows.specs.rows.Rw.{is_open, is_empty, is_cleared}
use Rattle.lk_law.proofs.cna.Knows.{choice_is_used}
use Rattle.lk_law.proofs.common.Knows.{next_is_used, halting_next_is_used}
use Rattle.lk_law.proofs.running.Leads.{row_is_led}
use Rattle.lk_law.specs.{Nodes.LeadGoesOn, Premises.GoesTo}
use Rattle.lk_rows.specs.declared.parts.Flag.TheVariants as flag

-- the lead is handed on
abbrev passes : Tell → Bool
passes (Passes n k) = true
passes _ = false

either : {A : Type 0} (b : Bool) (x y : Effect A) → passes x.tells ≡ false
    → passes y.tells ≡ false → passes (if b then x else y).tells ≡ false
either true x y h k = h
either false x y h k = k

module _ (m : World) (hs : LockName → LockHistory) (w : Waiter) (f : Frame)
    (ok : IsSoundSpinWorld m hs) (live : m.frame w ≡ Some f) where
  abbrev s : Sight
  s = sight_in m w f

  anybody : Waiter
  anybody = record { cpu = 0; ctx = 0 }

  -- where nothing is handed on, any waiter will do
  quiet : (t : Tell) → passes t ≡ false → (to : Waiter) × GoesTo m to t
  quiet Nothing h = (anybody, tt)
  quiet (Says what) h = (anybody, tt)
  quiet (Passes n k) h = cc h

  flagged : (x : Flag) → passes (after_flag x).tells ≡ false
  flagged flag.Unset = refl
  flagged flag.Go = refl
  flagged (flag.Second n) = refl

  nobody : (o : Option NodeName) → passes (after_none o).tells ≡ false
  nobody None = refl
  nobody (Some n) = refl

  first : (x : Option NodeName) → passes (search_first s f.second x).tells ≡ false
  first None = nobody f.second
  first (Some n) =
      either (may_stay s) _ _ (either (s.local n) _ _ refl refl)
      (either (is_some f.second) _ _ refl refl)

  further : (x : Option NodeName) → passes (search_on s f x).tells ≡ false
  further None = either (is_some f.second) _ _ refl refl
  further (Some n) =
      either (s.local n) _ _ (either (is_some f.second) _ _ refl refl) refl

  to : (c : Pc) → f.place ≡ Some c
      → (to : Waiter) × GoesTo m to (course_in m w f c (target c f)).tells
  to G11 at = let u = next_is_used m hs w f ok live at in (u.0, u.1)
  to C8 at = let u = choice_is_used m hs w f C8 ok live at refl in (u.0, u.1)
  to F1 at = quiet _ (either (is_free (m.word f.lock)) _ _ refl refl)
  to T1 at = quiet _ (either (is_free (m.word f.lock)) _ _ refl refl)
  to T2 at = quiet _ (either (is_free (m.word f.lock)) _ _ refl refl)
  to V2 at = quiet _ (either (is_free (m.word f.lock)) _ _ refl refl)
  to G3 at = quiet _ (either (is_free (m.word f.lock)) _ _ refl refl)
  to G6 at = quiet _ (flagged (m.node (node_of f.me)).flag)
  to G8 at = quiet _ (either (is_sole f (m.word f.lock)) _ _ refl refl)
  to N2 at = quiet _ (either (is_free (m.word f.lock)) _ _ refl refl)
  to C1 at = quiet _ (first (m.node (node_of f.me)).next)
  to C2 at = quiet _ (further (m.node (node_of f.b)).next)
  to C10 at = quiet _ (either (is_last f (m.word f.lock)) _ _ refl refl)
  to R1 at = quiet _ (either (is_open (m.rw f.lock.index)) _ _ refl refl)
  to R2 at = quiet _ (either (m.rw f.lock.index).writer _ _ refl refl)
  to R5 at = quiet _ (either (m.rw f.lock.index).writer _ _ refl refl)
  to Wr1 at = quiet _ (either (is_empty (m.rw f.lock.index)) _ _ refl refl)
  to Wr3 at = quiet _ (either (is_empty (m.rw f.lock.index)) _ _ refl refl)
  to Wr6 at = quiet _ (either (is_cleared (m.rw f.lock.index)) _ _ refl refl)
  to Y1 at = quiet _ (either (is_open (m.rw f.lock.index)) _ _ refl refl)
  to Y2 at = quiet _ (either (is_open (m.rw f.lock.index)) _ _ refl refl)
  to Y4 at = quiet _ (either (is_empty (m.rw f.lock.index)) _ _ refl refl)
  to Y5 at = quiet _ (either (is_empty (m.rw f.lock.index)) _ _ refl refl)
  to E15 at = let u = halting_next_is_used m hs w f ok live at in (u.0, u.1)
  to H2 at = quiet _ (either (is_unlocked (m.word f.lock).locked) _ _ refl refl)
  to W2 at =
      quiet _ (either (is_running (m.node (node_of f.prev)).state) _ _
      (either (f.left - 1 == 0) _ _ refl refl) refl)
  to W4 at = quiet _ (either (is_set (m.node (node_of f.me)).flag) _ _ refl refl)
  to W7 at = quiet _ (either (is_halted (m.node (node_of f.me)).state) _ _ refl refl)
  to E4 at =
      quiet _ (either (is_unlocked (m.word f.lock).locked && (m.word f.lock).pending) _ _ refl
      (either (f.left - 1 == 0) _ _ refl refl))
  to E7 at = quiet _ (either (is_unlocked (m.word f.lock).locked) _ _ refl refl)
  to E13 at = quiet _ (either (is_last f (m.word f.lock)) _ _ refl refl)
  to K1 at = quiet _ (either (is_halted (m.node (node_of f.y)).state) _ _ refl refl)
  to U2 at = quiet _ (either (is_held (m.word f.lock).locked) _ _ refl refl)
  to _ at = (anybody, tt)

pub lead_goes_on : LeadGoesOn
lead_goes_on m hs w f c ok live at =
    subst (λ (t : Tell). (to : Waiter) × GoesTo m to t)
    (sym (ap (λ (p : Made). p.1) (row_is_led m w f c (target c f))))
    (to m hs w f ok live c at)
