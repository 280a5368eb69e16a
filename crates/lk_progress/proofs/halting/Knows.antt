-- What a waiter of the family that halts processors knows on its way: who finds its state changed before it halts leads
-- the queue, and a head that tries has set the pending bit.
use Rattle.std.proofs.Common.{◌≡◌, ◌≢◌, ◌⊎◌, inl, inr, Option, Some, None, Bool, true, false, refl}
use Rattle.std.proofs.Common.{sym, ap, ◌∙◌, arith, is_some, slice_get}
use Rattle.lk_progress.proofs.Names.{NodeName, LockHistory, LockName, Waiter, node_of, Flag, Frame}
use Rattle.lk_progress.proofs.Names.{Pc, E4, W5, State, is_halted, is_set, waiter_cases}
use Rattle.lk_progress.proofs.Names.{phase_on-here, halts, phase_at, phase_if, phase_on, snapshot}
use Rattle.lk_progress.proofs.Names.{IsSoundSpinWorld, World}
use Rattle.lk_law.proofs.pv.Laws.{not_pending, para_queue}
use Rattle.lk_law.specs.{Agree.node_state, Phase.{Phase, leads, pends}, Phase.Phase.{Leads, Waits}}
use Rattle.lk_law.specs.{Places.own_in, Pv.{Post, fits}, Pv.Post.Dozes, Snapshot.Snapshot}
use Rattle.lk_waits.proofs.HeadLinked.{front, posted}

led_flag : (x : Flag) → leads Waits x ≡ true → is_set x ≡ true
led_flag x h = grind (arith, h)

doze_fits : (b : Bool) (x : State) → fits Dozes b x ≡ true → is_halted x ≡ false → b ≡ true
doze_fits b x h e = grind (arith, h, e)

module _ (m : World) (hs : LockName → LockHistory) (ok : IsSoundSpinWorld m hs) (on : halts m.mode ≡ true) (w : Waiter)
    (f : Frame) (live : m.frame w ≡ Some f) where
  abbrev s : Snapshot
  s = snapshot m

  pub shown : (c : Pc) → f.place ≡ Some c → s.phase f.lock w ≡ phase_at c (is_some f.me) (node_of f.prev) (node_of f.y)
  shown c at = ap (phase_on f.lock) live ∙ phase_on-here f.lock f refl
      ∙ ap (λ (d : Option Pc). phase_if d (is_some f.me) (node_of f.prev) (node_of f.y)) at

  -- a head that tries for the lock has set the pending bit
  pub tries_pending : f.place ≡ Some E4 → (m.word f.lock).pending ≡ true
  tries_pending at = (ok.agrees.locks f.lock).pend.set w (ap pends (shown E4 at))

  -- a head at such a row has not set it, and so nobody has
  pub unset : (c : Pc) → f.place ≡ Some c → phase_at c (is_some f.me) (node_of f.prev) (node_of f.y) ≡ Leads
      → (m.word f.lock).pending ≡ false
  unset c at is =
      not_pending ok.agrees on f.lock w
      (front m hs ok on w f c live at (ap (λ (r : Phase). leads r (m.node (node_of f.me)).flag) is))
      (shown c at ∙ is) (m.word f.lock).pending refl

  own_is : own_in (m.frame w) ≡ node_of f.me
  own_is = ap own_in live

  first_or : (o : Option Waiter) → (o ≡ Some w) ⊎ (o ≢ Some w)
  first_or None = inr (λ e. cc e)
  first_or (Some u) = elim (waiter_cases u w) [ inl e ↦ inl (ap Some e) | inr ne ↦ inr (λ e. ne (let z : u ≡ w = cc e in z)) ]

  -- a waiter that finds its state changed before it halts has its flag set
  pub doubts_led : f.place ≡ Some W5 → is_halted (m.node (node_of f.me)).state ≡ false
      → is_set (m.node (node_of f.me)).flag ≡ true
  doubts_led at state = elim (first_or (slice_get (hs f.lock).main 0)) [
    | inl first ↦
        let lead = (para_queue ok.agrees on f.lock).ends.first w first in
        led_flag (m.node (node_of f.me)).flag
        (ap (λ (n : NodeName). leads Waits (m.node n).flag) (sym own_is)
        ∙ ap (λ (r : Phase). leads r (m.node (own_in (m.frame w))).flag) (sym (shown W5 at)) ∙ lead)
    | inr off ↦
        let fit : fits (s.post f.lock w) false (node_state s w) ≡ true =
        ((ok.agrees.locks f.lock).posts on).posts.fit w false (λ e. off) (λ e. cc e) in
        let dozing : s.post f.lock w ≡ Dozes = posted m hs ok on w f W5 live at in
        let z : fits Dozes false (m.node (node_of f.me)).state ≡ true =
        ap (λ (n : NodeName). fits Dozes false (m.node n).state) (sym own_is)
        ∙ ap (λ (p : Post). fits p false (node_state s w)) (sym dozing) ∙ fit in
        absurd (let y = doze_fits false (m.node (node_of f.me)).state z state in cc y)
  ]
