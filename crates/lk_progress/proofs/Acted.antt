-- What an act of a family in which no processor halts does to the frames of a machine, and what it tells.
use Rattle.std.proofs.Common.{◌≡◌, ◌≢◌, inl, inr, ℕ, ◌<◌, ◌-◌, Option, Some, None, Bool, true}
use Rattle.std.proofs.Common.{false, refl, sym, ap, ◌∙◌, subst, arith, length, if◌then◌else◌, ◌&&◌}
use Rattle.std.proofs.Common.{◌||◌, not, nat_le}
use Rattle.lk_progress.proofs.Names.{cases_Bool, leb-false, or_parts, LockHistory, same_waiter, Act}
use Rattle.lk_progress.proofs.Names.{Int, LockName, Mode, Waiter, handler_frame, idle, is_shut}
use Rattle.lk_progress.proofs.Names.{next, nudged, processor_of, stands_halting, step_halted, woken}
use Rattle.lk_progress.proofs.Names.{HasTop, Machine, halted_at, handlers_at, push, set_preempted}
use Rattle.lk_progress.proofs.Names.{top_frame, top_of, settled, handlers_of, Answer, row, row_at}
use Rattle.lk_progress.proofs.Names.{Frame, Pc, nobody_halts, same_waiter-else, same_waiter-self}
use Rattle.lk_progress.proofs.Names.{halts, ShowsAll, world, spin_part, World, above_top}
use Rattle.lk_progress.proofs.Names.{depth_push, tops_push, next_of, world-push}
use Rattle.lk_progress.proofs.Names.{world-set_preempted}
use Rattle.lk_rows.specs.{Acts.interrupted, Machine.{preempted_at, frame_at, depth_at}}
use Rattle.lk_progress.proofs.Moves.{Settles, Settled, settled_is}
use Rattle.lk_names.specs.declared.events.Act.TheVariants as act

-- what an act does, of which the answer is this
pub data Acted (m : Machine) (x : Answer) : Type 0 where
  -- no frame changes, and nothing is told
  Idles : ((u : Waiter) → frame_at x.0 u ≡ frame_at m u) → x.1 ≡ None → Acted m x
  -- the newest frame of a processor makes its row
  Makes : (p : ℕ) (c : Pc) → p < length m.cpus → (top_frame m p).place ≡ Some c → x ≡ row m p → Acted m x
  -- the frame of a handler comes
  Comes : (v : Waiter) (mode : Mode) (h : Frame)
      → frame_at m v ≡ None
      → Settles mode h (frame_at x.0 v)
      → ((u : Waiter) → u ≢ v → frame_at x.0 u ≡ frame_at m u)
      → x.1 ≡ Some (record { by = v; what = Int })
      → Acted m x

module _ (m : Machine) (hs : LockName → LockHistory) (shows : ShowsAll m hs) (awake : halts m.setup.mode ≡ false) where
  unhalted : (p : ℕ) → halted_at m p ≡ false
  unhalted p = nobody_halts (world m) (spin_part (world m).kind hs) shows.world.spins awake p

  stepped : (p : ℕ) → p < length m.cpus → (o : Option Pc) → (top_frame m p).place ≡ o → Acted m (row m p)
  stepped p range None at =
      let is : row m p ≡ (m, None) = ap (row_at m p (top_frame m p)) at in
      Idles (λ u. ap (λ (x : Answer). frame_at x.0 u) is) (ap (λ (x : Answer). x.1) is)
  stepped p range (Some c) at = Makes p c range at refl

  module _ (p : ℕ) (range : p < length m.cpus) (low : depth_at m p < 6) where
    abbrev g : Frame
    g = handler_frame m p

    abbrev n : Machine
    n = push m p g

    abbrev v : Waiter
    v = next_of m p

    top : HasTop m p
    top = shows.whole.tops p range

    s : Settled n p g (settled n p g)
    s = settled_is n p g (tops_push m p g range low p top)

    top_is : top_of n p ≡ v
    top_is = let e : depth_at n p - 1 ≡ depth_at m p = (let z = depth_push m p g range in omega (arith, z)) in
        (λ i. record { cpu = p; ctx = e i })

    absent : frame_at m v ≡ None
    absent = above_top m p (depth_at m p) (let z = top.some in omega (arith, z))

    here : frame_at (settled n p g) v ≡ s.now
    here = s.follows.frame v
        ∙ ap (λ (b : Bool). if b then s.now else frame_at n v) (ap (same_waiter v) top_is ∙ same_waiter-self v)

    there : (u : Waiter) → u ≢ v → frame_at (settled n p g) u ≡ frame_at m u
    there u ne = s.follows.frame u
        ∙ ap (λ (b : Bool). if b then s.now else frame_at n u) (ap (same_waiter u) top_is ∙ same_waiter-else u v ne)
        ∙ ap (λ (y : World). y.frame u) (world-push m p g range)
        ∙ ap (λ (b : Bool). if b then Some g else frame_at m u) (same_waiter-else u v ne)

    interrupts : Acted m (settled n p g, Some (record { by = v; what = Int }))
    interrupts = Comes v n.setup.mode g absent (subst (Settles n.setup.mode g) (sym here) s.settles) there refl

  idles : Acted m (idle m)
  idles = Idles (λ u. refl) refl

  pauses : (p : ℕ) (b : Bool) → Acted m (set_preempted m p b, None)
  pauses p b = Idles (λ u. ap (λ (x : World). x.frame u) (world-set_preempted m p b)) refl

  pub acted : (a : Act) → processor_of a < length m.cpus → Acted m (next m a)
  acted (act.Step p) range = by (preempted_at m p)
    where
      by : (b : Bool) → Acted m (if b then idle m else (if halted_at m p then step_halted m p else row m p))
      by true = idles
      by false =
          subst (λ (b : Bool). Acted m (if b then step_halted m p else row m p)) (sym (unhalted p))
          (stepped p range (top_frame m p).place refl)
  acted (act.Interrupt p) range =
      elim (cases_Bool (is_shut m p)) [
        | inl e ↦ subst (λ (b : Bool). Acted m (if b then idle m else interrupted m p)) (sym e) idles
        | inr e ↦
            let a = or_parts
            (preempted_at m p || nat_le 6 (depth_at m p)
            || nat_le (handlers_of m.setup p) (handlers_at m p))
            (stands_halting (top_frame m p).place && not (halted_at m p)) e in
            let b =
            or_parts (preempted_at m p || nat_le 6 (depth_at m p))
            (nat_le (handlers_of m.setup p) (handlers_at m p)) a.0 in
            let c = or_parts (preempted_at m p) (nat_le 6 (depth_at m p)) b.0 in
            let is : Rattle.lk_rows.specs.Acts.awake m p ≡ m = ap (λ (t : Bool). if t then woken m p else m) (unhalted p) in
            subst (λ (b : Bool). Acted m (if b then idle m else interrupted m p)) (sym e)
            (subst (λ (y : Machine). Acted m (settled (push y p (handler_frame m p)) p (handler_frame m p), Some (record { by = next_of m p; what = Int }))) (sym is)
            (interrupts p range (leb-false 6 (depth_at m p) c.1)))
      ]
  acted (act.Preempt p) range = by (preempted_at m p)
    where
      by : (b : Bool) → Acted m (if b then idle m else (set_preempted m p true, None))
      by true = idles
      by false = pauses p true
  acted (act.Resume p) range = by (preempted_at m p)
    where
      by : (b : Bool) → Acted m (if b then (set_preempted m p false, None) else idle m)
      by true = pauses p false
      by false = idles
  acted (act.Nudge p) range = by (preempted_at m p) (halted_at m p) (unhalted p)
    where
      by : (b c : Bool) → c ≡ false → Acted m (if b || not c then idle m else nudged m p)
      by true c e = idles
      by false false e = idles
      by false true e = cc e
