-- A frame comes on top of a processor, and one without a place goes on or ends.
use Rattle.std.proofs.Common.{Option, ◌≡◌, ◌≢◌, ℕ, Some, None, Bool, true, false, List, inl, inr}
use Rattle.std.proofs.Common.{arith, ap, ◌<◌, ◌≤◌, ◌-◌, refl, sym, ◌∙◌, subst, length}
use Rattle.std.proofs.Common.{if◌then◌else◌, ◌||◌}
use Rattle.lk_core.proofs.Names.{cases_eq, none-some, same_Some, LockHistory, same_waiter, Event}
use Rattle.lk_core.proofs.Names.{LockName, Waiter, handler_frame, idle, HasTop, Machine, top_of}
use Rattle.lk_core.proofs.Names.{program_of, settled, handlers_of, way_at, Frame, Pc, waiter_cases}
use Rattle.lk_core.proofs.Names.{same_waiter-else, same_waiter-self, ShowsKicks, is_inner, ShowsAll}
use Rattle.lk_core.proofs.Names.{frees, held_at, held_idle, held_of, owes_kick, world, IsSoundWorld}
use Rattle.lk_core.proofs.Names.{RwFits, rw_phase_if, put_frame, World}
use Rattle.lk_rows.specs.Machine.{frame_at, depth_at, handlers_at, push}
use Rattle.lk_law.proofs.{pv.HaltsShown.end_shows, rw.Begins.end_keeps}
use Rattle.lk_law.specs.Premises.{HasNoSleeper}
use Rattle.lk_core.proofs.Access.{above_top}
use Rattle.lk_core.proofs.Kicks.{SameKicks, asleep_in, owed_in, kicks_same, kicks_then}
use Rattle.lk_core.proofs.{Kicks.kicks_settled, Moved.holding_same, RowParts.StillShows}
use Rattle.lk_core.proofs.Same.{Keeps, keeps_push, handlers_push, handlers_push_other, depth_push}
use Rattle.lk_core.proofs.Same.{tops_push, whole_kept, fits_kept}
use Rattle.lk_core.proofs.Seated.{alike, next_of, world-push}
use Rattle.lk_core.proofs.{Settle.{Between, ended_at, settled_shows}, Walks.{IsOuter, outer_held}}

pub idle_kept : (m : Machine) (hs : LockName → LockHistory) → ShowsAll m hs
    → StillShows m hs (idle m)
idle_kept m hs shows = record { shows = shows; allowed = tt; kicks = λ es shown. shown }

placeless_outer : (f : Frame) → f.place ≡ None → IsOuter f
placeless_outer f place =
    record {
      inner = ap (λ (c : Option Pc). is_inner (rw_phase_if c f.lock.wait)) place;
      over = ap (λ (c : Option Pc). frees (rw_phase_if c f.lock.wait) || owes_kick c) place;
    }

-- a frame without a place that stands on top holds what it holds
ended_is : (n : Machine) (w : Waiter) (f : Frame) → frame_at n w ≡ Some f → f.place ≡ None
    → ended_at n w f f ≡ world n
ended_is n w f live place =
    alike (ended_at n w f f) (world n) (record {
      mode = refl;
      turns = refl;
      threshold = refl;
      format = refl;
      sockets = refl;
      word = λ l. refl;
      node = λ k. refl;
      frame = λ u. elim (waiter_cases u w) [
        | inl e ↦
            let P : Waiter → Type 0 =
            λ v. (if same_waiter v w then Some f else frame_at n v) ≡ frame_at n v in
            subst P (sym e) (rw (same_waiter-self w) (sym live))
        | inr ne ↦ rw (same_waiter-else u w ne) refl
      ];
      held = λ u l. elim (waiter_cases u w) [
        | inl e ↦
            let P : Waiter → Type 0 =
            λ v. (if same_waiter v w then held_idle (program_of n w.cpu f) f l else held_of n v
            l) ≡ held_of n v l in
            subst P (sym e)
            (rw (same_waiter-self w)
            (sym (ap (held_at n w l) live
            ∙ outer_held (program_of n w.cpu f) f (placeless_outer f place) l)))
        | inr ne ↦ rw (same_waiter-else u w ne) refl
      ];
      queued = λ q. refl;
      rw = λ i. refl;
      kind = λ i. refl;
      entry = λ k. refl;
      halted = λ q. refl;
      kicked = λ q. refl;
    })

-- A frame comes on top, where no frame of the processor sleeps.
module _ (m : Machine) (p : ℕ) (hs : LockName → LockHistory) (shows : ShowsAll m hs)
    (range : p < length m.cpus)
    (room : depth_at m p < 6) (left : handlers_at m p < handlers_of m.setup p)
    (calm : HasNoSleeper (world m) p) where
  abbrev f : Frame
  f = handler_frame m p

  abbrev n : Machine
  n = push m p f

  abbrev w : Waiter
  w = next_of m p

  keeps : Keeps m n
  keeps = keeps_push m p f range

  top : HasTop m p
  top = shows.whole.tops p range

  frames : (u : Waiter) → frame_at n u ≡ (if same_waiter u w then Some f else frame_at m u)
  frames u = ap (λ (x : World). x.frame u) (world-push m p f range)

  top_is : top_of n p ≡ w
  top_is = let d : depth_at n p - 1 ≡ depth_at m p = let e = depth_push m p f range in
      omega arith in (λ i. record { cpu = p; ctx = d i })

  absent : frame_at m w ≡ None
  absent = above_top m p (depth_at m p) (omega (arith, top.some))

  live : frame_at n w ≡ Some f
  live = frames w ∙ ap (λ (b : Bool). if b then Some f else frame_at m w) (same_waiter-self w)

  -- the new frame holds nothing
  held_new : (l : LockName) → held_at m w l (Some f) ≡ held_of m w l
  held_new l = by l.wait ∙ sym (ap (held_at m w l) absent)
    where
      by : (b : Bool) → (if b then None else way_at (program_of m p f) 0 l.index) ≡ None
      by true = refl
      by false = refl

  pushed_world : world n ≡ put_frame (world m) w (Some f)
  pushed_world = world-push m p f range
      ∙ holding_same (world m) w (Some f) (λ l. held_at m w l (Some f)) held_new

  pushed_sound : IsSoundWorld (ended_at n w f f) hs
  pushed_sound =
      subst (λ (x : World). IsSoundWorld x hs) (sym (ended_is n w f live refl ∙ pushed_world))
      (end_keeps (world m) hs w None (Some f) shows.world absent tt (refl, refl) (λ q. calm)
      (λ d e. subst (RwFits (world m).kind) (same_Some f d e)
      (record {
        rw = λ c q r. cc;
        inner = λ c q r i. cc;
        spin = λ c q r s. cc;
        waits = λ q. cc;
        after = λ q. cc;
      })))

  between : Between n p f f hs
  between =
      record {
        whole = whole_kept m n shows.whole keeps
            (λ q lt. tops_push m p f range room q (shows.whole.tops q lt))
            (λ q. elim (cases_eq q p) [
              | inl e ↦ let h = handlers_push m p f range in
                  subst (λ (r : ℕ). handlers_at n r ≤ handlers_of m.setup r) (sym e) (omega arith)
              | inr ne ↦ let h = handlers_push_other m p q f ne in let o = shows.whole.handlers q in
                  omega arith
            ]);
        range = rw keeps.cpus range;
        others = λ u g ne e.
            let far : u ≢ w = (λ q. ne (q ∙ sym top_is)) in
            let at : frame_at n u ≡ frame_at m u = frames u
            ∙ ap (λ (b : Bool). if b then Some f else frame_at m u)
            (same_waiter-else u w far) in
            fits_kept m n u g keeps (shows.fits u g (sym at ∙ e));
        world =
            subst (λ (v : Waiter). IsSoundWorld (ended_at n v f f) hs) (sym top_is) pushed_sound;
        place = refl;
        me = refl;
        lock = refl;
        next = refl;
        ctx = sym (ap (λ (v : Waiter). v.ctx) top_is);
        program =
            let e = ap (λ (v : Waiter). v.ctx) top_is in
            let h = handlers_push m p f range in
            let s = top.some in
            (λ z. absurd (omega arith), λ z. (omega arith, omega arith));
        within = omega arith;
        nodes =
            record { prev = λ x e. absurd (none-some x e); target = λ x e. absurd (none-some x e) };
      }

  pub pushed_shows : ShowsAll (settled n p f) hs
  pushed_shows = settled_shows n p f f hs between

  -- and it shows the halts and kicks that it showed
  pub pushed_kicks : (es : List Event) → ShowsKicks (world m) es
      → ShowsKicks (world (settled n p f)) es
  pushed_kicks es shown =
      let x : World = put_frame (world m) w (Some f) in
      let P : World → Waiter → Type 0 = λ y v. SameKicks x (put_frame y v (Some f)) in
      let twice : P x w =
      record {
        halted = λ q. refl;
        kicked = λ q. refl;
        asleep = λ u. by asleep_in (same_waiter u w) (frame_at m u);
        owed = λ u. by owed_in (same_waiter u w) (frame_at m u);
      } in
      let over : P (world n) (top_of n p) =
      subst (λ (v : Waiter). P (world n) v) (sym top_is)
      (subst (λ (y : World). P y w) (sym pushed_world) twice) in
      let after = kicks_settled n p (tops_push m p f range room p top) f f refl in
      kicks_same x (world (settled n p f)) es
      (kicks_then x (put_frame (world n) (top_of n p) (Some f)) (world (settled n p f)) over
      after)
      (end_shows (world m) w None (Some f) es absent tt (refl, refl) shown)
    where
      by : {A : Type 0} (F : Option Frame → A) (t : Bool) (z : Option Frame)
          → F (if t then Some f else (if t then Some f else z)) ≡ F (if t then Some f else z)
      by F true z = refl
      by F false z = refl
