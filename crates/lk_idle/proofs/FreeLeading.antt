-- Where a row leads, on a machine whose unowned nodes are at rest.
use Rattle.std.proofs.Common.{◌≡◌, ℕ, ◌+◌, ◌-◌, Option, Some, None, Bool, true, false, List, []}
use Rattle.std.proofs.Common.{◌∷◌, ap, refl, sym, ◌∙◌, subst, slice_get, if◌then◌else◌, ◌==◌}
use Rattle.lk_idle.proofs.Names.{NodeName, Machine, rest_node, top_frame, settled, Answer, Change}
use Rattle.lk_idle.proofs.Names.{Done, Effect, Enters, Freed, Goes, Granted, Lead, Leaves, Missed}
use Rattle.lk_idle.proofs.Names.{TakesWait, Yields, applied, Frame, freed, owns}
use Rattle.lk_names.specs.declared.events.What.TheVariants.{Pass}
use Rattle.lk_rows.specs.Machine.{frame_at, depth_at, cpu_at, set_top, set_node, set_queued}
use Rattle.lk_rows.specs.Machine.{queued_at, set_counts, pop}
use Rattle.lk_rows.specs.Moves.{program_of, started, settled_at, done, granted, missed, skipped}
use Rattle.lk_rows.specs.Moves.{leave, waiting}
use Rattle.lk_rows.specs.Row.{Counter, Tell, Nothing, Says, Passes, moved, counted, changed_all}
use Rattle.lk_rows.specs.Row.{with_change, gone, entered, event_of, Prev, Second, Y, Left, A, B, K}
use Rattle.lk_rows.specs.Row.{T, Reason, Tailed, HashedIs, TargetIs, count_all}
use Rattle.lk_rows.specs.declared.setup.Op.{Op}
use Rattle.lk_idle.proofs.FreeWrites.{set_top-freed, pop-freed, top-freed, queued-freed}
use Rattle.lk_idle.proofs.FreeWrites.{set_queued-freed, waiter-freed, enter-freed}

-- two answers are alike
pub record AreFreedAlike (a b : Answer) : Type 0 where
  pub state : freed a.0 ≡ freed b.0
  pub event : a.1 ≡ b.1

-- registers are changed, and the own node stays
change_me : (f : Frame) (c : Change) → (with_change f c).me ≡ f.me
change_me f (Prev n) = refl
change_me f (Second n) = refl
change_me f (Y n) = refl
change_me f (Left n) = refl
change_me f (A n) = refl
change_me f (B n) = refl
change_me f (K n) = refl
change_me f (T n) = refl
change_me f (Reason n) = refl
change_me f (Tailed b) = refl
change_me f (HashedIs b) = refl
change_me f (TargetIs n) = refl

changes_me : (f : Frame) (cs : List Change) → (changed_all f cs).me ≡ f.me
changes_me f [] = refl
changes_me f (c ∷ cs) = changes_me (with_change f c) cs ∙ change_me f c

-- the frame enters with this node, one of its processor's, or with none
abbrev pub EntersOwn : ℕ → Lead → Type 0
EntersOwn p (Enters (Some n) c) = n.cpu ≡ p
EntersOwn p lead = Unit {0}

module _ (p : ℕ) where
  -- the frame has the own node of the newest one, or none
  abbrev pub KeepsNode : Machine → Frame → Type 0
  KeepsNode m g = (j : ℕ) → owns g.me j ≡ true → owns (top_frame m p).me j ≡ true

  pub same_top : (m : Machine) (g : Frame) → KeepsNode m g → freed (set_top (freed m) p g) ≡ freed (set_top m p g)
  same_top m g keeps = set_top-freed m p g keeps

  settled_at-freed : (m : Machine) (f : Frame) (o : Option Op) → KeepsNode m f
      → freed (settled_at (freed m) p f o) ≡ freed (settled_at m p f o)
  settled_at-freed m f None same = by (f.ctx == 0)
    where
      by : (b : Bool) → freed (if b then set_top (freed m) p (record f { place = None }) else pop (freed m) p)
          ≡ freed (if b then set_top m p (record f { place = None }) else pop m p)
      by true = same_top m (record f { place = None }) same
      by false = pop-freed m p
  settled_at-freed m f (Some o) same = same_top m (started m.setup.mode f o) same

  pub settled-freed : (m : Machine) (f : Frame) → KeepsNode m f
      → freed (settled (freed m) p f) ≡ freed (settled m p f)
  settled-freed m f same = settled_at-freed m f (slice_get (program_of m p f) f.«at») same

  done-freed : (m : Machine) → freed (done (freed m) p) ≡ freed (done m p)
  done-freed m =
      ap (λ (f : Frame). freed (settled (freed m) p (record f { «at» = f.«at» + 1 }))) (top-freed m p)
      ∙ settled-freed m (record (top_frame m p) { «at» = (top_frame m p).«at» + 1 }) (λ j own. own)

  missed-freed : (m : Machine) → freed (missed (freed m) p) ≡ freed (missed m p)
  missed-freed m =
      ap (λ (f : Frame). freed (settled (freed m) p (record f { «at» = f.«at» + skipped (freed m) p f })))
      (top-freed m p)
      ∙ settled-freed m (record (top_frame m p) { «at» = (top_frame m p).«at» + skipped m p (top_frame m p) }) (λ j own. own)

  -- the lock is granted to this frame
  abbrev granted_to : Machine → Frame → Machine
  granted_to m f = if f.lock.wait then set_top m p (record f { place = f.then })
      else settled m p (record f { «at» = f.«at» + 1 })

  granted-freed : (m : Machine) → freed (granted (freed m) p) ≡ freed (granted m p)
  granted-freed m = ap (λ f. freed (granted_to (freed m) f)) (top-freed m p) ∙ by (top_frame m p).lock.wait
    where
      by : (b : Bool) → freed (if b then set_top (freed m) p (record (top_frame m p) { place = (top_frame m p).then })
          else settled (freed m) p (record (top_frame m p) { «at» = (top_frame m p).«at» + 1 }))
          ≡ freed (if b then set_top m p (record (top_frame m p) { place = (top_frame m p).then }) else settled m p (record (top_frame m p) { «at» = (top_frame m p).«at» + 1 }))
      by true = same_top m (record (top_frame m p) { place = (top_frame m p).then }) (λ j own. own)
      by false = settled-freed m (record (top_frame m p) { «at» = (top_frame m p).«at» + 1 }) (λ j own. own)

  no_own : false ≡ true → ⊥
  no_own e = cc

  leave-freed : (m : Machine) → freed (leave (freed m) p) ≡ freed (leave m p)
  leave-freed m =
      let t : Frame = record (top_frame m p) { me = None } in
      ap (λ n. freed (set_queued (set_top (freed m) p (record (top_frame (freed m) p) { me = None })) p (n - 1)))
      (queued-freed m p)
      ∙ ap (λ (f : Frame). freed (set_queued (set_top (freed m) p (record f { me = None })) p (queued_at m p - 1)))
      (top-freed m p)
      ∙ sym (set_queued-freed (set_top (freed m) p t) p (queued_at m p - 1))
      ∙ ap (λ k. set_queued k p (queued_at m p - 1)) (set_top-freed m p t (λ j own. absurd (no_own own)))
      ∙ set_queued-freed (set_top m p t) p (queued_at m p - 1)

  -- what is so of a machine at rest is so of two that are alike
  pub pair : (h : Machine → Machine) → ((m : Machine) → freed (h (freed m)) ≡ freed (h m)) → (k n : Machine)
      → freed k ≡ freed n → freed (h k) ≡ freed (h n)
  pair h each k n same = sym (each k) ∙ ap (λ m. freed (h m)) same ∙ each n

  kept : (m : Machine) (f g : Frame) → top_frame m p ≡ f → g.me ≡ f.me → KeepsNode m g
  kept m f g top same j own =
      subst (λ (o : Option NodeName). owns o j ≡ true) (same ∙ ap (λ (h : Frame). h.me) (sym top)) own

  moved-freed : (m : Machine) (f : Frame) (lead : Lead) → top_frame m p ≡ f → EntersOwn p lead
      → freed (moved (freed m) p f lead) ≡ freed (moved m p f lead)
  moved-freed m f (Goes c cs) top fits =
      same_top m (gone f c cs) (kept m f (gone f c cs) top (changes_me f cs))
  moved-freed m f (Enters None c) top fits =
      set_top-freed m p (entered f None c) (λ j own. absurd (no_own own))
  moved-freed m f (Enters (Some n) c) top fits =
      subst (λ (q : ℕ). freed (set_top (set_node (freed m) n rest_node) q (entered f (Some n) c))
      ≡ freed (set_top (set_node m n rest_node) q (entered f (Some n) c))) fits
      (enter-freed m n (entered f (Some n) c) refl)
  moved-freed m f Granted top fits = granted-freed m
  moved-freed m f Freed top fits = done-freed m
  moved-freed m f Missed top fits = missed-freed m
  moved-freed m f Done top fits = done-freed m
  moved-freed m f (TakesWait c) top fits = same_top m (waiting f c) (kept m f (waiting f c) top refl)
  moved-freed m f Leaves top fits =
      pair (λ k. granted k p) granted-freed (leave (freed m) p) (leave m p) (leave-freed m)
  moved-freed m f (Yields c cs) top fits =
      same_top m (gone f c cs) (kept m f (gone f c cs) top (changes_me f cs))

  -- the same of two machines that are alike
  moved-alike : (k n : Machine) (f : Frame) (lead : Lead) → freed k ≡ freed n → top_frame n p ≡ f
      → EntersOwn p lead → freed (moved k p f lead) ≡ freed (moved n p f lead)
  moved-alike k n f lead same top fits =
      let above = sym (top-freed k p) ∙ ap (λ m. top_frame m p) same ∙ top-freed n p ∙ top in
      sym (moved-freed k f lead above fits) ∙ ap (λ m. freed (moved m p f lead)) same
      ∙ moved-freed n f lead top fits

  counted-alike : (k n : Machine) (cs : List Counter) → freed k ≡ freed n → freed (counted k cs) ≡ freed (counted n cs)
  unfolding set_counts
  counted-alike k n [] same = same
  counted-alike k n (c ∷ cs) same = (λ i. record (same i) { counts = count_all (same i).counts (c ∷ cs) })

  counted-top : (n : Machine) (cs : List Counter) → top_frame (counted n cs) p ≡ top_frame n p
  unfolding set_counts frame_at depth_at cpu_at
  counted-top n [] = refl
  counted-top n (c ∷ cs) = refl

  event-freed : (m : Machine) (f : Frame) (t : Tell) → event_of (freed m) p f t ≡ event_of m p f t
  event-freed m f Nothing = refl
  event-freed m f (Says what) = refl
  event-freed m f (Passes n k) =
      ap (λ u. Some (record { by = record { cpu = p; ctx = f.ctx }; what = Pass f.lock u k })) (waiter-freed m n)

  -- what a row does, where it stored into m and into the same at rest
  pub applied-freed : {A : Type 0} (m k n : Machine) (f : Frame) (o : Effect A) → freed k ≡ freed n
      → top_frame n p ≡ f → EntersOwn p o.leads
      → AreFreedAlike (applied (freed m) k p f o) (applied m n p f o)
  applied-freed m k n f o same top fits = record {
    state = moved-alike (counted k o.counts) (counted n o.counts) f o.leads (counted-alike k n o.counts same)
        (counted-top n o.counts ∙ top) fits;
    event = event-freed m f o.tells;
  }
