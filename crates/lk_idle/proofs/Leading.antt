-- Where a row leads, on a machine whose dead registers are at rest.
use Rattle.std.proofs.Common.{◌≡◌, ℕ, ◌+◌, ◌-◌, Option, Some, None, Bool, true, false, List, []}
use Rattle.std.proofs.Common.{◌∷◌, ap, refl, sym, ◌∙◌, subst, slice_get, if◌then◌else◌, ◌==◌}
use Rattle.lk_idle.proofs.Names.{NodeName, Mode, Pv, Machine, top_frame, settled, Answer, Done}
use Rattle.lk_idle.proofs.Names.{Effect, Enters, Freed, Goes, Granted, Lead, Leaves, Missed}
use Rattle.lk_idle.proofs.Names.{TakesWait, Yields, applied, Frame, Why, cut, rested, rested_frame}
use Rattle.lk_idle.proofs.Names.{lives_at, none_lives, Lives}
use Rattle.lk_names.specs.declared.events.What.TheVariants.{Pass}
use Rattle.lk_names.specs.declared.names.Mode.TheVariants.{Virt, Native, Cna}
use Rattle.lk_rows.specs.Machine.{frame_at, depth_at, cpu_at, set_top, set_queued, queued_at}
use Rattle.lk_rows.specs.Machine.{set_counts, pop}
use Rattle.lk_rows.specs.Moves.{first_place, program_of, started, settled_at, done, granted, missed}
use Rattle.lk_rows.specs.Moves.{skipped, leave, waiting}
use Rattle.lk_rows.specs.Row.{Counter, Tell, Nothing, Says, Passes, moved, counted, gone, entered}
use Rattle.lk_rows.specs.{Row.{with_rest, event_of}, declared.setup.Op.Op, declared.setup.Verb.Verb}
use Rattle.lk_rows.specs.declared.setup.Verb.TheVariants.{Unlock}
use Rattle.lk_idle.proofs.Frames.{none_left}
use Rattle.lk_idle.proofs.Writes.{top-rested, queued-rested, set_top-rested, set_top-alike}
use Rattle.lk_idle.proofs.Writes.{set_node-rested, set_queued-rested, pop-rested, machine_twice}
use Rattle.lk_idle.proofs.Writes.{top-write, top-put, waiter-rested}

-- two answers are alike
pub record Alike (a b : Answer) : Type 0 where
  pub state : rested a.0 ≡ rested b.0
  pub event : a.1 ≡ b.1

-- Where a frame goes on once it has the wait lock, no register lives.
abbrev pub KnowsWay : Frame → Type 0
KnowsWay f = f.lock.wait ≡ true → (w : Why) → lives_at f.then w ≡ none_lives

-- the frame that the row makes of f without what does not live is, at rest, what it makes of f
abbrev pub LeadsFine : ℕ → Lives → Frame → Lead → Type 0
LeadsFine p l f (Goes c cs) = rested_frame (gone (cut l f) c cs) ≡ rested_frame (gone f c cs)
LeadsFine p l f (Enters None c) = rested_frame (entered (cut l f) None c) ≡ rested_frame (entered f None c)
LeadsFine p l f (Enters (Some n) c) =
    (rested_frame (entered (cut l f) (Some n) c) ≡ rested_frame (entered f (Some n) c)) × (n.cpu ≡ p)
LeadsFine p l f (TakesWait c) = rested_frame (waiting (cut l f) c) ≡ rested_frame (waiting f c)
LeadsFine p l f (Yields c cs) = rested_frame (gone (cut l f) c cs) ≡ rested_frame (gone f c cs)
LeadsFine p l f Granted = Unit {0}
LeadsFine p l f Freed = Unit {0}
LeadsFine p l f Missed = Unit {0}
LeadsFine p l f Done = Unit {0}
LeadsFine p l f Leaves = Unit {0}

-- an operation begins where no register lives
first_lives : (mode : Mode) (verb : Verb) (w : Why)
    → lives_at (Some (first_place mode verb)) w ≡ none_lives
first_lives Virt Unlock w = refl
first_lives Native Unlock w = refl
first_lives Cna Unlock w = refl
first_lives Pv Unlock w = refl
first_lives mode verb w = refl

module _ (p : ℕ) where
  settled_at-alike : (m : Machine) (l : Lives) (f : Frame) (o : Option Op)
      → rested (settled_at (rested m) p (cut l f) o) ≡ rested (settled_at m p f o)
  settled_at-alike m l f None = by (f.ctx == 0)
    where
      by : (b : Bool)
          → rested (if b then set_top (rested m) p (record (cut l f) { place = None }) else pop (rested m) p)
          ≡ rested (if b then set_top m p (record f { place = None }) else pop m p)
      by true = set_top-alike m p (record (cut l f) { place = None }) (record f { place = None }) refl
      by false = ap (λ k. rested k) (pop-rested m p) ∙ machine_twice (pop m p)
  settled_at-alike m l f (Some o) =
      set_top-alike m p (started m.setup.mode (cut l f) o) (started m.setup.mode f o)
      (none_left (started m.setup.mode f o) (started m.setup.mode (cut l f) o) refl
      (first_lives m.setup.mode o.verb) (first_lives m.setup.mode o.verb))

  pub settled-alike : (m : Machine) (l : Lives) (f : Frame)
      → rested (settled (rested m) p (cut l f)) ≡ rested (settled m p f)
  settled-alike m l f = settled_at-alike m l f (slice_get (program_of m p f) f.«at»)

  done-alike : (m : Machine) → rested (done (rested m) p) ≡ rested (done m p)
  done-alike m =
      ap (λ (f : Frame). rested (settled (rested m) p (record f { «at» = f.«at» + 1 }))) (top-rested m p)
      ∙ settled-alike m (lives_at (top_frame m p).place (top_frame m p).why)
      (record (top_frame m p) { «at» = (top_frame m p).«at» + 1 })

  missed-alike : (m : Machine) → rested (missed (rested m) p) ≡ rested (missed m p)
  missed-alike m =
      ap (λ (f : Frame). rested (settled (rested m) p (record f { «at» = f.«at» + skipped (rested m) p f })))
      (top-rested m p)
      ∙ settled-alike m (lives_at (top_frame m p).place (top_frame m p).why)
      (record (top_frame m p) { «at» = (top_frame m p).«at» + skipped m p (top_frame m p) })

  -- the lock is granted to this frame
  abbrev granted_to : Machine → Frame → Machine
  granted_to m f = if f.lock.wait then set_top m p (record f { place = f.then })
      else settled m p (record f { «at» = f.«at» + 1 })

  granted_to-alike : (m : Machine) (l : Lives) (f : Frame) → KnowsWay f
      → rested (granted_to (rested m) (cut l f)) ≡ rested (granted_to m f)
  granted_to-alike m l f knows = by f.lock.wait knows
    where
      by : (b : Bool) → (b ≡ true → (w : Why) → lives_at f.then w ≡ none_lives)
          → rested (if b then set_top (rested m) p (record (cut l f) { place = f.then })
          else settled (rested m) p (record (cut l f) { «at» = f.«at» + 1 }))
          ≡ rested (if b then set_top m p (record f { place = f.then })
          else settled m p (record f { «at» = f.«at» + 1 }))
      by true knows =
          set_top-alike m p (record (cut l f) { place = f.then }) (record f { place = f.then })
          (none_left (record f { place = f.then }) (record (cut l f) { place = f.then }) refl
          (knows refl) (knows refl))
      by false knows = settled-alike m l (record f { «at» = f.«at» + 1 })

  granted-alike : (m : Machine) → KnowsWay (top_frame m p)
      → rested (granted (rested m) p) ≡ rested (granted m p)
  granted-alike m knows =
      ap (λ f. rested (granted_to (rested m) f)) (top-rested m p)
      ∙ granted_to-alike m (lives_at (top_frame m p).place (top_frame m p).why) (top_frame m p) knows

  leave-rested : (m : Machine) → leave (rested m) p ≡ rested (leave m p)
  leave-rested m =
      ap (λ n. set_queued (set_top (rested m) p (record (top_frame (rested m) p) { me = None })) p (n - 1))
      (queued-rested m p)
      ∙ ap (λ (f : Frame). set_queued (set_top (rested m) p (record f { me = None })) p (queued_at m p - 1))
      (top-rested m p)
      ∙ ap (λ k. set_queued k p (queued_at m p - 1))
      (set_top-rested m p (record (top_frame m p) { me = None }))
      ∙ set_queued-rested (set_top m p (record (top_frame m p) { me = None })) p (queued_at m p - 1)

  leave-knows : (m : Machine) → KnowsWay (top_frame m p) → KnowsWay (top_frame (leave m p) p)
  unfolding set_queued
  leave-knows m knows =
      let f : Frame = record (top_frame m p) { me = None } in
      subst (λ (g : Frame). KnowsWay g)
      (sym (top-write (λ c. record c { queued = queued_at m p - 1 }) (λ c. refl) (set_top m p f) p p))
      (top-put m p f (λ (g : Frame). KnowsWay g) (λ yes w. refl) knows)

  with_rest-rested : (m : Machine) (o : Option NodeName) → with_rest (rested m) o ≡ rested (with_rest m o)
  with_rest-rested m None = refl
  with_rest-rested m (Some n) = set_node-rested m n _

  moved-alike : (m : Machine) (f : Frame) (l : Lives) (lead : Lead) → top_frame m p ≡ f → KnowsWay f
      → LeadsFine p l f lead → rested (moved (rested m) p (cut l f) lead) ≡ rested (moved m p f lead)
  moved-alike m f l (Goes c cs) top knows fine = set_top-alike m p (gone (cut l f) c cs) (gone f c cs) fine
  moved-alike m f l (Enters None c) top knows fine =
      set_top-alike m p (entered (cut l f) None c) (entered f None c) fine
  moved-alike m f l (Enters (Some n) c) top knows fine =
      ap (λ k. rested (set_top k p (entered (cut l f) (Some n) c))) (with_rest-rested m (Some n))
      ∙ set_top-alike (with_rest m (Some n)) p (entered (cut l f) (Some n) c) (entered f (Some n) c) fine.0
  moved-alike m f l Granted top knows fine =
      granted-alike m (subst (λ (g : Frame). KnowsWay g) (sym top) knows)
  moved-alike m f l Freed top knows fine = done-alike m
  moved-alike m f l Missed top knows fine = missed-alike m
  moved-alike m f l Done top knows fine = done-alike m
  moved-alike m f l (TakesWait c) top knows fine =
      set_top-alike m p (waiting (cut l f) c) (waiting f c) fine
  moved-alike m f l Leaves top knows fine =
      ap (λ k. rested (granted k p)) (leave-rested m)
      ∙ granted-alike (leave m p) (leave-knows m (subst (λ (g : Frame). KnowsWay g) (sym top) knows))
  moved-alike m f l (Yields c cs) top knows fine = set_top-alike m p (gone (cut l f) c cs) (gone f c cs) fine

  -- what a row counts is in no register
  counted-alike : (m : Machine) (cs : List Counter) (f : Frame) (l : Lives) (lead : Lead)
      → top_frame m p ≡ f → KnowsWay f → LeadsFine p l f lead
      → rested (moved (counted (rested m) cs) p (cut l f) lead) ≡ rested (moved (counted m cs) p f lead)
  unfolding set_counts frame_at depth_at cpu_at
  counted-alike m [] f l lead top knows fine = moved-alike m f l lead top knows fine
  counted-alike m (c ∷ cs) f l lead top knows fine = moved-alike (counted m (c ∷ cs)) f l lead top knows fine

  event-alike : (m : Machine) (l : Lives) (f : Frame) (t : Tell)
      → event_of (rested m) p (cut l f) t ≡ event_of m p f t
  event-alike m l f Nothing = refl
  event-alike m l f (Says what) = refl
  event-alike m l f (Passes n k) =
      ap (λ u. Some (record { by = record { cpu = p; ctx = f.ctx }; what = Pass f.lock u k })) (waiter-rested m n)

  -- what a row does, on m and on the same after its store, n
  pub applied-alike : {A : Type 0} (m n : Machine) (f : Frame) (l : Lives) (o : Effect A)
      → top_frame n p ≡ f → KnowsWay f → LeadsFine p l f o.leads
      → Alike (applied (rested m) (rested n) p (cut l f) o) (applied m n p f o)
  applied-alike m n f l o top knows fine = record {
    state = counted-alike n o.counts f l o.leads top knows fine;
    event = event-alike m l f o.tells;
  }
