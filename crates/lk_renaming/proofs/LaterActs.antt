-- Every act keeps the registers filled that later rows take as names, and in a sound machine each row has the names that it takes.
use Rattle.std.proofs.Common.{◌≡◌, ℕ, ◌+◌, ◌-◌, Option, Some, None, Bool, true, false, List, []}
use Rattle.std.proofs.Common.{◌∷◌, ap, refl, sym, ◌∙◌, subst, slice_get, if◌then◌else◌, ◌==◌}
use Rattle.std.proofs.Common.{is_some, not, ◌||◌}
use Rattle.std.specs.Prelude.{unwrap_or}
use Rattle.lk_renaming.proofs.Names.{NodeName, Machine, rest_frame, rest_node, top_frame, node_of}
use Rattle.lk_renaming.proofs.Names.{settled, A, Answer, B, Change, Done, Effect, Enters, Freed}
use Rattle.lk_renaming.proofs.Names.{Goes, Granted, Lead, Leaves, Missed, Prev, Second, T, Tailed}
use Rattle.lk_renaming.proofs.Names.{TakesWait, TargetIs, Y, Yields, applied, counted, entered}
use Rattle.lk_renaming.proofs.Names.{gone, Frame, Pc, C1, C2, C3, C4, C5, C6, C7, C8, C9, C10, E1}
use Rattle.lk_renaming.proofs.Names.{E2, E6, E10, E13, E14, E15, G5, G6, G7, G8, G10, G11, K1, U4}
use Rattle.lk_renaming.proofs.Names.{U5, W1, W2, W4, W5, W6, W7, Op, handover_row, promotion_row}
use Rattle.lk_renaming.proofs.Names.{runs_row, search_row, second_row, halt_row, hash_row, kick_row}
use Rattle.lk_renaming.proofs.Names.{pv_flag_row, pv_next_row, pv_row, state_row, entry_row}
use Rattle.lk_renaming.proofs.Names.{flag_row, next_row, queue_row, rw_row, spin_row, AreNames}
use Rattle.lk_renaming.proofs.Names.{HasNames, names_at}
use Rattle.lk_names.specs.{declared.events.Act.Act, declared.names.Waiter.Waiter}
use Rattle.lk_rows.specs.Acts.{after_halt, idle, woken, kicked_awake, step, is_shut, handler_frame}
use Rattle.lk_rows.specs.Acts.{awake, interrupted, next}
use Rattle.lk_rows.specs.Machine.{top_of, frame_at, node_at, entry_at, word_at, rw_at, queued_at}
use Rattle.lk_rows.specs.Machine.{halted_at, kicked_at, preempted_at, set_node, set_top, pop, push}
use Rattle.lk_rows.specs.Moves.{program_of, started, settled_at, done, granted, skipped, leave}
use Rattle.lk_rows.specs.Moves.{waiting}
use Rattle.lk_rows.specs.Row.{Left, K, Reason, HashedIs, moved, with_change, changed_all}
use Rattle.lk_rows.specs.TopRow.{Target, SpinWord, QueueWord, Queued, FlagOf, NextOf, ChoiceWord}
use Rattle.lk_rows.specs.TopRow.{ChoiceFlag, ChoiceNext, SecondTailOf, RunsOf, PvWord, PvFlag}
use Rattle.lk_rows.specs.TopRow.{PvNext, StateOf, HashEntry, Halted, KickOf, RwWord, target}
use Rattle.lk_rows.specs.TopRow.{sight_at, row_on, row_at, row}
use Rattle.lk_rows.specs.declared.parts.Pc.TheVariants.{W3, E12, K3, E9, U3}
use Rattle.lk_law.proofs.{cna.Named.second_tail_is_used, common.Knows.row_knows}
use Rattle.lk_law.specs.{Phase.has_node, Places.{phase_at, phase_if}}
use Rattle.lk_law.specs.{Registers.{ChoiceFits, RegistersFit}, Sound.{IsSound, world}}
use Rattle.lk_renaming.proofs.Later.{LaterAt, Quiet, FrameNamed, AllNamed, later_at, first_quiet}
use Rattle.lk_renaming.proofs.Later.{newest_named, set_top-named, pop-named, push-named}
use Rattle.lk_renaming.proofs.Later.{set_node-named, set_queued-named, set_preempted-named}
use Rattle.lk_renaming.proofs.Later.{set_halted-named, set_kicked-named, counted-named, word-named}
use Rattle.lk_renaming.proofs.Later.{rw-named, entry-named, flag-named, link-named, second-named}
use Rattle.lk_renaming.proofs.Later.{runs-named, state-named, halted-named, kicked-named}
use Rattle.lk_renaming.proofs.Later.{queued-named}
use Rattle.lk_renaming.proofs.LaterRows.{LeadNamed, spin_row-named, queue_row-named}
use Rattle.lk_renaming.proofs.LaterRows.{entry_row-named, flag_row-named, next_row-named}
use Rattle.lk_renaming.proofs.LaterRows.{search_row-named, second_row-named, runs_row-named}
use Rattle.lk_renaming.proofs.LaterRows.{handover_row-named, promotion_row-named, pv_row-named}
use Rattle.lk_renaming.proofs.LaterRows.{pv_flag_row-named, pv_next_row-named, state_row-named}
use Rattle.lk_renaming.proofs.LaterRows.{hash_row-named, halt_row-named, kick_row-named}
use Rattle.lk_renaming.proofs.LaterRows.{rw_row-named}
use Rattle.lk_names.specs.declared.events.Act.TheVariants as act

-- a frame goes on

change_then : (f : Frame) (c : Change) → (with_change f c).then ≡ f.then
change_then f (Prev n) = refl
change_then f (Second n) = refl
change_then f (Y n) = refl
change_then f (Left n) = refl
change_then f (A n) = refl
change_then f (B n) = refl
change_then f (K n) = refl
change_then f (T n) = refl
change_then f (Reason n) = refl
change_then f (Tailed b) = refl
change_then f (HashedIs b) = refl
change_then f (TargetIs n) = refl

changes_then : (f : Frame) (cs : List Change) → (changed_all f cs).then ≡ f.then
changes_then f [] = refl
changes_then f (c ∷ cs) = changes_then (with_change f c) cs ∙ change_then f c

-- the own node is given back
bared : (f : Frame) (o : Option Pc) → LaterAt o f → LaterAt o (record f { me = None })
bared f None later = tt
bared f (Some C3) later = later
bared f (Some c) later = later

-- a halt ends
roused : (f : Frame) (o : Option Pc) → LaterAt o f → LaterAt (after_halt o) (record f { place = after_halt o })
roused f None later = tt
roused f (Some W6) later = tt
roused f (Some E12) later = tt
roused f (Some c) later = later

module _ (p : ℕ) where
  settled_at-named : (m : Machine) → AllNamed m → (f : Frame) → Quiet f.then → (o : Option Op)
      → AllNamed (settled_at m p f o)
  settled_at-named m all f one None = by (f.ctx == 0)
    where
      by : (b : Bool) → AllNamed (if b then set_top m p (record f { place = None }) else pop m p)
      by true = set_top-named m all p (record f { place = None }) (record { now = tt; inner = one })
      by false = pop-named m all p
  settled_at-named m all f one (Some o) =
      set_top-named m all p (started m.setup.mode f o)
      (record { now = first_quiet m.setup.mode o.verb (started m.setup.mode f o); inner = one })

  settled-named : (m : Machine) → AllNamed m → (f : Frame) → Quiet f.then → AllNamed (settled m p f)
  settled-named m all f one = settled_at-named m all f one (slice_get (program_of m p f) f.«at»)

  done-named : (m : Machine) → AllNamed m → AllNamed (done m p)
  done-named m all =
      settled-named m all (record (top_frame m p) { «at» = (top_frame m p).«at» + 1 }) (newest_named m all p).inner

  granted-named : (m : Machine) → AllNamed m → AllNamed (granted m p)
  granted-named m all = by (top_frame m p).lock.wait
    where
      by : (b : Bool) → AllNamed (if b then set_top m p (record (top_frame m p) { place = (top_frame m p).then })
          else done m p)
      by true =
          set_top-named m all p (record (top_frame m p) { place = (top_frame m p).then })
          (record {
            now = (newest_named m all p).inner (record (top_frame m p) { place = (top_frame m p).then });
            inner = (newest_named m all p).inner;
          })
      by false = done-named m all

  leave-named : (m : Machine) → AllNamed m → AllNamed (leave m p)
  leave-named m all =
      let t : Frame = record (top_frame m p) { me = None } in
      set_queued-named (set_top m p t) (set_top-named m all p t (record {
        now = bared (top_frame m p) (top_frame m p).place (newest_named m all p).now;
        inner = (newest_named m all p).inner;
      })) p (queued_at m p - 1)

  woken-named : (m : Machine) → AllNamed m → AllNamed (woken m p)
  woken-named m all =
      let t : Frame = record (top_frame m p) { place = after_halt (top_frame m p).place } in
      set_halted-named (set_top m p t) (set_top-named m all p t (record {
        now = roused (top_frame m p) (top_frame m p).place (newest_named m all p).now;
        inner = (newest_named m all p).inner;
      })) p false

  module _ (f : Frame) (one : Quiet f.then) where
    goes : (m : Machine) → AllNamed m → (c : Pc) (cs : List Change) → LaterAt (Some c) (gone f c cs)
        → AllNamed (set_top m p (gone f c cs))
    goes m all c cs now =
        set_top-named m all p (gone f c cs)
        (record { now = now; inner = λ g. subst (λ (o : Option Pc). LaterAt o g) (sym (changes_then f cs)) (one g) })

    moved-named : (m : Machine) → AllNamed m → (lead : Lead) → LeadNamed f lead → AllNamed (moved m p f lead)
    moved-named m all (Goes c cs) now = goes m all c cs now
    moved-named m all (Enters None c) now =
        set_top-named m all p (entered f None c) (record { now = now; inner = one })
    moved-named m all (Enters (Some n) c) now =
        set_top-named (set_node m n rest_node) (set_node-named m all n rest_node) p (entered f (Some n) c)
        (record { now = now; inner = one })
    moved-named m all Granted now = granted-named m all
    moved-named m all Freed now = done-named m all
    moved-named m all Missed now =
        settled-named m all (record (top_frame m p) { «at» = (top_frame m p).«at» + skipped m p (top_frame m p) })
        (newest_named m all p).inner
    moved-named m all Done now = done-named m all
    moved-named m all (TakesWait c) now =
        set_top-named m all p (waiting f c) (record { now = tt; inner = now })
    moved-named m all Leaves now = granted-named (leave m p) (leave-named m all)
    moved-named m all (Yields c cs) now = goes m all c cs now

    applied-named : {A : Type 0} (m n : Machine) → AllNamed n → (o : Effect A) → LeadNamed f o.leads
        → AllNamed (applied m n p f o).0
    applied-named m n all o now = moved-named (counted n o.counts) (counted-named n all o.counts) o.leads now

  -- a row is made on a machine

  -- what is met there is filled, where a head looks for the last of the secondary queue, and a releaser for whom to kick
  Facts : Machine → Frame → Pc → Target → Type 0
  Facts m f c (SecondTailOf n) = c ≡ C3 → is_some (node_at m n).second_tail ≡ true
  Facts m f c HashEntry = c ≡ U3 → is_some (entry_at m f.lock) ≡ true
  Facts m f c t = Unit {0}

  module _ (m : Machine) (all : AllNamed m) (f : Frame) (one : Quiet f.then) (fits : ChoiceFits m.setup.mode f) where
    row_on-named : (c : Pc) → f.place ≡ Some c → AreNames (later_at c f) → (t : Target) → Facts m f c t
        → AllNamed (row_on m p f c t).0
    unfolding Facts
    row_on-named c at later SpinWord fact =
        let o = spin_row m.setup.mode c f (word_at m f.lock) in
        applied-named f one m _ (word-named m all f o.stores) o (spin_row-named f m.setup.mode c (word_at m f.lock) later)
    row_on-named c at later QueueWord fact =
        let o = queue_row m.setup.mode c f (word_at m f.lock) in
        applied-named f one m _ (word-named m all f o.stores) o (queue_row-named f m.setup.mode c (word_at m f.lock) later)
    row_on-named c at later Queued fact =
        let o = entry_row m.setup.mode p (queued_at m p) in
        applied-named f one m _ (queued-named m all p o.stores) o (entry_row-named f m.setup.mode p (queued_at m p))
    row_on-named c at later (FlagOf n) fact =
        let o = flag_row c f (node_at m n).flag in
        applied-named f one m _ (flag-named m all n o.stores) o (flag_row-named f c (node_at m n).flag later)
    row_on-named c at later (NextOf n) fact =
        let o = next_row m.setup.mode m.setup.spins c f (node_at m n).next in
        applied-named f one m _ (link-named m all n o.stores) o
        (next_row-named f m.setup.mode m.setup.spins c (node_at m n).next later)
    row_on-named c at later ChoiceWord fact =
        let o = promotion_row c f (word_at m f.lock) in
        applied-named f one m _ (word-named m all f o.stores) o
        (promotion_row-named f m.setup.mode fits c (word_at m f.lock) at later)
    row_on-named c at later (ChoiceFlag n) fact =
        let o = handover_row c f (node_at m n).flag in
        applied-named f one m _ (flag-named m all n o.stores) o (handover_row-named f c (node_at m n).flag later)
    row_on-named c at later (ChoiceNext n) fact =
        let o = search_row (sight_at m p f) c f (node_at m n).next in
        applied-named f one m _ (link-named m all n o.stores) o
        (search_row-named f m.setup.mode fits (sight_at m p f) c (node_at m n).next at later)
    row_on-named c at later (SecondTailOf n) fact =
        let o = second_row c f (node_at m n).second_tail in
        applied-named f one m _ (second-named m all n o.stores) o
        (second_row-named f c (node_at m n).second_tail fact later)
    row_on-named c at later (RunsOf n) fact =
        let o = runs_row (sight_at m p f) c f (node_at m n).runs in
        applied-named f one m _ (runs-named m all n o.stores) o
        (runs_row-named f (sight_at m p f) c (node_at m n).runs later)
    row_on-named c at later PvWord fact =
        let o = pv_row m.setup.spins c f (word_at m f.lock) in
        applied-named f one m _ (word-named m all f o.stores) o (pv_row-named f m.setup.spins c (word_at m f.lock) later)
    row_on-named c at later (PvFlag n) fact =
        let o = pv_flag_row c f (node_at m n).flag in
        applied-named f one m _ (flag-named m all n o.stores) o (pv_flag_row-named f c (node_at m n).flag later)
    row_on-named c at later (PvNext n) fact =
        let o = pv_next_row c f (node_at m n).next in
        applied-named f one m _ (link-named m all n o.stores) o (pv_next_row-named f c (node_at m n).next later)
    row_on-named c at later (StateOf n) fact =
        let o = state_row m.setup.spins c f (node_at m n).state in
        applied-named f one m _ (state-named m all n o.stores) o
        (state_row-named f m.setup.spins c (node_at m n).state later)
    row_on-named c at later HashEntry fact =
        let o = hash_row c f (entry_at m f.lock) in
        applied-named f one m _ (entry-named m all f.lock o.stores) o (hash_row-named f c (entry_at m f.lock) fact later)
    row_on-named c at later Halted fact =
        let o = halt_row c f (halted_at m p) in
        applied-named f one m _ (halted-named m all p o.stores) o (halt_row-named f c (halted_at m p) later)
    row_on-named c at later (KickOf q) fact =
        let o = kick_row c f (kicked_at m q) in
        applied-named f one m _ (kicked-named m all q o.stores) o (kick_row-named f c (kicked_at m q) later)
    row_on-named c at later RwWord fact =
        let o = rw_row m.setup.mode c f (rw_at m f.lock.index) in
        applied-named f one m _ (rw-named m all f.lock.index o.stores) o
        (rw_row-named f m.setup.mode c (rw_at m f.lock.index) later)

-- in a sound machine
module _ (m : Machine) (sound : IsSound m) (w : Waiter) (f : Frame) (live : frame_at m w ≡ Some f) where
  fit : RegistersFit m.setup.mode f
  fit = sound.1.world.spins.registers w f live

  -- the frame has a node
  mine : (c : Pc) → f.place ≡ Some c → ((b : Bool) (prev y : NodeName) → has_node (phase_at c b prev y) ≡ true)
      → is_some f.me ≡ true
  mine c at on =
      fit.me (ap (λ (o : Option Pc). has_node (phase_if o (is_some f.me) (node_of f.prev) (node_of f.y))) at
      ∙ on (is_some f.me) (node_of f.prev) (node_of f.y))

  names_there : (c : Pc) → f.place ≡ Some c → AreNames (later_at c f) → AreNames (names_at c f)
  names_there G5 at later = (fit.met at, tt)
  names_there G6 at later = (mine G6 at (λ b u v. refl), tt)
  names_there G7 at later = (mine G7 at (λ b u v. refl), tt)
  names_there G8 at later = (mine G8 at (λ b u v. refl), tt)
  names_there G10 at later = (mine G10 at (λ b u v. refl), tt)
  names_there G11 at later = (fit.next at, tt)
  names_there C1 at later = (mine C1 at (λ b u v. refl), tt)
  names_there C2 at later = (mine C2 at (λ b u v. refl), (fit.choice.last C2 at refl, tt))
  names_there C3 at later = (fit.choice.second C3 at refl, tt)
  names_there C4 at later = (mine C4 at (λ b u v. refl), later.1)
  names_there C5 at later = (mine C5 at (λ b u v. refl), (fit.choice.last C5 at refl, tt))
  names_there C6 at later = (fit.choice.second C6 at refl, tt)
  names_there C7 at later = (mine C7 at (λ b u v. refl), later)
  names_there C8 at later = later
  names_there C9 at later = (mine C9 at (λ b u v. refl), later)
  names_there C10 at later = (mine C10 at (λ b u v. refl), tt)
  names_there W1 at later = (mine W1 at (λ b u v. refl), tt)
  names_there W2 at later = (fit.choice.peer W2 at refl, tt)
  names_there W3 at later = (mine W3 at (λ b u v. refl), tt)
  names_there W4 at later = (mine W4 at (λ b u v. refl), tt)
  names_there W5 at later = (mine W5 at (λ b u v. refl), tt)
  names_there W7 at later = (mine W7 at (λ b u v. refl), tt)
  names_there E1 at later = (mine E1 at (λ b u v. refl), tt)
  names_there E2 at later = (mine E2 at (λ b u v. refl), tt)
  names_there E10 at later = (mine E10 at (λ b u v. refl), tt)
  names_there E13 at later = (mine E13 at (λ b u v. refl), tt)
  names_there E14 at later = (mine E14 at (λ b u v. refl), tt)
  names_there E15 at later = (fit.choice.named E15 at refl, tt)
  names_there K1 at later = (fit.choice.named K1 at refl, tt)
  names_there U4 at later = later
  names_there U5 at later = later
  names_there c at later = tt

  facts_there : (p : ℕ) (c : Pc) → f.place ≡ Some c → Facts p m f c (target c f)
  unfolding Facts
  facts_there p C3 at = λ e.
      let z = second_tail_is_used (world m) _ w f sound.1.world.spins live at in ap (λ o. is_some o) z.1
  facts_there p C6 at = λ e. absurd (let z : C6 ≡ C3 = e in cc z)
  facts_there p E6 at = λ e. absurd (let z : E6 ≡ U3 = e in cc z)
  facts_there p E9 at = λ e. absurd (let z : E9 ≡ U3 = e in cc z)
  facts_there p K3 at = λ e. absurd (let z : K3 ≡ U3 = e in cc z)
  facts_there p U3 at = λ e.
      let z = row_knows U3 (world m) _ w f sound.1.world.spins live at in
      (z.2 (fit.choice.halting U3 at refl)).1
  facts_there p c at = tt

  row_there : (p : ℕ) → AllNamed m → FrameNamed f → (o : Option Pc) → f.place ≡ o → AllNamed (row_at m p f o).0
  row_there p all one None at = all
  row_there p all one (Some c) at =
      row_on-named p m all f one.inner fit.choice c at (subst (λ (o : Option Pc). LaterAt o f) at one.now)
      (target c f) (facts_there p c at)

module _ (m : Machine) (sound : IsSound m) (all : AllNamed m) (p : ℕ) where
  -- the newest frame has the names that its row takes
  pub sound_names : HasNames m p
  sound_names = by (frame_at m (top_of m p)) refl (newest_named m all p)
    where
      by : (o : Option Frame) → frame_at m (top_of m p) ≡ o → FrameNamed (unwrap_or o rest_frame) → (c : Pc)
          → (unwrap_or o rest_frame).place ≡ Some c → AreNames (names_at c (unwrap_or o rest_frame))
      by None here one c at = absurd (let z : None ≡ Some c = at in cc z)
      by (Some f) here one c at =
          names_there m sound (top_of m p) f here c at (subst (λ (o : Option Pc). LaterAt o f) at one.now)

  row-named : AllNamed (row m p).0
  row-named = by (frame_at m (top_of m p)) refl (newest_named m all p)
    where
      by : (o : Option Frame) → frame_at m (top_of m p) ≡ o → FrameNamed (unwrap_or o rest_frame)
          → AllNamed (row_at m p (unwrap_or o rest_frame) (unwrap_or o rest_frame).place).0
      by None here one = all
      by (Some f) here one = row_there m sound (top_of m p) f here p all one f.place refl

  step-named : AllNamed (step m p).0
  step-named = by (preempted_at m p) (halted_at m p) (kicked_at m p)
    where
      by : (b h k : Bool)
          → AllNamed (if b then idle m else (if h then (if k then kicked_awake m p else idle m) else row m p)).0
      by true h k = all
      by false true true = set_kicked-named (woken m p) (woken-named p m all) p false
      by false true false = all
      by false false k = row-named

  awake-named : AllNamed (awake m p)
  awake-named = by (halted_at m p)
    where
      by : (b : Bool) → AllNamed (if b then woken m p else m)
      by true = woken-named p m all
      by false = all

  interrupted-named : AllNamed (interrupted m p).0
  interrupted-named =
      let h = handler_frame m p in
      settled-named p (push (awake m p) p h) (push-named (awake m p) awake-named p h (record { now = tt; inner = λ g. tt })) h
      (λ g. tt)

-- one of two answers
one_of : (b : Bool) (x y : Answer) → AllNamed x.0 → AllNamed y.0 → AllNamed (if b then x else y).0
one_of true x y one other = one
one_of false x y one other = other

-- every act keeps it
pub next-named : (m : Machine) → IsSound m → AllNamed m → (a : Act) → AllNamed (next m a).0
next-named m sound all (act.Step p) = step-named m sound all p
next-named m sound all (act.Interrupt p) = one_of (is_shut m p) _ _ all (interrupted-named m sound all p)
next-named m sound all (act.Preempt p) = one_of (preempted_at m p) _ _ all (set_preempted-named m all p true)
next-named m sound all (act.Resume p) = one_of (preempted_at m p) _ _ (set_preempted-named m all p false) all
next-named m sound all (act.Nudge p) =
    one_of (preempted_at m p || not (halted_at m p)) _ _ all (woken-named p m all)
