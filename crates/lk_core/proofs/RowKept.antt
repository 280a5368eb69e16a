-- The row of a top frame: the machine shows the histories told on by its event, which is allowed.
use Rattle.std.proofs.Common.{◌≡◌, Bool, ℕ, Option, Some, None, true, false, List, arith, ap, ◌<◌}
use Rattle.std.proofs.Common.{◌-◌, refl, sym, ◌∙◌, subst, length}
use Rattle.lk_core.proofs.Names.{slice_get_within, RwFields, LockHistory, Event, Manner, LockName}
use Rattle.lk_core.proofs.Names.{Waiter, HasNode, Machine, top_frame, top_of, program_of, rw_name}
use Rattle.lk_core.proofs.Names.{kind_of, Effect, Freed, Lead, counted, moved, rules_of, ChoiceFlag}
use Rattle.lk_core.proofs.Names.{ChoiceNext, ChoiceWord, FlagOf, Halted, HashEntry, KickOf, NextOf}
use Rattle.lk_core.proofs.Names.{PvFlag, PvNext, PvWord, QueueWord, Queued, RunsOf, RwWord}
use Rattle.lk_core.proofs.Names.{SecondTailOf, SpinWord, StateOf, Target, row, row_at, row_on}
use Rattle.lk_core.proofs.Names.{sight_at, stored_entry, stored_flag, stored_halted, stored_kicked}
use Rattle.lk_core.proofs.Names.{stored_next, stored_queued, stored_runs, stored_rw, stored_second}
use Rattle.lk_core.proofs.Names.{stored_state, stored_word, target, Frame, Pc, U5, Setup, Verb}
use Rattle.lk_core.proofs.Names.{Sight, handover_row, promotion_row, runs_row, search_row}
use Rattle.lk_core.proofs.Names.{second_row, halt_row, hash_row, kick_row, pv_flag_row, pv_next_row}
use Rattle.lk_core.proofs.Names.{pv_row, state_row, entry_row, flag_row, next_row, queue_row}
use Rattle.lk_core.proofs.Names.{rw_row, spin_row, MayFollowIfAny, is_rw_row, ShowsKicks}
use Rattle.lk_core.proofs.Names.{with_event, IsNewest, BelongsTo, Fits, ShowsAll, Works, held_of}
use Rattle.lk_core.proofs.Names.{owes_kick, world, IsSoundWorld, spin_part, lead_on, led, put_frame}
use Rattle.lk_core.proofs.Names.{put_held, stores_rw, told_on, World}
use Rattle.lk_names.specs.declared.events.What.TheVariants.{Pass}
use Rattle.lk_rows.specs.Machine.{cpu_at, frame_at, depth_at, node_at, word_at, queued_at, entry_at}
use Rattle.lk_rows.specs.{Machine.{halted_at, kicked_at, rw_at}, Moves.waiter_of}
use Rattle.lk_rows.specs.Row.{Tell, Nothing, Says, Passes, event_of}
use Rattle.lk_machine.specs.Ready.{HasTarget}
use Rattle.lk_law.proofs.{common.EveryRow.every_row_keeps, pv.KicksShown.every_row_shows}
use Rattle.lk_law.specs.Steps.{stores_word, stores_flag, stores_next, stores_second, stores_runs}
use Rattle.lk_law.specs.Steps.{stores_state, stores_entry, stores_halted, stores_kicked}
use Rattle.lk_law.specs.Steps.{stores_queued, row_in, row_in_at, told_event, way_told}
use Rattle.lk_core.proofs.Access.{top_frame-is}
use Rattle.lk_core.proofs.ChoiceRowsFit.{search_fits, second_fits, runs_fits, handover_fits}
use Rattle.lk_core.proofs.ChoiceRowsFit.{promotion_fits}
use Rattle.lk_core.proofs.Kicks.{SameKicks, kicks_same, kicks_then, kicks_moved, kicks_led}
use Rattle.lk_core.proofs.{Kicks.kicks_put_held, Leads.{moved_shows, IsAt, kicked_shows}}
use Rattle.lk_core.proofs.{Lists.within_end, Moved.{Ready, ready_same}}
use Rattle.lk_core.proofs.NodesFit.{spin_in, queue_in, flag_in, next_in, search_in, second_in}
use Rattle.lk_core.proofs.NodesFit.{runs_in, handover_in, promotion_in, pv_in, pv_flag_in}
use Rattle.lk_core.proofs.NodesFit.{pv_next_in, state_in, hash_in, halt_in}
use Rattle.lk_core.proofs.PvRowsFit.{pv_fits, pv_flag_fits, pv_next_fits, state_fits, hash_fits}
use Rattle.lk_core.proofs.PvRowsFit.{halt_fits}
use Rattle.lk_core.proofs.Reach.{to_of, goes_to, node_within, tail_within, entry_within}
use Rattle.lk_core.proofs.Reach.{kick_within}
use Rattle.lk_core.proofs.RowParts.{StandsOnTop, StillShows, entry_is, is_kick_target, kick_target}
use Rattle.lk_core.proofs.RowParts.{lead_fits_same, lead_in_same, not_owing, owing_target, rw_apart}
use Rattle.lk_core.proofs.RowParts.{spin_row_of, stores_held, target_spin}
use Rattle.lk_core.proofs.RowsFit.{spin_fits, queue_fits, entry_fits, flag_fits, next_fits}
use Rattle.lk_core.proofs.RwMoved.{RwLead, rw_leads, rw_stored, rw_moved_shows, own_not_owing}
use Rattle.lk_core.proofs.{Same.{KeepsFrames, top_same}, Sights.sight_same}
use Rattle.lk_core.proofs.{Stands.{Stance, stands, top_newest}, Stands.Stance.{Acts, Owes, Shares}}
use Rattle.lk_core.proofs.Stores.{Stored, counts_stored, word_stored, queued_stored, flag_stored}
use Rattle.lk_core.proofs.Stores.{next_stored, second_stored, runs_stored, state_stored}
use Rattle.lk_core.proofs.Stores.{entry_stored, halted_stored, kicked_stored}
use Rattle.lk_core.proofs.Walks.{LeadFits, LeadIn}

module _ (m : Machine) (p : ℕ) (f : Frame) (c : Pc) (hs : LockName → LockHistory)
    (a : StandsOnTop m p f c hs) where
  abbrev w : Waiter
  w = top_of m p

  fit : Fits m w f
  fit = a.shows.fits w f a.live

  abbrev works : Works m.setup.mode (program_of m p f) f c
  works = fit.working c a.place

  abbrev ready : Ready m p f c
  ready = record {
    whole = a.shows.whole;
    range = a.range;
    fits = a.shows.fits;
    live = a.live;
    works = works;
  }

  -- the lock is declared
  lock_within : f.lock.index < length m.locks
  lock_within =
      let d = (a.shows.whole.setup.lawful p f.program).declared f.«at» works.op works.is in
      let r = slice_get_within m.setup.locks.items works.op.lock (kind_of works.op.verb) d in
      let i = works.lock in
      let n = a.shows.whole.locks in
      omega arith

  event_is : (t : Tell) → event_of m p f t ≡ told_event w f.lock (to_of m t) t
  event_is Nothing = refl
  event_is (Says what) =
      ap (λ (i : ℕ). Some (record { by = record { cpu = p; ctx = i }; what = what })) fit.ctx
  event_is (Passes n k) =
      ap (λ (i : ℕ).
      Some (record { by = record { cpu = p; ctx = i }; what = Pass f.lock (waiter_of m n) k }))
      fit.ctx

  -- what the law of a row gives of the world after it
  abbrev Law : World → Tell → Type 0
  Law x t =
      IsSoundWorld x (told_on hs (told_event w f.lock (to_of m t) t))
      × MayFollowIfAny (rules_of m.setup) hs (told_event w f.lock (to_of m t) t)
      × ((es : List Event) → ShowsKicks (world m) es
      → ShowsKicks x (with_event es (told_event w f.lock (to_of m t) t)))

  -- where the world after a row shows halts and kicks, the machine after it does
  kicks_by : (n : Machine) (x y : World) (lead : Lead) (t : Tell) → Stored m n x
      → SameKicks y (put_frame x w (Some (led f lead)))
      → ((es : List Event) → ShowsKicks (world m) es
      → ShowsKicks y (with_event es (told_event w f.lock (to_of m t) t)))
      → (es : List Event) → ShowsKicks (world m) es
      → ShowsKicks (world (moved n p f lead)) (with_event es (event_of m p f t))
  kicks_by n x y lead t s same law es shown =
      let r = ready_same m n p f c ready s.same s.frames in
      let ev = told_event w f.lock (to_of m t) t in
      let Q : World → Waiter → Type 0 =
      λ z u. SameKicks (put_frame z u (Some (led f lead))) (world (moved n p f lead)) in
      let moves : Q x w =
      subst (λ (z : World). Q z w) s.world
      (subst (λ (u : Waiter). Q (world n) u) (top_same m n p s.same)
      (kicks_moved n p f c r lead)) in
      let now = kicks_same y (world (moved n p f lead)) (with_event es ev)
      (kicks_then y (put_frame x w (Some (led f lead))) (world (moved n p f lead)) same moves)
      (law es shown) in
      subst (λ (e : Option Event). ShowsKicks (world (moved n p f lead)) (with_event es e))
      (sym (event_is t)) now

  applied_by : (n : Machine) (x : World) (lead : Lead) (t : Tell) → Stored m n x
      → ((hs1 : LockName → LockHistory) → KeepsFrames m n → Ready n p f c
      → IsSoundWorld (lead_on (world n) (top_of n p) f lead) hs1
      → ShowsAll (moved n p f lead) hs1)
      → Law (lead_on x w f lead) t → StillShows m hs (moved n p f lead, event_of m p f t)
  applied_by n x lead t s moves law =
      let ev = told_event w f.lock (to_of m t) t in
      let hs1 = told_on hs ev in
      let at_world : IsSoundWorld (lead_on (world n) w f lead) hs1 =
      subst (λ (y : World). IsSoundWorld (lead_on y w f lead) hs1) (sym s.world) law.0 in
      let at_top : IsSoundWorld (lead_on (world n) (top_of n p) f lead) hs1 =
      subst (λ (u : Waiter). IsSoundWorld (lead_on (world n) u f lead) hs1)
      (sym (top_same m n p s.same)) at_world in
      let shown : ShowsAll (moved n p f lead) hs1 =
      moves hs1 s.same (ready_same m n p f c ready s.same s.frames) at_top in
      record {
        shows =
            subst (λ (e : Option Event). ShowsAll (moved n p f lead) (told_on hs e))
            (sym (event_is t)) shown;
        allowed =
            subst (λ (e : Option Event). MayFollowIfAny (rules_of m.setup) hs e)
            (sym (event_is t)) law.1;
        kicks = kicks_by n x (lead_on x w f lead) lead t s (kicks_led x w f lead) law.2;
      }

  applied_kept : (n : Machine) (x : World) (lead : Lead) (t : Tell) → Stored m n x
      → Stance m.setup.mode works.op.verb f c → is_rw_row c ≡ false
      → ((V : Verb) → BelongsTo m.setup.mode V c → LeadFits (HasNode m) m.setup.mode V lead)
      → LeadIn (HasNode m) lead → (c ≡ U5 → ⊥) → Law (lead_on x w f lead) t
      → StillShows m hs (moved n p f lead, event_of m p f t)
  applied_kept n x lead t s (Acts V taking row) spin fits nodes still law =
      applied_by n x lead t s
      (λ hs1 same r sound.
      moved_shows n p f c hs1 (ready_same m n p f c ready s.same s.frames) V
      (subst (λ (k : Setup). IsAt k.mode works.op.verb f V) (sym s.same.keeps.setup) taking)
      lead
      (lead_fits_same m n V lead s.same (fits V row)) (lead_in_same m n lead s.same nodes) sound)
      law
  applied_kept n x lead t s (Owes is inner over plain) spin fits nodes still law = absurd (still is)
  applied_kept n x lead t s (Shares rw row) spin fits nodes still law =
      absurd (grind (arith, rw, spin))

  here : Stance m.setup.mode works.op.verb f c
  here = stands m.setup.mode works.op.verb f c a.place works.stage

  at_node : (t : Target) → target c f ≡ t → HasTarget m t
  at_node t e = node_within m hs a.shows w f a.live c t a.place e

  by_target : (t : Target) → target c f ≡ t
      → Law (row_in_at (world m) w f c t).0 (row_in_at (world m) w f c t).1
      → StillShows m hs (row_on m p f c t)
  by_target SpinWord e law =
      let o = spin_row m.setup.mode c f (word_at m f.lock) in
      applied_kept (counted (stored_word m f o.stores) o.counts)
      (stores_word (world m) f.lock o.stores) o.leads o.tells
      (counts_stored m (stored_word m f o.stores) (stores_word (world m) f.lock o.stores)
      o.counts (word_stored m f o.stores lock_within))
      here (target_spin c f SpinWord e refl)
      (λ V row. spin_fits (HasNode m) f (word_at m f.lock) m.setup.mode V c row)
      (spin_in (HasNode m) m.setup.mode c f (word_at m f.lock))
      (λ q. owing_target c f SpinWord e q refl) law
  by_target QueueWord e law =
      let o = queue_row m.setup.mode c f (word_at m f.lock) in
      applied_kept (counted (stored_word m f o.stores) o.counts)
      (stores_word (world m) f.lock o.stores) o.leads o.tells
      (counts_stored m (stored_word m f o.stores) (stores_word (world m) f.lock o.stores)
      o.counts (word_stored m f o.stores lock_within))
      here (target_spin c f QueueWord e refl)
      (λ V row. queue_fits (HasNode m) f (word_at m f.lock) m.setup.mode V c row)
      (queue_in (HasNode m) m.setup.mode c f (word_at m f.lock)
      (λ q n s. tail_within m hs a.shows f.lock n s)) (λ q. owing_target c f QueueWord e q refl)
      law
  by_target Queued e law =
      let o = entry_row m.setup.mode p (queued_at m p) in
      applied_kept (counted (stored_queued m p o.stores) o.counts)
      (stores_queued (world m) p o.stores) o.leads o.tells
      (counts_stored m (stored_queued m p o.stores) (stores_queued (world m) p o.stores)
      o.counts (queued_stored m p o.stores a.range))
      here (target_spin c f Queued e refl)
      (λ V row. entry_fits (HasNode m) p (queued_at m p)
      (λ low. record { cpu = a.range; index = low }) m.setup.mode V
      (subst (λ (x : Pc). BelongsTo m.setup.mode V x) (entry_is c f e) row)) (tt)
      (λ q. owing_target c f Queued e q refl) law
  by_target (FlagOf k) e law =
      let o = flag_row c f (node_at m k).flag in
      applied_kept (counted (stored_flag m k o.stores) o.counts) (stores_flag (world m) k o.stores)
      o.leads o.tells
      (counts_stored m (stored_flag m k o.stores) (stores_flag (world m) k o.stores) o.counts
      (flag_stored m a.shows.whole.nodes k o.stores (λ y s. at_node (FlagOf k) e)))
      here (target_spin c f (FlagOf k) e refl)
      (λ V row. flag_fits (HasNode m) f (node_at m k).flag m.setup.mode V c row)
      (flag_in (HasNode m) c f (node_at m k).flag) (λ q. owing_target c f (FlagOf k) e q refl)
      law
  by_target (NextOf k) e law =
      let o = next_row m.setup.mode m.setup.spins c f (node_at m k).next in
      applied_kept (counted (stored_next m k o.stores) o.counts) (stores_next (world m) k o.stores)
      o.leads o.tells
      (counts_stored m (stored_next m k o.stores) (stores_next (world m) k o.stores) o.counts
      (next_stored m a.shows.whole.nodes k o.stores (λ y s. at_node (NextOf k) e)))
      here (target_spin c f (NextOf k) e refl)
      (λ V row. next_fits (HasNode m) m.setup.spins f (node_at m k).next m.setup.mode V c row)
      (next_in (HasNode m) m.setup.mode m.setup.spins c f (node_at m k).next)
      (λ q. owing_target c f (NextOf k) e q refl) law
  by_target ChoiceWord e law =
      let o = promotion_row c f (word_at m f.lock) in
      applied_kept (counted (stored_word m f o.stores) o.counts)
      (stores_word (world m) f.lock o.stores) o.leads o.tells
      (counts_stored m (stored_word m f o.stores) (stores_word (world m) f.lock o.stores)
      o.counts (word_stored m f o.stores lock_within))
      here (target_spin c f ChoiceWord e refl)
      (λ V row. promotion_fits (HasNode m) f (word_at m f.lock) m.setup.mode V c row)
      (promotion_in (HasNode m) c f (word_at m f.lock))
      (λ q. owing_target c f ChoiceWord e q refl) law
  by_target (ChoiceFlag k) e law =
      let o = handover_row c f (node_at m k).flag in
      applied_kept (counted (stored_flag m k o.stores) o.counts) (stores_flag (world m) k o.stores)
      o.leads o.tells
      (counts_stored m (stored_flag m k o.stores) (stores_flag (world m) k o.stores) o.counts
      (flag_stored m a.shows.whole.nodes k o.stores (λ y s. at_node (ChoiceFlag k) e)))
      here (target_spin c f (ChoiceFlag k) e refl)
      (λ V row. handover_fits (HasNode m) f (node_at m k).flag m.setup.mode V c row)
      (handover_in (HasNode m) c f (node_at m k).flag)
      (λ q. owing_target c f (ChoiceFlag k) e q refl) law
  by_target (ChoiceNext k) e as_seen =
      let o = search_row (sight_at m p f) c f (node_at m k).next in
      let by : Sight → Type 0 = λ s. let q = search_row s c f (node_at m k).next in
      Law (lead_on (stores_next (world m) k q.stores) w f q.leads) q.tells in
      let law = subst by (sight_same m hs a.shows w f) as_seen in
      applied_kept (counted (stored_next m k o.stores) o.counts) (stores_next (world m) k o.stores)
      o.leads o.tells
      (counts_stored m (stored_next m k o.stores) (stores_next (world m) k o.stores) o.counts
      (next_stored m a.shows.whole.nodes k o.stores (λ y s. at_node (ChoiceNext k) e)))
      here (target_spin c f (ChoiceNext k) e refl)
      (λ V row. search_fits (HasNode m) f (sight_at m p f) (node_at m k).next m.setup.mode V c
      row) (search_in (HasNode m) (sight_at m p f) c f (node_at m k).next)
      (λ q. owing_target c f (ChoiceNext k) e q refl) law
  by_target (SecondTailOf k) e law =
      let o = second_row c f (node_at m k).second_tail in
      applied_kept (counted (stored_second m k o.stores) o.counts)
      (stores_second (world m) k o.stores) o.leads o.tells
      (counts_stored m (stored_second m k o.stores) (stores_second (world m) k o.stores)
      o.counts (second_stored m a.shows.whole.nodes k o.stores
      (λ y s. at_node (SecondTailOf k) e)))
      here (target_spin c f (SecondTailOf k) e refl)
      (λ V row. second_fits (HasNode m) f (node_at m k).second_tail m.setup.mode V c row)
      (second_in (HasNode m) c f (node_at m k).second_tail)
      (λ q. owing_target c f (SecondTailOf k) e q refl) law
  by_target (RunsOf k) e as_seen =
      let o = runs_row (sight_at m p f) c f (node_at m k).runs in
      let by : Sight → Type 0 = λ s. let q = runs_row s c f (node_at m k).runs in
      Law (lead_on (stores_runs (world m) k q.stores) w f q.leads) q.tells in
      let law = subst by (sight_same m hs a.shows w f) as_seen in
      applied_kept (counted (stored_runs m k o.stores) o.counts) (stores_runs (world m) k o.stores)
      o.leads o.tells
      (counts_stored m (stored_runs m k o.stores) (stores_runs (world m) k o.stores) o.counts
      (runs_stored m a.shows.whole.nodes k o.stores (λ y s. at_node (RunsOf k) e)))
      here (target_spin c f (RunsOf k) e refl)
      (λ V row. runs_fits (HasNode m) f (sight_at m p f) (node_at m k).runs m.setup.mode V c
      row) (runs_in (HasNode m) (sight_at m p f) c f (node_at m k).runs)
      (λ q. owing_target c f (RunsOf k) e q refl) law
  by_target PvWord e law =
      let o = pv_row m.setup.spins c f (word_at m f.lock) in
      applied_kept (counted (stored_word m f o.stores) o.counts)
      (stores_word (world m) f.lock o.stores) o.leads o.tells
      (counts_stored m (stored_word m f o.stores) (stores_word (world m) f.lock o.stores)
      o.counts (word_stored m f o.stores lock_within))
      here (target_spin c f PvWord e refl)
      (λ V row. pv_fits (HasNode m) f m.setup.spins (word_at m f.lock) m.setup.mode V c row)
      (pv_in (HasNode m) m.setup.spins c f (word_at m f.lock))
      (λ q. owing_target c f PvWord e q refl) law
  by_target (PvFlag k) e law =
      let o = pv_flag_row c f (node_at m k).flag in
      applied_kept (counted (stored_flag m k o.stores) o.counts) (stores_flag (world m) k o.stores)
      o.leads o.tells
      (counts_stored m (stored_flag m k o.stores) (stores_flag (world m) k o.stores) o.counts
      (flag_stored m a.shows.whole.nodes k o.stores (λ y s. at_node (PvFlag k) e)))
      here (target_spin c f (PvFlag k) e refl)
      (λ V row. pv_flag_fits (HasNode m) f (node_at m k).flag m.setup.mode V c row)
      (pv_flag_in (HasNode m) c f (node_at m k).flag)
      (λ q. owing_target c f (PvFlag k) e q refl) law
  by_target (PvNext k) e law =
      let o = pv_next_row c f (node_at m k).next in
      applied_kept (counted (stored_next m k o.stores) o.counts) (stores_next (world m) k o.stores)
      o.leads o.tells
      (counts_stored m (stored_next m k o.stores) (stores_next (world m) k o.stores) o.counts
      (next_stored m a.shows.whole.nodes k o.stores (λ y s. at_node (PvNext k) e)))
      here (target_spin c f (PvNext k) e refl)
      (λ V row. pv_next_fits (HasNode m) f (node_at m k).next m.setup.mode V c row)
      (pv_next_in (HasNode m) c f (node_at m k).next)
      (λ q. owing_target c f (PvNext k) e q refl) law
  by_target (StateOf k) e law =
      let o = state_row m.setup.spins c f (node_at m k).state in
      applied_kept (counted (stored_state m k o.stores) o.counts)
      (stores_state (world m) k o.stores) o.leads o.tells
      (counts_stored m (stored_state m k o.stores) (stores_state (world m) k o.stores) o.counts
      (state_stored m a.shows.whole.nodes k o.stores (λ y s. at_node (StateOf k) e)))
      here (target_spin c f (StateOf k) e refl)
      (λ V row. state_fits (HasNode m) f m.setup.spins (node_at m k).state m.setup.mode V c row)
      (state_in (HasNode m) m.setup.spins c f (node_at m k).state)
      (λ q. owing_target c f (StateOf k) e q refl) law
  by_target HashEntry e law =
      let o = hash_row c f (entry_at m f.lock) in
      applied_kept (counted (stored_entry m f.lock o.stores) o.counts)
      (stores_entry (world m) f.lock o.stores) o.leads o.tells
      (counts_stored m (stored_entry m f.lock o.stores) (stores_entry (world m) f.lock o.stores)
      o.counts (entry_stored m f.lock o.stores))
      here (target_spin c f HashEntry e refl)
      (λ V row. hash_fits (HasNode m) f (entry_at m f.lock) m.setup.mode V c row)
      (hash_in (HasNode m) c f (entry_at m f.lock)
      (λ q n s. entry_within m hs a.shows w f a.live c a.place q n s))
      (λ q. owing_target c f HashEntry e q refl) law
  by_target Halted e law =
      let o = halt_row c f (halted_at m p) in
      applied_kept (counted (stored_halted m p o.stores) o.counts)
      (stores_halted (world m) p o.stores) o.leads o.tells
      (counts_stored m (stored_halted m p o.stores) (stores_halted (world m) p o.stores)
      o.counts (halted_stored m p o.stores a.range))
      here (target_spin c f Halted e refl)
      (λ V row. halt_fits (HasNode m) f (halted_at m p) m.setup.mode V c row)
      (halt_in (HasNode m) c f (halted_at m p)) (λ q. owing_target c f Halted e q refl) law
  by_target (KickOf q) e law = by_stand here
    where
      owing : owes_kick (Some c) ≡ true
      owing = kick_target c f (ap is_kick_target e)

      o : Effect Bool
      o = kick_row c f (kicked_at m q)

      n : Machine
      n = counted (stored_kicked m q o.stores) o.counts

      x : World
      x = stores_kicked (world m) q o.stores

      by_stand : Stance m.setup.mode works.op.verb f c → StillShows m hs (row_on m p f c (KickOf q))
      by_stand (Acts V taking row) =
          absurd (let z = not_owing m.setup.mode V c row in grind (arith, z, owing))
      by_stand (Owes is inner over plain) =
          let lead : o.leads ≡ Freed = ap (λ (d : Pc). (kick_row d f (kicked_at m q)).leads) is in
          let there : q < length m.cpus =
          kick_within m hs a.shows w f a.live q (sym (ap (λ (d : Pc). target d f) is) ∙ e) in
          let s : Stored m n x =
          counts_stored m (stored_kicked m q o.stores) x o.counts
          (kicked_stored m q o.stores there) in
          applied_by n x o.leads o.tells s
          (λ hs1 same r sound. subst (λ (k : Lead). ShowsAll (moved n p f k) hs1) (sym lead)
          (kicked_shows n p f c hs1 (ready_same m n p f c ready s.same s.frames) inner over plain
          (subst (λ (k : Lead). IsSoundWorld (lead_on (world n) (top_of n p) f k) hs1) lead
          sound))) law
      by_stand (Shares row belongs) =
          absurd (let z = own_not_owing c row in grind (arith, z, owing))
  by_target RwWord e law = by_stand here
    where
      o : Effect RwFields
      o = rw_row m.setup.mode c f (rw_at m f.lock.index)

      n : Machine
      n = counted (stored_rw m f.lock.index o.stores) o.counts

      x : World
      x = stores_rw (world m) f.lock.index o.stores

      way : Option Manner
      way = way_told o.tells (held_of m w (rw_name f.lock.index))

      by_stand : Stance m.setup.mode works.op.verb f c → StillShows m hs (row_on m p f c RwWord)
      by_stand (Acts V taking row) = absurd (rw_apart c f e (spin_row_of m.setup.mode V c row))
      by_stand (Owes is inner over plain) = absurd (rw_apart c f e (ap is_rw_row is))
      by_stand (Shares row belongs) =
          let s : Stored m n x =
          counts_stored m (stored_rw m f.lock.index o.stores) x o.counts
          (rw_stored m f.lock.index o.stores lock_within) in
          let r = ready_same m n p f c ready s.same s.frames in
          let hs1 = told_on hs (told_event w f.lock (to_of m o.tells) o.tells) in
          let P : World → Waiter → Type 0 =
          λ y u. IsSoundWorld
          (put_held (put_frame y u (Some (led f o.leads))) u (rw_name f.lock.index) way) hs1 in
          let there : P (world n) (top_of n p) =
          subst (λ (u : Waiter). P (world n) u) (sym (top_same m n p s.same))
          (subst (λ (y : World). P y w) (sym s.world) law.0) in
          let same : held_of n (top_of n p) (rw_name f.lock.index) ≡ held_of m w
          (rw_name f.lock.index) =
          ap (λ (u : Waiter). held_of n u (rw_name f.lock.index)) (top_same m n p s.same)
          ∙ ap (λ (y : World). y.held w (rw_name f.lock.index)) s.world
          ∙ ap (λ (h : Waiter → LockName → Option Manner). h w (rw_name f.lock.index))
          (stores_held (world m) f.lock.index o.stores) in
          let leads : RwLead n.setup.mode works.op.verb f c
          (held_of n (top_of n p) (rw_name f.lock.index)) o.leads way =
          subst (λ (k : Setup).
          RwLead k.mode works.op.verb f c (held_of n (top_of n p) (rw_name f.lock.index))
          o.leads way) (sym s.same.keeps.setup)
          (subst (λ (h : Option Manner). RwLead m.setup.mode works.op.verb f c h o.leads way)
          (sym same)
          (rw_leads m.setup.mode f (rw_at m f.lock.index) (held_of m w (rw_name f.lock.index))
          works.op.verb f.lock.wait refl c belongs)) in
          let shown : ShowsAll (moved n p f o.leads) hs1 =
          rw_moved_shows n p f c hs1 r row a.place o.leads way leads there in
          record {
            shows =
                subst (λ (e : Option Event). ShowsAll (moved n p f o.leads) (told_on hs e))
                (sym (event_is o.tells)) shown;
            allowed =
                subst (λ (e : Option Event). MayFollowIfAny (rules_of m.setup) hs e)
                (sym (event_is o.tells)) law.1;
            kicks = kicks_by n x (row_in_at (world m) w f c RwWord).0 o.leads o.tells s
                (kicks_put_held (put_frame x w (Some (led f o.leads))) w (rw_name f.lock.index) way)
                law.2;
          }

  newest : IsNewest (world m) w
  newest = top_newest m hs a.shows p a.range

  pub row_on_kept : StillShows m hs (row_on m p f c (target c f))
  row_on_kept =
      let to = to_of m (row_in (world m) w f c).1 in
      let law = every_row_keeps c (world m) hs (rules_of m.setup) w to f a.shows.world
      (record { format = refl; mode = refl; sockets = refl; threshold = refl }) newest a.live a.place
      (goes_to m hs a.shows w f c a.live a.place) in
      by_target (target c f) refl (
        law.0,
        law.1,
        λ es shown. every_row_shows c (world m) (spin_part (world m).kind hs) w to f es
            a.shows.world.spins newest a.live a.place (a.shows.world.fits w f a.live).after shown,
      )

module _ (m : Machine) (p : ℕ) (hs : LockName → LockHistory) (shows : ShowsAll m hs)
    (range : p < length m.cpus) where
  pub top_live : frame_at m (top_of m p) ≡ Some (top_frame m p)
  unfolding frame_at depth_at
  top_live =
      let top = shows.whole.tops p range in
      let x = within_end (cpu_at m p).frames (depth_at m p - 1) (omega (arith, top.some)) in
      x.1 ∙ ap Some (sym (top_frame-is m p x.0 x.1))

  by_place : (o : Option Pc) → (top_frame m p).place ≡ o
      → StillShows m hs (row_at m p (top_frame m p) o)
  by_place None e = record { shows = shows; allowed = tt; kicks = λ es shown. shown }
  by_place (Some c) e =
      row_on_kept m p (top_frame m p) c hs
      (record { shows = shows; range = range; live = top_live; place = e })

  -- whatever stands on top of a processor, its row keeps it
  pub row_kept : StillShows m hs (row m p)
  row_kept = by_place (top_frame m p).place refl
