-- No act changes the setup.
use Rattle.std.proofs.Common.{◌≡◌, ℕ, Option, Some, None, Bool, true, false, List, [], ◌∷◌, refl}
use Rattle.std.proofs.Common.{◌∙◌, if◌then◌else◌}
use Rattle.lk_core.proofs.Names.{NodeName, Act, LockName, idle, next, step, step_halted, CpuState}
use Rattle.lk_core.proofs.Names.{LockState, Machine, top_frame, Counter, Lead, counted, moved}
use Rattle.lk_core.proofs.Names.{ChoiceFlag, ChoiceNext, ChoiceWord, FlagOf, Halted, HashEntry}
use Rattle.lk_core.proofs.Names.{KickOf, NextOf, PvFlag, PvNext, PvWord, QueueWord, Queued, RunsOf}
use Rattle.lk_core.proofs.Names.{RwWord, SecondTailOf, SpinWord, StateOf, Target, row, row_at}
use Rattle.lk_core.proofs.Names.{row_on, sight_at, stored_entry, stored_flag, stored_halted}
use Rattle.lk_core.proofs.Names.{stored_kicked, stored_next, stored_queued, stored_runs, stored_rw}
use Rattle.lk_core.proofs.Names.{stored_second, stored_state, stored_word, target, Frame, Pc, Setup}
use Rattle.lk_core.proofs.Names.{handover_row, promotion_row, runs_row, search_row, second_row}
use Rattle.lk_core.proofs.Names.{halt_row, hash_row, kick_row, pv_flag_row, pv_next_row, pv_row}
use Rattle.lk_core.proofs.Names.{state_row, entry_row, flag_row, next_row, queue_row, rw_row}
use Rattle.lk_core.proofs.Names.{spin_row}
use Rattle.lk_rows.specs.Machine.{word_at, node_at, queued_at, preempted_at, halted_at, set_cpu}
use Rattle.lk_rows.specs.Machine.{set_lock, set_entry, entry_at, kicked_at, set_counts, rw_at}
use Rattle.lk_core.proofs.Parts.{part-moved, part-stored_word, part-stored_flag, part-stored_next}
use Rattle.lk_core.proofs.Parts.{part-stored_second, part-stored_runs, part-stored_state}
use Rattle.lk_core.proofs.Parts.{part-stored_entry, part-stored_halted, part-stored_kicked}
use Rattle.lk_core.proofs.Parts.{part-stored_queued, part-step_halted, part-rest, part-stored_rw}
use Rattle.lk_names.specs.declared.events.Act.TheVariants as act

abbrev of : Machine → Setup
of m = m.setup

cpu : (m : Machine) (p : ℕ) (c : CpuState) → of (set_cpu m p c) ≡ of m
unfolding set_cpu
cpu m p c = refl

hash : (m : Machine) (l : LockName) (n : Option NodeName) → of (set_entry m l n) ≡ of m
unfolding set_entry
hash m l None = refl
hash m l (Some n) = refl

lock : (m : Machine) (i : ℕ) (x : LockState) → of (set_lock m i x) ≡ of m
unfolding set_lock
lock m i x = refl

counts : (m : Machine) (cs : List Counter) → of (counted m cs) ≡ of m
unfolding set_counts
counts m [] = refl
counts m (c ∷ cs) = refl

applied_setup : (m n : Machine) (p : ℕ) (f : Frame) (lead : Lead) (cs : List Counter) → of n ≡ of m
    → of (moved (counted n cs) p f lead) ≡ of m
applied_setup m n p f lead cs e = part-moved of cpu lock (counted n cs) p f lead ∙ counts n cs ∙ e

setup_row_on : (m : Machine) (p : ℕ) (f : Frame) (c : Pc) (t : Target)
    → of (row_on m p f c t).0 ≡ of m
setup_row_on m p f c SpinWord =
    let o = spin_row m.setup.mode c f (word_at m f.lock) in
    applied_setup m (stored_word m f o.stores) p f o.leads o.counts
    (part-stored_word of cpu lock m f o.stores)
setup_row_on m p f c QueueWord =
    let o = queue_row m.setup.mode c f (word_at m f.lock) in
    applied_setup m (stored_word m f o.stores) p f o.leads o.counts
    (part-stored_word of cpu lock m f o.stores)
setup_row_on m p f c Queued =
    let o = entry_row m.setup.mode p (queued_at m p) in
    applied_setup m (stored_queued m p o.stores) p f o.leads o.counts
    (part-stored_queued of cpu lock m p o.stores)
setup_row_on m p f c (FlagOf n) =
    let o = flag_row c f (node_at m n).flag in
    applied_setup m (stored_flag m n o.stores) p f o.leads o.counts
    (part-stored_flag of cpu lock m n o.stores)
setup_row_on m p f c (NextOf n) =
    let o = next_row m.setup.mode m.setup.spins c f (node_at m n).next in
    applied_setup m (stored_next m n o.stores) p f o.leads o.counts
    (part-stored_next of cpu lock m n o.stores)
setup_row_on m p f c RwWord =
    let o = rw_row m.setup.mode c f (rw_at m f.lock.index) in
    applied_setup m (stored_rw m f.lock.index o.stores) p f o.leads o.counts
    (part-stored_rw of cpu lock m f.lock.index o.stores)
setup_row_on m p f c ChoiceWord =
    let o = promotion_row c f (word_at m f.lock) in
    applied_setup m (stored_word m f o.stores) p f o.leads o.counts
    (part-stored_word of cpu lock m f o.stores)
setup_row_on m p f c (ChoiceFlag n) =
    let o = handover_row c f (node_at m n).flag in
    applied_setup m (stored_flag m n o.stores) p f o.leads o.counts
    (part-stored_flag of cpu lock m n o.stores)
setup_row_on m p f c (ChoiceNext n) =
    let o = search_row (sight_at m p f) c f (node_at m n).next in
    applied_setup m (stored_next m n o.stores) p f o.leads o.counts
    (part-stored_next of cpu lock m n o.stores)
setup_row_on m p f c (SecondTailOf n) =
    let o = second_row c f (node_at m n).second_tail in
    applied_setup m (stored_second m n o.stores) p f o.leads o.counts
    (part-stored_second of cpu lock m n o.stores)
setup_row_on m p f c (RunsOf n) =
    let o = runs_row (sight_at m p f) c f (node_at m n).runs in
    applied_setup m (stored_runs m n o.stores) p f o.leads o.counts
    (part-stored_runs of cpu lock m n o.stores)
setup_row_on m p f c PvWord =
    let o = pv_row m.setup.spins c f (word_at m f.lock) in
    applied_setup m (stored_word m f o.stores) p f o.leads o.counts
    (part-stored_word of cpu lock m f o.stores)
setup_row_on m p f c (PvFlag n) =
    let o = pv_flag_row c f (node_at m n).flag in
    applied_setup m (stored_flag m n o.stores) p f o.leads o.counts
    (part-stored_flag of cpu lock m n o.stores)
setup_row_on m p f c (PvNext n) =
    let o = pv_next_row c f (node_at m n).next in
    applied_setup m (stored_next m n o.stores) p f o.leads o.counts
    (part-stored_next of cpu lock m n o.stores)
setup_row_on m p f c (StateOf n) =
    let o = state_row m.setup.spins c f (node_at m n).state in
    applied_setup m (stored_state m n o.stores) p f o.leads o.counts
    (part-stored_state of cpu lock m n o.stores)
setup_row_on m p f c HashEntry =
    let o = hash_row c f (entry_at m f.lock) in
    applied_setup m (stored_entry m f.lock o.stores) p f o.leads o.counts
    (part-stored_entry of hash m f.lock o.stores)
setup_row_on m p f c Halted =
    let o = halt_row c f (halted_at m p) in
    applied_setup m (stored_halted m p o.stores) p f o.leads o.counts
    (part-stored_halted of cpu lock m p o.stores)
setup_row_on m p f c (KickOf q) =
    let o = kick_row c f (kicked_at m q) in
    applied_setup m (stored_kicked m q o.stores) p f o.leads o.counts
    (part-stored_kicked of cpu lock m q o.stores)

setup_row_at : (m : Machine) (p : ℕ) (f : Frame) (o : Option Pc) → of (row_at m p f o).0 ≡ of m
setup_row_at m p f None = refl
setup_row_at m p f (Some c) = setup_row_on m p f c (target c f)

setup_step : (m : Machine) (p : ℕ) → of (step m p).0 ≡ of m
setup_step m p = by (preempted_at m p) (halted_at m p)
  where
    by : (a b : Bool) → of (if a then idle m else (if b then step_halted m p else row m p)).0 ≡ of m
    by true b = refl
    by false true = part-step_halted of cpu lock m p
    by false false = setup_row_at m p (top_frame m p) (top_frame m p).place

pub setup_kept : (m : Machine) (a : Act) → (next m a).0.setup ≡ m.setup
setup_kept m (act.Step p) = setup_step m p
setup_kept m (act.Interrupt p) = (part-rest of cpu lock m p).0
setup_kept m (act.Preempt p) = (part-rest of cpu lock m p).1
setup_kept m (act.Resume p) = (part-rest of cpu lock m p).2
setup_kept m (act.Nudge p) = (part-rest of cpu lock m p).3
