-- An act adds one to some of the ten counts at most.
use Rattle.std.proofs.Common.{◌≡◌, ℕ, Option, Some, None, Bool, true, false, List, [], ◌∷◌, inl}
use Rattle.std.proofs.Common.{inr, arith, ap, ◌+◌, ◌≤◌, rules, refl, sym, ◌∙◌, subst, if◌then◌else◌}
use Rattle.std.proofs.Common.{◌==◌, ◌&&◌, ◌-◌, is_some}
use Rattle.lk_core.proofs.Names.{cases_Bool, RwFields, Fields, NodeName, Act, LockName, Mode, Pv}
use Rattle.lk_core.proofs.Names.{idle, next, step, step_halted, CpuState, LockState, Machine}
use Rattle.lk_core.proofs.Names.{top_frame, Counter, Effect, Lead, counted, moved, ChoiceFlag}
use Rattle.lk_core.proofs.Names.{ChoiceNext, ChoiceWord, FlagOf, Halted, HashEntry, KickOf, NextOf}
use Rattle.lk_core.proofs.Names.{PvFlag, PvNext, PvWord, QueueWord, Queued, RunsOf, RwWord}
use Rattle.lk_core.proofs.Names.{SecondTailOf, SpinWord, StateOf, Target, row, row_at, row_on}
use Rattle.lk_core.proofs.Names.{sight_at, stored_entry, stored_flag, stored_halted, stored_kicked}
use Rattle.lk_core.proofs.Names.{stored_next, stored_queued, stored_runs, stored_rw, stored_second}
use Rattle.lk_core.proofs.Names.{stored_state, stored_word, target, Counts, Flag, Frame, Pc, C1, C2}
use Rattle.lk_core.proofs.Names.{C3, C6, C7, C8, C10, E1, E4, E6, E7, E10, E13, E14, F1, G3, G4, G6}
use Rattle.lk_core.proofs.Names.{G8, G10, H2, K1, N2, P4, R1, R2, R5, T1, T2, U2, U5, V2, W2, W4}
use Rattle.lk_core.proofs.Names.{W6, W7, Wr1, Wr3, Wr6, Y1, Y2, Y4, Y5, State, Sight, after_none}
use Rattle.lk_core.proofs.Names.{handover_row, is_held, is_last, may_stay, promotion_row, runs_row}
use Rattle.lk_core.proofs.Names.{search_row, second_row, halt_row, hash_row, is_halted, is_running}
use Rattle.lk_core.proofs.Names.{is_set, kick_row, pv_flag_row, pv_next_row, pv_row, state_row}
use Rattle.lk_core.proofs.Names.{entry_row, flag_row, is_sole, next_row, queue_row, is_cleared}
use Rattle.lk_core.proofs.Names.{is_empty, is_open, rw_row, is_free, is_unlocked, spin_row}
use Rattle.lk_core.proofs.Names.{CountsWithin}
use Rattle.lk_rows.specs.Machine.{word_at, node_at, queued_at, preempted_at, halted_at, set_cpu}
use Rattle.lk_rows.specs.Machine.{set_lock, set_entry, entry_at, kicked_at, set_counts, rw_at}
use Rattle.lk_rows.specs.Row.{LockPending, LockSlowpath, LockUseNode2, LockUseNode3, LockUseNode4}
use Rattle.lk_rows.specs.Row.{LockNoNode, count_all}
use Rattle.lk_rows.specs.rows.Queue.{index_count, entry_counts, after_arrival}
use Rattle.lk_core.proofs.Parts.{part-moved, part-stored_word, part-stored_flag, part-stored_next}
use Rattle.lk_core.proofs.Parts.{part-stored_second, part-stored_runs, part-stored_state}
use Rattle.lk_core.proofs.Parts.{part-stored_entry, part-stored_halted, part-stored_kicked}
use Rattle.lk_core.proofs.Parts.{part-stored_queued, part-step_halted, part-rest, part-stored_rw}
use Rattle.lk_names.specs.declared.events.Act.TheVariants as act
use Rattle.lk_rows.specs.declared.parts.Flag.TheVariants as flag

-- no count rises by more than one
record StepsUp (c d : Counts) : Type 0 where
  pub lock_pending : d.lock_pending ≤ c.lock_pending + 1
  pub lock_slowpath : d.lock_slowpath ≤ c.lock_slowpath + 1
  pub lock_use_node2 : d.lock_use_node2 ≤ c.lock_use_node2 + 1
  pub lock_use_node3 : d.lock_use_node3 ≤ c.lock_use_node3 + 1
  pub lock_use_node4 : d.lock_use_node4 ≤ c.lock_use_node4 + 1
  pub lock_no_node : d.lock_no_node ≤ c.lock_no_node + 1
  pub pv_lock_stealing : d.pv_lock_stealing ≤ c.pv_lock_stealing + 1
  pub pv_wait_node : d.pv_wait_node ≤ c.pv_wait_node + 1
  pub pv_wait_head : d.pv_wait_head ≤ c.pv_wait_head + 1
  pub pv_kick_unlock : d.pv_kick_unlock ≤ c.pv_kick_unlock + 1

steps_within : (n : ℕ) (c d : Counts) → CountsWithin n c → StepsUp c d → CountsWithin (n + 1) d
steps_within n c d w s =
    record {
      lock_pending = omega (arith, w.lock_pending, s.lock_pending);
      lock_slowpath = omega (arith, w.lock_slowpath, s.lock_slowpath);
      lock_use_node2 = omega (arith, w.lock_use_node2, s.lock_use_node2);
      lock_use_node3 = omega (arith, w.lock_use_node3, s.lock_use_node3);
      lock_use_node4 = omega (arith, w.lock_use_node4, s.lock_use_node4);
      lock_no_node = omega (arith, w.lock_no_node, s.lock_no_node);
      pv_lock_stealing = omega (arith, w.pv_lock_stealing, s.pv_lock_stealing);
      pv_wait_node = omega (arith, w.pv_wait_node, s.pv_wait_node);
      pv_wait_head = omega (arith, w.pv_wait_head, s.pv_wait_head);
      pv_kick_unlock = omega (arith, w.pv_kick_unlock, s.pv_kick_unlock);
    }

-- counting these, no count rises by more than one
abbrev AddsFew : List Counter → Type 0
AddsFew cs = (c : Counts) → StepsUp c (count_all c cs)

none_few : AddsFew []
none_few c = search (arith, rules)

pending_few : AddsFew (LockPending ∷ [])
pending_few c = search (arith, rules)

-- one of two lists
either : (P : List Counter → Type 0) (t : Bool) (a b : List Counter) → P a → P b
    → P (if t then a else b)
either P true a b x y = x
either P false a b x y = y

index_of : (P : List Counter → Type 0) → P [] → P (LockUseNode2 ∷ []) → P (LockUseNode3 ∷ [])
    → P (LockUseNode4 ∷ []) → P (LockNoNode ∷ []) → (i : ℕ) → P (index_count i)
index_of P a b c d e i =
    either P (i == 0) []
    (if i == 1 then LockUseNode2 ∷ [] else (if i ==
    2 then LockUseNode3 ∷ [] else (if i == 3 then LockUseNode4 ∷ [] else LockNoNode ∷ []))) a
    (either P (i == 1) (LockUseNode2 ∷ [])
    (if i == 2 then LockUseNode3 ∷ [] else (if i ==
    3 then LockUseNode4 ∷ [] else LockNoNode ∷ [])) b
    (either P (i == 2) (LockUseNode3 ∷ []) (if i == 3 then LockUseNode4 ∷ [] else LockNoNode ∷ []) c
    (either P (i == 3) (LockUseNode4 ∷ []) (LockNoNode ∷ []) d e)))

entry_few : (mode : Mode) (i : ℕ) → AddsFew (entry_counts mode i)
entry_few Pv i =
    index_of AddsFew none_few (λ c. search (arith, rules)) (λ c. search (arith, rules))
    (λ c. search (arith, rules)) (λ c. search (arith, rules)) i
entry_few _ i =
    index_of (λ cs. AddsFew (LockSlowpath ∷ cs)) (λ c. search (arith, rules))
    (λ c. search (arith, rules)) (λ c. search (arith, rules)) (λ c. search (arith, rules))
    (λ c. search (arith, rules)) i

rw_few : (mode : Mode) (c : Pc) (f : Frame) (x : RwFields) → AddsFew (rw_row mode c f x).counts
rw_few mode R1 f x = elim (cases_Bool (is_open x)) [ inl e ↦ rw e none_few | inr e ↦ rw e none_few ]
rw_few mode R2 f x = elim (cases_Bool (x.writer)) [ inl e ↦ rw e none_few | inr e ↦ rw e none_few ]
rw_few mode R5 f x = elim (cases_Bool (x.writer)) [ inl e ↦ rw e none_few | inr e ↦ rw e none_few ]
rw_few mode Wr1 f x =
    elim (cases_Bool (is_empty x)) [ inl e ↦ rw e none_few | inr e ↦ rw e none_few ]
rw_few mode Wr3 f x =
    elim (cases_Bool (is_empty x)) [ inl e ↦ rw e none_few | inr e ↦ rw e none_few ]
rw_few mode Wr6 f x =
    elim (cases_Bool (is_cleared x)) [ inl e ↦ rw e none_few | inr e ↦ rw e none_few ]
rw_few mode Y1 f x = elim (cases_Bool (is_open x)) [ inl e ↦ rw e none_few | inr e ↦ rw e none_few ]
rw_few mode Y2 f x = elim (cases_Bool (is_open x)) [ inl e ↦ rw e none_few | inr e ↦ rw e none_few ]
rw_few mode Y4 f x =
    elim (cases_Bool (is_empty x)) [ inl e ↦ rw e none_few | inr e ↦ rw e none_few ]
rw_few mode Y5 f x =
    elim (cases_Bool (is_empty x)) [ inl e ↦ rw e none_few | inr e ↦ rw e none_few ]
rw_few mode _ f x = none_few

spin_few : (mode : Mode) (c : Pc) (f : Frame) (x : Fields) → AddsFew (spin_row mode c f x).counts
spin_few mode F1 f x =
    elim (cases_Bool (is_free x)) [ inl e ↦ rw e none_few | inr e ↦ rw e none_few ]
spin_few mode T1 f x =
    elim (cases_Bool (is_free x)) [ inl e ↦ rw e none_few | inr e ↦ rw e none_few ]
spin_few mode T2 f x =
    elim (cases_Bool (is_free x)) [ inl e ↦ rw e none_few | inr e ↦ rw e none_few ]
spin_few mode V2 f x =
    elim (cases_Bool (is_free x)) [ inl e ↦ rw e none_few | inr e ↦ rw e none_few ]
spin_few mode P4 f x = pending_few
spin_few mode _ f x = none_few

arrival_few : (mode : Mode) (o : Option NodeName) → AddsFew (after_arrival mode o).counts
arrival_few Pv None = none_few
arrival_few _ None = none_few
arrival_few mode (Some n) = none_few

queue_few : (mode : Mode) (c : Pc) (f : Frame) (x : Fields) → AddsFew (queue_row mode c f x).counts
queue_few mode G3 f x =
    elim (cases_Bool (is_free x)) [ inl e ↦ rw e none_few | inr e ↦ rw e none_few ]
queue_few mode G4 f x = arrival_few mode x.tail
queue_few mode G8 f x =
    elim (cases_Bool (is_sole f x)) [ inl e ↦ rw e none_few | inr e ↦ rw e none_few ]
queue_few mode N2 f x =
    elim (cases_Bool (is_free x)) [ inl e ↦ rw e none_few | inr e ↦ rw e none_few ]
queue_few mode _ f x = none_few

flag_few : (c : Pc) (f : Frame) (x : Flag) → AddsFew (flag_row c f x).counts
flag_few G6 f flag.Unset = none_few
flag_few G6 f flag.Go = none_few
flag_few G6 f (flag.Second n) = none_few
flag_few _ f x = none_few

next_few : (mode : Mode) (turns : ℕ) (c : Pc) (f : Frame) (x : Option NodeName)
    → AddsFew (next_row mode turns c f x).counts
next_few mode turns G10 f None = none_few
next_few mode turns G10 f (Some n) = none_few
next_few mode turns _ f x = none_few

-- one of two outcomes
few_if : {A : Type 0} (t : Bool) (a b : Effect A) → AddsFew a.counts → AddsFew b.counts
    → AddsFew (if t then a else b).counts
few_if true a b x y = x
few_if false a b x y = y

after_none_few : (o : Option NodeName) → AddsFew (after_none o).counts
after_none_few None = none_few
after_none_few (Some n) = none_few

search_few : (s : Sight) (c : Pc) (f : Frame) (x : Option NodeName)
    → AddsFew (search_row s c f x).counts
search_few s C1 f None = after_none_few f.second
search_few s C1 f (Some n) =
    few_if (may_stay s) _ _ (few_if (s.local n) _ _ none_few none_few)
    (few_if (is_some f.second) _ _ none_few none_few)
search_few s C2 f None = few_if (is_some f.second) _ _ none_few none_few
search_few s C2 f (Some n) =
    few_if (s.local n) _ _ (few_if (is_some f.second) _ _ none_few none_few) none_few
search_few s _ f x = none_few

second_few : (c : Pc) (f : Frame) (x : Option NodeName) → AddsFew (second_row c f x).counts
second_few C3 f x = none_few
second_few C6 f x = none_few
second_few _ f x = none_few

runs_few : (s : Sight) (c : Pc) (f : Frame) (x : ℕ) → AddsFew (runs_row s c f x).counts
runs_few s C7 f x = none_few
runs_few s _ f x = none_few

handover_few : (c : Pc) (f : Frame) (x : Flag) → AddsFew (handover_row c f x).counts
handover_few C8 f x = none_few
handover_few _ f x = none_few

promotion_few : (c : Pc) (f : Frame) (x : Fields) → AddsFew (promotion_row c f x).counts
promotion_few C10 f x = few_if (is_last f x) _ _ none_few none_few
promotion_few _ f x = none_few

pv_few : (spins : ℕ) (c : Pc) (f : Frame) (x : Fields) → AddsFew (pv_row spins c f x).counts
pv_few spins H2 f x = few_if (is_unlocked x.locked) _ _ (λ c. search (arith, rules)) none_few
pv_few spins E4 f x =
    few_if (is_unlocked x.locked && x.pending) _ _ none_few
    (few_if (f.left - 1 == 0) _ _ none_few none_few)
pv_few spins E7 f x = few_if (is_unlocked x.locked) _ _ none_few none_few
pv_few spins E13 f x = few_if (is_last f x) _ _ none_few none_few
pv_few spins U2 f x = few_if (is_held x.locked) _ _ none_few none_few
pv_few spins _ f x = none_few

pv_flag_few : (c : Pc) (f : Frame) (x : Flag) → AddsFew (pv_flag_row c f x).counts
pv_flag_few W4 f x = few_if (is_set x) _ _ none_few (λ c. search (arith, rules))
pv_flag_few _ f x = none_few

pv_next_few : (c : Pc) (f : Frame) (x : Option NodeName) → AddsFew (pv_next_row c f x).counts
pv_next_few E14 f None = none_few
pv_next_few E14 f (Some n) = none_few
pv_next_few _ f x = none_few

state_few : (spins : ℕ) (c : Pc) (f : Frame) (x : State) → AddsFew (state_row spins c f x).counts
state_few spins W2 f x =
    few_if (is_running x) _ _ (few_if (f.left - 1 == 0) _ _ none_few none_few) none_few
state_few spins W7 f x = few_if (is_halted x) _ _ none_few none_few
state_few spins E1 f x = λ c. search (arith, rules)
state_few spins E10 f x = λ c. search (arith, rules)
state_few spins K1 f x = few_if (is_halted x) _ _ none_few none_few
state_few spins _ f x = none_few

hash_few : (c : Pc) (f : Frame) (x : Option NodeName) → AddsFew (hash_row c f x).counts
hash_few E6 f x = none_few
hash_few _ f x = none_few

halt_few : (c : Pc) (f : Frame) (x : Bool) → AddsFew (halt_row c f x).counts
halt_few W6 f x = none_few
halt_few _ f x = none_few

kick_few : (c : Pc) (f : Frame) (x : Bool) → AddsFew (kick_row c f x).counts
kick_few U5 f x = λ c. search (arith, rules)
kick_few _ f x = none_few

-- on a machine

abbrev of : Machine → Counts
of m = m.counts

cpu : (m : Machine) (p : ℕ) (c : CpuState) → of (set_cpu m p c) ≡ of m
unfolding set_cpu
cpu m p c = refl

hash : (m : Machine) (l : LockName) (n : Option NodeName) → of (set_entry m l n) ≡ of m
unfolding set_entry
hash m l None = refl
hash m l (Some n) = refl

lock : (m : Machine) (i : ℕ) (x : LockState) → of (set_lock m i x) ≡ of m
unfolding set_lock
lock m i x = refl

counted_is : (m : Machine) (cs : List Counter) → of (counted m cs) ≡ count_all (of m) cs
unfolding set_counts
counted_is m [] = refl
counted_is m (c ∷ cs) = refl

-- the counts do not rise by more than one
abbrev Rises : Machine → Machine → Type 0
Rises m n = StepsUp (of m) (of n)

still : (m n : Machine) → of n ≡ of m → Rises m n
still m n e = subst (λ (c : Counts). StepsUp (of m) c) (sym e) (none_few (of m))

applied_few : (m n : Machine) (p : ℕ) (f : Frame) (lead : Lead) (cs : List Counter) → of n ≡ of m
    → AddsFew cs → Rises m (moved (counted n cs) p f lead)
applied_few m n p f lead cs e few =
    subst (λ (c : Counts). StepsUp (of m) c)
    (sym (part-moved of cpu lock (counted n cs) p f lead ∙ counted_is n cs
    ∙ ap (λ (c : Counts). count_all c cs) e)) (few (of m))

few_row_on : (m : Machine) (p : ℕ) (f : Frame) (c : Pc) (t : Target) → Rises m (row_on m p f c t).0
few_row_on m p f c SpinWord =
    let o = spin_row m.setup.mode c f (word_at m f.lock) in
    applied_few m (stored_word m f o.stores) p f o.leads o.counts
    (part-stored_word of cpu lock m f o.stores) (spin_few m.setup.mode c f (word_at m f.lock))
few_row_on m p f c QueueWord =
    let o = queue_row m.setup.mode c f (word_at m f.lock) in
    applied_few m (stored_word m f o.stores) p f o.leads o.counts
    (part-stored_word of cpu lock m f o.stores) (queue_few m.setup.mode c f (word_at m f.lock))
few_row_on m p f c Queued =
    let o = entry_row m.setup.mode p (queued_at m p) in
    applied_few m (stored_queued m p o.stores) p f o.leads o.counts
    (part-stored_queued of cpu lock m p o.stores) (entry_few m.setup.mode (queued_at m p))
few_row_on m p f c (FlagOf n) =
    let o = flag_row c f (node_at m n).flag in
    applied_few m (stored_flag m n o.stores) p f o.leads o.counts
    (part-stored_flag of cpu lock m n o.stores) (flag_few c f (node_at m n).flag)
few_row_on m p f c (NextOf n) =
    let o = next_row m.setup.mode m.setup.spins c f (node_at m n).next in
    applied_few m (stored_next m n o.stores) p f o.leads o.counts
    (part-stored_next of cpu lock m n o.stores)
    (next_few m.setup.mode m.setup.spins c f (node_at m n).next)
few_row_on m p f c RwWord =
    let o = rw_row m.setup.mode c f (rw_at m f.lock.index) in
    applied_few m (stored_rw m f.lock.index o.stores) p f o.leads o.counts
    (part-stored_rw of cpu lock m f.lock.index o.stores)
    (rw_few m.setup.mode c f (rw_at m f.lock.index))
few_row_on m p f c ChoiceWord =
    let o = promotion_row c f (word_at m f.lock) in
    applied_few m (stored_word m f o.stores) p f o.leads o.counts
    (part-stored_word of cpu lock m f o.stores) (promotion_few c f (word_at m f.lock))
few_row_on m p f c (ChoiceFlag n) =
    let o = handover_row c f (node_at m n).flag in
    applied_few m (stored_flag m n o.stores) p f o.leads o.counts
    (part-stored_flag of cpu lock m n o.stores) (handover_few c f (node_at m n).flag)
few_row_on m p f c (ChoiceNext n) =
    let o = search_row (sight_at m p f) c f (node_at m n).next in
    applied_few m (stored_next m n o.stores) p f o.leads o.counts
    (part-stored_next of cpu lock m n o.stores)
    (search_few (sight_at m p f) c f (node_at m n).next)
few_row_on m p f c (SecondTailOf n) =
    let o = second_row c f (node_at m n).second_tail in
    applied_few m (stored_second m n o.stores) p f o.leads o.counts
    (part-stored_second of cpu lock m n o.stores) (second_few c f (node_at m n).second_tail)
few_row_on m p f c (RunsOf n) =
    let o = runs_row (sight_at m p f) c f (node_at m n).runs in
    applied_few m (stored_runs m n o.stores) p f o.leads o.counts
    (part-stored_runs of cpu lock m n o.stores)
    (runs_few (sight_at m p f) c f (node_at m n).runs)
few_row_on m p f c PvWord =
    let o = pv_row m.setup.spins c f (word_at m f.lock) in
    applied_few m (stored_word m f o.stores) p f o.leads o.counts
    (part-stored_word of cpu lock m f o.stores) (pv_few m.setup.spins c f (word_at m f.lock))
few_row_on m p f c (PvFlag n) =
    let o = pv_flag_row c f (node_at m n).flag in
    applied_few m (stored_flag m n o.stores) p f o.leads o.counts
    (part-stored_flag of cpu lock m n o.stores) (pv_flag_few c f (node_at m n).flag)
few_row_on m p f c (PvNext n) =
    let o = pv_next_row c f (node_at m n).next in
    applied_few m (stored_next m n o.stores) p f o.leads o.counts
    (part-stored_next of cpu lock m n o.stores) (pv_next_few c f (node_at m n).next)
few_row_on m p f c (StateOf n) =
    let o = state_row m.setup.spins c f (node_at m n).state in
    applied_few m (stored_state m n o.stores) p f o.leads o.counts
    (part-stored_state of cpu lock m n o.stores)
    (state_few m.setup.spins c f (node_at m n).state)
few_row_on m p f c HashEntry =
    let o = hash_row c f (entry_at m f.lock) in
    applied_few m (stored_entry m f.lock o.stores) p f o.leads o.counts
    (part-stored_entry of hash m f.lock o.stores) (hash_few c f (entry_at m f.lock))
few_row_on m p f c Halted =
    let o = halt_row c f (halted_at m p) in
    applied_few m (stored_halted m p o.stores) p f o.leads o.counts
    (part-stored_halted of cpu lock m p o.stores) (halt_few c f (halted_at m p))
few_row_on m p f c (KickOf q) =
    let o = kick_row c f (kicked_at m q) in
    applied_few m (stored_kicked m q o.stores) p f o.leads o.counts
    (part-stored_kicked of cpu lock m q o.stores) (kick_few c f (kicked_at m q))

few_row_at : (m : Machine) (p : ℕ) (f : Frame) (o : Option Pc) → Rises m (row_at m p f o).0
few_row_at m p f None = still m m refl
few_row_at m p f (Some c) = few_row_on m p f c (target c f)

few_step : (m : Machine) (p : ℕ) → Rises m (step m p).0
few_step m p = by (preempted_at m p) (halted_at m p)
  where
    by : (a b : Bool) → Rises m (if a then idle m else (if b then step_halted m p else row m p)).0
    by true b = still m m refl
    by false true = still m (step_halted m p).0 (part-step_halted of cpu lock m p)
    by false false = few_row_at m p (top_frame m p) (top_frame m p).place

few_next : (m : Machine) (a : Act) → Rises m (next m a).0
few_next m (act.Step p) = few_step m p
few_next m (act.Interrupt p) = still m (next m (act.Interrupt p)).0 (part-rest of cpu lock m p).0
few_next m (act.Preempt p) = still m (next m (act.Preempt p)).0 (part-rest of cpu lock m p).1
few_next m (act.Resume p) = still m (next m (act.Resume p)).0 (part-rest of cpu lock m p).2
few_next m (act.Nudge p) = still m (next m (act.Nudge p)).0 (part-rest of cpu lock m p).3

-- the counts of the next machine are within one more
pub counts_within : (n : ℕ) (m : Machine) (a : Act) → CountsWithin n m.counts
    → CountsWithin (n + 1) (next m a).0.counts
counts_within n m a w = steps_within n m.counts (next m a).0.counts w (few_next m a)
