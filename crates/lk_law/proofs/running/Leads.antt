-- A row is its store, and then its course.
use Rattle.std.proofs.Common.{◌≡◌, ◌≢◌, ℕ, Option, Some, None, Bool, false, ap, ◌-◌, refl, sym, ◌∙◌}
use Rattle.std.proofs.Common.{subst, if◌then◌else◌, ◌&&◌}
use Rattle.lk_law.proofs.Names.{RwFields, Fields, NodeName, same_lock, same_waiter, Manner}
use Rattle.lk_law.proofs.Names.{LockName, Waiter, rw_name, Done, Enters, Freed, Goes, Granted, Lead}
use Rattle.lk_law.proofs.Names.{Leaves, Missed, TakesWait, Yields, Flag, Frame, Pc, State}
use Rattle.lk_law.proofs.Names.{entry_row, course_in, Made, lead_on, led, put_frame, put_held}
use Rattle.lk_law.proofs.Names.{stores_entry, stores_flag, stores_halted, stores_kicked}
use Rattle.lk_law.proofs.Names.{stores_next, stores_queued, stores_runs, stores_second}
use Rattle.lk_law.proofs.Names.{stores_state, stores_word, way_led, World}
use Rattle.lk_rows.specs.TopRow.{Target, SpinWord, QueueWord, Queued, FlagOf, NextOf, ChoiceWord}
use Rattle.lk_rows.specs.TopRow.{ChoiceFlag, ChoiceNext, SecondTailOf, RunsOf, PvWord, PvFlag}
use Rattle.lk_rows.specs.TopRow.{PvNext, StateOf, HashEntry, Halted, KickOf, RwWord}
use Rattle.lk_rows.specs.rows.Rw.{rw_row}
use Rattle.lk_law.proofs.common.Puts.{put_number-else}
use Rattle.lk_law.specs.Leads.{Course, course_on, stored_in, enters, held_lock, way_after, RowIsLed}
use Rattle.lk_law.specs.Leads.{RowIsDone, RowDone}
use Rattle.lk_law.specs.Steps.{led_rest, way_told, row_in_at, stores_rw}

-- what a store leaves alone
record SameFrames (m x : World) : Type 0 where
  pub mode : x.mode ≡ m.mode
  pub turns : x.turns ≡ m.turns
  pub threshold : x.threshold ≡ m.threshold
  pub format : x.format ≡ m.format
  pub sockets : x.sockets ≡ m.sockets
  pub kind : x.kind ≡ m.kind
  pub frame : x.frame ≡ m.frame
  pub held : x.held ≡ m.held

same : (m : World) → SameFrames m m
same m =
    record {
      mode = refl;
      turns = refl;
      threshold = refl;
      format = refl;
      sockets = refl;
      kind = refl;
      frame = refl;
      held = refl;
    }

word_same : (m : World) (l : LockName) (o : Option Fields) → SameFrames m (stores_word m l o)
word_same m l None = same m
word_same m l (Some x) = record { mode = refl; turns = refl; threshold = refl; format = refl; sockets = refl; kind = refl; frame = refl; held = refl }

rw_same : (m : World) (i : ℕ) (o : Option RwFields) → SameFrames m (stores_rw m i o)
rw_same m i None = same m
rw_same m i (Some x) = record { mode = refl; turns = refl; threshold = refl; format = refl; sockets = refl; kind = refl; frame = refl; held = refl }

flag_same : (m : World) (n : NodeName) (o : Option Flag) → SameFrames m (stores_flag m n o)
flag_same m n None = same m
flag_same m n (Some x) = record { mode = refl; turns = refl; threshold = refl; format = refl; sockets = refl; kind = refl; frame = refl; held = refl }

next_same : (m : World) (n : NodeName) (o : Option (Option NodeName)) → SameFrames m (stores_next m n o)
next_same m n None = same m
next_same m n (Some x) = record { mode = refl; turns = refl; threshold = refl; format = refl; sockets = refl; kind = refl; frame = refl; held = refl }

second_same : (m : World) (n : NodeName) (o : Option (Option NodeName)) → SameFrames m (stores_second m n o)
second_same m n None = same m
second_same m n (Some x) = record { mode = refl; turns = refl; threshold = refl; format = refl; sockets = refl; kind = refl; frame = refl; held = refl }

runs_same : (m : World) (n : NodeName) (o : Option ℕ) → SameFrames m (stores_runs m n o)
runs_same m n None = same m
runs_same m n (Some x) = record { mode = refl; turns = refl; threshold = refl; format = refl; sockets = refl; kind = refl; frame = refl; held = refl }

state_same : (m : World) (n : NodeName) (o : Option State) → SameFrames m (stores_state m n o)
state_same m n None = same m
state_same m n (Some x) = record { mode = refl; turns = refl; threshold = refl; format = refl; sockets = refl; kind = refl; frame = refl; held = refl }

entry_same : (m : World) (l : LockName) (o : Option (Option NodeName)) → SameFrames m (stores_entry m l o)
entry_same m l None = same m
entry_same m l (Some x) = record { mode = refl; turns = refl; threshold = refl; format = refl; sockets = refl; kind = refl; frame = refl; held = refl }

halted_same : (m : World) (p : ℕ) (o : Option Bool) → SameFrames m (stores_halted m p o)
halted_same m p None = same m
halted_same m p (Some x) = record { mode = refl; turns = refl; threshold = refl; format = refl; sockets = refl; kind = refl; frame = refl; held = refl }

kicked_same : (m : World) (p : ℕ) (o : Option Bool) → SameFrames m (stores_kicked m p o)
kicked_same m p None = same m
kicked_same m p (Some x) = record { mode = refl; turns = refl; threshold = refl; format = refl; sockets = refl; kind = refl; frame = refl; held = refl }

queued_same : (m : World) (p : ℕ) (o : Option ℕ) → SameFrames m (stores_queued m p o)
queued_same m p None = same m
queued_same m p (Some x) = record { mode = refl; turns = refl; threshold = refl; format = refl; sockets = refl; kind = refl; frame = refl; held = refl }

stored_same : (m : World) (w : Waiter) (f : Frame) (c : Pc) (t : Target) → SameFrames m (stored_in m w f c t)
stored_same m w f c SpinWord = word_same m f.lock _
stored_same m w f c QueueWord = word_same m f.lock _
stored_same m w f c Queued = queued_same m w.cpu (entry_row m.mode w.cpu (m.queued w.cpu)).stores
stored_same m w f c (FlagOf n) = flag_same m n _
stored_same m w f c (NextOf n) = next_same m n _
stored_same m w f c ChoiceWord = word_same m f.lock _
stored_same m w f c (ChoiceFlag n) = flag_same m n _
stored_same m w f c (ChoiceNext n) = next_same m n _
stored_same m w f c (SecondTailOf n) = second_same m n _
stored_same m w f c (RunsOf n) = runs_same m n _
stored_same m w f c PvWord = word_same m f.lock _
stored_same m w f c (PvFlag n) = flag_same m n _
stored_same m w f c (PvNext n) = next_same m n _
stored_same m w f c (StateOf n) = state_same m n _
stored_same m w f c HashEntry = entry_same m f.lock _
stored_same m w f c Halted = halted_same m w.cpu _
stored_same m w f c (KickOf q) = kicked_same m q _
stored_same m w f c RwWord = rw_same m f.lock.index _

pub row_is_led : RowIsLed
row_is_led m w f c SpinWord = refl
row_is_led m w f c QueueWord = refl
row_is_led m w f c Queued = refl
row_is_led m w f c (FlagOf n) = refl
row_is_led m w f c (NextOf n) = refl
row_is_led m w f c ChoiceWord = refl
row_is_led m w f c (ChoiceFlag n) = refl
row_is_led m w f c (ChoiceNext n) = refl
row_is_led m w f c (SecondTailOf n) = refl
row_is_led m w f c (RunsOf n) = refl
row_is_led m w f c PvWord = refl
row_is_led m w f c (PvFlag n) = refl
row_is_led m w f c (PvNext n) = refl
row_is_led m w f c (StateOf n) = refl
row_is_led m w f c HashEntry = refl
row_is_led m w f c Halted = refl
row_is_led m w f c (KickOf q) = refl
row_is_led m w f c RwWord =
    let o = rw_row m.mode c f (m.rw f.lock.index) in
    let x = stores_rw m f.lock.index o.stores in
    let e : m.held ≡ x.held = sym (rw_same m f.lock.index o.stores).held in
    (λ i. (put_held (put_frame x w (Some (led f o.leads))) w (rw_name f.lock.index) (way_told o.tells (e i w (rw_name f.lock.index))), o.tells))

-- what the course leaves alone
rest_same : (m : World) (w : Waiter) (lead : Lead) → SameFrames m (led_rest m w lead)
rest_same m w (Goes c cs) = same m
rest_same m w (Enters None c) = same m
rest_same m w (Enters (Some n) c) = record { mode = refl; turns = refl; threshold = refl; format = refl; sockets = refl; kind = refl; frame = refl; held = refl }
rest_same m w Granted = same m
rest_same m w Freed = same m
rest_same m w Missed = same m
rest_same m w Done = same m
rest_same m w (TakesWait c) = same m
rest_same m w Leaves = record { mode = refl; turns = refl; threshold = refl; format = refl; sockets = refl; kind = refl; frame = refl; held = refl }
rest_same m w (Yields c cs) = same m

rest_word : (m : World) (w : Waiter) (lead : Lead) → (led_rest m w lead).word ≡ m.word
rest_word m w (Enters None c) = refl
rest_word m w (Enters (Some n) c) = refl
rest_word m w Leaves = refl
rest_word m w _ = refl

rest_rw : (m : World) (w : Waiter) (lead : Lead) → (led_rest m w lead).rw ≡ m.rw
rest_rw m w (Enters None c) = refl
rest_rw m w (Enters (Some n) c) = refl
rest_rw m w Leaves = refl
rest_rw m w _ = refl

rest_node : (m : World) (w : Waiter) (lead : Lead) → enters lead ≡ false
    → (led_rest m w lead).node ≡ m.node
rest_node m w (Enters me c) h = cc h
rest_node m w Leaves h = refl
rest_node m w _ h = refl

rest_queued : (m : World) (w : Waiter) (lead : Lead) (q : ℕ) → q ≢ w.cpu
    → (led_rest m w lead).queued q ≡ m.queued q
rest_queued m w (Enters None c) q ne = refl
rest_queued m w (Enters (Some n) c) q ne = refl
rest_queued m w Leaves q ne = put_number-else m.queued w.cpu q (m.queued w.cpu - 1) ne
rest_queued m w _ q ne = refl

rest_entry : (m : World) (w : Waiter) (lead : Lead) → (led_rest m w lead).entry ≡ m.entry
rest_entry m w (Enters None c) = refl
rest_entry m w (Enters (Some n) c) = refl
rest_entry m w Leaves = refl
rest_entry m w _ = refl

rest_halted : (m : World) (w : Waiter) (lead : Lead) → (led_rest m w lead).halted ≡ m.halted
rest_halted m w (Enters None c) = refl
rest_halted m w (Enters (Some n) c) = refl
rest_halted m w Leaves = refl
rest_halted m w _ = refl

rest_kicked : (m : World) (w : Waiter) (lead : Lead) → (led_rest m w lead).kicked ≡ m.kicked
rest_kicked m w (Enters None c) = refl
rest_kicked m w (Enters (Some n) c) = refl
rest_kicked m w Leaves = refl
rest_kicked m w _ = refl

stored_queued : (m : World) (w : Waiter) (f : Frame) (c : Pc) (t : Target) (q : ℕ) → q ≢ w.cpu
    → (stored_in m w f c t).queued q ≡ m.queued q
stored_queued m w f c t q ne = by t
  where
    word : (l : LockName) (o : Option Fields) → (stores_word m l o).queued q ≡ m.queued q
    word l None = refl
    word l (Some x) = refl

    flag : (n : NodeName) (o : Option Flag) → (stores_flag m n o).queued q ≡ m.queued q
    flag n None = refl
    flag n (Some x) = refl

    next : (n : NodeName) (o : Option (Option NodeName)) → (stores_next m n o).queued q ≡ m.queued q
    next n None = refl
    next n (Some x) = refl

    second : (n : NodeName) (o : Option (Option NodeName)) → (stores_second m n o).queued q ≡ m.queued q
    second n None = refl
    second n (Some x) = refl

    runs : (n : NodeName) (o : Option ℕ) → (stores_runs m n o).queued q ≡ m.queued q
    runs n None = refl
    runs n (Some x) = refl

    state : (n : NodeName) (o : Option State) → (stores_state m n o).queued q ≡ m.queued q
    state n None = refl
    state n (Some x) = refl

    entry : (l : LockName) (o : Option (Option NodeName)) → (stores_entry m l o).queued q ≡ m.queued q
    entry l None = refl
    entry l (Some x) = refl

    halted : (p : ℕ) (o : Option Bool) → (stores_halted m p o).queued q ≡ m.queued q
    halted p None = refl
    halted p (Some x) = refl

    kicked : (p : ℕ) (o : Option Bool) → (stores_kicked m p o).queued q ≡ m.queued q
    kicked p None = refl
    kicked p (Some x) = refl

    shared : (i : ℕ) (o : Option RwFields) → (stores_rw m i o).queued q ≡ m.queued q
    shared i None = refl
    shared i (Some x) = refl

    by : (t : Target) → (stored_in m w f c t).queued q ≡ m.queued q
    by SpinWord = word f.lock _
    by QueueWord = word f.lock _
    by Queued = put_number-else m.queued w.cpu q _ ne
    by (FlagOf n) = flag n _
    by (NextOf n) = next n _
    by ChoiceWord = word f.lock _
    by (ChoiceFlag n) = flag n _
    by (ChoiceNext n) = next n _
    by (SecondTailOf n) = second n _
    by (RunsOf n) = runs n _
    by PvWord = word f.lock _
    by (PvFlag n) = flag n _
    by (PvNext n) = next n _
    by (StateOf n) = state n _
    by HashEntry = entry f.lock _
    by Halted = halted w.cpu _
    by (KickOf p) = kicked p _
    by RwWord = shared f.lock.index _

-- the frame has gone on, on a world that differs from m by a store, and by the rest of a lead
module _ (m x : World) (w : Waiter) (f : Frame) (l : LockName) (lead : Lead)
    (way : Option Manner → Option Manner) (stored : SameFrames m x) where
  gone_frame : (y : World) → SameFrames x y → (u : Waiter)
      → (if same_waiter u w then Some (led f lead) else y.frame u)
      ≡ (if same_waiter u w then Some (led f lead) else m.frame u)
  gone_frame y rest u =
      ap (λ (g : Waiter → Option Frame). if same_waiter u w then Some (led f lead) else g u)
      (rest.frame ∙ stored.frame)

  gone_held : (y : World) → SameFrames x y → (u : Waiter) (k : LockName)
      → (if same_waiter u w && same_lock k l then way (x.held w l) else y.held u k)
      ≡ (if same_waiter u w && same_lock k l then way (m.held w l) else m.held u k)
  gone_held y rest u k = (λ i. if same_waiter u w && same_lock k l then way (stored.held i w l) else (rest.held ∙ stored.held) i u k)

-- the course on this is a lead on the frame's own lock
record LeadsOn (t : Target) : Type 0 where
  pub course : (x : World) (w : Waiter) (f : Frame) (o : Course)
      → course_on x w f t o ≡ lead_on x w f o.leads
  pub lock : (f : Frame) → held_lock t f ≡ f.lock
  pub way : (o : Course) → way_after t o ≡ way_led o.leads

lead_done : (m : World) (w : Waiter) (f : Frame) (c : Pc) (t : Target) → LeadsOn t
    → RowDone m (row_in_at m w f c t).0 w f c t (course_in m w f c t)
lead_done m w f c t on =
    let o = course_in m w f c t in
    let x = stored_in m w f c t in
    let stored = stored_same m w f c t in
    let y = led_rest x w o.leads in
    let rest = rest_same x w o.leads in
    let is : (row_in_at m w f c t).0 ≡ lead_on x w f o.leads = ap (λ (p : Made). p.0) (row_is_led m w f c t) ∙ on.course x w f o in
    let lock : f.lock ≡ held_lock t f = sym (on.lock f) in
    let way : way_led o.leads ≡ way_after t o = sym (on.way o) in
    subst (λ (n : World). RowDone m n w f c t o) (sym is)
    (record {
      mode = rest.mode ∙ stored.mode;
      turns = rest.turns ∙ stored.turns;
      threshold = rest.threshold ∙ stored.threshold;
      format = rest.format ∙ stored.format;
      sockets = rest.sockets ∙ stored.sockets;
      kind = rest.kind ∙ stored.kind;
      frame = gone_frame m x w f f.lock o.leads (way_led o.leads) stored y rest;
      held = λ u k. gone_held m x w f f.lock o.leads (way_led o.leads) stored y rest u k
          ∙ (λ i. if same_waiter u w && same_lock k (lock i) then way i (m.held w (lock i)) else m.held u k);
      word = rest_word x w o.leads;
      rw = rest_rw x w o.leads;
      node = rest_node x w o.leads;
      queued = λ q ne. rest_queued x w o.leads q ne ∙ stored_queued m w f c t q ne;
      entry = rest_entry x w o.leads;
      halted = rest_halted x w o.leads;
      kicked = rest_kicked x w o.leads;
    })

rw_done : (m : World) (w : Waiter) (f : Frame) (c : Pc)
    → RowDone m (row_in_at m w f c RwWord).0 w f c RwWord (course_in m w f c RwWord)
rw_done m w f c =
    let o = course_in m w f c RwWord in
    let x = stored_in m w f c RwWord in
    let stored = stored_same m w f c RwWord in
    let l = rw_name f.lock.index in
    subst (λ (n : World). RowDone m n w f c RwWord o) (sym (ap (λ (p : Made). p.0) (row_is_led m w f c RwWord)))
    (record {
      mode = stored.mode;
      turns = stored.turns;
      threshold = stored.threshold;
      format = stored.format;
      sockets = stored.sockets;
      kind = stored.kind;
      frame = gone_frame m x w f l o.leads (way_told o.tells) stored x (same x);
      held = gone_held m x w f l o.leads (way_told o.tells) stored x (same x);
      word = refl;
      rw = refl;
      node = λ h. refl;
      queued = λ q ne. stored_queued m w f c RwWord q ne;
      entry = refl;
      halted = refl;
      kicked = refl;
    })

pub row_is_done : RowIsDone
row_is_done m w f c SpinWord = lead_done m w f c SpinWord (record { course = λ x w f o. refl; lock = λ f. refl; way = λ o. refl })
row_is_done m w f c QueueWord = lead_done m w f c QueueWord (record { course = λ x w f o. refl; lock = λ f. refl; way = λ o. refl })
row_is_done m w f c Queued = lead_done m w f c Queued (record { course = λ x w f o. refl; lock = λ f. refl; way = λ o. refl })
row_is_done m w f c (FlagOf n) = lead_done m w f c (FlagOf n) (record { course = λ x w f o. refl; lock = λ f. refl; way = λ o. refl })
row_is_done m w f c (NextOf n) = lead_done m w f c (NextOf n) (record { course = λ x w f o. refl; lock = λ f. refl; way = λ o. refl })
row_is_done m w f c ChoiceWord = lead_done m w f c ChoiceWord (record { course = λ x w f o. refl; lock = λ f. refl; way = λ o. refl })
row_is_done m w f c (ChoiceFlag n) = lead_done m w f c (ChoiceFlag n) (record { course = λ x w f o. refl; lock = λ f. refl; way = λ o. refl })
row_is_done m w f c (ChoiceNext n) = lead_done m w f c (ChoiceNext n) (record { course = λ x w f o. refl; lock = λ f. refl; way = λ o. refl })
row_is_done m w f c (SecondTailOf n) = lead_done m w f c (SecondTailOf n) (record { course = λ x w f o. refl; lock = λ f. refl; way = λ o. refl })
row_is_done m w f c (RunsOf n) = lead_done m w f c (RunsOf n) (record { course = λ x w f o. refl; lock = λ f. refl; way = λ o. refl })
row_is_done m w f c PvWord = lead_done m w f c PvWord (record { course = λ x w f o. refl; lock = λ f. refl; way = λ o. refl })
row_is_done m w f c (PvFlag n) = lead_done m w f c (PvFlag n) (record { course = λ x w f o. refl; lock = λ f. refl; way = λ o. refl })
row_is_done m w f c (PvNext n) = lead_done m w f c (PvNext n) (record { course = λ x w f o. refl; lock = λ f. refl; way = λ o. refl })
row_is_done m w f c (StateOf n) = lead_done m w f c (StateOf n) (record { course = λ x w f o. refl; lock = λ f. refl; way = λ o. refl })
row_is_done m w f c HashEntry = lead_done m w f c HashEntry (record { course = λ x w f o. refl; lock = λ f. refl; way = λ o. refl })
row_is_done m w f c Halted = lead_done m w f c Halted (record { course = λ x w f o. refl; lock = λ f. refl; way = λ o. refl })
row_is_done m w f c (KickOf q) = lead_done m w f c (KickOf q) (record { course = λ x w f o. refl; lock = λ f. refl; way = λ o. refl })
row_is_done m w f c RwWord = rw_done m w f c
