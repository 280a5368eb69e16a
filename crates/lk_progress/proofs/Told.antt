-- Which row an event tells of.
use Rattle.std.proofs.Common.{◌≡◌, ◌≢◌, ◌⊎◌, inl, inr, ℕ, ◌<◌, Option, Some, None, Bool, true}
use Rattle.std.proofs.Common.{false, refl, sym, ap, ◌∙◌, subst, length, if◌then◌else◌, is_some}
use Rattle.lk_progress.proofs.Names.{RwFields, Fields, NodeName, LockHistory, Act, Event, How, What}
use Rattle.lk_progress.proofs.Names.{Flush, Int, Leave, Miss, Pass, Promote, Take, LockName, Waiter}
use Rattle.lk_progress.proofs.Names.{next, processor_of, Machine, top_frame, top_of, word_at}
use Rattle.lk_progress.proofs.Names.{node_of, Answer, Done, Effect, Says, looks, row, target, Flag}
use Rattle.lk_progress.proofs.Names.{Frame, Pc, C1, C2, C3, C4, C5, C6, C7, C8, C9, C10, F1, G1, G2}
use Rattle.lk_progress.proofs.Names.{G3, G4, G5, G6, G7, G8, G9, G10, G11, N1, N2, P0, P1, P2, P3}
use Rattle.lk_progress.proofs.Names.{P4, R1, R2, R3, R4, R5, T1, T2, U1, V1, V2, Wr1, Wr2, Wr3, Wr4}
use Rattle.lk_progress.proofs.Names.{Wr5, Wr6, Y1, Y2, Y3, Y4, Y5, Z1, Z2, Sight, is_last, may_stay}
use Rattle.lk_progress.proofs.Names.{search_first, search_on, after_flag, is_sole, takes_out}
use Rattle.lk_progress.proofs.Names.{admits, frees_wait, is_cleared, is_empty, is_open, after_fast}
use Rattle.lk_progress.proofs.Names.{is_free, not-true, halts, may_halt, course_in, ShowsAll, world}
use Rattle.lk_progress.proofs.Names.{row_in, sight_in, World, top_live}
use Rattle.lk_rows.specs.{Machine.frame_at, Moves.waiter_of}
use Rattle.lk_rows.specs.Row.{Tell, Nothing, Passes, event_of, writes, misses}
use Rattle.lk_rows.specs.rows.Rw.{after_bias, takes_written, queues_up, one_more, rw_lock}
use Rattle.lk_rows.specs.rows.Spin.{takes}
use Rattle.lk_law.proofs.running.Leads.{row_is_led}
use Rattle.lk_law.specs.Steps.{Made}
use Rattle.lk_progress.proofs.{Acted.{Acted, Makes, Idles, Comes, acted}, Rows.row_tells}
use Rattle.lk_names.specs.declared.events.How.TheVariants as how
use Rattle.lk_names.specs.declared.events.RwHow.TheVariants as rw_how
use Rattle.lk_rows.specs.declared.parts.Flag.TheVariants as flag

-- What a row may say. A take is of the lock of its frame, and finds the word free, or is that of the waiter
-- which has set pending, or of the head; and the exchange that empties the queue is G8's. The secondary
-- queue returns at C9 and C10; and nobody leaves the queue alone.
abbrev pub SaysSo : Fields → Frame → Pc → What → Type 0
SaysSo x f c (Take k way) =
    (k ≡ f.lock) × (way ≡ how.Sole → c ≡ G8) × ((is_free x ≡ true) ⊎ (c ≡ P4) ⊎ (c ≡ G8) ⊎ (c ≡ G9))
SaysSo x f c (Flush k) = (k ≡ f.lock) × (c ≡ C9)
SaysSo x f c (Promote k) = (k ≡ f.lock) × (c ≡ C10)
SaysSo x f c (Leave k) = ⊥
SaysSo x f c (Pass k to n) = ⊥
SaysSo x f c _ = Unit {0}

-- and to whom it hands off
abbrev pub TellsSo : Fields → Frame → Pc → Tell → Type 0
TellsSo x f c (Says what) = SaysSo x f c what
TellsSo x f c (Passes n k) = ((c ≡ C8) × (k ≡ f.k)) ⊎ ((c ≡ G11) × (k ≡ 0))
TellsSo x f c Nothing = Unit {0}

either_so : {A : Type 0} (z : Fields) (f : Frame) (c : Pc) (b : Bool) (x y : Effect A) → TellsSo z f c x.tells
    → TellsSo z f c y.tells → TellsSo z f c (if b then x else y).tells
either_so z f c true x y p q = p
either_so z f c false x y p q = q

-- a row that takes the lock where the word is free
if_free : (z : Fields) (f : Frame) (c : Pc) (way : How) (x y : Effect Fields) → x.tells ≡ Says (Take f.lock way)
    → (way ≡ how.Sole → c ≡ G8) → TellsSo z f c y.tells → TellsSo z f c (if is_free z then x else y).tells
if_free z f c way x y is sole q = by (is_free z) refl
  where
    by : (b : Bool) → is_free z ≡ b → TellsSo z f c (if b then x else y).tells
    by true e = subst (TellsSo z f c) (sym is) (refl, sole, inl e)
    by false e = q

flag_so : (z : Fields) (f : Frame) (x : Flag) → TellsSo z f G6 (after_flag x).tells
flag_so z f flag.Unset = tt
flag_so z f flag.Go = tt
flag_so z f (flag.Second n) = tt

first_so : (z : Fields) (f : Frame) (s : Sight) (o x : Option NodeName) → TellsSo z f C1 (search_first s o x).tells
first_so z f s None None = tt
first_so z f s (Some m) None = tt
first_so z f s o (Some n) =
    either_so z f C1 (may_stay s) _ _ (either_so z f C1 (s.local n) _ _ tt tt) (either_so z f C1 (is_some o) _ _ tt tt)

on_so : (z : Fields) (f : Frame) (s : Sight) (x : Option NodeName) → TellsSo z f C2 (search_on s f x).tells
on_so z f s None = either_so z f C2 (is_some f.second) _ _ tt tt
on_so z f s (Some n) = either_so z f C2 (s.local n) _ _ (either_so z f C2 (is_some f.second) _ _ tt tt) tt

module _ (m : World) (w : Waiter) (f : Frame) where
  abbrev x : Fields
  x = m.word f.lock

  abbrev y : RwFields
  y = m.rw f.lock.index

  pub tells_so : (c : Pc) → may_halt c ≡ false → TellsSo x f c (row_in m w f c).1
  tells_so F1 a = if_free x f F1 how.Fast (takes f how.Fast) (looks (after_fast m.mode x)) refl (λ e. cc e) tt
  tells_so T1 a = either_so x f T1 (is_free x) (looks T2) (misses (Miss f.lock)) tt tt
  tells_so T2 a = if_free x f T2 how.Try (takes f how.Try) (misses (Miss f.lock)) refl (λ e. cc e) tt
  tells_so U1 a = tt
  tells_so V1 a = tt
  tells_so V2 a = if_free x f V2 how.Virt (takes f how.Virt) (looks V1) refl (λ e. cc e) tt
  tells_so P0 a = tt
  tells_so P1 a = tt
  tells_so P2 a = tt
  tells_so P3 a = tt
  tells_so P4 a = (refl, λ e. cc e, inr (inl refl))
  tells_so G1 a = tt
  tells_so G2 a = tt
  tells_so G3 a = if_free x f G3 how.Retry (takes_out f how.Retry) (looks G4) refl (λ e. cc e) tt
  tells_so G4 a = tt
  tells_so G5 a = tt
  tells_so G6 a = flag_so x f (m.node (node_of f.me)).flag
  tells_so G7 a = tt
  tells_so G8 a = either_so x f G8 (is_sole f x) (takes_out f how.Sole) (looks G9) (refl, λ e. refl, inr (inr (inl refl))) tt
  tells_so G9 a = (refl, λ e. cc e, inr (inr (inr refl)))
  tells_so G10 a = tt
  tells_so G11 a = inr (refl, refl)
  tells_so N1 a = tt
  tells_so N2 a = if_free x f N2 how.NoNode (takes_out f how.NoNode) (looks N1) refl (λ e. cc e) tt
  tells_so C1 a = first_so x f (sight_in m w f) f.second (m.node (node_of f.me)).next
  tells_so C2 a = on_so x f (sight_in m w f) (m.node (node_of f.b)).next
  tells_so C3 a = tt
  tells_so C4 a = tt
  tells_so C5 a = tt
  tells_so C6 a = tt
  tells_so C7 a = tt
  tells_so C8 a = inl (refl, refl)
  tells_so C9 a = (refl, refl)
  tells_so C10 a = either_so x f C10 (is_last f x) _ (looks C1) (refl, refl) tt
  tells_so R1 a = either_so x f R1 (is_open y) (admits f (Some (one_more y)) rw_how.Fast Done) (writes (one_more y) (after_bias f)) tt tt
  tells_so R2 a = either_so x f R2 y.writer (looks R2) (admits f None rw_how.Irq Done) tt tt
  tells_so R3 a = tt
  tells_so R4 a = tt
  tells_so R5 a = either_so x f R5 y.writer (looks R5) (admits f None rw_how.Queued (frees_wait m.mode)) tt tt
  tells_so Wr1 a = either_so x f Wr1 (is_empty y) (takes_written f rw_how.Fast Done) (queues_up None Wr2) tt tt
  tells_so Wr2 a = tt
  tells_so Wr3 a = either_so x f Wr3 (is_empty y) (takes_written f rw_how.Queued (frees_wait m.mode)) (looks Wr4) tt tt
  tells_so Wr4 a = tt
  tells_so Wr5 a = tt
  tells_so Wr6 a = either_so x f Wr6 (is_cleared y) (takes_written f rw_how.Queued (frees_wait m.mode)) (looks Wr5) tt tt
  tells_so Y1 a = either_so x f Y1 (is_open y) (looks Y2) (misses (Miss (rw_lock f))) tt tt
  tells_so Y2 a = either_so x f Y2 (is_open y) (admits f (Some (one_more y)) rw_how.Try Done) (writes (one_more y) Y3) tt tt
  tells_so Y3 a = tt
  tells_so Y4 a = either_so x f Y4 (is_empty y) (looks Y5) (misses (Miss (rw_lock f))) tt tt
  tells_so Y5 a = either_so x f Y5 (is_empty y) (takes_written f rw_how.Try Done) (misses (Miss (rw_lock f))) tt tt
  tells_so Z1 a = tt
  tells_so Z2 a = tt
  tells_so _ a = cc a

-- The event is that of the row of a newest frame.
pub record ToldRow (m : Machine) (a : Act) (e : Event) : Type 0 where
  pub cpu : ℕ
  pub range : cpu < length m.cpus
  pub is : next m a ≡ row m cpu
  pub place : Pc
  pub at : (top_frame m cpu).place ≡ Some place
  pub live : frame_at m (top_of m cpu) ≡ Some (top_frame m cpu)
  pub tell : Tell
  pub tells : event_of m cpu (top_frame m cpu) tell ≡ Some e
  pub row : (row_in (world m) (top_of m cpu) (top_frame m cpu) place).1 ≡ tell
  pub so : TellsSo (word_at m (top_frame m cpu).lock) (top_frame m cpu) place tell
  pub by : e.by ≡ top_of m cpu

event_by : (m : Machine) (p : ℕ) (f : Frame) (t : Tell) (e : Event) → event_of m p f t ≡ Some e
    → e.by ≡ record { cpu = p; ctx = f.ctx }
event_by m p f Nothing e q = absurd (cc q)
event_by m p f (Says what) e q = (let z : record { by = record { cpu = p; ctx = f.ctx }; what = what } ≡ e = cc q in ap (λ (v : Event). v.by) (sym z))
event_by m p f (Passes n k) e q =
    (let z : record { by = record { cpu = p; ctx = f.ctx }; what = Pass f.lock (waiter_of m n) k } ≡ e = cc q in
    ap (λ (v : Event). v.by) (sym z))

module _ (m : Machine) (hs : LockName → LockHistory) (shows : ShowsAll m hs) (awake : halts m.setup.mode ≡ false)
    (a : Act) (range : processor_of a < length m.cpus) (e : Event) (told : (next m a).1 ≡ Some e) where
  pub told_row : (e.what ≡ Int → ⊥) → ToldRow m a e
  told_row never = by (acted m hs shows awake a range)
    where
      by : Acted m (next m a) → ToldRow m a e
      by (Idles same none) = absurd (let z : None ≡ Some e = sym none ∙ told in cc z)
      by (Comes v mode h absent settles others says) =
          absurd (let z : Some (record { by = v; what = Int }) ≡ Some e = sym says ∙ told in
          let y : record { by = v; what = Int } ≡ e = cc z in never (ap (λ (x : Event). x.what) (sym y)))
      by (Makes p c inside at is) =
          record {
            cpu = p;
            range = inside;
            is = is;
            place = c;
            at = at;
            live = live;
            tell = (row_in (world m) (top_of m p) (top_frame m p) c).1;
            tells = says;
            row = refl;
            so = tells_so (world m) (top_of m p) (top_frame m p) c
                (not-true (may_halt c)
                (λ q. let z = (shows.world.spins.registers (top_of m p) (top_frame m p) live).choice.halting c at q in cc (z, awake)));
            by = event_by m p (top_frame m p) (row_in (world m) (top_of m p) (top_frame m p) c).1 e says
                ∙ (λ i. record { cpu = p; ctx = (shows.fits (top_of m p) (top_frame m p) live).ctx i });
          }
        where
          live : frame_at m (top_of m p) ≡ Some (top_frame m p)
          live = top_live m p hs shows inside

          led : (course_in (world m) (top_of m p) (top_frame m p) c (target c (top_frame m p))).tells
              ≡ (row_in (world m) (top_of m p) (top_frame m p) c).1
          led = ap (λ (x : Made). x.1) (sym (row_is_led (world m) (top_of m p) (top_frame m p) c (target c (top_frame m p))))

          says : event_of m p (top_frame m p) (row_in (world m) (top_of m p) (top_frame m p) c).1 ≡ Some e
          says =
              ap (event_of m p (top_frame m p)) (sym led)
              ∙ sym (row_tells m p hs shows inside (top_frame m p) c live at)
              ∙ ap (λ (x : Answer). x.1) (sym is) ∙ told

pub tell_is : (m : Machine) (p : ℕ) (f : Frame) (t : Tell) (e : Event) (what : What) → event_of m p f t ≡ Some e → e.what ≡ what
    → ((k : LockName) (v : Waiter) (i : ℕ) → what ≢ Pass k v i) → t ≡ Says what
tell_is m p f Nothing e what q is never = absurd (cc q)
tell_is m p f (Says said) e what q is never =
    (let z : record { by = record { cpu = p; ctx = f.ctx }; what = said } ≡ e = cc q in
    ap (λ (x : What). Says x) (ap (λ (v : Event). v.what) z ∙ is))
tell_is m p f (Passes n k) e what q is never =
    absurd (let z : record { by = record { cpu = p; ctx = f.ctx }; what = Pass f.lock (waiter_of m n) k } ≡ e = cc q in
    never f.lock (waiter_of m n) k (sym (ap (λ (v : Event). v.what) z ∙ is)))

-- what such an event says is so
pub told_says : (m : Machine) (a : Act) (e : Event) (r : ToldRow m a e) (what : What) → e.what ≡ what
    → ((k : LockName) (v : Waiter) (i : ℕ) → what ≢ Pass k v i)
    → SaysSo (word_at m (top_frame m r.cpu).lock) (top_frame m r.cpu) r.place what
told_says m a e r what is never =
    subst (TellsSo (word_at m (top_frame m r.cpu).lock) (top_frame m r.cpu) r.place)
    (tell_is m r.cpu (top_frame m r.cpu) r.tell e what r.tells is never) r.so

-- and by whom it hands off, and how many are moved
pub record HandsSo (l : LockName) (f : Frame) (c : Pc) (i : ℕ) : Type 0 where
  pub lock : f.lock ≡ l
  pub row : ((c ≡ C8) × (i ≡ f.k)) ⊎ ((c ≡ G11) × (i ≡ 0))

pub told_hands : (m : Machine) (a : Act) (e : Event) (r : ToldRow m a e) (l : LockName) (v : Waiter) (i : ℕ)
    → e.what ≡ Pass l v i → HandsSo l (top_frame m r.cpu) r.place i
told_hands m a e r l v i is = by (top_frame m r.cpu) r.tell r.tells r.so
  where
    by : (f : Frame) (t : Tell) → event_of m r.cpu f t ≡ Some e → TellsSo (word_at m f.lock) f r.place t → HandsSo l f r.place i
    by f Nothing q so = absurd (cc q)
    by f (Says said) q so =
        (let z : record { by = record { cpu = r.cpu; ctx = f.ctx }; what = said } ≡ e = cc q in
        absurd (subst (SaysSo (word_at m f.lock) f r.place) (ap (λ (x : Event). x.what) z ∙ is) so))
    by f (Passes n k) q so =
        let z : record { by = record { cpu = r.cpu; ctx = f.ctx }; what = Pass f.lock (waiter_of m n) k } ≡ e = cc q in
        let y : Pass f.lock (waiter_of m n) k ≡ Pass l v i = ap (λ (x : Event). x.what) z ∙ is in
        let lock : f.lock ≡ l = cc y in
        let count : k ≡ i = cc y in
        record {
          lock = lock;
          row = elim so [ inl x ↦ inl (x.0, sym count ∙ x.1) | inr x ↦ inr (x.0, sym count ∙ x.1) ];
        }
