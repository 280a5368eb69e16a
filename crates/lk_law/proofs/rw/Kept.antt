-- The frame of a row of a reader or a writer: a world after its store, and then the frame moves and
-- its waiter's hold of the lock changes.
use Rattle.std.proofs.Common.{◌≡◌, ◌≢◌, inl, inr, ℕ, Option, Some, None, Bool, true, false, arith}
use Rattle.std.proofs.Common.{ap, refl, sym, ◌∙◌, subst, ◌==◌, is_some, ◌≤◌}
use Rattle.lk_law.proofs.Names.{cases_Bool, cases_eq, eqb-true, RwFields, Fields, NodeName}
use Rattle.lk_law.proofs.Names.{LockHistory, no_history, Event, Manner, Reads, Spins, Writes, Kind}
use Rattle.lk_law.proofs.Names.{Rw, LockName, Mode, Cna, Native, Pv, Virt, Waiter, first_place}
use Rattle.lk_law.proofs.Names.{node_of, rw_name, wait_name, Frame, Node, Pc, F1, G5, G11, U1, U2}
use Rattle.lk_law.proofs.Names.{Unlock, Stays, Step, halts, moves_aside, is_rw_row, is_slow, Phase}
use Rattle.lk_law.proofs.Names.{has_node, Idle, Releases, Seeks, phase_at, phase_if, phase_of}
use Rattle.lk_law.proofs.Names.{post_at, post_of, post_on, snapshot, agrees, Off, ChoiceFits}
use Rattle.lk_law.proofs.Names.{IsQuiet, RwAgrees, RwStep, RwPhase, is_inner, spins, IsSoundWorld}
use Rattle.lk_law.proofs.Names.{RwFits, is_rw_name, part_of, rw_helds, rw_own_phase, rw_phase_if}
use Rattle.lk_law.proofs.Names.{rw_phase_of, rw_phase_on, rw_phases, rw_waits, spin_part, Freeing}
use Rattle.lk_law.proofs.Names.{IsSoundSpinWorld, put_frame, put_held, told_on, World}
use Rattle.lk_rows.specs.Moves.{waiting}
use Rattle.lk_law.proofs.common.Begins.{turn_idle}
use Rattle.lk_law.proofs.common.BothLayers.{IsOf, told_on-else, fits_after}
use Rattle.lk_law.proofs.common.Cases.{waiter_cases, lock_cases}
use Rattle.lk_law.proofs.common.Choices.{quiet_choice, fixed_choice, unchosen}
use Rattle.lk_law.proofs.common.Puts.{if-true, if-false, not-true}
use Rattle.lk_law.proofs.common.Worlds.{ActsOn, idle_off, post_on-off, world_step, world_stays}
use Rattle.lk_law.proofs.{common.Worlds.{world_sound, world_owes}, pv.Outside.Posted}
use Rattle.lk_law.proofs.{pv.SharedLaws.law_turn_pv, rw.Else.{Put, put_held_frame}}
use Rattle.lk_law.proofs.rw.Phases.{rw_step, rws_else, rw_here}
use Rattle.lk_law.proofs.spin.Laws.{IsTurn, law_turn, turn_seeks, turn_releases}
use Rattle.lk_law.specs.{Registers.is_quiet_row, Steps.put_rw}

-- n is m but for the word of one reader-writer lock, which is x
pub record RwStored (m n : World) (i : ℕ) (x : RwFields) : Type 0 where
  pub modes : n.mode ≡ m.mode
  pub thresholds : n.threshold ≡ m.threshold
  pub formats : n.format ≡ m.format
  pub socketses : n.sockets ≡ m.sockets
  pub entries : n.entry ≡ m.entry
  pub words : n.word ≡ m.word
  pub nodes : n.node ≡ m.node
  pub frames : n.frame ≡ m.frame
  pub helds : n.held ≡ m.held
  pub queueds : n.queued ≡ m.queued
  pub kinds : n.kind ≡ m.kind
  pub turnses : n.turns ≡ m.turns
  pub halteds : n.halted ≡ m.halted
  pub kickeds : n.kicked ≡ m.kicked
  pub here : n.rw i ≡ x
  pub others : (k : ℕ) → k ≢ i → n.rw k ≡ m.rw k

pub rw_unstored : (m : World) (i : ℕ) → RwStored m m i (m.rw i)
rw_unstored m i =
    record {
      modes = refl;
      thresholds = refl;
      formats = refl;
      socketses = refl;
      entries = refl;
      words = refl;
      nodes = refl;
      frames = refl;
      helds = refl;
      queueds = refl;
      kinds = refl;
      turnses = refl;
      halteds = refl;
      kickeds = refl;
      here = refl;
      others = λ k ne. refl;
    }

pub rw_stored : (m : World) (i : ℕ) (x : RwFields) → RwStored m (put_rw m i x) i x
rw_stored m i x =
    record {
      modes = refl;
      thresholds = refl;
      formats = refl;
      socketses = refl;
      entries = refl;
      words = refl;
      nodes = refl;
      frames = refl;
      helds = refl;
      queueds = refl;
      kinds = refl;
      turnses = refl;
      halteds = refl;
      kickeds = refl;
      here = if-true (i == i) x (m.rw i) (grind arith);
      others = λ k ne. if-false (k == i) x (m.rw k) (not-true (k == i) (λ h. ne (eqb-true k i h)));
    }

-- What the frame g does for spinlocks, where its waiter has the wait lock or not: nothing, or it
-- goes to take it, or to free it.
pub record SpinSide (mode : Mode) (g : Frame) (l : LockName) (h : Bool) : Type 0 where
  pub r' : Phase
  pub now : phase_of g ≡ r'
  pub acts : ActsOn g l
  pub turn : IsTurn Idle r' h
  pub bare : has_node r' ≡ false
  pub fast : is_slow g.place ≡ false
  pub unlinked : g.place ≢ Some G5
  pub unhanded : g.place ≢ Some G11
  pub off : post_of g ≡ Off
  pub suits : agrees Off r' ≡ true
  pub choice : ChoiceFits mode g

pub side_rests : {mode : Mode} (g : Frame) (l : LockName) (h : Bool) → IsQuiet g.place
    → SpinSide mode g l h
side_rests g l h q =
    record {
      r' = Idle;
      now = q.phase (is_some g.me) (node_of g.prev) (node_of g.y);
      acts = inr (q.phase (is_some g.me) (node_of g.prev) (node_of g.y));
      turn = turn_idle h;
      bare = refl;
      fast = q.fast;
      unlinked = q.unlinked;
      unhanded = q.unhanded;
      off = idle_off g (q.phase (is_some g.me) (node_of g.prev) (node_of g.y));
      suits = refl;
      choice = quiet_choice g q.row;
    }

quiet_is : (c d : Pc) → Some c ≡ Some d → is_quiet_row c ≡ true → is_quiet_row d ≡ true
quiet_is c d e q = let same : c ≡ d = grind (arith, e) in sym (ap is_quiet_row same) ∙ q

pub side_takes : {mode : Mode} (f : Frame) (c : Pc) (h : Bool) → h ≡ false
    → SpinSide mode (waiting f c) (wait_name f.lock.index) h
side_takes f c h none =
    record {
      r' = Seeks;
      now = refl;
      acts = inl refl;
      turn = subst (IsTurn Idle Seeks) (sym none) turn_seeks;
      bare = refl;
      fast = refl;
      unlinked = λ e. grind arith;
      unhanded = λ e. grind arith;
      off = refl;
      suits = refl;
      choice = quiet_choice (waiting f c) (λ d e. quiet_is F1 d e refl);
    }

-- the row at which a wait lock is freed: where processors halt, or where none does
pub record FreesAt (mode : Mode) (c : Pc) : Type 0 where
  pub phase : (b : Bool) (prev y : NodeName) → phase_at c b prev y ≡ Releases
  pub post : (f : Frame) → post_at c f ≡ Off
  pub fast : is_slow (Some c) ≡ false
  pub unlinked : c ≢ G5
  pub unhanded : c ≢ G11
  pub spin : is_rw_row c ≡ false
  pub part : part_of c ≡ Freeing
  pub choice : (f : Frame) → f.place ≡ Some c → ChoiceFits mode f

frees_awake : (mode : Mode) → halts mode ≡ false → FreesAt mode U1
frees_awake mode awake =
    record {
      phase = λ b p y. refl;
      post = λ f. refl;
      fast = refl;
      unlinked = λ e. grind arith;
      unhanded = λ e. grind arith;
      spin = refl;
      part = refl;
      choice = λ f p. fixed_choice f U1 p refl refl (λ e. awake) (λ e. cc) (λ e. cc);
    }

pub frees_by : (mode : Mode) → FreesAt mode (first_place mode Unlock)
frees_by Virt = frees_awake Virt refl
frees_by Native = frees_awake Native refl
frees_by Cna = frees_awake Cna refl
frees_by Pv =
    record {
      phase = λ b p y. refl;
      post = λ f. refl;
      fast = refl;
      unlinked = λ e. grind arith;
      unhanded = λ e. grind arith;
      spin = refl;
      part = refl;
      choice = λ f p.
          unchosen f U2 p refl (λ e. refl) (λ e. cc) (λ e. cc) (λ e. cc) (λ e. cc) (λ e. cc)
          (λ e. cc) (λ e. cc);
    }

pub side_frees : {mode : Mode} (c : Pc) → FreesAt mode c → (f : Frame) (l : LockName) (h : Bool)
    → f.lock ≡ l → h ≡ true → SpinSide mode (record f { place = Some c }) l h
side_frees c at f l h lock has =
    record {
      r' = Releases;
      now = at.phase (is_some f.me) (node_of f.prev) (node_of f.y);
      acts = inl lock;
      turn = subst (IsTurn Idle Releases) (sym has) turn_releases;
      bare = refl;
      fast = at.fast;
      unlinked = λ e. at.unlinked (grind (arith, e));
      unhanded = λ e. at.unhanded (grind (arith, e));
      off = at.post (record f { place = Some c });
      suits = refl;
      choice = at.choice (record f { place = Some c }) refl;
    }

-- What an event of a reader-writer lock tells on leaves the part of spinlocks.
pub rw_told : (kind : ℕ → Kind) (hs : LockName → LockHistory) (i : ℕ) (e : Option Event)
    → IsOf (rw_name i) e → kind i ≡ Rw → spin_part kind (told_on hs e) ≡ spin_part kind hs
rw_told kind hs i e of k = (λ j l. each l j)
  where
    each : (l : LockName) → spin_part kind (told_on hs e) l ≡ spin_part kind hs l
    each l = by_kind (is_rw_name kind l) refl
      where
        by_kind : (b : Bool) → is_rw_name kind l ≡ b
            → spin_part kind (told_on hs e) l ≡ spin_part kind hs l
        by_kind true q = if-true (is_rw_name kind l) no_history (told_on hs e l) q
            ∙ sym (if-true (is_rw_name kind l) no_history (hs l) q)
        by_kind false q =
            let ne : l ≢ rw_name i =
            (λ s. absurd (let z = ap (is_rw_name kind) s in grind (arith, z, q, k))) in
            if-false (is_rw_name kind l) no_history (told_on hs e l) q
            ∙ told_on-else hs (rw_name i) l e of ne
            ∙ sym (if-false (is_rw_name kind l) no_history (hs l) q)

-- The frame f of w stands at a row of a reader or a writer, which does nothing for a spinlock.
pub record RwStands (m : World) (hs : LockName → LockHistory) (w : Waiter) (f : Frame)
    (c : Pc) : Type 0 where
  pub sound : IsSoundWorld m hs
  pub live : m.frame w ≡ Some f
  pub place : f.place ≡ Some c
  pub row : is_rw_row c ≡ true
  pub idle : (b : Bool) (prev y : NodeName) → phase_if (Some c) b prev y ≡ Idle
  pub fast : is_slow (Some c) ≡ false

module _ {m : World} {hs : LockName → LockHistory} {w : Waiter} {f : Frame} {c : Pc}
    (at : RwStands m hs w f c) where
  pub rw_kind : m.kind f.lock.index ≡ Rw
  rw_kind = (at.sound.fits w f at.live).rw c at.place at.row

  pub rw_ok : RwAgrees (m.rw f.lock.index) (rw_phases m f.lock.index) (rw_helds m f.lock.index)
      (rw_waits m f.lock.index) (hs (rw_name f.lock.index))
  rw_ok = at.sound.rws f.lock.index rw_kind

  pub rw_was : rw_phase_on f.lock.index (Some f) ≡ rw_own_phase c
  rw_was = rw_here f.lock.index f refl ∙ ap (λ (d : Option Pc). rw_phase_if d f.lock.wait) at.place
      ∙ if-true (is_rw_row c) (rw_own_phase c) _ at.row

  pub rw_shown : rw_phases m f.lock.index w ≡ rw_own_phase c
  rw_shown = ap (rw_phase_on f.lock.index) at.live ∙ rw_was

  pub rw_waits_here : rw_waits m f.lock.index w ≡ is_inner (rw_own_phase c)
  rw_waits_here = rw_ok.waiting.inner w ∙ ap is_inner rw_shown

-- What a row makes of a sound world: n is the world after its store of x, g the frame, r' its
-- phase, and way how its waiter holds the lock.
pub record RwGoing (m n : World) (w : Waiter) (f g : Frame) (c : Pc) (r' : RwPhase) (x : RwFields)
    (way : Option Manner) : Type 0 where
  pub stored : RwStored m n f.lock.index x
  pub lock : g.lock.index ≡ f.lock.index
  pub me : g.me ≡ f.me
  pub now : rw_phase_of g ≡ r'
  pub inner : is_inner r' ≡ is_inner (rw_own_phase c)
  pub side : SpinSide m.mode g (wait_name f.lock.index) (rw_waits m f.lock.index w)
  pub unspun : way ≢ Some Spins
  pub fits : RwFits m.kind g

abbrev pub rw_after : World → Waiter → Frame → ℕ → Option Manner → World
rw_after n w g i way = put_held (put_frame n w (Some g)) w (rw_name i) way

unspun_false : (o : Option Manner) → o ≢ Some Spins → spins o ≡ false
unspun_false None ne = refl
unspun_false (Some Spins) ne = absurd (ne refl)
unspun_false (Some Reads) ne = refl
unspun_false (Some Writes) ne = refl

module _ {m n : World} {hs : LockName → LockHistory} {w : Waiter} {f g : Frame} {c : Pc}
    {r' : RwPhase} {x : RwFields} {way : Option Manner} (at : RwStands m hs w f c)
    (go : RwGoing m n w f g c r' x way) where
  pub going_put : Put m (rw_after n w g f.lock.index way) w f g (rw_name f.lock.index) way
  going_put =
      put_held_frame m n w f g (rw_name f.lock.index) way at.live go.stored.frames go.stored.helds

  pub going_rw_step : RwStep (rw_phases m f.lock.index)
      (rw_phases (rw_after n w g f.lock.index way) f.lock.index) (rw_helds m f.lock.index)
      (rw_helds (rw_after n w g f.lock.index way) f.lock.index)
      (rw_waits m f.lock.index) (rw_waits (rw_after n w g f.lock.index way) f.lock.index) w
      (rw_own_phase c) r' (rw_helds m f.lock.index w)
      (rw_helds (rw_after n w g f.lock.index way) f.lock.index w)
  going_rw_step =
      rw_step going_put f.lock.index (rw_was at) (rw_here f.lock.index g go.lock ∙ go.now)
      (ap spins (going_put.locks (wait_name f.lock.index)
      (λ e. absurd (let z = ap (λ (l : LockName). l.wait) e in grind (arith, z))) w)
      ∙ rw_waits_here at ∙ sym go.inner)

  idle_here : phase_of f ≡ Idle
  idle_here = ap (λ (d : Option Pc). phase_if d (is_some f.me) (node_of f.prev) (node_of f.y))
      at.place ∙ at.idle (is_some f.me) (node_of f.prev) (node_of f.y)

  spins_same : (u : Waiter) (l : LockName)
      → spins ((rw_after n w g f.lock.index way).held u l) ≡ spins (m.held u l)
  spins_same u l =
      elim (waiter_cases u w) [
        | inl e ↦ elim (lock_cases l (rw_name f.lock.index)) [
          | inl q ↦
              subst (λ (v : Waiter).
              spins ((rw_after n w g f.lock.index way).held v l) ≡ spins (m.held v l)) (sym e)
              (subst (λ (k : LockName).
              spins ((rw_after n w g f.lock.index way).held w k) ≡ spins (m.held w k)) (sym q)
              (ap spins going_put.here ∙ unspun_false way go.unspun
              ∙ sym (unspun_false (m.held w (rw_name f.lock.index))
              ((rw_ok at).holds.unspun w))))
          | inr ne ↦ ap spins (going_put.locks l ne u)
        ]
        | inr ne ↦ ap spins (going_put.waiters u ne l)
      ]

  -- the spinlocks and wait locks are sound as before
  pub going_spins : IsSoundSpinWorld (rw_after n w g f.lock.index way) (spin_part m.kind hs)
  going_spins =
      let m' = rw_after n w g f.lock.index way in
      let ok = at.sound.spins in
      let l = wait_name f.lock.index in
      let fit = ok.registers w f at.live in
      let moves = going_put.frames in
      let off = idle_off f idle_here in
      let off' = go.side.off in
      let kicked : (p : ℕ) → m'.kicked p ≡ m.kicked p =
      λ p. ap (λ (h : ℕ → Bool). h p) go.stored.kickeds in
      let word : m'.word ≡ m.word = go.stored.words in
      let node : m'.node ≡ m.node = go.stored.nodes in
      let step : Step (snapshot m) (snapshot m') w l Idle go.side.r' (m.word l)
      (rw_waits m f.lock.index w) (rw_waits m f.lock.index w) =
      world_step m m' w f g moves l (inr idle_here) go.side.acts idle_here go.side.now
      (record {
        mode = go.stored.modes;
        threshold = go.stored.thresholds;
        format = go.stored.formats;
        sockets = go.stored.socketses;
        entries = λ k ne. ap (λ (h : LockName → Option NodeName). h k) go.stored.entries;
        word = ap (λ (h : LockName → Fields). h l) word;
        words = λ k ne. ap (λ (h : LockName → Fields). h k) word;
        holds = record { was = refl; now = spins_same w l; others = λ u ne. spins_same u l };
        helds = λ k ne u. spins_same u k;
      })
      (λ on k u ne h. world_owes m m' w f g moves (λ t e. grind (arith, off, e)) kicked u.cpu)
      (λ on h.
      absurd (let z = ap (post_on l) moves.now ∙ post_on-off l g off' in grind (arith, z, h))) in
      let stays : Stays (snapshot m) (snapshot m') w =
      world_stays m m' w f g moves (ap node_of go.me)
      (go.side.fast ∙ sym (ap is_slow at.place ∙ at.fast))
      (λ p. ap (λ (h : ℕ → ℕ). h p) go.stored.queueds) in
      let posted : Posted (snapshot m) (snapshot m') w l Off Off =
      record {
        was = ap (post_on l) moves.was ∙ post_on-off l f off;
        now = ap (post_on l) moves.now ∙ post_on-off l g off';
        entry = ap (λ (h : LockName → Option NodeName). h l) go.stored.entries;
        kicked = kicked;
      } in
      world_sound m m' w f g moves ok go.stored.modes go.stored.turnses
      (λ e. absurd (grind (arith, off', e)))
      (record {
        still = λ e h. absurd (grind (arith, off, e));
        halted = λ p h. inl (ap (λ (q : ℕ → Bool). q p) (sym go.stored.halteds) ∙ h);
      })
      (record {
        byte =
            λ awake k e.
            ok.plain.byte (ap halts (sym go.stored.modes) ∙ awake) k
            (ap (λ (h : LockName → Fields). (h k).locked) (sym word) ∙ e);
        flag = λ flat a b e.
            ok.plain.flag (ap moves_aside (sym go.stored.modes) ∙ flat) a b
            (ap (λ (h : NodeName → Node). (h a).flag) (sym node) ∙ e);
        runs = λ a. subst (λ (h : NodeName → Node). (h a).runs ≤ m'.threshold) (sym node)
            (subst (λ (h : ℕ). (m.node a).runs ≤ h) (sym go.stored.thresholds) (ok.plain.runs a));
      })
      (record {
        me = λ e.
            absurd (let z = ap has_node go.side.now in let b = go.side.bare in
            grind (arith, e, z, b));
        bare = λ e. go.me ∙ fit.bare (ap has_node idle_here);
        met = λ e. absurd (go.side.unlinked e);
        next = λ e. absurd (go.side.unhanded e);
        choice = go.side.choice;
      })
      (elim (cases_Bool (halts m.mode)) [
        | inl on ↦ law_turn_pv ok.agrees on step stays
            (λ k. ap (λ (h : NodeName → Node). h k) node) go.side.turn posted go.side.suits
        | inr awake ↦ law_turn ok.agrees awake step stays
            (λ k. ap (λ (h : NodeName → Node). h k) node) go.side.turn
      ])

  -- The world is sound, where the row's own lock agrees with its history told on.
  pub going_sound : (e : Option Event) → IsOf (rw_name f.lock.index) e
      → RwAgrees x (rw_phases (rw_after n w g f.lock.index way) f.lock.index)
      (rw_helds (rw_after n w g f.lock.index way) f.lock.index)
      (rw_waits (rw_after n w g f.lock.index way) f.lock.index)
      (told_on hs e (rw_name f.lock.index))
      → IsSoundWorld (rw_after n w g f.lock.index way) (told_on hs e)
  going_sound e of agrees =
      let m' = rw_after n w g f.lock.index way in
      record {
        spins = subst (λ (kind : ℕ → Kind). IsSoundSpinWorld m' (spin_part kind (told_on hs e)))
            (sym go.stored.kinds)
            (subst (IsSoundSpinWorld m') (sym (rw_told m.kind hs f.lock.index e of (rw_kind at)))
            going_spins);
        rws = λ i k. each i (ap (λ (h : ℕ → Kind). h i) (sym go.stored.kinds) ∙ k);
        fits = λ u d p.
            subst (λ (kind : ℕ → Kind). RwFits kind d) (sym go.stored.kinds)
            (fits_after going_put at.sound.fits go.fits u d p);
      }
    where
      m' : World
      m' = rw_after n w g f.lock.index way

      SnapshotAgrees : ℕ → Type 0
      SnapshotAgrees i =
          RwAgrees (m'.rw i) (rw_phases m' i) (rw_helds m' i) (rw_waits m' i)
          (told_on hs e (rw_name i))

      each : (i : ℕ) → m.kind i ≡ Rw → SnapshotAgrees i
      each i k =
          elim (cases_eq i f.lock.index) [
            | inl same ↦
                subst SnapshotAgrees (sym same)
                (subst (λ (y : RwFields).
                RwAgrees y (rw_phases m' f.lock.index) (rw_helds m' f.lock.index)
                (rw_waits m' f.lock.index) (told_on hs e (rw_name f.lock.index)))
                (sym go.stored.here) agrees)
            | inr ne ↦ rw (
              go.stored.others i ne,
              told_on-else hs (rw_name f.lock.index) (rw_name i) e of
                  (λ q. ne (ap (λ (l : LockName). l.index) q)),
            )
                (rws_else going_put i (at.sound.rws i k) (λ q. ne (sym q))
                (λ q. ne (sym (sym go.lock ∙ q)))
                (going_put.locks (rw_name i) (λ q. ne (ap (λ (l : LockName). l.index) q)) w)
                (ap spins (going_put.locks (wait_name i)
                (λ q. ne (ap (λ (l : LockName). l.index) q)) w)))
          ]
