-- A call begins: what becomes of the world for which words and seats stand.
use Rattle.std.proofs.Common.{◌≡◌, ◌≢◌, ◌⊎◌, inl, inr, ℕ, List, [], ◌∷◌, length, Option, Some, None}
use Rattle.std.proofs.Common.{Bool, true, false, eqb, eq-eqb, ne_eqb, refl, sym, ap, ◌∙◌, subst}
use Rattle.std.proofs.Common.{arith, if◌then◌else◌, ◌&&◌, not, is_some}
use Rattle.lk_domain.proofs.Names.{cases_eq, Fields, NodeName, LockHistory, same_lock, Manner}
use Rattle.lk_domain.proofs.Names.{Reads, Spins, Writes, Kind, Rw, Spin, LockName, Waiter}
use Rattle.lk_domain.proofs.Names.{first_place, node_of, kind_of, Frame, Node, Pc, Z1, Z2, Verb}
use Rattle.lk_domain.proofs.Names.{Lock, RUnlock, Read, Try, TryRead, TryWrite, Unlock, WUnlock}
use Rattle.lk_domain.proofs.Names.{Write, is_set, if-false, if-true, same_lock-else, same_lock-self}
use Rattle.lk_domain.proofs.Names.{same_lock-true, halts, may_halt, phase_at, phase_if, phase_of}
use Rattle.lk_domain.proofs.Names.{IsSoundWorld, RwFits, is_rw, is_rw_name, World, attended_stays}
use Rattle.lk_domain.proofs.Names.{IsAttended, AreHeld, Calls, Hold, MayBegin, Rests, Running}
use Rattle.lk_domain.proofs.Names.{Stacked, begin, begins_release, begun, frame_in, held_in}
use Rattle.lk_domain.proofs.Names.{holds_in, is_leaving, lock_name, moved_to, releases, running}
use Rattle.lk_domain.proofs.Names.{way_in, Mirrors, waiter}
use Rattle.lk_names.specs.Names.{same_waiter}
use Rattle.lk_rows.specs.{Machine.rest_frame, Programs.way_before}
use Rattle.lk_law.proofs.{common.Cases.lock_cases, common.Puts.same_waiter-else}
use Rattle.lk_law.proofs.{common.Sames.same_waiter-self, running.Holds.{holder_is_one, hold_moves}}
use Rattle.lk_law.proofs.running.SharedHolds.{share_moves, put_here, put_waiters, put_locks}
use Rattle.lk_law.proofs.rw.Begins.{begin_keeps, end_keeps}
use Rattle.lk_law.specs.{Holds.{hands_hold, held_by, hands_share, shared_by}, Phase.{Phase, seeks}}
use Rattle.lk_law.specs.{Phase.Phase.{Idle, Releases}, Places.phase_on, Premises.HasNoSleeper}
use Rattle.lk_law.specs.RwPhase.{RwPhase, asks, rests}
use Rattle.lk_law.specs.RwPhase.RwPhase.{Away, Asks, Biases, Inside, Joins, Announces, Frees}
use Rattle.lk_law.specs.RwPhase.RwPhase.{Unreads, Unwrites}
use Rattle.lk_law.specs.SoundWorld.{rw_phases, rw_phase_on, rw_phase_of, rw_phase_if, rw_phase_at}
use Rattle.lk_law.specs.Steps.{put_frame, put_held}
use Rattle.lk_waits.proofs.Quiet.{IsQuietRow, IsQuietFrame, first_quiet}
use Rattle.lk_domain.proofs.Manners.{held_cases, held_spun, moved-here, moved_same, way_of}
use Rattle.lk_domain.proofs.Manners.{held_once, moved_way}
use Rattle.lk_domain.proofs.Stacks.{frame_in-above, unheld, holder_of, moved-else, moved-away}

-- words and nodes, halts, kicks and the hash, and what never changes, are as before
pub record SameWords (m n : World) : Type 0 where
  pub mode : n.mode ≡ m.mode
  pub turns : n.turns ≡ m.turns
  pub threshold : n.threshold ≡ m.threshold
  pub format : n.format ≡ m.format
  pub sockets : n.sockets ≡ m.sockets
  pub kind : n.kind ≡ m.kind
  pub word : n.word ≡ m.word
  pub rw : n.rw ≡ m.rw
  pub node : n.node ≡ m.node
  pub queued : n.queued ≡ m.queued
  pub entry : n.entry ≡ m.entry
  pub halted : n.halted ≡ m.halted
  pub kicked : n.kicked ≡ m.kicked

-- the other processors' frames and holds are as before
abbrev pub Elsewhere : World → World → ℕ → Type 0
Elsewhere m n p = (u : Waiter) → u.cpu ≢ p
    → (n.frame u ≡ m.frame u) × ((l : LockName) → n.held u l ≡ m.held u l)

-- the world in which a call of p has begun
pub record Acted (m : World) (p : ℕ) (c : Calls) : Type 0 where
  pub world : World
  pub histories : LockName → LockHistory
  pub sound : IsSoundWorld world histories
  pub mirrors : Mirrors world p c
  pub same : SameWords m world
  pub others : Elsewhere m world p
  pub attended : IsAttended m → IsAttended world

pub same_at : (p d e : ℕ) → same_waiter (waiter p d) (waiter p e) ≡ eqb d e
same_at p d e = ap (λ b. b && eqb d e) (eq-eqb p p refl)

pub else_at : (u : Waiter) (p c : ℕ) → u.cpu ≢ p → same_waiter u (waiter p c) ≡ false
else_at u p c ne = ap (λ b. b && eqb u.ctx c) (ne_eqb u.cpu p ne)

if_if : {A : Type 0} (b : Bool) (x y z : A)
    → (if b then x else (if b then y else z)) ≡ (if b then x else z)
if_if true x y z = refl
if_if false x y z = refl

-- a frame without a place and without a wait lock fits any kinds
pub fits_idle : (kind : ℕ → Kind) (f : Frame) → f.place ≡ None → f.lock.wait ≡ false → RwFits kind f
fits_idle kind f none plain =
    record {
      rw = λ c h r. absurd (grind (arith, none, h));
      inner = λ c h r i. absurd (grind (arith, none, h));
      spin = λ c h r w. absurd (grind (arith, none, h));
      waits = λ h. absurd (grind (arith, plain, h));
      after = λ h. absurd (grind (arith, plain, h));
    }

-- a row that releases is the only one by which a waiter does
releases_only : (c : Pc) (b : Bool) (x y : NodeName) → may_halt c ≡ false → begins_release (Some c) ≡ false
    → phase_at c b x y ≡ Releases → ⊥
releases_only c b x y awake h e = grind (arith, awake, h, e)

-- and one that releases as a reader or the writer the only one by which a waiter does so
leaving_only : (c : Pc) (w : Bool) → (rw_phase_at c w ≡ Unreads) ⊎ (rw_phase_at c w ≡ Unwrites)
    → is_leaving (Some c) ≡ true
leaving_only c true (inl e) = grind (arith, e)
leaving_only c true (inr e) = grind (arith, e)
leaving_only c false (inl e) = grind (arith, e)
leaving_only c false (inr e) = grind (arith, e)

module _ (m : World) (hs : LockName → LockHistory) (ok : IsSoundWorld m hs)
    (p : ℕ) (c : Calls) (lone : halts m.mode ≡ true → c.frames ≡ []) (mirrors : Mirrors m p c)
    (stacked : Stacked c.frames) (are : AreHeld m.kind c.holds) where
  abbrev d : ℕ
  d = length c.frames

  topless : m.frame (waiter p d) ≡ None
  topless = mirrors.frames d ∙ frame_in-above c.frames d stacked (omega arith)

  abbrev rested : Frame
  rested = record rest_frame { ctx = d }

  -- where processors halt, this one has no frame yet, and so none that sleeps
  frameless : halts m.mode ≡ true → (u : Waiter) → u.cpu ≡ p → m.frame u ≡ None
  frameless on u e =
      subst (λ (z : ℕ). m.frame (waiter z u.ctx) ≡ None) (sym e)
      (mirrors.frames u.ctx ∙ ap (λ (xs : List Running). frame_in xs u.ctx) (lone on))

  no_sleeper : (n : World) → n.frame ≡ m.frame → n.mode ≡ m.mode → HasNoSleeper n p
  no_sleeper n frames mode on u f e live =
      absurd (none_some (sym (ap (λ (g : Waiter → Option Frame). g u) frames
      ∙ frameless (ap halts (sym mode) ∙ on) u e) ∙ live))
    where
      none_some : {f : Frame} → None ≡ Some f → ⊥
      none_some q = cc q

  -- the frame of a new call comes on top
  comes : (n : World) (gs : LockName → LockHistory) → IsSoundWorld n gs → n.frame ≡ m.frame → n.mode ≡ m.mode
      → (v : Verb) (l : ℕ) → n.frame (waiter p d) ≡ None
      → n.held (waiter p d) (lock_name l) ≡ way_before v → n.kind l ≡ kind_of v
      → IsSoundWorld (put_frame (put_frame n (waiter p d) (Some rested)) (waiter p d) (Some (begun n.mode d v l))) gs
  comes n gs sound frames mode v l none held kind =
      let w = waiter p d in
      let first = end_keeps n gs w None (Some rested) sound none tt (refl, refl) (λ _. no_sleeper n frames mode)
      (λ f e. subst (RwFits n.kind) (let q : rested ≡ f = cc e in q) (fits_idle n.kind rested refl refl)) in
      begin_keeps (put_frame n w (Some rested)) gs w rested rested (record { verb = v; lock = l }) first
      (if-true (same_waiter w w) (Some rested) (n.frame w) (same_waiter-self w)) refl held kind refl

  -- the world in which it has begun, where the holds of its processor are these
  begun_mirrors : (n : World) (v : Verb) (l : ℕ) (holds : List Hold) → n.frame ≡ m.frame
      → ((e : ℕ) (k : LockName) → n.held (waiter p e) k ≡ held_in holds e k)
      → Mirrors (put_frame (put_frame n (waiter p d) (Some rested)) (waiter p d) (Some (begun m.mode d v l))) p
      (record c { frames = running v (begun m.mode d v l) [] ∷ c.frames; holds = holds; runs = None })
  begun_mirrors n v l holds same held =
      let f : Frame = begun m.mode d v l in
      record {
        frames = λ e. if_if (same_waiter (waiter p e) (waiter p d)) (Some f) (Some rested) (n.frame (waiter p e))
            ∙ (λ i. if same_at p e d i then Some f
            else (ap (λ (fr : Waiter → Option Frame). fr (waiter p e)) same ∙ mirrors.frames e) i);
        holds = held;
      }

  begun_else : (n : World) (f : Frame) → Elsewhere m n p
      → Elsewhere m (put_frame (put_frame n (waiter p d) (Some rested)) (waiter p d) (Some f)) p
  begun_else n f others u ne = (
    if-false (same_waiter u (waiter p d)) (Some f) _ (else_at u p d ne)
        ∙ (if-false (same_waiter u (waiter p d)) (Some rested) (n.frame u) (else_at u p d ne)
        ∙ (others u ne).0),
    (others u ne).1,
  )

  -- a frame of a new call shows nothing
  begun_quiet : (v : Verb) (l : ℕ) (g : Frame) → begun m.mode d v l ≡ g → IsQuietFrame g
  begun_quiet v l g is e at =
      let same : Some (first_place m.mode v) ≡ Some e = ap (λ (x : Frame). x.place) is ∙ at in
      let row : first_place m.mode v ≡ e = (let q : Some (first_place m.mode v) ≡ Some e = same in cc q) in
      subst IsQuietRow row (first_quiet m.mode v)

  -- so those that wait are attended as before
  begun_attended : (n : World) (v : Verb) (l : ℕ) → n.frame ≡ m.frame → SameWords m n → IsAttended m
      → IsAttended (put_frame (put_frame n (waiter p d) (Some rested)) (waiter p d) (Some (begun m.mode d v l)))
  begun_attended n v l frames same =
      let w = waiter p d in
      let b = put_frame (put_frame n w (Some rested)) w (Some (begun m.mode d v l)) in
      attended_stays m b w
      (record {
        words = λ j. ap (λ (g : LockName → Fields). g j) same.word;
        others = λ u ne.
            if-false (same_waiter u w) (Some (begun m.mode d v l)) _ (same_waiter-else u w ne)
            ∙ (if-false (same_waiter u w) (Some rested) (n.frame u) (same_waiter-else u w ne)
            ∙ ap (λ (g : Waiter → Option Frame). g u) frames);
        either = inr (
          λ g e. begun_quiet v l g (some_is (sym (if-true (same_waiter w w) (Some (begun m.mode d v l)) _ (same_waiter-self w)) ∙ e)),
          λ g e. absurd (none_some (sym topless ∙ e)),
        );
      })
      same.mode
      (λ a h. ap (λ (g : NodeName → Node). is_set (g a).flag) (sym same.node) ∙ h)
      (λ q. ap (λ (g : ℕ → Bool). g q) same.kicked)
    where
      some_is : {f g : Frame} → Some f ≡ Some g → f ≡ g
      some_is e = cc e

      none_some : {f : Frame} → None ≡ Some f → ⊥
      none_some q = cc q

  -- one before which the context holds the lock so
  plainly_begins : (v : Verb) (l : ℕ) → m.kind l ≡ kind_of v
      → held_in c.holds d (lock_name l) ≡ way_before v
      → Acted m p (record c { frames = running v (begun m.mode d v l) [] ∷ c.frames; holds = c.holds; runs = None })
  plainly_begins v l kind way =
      record {
        world = put_frame (put_frame m (waiter p d) (Some rested)) (waiter p d) (Some (begun m.mode d v l));
        histories = hs;
        sound = comes m hs ok refl refl v l topless (mirrors.holds d (lock_name l) ∙ way) kind;
        mirrors = begun_mirrors m v l c.holds refl mirrors.holds;
        same = record { mode = refl; turns = refl; threshold = refl; format = refl; sockets = refl; kind = refl; word = refl; rw = refl; node = refl; queued = refl; entry = refl; halted = refl; kicked = refl };
        others = begun_else m (begun m.mode d v l) (λ u ne. (refl, λ k. refl));
        attended = begun_attended m v l refl (record { mode = refl; turns = refl; threshold = refl; format = refl; sockets = refl; kind = refl; word = refl; rw = refl; node = refl; queued = refl; entry = refl; halted = refl; kicked = refl });
      }

  taking_begins : (v : Verb) (l : ℕ) → m.kind l ≡ kind_of v → way_before v ≡ None → holds_in c.holds l ≡ false
      → Acted m p (record c { frames = running v (begun m.mode d v l) [] ∷ c.frames; holds = c.holds; runs = None })
  taking_begins v l kind way free = plainly_begins v l kind (unheld c.holds d l free ∙ sym way)

  -- the row of a frame is none of the lock that halts processors
  plain_row : (f : Frame) (pc : Pc) (u : Waiter) → u.cpu ≡ p → m.frame u ≡ Some f → f.place ≡ Some pc
      → may_halt pc ≡ false
  plain_row f pc u here live place =
      Rattle.lk_law.proofs.common.Puts.not-true (may_halt pc)
      (λ h. let on = (ok.spins.registers u f live).choice.halting pc place h in absurd (none_some (sym (frameless on u here) ∙ live)))
    where
      none_some : {f : Frame} → None ≡ Some f → ⊥
      none_some q = cc q

  -- a context of the processor that holds a lock is not at work on it
  unworked : Rests c.frames → (l : LockName) (e : ℕ) → m.held (waiter p e) l ≡ Some Spins
      → l.wait ≡ false → phase_on l (m.frame (waiter p e)) ≡ Idle
  unworked rests l e has plain =
      let u = waiter p e in
      let o = (ok.spins.agrees.locks l).hold in
      let r : Phase = phase_on l (m.frame u) in
      let no_seek : seeks r ≡ true → ⊥ = λ s. let z = o.without u s in grind (arith, z, has) in
      let calm : r ≡ Releases → ⊥ = λ q. not_released c.frames rests (mirrors.frames e) q in
      settled r no_seek calm
    where
      settled : (r : Phase) → (seeks r ≡ true → ⊥) → (r ≡ Releases → ⊥) → r ≡ Idle
      settled r a b = grind (arith, a, b)

      placed : (f : Frame) (o : Option Pc) → m.frame (waiter p e) ≡ Some f → f.place ≡ o
          → begins_release o ≡ false
          → phase_if o (is_some f.me) (node_of f.prev) (node_of f.y) ≡ Releases → ⊥
      placed f None live at h q = cc
      placed f (Some pc) live at h q =
          releases_only pc (is_some f.me) (node_of f.prev) (node_of f.y) (plain_row f pc (waiter p e) refl live at) h q

      chosen : (b : Bool) (r : Phase) → (b ≡ true → r ≡ Releases → ⊥) → (if b then r else Idle) ≡ Releases → ⊥
      chosen true r h q = h refl q
      chosen false r h q = cc

      calm_at : (b w z : Bool) → (b && not (w && not z)) ≡ false → w ≡ false → b ≡ false
      calm_at true true z h e = cc e
      calm_at true false z h e = cc h
      calm_at false w z h e = refl

      at_one : (f : Frame) → m.frame (waiter p e) ≡ Some f → releases f ≡ false
          → phase_on l (m.frame (waiter p e)) ≡ Releases → ⊥
      at_one f live h q =
          chosen (same_lock f.lock l) (phase_of f)
          (λ on. placed f f.place live refl
          (calm_at (begins_release f.place) f.lock.wait (is_leaving f.place) h (ap (λ (z : LockName). z.wait) (same_lock-true f.lock l on) ∙ plain)))
          (ap (phase_on l) (sym live) ∙ q)

      not_released : (rs : List Running) → Rests rs → m.frame (waiter p e) ≡ frame_in rs e
          → phase_on l (m.frame (waiter p e)) ≡ Releases → ⊥
      not_released [] h is q = let z : phase_on l None ≡ Releases = ap (phase_on l) (sym is) ∙ q in cc z
      not_released (x ∷ rs) h is q = elim (cases_eq e x.frame.ctx) [
        | inl same ↦ at_one x.frame (is ∙ if-true (eqb e x.frame.ctx) (Some x.frame) (frame_in rs e) (eq-eqb e x.frame.ctx same)) h.0 q
        | inr ne ↦ not_released rs h.1 (is ∙ if-false (eqb e x.frame.ctx) (Some x.frame) (frame_in rs e) (ne_eqb e x.frame.ctx ne)) q
      ]

  release_begins : Rests c.frames → (l : ℕ) → m.kind l ≡ Spin → holds_in c.holds l ≡ true
      → Acted m p (record c { frames = running Unlock (begun m.mode d Unlock l) [] ∷ c.frames; holds = moved_to d (lock_name l) c.holds; runs = None })
  release_begins rests l spin has =
      let k = lock_name l in
      let off : is_rw_name m.kind k ≡ false = ap is_rw spin in
      let from = holder_of c.holds l has in
      let u = waiter p from.0 in
      let w = waiter p d in
      let held : m.held u k ≡ Some Spins = mirrors.holds from.0 k ∙ held_spun m.kind c.holds from.0 k from.1 are off from.2 in
      let n = hands_hold m k u w in
      let sound = hold_moves m hs k u w ok refl spin held (unworked rests k from.0 held refl) (ap (phase_on k) topless) in
      let self : same_lock k k ≡ true = same_lock-self k in
      let moved : (e : ℕ) (j : LockName) → n.held (waiter p e) j ≡ held_in (moved_to d k c.holds) e j = λ e j. elim (lock_cases j k) [
        | inl q ↦ subst (λ (z : LockName). n.held (waiter p e) z ≡ held_in (moved_to d k c.holds) e z) (sym q)
            (elim (cases_eq e d) [
              | inl h ↦ subst (λ (z : ℕ). n.held (waiter p z) k ≡ held_in (moved_to d k c.holds) z k) (sym h)
                  (if-true (same_waiter w w && same_lock k k) (Some Spins) _ (λ i. same_waiter-self w i && self i)
                  ∙ sym (moved-here m.kind d l c.holds are off has))
              | inr ne ↦
                  let away : n.held (waiter p e) k ≡ (if same_waiter (waiter p e) u && same_lock k k then None else m.held (waiter p e) k) =
                  if-false (same_waiter (waiter p e) w && same_lock k k) (Some Spins) _
                  (ap (λ b. b && same_lock k k) (same_at p e d ∙ ne_eqb e d ne)) in
                  away
                  ∙ (elim (cases_eq e from.0) [
                    | inl h ↦ if-true (same_waiter (waiter p e) u && same_lock k k) None (m.held (waiter p e) k)
                        (λ i. (same_at p e from.0 ∙ eq-eqb e from.0 h) i && self i)
                    | inr other ↦ if-false (same_waiter (waiter p e) u && same_lock k k) None (m.held (waiter p e) k)
                        (ap (λ b. b && same_lock k k) (same_at p e from.0 ∙ ne_eqb e from.0 other))
                        ∙ (elim (held_cases m.kind c.holds e k are off) [
                          | inl none ↦ mirrors.holds e k ∙ none
                          | inr some ↦ absurd (other (ap (λ (x : Waiter). x.ctx)
                              (holder_is_one m _ k (waiter p e) u ok.spins (mirrors.holds e k ∙ some) held)))
                        ])
                  ] ∙ sym (moved-away d k c.holds e ne))
            ])
        | inr ne ↦
            let off : same_lock j k ≡ false = same_lock-else j k ne in
            untouched (same_waiter (waiter p e) w) (same_waiter (waiter p e) u) (same_lock j k) (m.held (waiter p e) j) off
            ∙ (mirrors.holds e j ∙ sym (moved-else d k j c.holds e ne))
      ] in
      record {
        world = put_frame (put_frame n w (Some rested)) w (Some (begun m.mode d Unlock l));
        histories = held_by hs k w;
        sound = comes n (held_by hs k w) sound refl refl Unlock l topless (moved d k ∙ moved-here m.kind d l c.holds are off has) spin;
        mirrors = begun_mirrors n Unlock l (moved_to d k c.holds) refl moved;
        same = record { mode = refl; turns = refl; threshold = refl; format = refl; sockets = refl; kind = refl; word = refl; rw = refl; node = refl; queued = refl; entry = refl; halted = refl; kicked = refl };
        others = begun_else n (begun m.mode d Unlock l)
            (λ x ne. (refl, λ j. elsewhere (same_waiter x w) (same_waiter x u) (same_lock j k) (m.held x j) (else_at x p d ne) (else_at x p from.0 ne)));
        attended = begun_attended n Unlock l refl (record { mode = refl; turns = refl; threshold = refl; format = refl; sockets = refl; kind = refl; word = refl; rw = refl; node = refl; queued = refl; entry = refl; halted = refl; kicked = refl });
      }
    where
      untouched : (a b s : Bool) (x : Option Manner) → s ≡ false
          → (if a && s then Some Spins else (if b && s then None else x)) ≡ x
      untouched true true s x e = rw e refl
      untouched true false s x e = rw e refl
      untouched false true s x e = rw e refl
      untouched false false s x e = refl

      elsewhere : (a b s : Bool) (x : Option Manner) → a ≡ false → b ≡ false
          → (if a && s then Some Spins else (if b && s then None else x)) ≡ x
      elsewhere a b s x e h = rw (e, h) refl

  -- a context of the processor that holds a reader-writer lock wants nothing more of it
  unleaving : Rests c.frames → (l e : ℕ) (way : Manner) → m.kind l ≡ Rw → m.held (waiter p e) (lock_name l) ≡ Some way
      → rests (rw_phases m l (waiter p e)) ≡ true
  unleaving calm l e way kind has =
      let u = waiter p e in
      let out = (ok.rws l kind).holds.without u in
      settled (rw_phases m l u)
      (λ s. let z : Some way ≡ None = sym has ∙ out s in cc z)
      (λ q. not_leaving c.frames calm (mirrors.frames e) (inl q)) (λ q. not_leaving c.frames calm (mirrors.frames e) (inr q))
    where
      settled : (r : RwPhase) → (asks r ≡ true → ⊥) → (r ≡ Unreads → ⊥) → (r ≡ Unwrites → ⊥) → rests r ≡ true
      settled Away a b d = refl
      settled Frees a b d = refl
      settled Unreads a b d = absurd (b refl)
      settled Unwrites a b d = absurd (d refl)
      settled Asks a b d = absurd (a refl)
      settled Biases a b d = absurd (a refl)
      settled Inside a b d = absurd (a refl)
      settled Joins a b d = absurd (a refl)
      settled Announces a b d = absurd (a refl)

      chosen : (b : Bool) (r : RwPhase)
          → ((if b then r else Away) ≡ Unreads) ⊎ ((if b then r else Away) ≡ Unwrites) → (r ≡ Unreads) ⊎ (r ≡ Unwrites)
      chosen true r h = h
      chosen false r (inl h) = cc h
      chosen false r (inr h) = cc h

      left : (q : Option Pc) (w : Bool) → (rw_phase_if q w ≡ Unreads) ⊎ (rw_phase_if q w ≡ Unwrites)
          → (begins_release q && not (w && not (is_leaving q))) ≡ false → ⊥
      left None w (inl h) f = cc h
      left None w (inr h) f = cc h
      left (Some pc) w h f = by pc (leaving_only pc w h) w f
        where
          by : (pc : Pc) → is_leaving (Some pc) ≡ true → (w : Bool)
              → (begins_release (Some pc) && not (w && not (is_leaving (Some pc)))) ≡ false → ⊥
          by Z1 h true f = cc f
          by Z1 h false f = cc f
          by Z2 h true f = cc f
          by Z2 h false f = cc f
          by _ h w f = cc h

      not_leaving : (rs : List Running) → Rests rs → m.frame (waiter p e) ≡ frame_in rs e
          → (rw_phases m l (waiter p e) ≡ Unreads) ⊎ (rw_phases m l (waiter p e) ≡ Unwrites) → ⊥
      not_leaving [] h is (inl q) = let z : Away ≡ Unreads = ap (rw_phase_on l) (sym is) ∙ q in cc z
      not_leaving [] h is (inr q) = let z : Away ≡ Unwrites = ap (rw_phase_on l) (sym is) ∙ q in cc z
      not_leaving (x ∷ rs) h is q = elim (cases_eq e x.frame.ctx) [
        | inl same ↦
            let at = is ∙ if-true (eqb e x.frame.ctx) (Some x.frame) (frame_in rs e) (eq-eqb e x.frame.ctx same) in
            left x.frame.place x.frame.lock.wait
            (chosen (eqb x.frame.lock.index l) (rw_phase_of x.frame)
            (subst (λ o. (rw_phase_on l o ≡ Unreads) ⊎ (rw_phase_on l o ≡ Unwrites)) at q)) h.0
        | inr ne ↦ not_leaving rs h.1 (is ∙ if-false (eqb e x.frame.ctx) (Some x.frame) (frame_in rs e) (ne_eqb e x.frame.ctx ne)) q
      ]

  -- a release of a reader or a writer, where another context holds the lock
  share_begins : Rests c.frames → (v : Verb) (l from : ℕ) → m.kind l ≡ kind_of v → m.kind l ≡ Rw → (way : Manner)
      → way_before v ≡ Some way → way_in c.holds l ≡ Some way → held_in c.holds from (lock_name l) ≡ Some way → from ≢ d
      → Acted m p (record c { frames = running v (begun m.mode d v l) [] ∷ c.frames; holds = moved_to d (lock_name l) c.holds; runs = None })
  share_begins calm v l from kind shared way before has held ne =
      let k = lock_name l in
      let u = waiter p from in
      let w = waiter p d in
      let has_u : m.held u k ≡ Some way = mirrors.holds from k ∙ held in
      let free : m.held w k ≡ None = mirrors.holds d k ∙ held_once m.kind c.holds l from d way are held (λ q. ne (sym q)) in
      let n = hands_share m l way u w in
      let n1 = put_held m u k None in
      let sound = share_moves m hs l way u w ok shared has_u free (unleaving calm l from way shared has_u)
      (ap (λ o. rests (rw_phase_on l o)) topless) in
      let far : (e : ℕ) → e ≢ d → waiter p e ≢ w = λ e off q. off (ap (λ (x : Waiter). x.ctx) q) in
      let moved : (e : ℕ) (j : LockName) → n.held (waiter p e) j ≡ held_in (moved_to d k c.holds) e j = λ e j. elim (lock_cases j k) [
        | inl q ↦ subst (λ (z : LockName). n.held (waiter p e) z ≡ held_in (moved_to d k c.holds) e z) (sym q)
            (elim (cases_eq e d) [
              | inl h ↦ subst (λ (z : ℕ). n.held (waiter p z) k ≡ held_in (moved_to d k c.holds) z k) (sym h)
                  (put_here n1 w k (Some way) ∙ sym (moved_way d l c.holds ∙ has))
              | inr off ↦
                  put_waiters n1 w k (Some way) (waiter p e) k (far e off)
                  ∙ (elim (cases_eq e from) [
                    | inl h ↦ subst (λ (z : ℕ). n1.held (waiter p z) k ≡ None) (sym h) (put_here m u k None)
                    | inr other ↦ put_waiters m u k None (waiter p e) k (λ q. other (ap (λ (x : Waiter). x.ctx) q))
                        ∙ (mirrors.holds e k ∙ held_once m.kind c.holds l from e way are held other)
                  ] ∙ sym (moved-away d k c.holds e off))
            ])
        | inr off ↦
            put_locks n1 w k (Some way) (waiter p e) j off
            ∙ (put_locks m u k None (waiter p e) j off ∙ (mirrors.holds e j ∙ sym (moved-else d k j c.holds e off)))
      ] in
      record {
        world = put_frame (put_frame n w (Some rested)) w (Some (begun m.mode d v l));
        histories = shared_by hs l way u w;
        sound = comes n (shared_by hs l way u w) sound refl refl v l topless (moved d k ∙ (moved_way d l c.holds ∙ (has ∙ sym before))) kind;
        mirrors = begun_mirrors n v l (moved_to d k c.holds) refl moved;
        same = record { mode = refl; turns = refl; threshold = refl; format = refl; sockets = refl; kind = refl; word = refl; rw = refl; node = refl; queued = refl; entry = refl; halted = refl; kicked = refl };
        others = begun_else n (begun m.mode d v l)
            (λ x ne. (
              refl,
              λ j. put_waiters n1 w k (Some way) x j (λ q. ne (ap (λ (z : Waiter). z.cpu) q))
                  ∙ put_waiters m u k None x j (λ q. ne (ap (λ (z : Waiter). z.cpu) q)),
            ));
        attended = begun_attended n v l refl (record { mode = refl; turns = refl; threshold = refl; format = refl; sockets = refl; kind = refl; word = refl; rw = refl; node = refl; queued = refl; entry = refl; halted = refl; kicked = refl });
      }

  -- whichever context holds it
  sharing_ends : Rests c.frames → (v : Verb) (l : ℕ) → m.kind l ≡ kind_of v → kind_of v ≡ Rw → (way : Manner)
      → way_before v ≡ Some way → way_in c.holds l ≡ Some way
      → Acted m p (record c { frames = running v (begun m.mode d v l) [] ∷ c.frames; holds = moved_to d (lock_name l) c.holds; runs = None })
  sharing_ends calm v l kind shared way before has =
      let from = way_of c.holds l way has in
      elim (cases_eq from.0 d) [
        | inl e ↦
            let held : held_in c.holds d (lock_name l) ≡ Some way = ap (λ (x : ℕ). held_in c.holds x (lock_name l)) (sym e) ∙ from.1 in
            subst (λ (gs : List Hold). Acted m p (record c { frames = running v (begun m.mode d v l) [] ∷ c.frames; holds = gs; runs = None }))
            (sym (moved_same m.kind d l way c.holds are held)) (plainly_begins v l kind (held ∙ sym before))
        | inr ne ↦ share_begins calm v l from.0 kind (kind ∙ shared) way before has from.1 ne
      ]

  -- a call begins
  pub begins : Rests c.frames → (v : Verb) (l : ℕ) → MayBegin c v l → m.kind l ≡ kind_of v
      → Acted m p (begin m.mode c v l)
  begins rests Lock l may kind = taking_begins Lock l kind refl may.0
  begins rests Try l may kind = taking_begins Try l kind refl may.0
  begins rests Unlock l may kind = release_begins rests l kind may
  begins rests Read l may kind = taking_begins Read l kind refl may.0
  begins rests TryRead l may kind = taking_begins TryRead l kind refl may.0
  begins rests RUnlock l may kind = sharing_ends rests RUnlock l kind refl Reads refl may
  begins rests Write l may kind = taking_begins Write l kind refl may.0
  begins rests TryWrite l may kind = taking_begins TryWrite l kind refl may.0
  begins rests WUnlock l may kind = sharing_ends rests WUnlock l kind refl Writes refl may
