-- How a processor stands after a call, where waiters run.
use Rattle.std.proofs.Common.{◌≡◌, ◌≢◌, ℕ, ◌+◌, ◌<◌, List, [], ◌∷◌, ◌++◌, length, replicate, set}
use Rattle.std.proofs.Common.{Bool, true, false, refl, sym, ap, ◌∙◌, subst, eqb, arith}
use Rattle.std.proofs.Common.{if◌then◌else◌, ◌&&◌, ◌||◌, not, None, Some, Option, slice_index_or}
use Rattle.std.proofs.lemmas.List.{get_or_push, get_or_append_left, length-append, length-replicate}
use Rattle.std.proofs.lemmas.List.{length-set, get_or-set_same, get_or-set_other}
use Rattle.std.specs.Bool.{beq}
use Rattle.lk_port.proofs.Names.{true≢false, Spins, Kind, Rw, Spin, Lock, kind_at, locks_of}
use Rattle.lk_port.proofs.Names.{calls_of, ledger_of, Gains, Cpu, Domain, CameIn, Holds, domain_of}
use Rattle.lk_port.proofs.Names.{may_halt, Stands, StandsRunning, Pending, Port, Share}
use Rattle.lk_names.specs.{Names.same_lock, declared.holder.Manner.Manner}
use Rattle.lk_names.specs.declared.names.LockName.{LockName}
use Rattle.lk_rows.specs.{declared.parts.Pc.Pc, declared.setup.Verb.Verb}
use Rattle.lk_law.proofs.common.Sames.{same_lock-self, same_lock-true}
use Rattle.lk_domain.proofs.{Outs.{moved_hold, freed_hold}, seats.Exclusive.hold_way}
use Rattle.lk_domain.specs.Calls.{Mark, Running, Hold, Calls, Takes, Frees, hold, hold_in, holds_in}
use Rattle.lk_domain.specs.Calls.{way_in, waits_in, lock_name, free_of, moved_to}
use Rattle.lk_domain.specs.{Ledgers.{Ledger, turned, opened, closed, is_first}, Paths.HasLooked}
use Rattle.lk_domain.specs.{Seats.{AreDealt, IsDealt}, Values.out_in}
use Rattle.lk_domain.specs.{Waits.{MayTake, Misses, Drops}, declared.domain.LockId.LockId}
use Rattle.lk_domain.specs.declared.plan.Plan.{Plan}
use Rattle.lk_run.specs.{Entering.Leaves, Phases.Start}
use Rattle.lk_port.proofs.Shares.{runs_by}
use Rattle.lk_port.specs.{Asking.Refuses, Ports.{IsPending, has_halted}}
use Rattle.lk_port.specs.Standing.{are_home, way_of, AreNoted, IsIdle, IsLast, IsReady}
use Rattle.lk_port.specs.{declared.answer.Answer.Answer, declared.last.TheConstants.NONE}
use Rattle.lk_port.specs.declared.pending.Pending.TheVariants.{Free}

-- a look that begins or ends leaves the journal where it is

turned_out : (g : Ledger) (n : LockName) (m : Manner) (t : List Mark) → (turned g n (Takes m) t).out ≡ g.out
turned_out g n m t = pick (is_first n)
  where
    pick : (b : Bool) → (if b then opened g m t else g).out ≡ g.out
    pick true = refl
    pick false = refl

closed_out : (g : Ledger) (n : LockName) (t : List Mark) → (turned g n Frees t).out ≡ g.out
closed_out g n t = pick (is_first n)
  where
    pick : (b : Bool) → (if b then closed g else g).out ≡ g.out
    pick true = refl
    pick false = refl

-- no value is out

pub and_left : (a b : Bool) → (a && b) ≡ true → a ≡ true
and_left true b e = refl
and_left false b e = e

pub and_right : (a b : Bool) → (a && b) ≡ true → b ≡ true
and_right true b e = e
and_right false b e = let z : false ≡ true = e in absurd (cc z)

pub none_out : (hs : List Hold) (l : ℕ) → are_home hs ≡ true → out_in hs l ≡ false
none_out [] l e = refl
none_out (h ∷ hs) l e = first h.out (same_lock h.lock (lock_name l)) (and_left (not h.out) (are_home hs) e) ∙ none_out hs l (and_right (not h.out) (are_home hs) e)
  where
    first : (b c : Bool) → not b ≡ true → ((c && b) || out_in hs l) ≡ out_in hs l
    first true c z = let y : false ≡ true = z in absurd (cc y)
    first false true z = refl
    first false false z = refl

moved_home : (c : ℕ) (n : LockName) (hs : List Hold) → are_home (moved_to c n hs) ≡ are_home hs
moved_home c n [] = refl
moved_home c n (h ∷ hs) = pick (same_lock h.lock n) ∙ ap (λ b. not h.out && b) (moved_home c n hs)
  where
    pick : (b : Bool) → (not (if b then record h { ctx = c } else h).out && are_home (moved_to c n hs)) ≡ (not h.out && are_home (moved_to c n hs))
    pick true = refl
    pick false = refl

free_home : (b : Bool) (h : Hold) (freed : List Hold) → not h.out ≡ true → are_home freed ≡ true → are_home (if b then freed else h ∷ freed) ≡ true
free_home true h freed e rest = rest
free_home false h freed e rest = ap (λ b. not h.out && b) rest ∙ ap (λ b. b && true) e

freed_home : (c : ℕ) (n : LockName) (hs : List Hold) → are_home hs ≡ true → are_home (free_of c n hs) ≡ true
freed_home c n [] e = refl
freed_home c n (h ∷ hs) e =
    free_home ((eqb h.ctx c) && same_lock h.lock n) h (free_of c n hs) (and_left (not h.out) (are_home hs) e)
    (freed_home c n hs (and_right (not h.out) (are_home hs) e))

-- how a lock is held

pub hold_held : (hs : List Hold) (l : ℕ) (x : Manner × Bool) → hold_in hs l ≡ Some x → holds_in hs l ≡ true
hold_held [] l x e = absurd (let z : ⊥ = cc e in z)
hold_held (h ∷ hs) l x e = by (same_lock h.lock (lock_name l)) e (hold_held hs l x)
  where
    by : (b : Bool) → (if b then Some (h.manner, h.out) else hold_in hs l) ≡ Some x
        → (hold_in hs l ≡ Some x → holds_in hs l ≡ true) → (if b then true else holds_in hs l) ≡ true
    by true e r = refl
    by false e r = r e

pub held_hold : (hs : List Hold) (l : ℕ) → holds_in hs l ≡ true → (x : Manner × Bool) × (hold_in hs l ≡ Some x)
held_hold [] l e = absurd (let z : ⊥ = cc e in z)
held_hold (h ∷ hs) l e = by (same_lock h.lock (lock_name l)) e (held_hold hs l)
  where
    by : (b : Bool) → (if b then true else holds_in hs l) ≡ true
        → (holds_in hs l ≡ true → (x : Manner × Bool) × (hold_in hs l ≡ Some x))
        → (x : Manner × Bool) × ((if b then Some (h.manner, h.out) else hold_in hs l) ≡ Some x)
    by true e r = ((h.manner, h.out), refl)
    by false e r = r e

-- the port notes a lock that is taken, and the others as it did
pub record Notes (k : Plan) (l : ℕ) (m : Manner) (ws vs : List Bool) : Type 0 where
  pub long : length vs ≡ locks_of k
  pub is : m ≡ way_of (kind_at k l) (slice_index_or vs l false)
  pub far : (i : ℕ) → i ≢ l → slice_index_or vs i false ≡ slice_index_or ws i false

-- a spinlock needs no note
pub notes_spin : (k : Plan) (l : ℕ) (ws : List Bool) → length ws ≡ locks_of k → kind_at k l ≡ Spin → Notes k l Spins ws ws
notes_spin k l ws long is =
    record { long = long; is = sym (ap (λ (x : Kind). way_of x (slice_index_or ws l false)) is); far = λ i ne. refl }

-- a reader-writer lock one
pub notes_rw : (k : Plan) (l : ℕ) (b : Bool) (ws : List Bool) → length ws ≡ locks_of k → l < locks_of k → kind_at k l ≡ Rw
    → Notes k l (way_of Rw b) ws (set ws l b)
notes_rw k l b ws long low is =
    record {
      long = length-set ws l b ∙ long;
      is = ap (λ (y : Bool). way_of Rw y) (sym (get_or-set_same ws l b false (omega (arith, long, low))))
          ∙ sym (ap (λ (x : Kind). way_of x (slice_index_or (set ws l b) l false)) is);
      far = λ i ne. get_or-set_other ws l i b false ne;
    }

pub apart : (l i : ℕ) → same_lock (lock_name l) (lock_name i) ≡ false → i ≢ l
apart l i e is =
    let y : same_lock (lock_name l) (lock_name i) ≡ true = ap (λ (j : ℕ). same_lock (lock_name l) (lock_name j)) is ∙ same_lock-self (lock_name l) in
    let z : true ≡ false = sym y ∙ e in
    absurd (cc z)

noted_more : (k : Plan) (ws vs : List Bool) (c l n : ℕ) (m : Manner) (hs : List Hold) → AreNoted k ws hs → Notes k l m ws vs
    → AreNoted k vs (hold c (lock_name l) m n ∷ hs)
noted_more k ws vs c l n m hs was notes =
    record { long = notes.long; each = λ i x e. by i x (same_lock (lock_name l) (lock_name i)) refl e }
  where
    by : (i : ℕ) (x : Manner × Bool) (b : Bool) → same_lock (lock_name l) (lock_name i) ≡ b
        → (if b then Some (m, false) else hold_in hs i) ≡ Some x → x.0 ≡ way_of (kind_at k i) (slice_index_or vs i false)
    by i x true same e =
        let is : l ≡ i = ap (λ (y : LockName). y.index) (same_lock-true (lock_name l) (lock_name i) same) in
        let at : (m, false) ≡ x = cc e in
        sym (ap (λ (y : Manner × Bool). y.0) at)
        ∙ (notes.is ∙ ap (λ (j : ℕ). way_of (kind_at k j) (slice_index_or vs j false)) is)
    by i x false same e =
        was.each i x e ∙ ap (λ (y : Bool). way_of (kind_at k i) y) (sym (notes.far i (apart l i same)))

noted_less : (k : Plan) (ws : List Bool) (c l : ℕ) (hs new : List Hold) → AreNoted k ws hs
    → new ≡ free_of c (lock_name l) (moved_to c (lock_name l) hs) → holds_in new l ≡ false → AreNoted k ws new
noted_less k ws c l hs new was is none =
    record { long = was.long; each = λ i x e. by i x (same_lock (lock_name l) (lock_name i)) refl e }
  where
    by : (i : ℕ) (x : Manner × Bool) (b : Bool) → same_lock (lock_name l) (lock_name i) ≡ b → hold_in new i ≡ Some x
        → x.0 ≡ way_of (kind_at k i) (slice_index_or ws i false)
    by i x true same e =
        let at : l ≡ i = ap (λ (y : LockName). y.index) (same_lock-true (lock_name l) (lock_name i) same) in
        let z : false ≡ true = sym none ∙ (ap (λ (j : ℕ). holds_in new j) at ∙ hold_held new i x e) in
        absurd (cc z)
    by i x false same e =
        was.each i x
        (sym (ap (λ (ys : List Hold). hold_in ys i) is
        ∙ (freed_hold c (lock_name l) (moved_to c (lock_name l) hs) i same ∙ moved_hold c (lock_name l) hs i)) ∙ e)

-- it has taken a lock, missed it, and freed it

pub took : (k : Plan) (ws vs : List Bool) (l n : ℕ) (m : Manner) (a b : Calls) (g h : Ledger) → IsIdle k ws a g
    → b.frames ≡ a.frames → h.out ≡ g.out → b.holds ≡ hold (length a.frames) (lock_name l) m n ∷ a.holds
    → Notes k l m ws vs → IsIdle k vs b h
took k ws vs l n m a b g h was frames out holds notes =
    record {
      frames = frames ∙ was.frames;
      out = out ∙ was.out;
      home = ap are_home holds ∙ was.home;
      noted = subst (AreNoted k vs) (sym holds) (noted_more k ws vs (length a.frames) l n m a.holds was.noted notes);
    }

pub kept : (k : Plan) (ws : List Bool) (a b : Calls) (g h : Ledger) → IsIdle k ws a g
    → b.frames ≡ a.frames → h.out ≡ g.out → b.holds ≡ a.holds → IsIdle k ws b h
kept k ws a b g h was frames out holds =
    record {
      frames = frames ∙ was.frames;
      out = out ∙ was.out;
      home = ap are_home holds ∙ was.home;
      noted = subst (AreNoted k ws) (sym holds) was.noted;
    }

pub gave : (k : Plan) (ws : List Bool) (l : ℕ) (a b : Calls) (g h : Ledger) → IsIdle k ws a g
    → b.frames ≡ a.frames → h.out ≡ g.out
    → b.holds ≡ free_of (length a.frames) (lock_name l) (moved_to (length a.frames) (lock_name l) a.holds)
    → holds_in b.holds l ≡ false → IsIdle k ws b h
gave k ws l a b g h was frames out holds none =
    let c = length a.frames in
    record {
      frames = frames ∙ was.frames;
      out = out ∙ was.out;
      home = ap are_home holds
          ∙ freed_home c (lock_name l) (moved_to c (lock_name l) a.holds) (moved_home c (lock_name l) a.holds ∙ was.home);
      noted = noted_less k ws c l a.holds b.holds was.noted holds none;
    }

module _ (d : Domain) (l : ℕ) (a b : Cpu) where
  pub gained : (v : Verb) (m : Manner) (ws vs : List Bool) → IsIdle d.plan ws (calls_of a) (ledger_of a)
      → Gains d v l m (calls_of a) a b → Notes d.plan l m ws vs → IsIdle d.plan vs (calls_of b) (ledger_of b)
  gained v m ws vs was gain notes =
      took d.plan ws vs l (calls_of b).taken m (calls_of a) (calls_of b) (ledger_of a) (ledger_of b) was gain.taken.frames
      (ap (λ (g : Ledger). g.out) gain.ledger ∙ turned_out (ledger_of a) (lock_name l) m (calls_of b).last)
      gain.taken.holds notes

  pub missed : (v : Verb) (ws : List Bool) → IsIdle d.plan ws (calls_of a) (ledger_of a)
      → Misses d v l (calls_of a) a b → IsIdle d.plan ws (calls_of b) (ledger_of b)
  missed v ws was miss =
      kept d.plan ws (calls_of a) (calls_of b) (ledger_of a) (ledger_of b) was miss.missed.frames
      (ap (λ (g : Ledger). g.out) miss.ledger) miss.missed.holds

  pub dropped : (ws : List Bool) → IsIdle d.plan ws (calls_of a) (ledger_of a) → Drops l a b
      → IsIdle d.plan ws (calls_of b) (ledger_of b)
  dropped ws was drop =
      gave d.plan ws l (calls_of a) (calls_of b) (ledger_of a) (ledger_of b) was drop.freed.frames
      (ap (λ (g : Ledger). g.out) drop.ledger ∙ closed_out (ledger_of a) (lock_name l) (calls_of b).last)
      drop.freed.holds drop.freed.none

  pub left : (c : Pc) (ws : List Bool) → IsIdle d.plan ws (calls_of a) (ledger_of a) → Leaves c l a b
      → IsIdle d.plan ws (calls_of b) (ledger_of b)
  left c ws was leave =
      gave d.plan ws l (calls_of a) (calls_of b) (ledger_of a) (ledger_of b) was leave.left.frames
      (ap (λ (g : Ledger). g.out) leave.ledger ∙ closed_out (ledger_of a) (lock_name l) (calls_of b).last)
      leave.left.holds leave.left.none

-- a call that began so, and waited or not, has its lock

looked_out : (l : ℕ) (m : Manner) (c : Calls) (last : List Mark) (old new : Ledger) → HasLooked l m c last old new → new.out ≡ old.out
looked_out l m c last old new look =
    ap (λ (g : Ledger). g.out) look.now ∙ (turned_out look.between (lock_name l) m last ∙ look.passes.out)

pub held : (d : Domain) (v : Verb) (l : ℕ) (s : Start) (b : Cpu) (told : Option ℕ) (ws : List Bool)
    → IsIdle d.plan ws s.calls s.ledger → Holds d v l Spins s b told → kind_at d.plan l ≡ Spin
    → IsIdle d.plan ws (calls_of b) (ledger_of b)
held d v l s b told ws was has kind =
    took d.plan ws ws l (calls_of b).taken Spins s.calls (calls_of b) s.ledger (ledger_of b) was has.taken.frames
    (looked_out l Spins s.calls (calls_of b).last s.ledger (ledger_of b) has.look) has.taken.holds
    (notes_spin d.plan l ws was.noted.long kind)

pub came : (d : Domain) (v : Verb) (l : ℕ) (y : Bool) (s : Start) (b : Cpu) (told : Option ℕ) (ws : List Bool)
    → IsIdle d.plan ws s.calls s.ledger → CameIn d v l (way_of Rw y) s b told → l < locks_of d.plan → kind_at d.plan l ≡ Rw
    → IsIdle d.plan (set ws l y) (calls_of b) (ledger_of b)
came d v l y s b told ws was has low kind =
    took d.plan ws (set ws l y) l (calls_of b).taken (way_of Rw y) s.calls (calls_of b) s.ledger (ledger_of b) was has.entered.frames
    (looked_out l (way_of Rw y) s.calls has.upto s.ledger (ledger_of b) has.look) has.entered.holds
    (notes_rw d.plan l y ws was.noted.long low kind)

-- the kind is that of the lock
pub same_kind : (d : Domain) {k : Kind} (a b : LockId) → b ≡ a → kind_at d.plan a.index ≡ k → kind_at d.plan b.index ≡ k
same_kind d {k} a b e kind = subst (λ (x : LockId). kind_at d.plan x.index ≡ k) (sym e) kind

-- A lock that was just taken is held.
pub held_first : {c l n : ℕ} {m : Manner} {hs new : List Hold} → new ≡ hold c (lock_name l) m n ∷ hs → holds_in new l ≡ true
held_first {c} {l} {n} {m} {hs} {new} is =
    ap (λ (gs : List Hold). holds_in gs l) is
    ∙ ap (λ (b : Bool). if b then true else holds_in hs l) (same_lock-self (lock_name l))

-- what the last call tells: of no spinlock; or of one that was ready for a call, and is held now or not

pub other : {d : Domain} {o : Pending} {cpu : Cpu} {held : Bool} → IsLast d o cpu NONE held
other {d} {o} {cpu} {held} ne = absurd (ne refl)

pub named : {d : Domain} {o : Pending} {cpu : Cpu} {last l : ℕ} {held : Bool} → last ≡ l → IsReady d o cpu Spin l held
    → IsLast d o cpu last held
named {d} {o} {cpu} {last} {l} {held} is may ne = subst (λ (n : ℕ). IsReady d o cpu Spin n held) (sym is) may

pub ready : {d : Domain} {o p : Pending} {a b : Cpu} {l : ℕ} {was is : Bool} → IsReady d o a Spin l was → p ≡ Free
    → holds_in (calls_of b).holds l ≡ is → IsReady d p b Spin l is
ready {d} {o} {p} {a} {b} {l} {was} {is} may free holds = record { free = free; lock = may.lock; kind = may.kind; holds = holds }

-- where a call waited, of none

abbrev pub is_free : Pending → Bool
is_free Free = true
is_free _ = false

pub waited : {d : Domain} {o p : Pending} {a b : Cpu} {l : ℕ} {held : Bool} → is_free o ≡ false → IsLast d o a l held
    → IsLast d p b l held
waited {d} {o} {p} {a} {b} {l} {held} waits last ne = absurd (true≢false (sym (ap is_free (last ne).free) ∙ waits))

pub same_bool : (a b : Bool) → beq a b ≡ true → a ≡ b
same_bool true true e = refl
same_bool true false e = sym e
same_bool false true e = e
same_bool false false e = refl

-- a call that is refused with one answer, was refused with it
pub refused : (p : Port) (k : Kind) (l : ℕ) (a b : Answer) → a ≡ b → Refuses p k l a → Refuses p k l b
refused p k l a b is why = subst (Refuses p k l) is why

-- where waiters run none has halted
pub not_halted : (p q : Port) → may_halt p.share ≡ false → q.share ≡ p.share → has_halted q ≡ false
not_halted p q on same = ap (λ (b : Bool). b && (calls_of q.cpu).halted) (ap may_halt same ∙ on)

-- how a lock is held that the port has noted so
pub way : (k : Plan) (ws : List Bool) (c : Calls) (g : Ledger) (l : ℕ) (b : Bool) → IsIdle k ws c g → kind_at k l ≡ Rw
    → holds_in c.holds l ≡ true → slice_index_or ws l false ≡ b → way_in c.holds l ≡ Some (way_of Rw b)
way k ws c g l b was kind has is =
    let x = held_hold c.holds l has in
    let m : x.0.0 ≡ way_of Rw b = was.noted.each l x.0 x.1 ∙ (ap (λ (y : Kind). way_of y (slice_index_or ws l false)) kind ∙ ap (λ (y : Bool). way_of Rw y) is) in
    hold_way c.holds l x.0.0 x.0.1 x.1 ∙ ap (λ (y : Manner). Some y) m

-- a call may begin
pub may_take : (k : Plan) (ws : List Bool) (l : ℕ) (c : Calls) (g : Ledger) → IsIdle k ws c g → holds_in c.holds l ≡ false → MayTake l c
may_take k ws l c g idle free =
    record {
      few = subst (λ (rs : List Running). length rs < 6) (sym idle.frames) (omega arith);
      free = free;
      fresh = ap (λ (rs : List Running). waits_in rs l) idle.frames;
    }

pub few : (k : Plan) (ws : List Bool) (c : Calls) (g : Ledger) → IsIdle k ws c g → length c.frames < 6
few k ws c g idle = subst (λ (rs : List Running). length rs < 6) (sym idle.frames) (omega arith)

-- a port no call of which waits

pub rests : (d : Domain) (ws : List Bool) (o : Pending) (cpu : Cpu) → o ≡ Free → StandsRunning d ws o cpu
    → IsIdle d.plan ws (calls_of cpu) (ledger_of cpu)
rests d ws o cpu e h = subst (λ (x : Pending). StandsRunning d ws x cpu) e h

rested : (d : Domain) (ws : List Bool) (o : Pending) (cpu : Cpu) → o ≡ Free → IsIdle d.plan ws (calls_of cpu) (ledger_of cpu)
    → StandsRunning d ws o cpu
rested d ws o cpu e h = subst (λ (x : Pending). StandsRunning d ws x cpu) (sym e) h

pub stands : (s : Share) (ws : List Bool) (o : Pending) (cpu : Cpu) → may_halt s ≡ false → o ≡ Free
    → IsIdle (domain_of s).plan ws (calls_of cpu) (ledger_of cpu) → Stands s ws o cpu
stands s ws o cpu on e h = runs_by _ _ s on (rested (domain_of s) ws o cpu e h)

-- a call for a spinlock that began so when it rested, and went on, has its lock, or waits
pub settled : (d : Domain) (ws : List Bool) (lock : LockId) (old new : Pending) (s : Start) (cpu : Cpu) (has : Bool)
    → IsIdle d.plan ws s.calls s.ledger → old ≡ Free → kind_at d.plan lock.index ≡ Spin
    → (has ≡ true → Holds d Lock lock.index Spins s cpu None) → (has ≡ true → new ≡ old) → (has ≡ false → IsPending d lock new s cpu)
    → StandsRunning d ws new cpu
settled d ws lock old new s cpu true idle free kind holds same waits =
    rested d ws new cpu (same refl ∙ free) (held d Lock lock.index s cpu None ws idle (holds refl) kind)
settled d ws lock old new s cpu false idle free kind holds same waits =
    let x = waits refl in
    subst (λ (o : Pending). StandsRunning d ws o cpu) (sym x.1) (s, idle, same_kind d lock x.0.lock x.2 kind, x.3)

-- a new one, of which no lock is noted as a writer's
pub dealt : {domain : Domain} {i : ℕ} {cpu : Cpu} {ws : List Bool} → ws ≡ replicate (locks_of domain.plan) false
    → IsDealt domain i cpu → IsIdle domain.plan ws (calls_of cpu) (ledger_of cpu)
dealt {domain} {i} {cpu} {ws} none d =
    record {
      frames = ap (λ (c : Calls). c.frames) d.calls;
      out = ap (λ (g : Ledger). g.out) d.ledger;
      home = ap (λ (c : Calls). are_home c.holds) d.calls;
      noted = record {
        long = ap (λ (bs : List Bool). length bs) none ∙ length-replicate (locks_of domain.plan) false;
        each = λ l x e. let z : None ≡ Some x = sym (ap (λ (c : Calls). hold_in c.holds l) d.calls) ∙ e in absurd (cc z);
      };
    }

one_less : (all xs : List Cpu) (x : Cpu) → all ≡ xs ++ x ∷ [] → length xs + 1 ≡ length all
one_less all xs x is = sym (ap (λ (ys : List Cpu). length ys) is ∙ length-append xs (x ∷ []))

-- the last of those that were dealt, and the others

pub dealt_last : (domain : Domain) (all xs : List Cpu) (x : Cpu) → AreDealt domain all → all ≡ xs ++ x ∷ [] → IsDealt domain (length xs) x
dealt_last domain all xs x dealt is =
    let n = one_less all xs x is in
    subst (IsDealt domain (length xs))
    (ap (λ (ys : List Cpu). slice_index_or ys (length xs) x) is ∙ get_or_push xs x x (length xs) refl)
    (dealt (length xs) x (omega (arith, n)))

pub dealt_rest : (domain : Domain) (all xs : List Cpu) (x : Cpu) → AreDealt domain all → all ≡ xs ++ x ∷ [] → AreDealt domain xs
dealt_rest domain all xs x dealt is i d h =
    let n = one_less all xs x is in
    subst (IsDealt domain i)
    (ap (λ (ys : List Cpu). slice_index_or ys i d) is ∙ get_or_append_left xs (x ∷ []) d i h)
    (dealt i d (omega (arith, n, h)))
