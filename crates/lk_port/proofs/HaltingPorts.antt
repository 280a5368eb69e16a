-- How a processor stands after a call, where waiters halt.
use Rattle.std.proofs.Common.{◌≡◌, ℕ, ◌<◌, List, [], ◌∷◌, length, replicate, set, Bool, true, false}
use Rattle.std.proofs.Common.{refl, sym, ap, ◌∙◌, subst, arith, if◌then◌else◌, ◌&&◌, not}
use Rattle.std.proofs.Common.{slice_index_or, slice_get, ◌≢◌, ◌⊎◌, inl, inr, Some}
use Rattle.atomic_table.specs.Table.{Me}
use Rattle.std.proofs.lemmas.List.{get_or-replicate, length-replicate, length-set, get_or-set_same}
use Rattle.std.proofs.lemmas.List.{get_or-set_other}
use Rattle.std.specs.Arc.{arc_value}
use Rattle.lk_port.proofs.Names.{true≢false, Spin, Spins, kind_at, locks_of, calls_of, ledger_of}
use Rattle.lk_port.proofs.Names.{Cpu, Domain, own_node, first_of, domain_of, may_halt, Stands}
use Rattle.lk_port.proofs.Names.{Done, Lock, Pending, Share}
use Rattle.atomic_table.specs.declared.shared.Seat.{Seat}
use Rattle.lk_word.specs.declared.spin_word.NodeName.{NodeName}
use Rattle.lk_names.specs.{Names.same_lock, declared.holder.Manner.Manner}
use Rattle.lk_names.specs.declared.names.LockName.{LockName}
use Rattle.lk_rows.specs.{declared.setup.Verb.Verb, declared.setup.Verb.TheVariants.Unlock}
use Rattle.lk_law.proofs.common.Sames.{same_lock-true}
use Rattle.lk_domain.specs.{Calls.{Calls, Hold, hold, holds_in, lock_name}, Keeps.Slot}
use Rattle.lk_domain.specs.{Ledgers.Ledger, Seats.{IsDealt}}
use Rattle.lk_domain.specs.declared.view.View.{View}
use Rattle.lk_names.proofs.Places.{set-slice_get}
use Rattle.lk_pvdomain.proofs.ways.Frees.{freed_none, freed_others, is_let, out_kept}
use Rattle.lk_pvdomain.proofs.ways.Kept.{IsKept, let_rests}
use Rattle.lk_pvdomain.specs.PvCalls.{HasMissed, IsAsItWas, IsResting, without}
use Rattle.lk_pvdomain.specs.{PvPaths.{Ended, Start, Took}, PvRests.Rests}
use Rattle.lk_pvdomain.specs.{declared.domain.PvDomain.PvDomain, declared.rest.PvRest.PvRest}
use Rattle.lk_pvdomain.specs.declared.waiter.PvWaiter.{PvWaiter}
use Rattle.lk_port.proofs.Ports.{and_left, and_right, apart}
use Rattle.lk_port.proofs.Shares.{IsHalting, halting, halts_by, same_domain}
use Rattle.lk_port.specs.Ports.{HasSettled, IsAsleep, is_turn}
use Rattle.lk_port.specs.declared.answer.Answer.{Answer}
use Rattle.lk_port.specs.declared.answer.Answer.TheVariants as answer
use Rattle.lk_port.specs.Standing.{AreHeld, IsHome, StandsHalting, are_home}
use Rattle.lk_port.specs.declared.pending.Pending.TheVariants.{Free, Spins, Reads, Writes, Halts}
use Rattle.lk_domain.specs.Calls as grip
use Rattle.lk_pvdomain.specs.declared.rest.PvRest.TheVariants as rest
use Rattle.lk_port.specs.declared.share.Share.TheVariants as family
use Rattle.lk_port.proofs.Ports as running

-- a lock was taken, or was freed

met : (l i : ℕ) → same_lock (lock_name l) (lock_name i) ≡ true → l ≡ i
met l i same = ap (λ (y : LockName). y.index) (same_lock-true (lock_name l) (lock_name i) same)

held_more : {n : ℕ} {bs : List Bool} {hs : List Hold} (c l k : ℕ) (m : Manner) → l < n → AreHeld n bs hs
    → AreHeld n (set bs l true) (hold c (lock_name l) m k ∷ hs)
held_more {n} {bs} {hs} c l k m low was =
    record {
      long = length-set bs l true ∙ was.long;
      each = λ i lt. by i lt (same_lock (lock_name l) (lock_name i)) refl;
    }
  where
    by : (i : ℕ) → i < n → (b : Bool) → same_lock (lock_name l) (lock_name i) ≡ b
        → slice_index_or (set bs l true) i false ≡ (if b then true else holds_in hs i)
    by i lt true same =
        ap (λ (j : ℕ). slice_index_or (set bs l true) j false) (sym (met l i same))
        ∙ get_or-set_same bs l true false (omega (arith, low, was.long))
    by i lt false same = get_or-set_other bs l i true false (apart l i same) ∙ was.each i lt

without_other : (l i : ℕ) (hs : List Hold) → same_lock (lock_name l) (lock_name i) ≡ false → holds_in (without (lock_name l) hs) i ≡ holds_in hs i
without_other l i [] e = refl
without_other l i (h ∷ hs) e = by (same_lock h.lock (lock_name l)) refl (without_other l i hs e)
  where
    by : (b : Bool) → same_lock h.lock (lock_name l) ≡ b → holds_in (without (lock_name l) hs) i ≡ holds_in hs i
        → holds_in (if b then without (lock_name l) hs else h ∷ without (lock_name l) hs) i ≡ (if same_lock h.lock (lock_name i) then true else holds_in hs i)
    by true is rest =
        rest
        ∙ ap (λ (b : Bool). if b then true else holds_in hs i)
        (sym (ap (λ (y : LockName). same_lock y (lock_name i)) (same_lock-true h.lock (lock_name l) is) ∙ e))
    by false is rest = ap (λ (b : Bool). if same_lock h.lock (lock_name i) then true else b) rest

held_less : {n : ℕ} {bs : List Bool} {hs new : List Hold} (l : ℕ) → l < n → AreHeld n bs hs → new ≡ without (lock_name l) hs
    → holds_in new l ≡ false → AreHeld n (set bs l false) new
held_less {n} {bs} {hs} {new} l low was is none =
    record {
      long = length-set bs l false ∙ was.long;
      each = λ i lt. by i lt (same_lock (lock_name l) (lock_name i)) refl;
    }
  where
    by : (i : ℕ) → i < n → (b : Bool) → same_lock (lock_name l) (lock_name i) ≡ b → slice_index_or (set bs l false) i false ≡ holds_in new i
    by i lt true same =
        ap (λ (j : ℕ). slice_index_or (set bs l false) j false) (sym (met l i same))
        ∙ (get_or-set_same bs l false false (omega (arith, low, was.long)) ∙ (sym none ∙ ap (λ (j : ℕ). holds_in new j) (met l i same)))
    by i lt false same =
        get_or-set_other bs l i false false (apart l i same)
        ∙ (was.each i lt ∙ sym (ap (λ (gs : List Hold). holds_in gs i) is ∙ without_other l i hs same))

-- no value is out
without_home : (n : LockName) (hs : List Hold) → are_home hs ≡ true → are_home (without n hs) ≡ true
without_home n [] e = refl
without_home n (h ∷ hs) e = by (same_lock h.lock n) (and_left (not h.out) (are_home hs) e) (without_home n hs (and_right (not h.out) (are_home hs) e))
  where
    by : (b : Bool) → not h.out ≡ true → are_home (without n hs) ≡ true → are_home (if b then without n hs else h ∷ without n hs) ≡ true
    by true e rest = rest
    by false e rest = ap (λ b. not h.out && b) rest ∙ ap (λ b. b && true) e

-- it has taken a lock, missed it, or freed it

pub took : (d : PvDomain) (v : Verb) (l : ℕ) (own : NodeName) (s : Start) (b : Seat Slot View) (bs : List Bool) → IsHome d bs s.holds s.ledger
    → l < locks_of d.domain.plan → Took d.domain v l own s b → IsHome d (set bs l true) b.me.0.calls.holds b.me.0.ledger
took d v l own s b bs was low has =
    record {
      out = ap (λ (g : Ledger). g.out) has.ledger ∙ (out_kept (grip.Takes Spins) s.ledger l b.me.0.calls.last ∙ was.out);
      home = ap are_home has.holds ∙ was.home;
      noted = subst (AreHeld (locks_of d.domain.plan) (set bs l true)) (sym has.holds) (held_more 0 l b.me.0.calls.taken Spins low was.noted);
    }

pub missed : (d : PvDomain) (l : ℕ) (a b : Cpu) (bs : List Bool) → IsHome d bs (calls_of a).holds (ledger_of a) → HasMissed d l a b
    → IsHome d bs (calls_of b).holds (ledger_of b)
missed d l a b bs was miss =
    record {
      out = ap (λ (g : Ledger). g.out) miss.missed.ledger ∙ was.out;
      home = ap are_home miss.missed.holds ∙ was.home;
      noted = subst (AreHeld (locks_of d.domain.plan) bs) (sym miss.missed.holds) was.noted;
    }

-- a port no call of which waits

pub rests : (s : Share) (d : PvDomain) (bs : List Bool) (o : Pending) (cpu : Cpu) → IsHalting s d → o ≡ Free → Stands s bs o cpu
    → IsResting (calls_of cpu) × IsHome d bs (calls_of cpu).holds (ledger_of cpu)
rests s d bs o cpu is e h = subst (λ (x : Pending). StandsHalting d bs x cpu) e (halting _ _ s d is h)

pub stands : (s : Share) (d : PvDomain) (bs : List Bool) (o : Pending) (cpu : Cpu) → IsHalting s d → o ≡ Free
    → IsResting (calls_of cpu) × IsHome d bs (calls_of cpu).holds (ledger_of cpu) → Stands s bs o cpu
stands s d bs o cpu is e h = halts_by _ _ s d is (subst (λ (x : Pending). StandsHalting d bs x cpu) (sym e) h)

-- each lock of one whose waiters halt is a spinlock
pub spins : (s : Share) (d : PvDomain) (l : ℕ) → IsHalting s d → kind_at (domain_of s).plan l ≡ Spin
spins s d l is = subst (λ (e : Domain). kind_at e.plan l ≡ Spin) (sym (same_domain s d is)) (d.domain.lawful.spins d.halting l)

-- one in which a call waits
pub waits : (s : Share) (d : PvDomain) (bs : List Bool) (o : Pending) (w : PvWaiter) (cpu : Cpu) → IsHalting s d → o ≡ Halts w → Stands s bs o cpu
    → StandsHalting d bs (Halts w) cpu
waits s d bs o w cpu is e h = subst (λ (x : Pending). StandsHalting d bs x cpu) e (halting _ _ s d is h)

-- one that has taken a lock, by a call that began so
pub taken : (d : PvDomain) (v : Verb) (l : ℕ) (own : NodeName) (s : Start) (b : Cpu) (bs : List Bool) → IsHome d bs s.holds s.ledger
    → l < locks_of d.domain.plan → Took d.domain v l own s b.seat → IsResting (calls_of b)
    → IsResting (calls_of b) × IsHome d (set bs l true) (calls_of b).holds (ledger_of b)
taken d v l own s b bs was low has rests = (rests, took d v l own s b.seat bs was low has)

-- what a call holds that waits or has halted, is what it held when it began
rest_holds : (d : Domain) (l : ℕ) (own : NodeName) (r : PvRest) (s : Start) (a : Seat Slot View) → Rests d l own r s a → a.me.0.calls.holds ≡ s.holds
rest_holds d l own rest.Looks s a h = h.holds
rest_holds d l own (rest.Steals x) s a h = h.holds
rest_holds d l own (rest.Joins x) s a h = h.holds
rest_holds d l own (rest.Spins x) s a h = h.1.holds
rest_holds d l own (rest.Halts x) s a h = h.1.wakes.holds
rest_holds d l own rest.Runs s a h = h.holds
rest_holds d l own (rest.Leads x) s a h = h.holds
rest_holds d l own rest.Enlists s a h = h.holds
rest_holds d l own rest.Naps s a h = h.wakes.holds
rest_holds d l own rest.Hands s a h = h.holds
rest_holds d l own (rest.EnlistsNext x) s a h = h.1.holds

-- so the port has noted what is held, at any time

held_now : (d : PvDomain) (bs : List Bool) (o : Pending) (cpu : Cpu) → StandsHalting d bs o cpu → AreHeld (locks_of d.domain.plan) bs (calls_of cpu).holds
held_now d bs Free cpu h = h.1.noted
held_now d bs (Halts w) cpu h =
    subst (AreHeld (locks_of d.domain.plan) bs) (sym (rest_holds d.domain w.lock.index (own_node cpu) w.rest h.0 cpu.seat h.2.rests)) h.1.noted
held_now d bs (Spins w) cpu h = absurd h
held_now d bs (Reads w) cpu h = absurd h
held_now d bs (Writes w) cpu h = absurd h

pub noted : (s : Share) (bs : List Bool) (o : Pending) (cpu : Cpu) → may_halt s ≡ true → Stands s bs o cpu
    → AreHeld (locks_of (domain_of s).plan) bs (calls_of cpu).holds
noted (family.Runs a) bs o cpu e h = absurd (true≢false (sym e))
noted (family.Halts a) bs o cpu e h = held_now (arc_value a) bs o cpu h

-- the call that found its lock not free has taken it by now, or waits, or has halted

done_or : (a : Answer) → is_turn a ≡ true → (a ≡ Done) ⊎ (a ≢ Done)
done_or Done e = inl refl
done_or answer.Waits e = inr (λ x. let z : answer.Waits ≡ Done = x in let no : ⊥ = cc z in no)
done_or answer.Halts e = inr (λ x. let z : answer.Halts ≡ Done = x in let no : ⊥ = cc z in no)
done_or answer.Again e = absurd (true≢false (sym e))
done_or answer.Busy e = absurd (true≢false (sym e))
done_or answer.NoLock e = absurd (true≢false (sym e))
done_or answer.WrongKind e = absurd (true≢false (sym e))
done_or answer.Held e = absurd (true≢false (sym e))
done_or answer.NotHeld e = absurd (true≢false (sym e))
done_or answer.WrongManner e = absurd (true≢false (sym e))
done_or answer.Pending e = absurd (true≢false (sym e))
done_or answer.Idle e = absurd (true≢false (sym e))

module _ (s : Share) (d : PvDomain) (is : IsHalting s d) (bs : List Bool) (l : ℕ) (was now : Bool) (o p : Pending) (st : Start) (new : Cpu) where
  has_settled : o ≡ Free → l < locks_of d.domain.plan → IsHome d bs st.holds st.ledger → HasSettled s l st new → (now ≡ true) × (p ≡ o)
      → Stands s (set bs l now) p new
  has_settled free low home has noted =
      let t = halting _ _ s d is has in
      subst (λ (b : Bool). Stands s (set bs l b) p new) (sym noted.0)
      (stands s d (set bs l true) p new is (noted.1 ∙ free) (t.rests, took d Lock l (own_node new) st new.seat bs home low t.took))

  has_slept : IsHome d bs st.holds st.ledger → slice_get bs l ≡ Some was → IsAsleep s p st new → now ≡ was → Stands s (set bs l now) p new
  has_slept home at has same =
      let h = halting _ _ s d is has in
      let kept = ap (set bs l) same ∙ set-slice_get was bs l at in
      subst (λ (xs : List Bool). Stands s xs p new) (sym kept)
      (subst (λ (x : Pending). Stands s bs x new) (sym h.1) (halts_by _ _ s d is (st, home, h.2)))

  pub settled : (a : Answer) → is_turn a ≡ true → o ≡ Free → l < locks_of d.domain.plan → IsHome d bs st.holds st.ledger → slice_get bs l ≡ Some was
      → (a ≡ Done → HasSettled s l st new) → (a ≡ Done → (now ≡ true) × (p ≡ o)) → (a ≢ Done → IsAsleep s p st new) → (a ≢ Done → now ≡ was)
      → Stands s (set bs l now) p new
  settled a turn free low home at has noted asleep still = elim (done_or a turn) [
    | inl e ↦ has_settled free low home (has e) (noted e)
    | inr ne ↦ has_slept home at (asleep ne) (still ne)
  ]

-- a release has freed the lock, or the processor is as it was

pub released : (d : PvDomain) (l : ℕ) (a : Cpu) (b : Seat Slot View) (bs : List Bool) → IsHome d bs (calls_of a).holds (ledger_of a) → l < locks_of d.domain.plan
    → Ended d.domain Unlock l (own_node a) (first_of Unlock l a.seat) grip.Frees b
    → IsResting b.me.0.calls × IsHome d (set bs l false) b.me.0.calls.holds b.me.0.ledger
released d l a b bs was low e =
    let own = own_node a in (
      let_rests (is_let a.seat b e),
      record {
        out = ap (λ (g : Ledger). g.out) e.ledger ∙ (out_kept grip.Frees (ledger_of a) l b.me.0.calls.last ∙ was.out);
        home = ap are_home (freed_others d.domain l own a.seat b e) ∙ without_home (lock_name l) (calls_of a).holds was.home;
        noted = held_less l low was.noted (freed_others d.domain l own a.seat b e) (freed_none d.domain l own a.seat b e);
      },
    )

module _ (d : PvDomain) (l : ℕ) (a : Cpu) (b : Seat Slot View) (f : Bool)
    (freed : f ≡ true → Ended d.domain Unlock l (own_node a) (first_of Unlock l a.seat) grip.Frees b) (still : f ≡ false → IsAsItWas a.seat b) where
  -- what it leaves as it was of its processor
  pub let_or_still : (b.table_id ≡ a.seat.table_id) × (b.id ≡ a.seat.id) × IsKept a.seat.me b.me
  let_or_still = by f refl
    where
      by : (g : Bool) → f ≡ g → (b.table_id ≡ a.seat.table_id) × (b.id ≡ a.seat.id) × IsKept a.seat.me b.me
      by true e = let t = is_let a.seat b (freed e) in (t.table_was, t.id_was, record { who = t.who; slots = t.slots; out = t.out })
      by false e =
          let s = still e in (
            s.table,
            s.id,
            record {
              who = ap (λ (m : Me Slot View). m.0.who) s.me;
              slots = ap (λ (m : Me Slot View). m.1) s.me;
              out = ap (λ (m : Me Slot View). m.0.ledger.out) s.me;
            },
          )

  -- and how its port stands
  pub let_stands : (bs : List Bool) (was now : Bool) → IsResting (calls_of a) × IsHome d bs (calls_of a).holds (ledger_of a) → l < locks_of d.domain.plan
      → slice_get bs l ≡ Some was → (f ≡ true → now ≡ false) → (f ≡ false → now ≡ was)
      → IsResting b.me.0.calls × IsHome d (set bs l now) b.me.0.calls.holds b.me.0.ledger
  let_stands bs was now r low at none same = by f refl
    where
      by : (g : Bool) → f ≡ g → IsResting b.me.0.calls × IsHome d (set bs l now) b.me.0.calls.holds b.me.0.ledger
      by true e =
          subst (λ (x : Bool). IsResting b.me.0.calls × IsHome d (set bs l x) b.me.0.calls.holds b.me.0.ledger) (sym (none e))
          (released d l a b bs r.1 low (freed e))
      by false e =
          subst (λ (xs : List Bool). IsResting b.me.0.calls × IsHome d xs b.me.0.calls.holds b.me.0.ledger)
          (sym (ap (set bs l) (same e) ∙ set-slice_get was bs l at))
          (subst (λ (m : Me Slot View). IsResting m.0.calls × IsHome d bs m.0.calls.holds m.0.ledger) (sym (still e).me) r)

-- a new one
pub dealt : {domain : PvDomain} {i : ℕ} {cpu : Cpu} {bs : List Bool} → bs ≡ replicate (locks_of domain.domain.plan) false
    → IsDealt domain.domain i cpu → IsResting (calls_of cpu) × IsHome domain bs (calls_of cpu).holds (ledger_of cpu)
dealt {domain} {i} {cpu} {bs} none d =
    let n = locks_of domain.domain.plan in (
      record {
        frames = ap (λ (c : Calls). c.frames) d.calls;
        awake = ap (λ (c : Calls). c.halted) d.calls;
        fresh = ap (λ (c : Calls). c.looked) d.calls;
      },
      record {
        out = ap (λ (g : Ledger). g.out) d.ledger;
        home = ap (λ (c : Calls). are_home c.holds) d.calls;
        noted = record {
          long = ap (λ (xs : List Bool). length xs) none ∙ length-replicate n false;
          each = λ l low. ap (λ (xs : List Bool). slice_index_or xs l false) none
              ∙ (get_or-replicate n l false false low ∙ sym (ap (λ (c : Calls). holds_in c.holds l) d.calls));
        };
      },
    )

-- in each family
pub new_stands : {i : ℕ} {cpu : Cpu} {notes : List Bool} (s : Share) → notes ≡ replicate (locks_of (domain_of s).plan) false
    → IsDealt (domain_of s) i cpu → Stands s notes Free cpu
new_stands (family.Runs a) none d = running.dealt none d
new_stands (family.Halts a) none d = dealt {domain = arc_value a} none d
