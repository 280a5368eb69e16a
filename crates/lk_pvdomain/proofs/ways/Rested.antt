-- What a turn leaves as it was, and what is known where it leads.
use Rattle.std.proofs.Common.{◌≡◌, ◌<◌, ℕ, Bool, true, false, Option, Some, None, refl, sym, ap}
use Rattle.std.proofs.Common.{subst, ◌∙◌}
use Rattle.lk_pvdomain.proofs.Names.{Seat, NodeName, Spins, Frame, Pc, G1, Lock, Takes, Slot}
use Rattle.lk_pvdomain.proofs.Names.{Ledger, Any, locks_of, IsSame, Cpu, Domain, View, own_node}
use Rattle.lk_pvdomain.proofs.Names.{AtOn, HaltedOn, Start, Took, first_of, Comes, PvDomain}
use Rattle.lk_domain.specs.declared.domain.LockId.{LockId}
use Rattle.lk_pvdomain.proofs.{ways.Frees.out_kept, ways.Kept.IsKept}
use Rattle.lk_pvdomain.specs.{PvPaths.At, PvRests.{Rests, is_asleep, is_asleep_at}}
use Rattle.lk_pvdomain.specs.{PvTurns.{Waits, waiter_at}, declared.rest.PvRest.PvRest}
use Rattle.lk_pvdomain.specs.declared.waiter.PvWaiter.{PvWaiter}
use Rattle.lk_pvdomain.specs.declared.rest.PvRest.TheVariants as rest

-- since a call began so: it is the same seat of the same processor, with the same slots, and the journal
-- is where it was
pub record IsSince (s : Start) (a : Seat Slot View) : Type 0 where
  pub table : a.table_id ≡ s.table
  pub id : a.id ≡ s.id
  pub who : a.me.0.who ≡ s.who
  pub slots : a.me.1 ≡ s.slots
  pub out : a.me.0.ledger.out ≡ s.ledger.out

module _ {d : Domain} {l : ℕ} {own : NodeName} {s : Start} {a : Seat Slot View} where
  pub at_row : {c : Pc} {P : Frame → Type 0} → AtOn d Lock l own s c P a.table_id a.id a.me → IsSince s a
  at_row w = record { table = w.table_was; id = w.id_was; who = w.who; slots = w.slots; out = ap (λ (g : Ledger). g.out) w.ledger }

  at_halt : {c e : Pc} {P : Frame → Type 0} → HaltedOn d Lock l own s c e P a.table_id a.id a.me → IsSince s a
  at_halt h =
      let w = h.wakes in
      record { table = w.table_was; id = w.id_was; who = w.who; slots = w.slots; out = ap (λ (g : Ledger). g.out) w.ledger }

module _ (d : Domain) (l : ℕ) (own : NodeName) (s : Start) (a : Seat Slot View) where
  pub since_rests : (r : PvRest) → Rests d l own r s a → IsSince s a
  since_rests rest.Looks w = at_row w
  since_rests (rest.Steals x) w = at_row w
  since_rests (rest.Joins met) w = at_row w
  since_rests (rest.Spins x) w = at_row w.1
  since_rests (rest.Halts prev) w = at_halt w.1
  since_rests rest.Runs w = at_row w
  since_rests (rest.Leads x) w = at_row w
  since_rests rest.Enlists w = at_row w
  since_rests rest.Naps w = at_halt w
  since_rests rest.Hands w = at_row w
  since_rests (rest.EnlistsNext to) w = at_row w.1

  pub since_comes : (o : Option PvRest) → Comes d l own o s a → IsSince s a
  since_comes None t =
      record {
        table = t.still.table_was;
        id = t.still.id_was;
        who = t.still.who;
        slots = t.still.slots;
        out = ap (λ (g : Ledger). g.out) t.ledger ∙ out_kept (Takes Spins) s.ledger l a.me.0.calls.last;
      }
  since_comes (Some r) w = since_rests r w

  -- its first row leads there, whether it takes the lock or not
  pub since_take : (b : Bool) → (b ≡ true → Took d Lock l own s a) → (b ≡ false → At d Lock l own s G1 Any a) → IsSince s a
  since_take true took goes = since_comes None (took refl)
  since_take false took goes = at_row (goes refl)

  -- whether the processor has halted there
  asleep_rests : (r : PvRest) → Rests d l own r s a → a.me.0.calls.halted ≡ is_asleep r
  asleep_rests rest.Looks w = w.awake
  asleep_rests (rest.Steals x) w = w.awake
  asleep_rests (rest.Joins met) w = w.awake
  asleep_rests (rest.Spins x) w = w.1.awake
  asleep_rests (rest.Halts prev) w = w.1.asleep
  asleep_rests rest.Runs w = w.awake
  asleep_rests (rest.Leads x) w = w.awake
  asleep_rests rest.Enlists w = w.awake
  asleep_rests rest.Naps w = w.asleep
  asleep_rests rest.Hands w = w.awake
  asleep_rests (rest.EnlistsNext to) w = w.1.awake

  pub asleep_comes : (o : Option PvRest) → Comes d l own o s a → a.me.0.calls.halted ≡ is_asleep_at o
  asleep_comes None t = t.still.awake
  asleep_comes (Some r) w = asleep_rests r w

-- it began with this seat
pub since_first : (l : ℕ) (a : Seat Slot View) → IsSince (first_of Lock l a) a
since_first l a = record { table = refl; id = refl; who = refl; slots = refl; out = refl }

module _ {s : Start} {a b : Seat Slot View} (old : IsSince s a) (new : IsSince s b) where
  pub kept_since : IsKept a.me b.me
  kept_since = record { who = new.who ∙ sym old.who; slots = new.slots ∙ sym old.slots; out = new.out ∙ sym old.out }

pub same_since : {s : Start} (x y : Cpu) → IsSince s x.seat → IsSince s y.seat → y.number ≡ x.number → IsSame x y
same_since x y old new number =
    record { table = new.table ∙ sym old.table; id = new.id ∙ sym old.id; number = number; who = new.who ∙ sym old.who }

-- the call with which a turn leaves waits there
pub waits_of : (d : PvDomain) (lock : LockId) (cpu : Cpu) (o : Option PvRest) (s : Start) (w : PvWaiter) → lock.index < locks_of d.domain.plan
    → waiter_at lock o ≡ Some w → Comes d.domain lock.index (own_node cpu) o s cpu.seat → Waits d w s cpu
waits_of d lock cpu None s w low e h = absurd (cc e)
waits_of d lock cpu (Some r) s w low e h =
    let same : record { lock = lock; rest = r } ≡ w = cc e in
    subst (λ (v : PvWaiter). Waits d v s cpu) same (record { low = low; rests = h })

pub lock_of : (lock : LockId) (o : Option PvRest) (w : PvWaiter) → waiter_at lock o ≡ Some w → w.lock ≡ lock
lock_of lock None w e = absurd (cc e)
lock_of lock (Some r) w e =
    let same : record { lock = lock; rest = r } ≡ w = cc e in ap (λ (v : PvWaiter). v.lock) (sym same)
