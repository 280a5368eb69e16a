-- The same where the family halts, by what the calls of `lk_pvdomain` leave.
use Rattle.std.proofs.Common.{◌≡◌, ℕ, ◌<◌, List, ◌∷◌, Bool, true, false, refl, sym, ap, ◌∙◌, subst}
use Rattle.std.proofs.Common.{arith}
use Rattle.lk_lock.proofs.Names.{Spins, Verb, halts, Hold, holds_in, lock_name, terms_of, locks_of}
use Rattle.lk_lock.proofs.Names.{IsSame, calls_of, Cpu, Domain, Plan, View, is_let, first_node}
use Rattle.lk_lock.proofs.Names.{first_of, IsHolding, IsReady, holds_of, HasLocked}
use Rattle.atomic_table.specs.declared.shared.Seat.{Seat}
use Rattle.lk_rows.specs.declared.setup.Verb.TheVariants.{Unlock}
use Rattle.lk_domain.proofs.seats.Places.{carried_same}
use Rattle.lk_domain.specs.{Calls.{Frees, hold, holds_begun}, Values.Slot, Who.Who}
use Rattle.lk_pvdomain.proofs.ways.Frees.{IsLet, freed_none, freed_others}
use Rattle.lk_pvdomain.proofs.ways.Kept.{IsKept, IsSeated}
use Rattle.lk_pvdomain.specs.{PvCalls.{MayFree, without}, PvPaths.{Ended, Rests, Took}}
use Rattle.lk_lock.proofs.Marks.{left_without}
use Rattle.lk_lock.proofs.Steps.{after_call, as_before, is_held, locked_last, none_out}
use Rattle.lk_lock.specs.{Standing.{FreesLock, TakesLock}, Turns.FreesBy}

module _ (d : Domain) (old : Cpu) (was : IsReady d old) (on : halts d.plan.mode ≡ true) where
  -- the processor, as the calls ask for it
  pub rests : Rests d (first_node old.number) old.seat
  rests =
      let r = was.rests on in
      record {
        of = record {
          table_is = was.domain_is.table;
          plan = was.domain_is.plan;
          halting = on;
          number = old.numbered;
          near = record { cpu = was.domain_is.low; index = omega arith };
          index = refl;
        };
        frames = r.frames;
        awake = r.awake;
        fresh = r.fresh;
      }

  -- by a number that is its own
  pub named : (n : ℕ) → n ≡ old.number → Rests d (first_node n) old.seat
  named n is = subst (λ (m : ℕ). Rests d (first_node m) old.seat) (sym is) rests

  pub may_free : (l : ℕ) (before : Cpu) → l < locks_of d.plan → IsHolding l Spins before old
      → MayFree d l (first_node old.number) old.seat
  may_free l before low has =
      record {
        rests = rests;
        low = low;
        held = is_held l Spins before old has;
        home = λ first. was.home;
        value = none_out l Spins before old has;
      }

  -- where a call stands the seat is still that of its processor
  pub seated : (seat : Seat Slot View) → IsKept old.seat.me seat.me → IsSeated old seat
  seated seat k =
      record {
        numbered = ap (λ (w : Who). w.number) k.who ∙ old.numbered;
        awake = λ off.
            let no : true ≡ false = sym on ∙ (sym (ap (λ (w : Who). halts w.plan.mode) k.who ∙ ap (λ (p : Plan). halts p.mode) was.domain_is.plan) ∙ off) in
            cc no;
        carried = k.slots ∙ (old.carried ∙ carried_same old.seat.me.0 seat.me.0 k.who k.out);
      }

  -- and where it is over
  pub let_seated : (seat : Seat Slot View) → IsLet old.seat seat → IsSeated old seat
  let_seated seat let_it = seated seat (record { who = let_it.who; slots = let_it.slots; out = let_it.out })

  -- what it is as a whole
  module _ (mid : Cpu) (number : mid.number ≡ old.number) where
    same : IsLet old.seat mid.seat → IsSame old mid
    same let_it = record { table = let_it.table_was; id = let_it.id_was; number = number; who = let_it.who }

    ready : IsLet old.seat mid.seat → IsReady d mid
    ready let_it =
        after_call d old mid was (same let_it) let_it.frames
        (λ _. record { frames = let_it.frames; awake = let_it.awake; fresh = let_it.fresh }) let_it.out

    -- a lock is taken
    pub pv_takes : (l : ℕ) (v : Verb) → ((hs : List Hold) → holds_begun v 0 l hs ≡ hs) → holds_in (holds_of old) l ≡ false
        → Took d v l (first_node old.number) (first_of v l old.seat) mid.seat → TakesLock d v l old mid
    pv_takes l v begins free took =
        let t = terms_of d.plan in
        let let_it = is_let old.seat mid.seat took in
        let path : HasLocked t old.number v l (calls_of old) (calls_of mid) = record {
          path = took.path;
          frames = let_it.frames ∙ sym was.frames;
          holds = took.holds ∙ ap (λ (hs : List Hold). hold 0 (lock_name l) Spins (calls_of mid).taken ∷ hs) (begins (holds_of old));
          once = took.taken;
        } in
        record {
          ready = ready let_it;
          holding = locked_last t old.number v l old mid (same let_it) path free;
          path = path;
        }

    -- it is freed
    pub pv_frees : (l : ℕ) → Ended d Unlock l (first_node old.number) (first_of Unlock l old.seat) Frees mid.seat
        → FreesLock d l old mid
    pv_frees l free =
        let t = terms_of d.plan in
        let let_it = is_let old.seat mid.seat free in
        record {
          ready = ready let_it;
          before = λ b has.
              as_before l Spins b old has mid (λ hs. without (lock_name l) hs) (same let_it)
              (freed_others d l (first_node old.number) old.seat mid.seat free) (left_without l has.nth Spins _ has.fresh);
          freed = record {
            way = subst (λ (b : Bool). FreesBy b t old.number l (calls_of mid).last) (sym on) free.path;
            frames = let_it.frames ∙ sym was.frames;
            none = freed_none d l (first_node old.number) old.seat mid.seat free;
            taken = free.taken;
          };
        }
