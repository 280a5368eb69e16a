-- What a call leaves as it was of its processor: who it is, its slots, and where the journal is.
use Rattle.std.proofs.Common.{◌≡◌, ◌∙◌, ℕ, Some, false, refl, sym, ap, subst, arith}
use Rattle.lk_pvdomain.proofs.Names.{Me, Seat, halts, Slot, IsSame, Who, Cpu, View, own_node}
use Rattle.lk_pvdomain.proofs.Names.{first_node, PvDomain}
use Rattle.lk_domain.proofs.seats.Places.{carried_same}
use Rattle.lk_domain.specs.{Plays.carried_of, Seats.calls_of}
use Rattle.lk_pvdomain.proofs.{PvSeating.not_awake, ways.Frees.IsLet}
use Rattle.lk_pvdomain.specs.{PvCalls.IsResting, PvPaths.Rests, PvSeats.IsOf}

-- a processor that is in no call
pub rests_of : (d : PvDomain) (cpu : Cpu) → IsOf cpu d → IsResting (calls_of cpu) → Rests d.domain (own_node cpu) cpu.seat
rests_of d cpu o r =
    let low = o.low in
    record {
      of = record {
        table_is = o.table;
        plan = o.plan;
        halting = d.halting;
        number = cpu.numbered;
        near = record { cpu = low; index = omega arith };
        index = refl;
      };
      frames = r.frames;
      awake = r.awake;
      fresh = r.fresh;
    }

-- the same, with its number
pub rests_as : (d : PvDomain) (cpu : Cpu) → IsOf cpu d → IsResting (calls_of cpu) → (n : ℕ) → n ≡ cpu.number → Rests d.domain (first_node n) cpu.seat
rests_as d cpu o r n e = subst (λ (k : ℕ). Rests d.domain (first_node k) cpu.seat) (sym e) (rests_of d cpu o r)

pub record IsKept (m n : Me Slot View) : Type 0 where
  pub who : n.0.who ≡ m.0.who
  pub slots : n.1 ≡ m.1
  pub out : n.0.ledger.out ≡ m.0.ledger.out

-- so the seat stays that of its processor
pub record IsSeated (cpu : Cpu) (seat : Seat Slot View) : Type 0 where
  pub numbered : seat.me.0.who.number ≡ Some cpu.number
  pub awake : halts seat.me.0.who.plan.mode ≡ false → ⊥
  pub carried : seat.me.1 ≡ carried_of seat.me.0

pub kept_cpu : (d : PvDomain) (cpu : Cpu) → IsOf cpu d → (seat : Seat Slot View) → IsKept cpu.seat.me seat.me → IsSeated cpu seat
kept_cpu d cpu o seat k =
    record {
      numbered = ap (λ (w : Who). w.number) k.who ∙ cpu.numbered;
      awake = not_awake d cpu o seat.me.0.who k.who;
      carried = k.slots ∙ (cpu.carried ∙ carried_same cpu.seat.me.0 seat.me.0 k.who k.out);
    }

-- where the call is over

pub let_cpu : (d : PvDomain) (cpu : Cpu) → IsOf cpu d → (seat : Seat Slot View) → IsLet cpu.seat seat → IsSeated cpu seat
let_cpu d cpu o seat t = kept_cpu d cpu o seat (record { who = t.who; slots = t.slots; out = t.out })

pub let_same : (x y : Cpu) → IsLet x.seat y.seat → y.number ≡ x.number → IsSame x y
let_same x y t number = record { table = t.table_was; id = t.id_was; number = number; who = t.who }

pub let_rests : {old new : Seat Slot View} → IsLet old new → IsResting new.me.0.calls
let_rests t = record { frames = t.frames; awake = t.awake; fresh = t.fresh }
