-- A processor that rests is ready to take locks, and rests again once it has freed them.
use Rattle.std.proofs.Common.{◌≡◌, ℕ, ◌∙◌, List, ◌∷◌, ap, Bool, false}
use Rattle.lk_lock.proofs.Names.{TableId, Hold, holds_in, Cpu, Domain, IsAsBefore, IsReady}
use Rattle.lk_lock.proofs.Names.{holds_of}
use Rattle.atomic_table.specs.{Lent.seat_with, Table.rest, declared.shared.Seat.Seat}
use Rattle.lk_lock.specs.Standing.{AllRest, HasOpened, Rests}
use Rattle.lk_domain.specs.Ends as ends

pub rests_again : (d : Domain) (i : ℕ) (old new : Cpu) → Rests d i old → IsReady d new → IsAsBefore old new
    → Rests d i new
rests_again d i old new was ready kept =
    record {
      ready = ready;
      number = kept.same.number ∙ was.number;
      who = kept.same.who ∙ was.who;
      holds = kept.holds ∙ was.holds;
    }

-- it holds no lock
pub holds_none : (d : Domain) (i : ℕ) (cpu : Cpu) (l : ℕ) → Rests d i cpu → holds_in (holds_of cpu) l ≡ false
holds_none d i cpu l rests = ap (λ (hs : List Hold). holds_in hs l) rests.holds

-- and processors that rest may be closed in
pub all_end : (d : Domain) (cpus : List Cpu) → AllRest d cpus → ends.AllRest d cpus
all_end d cpus all i x low =
    let rests = all i x low in
    record {
      domain_is = rests.ready.domain_is;
      number = rests.number;
      who = rests.who;
      frames = rests.ready.frames;
      holds = rests.holds;
      home = rests.ready.home;
    }

-- a cell that is open stays so, with another value
pub still_open : {T : Type 0} (cell : TableId) (place : Seat T Bool) (value : T) → HasOpened cell place
    → HasOpened cell (seat_with place 0 value)
still_open {T} cell place value is =
    record {
      table = is.table;
      view = is.view;
      value = value;
      slot = ap (λ (xs : List (ℕ × T)). (0, value) ∷ rest xs) is.slot;
    }
