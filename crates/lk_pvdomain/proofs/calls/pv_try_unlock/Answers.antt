use Rattle.std.proofs.Common.{◌≡◌, ℕ, Bool, true, false, refl, ap}
use Rattle.lk_pvdomain.proofs.Names.{Me, Seat, NodeName, Unlock, Frees, Slot, Domain, View}
use Rattle.lk_pvdomain.proofs.Names.{own_node, Ended, first_of}
use Rattle.lk_pvdomain.proofs.ways.Frees.{is_let, freed_none, freed_others}
use Rattle.lk_pvdomain.proofs.ways.Kept.{IsKept, rests_of, kept_cpu, let_rests}
use Rattle.lk_pvdomain.specs.{PvCalls.IsAsItWas, PvReleases.has_freed}
use Rattle.lk_pvdomain.proofs.calls.pv_try_unlock.Goals as goal

pub try_unlock-requires : goal.try_unlock-requires
try_unlock-requires c =
    record {
      may = (
        own_node c.args.cpu.now,
        record {
          rests = rests_of c.args.domain.now c.args.cpu.now c.requires.domain c.requires.rests;
          low = c.requires.lock;
          held = c.requires.held;
          home = c.requires.home;
          value = c.requires.value;
        },
      );
    }

-- what is kept, whether it has freed the lock or not
let_or_still : (d : Domain) (l : ℕ) (own : NodeName) (old new : Seat Slot View) (b : Bool)
    → (b ≡ true → Ended d Unlock l own (first_of Unlock l old) Frees new) → (b ≡ false → IsAsItWas old new)
    → (new.table_id ≡ old.table_id) × (new.id ≡ old.id) × IsKept old.me new.me
let_or_still d l own old new true freed still =
    let t = is_let old new (freed refl) in (t.table_was, t.id_was, record { who = t.who; slots = t.slots; out = t.out })
let_or_still d l own old new false freed still =
    let s = still refl in (
      s.table,
      s.id,
      record {
        who = ap (λ (m : Me Slot View). m.0.who) s.me;
        slots = ap (λ (m : Me Slot View). m.1) s.me;
        out = ap (λ (m : Me Slot View). m.0.ledger.out) s.me;
      },
    )

pub invariant_of-cpu : goal.invariant_of-cpu
invariant_of-cpu c =
    let cpu = c.args.cpu.now in
    let r = rests_of c.args.domain.now cpu c.requires.domain c.requires.rests in
    let x = let_or_still c.args.domain.now.domain c.args.lock.index (own_node cpu) cpu.seat c.try_unlock.new.seat (has_freed c.try_unlock.result)
    (λ is. c.try_unlock.ensures.freed is (own_node cpu) r) c.try_unlock.ensures.still in
    let k = kept_cpu c.args.domain.now cpu c.requires.domain c.try_unlock.new.seat x.2 in
    record {
      numbered = k.numbered;
      noted = λ e. absurd (k.awake e);
      apart = λ e. absurd (k.awake e);
      carried = k.carried;
    }

pub returns : goal.returns
returns c =
    let d = c.args.domain.now.domain in
    let l = c.args.lock.index in
    let cpu = c.args.cpu.now in
    let own = own_node cpu in
    let freed : has_freed c.try_unlock.result ≡ true → Ended d Unlock l own (first_of Unlock l cpu.seat) Frees c.try_unlock.new.seat =
    λ is. c.try_unlock.ensures.freed is own (rests_of c.args.domain.now cpu c.requires.domain c.requires.rests) in
    let x = let_or_still d l own cpu.seat c.try_unlock.new.seat (has_freed c.try_unlock.result) freed c.try_unlock.ensures.still in
    record {
      same = record { table = x.0; id = x.1; number = refl; who = x.2.who };
      freed = λ is. record {
        ended = freed is;
        none = freed_none d l own cpu.seat _ (freed is);
        rests = let_rests (is_let cpu.seat _ (freed is));
      };
      others = λ is. freed_others d l own cpu.seat _ (freed is);
      whom = c.try_unlock.ensures.whom;
      still = λ is. record { table = x.0; id = x.1; number = refl; view = ap (λ (m : Me Slot View). m.0) (c.try_unlock.ensures.still is).me };
    }
