use Rattle.std.proofs.Common.{ℕ, refl, subst, ◌∙◌}
use Rattle.lk_pvdomain.proofs.Names.{Lock, own_node, first_node, first_of, Took}
use Rattle.lk_pvdomain.proofs.ways.Frees.{is_let}
use Rattle.lk_pvdomain.proofs.ways.Kept.{rests_of, kept_cpu, let_same, let_rests}
use Rattle.lk_pvdomain.proofs.ways.Rested.{at_row, since_first, since_take, same_since, kept_since}
use Rattle.lk_pvdomain.proofs.PvSeating.{same_of}
use Rattle.lk_pvdomain.proofs.polled.pv_begin.Goals as goal

pub take-requires : goal.take-requires
take-requires c =
    record {
      rests = (own_node c.args.cpu.now, rests_of c.args.domain.now c.args.cpu.now c.requires.domain c.requires.rests);
      lock = c.requires.lock;
      free = c.requires.free;
    }

pub invariant_of-cpu : goal.invariant_of-cpu
invariant_of-cpu c =
    let d = c.args.domain.now in
    let cpu = c.args.cpu.now in
    let l = c.args.lock.index in
    let own = own_node cpu in
    let rests = rests_of d cpu c.requires.domain c.requires.rests in
    let since = since_take d.domain l own (first_of Lock l cpu.seat) c.take.new.seat c.take.result
    (λ e. c.take.ensures.took e own rests) (λ e. c.take.ensures.goes e own rests) in
    let k = kept_cpu d cpu c.requires.domain c.take.new.seat (kept_since (since_first l cpu.seat) since) in
    record {
      numbered = k.numbered;
      noted = λ e. absurd (k.awake e);
      apart = λ e. absurd (k.awake e);
      carried = k.carried;
    }

pub returns-then-take : goal.returns-then-take
returns-then-take c =
    let cpu = c.args.cpu.now in
    let took = c.take.ensures.took c.if-take.true (own_node cpu) (rests_of c.args.domain.now cpu c.requires.domain c.requires.rests) in
    let t = is_let cpu.seat _ took in
    record {
      same = let_same cpu _ t refl;
      taken = λ e. record { took = took; rests = let_rests t };
      halted = t.awake;
      lock = λ w e. absurd (cc e);
      waits = λ w e. absurd (cc e);
    }

pub pv_settle-requires : goal.pv_settle-requires
pv_settle-requires c =
    let d = c.args.domain.now in
    let cpu = c.args.cpu.now in
    let l = c.args.lock.index in
    let at = c.take.ensures.goes c.if-take.false (own_node cpu) (rests_of d cpu c.requires.domain c.requires.rests) in
    record {
      domain = same_of d cpu _ (same_since cpu _ (since_first l cpu.seat) (at_row at) refl) c.requires.domain;
      at = (first_of Lock l cpu.seat, at);
    }

pub returns : goal.returns
returns c =
    let d = c.args.domain.now in
    let cpu = c.args.cpu.now in
    let l = c.args.lock.index in
    let at = c.take.ensures.goes c.if-take.false (own_node cpu) (rests_of d cpu c.requires.domain c.requires.rests) in
    let s = first_of Lock l cpu.seat in
    let same = c.pv_settle.ensures.same in
    record {
      same = record { table = same.table ∙ at.table_was; id = same.id ∙ at.id_was; number = same.number; who = same.who ∙ at.who };
      taken = λ e.
          let t = c.pv_settle.ensures.taken e s at in
          record { took = subst (λ (n : ℕ). Took d.domain Lock l (first_node n) s c.pv_settle.new.cpu.seat) same.number t.took; rests = t.rests };
      halted = c.pv_settle.ensures.halted;
      lock = c.pv_settle.ensures.lock;
      waits = λ w e. c.pv_settle.ensures.waits w e s at;
    }
