use Rattle.std.proofs.Common.{refl, ap, List}
use Rattle.lk_pvdomain.proofs.Names.{Try, table_of, Running}
use Rattle.lk_domain.specs.{Calls.waits_in, Rows.{is_look, is_take}}
use Rattle.lk_pvdomain.proofs.ways.Arrives.{first_acts, is_spin, t1_sees, t1_misses, t2_takes}
use Rattle.lk_pvdomain.proofs.{ways.Arrives.t2_misses, ways.Leads.acts, ways.Ways.numbered}
use Rattle.lk_pvdomain.proofs.halting.try_lock.Goals as goal

pub look_once-requires : goal.look_once-requires
look_once-requires c =
    let r = c.requires.rests in
    let low = c.requires.lock in
    record {
      table = table_of c.args.domain.now;
      seat = r.of.table_is;
      lock = low;
      number = (c.args.cpu, r.of.number);
      row = first_acts r Try c.args.lock c.args.seat.now.id low is_look refl
          (c.requires.free, ap (λ (xs : List Running). waits_in xs c.args.lock) r.frames)
          (is_spin r Try c.args.lock c.args.seat.now.id low);
    }

pub returns-then-look_once-ne0 : goal.returns-then-look_once-ne0
returns-then-look_once-ne0 c =
    record {
      took = λ e. absurd (cc e);
      missed = λ e. t1_misses c.look_once.ensures.same c.requires.rests c.requires.lock c.look_once.ensures.step c.if-look_once-ne0.true;
    }

pub take_once-requires : goal.take_once-requires
take_once-requires c =
    let w = t1_sees c.look_once.ensures.same c.requires.rests c.requires.lock c.look_once.ensures.step c.if-look_once-ne0.false in
    record { table = table_of c.args.domain.now; seat = w.of.table_is; lock = w.low; number = numbered w; row = acts w is_take refl }

pub returns-then-take_once-eq0 : goal.returns-then-take_once-eq0
returns-then-take_once-eq0 c =
    record {
      took = λ e. t2_takes c.take_once.ensures.same
          (t1_sees c.look_once.ensures.same c.requires.rests c.requires.lock c.look_once.ensures.step c.if-look_once-ne0.false)
          c.take_once.ensures.step c.if-take_once-eq0.true;
      missed = λ e. absurd (cc e);
    }

pub returns : goal.returns
returns c =
    record {
      took = λ e. absurd (cc e);
      missed = λ e. t2_misses c.take_once.ensures.same
          (t1_sees c.look_once.ensures.same c.requires.rests c.requires.lock c.look_once.ensures.step c.if-look_once-ne0.false)
          c.take_once.ensures.step c.if-take_once-eq0.false;
    }
