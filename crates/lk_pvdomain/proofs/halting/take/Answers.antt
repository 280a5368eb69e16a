use Rattle.std.proofs.Common.{refl, ap, List}
use Rattle.lk_pvdomain.proofs.Names.{Lock, table_of, Running}
use Rattle.lk_domain.specs.{Calls.waits_in, Rows.is_take}
use Rattle.lk_pvdomain.proofs.ways.Arrives.{first_acts, is_spin, f1_takes, f1_goes}
use Rattle.lk_pvdomain.proofs.halting.take.Goals as goal

pub take_free-requires : goal.take_free-requires
take_free-requires c =
    let r = c.requires.rests.1 in
    let low = c.requires.lock in
    record {
      table = table_of c.args.domain.now;
      seat = r.of.table_is;
      lock = low;
      number = (c.requires.rests.0.cpu, r.of.number);
      row = first_acts r Lock c.args.lock c.args.seat.now.id low is_take refl
          (c.requires.free, ap (λ (xs : List Running). waits_in xs c.args.lock) r.frames)
          (is_spin r Lock c.args.lock c.args.seat.now.id low);
    }

pub returns-then-take_free-eq0 : goal.returns-then-take_free-eq0
returns-then-take_free-eq0 c =
    record {
      took = λ e own r. f1_takes c.take_free.ensures.same r c.requires.lock c.take_free.ensures.step c.if-take_free-eq0.true;
      goes = λ e. absurd (cc e);
    }

pub returns : goal.returns
returns c =
    record {
      took = λ e. absurd (cc e);
      goes = λ e own r. f1_goes c.take_free.ensures.same r c.requires.lock c.take_free.ensures.step c.if-take_free-eq0.false;
    }
