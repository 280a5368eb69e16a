use Rattle.std.proofs.Common.{sym, subst}
use Rattle.lk_pvdomain.proofs.Names.{W1, At}
use Rattle.lk_pvdomain.specs.PvWords.{Spares}
use Rattle.lk_pvdomain.proofs.call.Queued.queue.Goals as goal

pub head-requires : goal.head-requires
head-requires c = (c.requires.0, c.exchange.ensures.first c.in-First.is c.requires.0 c.requires.1)

pub returns-in-First : goal.returns-in-First
returns-in-First c s w = c.head.ensures s (c.exchange.ensures.first c.in-First.is s w)

pub link-requires : goal.link-requires
link-requires c =
    record {
      prev = c.exchange.ensures.node c.in-Behind.prev c.in-Behind.is;
      waits = (c.requires.0, c.exchange.ensures.behind c.in-Behind.prev c.in-Behind.is c.requires.0 c.requires.1);
    }

pub wait-requires : goal.wait-requires
wait-requires c =
    let s = c.requires.0 in
    let prev = c.in-Behind.prev in
    record {
      prev = c.exchange.ensures.node prev c.in-Behind.is;
      waits = (
        s,
        subst (λ n. At c.args.self.now s W1 (Spares prev n) c.link.new.seat) (sym c.turns-left.ensures)
            (c.link.ensures s (c.exchange.ensures.behind prev c.in-Behind.is s c.requires.1)),
      );
    }

pub returns-in-Behind : goal.returns-in-Behind
returns-in-Behind c s w =
    let prev = c.in-Behind.prev in
    c.wait.ensures s
    (subst (λ n. At c.args.self.now s W1 (Spares prev n) c.link.new.seat) (sym c.turns-left.ensures)
    (c.link.ensures s (c.exchange.ensures.behind prev c.in-Behind.is s w)))

pub returns-in-Other : goal.returns-in-Other
returns-in-Other c s w = c.exchange.ensures.other c.in-Other.now c.in-Other.is s w
