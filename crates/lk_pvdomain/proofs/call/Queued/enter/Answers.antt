use Rattle.std.proofs.Common.{refl, ap}
use Rattle.lk_pvdomain.proofs.Names.{Me, Slot, View}
use Rattle.lk_pvdomain.proofs.ways.Arrives.{entry_asks, readied, g1_enters}
use Rattle.lk_domain.specs.declared.part.Part.TheVariants as part
use Rattle.lk_pvdomain.proofs.call.Queued.enter.Goals as goal

pub reset-requires : goal.reset-requires
reset-requires c =
    let w = c.requires.1 in
    record { of = w.of; row = entry_asks w; ready = λ ne. absurd (ne refl) }

pub reset-requires-2 : goal.reset-requires-2
reset-requires-2 c =
    let w = readied c.reset.ensures.same part.Flag c.requires.1 c.reset.ensures.step in
    record {
      of = w.of;
      row = entry_asks w;
      ready = λ ne. ap (λ (m : Me Slot View). m.0.calls.ready) c.reset.ensures.step;
    }

pub enter-requires : goal.enter-requires
enter-requires c =
    let w = readied c.reset-2.ensures.same part.Next (readied c.reset.ensures.same part.Flag c.requires.1 c.reset.ensures.step) c.reset-2.ensures.step in
    record {
      of = w.of;
      row = entry_asks w;
      ready = ap (λ (m : Me Slot View). m.0.calls.ready) c.reset-2.ensures.step;
    }

pub returns : goal.returns
returns c s w =
    g1_enters c.enter.ensures.same
    (readied c.reset-2.ensures.same part.Next (readied c.reset.ensures.same part.Flag w c.reset.ensures.step) c.reset-2.ensures.step)
    c.enter.ensures.step
