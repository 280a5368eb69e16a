use Rattle.std.proofs.Common.{arith, ap, ◌∙◌, length, List, subst, sym}
use Rattle.lk_reach.proofs.Names.{slice_get_within, CpuState, SharedValue, KeyKeeps, Key}
use Rattle.lk_reach.proofs.{Formed.number_alike, Left.grows_then}
use Rattle.lk_reach.proofs.space.Space.note.Goals as goal

pub returns : goal.returns
returns c =
    let m = c.args.machine.now in
    let u = c.args.self.now in
    let w = c.key.new.self in
    let z = c.number.new.self in
    let key = c.in_ok-key.key in
    let made = c.in_ok-key.ensures in
    let e = c.in_ok-number.ensures in
    let k = c.in_ok-number.number in
    let keeps : KeyKeeps z.parts z.shareds key m =
    subst (λ (xs : List SharedValue). KeyKeeps z.parts xs key m) (sym e.shareds)
    (subst (λ (xs : List CpuState). KeyKeeps xs w.shareds key m) (sym e.parts) made.key) in
    let size = ap (λ (ks : List Key). length ks) made.states.keys in
    record {
      there = slice_get_within z.keys k e.found.item e.found.is;
      alike = λ s has kind. number_alike z k key s m c.formed.ensures e.found keeps has kind;
      grows = grows_then u w z made.states.grows e.grows;
      one = λ j high low.
          let one = e.one j (omega (arith, high, size)) low in
          (one.0, record { key = key; is = one.1; keeps = keeps });
      folds = e.folds ∙ made.states.folds;
      machine = made.machine;
    }
