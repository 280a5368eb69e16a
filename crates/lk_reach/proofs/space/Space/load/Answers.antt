use Rattle.std.proofs.Common.{arith, ◌≡◌, ◌∙◌, ℕ, ap, get_or, subst, sym, Some, length, ◌+◌}
use Rattle.std.proofs.Common.{slice_get}
use Rattle.lk_reach.proofs.Names.{slice_get-get_or, slice_get_within, Machine, HasShared}
use Rattle.lk_reach.proofs.Names.{SpaceValue}
use Rattle.lk_rows.specs.Machine.{cpu_at}
use Rattle.lk_machine.specs.Parts.{Holds}
use Rattle.lk_reach.proofs.Kept.{put_numbered, set_cpus, set_locks, set_shared, set_same_setup}
use Rattle.lk_reach.proofs.Kept.{all_numbered, Numbered, key_there, part_there, shared_there}
use Rattle.lk_reach.proofs.Kept.{item_there, fitting, put_holds}
use Rattle.lk_reach.proofs.space.Space.load.Goals as goal

pub put_shared-requires : goal.put_shared-requires
put_shared-requires c =
    let v = c.args.self.now in
    let m = c.args.machine.now in
    let at = c.requires.there in
    let x = c.index.result.now in
    let same = key_there v c.args.state at.state c.at-key.result at.keeps
    (subst (λ (u : SpaceValue). slice_get u.keys c.args.state ≡ Some c.at-key.result) c.self.view_is c.at-key.ensures) in
    let here = shared_there v c.args.state at.state c.at-key.result at.keeps same in
    let holds = item_there v.shareds c.at-key.result.shared at.state x here
    (c.index.ensures ∙ ap (λ (i : ℕ). get_or c.self.inside.shareds.items.items i x) c.shared.ensures
    ∙ ap (λ (u : SpaceValue). get_or u.shareds c.at-key.result.shared x) c.self.view_is) in
    fitting at.state m x at.setup at.cpus at.locks holds

pub loop-cpu-init : goal.loop-cpu-init
loop-cpu-init c =
    let v = c.args.self.now in
    let m = c.args.machine.now in
    let at = c.requires.there in
    let x = c.index.result.now in
    let key = c.at-key.result in
    let same = key_there v c.args.state at.state key at.keeps
    (subst (λ (u : SpaceValue). slice_get u.keys c.args.state ≡ Some key) c.self.view_is c.at-key.ensures) in
    let here = shared_there v c.args.state at.state key at.keeps same in
    let is_x : x ≡ get_or v.shareds key.shared x =
    c.index.ensures ∙ ap (λ (i : ℕ). get_or c.self.inside.shareds.items.items i x) c.shared.ensures
    ∙ ap (λ (u : SpaceValue). get_or u.shareds key.shared x) c.self.view_is in
    let fits = fitting at.state m x at.setup at.cpus at.locks (item_there v.shareds key.shared at.state x here is_x) in
    let new = c.put_shared.ensures in
    record {
      shared = record {
        item = x;
        is = slice_get-get_or v.shareds key.shared x (slice_get_within v.shareds key.shared here.item here.is)
            ∙ ap Some (sym is_x);
        holds = subst (Holds x) (sym new) (put_holds m x fits);
      };
      each = λ p low. absurd (omega (arith, low));
      setup = ap (λ (k : Machine). k.setup) new;
      counts = ap (λ (k : Machine). k.counts) new;
      cpus = ap (λ (k : Machine). length k.cpus) new;
      locks = ap (λ (k : Machine). length k.locks) new ∙ fits.locks;
    }

pub index-requires-in-loop-cpu : goal.index-requires-in-loop-cpu
index-requires-in-loop-cpu c =
    let v = c.args.self.now in
    let at = c.requires.there in
    let key = c.at-key.result in
    let same = key_there v c.args.state at.state key at.keeps
    (subst (λ (u : SpaceValue). slice_get u.keys c.args.state ≡ Some key) c.self.view_is c.at-key.ensures) in
    let low = c.loop-cpu-test.true in
    let end = c.cpus-cpu-end.ensures in
    let put = ap (λ (k : Machine). length k.cpus) c.put_shared.ensures in
    let cpus = at.cpus in
    let number = part_there v c.args.state at.state key at.keeps same c.loop-cpu.cpu c.part.result
    (omega (arith, low, end, put, cpus)) c.part.ensures in
    let within = slice_get_within v.parts c.part.result (cpu_at at.state c.loop-cpu.cpu) number in
    let count = ap (λ (u : SpaceValue). length u.parts) c.self.view_is in
    omega (arith, within, count)

pub put_cpu-requires : goal.put_cpu-requires
put_cpu-requires c =
    let low = c.loop-cpu-test.true in
    let end = c.cpus-cpu-end.ensures in
    let put = ap (λ (k : Machine). length k.cpus) c.put_shared.ensures in
    let cpus = c.loop-cpu.invariant.cpus in
    omega (arith, low, end, put, cpus)

pub loop-cpu-preserved : goal.loop-cpu-preserved
loop-cpu-preserved c =
    let v = c.args.self.now in
    let at = c.requires.there in
    let key = c.at-key.result in
    let same = key_there v c.args.state at.state key at.keeps
    (subst (λ (u : SpaceValue). slice_get u.keys c.args.state ≡ Some key) c.self.view_is c.at-key.ensures) in
    let inv = c.loop-cpu.invariant in
    let m = c.loop-cpu.machine in
    let n = c.loop-cpu.cpu in
    let part = c.index-in-loop-cpu.result.now in
    let new = c.put_cpu.ensures in
    let low = c.loop-cpu-test.true in
    let end = c.cpus-cpu-end.ensures in
    let put = ap (λ (k : Machine). length k.cpus) c.put_shared.ensures in
    let cpus = inv.cpus in
    let first = at.cpus in
    let number = part_there v c.args.state at.state key at.keeps same n c.part.result
    (omega (arith, low, end, put, first)) c.part.ensures in
    let is_part : part ≡ get_or v.parts c.part.result part =
    c.index-in-loop-cpu.ensures ∙ ap (λ (u : SpaceValue). get_or u.parts c.part.result part) c.self.view_is in
    let there : slice_get v.parts c.part.result ≡ Some part =
    slice_get-get_or v.parts c.part.result part (slice_get_within v.parts c.part.result (cpu_at at.state n) number)
    ∙ ap Some (sym is_part) in
    record {
      shared = subst (λ (k : Machine). HasShared v.shareds key.shared k) (sym new)
          (set_shared v.shareds key.shared n m part inv.shared);
      each = subst (λ (k : Machine). Numbered key.cpus v.parts k (n + 1)) (sym new)
          (put_numbered key.cpus v.parts m n c.part.result part (omega (arith, low, end, put, cpus)) c.part.ensures
          there inv.each);
      setup = ap (λ (k : Machine). k.setup) new ∙ (set_same_setup m n part).0 ∙ inv.setup;
      counts = ap (λ (k : Machine). k.counts) new ∙ (set_same_setup m n part).1 ∙ inv.counts;
      cpus = ap (λ (k : Machine). length k.cpus) new ∙ set_cpus m n part ∙ inv.cpus;
      locks = ap (λ (k : Machine). length k.locks) new ∙ set_locks m n part ∙ inv.locks;
    }

pub returns-clause-keeps : goal.returns-clause-keeps
returns-clause-keeps c =
    let v = c.args.self.now in
    let at = c.requires.there in
    let key = c.at-key.result in
    let put = ap (λ (k : Machine). length k.cpus) c.put_shared.ensures in
    let cpus = c.loop-cpu.invariant.cpus in
    let end = c.cpus-cpu-end.ensures in
    let high = c.loop-cpu-test.false in
    record {
      key = key;
      is = subst (λ (u : SpaceValue). slice_get u.keys c.args.state ≡ Some key) c.self.view_is c.at-key.ensures;
      keeps = record {
        shared = c.loop-cpu.invariant.shared;
        each = all_numbered key.cpus v.parts c.loop-cpu.machine c.loop-cpu.cpu (omega (arith, put, cpus, end, high))
            c.loop-cpu.invariant.each;
      };
    }
