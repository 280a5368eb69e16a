use Rattle.std.proofs.Common.{arith, ◌≡◌, sym, subst}
use Rattle.lk_reach.proofs.Names.{Machine, Setup, IsSound, IsSought, IsSuch}
use Rattle.lk_reach.proofs.Left as left
use Rattle.lk_reach.proofs.seeking.is_sought_at.Goals as goal

pub load-requires-clause-there : goal.load-requires-clause-there
load-requires-clause-there c =
    left.loadable c.args.machine.now.setup c.args.space.now c.args.state c.args.machine.now c.requires.such
    c.requires.stepped

pub is_sought-requires : goal.is_sought-requires
is_sought-requires c =
    let z = c.args.machine.now.setup in
    let n = c.load.new.machine in
    let ld = c.load.ensures in
    let st = c.requires.stepped in
    let such : IsSuch z n = left.loaded_such z c.args.machine.now n ld.setup ld.counts
    ld.cpus ld.locks c.requires.such in
    let same : n ≡ st.state = left.loaded_is z c.args.space.now c.args.state n st.state ld.keeps such
    st.keeps st.such in
    let cpus = ld.cpus in
    let range = c.requires.range in
    record {
      such = subst (λ (q : Setup). IsSuch q n) (sym ld.setup) such;
      sound = subst IsSound (sym same) st.sound;
      range = omega (arith, cpus, range);
    }

pub returns : goal.returns
returns c =
    let z = c.args.machine.now.setup in
    let n = c.load.new.machine in
    let ld = c.load.ensures in
    let such : IsSuch z n = left.loaded_such z c.args.machine.now n ld.setup ld.counts
    ld.cpus ld.locks c.requires.such in
    record {
      yes = λ made s has such_s.
          let same : n ≡ s = left.loaded_is z c.args.space.now c.args.state n s ld.keeps such has such_s in
          subst (λ (q : Machine). IsSought c.args.sought q c.args.doing) same (c.is_sought.ensures.yes made);
      no = λ not_made s has such_s found.
          let same : n ≡ s = left.loaded_is z c.args.space.now c.args.state n s ld.keeps such has such_s in
          c.is_sought.ensures.no not_made (subst (λ (q : Machine). IsSought c.args.sought q c.args.doing) (sym same) found);
      such = subst (λ (q : Setup). IsSuch q c.is_sought.new.machine) ld.setup c.is_sought.ensures.such;
    }
