use Rattle.std.proofs.Common.{arith, ◌≡◌, ◌<◌, ◌∙◌, ap, length, sym, subst, slice_get}
use Rattle.lk_reach.proofs.Names.{Machine, Setup, IsSound, AreAlike, bared, IsSuch, after, cpus_of}
use Rattle.lk_reach.proofs.{Closed.move_in_range, Kept.one_value}
use Rattle.lk_reach.proofs.apart.Going.{programs_at, sight_alike, sound_behind, stepped}
use Rattle.lk_reach.proofs.apart.Going.{stepped_one, top_at}
use Rattle.lk_reach.proofs.Left as left
use Rattle.lk_reach.proofs.ends.staying.leads_by.Goals as goal

pub load-requires-clause-there : goal.load-requires-clause-there
load-requires-clause-there c =
    let z = c.args.machine.now.setup in
    left.loadable z c.args.space.now c.args.state c.args.machine.now c.requires.such
    (stepped c.args.plan.now z c.args.space.now c.requires.may c.args.state c.requires.there)

pub seen_of-before-requires : goal.seen_of-before-requires
seen_of-before-requires c =
    let z = c.args.machine.now.setup in
    let n = c.load.new.machine in
    let ld = c.load.ensures in
    let st = stepped c.args.plan.now z c.args.space.now c.requires.may c.args.state c.requires.there in
    let such : IsSuch z n = left.loaded_such z c.args.machine.now n ld.setup ld.counts
    ld.cpus ld.locks c.requires.such in
    let same : n ≡ st.state = left.loaded_is z c.args.space.now c.args.state n st.state ld.keeps such st.keeps st.such in
    let sound = subst IsSound (sym same) st.sound in
    let doing = c.act-doing.result in
    let range = move_in_range c.args.plan.now.extras z doing (c.requires.may.moves c.args.number doing c.act-doing.ensures) in
    let cpus = such.cpus in
    let is = c.cpu_of-cpu.ensures in
    let low : c.cpu_of-cpu.result < length n.cpus = omega (arith, range, cpus, is) in
    record { top = top_at n sound c.cpu_of-cpu.result low; programs = programs_at n sound c.cpu_of-cpu.result low }

pub make-requires : goal.make-requires
make-requires c =
    let z = c.args.machine.now.setup in
    let n = c.load.new.machine in
    let ld = c.load.ensures in
    let st = stepped c.args.plan.now z c.args.space.now c.requires.may c.args.state c.requires.there in
    let such : IsSuch z n = left.loaded_such z c.args.machine.now n ld.setup ld.counts
    ld.cpus ld.locks c.requires.such in
    let same : n ≡ st.state = left.loaded_is z c.args.space.now c.args.state n st.state ld.keeps such st.keeps st.such in
    let doing = c.act-doing.result in
    let range = move_in_range c.args.plan.now.extras z doing (c.requires.may.moves c.args.number doing c.act-doing.ensures) in
    let cpus = such.cpus in
    record {
      such = subst (λ (q : Setup). IsSuch q n) (sym ld.setup) such;
      sound = subst IsSound (sym same) st.sound;
      range = omega (arith, range, cpus);
    }

pub seen_of-behind-requires : goal.seen_of-behind-requires
seen_of-behind-requires c =
    let z = c.args.machine.now.setup in
    let n = c.load.new.machine in
    let m = c.make.new.machine in
    let ld = c.load.ensures in
    let st = stepped c.args.plan.now z c.args.space.now c.requires.may c.args.state c.requires.there in
    let such : IsSuch z n = left.loaded_such z c.args.machine.now n ld.setup ld.counts
    ld.cpus ld.locks c.requires.such in
    let same : n ≡ st.state = left.loaded_is z c.args.space.now c.args.state n st.state ld.keeps such st.keeps st.such in
    let doing = c.act-doing.result in
    let sound = subst IsSound (sym (c.make.ensures.after ∙ ap (λ (x : Machine). after x doing) same))
    (sound_behind c.args.plan.now z c.args.space.now c.requires.may c.args.state c.requires.there c.args.number doing c.act-doing.ensures) in
    let range = move_in_range c.args.plan.now.extras z doing (c.requires.may.moves c.args.number doing c.act-doing.ensures) in
    let cpus = c.make.ensures.such.cpus ∙ ap (λ (q : Setup). cpus_of q) ld.setup in
    let is = c.cpu_of-cpu.ensures in
    let low : c.cpu_of-cpu.result < length m.cpus = omega (arith, range, cpus, is) in
    record { top = top_at m sound c.cpu_of-cpu.result low; programs = programs_at m sound c.cpu_of-cpu.result low }

pub returns : goal.returns
returns c =
    let z = c.args.machine.now.setup in
    let n = c.load.new.machine in
    let m = c.make.new.machine in
    let ld = c.load.ensures in
    let st = stepped c.args.plan.now z c.args.space.now c.requires.may c.args.state c.requires.there in
    let such : IsSuch z n = left.loaded_such z c.args.machine.now n ld.setup ld.counts
    ld.cpus ld.locks c.requires.such in
    let same : n ≡ st.state = left.loaded_is z c.args.space.now c.args.state n st.state ld.keeps such st.keeps st.such in
    let doing = c.act-doing.result in
    record {
      other = λ yes a at s keeps reached alike.
          let is = same ∙ stepped_one c.args.plan.now z c.args.space.now c.requires.may c.args.state c.requires.there s keeps reached in
          let by : doing ≡ a = one_value (slice_get c.args.plan.now.acts.items c.args.number) doing a c.act-doing.ensures at in
          let to = c.make.ensures.after ∙ (λ i. after (is i) (by i)) in
          let like : AreAlike m n = ap (λ (x : Machine). bared x) to ∙ alike ∙ ap (λ (x : Machine). bared x) (sym is) in
          c.differ.ensures yes (c.seen_of-behind.ensures ∙ sight_alike m n like c.cpu_of-cpu.result ∙ sym c.seen_of-before.ensures);
      such = subst (λ (q : Setup). IsSuch q m) ld.setup c.make.ensures.such;
    }
