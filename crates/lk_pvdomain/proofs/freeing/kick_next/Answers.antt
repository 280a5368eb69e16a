use Rattle.std.proofs.Common.{List, Some, refl, sym, subst, ap, ◌∙◌, ◌<◌, arith}
use Rattle.lk_pvdomain.proofs.Names.{Frees, Hold, lock_name, Ledger, cpus_of, out_in, IsNode, Plan}
use Rattle.lk_domain.proofs.Outs.{freed_out}
use Rattle.lk_domain.specs.declared.locks.moves.WordUse.TheVariants.{Drops}
use Rattle.lk_pvdomain.proofs.ways.Frees.{u3_finds, u4_frees, u5_kicks, kick_asks, out_kept}
use Rattle.lk_pvdomain.proofs.ways.Frees.{pair_cpu, freed_once, kicked}
use Rattle.lk_pvdomain.proofs.ways.Leads.{word_asks, seek_asks}
use Rattle.lk_pvdomain.proofs.freeing.kick_next.Goals as goal

pub take_out-pair-requires : goal.take_out-pair-requires
take_out-pair-requires c =
    let w = c.requires.at.2 in
    record { on = (_, w.of); lock = w.low; row = seek_asks w refl; fresh = w.fresh }

pub go_on-requires : goal.go_on-requires
go_on-requires c =
    let v = c.requires.at.2 in
    let w = u3_finds c.take_out-pair.ensures.same v c.take_out-pair.ensures.step in
    record {
      on = (_, w.of);
      lock = w.low;
      row = word_asks w Drops refl;
      home = λ e. record {
        journal = λ first. ap (λ (y : Ledger). y.out) (w.ledger ∙ sym v.ledger) ∙ c.requires.home first;
        value = λ plain. ap (λ (hs : List Hold). out_in hs c.args.lock) (w.holds ∙ sym v.holds) ∙ c.requires.value;
      };
    }

pub kick-requires : goal.kick-requires
kick-requires c =
    let v = c.requires.at.2 in
    let k = c.take_out-pair.ensures.step in
    let w = u3_finds c.take_out-pair.ensures.same v k in
    let x = u4_frees c.go_on.ensures.same w c.go_on.ensures.step in
    let few = c.args.domain.now.lawful.locks in
    let low = v.low in
    let near = subst (λ (p : Plan). IsNode p k.node) v.of.plan k.near in
    let cpu = pair_cpu c.args.lock k.node c.take_out-pair.result (omega (arith, few, low)) near.index k.word in
    record {
      on = (_, x.1.of);
      target = subst (λ n. n < cpus_of c.args.domain.now.plan) (sym cpu) near.cpu;
      row = kick_asks x.1 _ (sym cpu) (record {
        journal = λ e. ap (λ (y : Ledger). y.out) x.1.ledger ∙ (out_kept Frees c.requires.at.1.ledger c.args.lock x.0
            ∙ (ap (λ (y : Ledger). y.out) (sym v.ledger) ∙ c.requires.home e));
        value = λ plain. ap (λ (hs : List Hold). out_in hs c.args.lock) x.1.holds
            ∙ freed_out 0 (lock_name c.args.lock) c.requires.at.1.holds c.args.lock
            (ap (λ (hs : List Hold). out_in hs c.args.lock) (sym v.holds) ∙ c.requires.value);
      });
    }

pub returns : goal.returns
returns c =
    record {
      freed = λ own s v.
          let w = u3_finds c.take_out-pair.ensures.same v c.take_out-pair.ensures.step in
          let x = u4_frees c.go_on.ensures.same w c.go_on.ensures.step in
          freed_once x.0 (u5_kicks c.kick.ensures.same c.kick.ensures.step.found x.1 c.kick.ensures.step.seat);
      whom =
          let v = c.requires.at.2 in
          let k = c.take_out-pair.ensures.step in
          let few = c.args.domain.now.lawful.locks in
          let low = v.low in
          let near = subst (λ (p : Plan). IsNode p k.node) v.of.plan k.near in
          let cpu = pair_cpu c.args.lock k.node c.take_out-pair.result (omega (arith, few, low)) near.index k.word in
          kicked c.take_out-pair.ensures.same c.go_on.ensures.same c.kick.ensures.same v k c.go_on.ensures.step c.kick.ensures.step.found c.kick.ensures.step.seat
          ∙ ap (λ n. Some n) (sym cpu);
      low =
          let v = c.requires.at.2 in
          let k = c.take_out-pair.ensures.step in
          let few = c.args.domain.now.lawful.locks in
          let low = v.low in
          let near = subst (λ (p : Plan). IsNode p k.node) v.of.plan k.near in
          let cpu = pair_cpu c.args.lock k.node c.take_out-pair.result (omega (arith, few, low)) near.index k.word in
          subst (λ n. n < cpus_of c.args.domain.now.plan) (sym cpu) near.cpu;
    }
