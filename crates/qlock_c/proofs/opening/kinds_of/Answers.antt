use Rattle.std.proofs.Common.{◌++◌, ◌∷◌, [], length, length-append, map, take, sym, ap, ◌∙◌, arith}
use Rattle.lk_names.specs.ListOf.{ListOf}
use Rattle.lk_names.specs.declared.names.Kind.{Kind}
use Rattle.qlock_c.specs.Opened.{kind_numbered}
use Rattle.qlock_c.proofs.Opened.{map_more, take_all}
use Rattle.qlock_c.proofs.opening.kinds_of.Goals as goal

pub loop-i-init : goal.loop-i-init
loop-i-init c =
    let is = c.in_ok-all.ensures in
    record {
      made = ap (λ (l : ListOf Kind). l.items) is;
      many = ap (λ (l : ListOf Kind). length l.items) is;
      room = ap (λ (l : ListOf Kind). l.room) is;
    }

pub push-requires : goal.push-requires
push-requires c = omega (arith, c.loop-i.invariant.many, c.loop-i.invariant.room, c.loop-i-test.true)

pub loop-i-preserved : goal.loop-i-preserved
loop-i-preserved c =
    let is = c.push.ensures in
    let inv = c.loop-i.invariant in
    let more = ap (λ (l : ListOf Kind). length l.items) is ∙ length-append c.loop-i.all.items (c.kind_of.result ∷ []) in
    record {
      made = ap (λ (l : ListOf Kind). l.items) is
          ∙ (ap (λ ks. ks ++ c.kind_of.result ∷ []) inv.made
          ∙ (ap (λ (k : Kind). map kind_numbered (take c.loop-i.i c.args.kinds.now) ++ k ∷ []) c.kind_of.ensures
          ∙ sym (map_more kind_numbered c.args.kinds.now c.loop-i.i 0 c.loop-i-test.true)));
      many = omega (arith, more, inv.many);
      room = ap (λ (l : ListOf Kind). l.room) is ∙ inv.room;
    }

pub returns : goal.returns
returns c =
    c.loop-i.invariant.made ∙ ap (map kind_numbered) (take_all c.args.kinds.now c.loop-i.i c.loop-i-test.false)
