use Rattle.std.proofs.Common.{◌≡◌, ℕ, suc, ◌+◌, ◌++◌, Option, length, sym, ap, ◌∙◌, arith}
use Rattle.std.proofs.Common.{length-append}
use Rattle.std.proofs.{lemmas.List.{append-nil, append_assoc}, lemmas.Nat.row_fits}
use Rattle.lk_lock.proofs.Names.{ListOf, Key, all_behind, firsts, laid}
use Rattle.lk_lock.proofs.Laid.{many_behind, many_firsts}
use Rattle.lk_lock.proofs.laying.laid_out.Goals as goal

pub take_firsts-requires : goal.take_firsts-requires
take_firsts-requires c =
    let inv = c.loop.invariant in
    let n = length c.args.keys.items in
    let was = inv.long in
    let same = inv.many in
    let room = inv.room in
    let lt = c.loop-test.true in
    let fits = row_fits c.loop.counter n c.args.values n lt (omega arith) in
    omega (arith, was, same, room, fits)

pub loop-preserved : goal.loop-preserved
loop-preserved c =
    let inv = c.loop.invariant in
    let all = c.loop.all.items in
    let keys = c.loop.keys.items in
    let was = inv.long in
    let same = inv.many in
    let longer : length c.take_firsts.new.all.items ≡ length all + length keys =
    ap (λ (z : ListOf (Option Key)). length z.items) c.take_firsts.ensures.all
    ∙ (length-append all (firsts keys) ∙ ap (λ (n : ℕ). length all + n) (many_firsts keys)) in
    record {
      keys = λ n e.
          ap (λ (z : ListOf (Option Key)). z.items ++ laid n c.take_firsts.new.keys.items) c.take_firsts.ensures.all
          ∙ (ap (λ (z : ListOf (ListOf Key)). (all ++ firsts keys) ++ laid n z.items) c.take_firsts.ensures.keys
          ∙ (append_assoc all (firsts keys) (laid n (all_behind keys)) ∙ inv.keys (suc n) (omega (arith, e))));
      many = ap (λ (z : ListOf (ListOf Key)). length z.items) c.take_firsts.ensures.keys ∙ (many_behind keys ∙ same);
      room = ap (λ (z : ListOf (Option Key)). z.room) c.take_firsts.ensures.all ∙ inv.room;
      long = omega (arith, was, longer, same);
    }

pub returns : goal.returns
returns c =
    let a = c.loop-test.false in
    let d = c.loop.auto in
    sym (append-nil c.loop.all.items) ∙ c.loop.invariant.keys 0 (omega (arith, a, d))
