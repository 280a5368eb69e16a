use Rattle.std.proofs.Common.{◌≡◌, ℕ, ◌+◌, ◌∷◌, ◌++◌, [], List, Option, Some, length, sym, ap, ◌∙◌}
use Rattle.std.proofs.Common.{arith, length-append, slice_get, slice_set}
use Rattle.std.proofs.lemmas.List.{append_assoc}
use Rattle.lk_lock.proofs.Names.{ListOf, Key, all_behind, firsts}
use Rattle.lk_lock.proofs.Laid.{firsts_more, long, many_firsts, next_left, set_at}
use Rattle.lk_lock.proofs.laying.take_firsts.Goals as goal

pub get_mut-requires : goal.get_mut-requires
get_mut-requires c =
    let inv = c.loop-lock.invariant in
    let test = c.loop-lock-test.true in
    let len = c.len-lock-end.ensures in
    let e : length c.loop-lock.keys.items ≡ length c.args.keys.now.items =
    ap (λ (z : ListOf (ListOf Key)). length z.items) inv.keys
    ∙ (long inv.done inv.left ∙ sym (ap (λ (xs : List (ListOf Key)). length xs) inv.whole)) in
    omega (arith, test, len, e)

pub push-requires : goal.push-requires
push-requires c =
    let inv = c.loop-lock.invariant in
    let test = c.loop-lock-test.true in
    let len = c.len-lock-end.ensures in
    let room = c.requires.room in
    let e : length c.loop-lock.all.items ≡ length c.args.all.now.items + c.loop-lock.lock =
    ap (λ (z : ListOf (Option Key)). length z.items) inv.all
    ∙ (length-append c.args.all.now.items (firsts inv.done)
    ∙ ap (λ (n : ℕ). length c.args.all.now.items + n) (many_firsts inv.done ∙ inv.many)) in
    let same : c.loop-lock.all.room ≡ c.args.all.now.room = ap (λ (z : ListOf (Option Key)). z.room) inv.all in
    omega (arith, test, len, room, e, same)

pub loop-lock-preserved : goal.loop-lock-preserved
loop-lock-preserved c =
    let inv = c.loop-lock.invariant in
    let x = c.get_mut.result.now in
    let n = c.loop-lock.lock in
    let fresh = c.take_first.new.keys in
    let room = c.args.keys.now.room in
    let items = c.args.all.now.items in
    let size = c.args.all.now.room in
    let here : slice_get (all_behind inv.done ++ inv.left) (length inv.done) ≡ Some x =
    ap (λ (m : ℕ). slice_get (all_behind inv.done ++ inv.left) m) inv.many
    ∙ (sym (ap (λ (z : ListOf (ListOf Key)). slice_get z.items n) inv.keys) ∙ c.get_mut.ensures.value) in
    let next = next_left inv.done inv.left x here in
    let more = next.0 in
    record {
      done = inv.done ++ x ∷ [];
      left = more;
      whole = inv.whole ∙ (ap (λ (xs : List (ListOf Key)). inv.done ++ xs) next.1 ∙ sym (append_assoc inv.done (x ∷ []) more));
      many = length-append inv.done (x ∷ []) ∙ ap (λ (m : ℕ). m + 1) inv.many;
      keys =
          ap (λ (z : ListOf (ListOf Key)). let r : ListOf (ListOf Key) = record { items = slice_set z.items n fresh; room = z.room } in r) inv.keys
          ∙ (ap (λ (xs : List (ListOf Key)). let r : ListOf (ListOf Key) = record { items = slice_set (all_behind inv.done ++ xs) n fresh; room = room } in r) next.1
          ∙ (ap (λ (m : ℕ). let r : ListOf (ListOf Key) = record { items = slice_set (all_behind inv.done ++ x ∷ more) m fresh; room = room } in r) (sym inv.many)
          ∙ (ap (λ (y : ListOf Key). let r : ListOf (ListOf Key) = record { items = slice_set (all_behind inv.done ++ x ∷ more) (length inv.done) y; room = room } in r) c.take_first.ensures.left
          ∙ ap (λ (xs : List (ListOf Key)). let r : ListOf (ListOf Key) = record { items = xs; room = room } in r) (set_at inv.done more x))));
      all =
          c.push.ensures
          ∙ (ap (λ (z : ListOf (Option Key)). let r : ListOf (Option Key) = record { items = z.items ++ c.take_first.result ∷ []; room = z.room } in r) inv.all
          ∙ ap (λ (xs : List (Option Key)). let r : ListOf (Option Key) = record { items = xs; room = size } in r)
          (append_assoc items (firsts inv.done) (c.take_first.result ∷ [])
          ∙ ap (λ (xs : List (Option Key)). items ++ xs)
          (ap (λ (o : Option Key). firsts inv.done ++ o ∷ []) c.take_first.ensures.key ∙ firsts_more inv.done x)));
    }
