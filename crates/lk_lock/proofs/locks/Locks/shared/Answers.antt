use Rattle.std.proofs.Common.{ℕ, ◌+◌, refl, sym, ap, ◌∙◌}
use Rattle.lk_lock.proofs.Names.{Rw, names_of}
use Rattle.lk_lock.proofs.{Laid.{are_shut, many_names}, Mades.{among, keeps, keeps_shared}}
use Rattle.lk_lock.proofs.locks.Locks.shared.Goals as goal

pub add-id-requires-clause-shut : goal.add-id-requires-clause-shut
add-id-requires-clause-shut g c =
    are_shut (names_of c.in_ok-cells.cells.items) c.in_ok-cells.keys.items c.in_ok-cells.ensures.keys

pub returns-clause-kept : goal.returns-clause-kept
returns-clause-kept g c =
    keeps c.args.self.now _ Rw c.in_ok-cells.keys c.add-id.ensures.kinds c.add-id.ensures.keys

pub returns-clause-shared : goal.returns-clause-shared
returns-clause-shared g c =
    keeps_shared c.args.self.now _ Rw c.in_ok-cells.keys c.add-id.ensures.kinds c.add-id.ensures.keys c.add-id.ensures.same.0
    (λ was. refl)

pub returns-clause-made : goal.returns-clause-made
returns-clause-made g c =
    let cells = c.in_ok-cells.cells.items in
    record {
      among = among c.args.self.now _ Rw c.in_ok-cells.keys c.add-id.ensures.kinds c.add-id.ensures.keys c.add-id.result.index
          (names_of cells) c.add-id.ensures.id c.args.self.now.many c.in_ok-cells.ensures.keys;
      many = many_names cells ∙ (c.in_ok-cells.ensures.many ∙ ap (λ (n : ℕ). 1 + n) (sym c.add-id.ensures.same.0));
      copied = refl;
    }
