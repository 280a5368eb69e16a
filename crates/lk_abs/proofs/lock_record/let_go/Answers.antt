-- The earliest such hold is taken out, if there is one.
use Rattle.std.proofs.Common.{sym, ap, ◌∙◌}
use Rattle.std.specs.List.{position}
use Rattle.lk_names.specs.History.{is_hold}
use Rattle.lk_abs.proofs.Holding.{remove_from_position, same_from_no_position}
use Rattle.lk_abs.proofs.lock_record.let_go.Goals as goal

pub returns-in-Some : goal.returns-in-Some
returns-in-Some c =
    c.remove.ensures.items ∙ ap (λ xs. record { items = xs; room = c.args.holders.now.room }) (remove_from_position c.args.by c.args.manner c.args.holders.now.items c.in-Some.at (ap (position (is_hold c.args.by c.args.manner)) (sym c.as_slice.ensures) ∙ sym c.place_of_hold.ensures.value ∙ c.in-Some.is))

pub returns-in-None : goal.returns-in-None
returns-in-None c =
    ap (λ xs. record { items = xs; room = c.args.holders.now.room }) (sym (same_from_no_position c.args.by c.args.manner c.args.holders.now.items (ap (position (is_hold c.args.by c.args.manner)) (sym c.as_slice.ensures) ∙ sym c.place_of_hold.ensures.value ∙ c.in-None.is)))
