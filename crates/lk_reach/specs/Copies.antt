-- Copies of a setup, with room for what it has and no more.
use Rattle.std.specs.Prelude.{List, length, map}
use Rattle.lk_names.specs.ListOf.{ListOf}
use Rattle.lk_rows.specs.declared.setup.Setup.{Setup}

-- a list of these items, with room for no more
abbrev pub full : {A : Type 0} → List A → ListOf A
full xs = record { items = xs; room = length xs }

-- the list with room for no more than it has
abbrev pub tight : {A : Type 0} → ListOf A → ListOf A
tight list = full list.items

-- and each list in it
abbrev pub tight_lists : {A : Type 0} → ListOf (ListOf A) → ListOf (ListOf A)
tight_lists list = full (map tight list.items)

abbrev pub tight_setup : Setup → Setup
tight_setup setup = record setup {
  topology = record { sockets = tight setup.topology.sockets };
  locks = tight setup.locks;
  progs = tight_lists setup.progs;
  irqs = full (map tight_lists setup.irqs.items);
}
