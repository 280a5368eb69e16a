-- Where programs are, and the order of a setup from that of its processors.
use Rattle.std.proofs.Common.{◌≡◌, ◌<◌, ◌≤◌, ◌-◌, ◌⊎◌, inl, inr, ℕ, Some, Bool, true, false, List, [], length, refl, sym, ap, ◌∙◌, arith}
use Rattle.std.specs.Prelude.{slice_get, slice_index_or, ◌==◌, if◌then◌else◌}
use Rattle.std.proofs.lemmas.Bool.{cases_lt}
use Rattle.std.proofs.lemmas.Bool.Decides.{nat_tests}
use Rattle.std.proofs.lemmas.List.{get_or_past}
use Rattle.std.proofs.lemmas.Option.{none-some}
use Rattle.lk_names.specs.ListOf.{ListOf}
use Rattle.lk_rows.specs.declared.setup.Op.{Op}
use Rattle.lk_rows.specs.declared.setup.Setup.{Setup}
use Rattle.lk_rows.specs.Programs.{HasPrograms, IsLawfulSetup, handlers_of, program_at}
use Rattle.lk_progress.specs.Ordered.{IsOrdered}
use Rattle.lk_order.specs.Checked.{IsInOrder}

-- the programs of a processor are there
pub has_programs : (setup : Setup) (p : ℕ) → IsLawfulSetup setup → p < length setup.topology.sockets.items → HasPrograms setup p
has_programs setup p lawful here = record {
  task = omega (arith, here, lawful.progs);
  handlers = omega (arith, here, lawful.irqs);
  few = lawful.handlers p;
}

-- a processor that is not there has no handlers
pub no_handlers : (setup : Setup) (p : ℕ) → length setup.irqs.items ≤ p → handlers_of setup p ≡ 0
unfolding handlers_of
no_handlers setup p out = ap (λ (x : ListOf (ListOf Op)). length x.items) (get_or_past setup.irqs.items p (record { items = []; room = 0 }) out)

-- a program that is not there has no operations
no_program : (setup : Setup) (p h : ℕ) → IsLawfulSetup setup → (length setup.topology.sockets.items ≤ p) ⊎ (handlers_of setup p < h) → program_at setup p h ≡ []
unfolding handlers_of program_at
no_program setup p h lawful out = by_number (h == 0) refl
  where
    task : ListOf Op
    task = slice_index_or setup.progs.items p (record { items = []; room = 0 })

    handlers : ListOf (ListOf Op)
    handlers = slice_index_or setup.irqs.items p (record { items = []; room = 0 })

    by_number : (b : Bool) → (h == 0) ≡ b → (if b then task.items else (slice_index_or handlers.items (h - 1) (record { items = []; room = 0 })).items) ≡ []
    by_number true is = of_task out
      where
        first : h ≡ 0
        first = grind (arith, nat_tests, is)

        of_task : (length setup.topology.sockets.items ≤ p) ⊎ (length handlers.items < h) → task.items ≡ []
        of_task (inl past) = ap (λ (x : ListOf Op). x.items) (get_or_past setup.progs.items p (record { items = []; room = 0 }) (omega (arith, past, lawful.progs)))
        of_task (inr more) = absurd (omega (arith, more, first))
    by_number false is = of_handler out
      where
        later : 0 < h
        later = grind (arith, nat_tests, is)

        past_all : length handlers.items ≤ h - 1 → (slice_index_or handlers.items (h - 1) (record { items = []; room = 0 })).items ≡ []
        past_all past = ap (λ (x : ListOf Op). x.items) (get_or_past handlers.items (h - 1) (record { items = []; room = 0 }) past)

        none : length setup.irqs.items ≤ p → length handlers.items ≡ 0
        none past = ap (λ (x : ListOf (ListOf Op)). length x.items) (get_or_past setup.irqs.items p (record { items = []; room = 0 }) past)

        of_handler : (length setup.topology.sockets.items ≤ p) ⊎ (length handlers.items < h) → (slice_index_or handlers.items (h - 1) (record { items = []; room = 0 })).items ≡ []
        of_handler (inl past) =
            let empty = none (omega (arith, past, lawful.irqs)) in
            past_all (omega (arith, empty))
        of_handler (inr more) = past_all (omega (arith, more, later))

-- an operation is one of a processor that is there, and of its task or of a handler of it
is_inside : (setup : Setup) (p h n : ℕ) (o : Op) → IsLawfulSetup setup → slice_get (program_at setup p h) n ≡ Some o
    → (p < length setup.topology.sockets.items) × (h ≤ handlers_of setup p)
is_inside setup p h n o lawful there = by_place (cases_lt p (length setup.topology.sockets.items)) (cases_lt (handlers_of setup p) h)
  where
    outside : (length setup.topology.sockets.items ≤ p) ⊎ (handlers_of setup p < h) → ⊥
    outside out = none-some o (sym (ap (λ (ops : List Op). slice_get ops n) (no_program setup p h lawful out)) ∙ there)

    by_place : (p < length setup.topology.sockets.items) ⊎ (length setup.topology.sockets.items ≤ p) → (handlers_of setup p < h) ⊎ (h ≤ handlers_of setup p)
        → (p < length setup.topology.sockets.items) × (h ≤ handlers_of setup p)
    by_place (inl here) (inr few) = (here, few)
    by_place (inr out) few = absurd (outside (inl out))
    by_place (inl here) (inl out) = absurd (outside (inr out))

-- the processors in order make an ordered setup
pub ordered : (rank : ℕ → ℕ) (size : ℕ) (setup : Setup) → IsLawfulSetup setup → ((i : ℕ) → rank i < size)
    → ((p : ℕ) → p < length setup.topology.sockets.items → (h : ℕ) → h ≤ handlers_of setup p → IsInOrder rank setup p h)
    → IsOrdered rank size setup
ordered rank size setup lawful below each = record {
  below = below;
  nested = λ p h n i o way there waits holds.
      let at = is_inside setup p h n o lawful there in
      (each p at.0 h at.1).nests i n o way there waits holds;
  above = λ p g h n k o q less there waits named.
      let at = is_inside setup p h n o lawful there in
      (each p at.0 h at.1).above g less n o there waits k q named;
}
