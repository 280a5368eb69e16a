-- A header keeps room for what may come.
use Rattle.std.proofs.Common.{◌≡◌, ◌≤◌, ℕ, List, [], ◌∷◌, Ok, refl, sym, ◌∙◌, arith, length-append, length-set}
use Rattle.std.proofs.Math.ListN.{length-replicate}
use Rattle.std.proofs.lemmas.List.Elements.{All-replicate, All-set, All-get_or}
use Rattle.lk_names.specs.declared.names.Format.{Format}
use Rattle.lk_names.specs.declared.names.Format.TheVariants.{One, Two}
use Rattle.lk_rows.specs.declared.setup.Setup.{Setup}
use Rattle.lk_forms.specs.declared.limits.TheConstants.{MAX_HANDLERS, MAX_WIDE_CPUS}
use Rattle.lk_forms.specs.Grammar.{list_of, given_handlers, with_more, most_cpus, header_line}
use Rattle.lk_forms.specs.Agrees.{IsRoomy}
use Rattle.lk_forms.specs.declared.keyword.Keyword.{Keyword}
use Rattle.lk_forms.proofs.Changes.{Changes, to_mode, to_cpus, to_sockets, to_threshold, to_spins, one_lock, one_program, one_handler, nothing, header_line-changes}

-- no format has more processors than the wide one
most_within : (format : Format) → most_cpus format ≤ MAX_WIDE_CPUS
most_within One = omega arith
most_within Two = omega arith

pub roomy-changed : (s s' : Setup) → Changes s s' → IsRoomy s → IsRoomy s'
roomy-changed s _ (to_mode m) r = record { some = r.some; few = r.few; locks = r.locks; lock_room = r.lock_room; progs = r.progs; irqs = r.irqs; irq_rooms = r.irq_rooms }
roomy-changed s _ (to_cpus n some few) r = record {
  some = rw length-replicate some;
  few = (let most = most_within s.format in rw length-replicate (omega (arith, few, most)));
  locks = r.locks;
  lock_room = r.lock_room;
  progs = length-replicate n _ ∙ sym (length-replicate n 0);
  irqs = length-replicate n _ ∙ sym (length-replicate n 0);
  irq_rooms = All-replicate (λ handlers. handlers.room ≡ MAX_HANDLERS) n (list_of MAX_HANDLERS []) refl;
}
roomy-changed s _ (to_sockets ns many) r = record { some = rw many r.some; few = rw many r.few; locks = r.locks; lock_room = r.lock_room; progs = r.progs ∙ sym many; irqs = r.irqs ∙ sym many; irq_rooms = r.irq_rooms }
roomy-changed s _ (to_threshold t within) r = record { some = r.some; few = r.few; locks = r.locks; lock_room = r.lock_room; progs = r.progs; irqs = r.irqs; irq_rooms = r.irq_rooms }
roomy-changed s _ (to_spins n some within) r = record { some = r.some; few = r.few; locks = r.locks; lock_room = r.lock_room; progs = r.progs; irqs = r.irqs; irq_rooms = r.irq_rooms }
roomy-changed s _ (one_lock k few) r = record { some = r.some; few = r.few; locks = omega (arith, length-append s.locks.items (k ∷ [])); lock_room = r.lock_room; progs = r.progs; irqs = r.irqs; irq_rooms = r.irq_rooms }
roomy-changed s _ (one_program p words ops below read) r = record { some = r.some; few = r.few; locks = r.locks; lock_room = r.lock_room; progs = length-set s.progs.items p _ ∙ r.progs; irqs = r.irqs; irq_rooms = r.irq_rooms }
roomy-changed s _ (one_handler p words ops below few read) r = record {
  some = r.some;
  few = r.few;
  locks = r.locks;
  lock_room = r.lock_room;
  progs = r.progs;
  irqs = length-set s.irqs.items p _ ∙ r.irqs;
  irq_rooms = All-set (λ handlers. handlers.room ≡ MAX_HANDLERS) s.irqs.items p (with_more (given_handlers s p) ops) (All-get_or (λ handlers. handlers.room ≡ MAX_HANDLERS) s.irqs.items p (list_of MAX_HANDLERS []) (rw r.irqs below) r.irq_rooms) r.irq_rooms;
}
roomy-changed s _ nothing r = r

pub roomy-format : (s : Setup) (format : Format) → IsRoomy s → IsRoomy (record s { format = format })
roomy-format s format r = record { some = r.some; few = r.few; locks = r.locks; lock_room = r.lock_room; progs = r.progs; irqs = r.irqs; irq_rooms = r.irq_rooms }

pub roomy-header_line : (k : Keyword) (s : Setup) (args : List (List ℕ)) (s' : Setup) → header_line k s args ≡ Ok s' → IsRoomy s → IsRoomy s'
roomy-header_line k s args s' is r = roomy-changed s s' (header_line-changes k s args s' is) r
