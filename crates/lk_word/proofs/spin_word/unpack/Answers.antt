use Rattle.std.proofs.Common.{rules, ◌≡◌, ℕ, ◌/◌, ◌%◌, Bool, true, false, eqb, not, bit_and, cond, Some, None, Option, inl, inr, sym, refl, ap}
use Rattle.std.proofs.lemmas.Option.{same_Some, none-some}
use Rattle.lk_word.specs.declared.spin_word.NodeName.{NodeName}
use Rattle.lk_word.specs.declared.spin_word.Locked.{Locked}
use Rattle.lk_word.specs.declared.spin_word.Layout.{Layout}
use Rattle.lk_word.specs.SpinWord.{unpacked, fields_of, locked_of, tail_in, tail_of, unused_values, cpu_unit, index_unit}
use Rattle.lk_word.proofs.Masks.{and_255, bit_8_test}
use Rattle.lk_word.proofs.SpinWordLemmas.{outcome_fields, outcome_unpackable, outcome_refused, refused_from, unknown_from_none}
use Rattle.lk_word.proofs.spin_word.unpack.Goals as goal

-- without a tail that can be read there are no fields
unread : (unused : Bool) (locked : Option Locked) (pending : Bool) (tail : Option (Option NodeName)) →
    cond unused tail None ≡ None → cond unused (fields_of locked pending tail) None ≡ None
unread false locked pending tail e = refl
unread true None pending tail e = refl
unread true (Some locked) pending None e = refl
unread true (Some locked) pending (Some tail) e = absurd (none-some tail (sym e))

-- with one there are
whole : (unused : Bool) (locked : Locked) (pending : Bool) (tail : Option (Option NodeName)) (read : Option NodeName) →
    cond unused tail None ≡ Some read →
    cond unused (fields_of (Some locked) pending tail) None
    ≡ Some (record { locked = locked; pending = pending; tail = read })
whole false locked pending tail read e = absurd (none-some read e)
whole true locked pending None read e = absurd (none-some read e)
whole true locked pending (Some tail) read e =
    ap (λ t. Some (record { locked = locked; pending = pending; tail = t })) (same_Some tail read e)

-- what each return of `unpack` reads
module _ (layout : Layout) (word : ℕ) where
  locked_read : None ≡ locked_of (bit_and word 255) → None ≡ unpacked layout word
  locked_read e =
      let h = rw (and_255 word) at e in
      sym (refused_from layout word (inr (inl (unknown_from_none (word % 256) (sym h)))))

  tail_read : None ≡ tail_in layout word → None ≡ unpacked layout word
  unfolding unpacked
  tail_read e =
      sym (unread (eqb (word / 512 % unused_values layout) 0) (locked_of (word % 256)) (eqb (word / 256 % 2) 1)
      (tail_of (word / cpu_unit layout) (word / index_unit layout % 4)) (sym e))

  fields_read : (locked : Locked) (tail : Option NodeName) →
      Some locked ≡ locked_of (bit_and word 255) → Some tail ≡ tail_in layout word →
      Some (record { locked = locked; pending = not (eqb (bit_and word 256) 0); tail = tail })
      ≡ unpacked layout word
  unfolding unpacked
  fields_read locked tail l t =
      let locked_is = rw (and_255 word) at l in
      rw (← locked_is, bit_8_test word)
      (sym (whole (eqb (word / 512 % unused_values layout) 0) locked (eqb (word / 256 % 2) 1)
      (tail_of (word / cpu_unit layout) (word / index_unit layout % 4)) tail (sym t)))

pub returns-in_err-locked-clause-read : goal.returns-in_err-locked-clause-read
returns-in_err-locked-clause-read c =
    rw c.from_residual.ensures (locked_read c.args.layout c.args.word c.in_err-locked.ensures)

pub returns-in_err-tail-clause-read : goal.returns-in_err-tail-clause-read
returns-in_err-tail-clause-read c =
    rw c.from_residual-in_err-tail.ensures (tail_read c.args.layout c.args.word c.in_err-tail.ensures)

pub returns-clause-read : goal.returns-clause-read
returns-clause-read c =
    fields_read c.args.layout c.args.word c.in_ok-locked.locked c.in_ok-tail.tail
    c.in_ok-locked.ensures c.in_ok-tail.ensures

pub returns-in_err-locked-clause-unpackable : goal.returns-in_err-locked-clause-unpackable
returns-in_err-locked-clause-unpackable c = outcome_unpackable c.args.layout _ _ (returns-in_err-locked-clause-read c)

pub returns-clause-fields : goal.returns-clause-fields
returns-clause-fields c = outcome_fields c.args.layout (Some _) _ (search rules) (returns-clause-read c)

pub returns-clause-refused : goal.returns-clause-refused
returns-clause-refused c = outcome_refused c.args.layout (Some _) _ (returns-clause-read c)

pub returns-in_err-tail-clause-unpackable : goal.returns-in_err-tail-clause-unpackable
returns-in_err-tail-clause-unpackable c = outcome_unpackable c.args.layout _ _ (returns-in_err-tail-clause-read c)
