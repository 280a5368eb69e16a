-- The entries of the hash, by number and by name.
use Rattle.std.proofs.Common.{◌≡◌, ℕ, ◌+◌, ◌*◌, ◌/◌, ◌%◌, [], ◌∷◌, List, Option, None, Some, Bool, true, false, eqb, ◌&&◌, length, ap, ◌∙◌, sym, refl, arith, inl, inr}
use Rattle.std.specs.Prelude.{if◌then◌else◌, is_some}
use Rattle.std.proofs.lemmas.Bool.{cases_Bool, cases_eq, cases_lt, lt-ltb, le-ltb, eq-eqb, ne_eqb}
use Rattle.std.proofs.lemmas.List.{length-map}
use Rattle.lk_names.specs.Names.{same_bool, same_lock}
use Rattle.lk_names.specs.declared.names.LockName.{LockName}
use Rattle.lk_word.specs.declared.spin_word.NodeName.{NodeName}
use Rattle.lk_word.specs.declared.spin_word.Layout.TheVariants.{Wide}
use Rattle.lk_word.specs.SpinWord.{IsTailInRange}
use Rattle.lk_hash.specs.Entries as numbers
use Rattle.lk_rows.specs.Machine.{entry_in, with_entry, without_entry, lock_number}
use Rattle.lk_machine.specs.Hashed.{lock_named, node_number, node_named, named, entries_named}

-- a number is that of the lock, and of the node, that it names
number_named : (k : ℕ) → lock_number (lock_named k) ≡ k
number_named k =
    elim (cases_eq (k % 2) 1) [
      | inl odd ↦ rw (eq-eqb (k % 2) 1 odd) (omega (arith, odd))
      | inr even ↦ rw (ne_eqb (k % 2) 1 even) (omega (arith, even))
    ]

-- a lock has a name's number where it is the lock of that name
same_parts : (k i : ℕ) (w : Bool) → (eqb (k / 2) i && same_bool (eqb (k % 2) 1) w) ≡ eqb k (2 * i + (if w then 1 else 0))
same_parts k i true =
    elim (cases_eq k (2 * i + 1)) [
      | inl is ↦ rw (eq-eqb k (2 * i + 1) is, eq-eqb (k / 2) i (omega (arith, is)), eq-eqb (k % 2) 1 (omega (arith, is))) refl
      | inr ne ↦ elim (cases_eq (k / 2) i) [
        | inl half ↦ rw (ne_eqb k (2 * i + 1) ne, eq-eqb (k / 2) i half, ne_eqb (k % 2) 1 (λ odd. ne (omega (arith, half, odd)))) refl
        | inr other ↦ rw (ne_eqb k (2 * i + 1) ne, ne_eqb (k / 2) i other) refl
      ]
    ]
same_parts k i false =
    elim (cases_eq k (2 * i + 0)) [
      | inl is ↦ rw (eq-eqb k (2 * i + 0) is, eq-eqb (k / 2) i (omega (arith, is)), ne_eqb (k % 2) 1 (omega (arith, is))) refl
      | inr ne ↦ elim (cases_eq (k / 2) i) [
        | inl half ↦ rw (ne_eqb k (2 * i + 0) ne, eq-eqb (k / 2) i half, eq-eqb (k % 2) 1 (omega (arith, half, ne))) refl
        | inr other ↦ rw (ne_eqb k (2 * i + 0) ne, ne_eqb (k / 2) i other) refl
      ]
    ]

same_named : (k : ℕ) (l : LockName) → same_lock (lock_named k) l ≡ eqb k (lock_number l)
same_named k l = same_parts k l.index l.wait

lock_number_named : (l : LockName) → lock_named (lock_number l) ≡ l
lock_number_named l = by l.index l.wait
  where
    by : (i : ℕ) (w : Bool) → lock_named (lock_number (record { index = i; wait = w })) ≡ record { index = i; wait = w }
    by i true =
        let half : (2 * i + 1) / 2 ≡ i = omega arith in
        let odd : eqb ((2 * i + 1) % 2) 1 ≡ true = eq-eqb ((2 * i + 1) % 2) 1 (omega arith) in
        (λ j. record { index = half j; wait = odd j })
    by i false =
        let half : (2 * i + 0) / 2 ≡ i = omega arith in
        let even : eqb ((2 * i + 0) % 2) 1 ≡ false = ne_eqb ((2 * i + 0) % 2) 1 (omega arith) in
        (λ j. record { index = half j; wait = even j })

pub node_number_named : (n : NodeName) → IsTailInRange Wide (Some n) → node_named (node_number n) ≡ n
node_number_named n range =
    let cpu : (4 * n.cpu + n.index) / 4 ≡ n.cpu = omega (arith, range.1) in
    let index : (4 * n.cpu + n.index) % 4 ≡ n.index = omega (arith, range.1) in
    (λ j. record { cpu = cpu j; index = index j })

-- the node that a number names, if there is one
abbrev node_of : Option ℕ → Option NodeName
node_of None = None
node_of (Some k) = Some (node_named k)

entry-named : (l : LockName) (es : List numbers.Entry) → entry_in l (entries_named es) ≡ node_of (numbers.node_in (lock_number l) es)
entry-named l [] = refl
entry-named l (e ∷ es) =
    elim (cases_eq e.0 (lock_number l)) [
      | inl same ↦ rw (same_named e.0 l, eq-eqb e.0 (lock_number l) same) refl
      | inr other ↦ rw (same_named e.0 l, ne_eqb e.0 (lock_number l) other) (entry-named l es)
    ]

-- what is read by number is read by name

pub entry_none : (l : LockName) (es : List numbers.Entry) → numbers.node_in (lock_number l) es ≡ None → entry_in l (entries_named es) ≡ None
entry_none l es none = entry-named l es ∙ ap node_of none

pub entry_some : (l : LockName) (es : List numbers.Entry) (k : ℕ) → numbers.node_in (lock_number l) es ≡ Some k → entry_in l (entries_named es) ≡ Some (node_named k)
entry_some l es k some = entry-named l es ∙ ap node_of some

pub absent_named : (l : LockName) (es : List numbers.Entry) → entry_in l (entries_named es) ≡ None → numbers.node_in (lock_number l) es ≡ None
absent_named l es absent = by (numbers.node_in (lock_number l) es) (sym (entry-named l es) ∙ absent)
  where
    by : (o : Option ℕ) → node_of o ≡ None → o ≡ None
    by None h = refl
    by (Some k) h = cc

pub present_named : (l : LockName) (es : List numbers.Entry) → is_some (entry_in l (entries_named es)) ≡ true → is_some (numbers.node_in (lock_number l) es) ≡ true
present_named l es present = by (numbers.node_in (lock_number l) es) (ap is_some (sym (entry-named l es)) ∙ present)
  where
    by : (o : Option ℕ) → is_some (node_of o) ≡ true → is_some o ≡ true
    by None h = h
    by (Some k) h = refl

-- and what is written by number is written by name

without-named : (l : LockName) (es : List numbers.Entry) → entries_named (numbers.without_entry (lock_number l) es) ≡ without_entry l (entries_named es)
without-named l [] = refl
without-named l (e ∷ es) =
    elim (cases_eq e.0 (lock_number l)) [
      | inl same ↦ rw (same_named e.0 l, eq-eqb e.0 (lock_number l) same) (without-named l es)
      | inr other ↦
          rw (same_named e.0 l, ne_eqb e.0 (lock_number l) other)
          (ap (λ xs. named e ∷ xs) (without-named l es))
    ]

with-named : (l : LockName) (n : NodeName) (es : List numbers.Entry) → IsTailInRange Wide (Some n)
    → entries_named (numbers.with_entry (lock_number l) (node_number n) es) ≡ with_entry l n (entries_named es)
with-named l n [] range =
    let a = lock_number_named l in let b = node_number_named n range in (λ j. (a j, b j) ∷ [])
with-named l n (e ∷ es) range =
    elim (cases_lt (lock_number l) e.0) [
      | inl lt ↦
          rw (number_named e.0, lt-ltb (lock_number l) e.0 lt)
          (let a = lock_number_named l in let b = node_number_named n range in (λ j. (a j, b j) ∷ named e ∷ entries_named es))
      | inr ge ↦
          rw (number_named e.0, le-ltb (lock_number l) e.0 ge)
          (ap (λ xs. named e ∷ xs) (with-named l n es range))
    ]

-- a lock that is not entered has no entry to take out
without_entry-absent : (l : LockName) (es : List (LockName × NodeName)) → entry_in l es ≡ None → without_entry l es ≡ es
without_entry-absent l [] absent = refl
without_entry-absent l (e ∷ es) absent =
    elim (cases_Bool (same_lock e.0 l)) [
      | inl same ↦ let found = rw same at absent in absurd cc
      | inr other ↦ let rest = rw other at absent in rw other (ap (λ xs. e ∷ xs) (without_entry-absent l es rest))
    ]

pub entered_named : (l : LockName) (n : NodeName) (es : List numbers.Entry) → IsTailInRange Wide (Some n)
    → entry_in l (entries_named es) ≡ None
    → entries_named (numbers.with_entry (lock_number l) (node_number n) es) ≡ with_entry l n (without_entry l (entries_named es))
entered_named l n es range absent =
    with-named l n es range ∙ ap (with_entry l n) (sym (without_entry-absent l (entries_named es) absent))

pub removed_named : (l : LockName) (es : List numbers.Entry) → entries_named (numbers.without_entry (lock_number l) es) ≡ without_entry l (entries_named es)
removed_named l es = without-named l es

pub length_named : (es : List numbers.Entry) → length (entries_named es) ≡ length es
length_named es = length-map es named

pub ruleset hashed = (entry_none, entry_some, absent_named, present_named, entered_named, removed_named, length_named)
