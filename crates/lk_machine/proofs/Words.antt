-- Locks are stored in their words.
use Rattle.std.proofs.Common.{◌≡◌, ◌∙◌, ◌<◌, ℕ, List, map, ap, sym, length, get_or, slice_set, true, false, arith}
use Rattle.std.proofs.lemmas.List.{map-set, get_or-map, length-map}
use Rattle.lk_word.specs.declared.spin_word.Layout.{Layout}
use Rattle.lk_word.specs.declared.spin_word.Fields.{Fields}
use Rattle.lk_word.specs.declared.rw_word.RwFields.{RwFields}
use Rattle.lk_machine.specs.declared.machine.words.LockWords.{LockWords}
use Rattle.lk_rows.specs.Machine.{LockState, rest_lock}
use Rattle.lk_machine.specs.Packed.{Words, fields_in, rw_fields_in, lock_in, lock_of, with_lock, with_word, with_rw}

module _ (layout : Layout) (ws : List LockWords) where
  -- the locks in these words
  abbrev pub locks_in : Words
  locks_in = record { layout = layout; locks = map (lock_in layout) ws }

  -- there are as many
  pub within : (words : Words) (i : ℕ) → locks_in ≡ words → i < length words.locks → i < length ws
  within words i are inside =
      let same : length ws ≡ length words.locks =
      sym (length-map ws (lock_in layout)) ∙ ap (λ (x : Words). length x.locks) are in
      omega (arith, same, inside)

  module _ (i : ℕ) (d w : LockWords) (inside : i < length ws) (here : w ≡ get_or ws i d) where
    -- a lock is read
    lock_read : lock_in layout w ≡ lock_of locks_in i
    lock_read = ap (lock_in layout) here ∙ sym (get_or-map (lock_in layout) ws i d rest_lock inside)

    -- and stored
    stored : (v : LockWords)
        → record { layout = layout; locks = map (lock_in layout) (slice_set ws i v) }
        ≡ with_lock locks_in i (lock_in layout v)
    stored v = ap (λ (ls : List LockState). record { layout = layout; locks = ls }) (map-set (lock_in layout) ws i v)

    pub stored_rw : (word : ℕ) (x : RwFields) → rw_fields_in word ≡ x
        → record { layout = layout; locks = map (lock_in layout) (slice_set ws i (record w { rw = word })) }
        ≡ with_rw locks_in i x
    stored_rw word x is =
        let state : record (lock_in layout w) { rw = rw_fields_in word } ≡ record (lock_of locks_in i) { rw = x } =
        λ j. record { spin = (lock_read j).spin; rw = is j; wait = (lock_read j).wait } in
        stored (record w { rw = word }) ∙ ap (with_lock locks_in i) state

    pub stored_spin : (word : ℕ) (x : Fields) → fields_in layout word ≡ x
        → record { layout = layout; locks = map (lock_in layout) (slice_set ws i (record w { spin = word })) }
        ≡ with_word locks_in (record { index = i; wait = false }) x
    stored_spin word x is =
        let state : record (lock_in layout w) { spin = fields_in layout word } ≡ record (lock_of locks_in i) { spin = x } =
        λ j. record { spin = is j; rw = (lock_read j).rw; wait = (lock_read j).wait } in
        stored (record w { spin = word }) ∙ ap (with_lock locks_in i) state

    pub stored_wait : (word : ℕ) (x : Fields) → fields_in layout word ≡ x
        → record { layout = layout; locks = map (lock_in layout) (slice_set ws i (record w { wait = word })) }
        ≡ with_word locks_in (record { index = i; wait = true }) x
    stored_wait word x is =
        let state : record (lock_in layout w) { wait = fields_in layout word } ≡ record (lock_of locks_in i) { wait = x } =
        λ j. record { spin = (lock_read j).spin; rw = (lock_read j).rw; wait = is j } in
        stored (record w { wait = word }) ∙ ap (with_lock locks_in i) state
