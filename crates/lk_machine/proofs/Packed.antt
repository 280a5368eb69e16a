-- What was packed stands in the word.
use Rattle.std.proofs.Common.{◌≡◌, ℕ, Option, Some, ap, ◌∙◌}
use Rattle.std.specs.Prelude.{is_some, unwrap_or}
use Rattle.lk_word.specs.declared.spin_word.Layout.{Layout}
use Rattle.lk_word.specs.declared.spin_word.Fields.{Fields}
use Rattle.lk_word.specs.declared.rw_word.RwFields.{RwFields}
use Rattle.lk_word.specs.SpinWord.{IsPackable, packed, unpacked}
use Rattle.lk_word.specs.RwWord.{packed_rw, unpacked_rw}
use Rattle.lk_word.proofs.SpinWordLemmas.{unpacked-packed}
use Rattle.lk_word.proofs.RwWordLemmas.{unpacked_rw-packed_rw}
use Rattle.lk_rows.specs.Machine.{rest_word, rest_rw}
use Rattle.lk_machine.specs.Packed.{IsPacked, IsPackedRw, fields_in, rw_fields_in}

module _ (layout : Layout) where
  reads : (word : ℕ) (f : Fields) → IsPackable layout f → word ≡ packed layout f → unpacked layout word ≡ Some f
  reads word f packable is = ap (unpacked layout) is ∙ unpacked-packed layout f packable

  pub word_packs : (word : ℕ) (f : Fields) → IsPackable layout f → word ≡ packed layout f → IsPacked layout word
  word_packs word f packable is = ap is_some (reads word f packable is)

  pub word_has : (word : ℕ) (f : Fields) → IsPackable layout f → word ≡ packed layout f → fields_in layout word ≡ f
  word_has word f packable is = ap (λ (o : Option Fields). unwrap_or o rest_word) (reads word f packable is)

reads_rw : (word : ℕ) (f : RwFields) → word ≡ packed_rw f → unpacked_rw word ≡ Some f
reads_rw word f is = ap unpacked_rw is ∙ unpacked_rw-packed_rw f

pub rw_word_packs : (word : ℕ) (f : RwFields) → word ≡ packed_rw f → IsPackedRw word
rw_word_packs word f is = ap is_some (reads_rw word f is)

pub rw_word_has : (word : ℕ) (f : RwFields) → word ≡ packed_rw f → rw_fields_in word ≡ f
rw_word_has word f is = ap (λ (o : Option RwFields). unwrap_or o rest_rw) (reads_rw word f is)

pub ruleset packing = (word_packs, word_has, rw_word_packs, rw_word_has)
