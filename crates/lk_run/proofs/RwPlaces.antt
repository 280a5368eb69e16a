-- What the number of the word of a reader-writer lock says.
use Rattle.std.proofs.Common.{◌≡◌, ℕ, ◌%◌, Bool, true, false, eqb, sym, ap, ◌∙◌, refl, not}
use Rattle.lk_run.proofs.Names.{RwFields}
use Rattle.lk_word.specs.RwWord.{packed_rw}
use Rattle.lk_rows.specs.rows.Rw.{is_empty, is_open, is_cleared}
use Rattle.lk_domain.proofs.rw.Numbers.{empty_test, cleared_test, writer_test, open_test}

module _ (n : ℕ) (y : RwFields) (word : n ≡ packed_rw y) where
  open_is : {b : Bool} → eqb (n % 512) 0 ≡ b → is_open y ≡ b
  open_is e = sym (open_test y) ∙ (ap (λ m. eqb (m % 512) 0) (sym word) ∙ e)

  pub is_open_by : eqb (n % 512) 0 ≡ true → is_open y ≡ true
  is_open_by e = open_is e

  pub is_shut_by : eqb (n % 512) 0 ≡ false → is_open y ≡ false
  is_shut_by e = open_is e

  writer_is : {b : Bool} → eqb (n % 256) 0 ≡ b → not y.writer ≡ b
  writer_is e = sym (writer_test y) ∙ (ap (λ m. eqb (m % 256) 0) (sym word) ∙ e)

  pub no_writer_by : eqb (n % 256) 0 ≡ true → y.writer ≡ false
  no_writer_by e = by y.writer (writer_is e)
    where
      by : (b : Bool) → not b ≡ true → b ≡ false
      by true h = cc h
      by false h = refl

  pub writer_by : eqb (n % 256) 0 ≡ false → y.writer ≡ true
  writer_by e = by y.writer (writer_is e)
    where
      by : (b : Bool) → not b ≡ false → b ≡ true
      by true h = refl
      by false h = cc h

  empty_is : {b : Bool} → eqb n 0 ≡ b → is_empty y ≡ b
  empty_is e = sym (empty_test y) ∙ (ap (λ m. eqb m 0) (sym word) ∙ e)

  pub empty_by : eqb n 0 ≡ true → is_empty y ≡ true
  empty_by e = empty_is e

  pub full_by : eqb n 0 ≡ false → is_empty y ≡ false
  full_by e = empty_is e

  cleared_is : {b : Bool} → eqb n 256 ≡ b → is_cleared y ≡ b
  cleared_is e = sym (cleared_test y) ∙ (ap (λ m. eqb m 256) (sym word) ∙ e)

  pub cleared_by : eqb n 256 ≡ true → is_cleared y ≡ true
  cleared_by e = cleared_is e

  pub uncleared_by : eqb n 256 ≡ false → is_cleared y ≡ false
  uncleared_by e = cleared_is e
