-- What a line of a job file comes to.
use Rattle.std.proofs.Common.{◌≡◌, ◌⊎◌, true, false, Bool, ℕ, List, [], Option, Some, None, Ok, Err, refl, sym, ap, ◌∙◌, inl, inr, is_some, if◌then◌else◌}
use Rattle.lk_text.proofs.Conveyed.{Conveys-nothing}
use Rattle.lk_forms.specs.declared.answers.Fault.TheVariants.{NoEnd, NoFormat}
use Rattle.lk_forms.specs.declared.answers.LineRefusal.{LineRefusal}
use Rattle.lk_forms.specs.declared.answers.LineRefusal.TheVariants.{Bad, Limit, Memory}
use Rattle.lk_stream.specs.Line.{GoesOn, Refuses, Stays}
use Rattle.lk_job_forms.specs.Grammar.{Reading, read, has_end, ending}
use Rattle.lk_job_forms.specs.JobFile.{job_grammar}
use Rattle.lk_job_forms.specs.Reader.{reading}
use Rattle.lk_job_forms.specs.declared.reader.JobReader.{JobReader}

module _ (old : JobReader) (line : List ℕ) (held : Option (List ℕ)) (waited : List ℕ)
    (said : Reading) (so : reading old ≡ said) where
  pub goes : (new : JobReader) → read (reading old) line ≡ Ok (reading new)
      → GoesOn job_grammar (λ s. reading new ≡ s) said line held held waited waited
  goes new is = record {
    said = reading new;
    reads = ap (λ s. read s line) (sym so) ∙ is;
    shown = refl;
    more = [];
    text = refl;
    written = Conveys-nothing held waited;
  }

  refuses : (why : LineRefusal) → (read (reading old) line ≡ Err why) ⊎ (why ≡ Memory)
      → Refuses job_grammar said line why
  refuses (Bad why) (inl is) = ap (λ s. read s line) (sym so) ∙ is
  refuses (Bad why) (inr none) = cc
  refuses (Limit which) (inl is) = ap (λ s. read s line) (sym so) ∙ is
  refuses (Limit which) (inr none) = cc
  refuses Memory is = refl

  pub stays : (why : LineRefusal) → (read (reading old) line ≡ Err why) ⊎ (why ≡ Memory)
      → Stays job_grammar said line why held held waited waited
  stays why is = record { refuses = refuses why is; held_is = refl; waits_is = refl }

-- where the text may end, `end` was read
pub has_ended : (r : Reading) → ending r ≡ None → has_end r ≡ true
has_ended r ends = by_tests (has_end r) (is_some r.rank) ends
  where
    by_tests : (a b : Bool) → (if a then None else if b then Some NoEnd else Some NoFormat) ≡ None → a ≡ true
    by_tests true b is = refl
    by_tests false true is = cc
    by_tests false false is = cc
