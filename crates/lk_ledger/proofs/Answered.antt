-- What the answers to a job file mean, and what they exclude, since a text says one thing.
use Rattle.std.proofs.Common.{◌≡◌, ◌⊎◌, ℕ, List, Option, Some, None, Result, Ok, Err, IfSome, IsOkUnless, IsErrAnd, refl, sym, ap, ◌∙◌, inl, inr, arith}
use Rattle.lk_names.specs.Workload.{Workload, workload_of}
use Rattle.lk_names.specs.declared.job_file.JobFile.{JobFile}
use Rattle.lk_text.specs.Causes.{Rose}
use Rattle.lk_forms.specs.declared.answers.LineRefusal.{LineRefusal}
use Rattle.lk_forms.specs.declared.answers.LineRefusal.TheVariants.{Bad, Limit}
use Rattle.lk_stream.specs.Grammar.{Says, Saying, Good, Refused}
use Rattle.lk_stream.specs.Outside.{outside}
use Rattle.lk_stream.specs.Outcome.{Done, FaultMeans, refused_fault}
use Rattle.lk_stream.specs.declared.answers.ReplayFault.{ReplayFault}
use Rattle.lk_stream.specs.declared.answers.ReplayFault.TheVariants as fault
use Rattle.lk_job_forms.specs.Grammar.{Reading}
use Rattle.lk_job_forms.specs.JobFile.{job_file, job_grammar, said_in}
use Rattle.lk_ledger.specs.Reading.{IsRead, Reads}

-- a count that is 0 did not rise
quiet : ¬ Rose 0 0
quiet rose = omega (arith, rose)

-- a known text says one thing
said_once : (input : Option (List ℕ)) (bytes : List ℕ) (r s : Result Workload (ℕ × LineRefusal))
    → input ≡ Some bytes → job_file bytes ≡ r → IfSome input (λ known. job_file known ≡ s) → r ≡ s
said_once None bytes r s known is says = cc
said_once (Some other) bytes r s known is says =
    let same : other ≡ bytes = cc in sym is ∙ ap job_file (sym same) ∙ says

said_as : (input : Option (List ℕ)) (said : Saying Reading) → Says job_grammar input said
    → IfSome input (λ bytes. job_file bytes ≡ said_in said)
said_as None said says = tt
said_as (Some bytes) said says = ap said_in says

module _ (input left : Option (List ℕ)) (reads reads_now : ℕ) where
  pub is_read : (held held_now : Option (List ℕ)) (said : Reading) (file : JobFile)
      → Done job_grammar (outside input reads held 0) (outside left reads_now held_now 0) said
      → workload_of file ≡ said.work → IsRead input left (workload_of file)
  is_read held held_now said file done is = record {
    says = rw is (said_as input (Good said) done.good);
    all_read = done.all_read;
  }

  pub not_read : (held held_now : Option (List ℕ)) (why : ReplayFault)
      → FaultMeans job_grammar (outside input reads held 0) (outside left reads_now held_now 0) why
      → Reads input left reads reads_now (Err why)
  not_read held held_now (fault.BadInput line why) means = said_as input (Refused line (Bad why) means.said) means.refused
  not_read held held_now (fault.Limit line which) means = said_as input (Refused line (Limit which) means.said) means.refused
  not_read held held_now fault.ReadFault means = means.rose
  not_read held held_now fault.WriteFault means = quiet means.rose
  not_read held held_now fault.Memory means = tt

  -- what the answers exclude
  module _ (bytes : List ℕ) (known : input ≡ Some bytes) (no_read : ¬ Rose reads reads_now) where
    pub complete : (work : Workload) (result : Result JobFile ReplayFault) → job_file bytes ≡ Ok work
        → Reads input left reads reads_now result → IsOkUnless result fault.Memory
    complete work (Ok file) is means = tt
    complete work (Err (fault.BadInput line why)) is means =
        let other = said_once input bytes _ (Err (line, Bad why)) known is means in cc
    complete work (Err (fault.Limit line which)) is means =
        let other = said_once input bytes _ (Err (line, Limit which)) known is means in cc
    complete work (Err fault.ReadFault) is means = absurd (no_read means)
    complete work (Err fault.WriteFault) is means = absurd means
    complete work (Err fault.Memory) is means = refl

    pub exact : (line : ℕ) (why : LineRefusal) (result : Result JobFile ReplayFault)
        → job_file bytes ≡ Err (line, why) → Reads input left reads reads_now result
        → IsErrAnd result (λ f. (f ≡ refused_fault line why) ⊎ (f ≡ fault.Memory))
    exact line why (Ok file) is means =
        let other = said_once input bytes _ (Ok (workload_of file)) known is means.says in cc
    exact line why (Err (fault.BadInput n w)) is means =
        let same = said_once input bytes (Err (line, why)) (Err (n, Bad w)) known is means in
        let both : (line, why) ≡ (n, Bad w) = cc in
        inl (ap (λ (p : ℕ × LineRefusal). refused_fault p.0 p.1) (sym both))
    exact line why (Err (fault.Limit n w)) is means =
        let same = said_once input bytes (Err (line, why)) (Err (n, Limit w)) known is means in
        let both : (line, why) ≡ (n, Limit w) = cc in
        inl (ap (λ (p : ℕ × LineRefusal). refused_fault p.0 p.1) (sym both))
    exact line why (Err fault.ReadFault) is means = absurd (no_read means)
    exact line why (Err fault.WriteFault) is means = absurd means
    exact line why (Err fault.Memory) is means = inr refl
