use Rattle.std.proofs.Common.{◌≡◌, sym, ◌∙◌}
use Rattle.lk_forms.specs.Words.{words}
use Rattle.lk_job_forms.specs.Draft.{work_of}
use Rattle.lk_job_forms.specs.Reader.{reading}
use Rattle.lk_job_forms.proofs.Lawful.{placed_after, end_alone}
use Rattle.lk_job_forms.proofs.reader.JobReader.read_known.Goals as goal

pub invariant_of-self-2 : goal.invariant_of-self-2
invariant_of-self-2 c =
    let fine = sym c.fault_of_place.ensures ∙ c.in_default.is in record {
      sound =
          rw c.rank.ensures (placed_after (reading c.args.self.now) c.args.last c.args.keyword (words c.args.args.now)
          (work_of c.line_args.new.draft) c.requires fine c.in_ok-line_args.ensures c.args.self.now.sound);
      listed = λ e. (let same : c.rank.result ≡ 8 = cc in absurd (end_alone c.args.keyword c.in_default-keyword.not-End (sym c.rank.ensures ∙ same)));
    }
