use Rattle.std.proofs.Common.{◌≡◌, false, List, Result, Ok, nat_le, inr, refl, sym, ap, ◌∙◌, arith}
use Rattle.std.proofs.lemmas.List.{length-set}
use Rattle.lk_names.specs.declared.ledger.Job.{Job}
use Rattle.lk_names.specs.declared.limits.TheConstants.{MAX_JOBS}
use Rattle.lk_names.specs.Workload.{Workload, job_count}
use Rattle.lk_forms.specs.declared.answers.LineRefusal.{LineRefusal}
use Rattle.lk_job_forms.specs.Draft.{work_of}
use Rattle.lk_job_forms.proofs.Drafts.{none_added, one_added, one_counted}
use Rattle.lk_job_forms.proofs.draft.Draft.add_job.Goals as goal

pub invariant_of-self : goal.invariant_of-self
invariant_of-self c =
    let s = c.args.self.now in
    let same = none_added (λ js. js.items) s.jobs.items c.args.worker c.get_mut.result.now c.push.new.self c.get_mut.ensures.value c.in-Err.ensures.items in record {
      counted = s.counted ∙ ap job_count (sym same);
      few_workers = omega (arith, s.few_workers, length-set s.jobs.items c.args.worker c.push.new.self);
      few_accounts = s.few_accounts;
    }

pub returns-in-Err : goal.returns-in-Err
returns-in-Err c =
    let s = c.args.self.now in
    let same = none_added (λ js. js.items) s.jobs.items c.args.worker c.get_mut.result.now c.push.new.self c.get_mut.ensures.value c.in-Err.ensures.items in
    let by_jobs = λ (jobs : List (List Job)). record (work_of s) { jobs = jobs } in
    (ap by_jobs same, inr refl)

pub invariant_of-self-2 : goal.invariant_of-self-2
invariant_of-self-2 c =
    let s = c.args.self.now in
    let more = one_counted (λ js. js.items) s.jobs.items c.args.worker c.get_mut.result.now c.push.new.self c.get_mut.ensures.value c.args.job c.in-Ok.ensures.items in record {
      counted = omega (arith, s.counted, more);
      few_workers = omega (arith, s.few_workers, length-set s.jobs.items c.args.worker c.push.new.self);
      few_accounts = s.few_accounts;
    }

pub returns : goal.returns
returns c =
    let s = c.args.self.now in
    let more = one_added (λ js. js.items) s.jobs.items c.args.worker c.get_mut.result.now c.push.new.self c.get_mut.ensures.value c.args.job c.in-Ok.ensures.items in
    let few : nat_le MAX_JOBS (job_count (work_of s).jobs) ≡ false = sym c.is_full.ensures.value ∙ c.if-is_full.false in
    let by_jobs = λ (jobs : List (List Job)). record (work_of s) { jobs = jobs } in
    let answer : Workload → Result Workload LineRefusal = λ w. Ok w in
    rw few (ap answer (ap by_jobs (sym more)))
