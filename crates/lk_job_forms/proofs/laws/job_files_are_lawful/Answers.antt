use Rattle.lk_job_forms.proofs.Files.{files_lawful}
use Rattle.lk_job_forms.proofs.laws.job_files_are_lawful.Goals as goal

pub returns : goal.returns
returns c = files_lawful
