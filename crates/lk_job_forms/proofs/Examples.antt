-- Examples of job files, which compute.
use Rattle.std.proofs.Common.{◌≡◌, refl, [], ◌∷◌, Ok, Err}
use Rattle.std.specs.Prelude.{codes}
use Rattle.lk_names.specs.declared.names.Format.TheVariants.{One, Two}
use Rattle.lk_names.specs.declared.names.Kind.TheVariants.{Spin, Rw}
use Rattle.lk_names.specs.declared.names.Mode.TheVariants.{Virt, Native, Cna, Pv}
use Rattle.lk_names.specs.declared.ledger.Job.TheVariants.{Move, Add, Sum, Get}
use Rattle.lk_forms.specs.declared.answers.LineRefusal.TheVariants.{Bad, Limit}
use Rattle.lk_forms.specs.declared.answers.Fault.TheVariants as fault
use Rattle.lk_forms.specs.declared.answers.Which.TheVariants as which
use Rattle.lk_job_forms.specs.JobFile.{job_file}
use Rattle.lk_job_forms.specs.Grammar.{usual_workload}

one_worker : job_file (codes "qjobs 1\nmode virt\nworkers 1\naccounts 10 0 5\njob 0 move 0 1 4\njob 0 get 1\njob 0 move 0 2 7\njob 0 add 2 1\njob 0 sum\nend\n") ≡ Ok (record usual_workload { balances = 10 ∷ 0 ∷ 5 ∷ []; jobs = (Move 0 1 4 ∷ Get 1 ∷ Move 0 2 7 ∷ Add 2 1 ∷ Sum ∷ []) ∷ [] })
one_worker = refl

every_line : job_file (codes "# every line\nqjobs 1\n\nmode virt\nguard spin\nworkers 2\nsockets 0 1\nthreshold 16\naccounts 5 5\njob 1\tget 0 \njob 0 sum\nend") ≡ Ok (record { format = One; mode = Virt; guard = Spin; sockets = 0 ∷ 1 ∷ []; threshold = 16; balances = 5 ∷ 5 ∷ []; jobs = (Sum ∷ []) ∷ (Get 0 ∷ []) ∷ [] })
every_line = refl

no_jobs : job_file (codes "qjobs 1\nmode virt\nend\n") ≡ Ok usual_workload
no_jobs = refl

no_input : job_file ([]) ≡ Err (1, Bad fault.NoFormat)
no_input = refl

a_trace : job_file (codes "qtrace 1\n") ≡ Err (1, Bad fault.NoFormat)
a_trace = refl

no_end : job_file (codes "qjobs 1\nmode virt\n") ≡ Err (3, Bad fault.NoEnd)
no_end = refl

total : job_file (codes "qjobs 1\nmode virt\naccounts 9223372036854775807 1\n") ≡ Err (3, Limit which.Total)
total = refl

no_verb : job_file (codes "qjobs 1\nmode virt\naccounts 1\njob 0 mul 0 2\n") ≡ Err (4, Bad fault.UnknownWord)
no_verb = refl

halting : job_file (codes "qjobs 1\nmode pv\nguard spin\nend\n") ≡ Ok (record usual_workload { mode = Pv })
halting = refl

halting_readers : job_file (codes "qjobs 1\nmode pv\nguard rw\nend\n") ≡ Err (3, Bad fault.WrongLock)
halting_readers = refl

no_family : job_file (codes "qjobs 1\nmode mcs\n") ≡ Err (2, Bad fault.UnknownWord)
no_family = refl

wide : job_file (codes "qjobs 2\nmode native\nend\n") ≡ Ok (record usual_workload { format = Two; mode = Native })
wide = refl

queued : job_file (codes "qjobs 1\nmode native\nend\n") ≡ Ok (record usual_workload { mode = Native })
queued = refl

near : job_file (codes "qjobs 1\nmode cna\nend\n") ≡ Ok (record usual_workload { mode = Cna })
near = refl

readers : job_file (codes "qjobs 1\nmode virt\nguard rw\nend\n") ≡ Ok (record usual_workload { guard = Rw })
readers = refl

counted_first : job_file (codes "qjobs 1\nmode native 1\n") ≡ Err (2, Bad fault.WordCount)
counted_first = refl

before_mode : job_file (codes "qjobs 1\nworkers 2\n") ≡ Err (2, Bad fault.Misplaced)
before_mode = refl

second_mode : job_file (codes "qjobs 1\nmode virt\nmode virt\n") ≡ Err (3, Bad fault.Repeated)
second_mode = refl

late_guard : job_file (codes "qjobs 1\nmode virt\nworkers 2\nguard rw\n") ≡ Err (4, Bad fault.Misplaced)
late_guard = refl

late_format : job_file (codes "qjobs 1\nmode virt\nend\nqjobs 1\n") ≡ Err (4, Bad fault.Repeated)
late_format = refl

after_end : job_file (codes "qjobs 1\nmode virt\nend\nend\n") ≡ Err (4, Bad fault.Misplaced)
after_end = refl

no_accounts : job_file (codes "qjobs 1\nmode virt\naccounts\n") ≡ Err (3, Bad fault.WordCount)
no_accounts = refl

no_worker : job_file (codes "qjobs 1\nmode virt\njob 1 sum\n") ≡ Err (3, Bad fault.OutOfRange)
no_worker = refl

no_account : job_file (codes "qjobs 1\nmode virt\naccounts 1\njob 0 get 1\n") ≡ Err (4, Bad fault.OutOfRange)
no_account = refl

too_much : job_file (codes "qjobs 1\nmode virt\naccounts 9223372036854775808\n") ≡ Err (3, Bad fault.OutOfRange)
too_much = refl

half_a_job : job_file (codes "qjobs 1\nmode virt\njob 0\n") ≡ Err (3, Bad fault.WordCount)
half_a_job = refl

short_move : job_file (codes "qjobs 1\nmode virt\naccounts 1\njob 0 move 0 0\n") ≡ Err (4, Bad fault.WordCount)
short_move = refl
