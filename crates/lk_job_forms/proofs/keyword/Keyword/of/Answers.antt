use Rattle.std.proofs.Common.{rules, ◌≡◌, refl, arith}
use Rattle.std.proofs.lemmas.Slice.Eq.{text_from_reads}
use Rattle.std.specs.Prelude.{codes}
use Rattle.lk_job_forms.proofs.keyword.Keyword.of.Goals as goal

pub returns-in-workers : goal.returns-in-workers
returns-in-workers c =
    let is : c.args.word.now ≡ codes "workers" = text_from_reads _ _ (omega arith) (search rules) in
    rw is refl

pub returns-in-sockets : goal.returns-in-sockets
returns-in-sockets c =
    let is : c.args.word.now ≡ codes "sockets" = text_from_reads _ _ (omega arith) (search rules) in
    rw is refl

pub returns-in-threshold : goal.returns-in-threshold
returns-in-threshold c =
    let is : c.args.word.now ≡ codes "threshold" = text_from_reads _ _ (omega arith) (search rules) in
    rw is refl

pub returns-in-accounts : goal.returns-in-accounts
returns-in-accounts c =
    let is : c.args.word.now ≡ codes "accounts" = text_from_reads _ _ (omega arith) (search rules) in
    rw is refl
