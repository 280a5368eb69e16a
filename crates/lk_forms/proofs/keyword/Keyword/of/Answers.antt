use Rattle.std.proofs.Common.{rules, ◌≡◌, refl, arith}
use Rattle.std.proofs.lemmas.Slice.Eq.{text_from_reads}
use Rattle.std.specs.Prelude.{codes}
use Rattle.lk_forms.proofs.keyword.Keyword.of.Goals as goal

pub returns-in-qtrace : goal.returns-in-qtrace
returns-in-qtrace c =
    let is : c.args.word.now ≡ codes "qtrace" = text_from_reads _ _ (omega arith) (search rules) in
    rw is refl

pub returns-in-sockets : goal.returns-in-sockets
returns-in-sockets c =
    let is : c.args.word.now ≡ codes "sockets" = text_from_reads _ _ (omega arith) (search rules) in
    rw is refl

pub returns-in-threshold : goal.returns-in-threshold
returns-in-threshold c =
    let is : c.args.word.now ≡ codes "threshold" = text_from_reads _ _ (omega arith) (search rules) in
    rw is refl
