use Rattle.std.proofs.Common.{rules, ◌≡◌, refl, arith}
use Rattle.std.proofs.lemmas.Slice.Eq.{text_from_reads}
use Rattle.std.specs.Prelude.{codes}
use Rattle.lk_forms.proofs.operations.verb_of.Goals as goal

pub returns-in-unlock : goal.returns-in-unlock
returns-in-unlock c =
    let is : c.args.word.now ≡ codes "unlock" = text_from_reads _ _ (omega arith) (search rules) in
    rw is refl

pub returns-in-tryread : goal.returns-in-tryread
returns-in-tryread c =
    let is : c.args.word.now ≡ codes "tryread" = text_from_reads _ _ (omega arith) (search rules) in
    rw is refl

pub returns-in-runlock : goal.returns-in-runlock
returns-in-runlock c =
    let is : c.args.word.now ≡ codes "runlock" = text_from_reads _ _ (omega arith) (search rules) in
    rw is refl

pub returns-in-trywrite : goal.returns-in-trywrite
returns-in-trywrite c =
    let is : c.args.word.now ≡ codes "trywrite" = text_from_reads _ _ (omega arith) (search rules) in
    rw is refl

pub returns-in-wunlock : goal.returns-in-wunlock
returns-in-wunlock c =
    let is : c.args.word.now ≡ codes "wunlock" = text_from_reads _ _ (omega arith) (search rules) in
    rw is refl
