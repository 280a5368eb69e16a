use Rattle.std.proofs.Common.{rules, ◌≡◌, refl, arith}
use Rattle.std.proofs.lemmas.Slice.Eq.{text_from_reads}
use Rattle.std.specs.Prelude.{codes}
use Rattle.lk_forms.proofs.settings.mode_of.Goals as goal

pub returns-in-native : goal.returns-in-native
returns-in-native c =
    let is : c.args.word.now ≡ codes "native" = text_from_reads _ _ (omega arith) (search rules) in
    rw is refl
