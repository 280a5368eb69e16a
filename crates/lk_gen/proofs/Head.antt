-- The header of the generated trace is read, up to its programs.
use Rattle.std.proofs.Common.{◌≡◌, Ok, refl, []}
use Rattle.std.specs.Fmt.{digits}
use Rattle.lk_forms.specs.Grammar.{nothing_read}
use Rattle.lk_gen.specs.Generated.{head_lines, head_setup}
use Rattle.lk_gen.proofs.Reading.{reads}
use Rattle.lk_gen.proofs.Steps.{so_far}

pub head_read : reads nothing_read head_lines ≡ Ok (so_far 6 head_setup [])
unfolding reads digits
head_read = refl
