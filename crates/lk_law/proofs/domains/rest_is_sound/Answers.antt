use Rattle.lk_law.proofs.common.RestWorld.{rest_is_sound}
use Rattle.lk_law.proofs.domains.rest_is_sound.Goals as goal

pub returns : goal.returns
returns c = record { rest = rest_is_sound }
