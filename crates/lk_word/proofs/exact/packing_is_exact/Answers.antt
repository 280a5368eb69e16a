use Rattle.std.proofs.Common.{refl}
use Rattle.lk_word.specs.SpinWord.{unpacked}
use Rattle.lk_word.specs.RwWord.{unpacked_rw}
use Rattle.lk_word.proofs.SpinWordLemmas as spin
use Rattle.lk_word.proofs.RwWordLemmas as rw_word
use Rattle.lk_word.proofs.exact.packing_is_exact.Goals as goal

pub returns-clause-injective : goal.returns-clause-injective
returns-clause-injective c = spin.packed_injective

pub returns-clause-bounded : goal.returns-clause-bounded
returns-clause-bounded c = spin.packed_small

pub returns-clause-unpacks : goal.returns-clause-unpacks
returns-clause-unpacks c = spin.unpacked-packed

pub returns-clause-packs : goal.returns-clause-packs
returns-clause-packs c = λ layout word fits. spin.outcome_fields layout (unpacked layout word) word fits refl

pub returns-clause-refuses : goal.returns-clause-refuses
returns-clause-refuses c = λ layout word. spin.outcome_unpackable layout (unpacked layout word) word refl

pub returns-clause-rw_injective : goal.returns-clause-rw_injective
returns-clause-rw_injective c = rw_word.packed_rw_injective

pub returns-clause-rw_bounded : goal.returns-clause-rw_bounded
returns-clause-rw_bounded c = rw_word.packed_rw_small

pub returns-clause-rw_unpacks : goal.returns-clause-rw_unpacks
returns-clause-rw_unpacks c = rw_word.unpacked_rw-packed_rw

pub returns-clause-rw_packs : goal.returns-clause-rw_packs
returns-clause-rw_packs c = λ word fits. rw_word.outcome_fields (unpacked_rw word) word fits refl

pub returns-clause-rw_refuses : goal.returns-clause-rw_refuses
returns-clause-rw_refuses c = λ word. rw_word.outcome_unpackable (unpacked_rw word) word refl
