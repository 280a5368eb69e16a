-- The layout of the lock words of a format.
use Rattle.lk_names.specs.declared.names.Format.{Format}
use Rattle.lk_names.specs.declared.names.Format.TheVariants.{One, Two}
use Rattle.lk_word.specs.declared.spin_word.Layout.{Layout}
use Rattle.lk_word.specs.declared.spin_word.Layout.TheVariants.{Narrow, Wide}

abbrev pub layout_of : Format → Layout
layout_of One = Narrow
layout_of Two = Wide
