use Rattle.lk_word.proofs.Masks.{unused_test}
use Rattle.lk_word.proofs.spin_word.unused_mask.Goals as goal

pub returns-in-Narrow : goal.returns-in-Narrow
returns-in-Narrow c = λ word. rw c.in-Narrow.is (unused_test word)
