use Rattle.std.proofs.Common.{◌≡◌, ◌≤◌, ◌++◌, ◌+◌, ◌-◌, ◌*◌, length}
use Rattle.lk_text.specs.Page.{page_text}
use Rattle.lk_gen.specs.Generated.{draw_after}
use Rattle.lk_gen.specs.Writes.{pairs_text}
use Rattle.lk_gen.proofs.pages.add_pairs.Given as goal

abbrev pub invariant-loop-pair : goal.invariant-loop-pair
invariant-loop-pair l = record {
  whole : page_text l.fn.page ++ pairs_text 16 l.fn.start ≡ page_text l.page ++ pairs_text (16 - l._pair) l.draw;
  drawn : draw_after 16 l.fn.start ≡ draw_after (16 - l._pair) l.draw;
  size : length (page_text l.page) ≤ length (page_text l.fn.page) + 16 * l._pair;
}
