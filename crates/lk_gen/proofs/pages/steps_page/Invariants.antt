use Rattle.std.proofs.Common.{◌≡◌, ◌≤◌, ◌++◌, ◌+◌, ◌-◌, ◌*◌, length}
use Rattle.lk_text.specs.Page.{page_text}
use Rattle.lk_gen.specs.Generated.{draw_after}
use Rattle.lk_gen.specs.Writes.{steps_text}
use Rattle.lk_gen.proofs.pages.steps_page.Given as goal

abbrev pub invariant-loop-step : goal.invariant-loop-step
invariant-loop-step l = record {
  whole : steps_text 100 l.fn.start ≡ page_text l.page ++ steps_text (100 - l._step) l.draw;
  drawn : draw_after 100 l.fn.start ≡ draw_after (100 - l._step) l.draw;
  size : length (page_text l.page) ≤ 10 * l._step;
}
