use Rattle.std.proofs.Common.{arith, ◌≡◌, ◌+◌, ◌∷◌, [], ◌++◌, ℕ, List, Bool, length, length-append}
use Rattle.std.proofs.Common.{ap, sym, subst, ◌∙◌}
use Rattle.lk_reach.proofs.Names.{Keeps}
use Rattle.lk_reach.proofs.{Closed.Laws, Ending.{EndsSo, ends_more, ends_none}}
use Rattle.lk_reach.proofs.graph.Graph.finished.Goals as goal

pub loop-state-init : goal.loop-state-init
loop-state-init c =
    let none = c.in_ok-marks.ensures.items in
    record {
      count = ap length none;
      so = subst (λ (ms : List Bool). EndsSo c.args.self.now ms) (sym none) (ends_none c.args.self.now);
    }

pub loop-state-preserved : goal.loop-state-preserved
loop-state-preserved c =
    let inv = c.loop-state.invariant in
    let g = c.args.self.now in
    let laws : Laws = record { runs = c.runs_keep.ensures.run; setup = c.acts_change_little.ensures.setup } in
    let marks = c.loop-state.marks.items in
    let mark = c.are_over_at-is_over.result in
    let pushed = c.in_ok-add_mark.ensures in
    let size : length (marks ++ mark ∷ []) ≡ length marks + 1 = length-append marks (mark ∷ []) in
    record {
      count = ap length pushed ∙ size ∙ ap (λ (k : ℕ). k + 1) inv.count;
      so = ends_more laws g c.requires.graph marks c.add_mark.new.marks.items mark pushed inv.so
          (λ yes s keeps cpus. c.are_over_at-is_over.ensures.yes yes s (subst (λ (h : ℕ). Keeps g.space h s) inv.count keeps) cpus)
          (λ no s keeps cpus. c.are_over_at-is_over.ensures.no no s (subst (λ (h : ℕ). Keeps g.space h s) inv.count keeps) cpus);
    }

pub returns : goal.returns
returns c =
    let inv = c.loop-state.invariant in
    let end = c.loop-state-test.false in
    let high = c.loop-state.auto.state-end in
    let count = c.states-state-end.ensures in
    let so_far = inv.count in
    record {
      count = omega (arith, end, high, count, so_far);
      yes = inv.so.yes;
      no = inv.so.no;
    }
