use Rattle.std.proofs.Common.{◌≡◌, ◌+◌, ◌∷◌, [], ◌++◌, ℕ, Some, length, length-append, get_or, ap}
use Rattle.std.proofs.Common.{sym, subst, ◌∙◌, slice_get}
use Rattle.lk_reach.proofs.Names.{slice_get-get_or, AreMarked}
use Rattle.lk_reach.proofs.apart.Marks.{marked_more, none_marked}
use Rattle.lk_rows.specs.declared.parts.Pc.TheVariants as row
use Rattle.lk_reach.proofs.graph.Graph.rows_made.Goals as goal

pub loop-number-preserved : goal.loop-number-preserved
loop-number-preserved c =
    let inv = c.loop-number.invariant in
    let marks = c.loop-number.marks.items in
    let rows = c.args.rows.now in
    let n = c.loop-number.number in
    let mark = c.is_made-is_made.result in
    let pushed = c.in_ok-add_mark.ensures in
    let size : length (marks ++ mark ∷ []) ≡ length marks + 1 = length-append marks (mark ∷ []) in
    let there : slice_get rows n ≡ Some (get_or rows n row.F1) =
    slice_get-get_or rows n row.F1 c.loop-number-test.true in
    record {
      count = ap length pushed ∙ size ∙ ap (λ (k : ℕ). k + 1) inv.count;
      marked = marked_more c.args.self.now.space c.args.self.now.cpus rows marks c.add_mark.new.marks.items
          (get_or rows n row.F1) inv.marked
          (subst (λ (k : ℕ). slice_get rows k ≡ Some (get_or rows n row.F1)) (sym inv.count) there)
          (record { mark = mark; pushed = pushed; made = c.is_made-is_made.ensures.yes; never = c.is_made-is_made.ensures.no });
    }

pub loop-number-init : goal.loop-number-init
loop-number-init c =
    let none = c.in_ok-marks.ensures.items in
    record {
      count = ap length none;
      marked = subst (AreMarked c.args.self.now.space c.args.self.now.cpus c.args.rows.now) (sym none)
          (none_marked c.args.self.now.space c.args.self.now.cpus c.args.rows.now);
    }
