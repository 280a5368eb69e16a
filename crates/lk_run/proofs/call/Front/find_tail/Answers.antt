use Rattle.std.proofs.Common.{Some, refl, subst, sym, ◌∙◌, ◌≡◌}
use Rattle.lk_run.proofs.Names.{NodeName, Frame, Pc, C3, C4, C9, Named, rowed, calls_of, view_of}
use Rattle.lk_run.proofs.Names.{Outside, IsNode, Plan}
use Rattle.lk_rows.specs.{declared.parts.Pc.TheVariants.C10, rows.Cna.after_tail}
use Rattle.lk_run.proofs.Ways.{Leads, sees}
use Rattle.lk_run.specs.Frames.{Promoting, Returns, Ties}
use Rattle.lk_run.proofs.ChoiceRows as choice
use Rattle.lk_run.proofs.Calling as on
use Rattle.lk_run.proofs.Stepped as way
use Rattle.lk_run.proofs.call.Front.find_tail.Goals as goal

pub second_tail-met-requires-clause-domain : goal.second_tail-met-requires-clause-domain
second_tail-met-requires-clause-domain c = c.requires.waits.domain

pub second_tail-met-requires-clause-row : goal.second_tail-met-requires-clause-row
second_tail-met-requires-clause-row c =
    record { lock = c.args.self.now.call.lock; at = on.at_row c.requires.waits; second = c.requires.waits.waits.looked.at.has.second }

pub tail_met-requires : goal.tail_met-requires
tail_met-requires c =
    let d = c.args.self.now.call.domain.now in
    let seen = (c.second_tail-met.ensures.seen refl).by in
    record { tail = (d.plan, seen.found, d.lawful, subst (λ (k : Plan). IsNode k seen.found) c.requires.waits.domain.plan seen.node, seen.word) }

pub returns : goal.returns
returns c =
    let q = c.args.self.now in
    let d = q.call.domain.now in
    let a = c.args.cpu.now in
    let b = c.second_tail-met.new.cpu in
    let m = c.args.first in
    let at = c.requires.waits in
    let rest = c.second_tail-met.ensures.rest in
    let seen = (c.second_tail-met.ensures.seen refl).by in
    let node = subst (λ (k : Plan). IsNode k seen.found) at.domain.plan seen.node in
    let is = sym (c.tail_met.ensures d.plan seen.found d.lawful node seen.word) in
    let step : view_of b ≡ rowed (view_of a) (calls_of a) (Named (Some seen.found)) = (λ i. (seen.seat i).0) in
    let to : (e : Pc) (Q : NodeName → Frame → Type 0) (f : Frame) → Leads d.plan.mode b.number (sees d a b) C3 f (Named (Some seen.found)) e (Q seen.found)
    → Leads d.plan.mode b.number (sees d a b) C3 f (Named (Some seen.found)) e (Q c.tail_met.result) =
    λ e Q f. subst (λ (t : NodeName). Leads d.plan.mode b.number (sees d a b) C3 f (Named (Some seen.found)) e (Q t)) is in
    let why = at.waits.looked.at.frame.why in
    record {
      node = subst (IsNode d.plan) is node;
      appends = λ x y z. on.steps_by at.domain rest (Named (Some seen.found)) step C4 (Ties q.own m x y z c.tail_met.result) (λ e. cc e)
          (λ f has. to C4 (Ties q.own m x y z) f (choice.appends_tail _ _ f q.own m x y z seen.found has));
      flushes = λ x. on.steps_by at.domain rest (Named (Some seen.found)) step C9 (Returns q.own m x c.tail_met.result) (λ e. cc e)
          (λ f has. to C9 (Returns q.own m x) f (choice.flushes_tail _ _ f q.own m x seen.found has));
      promotes = on.steps_by at.domain rest (Named (Some seen.found)) step C10 (Promoting q.own m c.tail_met.result) (λ e. cc e)
          (λ f has. to C10 (Promoting q.own m) f (choice.promotes_tail _ _ f q.own m seen.found has));
      knows = λ x mark was.
          way.told_on_row d q.call.verb q.call.lock a b rest at.domain (Named (Some seen.found)) step C3 (λ f. f.why ≡ why) Outside
          (on.standing (on.weaker {Q = λ f. f.why ≡ why} at refl)) (after_tail why) (λ f e. choice.tail_place d.plan.mode b.number (sees d a b) f seen.found why e) ∙ was;
    }
