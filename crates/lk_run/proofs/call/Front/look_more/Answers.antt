use Rattle.std.proofs.Common.{IfSome, Some, ap, subst, sym, ◌∙◌, ◌≡◌}
use Rattle.lk_run.proofs.Names.{more_by, C2, C3, C5, C7, Linked, sight_by, sight_of, terms_of}
use Rattle.lk_run.proofs.Names.{calls_of, Outside, IsNode, Plan, IsMoreNode, Flushes, Parts}
use Rattle.lk_run.proofs.Names.{Precedes, Skips}
use Rattle.lk_domain.specs.Words.{link_number, marked}
use Rattle.lk_run.proofs.{Places.name_low, Ways.sees}
use Rattle.lk_run.specs.Frames.{Appends}
use Rattle.lk_run.proofs.ChoiceRows as choice
use Rattle.lk_run.proofs.Calling as on
use Rattle.lk_run.proofs.Stepped as way
use Rattle.lk_run.proofs.call.Front.look_more.Goals as goal

pub look_next-met-requires-clause-domain : goal.look_next-met-requires-clause-domain
look_next-met-requires-clause-domain c = c.requires.waits.at.domain

pub look_next-met-requires-clause-row : goal.look_next-met-requires-clause-row
look_next-met-requires-clause-row c =
    record { lock = c.args.self.now.call.lock; at = on.at_row c.requires.waits.at; b = c.requires.waits.at.waits.looked.at.has.last }

pub node_met-requires : goal.node_met-requires
node_met-requires c =
    let q = c.args.self.now in
    let d = q.call.domain.now in
    let a = c.args.cpu.now in
    let m = c.look_next-met.new.cpu in
    let of = c.requires.waits.at.domain in
    let seen = c.look_next-met.ensures.seen.by in
    let node = subst (λ (k : Plan). IfSome seen.found (IsNode k)) of.plan seen.node in
    record { link = (d.plan, seen.found, seen.mark, d.lawful, node, seen.word) }

pub more_seen-requires : goal.more_seen-requires
more_seen-requires c =
    let q = c.args.self.now in
    let d = q.call.domain.now in
    let a = c.args.cpu.now in
    let m = c.look_next-met.new.cpu in
    let of = c.requires.waits.at.domain in
    let seen = c.look_next-met.ensures.seen.by in
    let node = subst (λ (k : Plan). IfSome seen.found (IsNode k)) of.plan seen.node in
    let is = c.node_met.ensures d.plan seen.found seen.mark d.lawful node seen.word in
    subst (λ o. IfSome o (IsNode d.plan)) (sym is) node

pub returns : goal.returns
returns c =
    let q = c.args.self.now in
    let d = q.call.domain.now in
    let a = c.args.cpu.now in
    let m = c.look_next-met.new.cpu in
    let of = c.requires.waits.at.domain in
    let rest = c.look_next-met.ensures.rest in
    let seen = c.look_next-met.ensures.seen.by in
    let node = subst (λ (k : Plan). IfSome seen.found (IsNode k)) of.plan seen.node in
    let is = c.node_met.ensures d.plan seen.found seen.mark d.lawful node seen.word in
    let sees_it : more_by (sight_by (sees d a m) (Linked seen.found seen.mark)) q.second seen.found ≡ c.more_seen.result =
    (λ i. more_by (sight_by (sight_of (terms_of d.plan) (sym c.number.ensures i) (calls_of a).runs) (Linked (sym is i) seen.mark)) q.second (sym is i))
    ∙ (choice.more_marks (sight_of (terms_of d.plan) c.number.result (calls_of a).runs) q.second c.node_met.result seen.mark c.mark_met-mark.result (λ x e.
    let met : seen.found ≡ Some x = sym is ∙ e in
    sym (c.mark_met-mark.ensures x seen.mark (name_low d.plan x d.lawful.cpus (subst (λ o. IfSome o (IsNode d.plan)) met node)) (seen.word ∙ ap (λ o. marked seen.mark (link_number o)) met)))
    ∙ sym (c.more_seen.ensures (calls_of a).runs)) in
    record {
      node = subst (IsMoreNode d.plan) sees_it
          (choice.more_node d.plan (sight_by (sees d a m) (Linked seen.found seen.mark)) q.second seen.found (on.if_some (IsNode d.plan) q.second q.aside) node);
      skips = λ a' next e. on.looks_by of rest (Linked seen.found seen.mark) (λ i. (seen.seat i).0) (Skips q.own q.second a' next)
          (λ f has. choice.more_skips _ _ f q.own q.second seen.found a' c.args.b has next (sees_it ∙ e));
      appends = λ a' first y e. on.steps_by of rest (Linked seen.found seen.mark) (λ i. (seen.seat i).0) C3 (Appends q.own first a' c.args.b y) (λ h. cc h)
          (λ f has. choice.more_appends _ _ f q.own q.second seen.found a' c.args.b has first y (sees_it ∙ e));
      begins = λ a' y e. on.steps_by of rest (Linked seen.found seen.mark) (λ i. (seen.seat i).0) C5 (Parts q.own a' c.args.b y) (λ h. cc h)
          (λ f has. choice.more_begins _ _ f q.own q.second seen.found a' c.args.b has y (sees_it ∙ e));
      flushes = λ a' first e. on.steps_by of rest (Linked seen.found seen.mark) (λ i. (seen.seat i).0) C3 (Flushes q.own first a') (λ h. cc h)
          (λ f has. choice.more_flushes _ _ f q.own q.second seen.found a' c.args.b has first (sees_it ∙ e));
      chooses = λ a' e. on.steps_by of rest (Linked seen.found seen.mark) (λ i. (seen.seat i).0) C7 (Precedes q.own q.second a') (λ h. cc h)
          (λ f has. choice.more_chooses _ _ f q.own q.second seen.found a' c.args.b has (sees_it ∙ e));
      knows = λ first mark was.
          way.told_on_row d q.call.verb q.call.lock a m rest of (Linked seen.found seen.mark) (λ i. (seen.seat i).0) C2
          (Skips q.own q.second c.requires.waits.skipped c.args.b) Outside (on.standing c.requires.waits.at) (choice.more_pc c.more_seen.result)
          (λ f has. choice.more_goes d.plan.mode m.number (sees d a m) f q.second seen.found seen.mark has.fronts.second c.more_seen.result sees_it) ∙ was;
    }
