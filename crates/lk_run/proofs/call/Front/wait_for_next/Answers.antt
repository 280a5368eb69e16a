use Rattle.std.proofs.Common.{IfSome, refl, subst, sym, ◌∙◌}
use Rattle.lk_run.proofs.Names.{G10, G11, Linked, IsNode, Plan, Fronts, Precedes, Steps}
use Rattle.lk_run.proofs.Places.{each_some}
use Rattle.lk_run.proofs.Rows as row
use Rattle.lk_run.proofs.Calling as on
use Rattle.lk_run.proofs.call.Front.wait_for_next.Goals as goal

pub look_own-met-requires-clause-row : goal.look_own-met-requires-clause-row
look_own-met-requires-clause-row c =
    record { lock = c.args.self.now.call.lock; row = G10; is = refl; at = on.at_row c.requires; me = c.requires.waits.looked.at.has.me; seen = λ e. absurd (cc e) }

pub node_met-requires : goal.node_met-requires
node_met-requires c =
    let d = c.args.self.now.call.domain.now in
    let seen = (c.look_own-met.ensures.next refl).by in
    record { link = (d.plan, seen.found, seen.mark, d.lawful, subst (λ (k : Plan). IfSome seen.found (IsNode k)) c.requires.domain.plan seen.node, seen.word) }

pub returns-clause-node : goal.returns-clause-node
returns-clause-node c =
    let q = c.args.self.now in
    let seen = (c.look_own-met.ensures.next refl).by in
    let node = subst (λ (k : Plan). IfSome seen.found (IsNode k)) c.requires.domain.plan seen.node in
    let is = c.node_met.ensures q.call.domain.now.plan seen.found seen.mark q.call.domain.now.lawful node seen.word in
    subst (λ o. IfSome o (IsNode q.call.domain.now.plan)) (sym is) node

pub returns-clause-next : goal.returns-clause-next
returns-clause-next c =
    let q = c.args.self.now in
    let seen = (c.look_own-met.ensures.next refl).by in
    let node = subst (λ (k : Plan). IfSome seen.found (IsNode k)) c.requires.domain.plan seen.node in
    let is = c.node_met.ensures q.call.domain.now.plan seen.found seen.mark q.call.domain.now.lawful node seen.word in
    each_some (λ next. Steps q.call G10 (Fronts q.own q.second) G11 (Precedes q.own q.second next) c.args.cpu.now c.look_own-met.new.cpu) c.node_met.result
    (λ next e. on.steps_by c.requires.domain c.look_own-met.ensures.rest (Linked seen.found seen.mark) (λ i. (seen.seat i).0) G11 (Precedes q.own q.second next) (λ h. cc h)
    (λ f has. row.next_sees _ _ f q.own q.second has seen.found next (sym is ∙ e)))

pub returns-clause-stays : goal.returns-clause-stays
returns-clause-stays c none =
    let q = c.args.self.now in
    let seen = (c.look_own-met.ensures.next refl).by in
    let node = subst (λ (k : Plan). IfSome seen.found (IsNode k)) c.requires.domain.plan seen.node in
    let is = c.node_met.ensures q.call.domain.now.plan seen.found seen.mark q.call.domain.now.lawful node seen.word in
    on.looks_by c.requires.domain c.look_own-met.ensures.rest (Linked seen.found seen.mark) (λ i. (seen.seat i).0) (Fronts q.own q.second)
    (λ f has. row.next_waits _ _ f q.own q.second has seen.found (sym is ∙ none))
