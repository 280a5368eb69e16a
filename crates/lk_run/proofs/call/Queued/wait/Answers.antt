use Rattle.std.proofs.Common.{refl, subst, sym, ◌∙◌}
use Rattle.lk_run.proofs.Names.{Flag, G6, G7, node_in, Flagged, IsFlagNode, Plan, Fronts, Owns}
use Rattle.lk_run.proofs.Ways.{Leads, sees}
use Rattle.lk_run.proofs.Rows as row
use Rattle.lk_run.proofs.Calling as on
use Rattle.lk_run.proofs.call.Queued.wait.Goals as goal

pub look_own-met-requires-clause-row : goal.look_own-met-requires-clause-row
look_own-met-requires-clause-row c = record { lock = c.args.self.now.call.lock; at = on.at_row c.requires; me = c.requires.waits.looked.at.has.me }

pub flag_met-requires : goal.flag_met-requires
flag_met-requires c =
    let d = c.args.self.now.call.domain.now in
    let seen = (c.look_own-met.ensures.flag refl).by in
    record { flag = (d.plan, seen.found, d.lawful, subst (λ (k : Plan). IsFlagNode k seen.found) c.requires.domain.plan seen.node, seen.word) }

pub returns-clause-node : goal.returns-clause-node
returns-clause-node c =
    let w = c.args.self.now.call in
    let seen = (c.look_own-met.ensures.flag refl).by in
    let node = subst (λ (k : Plan). IsFlagNode k seen.found) c.requires.domain.plan seen.node in
    let is = c.flag_met.ensures w.domain.now.plan seen.found w.domain.now.lawful node seen.word in
    subst (IsFlagNode w.domain.now.plan) (sym is) node

pub returns-clause-leads : goal.returns-clause-leads
returns-clause-leads c ne =
    let w = c.args.self.now.call in
    let seen = (c.look_own-met.ensures.flag refl).by in
    let node = subst (λ (k : Plan). IsFlagNode k seen.found) c.requires.domain.plan seen.node in
    let is = c.flag_met.ensures w.domain.now.plan seen.found w.domain.now.lawful node seen.word in
    on.steps_by c.requires.domain c.look_own-met.ensures.rest (Flagged seen.found) (λ i. (seen.seat i).0) G7 (Fronts c.args.self.now.own (node_in c.flag_met.result)) (λ e. cc e)
    (λ f has. subst (λ (x : Flag). Leads w.domain.now.plan.mode c.look_own-met.new.cpu.number (sees w.domain.now c.args.cpu.now c.look_own-met.new.cpu) G6 f (Flagged seen.found) G7 (Fronts c.args.self.now.own (node_in x)))
    (sym is) (row.flag_leads _ _ f c.args.self.now.own has seen.found (λ h. ne (is ∙ h))))

pub returns-clause-waits : goal.returns-clause-waits
returns-clause-waits c e =
    let w = c.args.self.now.call in
    let seen = (c.look_own-met.ensures.flag refl).by in
    let node = subst (λ (k : Plan). IsFlagNode k seen.found) c.requires.domain.plan seen.node in
    let is = c.flag_met.ensures w.domain.now.plan seen.found w.domain.now.lawful node seen.word in
    on.looks_by c.requires.domain c.look_own-met.ensures.rest (Flagged seen.found) (λ i. (seen.seat i).0) (Owns c.args.self.now.own)
    (λ f has. row.flag_waits _ _ f c.args.self.now.own has seen.found (sym is ∙ e))
