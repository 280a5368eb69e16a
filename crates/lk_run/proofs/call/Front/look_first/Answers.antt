use Rattle.std.proofs.Common.{IfSome, Some, ap, refl, subst, sym, ◌∙◌, ◌≡◌, is_some}
use Rattle.lk_run.proofs.Names.{NodeName, first_by, C1, C2, C3, C7, Linked, sight_by, sight_of}
use Rattle.lk_run.proofs.Names.{terms_of, told, counting, rowed, IsOf, calls_of, view_of, Outside}
use Rattle.lk_run.proofs.Names.{IsNode, Plan, View, IsFirstNode, Flushes, Fronts, Precedes}
use Rattle.lk_run.proofs.Names.{Promotes, Skips, newest}
use Rattle.lk_domain.specs.{Calls.told_by, Words.{link_number, marked}}
use Rattle.lk_run.proofs.{Places.name_low, Steps.still_of, Ways.sees}
use Rattle.lk_run.proofs.ChoiceRows as choice
use Rattle.lk_run.proofs.Calling as on
use Rattle.lk_run.proofs.Stepped as way
use Rattle.lk_run.proofs.call.Front.look_first.Goals as goal

pub own_runs-runs-requires-clause-row : goal.own_runs-runs-requires-clause-row
own_runs-runs-requires-clause-row c =
    record { lock = c.args.self.now.call.lock; row = C1; is = refl; at = on.at_row c.requires; me = c.requires.waits.looked.at.has.me }

pub look_own-met-requires-clause-domain : goal.look_own-met-requires-clause-domain
look_own-met-requires-clause-domain c =
    still_of c.args.self.now.call.domain.now c.args.cpu.now c.own_runs-runs.new.cpu c.own_runs-runs.ensures.rest c.requires.domain

pub look_own-met-requires-clause-row : goal.look_own-met-requires-clause-row
look_own-met-requires-clause-row c =
    let same : view_of c.own_runs-runs.new.cpu ≡ counting c.own_runs-runs.result (view_of c.args.cpu.now) = (λ i. (c.own_runs-runs.ensures.seen.by.seat i).0) in
    let now = on.counted c.own_runs-runs.ensures.rest c.own_runs-runs.result same c.requires in
    record {
      lock = c.args.self.now.call.lock;
      row = C1;
      is = refl;
      at = on.at_row now;
      me = now.waits.looked.at.has.me;
      seen = λ _. ap (λ (v : View). is_some v.calls.runs) same;
    }

pub node_met-requires : goal.node_met-requires
node_met-requires c =
    let q = c.args.self.now in
    let d = q.call.domain.now in
    let a = c.args.cpu.now in
    let m = c.own_runs-runs.new.cpu in
    let b = c.look_own-met.new.cpu in
    let r = c.own_runs-runs.result in
    let of : IsOf m d = still_of d a m c.own_runs-runs.ensures.rest c.requires.domain in
    let same : view_of m ≡ counting r (view_of a) = (λ i. (c.own_runs-runs.ensures.seen.by.seat i).0) in
    let seen = (c.look_own-met.ensures.next refl).by in
    let node = subst (λ (k : Plan). IfSome seen.found (IsNode k)) of.plan seen.node in
    record { link = (d.plan, seen.found, seen.mark, d.lawful, node, seen.word) }

pub first_seen-seen-requires : goal.first_seen-seen-requires
first_seen-seen-requires c =
    let q = c.args.self.now in
    let d = q.call.domain.now in
    let a = c.args.cpu.now in
    let m = c.own_runs-runs.new.cpu in
    let b = c.look_own-met.new.cpu in
    let r = c.own_runs-runs.result in
    let of : IsOf m d = still_of d a m c.own_runs-runs.ensures.rest c.requires.domain in
    let same : view_of m ≡ counting r (view_of a) = (λ i. (c.own_runs-runs.ensures.seen.by.seat i).0) in
    let seen = (c.look_own-met.ensures.next refl).by in
    let node = subst (λ (k : Plan). IfSome seen.found (IsNode k)) of.plan seen.node in
    let is = c.node_met.ensures d.plan seen.found seen.mark d.lawful node seen.word in
    subst (λ o. IfSome o (IsNode d.plan)) (sym is) node

pub returns : goal.returns
returns c =
    let q = c.args.self.now in
    let d = q.call.domain.now in
    let a = c.args.cpu.now in
    let m = c.own_runs-runs.new.cpu in
    let b = c.look_own-met.new.cpu in
    let r = c.own_runs-runs.result in
    let rest = c.own_runs-runs.ensures.rest in
    let of : IsOf m d = still_of d a m rest c.requires.domain in
    let same : view_of m ≡ counting r (view_of a) = (λ i. (c.own_runs-runs.ensures.seen.by.seat i).0) in
    let seen = (c.look_own-met.ensures.next refl).by in
    let node = subst (λ (k : Plan). IfSome seen.found (IsNode k)) of.plan seen.node in
    let is = c.node_met.ensures d.plan seen.found seen.mark d.lawful node seen.word in
    let marked_so : (x : NodeName) → seen.found ≡ Some x → c.mark_met-mark.result ≡ seen.mark = (λ x met.
    c.mark_met-mark.ensures x seen.mark (name_low d.plan x d.lawful.cpus (subst (λ o. IfSome o (IsNode d.plan)) met node)) (seen.word ∙ ap (λ o. marked seen.mark (link_number o)) met)) in
    let sees_it : first_by (sight_by (sees d m b) (Linked seen.found seen.mark)) q.second seen.found ≡ c.first_seen-seen.result =
    (λ i. first_by (sight_by (sight_of (terms_of d.plan) (sym c.number.ensures i) (ap (λ (v : View). v.calls.runs) same i)) (Linked (sym is i) seen.mark)) q.second (sym is i))
    ∙ (choice.first_marks (sight_of (terms_of d.plan) c.number.result (Some r)) q.second c.node_met.result seen.mark c.mark_met-mark.result
    (λ x e. sym (marked_so x (sym is ∙ e)))
    ∙ sym c.first_seen-seen.ensures) in
    let stands = on.standing (on.counted rest r same c.requires) in
    let seat : view_of b ≡ rowed (view_of m) (calls_of m) (Linked seen.found seen.mark) = (λ i. (seen.seat i).0) in
    record {
      node = subst (IsFirstNode d.plan) sees_it
          (choice.first_node d.plan (sight_by (sees d m b) (Linked seen.found seen.mark)) q.second seen.found (on.if_some (IsNode d.plan) q.second q.aside) node);
      waits = λ e. on.counted_looks rest r same
          (on.looks_by of c.look_own-met.ensures.rest (Linked seen.found seen.mark) seat (Fronts q.own q.second)
          (λ f has. choice.first_waits _ _ f q.own q.second seen.found has (sees_it ∙ e)));
      named = λ first e. choice.promotes_named (sight_by (sight_of (terms_of d.plan) c.number.result (Some r)) (Linked c.node_met.result c.mark_met-mark.result))
          q.second c.node_met.result first (sym c.first_seen-seen.ensures ∙ e);
      promotes = λ first e. on.counted_steps rest r same
          (on.steps_by of c.look_own-met.ensures.rest (Linked seen.found seen.mark) seat C3 (Promotes q.own first) (λ h. cc h)
          (λ f has. choice.first_promotes _ _ f q.own q.second seen.found has first (sees_it ∙ e)));
      chooses = λ y e. on.counted_steps rest r same
          (on.steps_by of c.look_own-met.ensures.rest (Linked seen.found seen.mark) seat C7 (Precedes q.own q.second y) (λ h. cc h)
          (λ f has. choice.first_chooses _ _ f q.own q.second seen.found has y (sees_it ∙ e)));
      skips = λ x e. on.counted_steps rest r same
          (on.steps_by of c.look_own-met.ensures.rest (Linked seen.found seen.mark) seat C2 (Skips q.own q.second x x) (λ h. cc h)
          (λ f has. choice.first_skips _ _ f q.own q.second seen.found has x (sees_it ∙ e)));
      flushes = λ first x e. on.counted_steps rest r same
          (on.steps_by of c.look_own-met.ensures.rest (Linked seen.found seen.mark) seat C3 (Flushes q.own first x) (λ h. cc h)
          (λ f has. choice.first_flushes _ _ f q.own q.second seen.found has first x (sees_it ∙ e)));
      skipped = λ x e.
          let met : seen.found ≡ Some x = choice.skips_met (sight_by (sees d m b) (Linked seen.found seen.mark)) q.second seen.found x (sees_it ∙ e) in
          let mark = marked_so x met in
          way.told_on_row d q.call.verb q.call.lock m b c.look_own-met.ensures.rest of (Linked seen.found seen.mark) seat C1
          (Fronts q.own q.second) Outside stands C2
          (λ f has. (choice.first_skips d.plan.mode b.number {z = sees d m b} f q.own q.second seen.found {i = seen.mark} has x (sees_it ∙ e)).place)
          ∙ (λ i. told_by (told (newest (calls_of m).frames)) C1 (Linked (met i) (sym mark i)));
      flushed = λ first x e.
          let met : seen.found ≡ Some x = choice.flushes_met (sight_by (sees d m b) (Linked seen.found seen.mark)) q.second seen.found first x (sees_it ∙ e) in
          let mark = marked_so x met in
          way.told_on_row d q.call.verb q.call.lock m b c.look_own-met.ensures.rest of (Linked seen.found seen.mark) seat C1
          (Fronts q.own q.second) Outside stands C3
          (λ f has. (choice.first_flushes d.plan.mode b.number {z = sees d m b} f q.own q.second seen.found {i = seen.mark} has first x (sees_it ∙ e)).place)
          ∙ (λ i. told_by (told (newest (calls_of m).frames)) C1 (Linked (met i) (sym mark i)));
    }
