use Rattle.std.proofs.Common.{◌≡◌, ◌<◌, ◌∙◌, ap, arith, length, subst, sym}
use Rattle.lk_reach.proofs.Names.{Act, processor_of, Machine, Setup, IsSound, renamed, renamed_act}
use Rattle.lk_reach.proofs.Names.{IsSuch, renaming_of, after}
use Rattle.lk_reach.proofs.Closed as closed
use Rattle.lk_reach.proofs.Folded as folded
use Rattle.lk_reach.proofs.folding.become_fold.Goals as goal

pub make-requires : goal.make-requires
make-requires c =
    let p = c.args.plan.now in
    let z = c.args.machine.now.setup in
    let h = c.requires.here in
    let r = renaming_of c.order_for-order.result in
    let fits = c.order_for-order.ensures in
    let there : c.run_renamed.new.machine ≡ renamed r h.state =
    c.run_renamed.ensures ∙ ap (λ m. renamed r m) (sym (rw c.in-Some.is at h.leads)) in
    let reached = folded.reached_renamed p z h.begun r fits h.state h.reached in
    let such = closed.reached_such folded.laws p z h.begun (renamed r h.state) reached in
    let low = closed.move_in_range p.extras z (renamed_act r c.args.doing)
    (folded.move_renamed p z h.begun r fits c.args.doing c.requires.moves) in
    let act = ap (λ (b : Act). processor_of b) c.act.ensures in
    let cpus = such.cpus in
    let back = sym there in
    record {
      such = subst (λ (m : Machine). IsSuch m.setup m) back
          (subst (λ (q : Setup). IsSuch q (renamed r h.state)) (sym such.setup) such);
      sound = subst (λ (m : Machine). IsSound m) back (closed.reached_sound folded.laws p z h.begun (renamed r h.state) reached);
      range = subst (λ (m : Machine). processor_of c.act.result < length m.cpus) back (omega (arith, low, cpus, act));
    }

pub returns-else-is_own : goal.returns-else-is_own
returns-else-is_own c =
    let p = c.args.plan.now in
    let z = c.args.machine.now.setup in
    let h = c.requires.here in
    let r = renaming_of c.order_for-order.result in
    let fits = c.order_for-order.ensures in
    let there : c.run_renamed.new.machine ≡ renamed r h.state =
    c.run_renamed.ensures ∙ ap (λ m. renamed r m) (sym (rw c.in-Some.is at h.leads)) in
    record {
      renaming = r;
      fits = fits;
      is = c.make.ensures.after ∙ ap (λ q. after q c.act.result) there ∙ ap (λ b. after (renamed r h.state) b) c.act.ensures
          ∙ folded.after_renamed p z h.begun r fits h.state h.reached c.args.doing
          ∙ ap (λ q. renamed r q) (sym (c.requires.behind h.state h.keeps h.reached));
    }

-- without a schedule
pub returns-in_default : goal.returns-in_default
returns-in_default c = record {
  renaming = folded.own_numbers;
  fits = folded.own_fits c.args.plan.now c.args.machine.now.setup c.requires.here.begun;
  is = sym (folded.own_same c.args.machine.now);
}

-- nobody gets a new number
pub returns-then-is_own : goal.returns-then-is_own
returns-then-is_own c = record {
  renaming = folded.own_numbers;
  fits = folded.own_fits c.args.plan.now c.args.machine.now.setup c.requires.here.begun;
  is = sym (folded.own_same c.args.machine.now);
}
