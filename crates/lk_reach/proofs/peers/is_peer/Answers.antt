use Rattle.std.proofs.Common.{◌≡◌, ◌∙◌, ap, arith, get_or, subst, sym}
use Rattle.lk_reach.proofs.Names.{ListOf, Op}
use Rattle.lk_reach.proofs.apart.Alike.{got_or, no_program, no_programs, peers_are}
use Rattle.lk_reach.specs.Peers.{HasSameHandlers}
use Rattle.lk_reach.proofs.peers.is_peer.Goals as goal

pub returns : goal.returns
returns c =
    let z = c.args.setup.now in
    let p = c.args.one in
    let q = c.args.other in
    let sockets = z.topology.sockets.items in
    let progs = z.progs.items in
    let irqs = z.irqs.items in
    let same = c.if-get.false in
    let task : (get_or progs p no_program).items ≡ (get_or progs q no_program).items =
    ap (λ (x : ListOf Op). x.items) (got_or progs p c.get-3.result.now no_program c.get-3.ensures)
    ∙ c.same_program.ensures c.if-not-same_program.false
    ∙ sym (ap (λ (x : ListOf Op). x.items) (got_or progs q c.get-4.result.now no_program c.get-4.ensures)) in
    λ yes. peers_are z p q task
    (subst (λ (x : ListOf (ListOf Op)). HasSameHandlers x.items (get_or irqs q no_programs).items)
    (sym (got_or irqs p c.get-5.result.now no_programs c.get-5.ensures))
    (subst (λ (x : ListOf (ListOf Op)). HasSameHandlers c.get-5.result.now.items x.items)
    (sym (got_or irqs q c.get-6.result.now no_programs c.get-6.ensures)) (c.same_handlers.ensures yes)))
    (got_or sockets p c.get.result.now 0 c.get.ensures ∙ omega (arith, same)
    ∙ sym (got_or sockets q c.get-2.result.now 0 c.get-2.ensures))
