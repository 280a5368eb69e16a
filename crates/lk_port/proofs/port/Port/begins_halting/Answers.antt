use Rattle.std.proofs.Common.{ℕ, set, true, refl, sym, subst, ◌≡◌, ◌∙◌}
use Rattle.lk_rows.specs.declared.parts.Pc.TheVariants.{G1}
use Rattle.lk_domain.specs.Paths.{Any}
use Rattle.lk_pvdomain.proofs.ways.Frees.{is_let}
use Rattle.lk_pvdomain.proofs.ways.Kept.{kept_cpu, let_rests, let_same, rests_of}
use Rattle.lk_pvdomain.proofs.ways.Rested.{at_row, kept_since, same_since, since_first, since_take}
use Rattle.lk_pvdomain.specs.PvPaths.{At, Rests, Took, first_node}
use Rattle.lk_port.proofs.Names.{Domain, Lock, own_node, first_of}
use Rattle.lk_port.proofs.{Ports.{held_first, named, other, ready}, Shares.{halting, halting_in, halts_by, is_of, low_in, same_domain, still_in}}
use Rattle.lk_port.proofs.HaltingPorts as port
use Rattle.lk_port.proofs.port.Port.begins_halting.Goals as goal

pub take-requires-clause-rests : goal.take-requires-clause-rests
take-requires-clause-rests c =
    let me = c.args.self.now in
    let x = halting_in me.share c.requires.halts in
    let d = x.0 in
    let e : c.domain.result.now ≡ d.domain = c.domain.ensures ∙ same_domain me.share d x.1 in
    let r = port.rests me.share d me.notes.items me.pending me.cpu x.1 c.requires.may.free c.stands.ensures in (
      own_node me.cpu,
      subst (λ (y : Domain). Rests y (own_node me.cpu) me.cpu.seat) (sym e) (rests_of d me.cpu (is_of me.share d x.1 me.of) r.0),
    )

pub invariant_of-self : goal.invariant_of-self
invariant_of-self c =
    let me = c.args.self.now in
    let l = c.args.lock.index in
    let own = own_node me.cpu in
    let s = first_of Lock l me.cpu.seat in
    let new = c.take.new.seat in
    let x = halting_in me.share c.requires.halts in
    let d = x.0 in
    let of = is_of me.share d x.1 me.of in
    let e : c.domain.result.now ≡ d.domain = c.domain.ensures ∙ same_domain me.share d x.1 in
    let r = port.rests me.share d me.notes.items me.pending me.cpu x.1 c.requires.may.free c.stands.ensures in
    let rests = subst (λ (y : Domain). Rests y own me.cpu.seat) (sym e) (rests_of d me.cpu of r.0) in
    let since = since_take c.domain.result.now l own s new c.take.result (λ t. c.take.ensures.took t own rests) (λ t. c.take.ensures.goes t own rests) in
    let k = kept_cpu d me.cpu of new (kept_since (since_first l me.cpu.seat) since) in
    (k.numbered, ((λ t. absurd (k.awake t)), ((λ t. absurd (k.awake t)), (k.carried, tt))))

pub invariant_of-self-then-take : goal.invariant_of-self-then-take
invariant_of-self-then-take c =
    let me = c.args.self.now in
    let l = c.args.lock.index in
    let own = own_node me.cpu in
    let s = first_of Lock l me.cpu.seat in
    let new = c.take.new.seat in
    let may = c.requires.may in
    let x = halting_in me.share c.requires.halts in
    let d = x.0 in
    let of = is_of me.share d x.1 me.of in
    let e : c.domain.result.now ≡ d.domain = c.domain.ensures ∙ same_domain me.share d x.1 in
    let r = port.rests me.share d me.notes.items me.pending me.cpu x.1 may.free c.stands.ensures in
    let rests = subst (λ (y : Domain). Rests y own me.cpu.seat) (sym e) (rests_of d me.cpu of r.0) in
    let took = subst (λ (y : Domain). Took y Lock l own s new) e (c.take.ensures.took c.if-take.true own rests) in
    let t = is_let me.cpu.seat new took in
    record {
      of = still_in me.share me.cpu _ (let_same me.cpu _ t refl) me.of;
      lasts = named c.requires.last (ready may may.free (held_first took.holds));
      stands = ∣ port.stands me.share d (set me.notes.items l true) me.pending _ x.1 may.free
          (let_rests t, port.took d Lock l own s new me.notes.items r.1 (low_in me.share d x.1 may.lock) took) ∣₁;
    }

pub returns-then-take-clause-taken : goal.returns-then-take-clause-taken
returns-then-take-clause-taken c done =
    let me = c.args.self.now in
    let l = c.args.lock.index in
    let own = own_node me.cpu in
    let s = first_of Lock l me.cpu.seat in
    let new = c.take.new.seat in
    let x = halting_in me.share c.requires.halts in
    let d = x.0 in
    let e : c.domain.result.now ≡ d.domain = c.domain.ensures ∙ same_domain me.share d x.1 in
    let r = port.rests me.share d me.notes.items me.pending me.cpu x.1 c.requires.may.free c.stands.ensures in
    let rests = subst (λ (y : Domain). Rests y own me.cpu.seat) (sym e) (rests_of d me.cpu (is_of me.share d x.1 me.of) r.0) in
    let took = subst (λ (y : Domain). Took y Lock l own s new) e (c.take.ensures.took c.if-take.true own rests) in
    halts_by _ _ me.share d x.1 (record { took = took; rests = let_rests (is_let me.cpu.seat new took) })

pub settles_halting-requires : goal.settles_halting-requires
settles_halting-requires c =
    let me = c.args.self.now in
    let l = c.args.lock.index in
    let own = own_node me.cpu in
    let s = first_of Lock l me.cpu.seat in
    let new = c.take.new.seat in
    let x = halting_in me.share c.requires.halts in
    let d = x.0 in
    let e : c.domain.result.now ≡ d.domain = c.domain.ensures ∙ same_domain me.share d x.1 in
    let r = port.rests me.share d me.notes.items me.pending me.cpu x.1 c.requires.may.free c.stands.ensures in
    let rests = subst (λ (y : Domain). Rests y own me.cpu.seat) (sym e) (rests_of d me.cpu (is_of me.share d x.1 me.of) r.0) in
    let at = c.take.ensures.goes c.if-take.false own rests in
    record {
      of = still_in me.share me.cpu _ (same_since me.cpu _ (since_first l me.cpu.seat) (at_row at) refl) me.of;
      halts = c.requires.halts;
      begun = (s, subst (λ (y : Domain). At y Lock l own s G1 Any new) c.domain.ensures at);
    }

pub invariant_of-self-2 : goal.invariant_of-self-2
invariant_of-self-2 c =
    let me = c.args.self.now in
    let l = c.args.lock.index in
    let own = own_node me.cpu in
    let s = first_of Lock l me.cpu.seat in
    let may = c.requires.may in
    let x = halting_in me.share c.requires.halts in
    let d = x.0 in
    let e : c.domain.result.now ≡ d.domain = c.domain.ensures ∙ same_domain me.share d x.1 in
    let r = port.rests me.share d me.notes.items me.pending me.cpu x.1 may.free c.stands.ensures in
    let rests = subst (λ (y : Domain). Rests y own me.cpu.seat) (sym e) (rests_of d me.cpu (is_of me.share d x.1 me.of) r.0) in
    let at = subst (λ (y : Domain). At y Lock l own s G1 Any c.take.new.seat) c.domain.ensures (c.take.ensures.goes c.if-take.false own rests) in
    let k = c.settles_halting.ensures in
    let new = c.settles_halting.new.cpu in
    record {
      of = still_in me.share me.cpu new
          (record { table = k.same.table ∙ at.table_was; id = k.same.id ∙ at.id_was; number = k.same.number; who = k.same.who ∙ at.who }) me.of;
      lasts = other;
      stands = ∣ port.settled me.share d x.1 me.notes.items l c.get_mut-note.result.now c.settles_halting.new.note me.pending c.settles_halting.new.pending s new
          c.settles_halting.result k.turn may.free (low_in me.share d x.1 may.lock) r.1 c.get_mut-note.ensures.value
          (λ y. k.taken y s at) k.noted (λ y. k.pending y s at) k.still ∣₁;
    }

pub returns-clause-taken : goal.returns-clause-taken
returns-clause-taken c done =
    let me = c.args.self.now in
    let l = c.args.lock.index in
    let own = own_node me.cpu in
    let s = first_of Lock l me.cpu.seat in
    let x = halting_in me.share c.requires.halts in
    let d = x.0 in
    let e : c.domain.result.now ≡ d.domain = c.domain.ensures ∙ same_domain me.share d x.1 in
    let r = port.rests me.share d me.notes.items me.pending me.cpu x.1 c.requires.may.free c.stands.ensures in
    let rests = subst (λ (y : Domain). Rests y own me.cpu.seat) (sym e) (rests_of d me.cpu (is_of me.share d x.1 me.of) r.0) in
    let at = subst (λ (y : Domain). At y Lock l own s G1 Any c.take.new.seat) c.domain.ensures (c.take.ensures.goes c.if-take.false own rests) in
    let k = c.settles_halting.ensures in
    let new = c.settles_halting.new.cpu in
    let t = halting _ _ me.share d x.1 (k.taken done s at) in
    halts_by _ _ me.share d x.1
    (record { took = subst (λ (n : ℕ). Took d.domain Lock l (first_node n) s new.seat) k.same.number t.took; rests = t.rests })
