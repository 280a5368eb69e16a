use Rattle.std.proofs.Common.{List, Bool, set, true, false, refl, sym, ap, subst, ◌≡◌, ◌∙◌}
use Rattle.atomic_table.specs.Table.{Me}
use Rattle.lk_names.proofs.Places.{set-slice_get}
use Rattle.lk_rows.specs.declared.setup.Verb.TheVariants.{Unlock}
use Rattle.lk_domain.specs.Calls.{Frees}
use Rattle.lk_domain.specs.Keeps.{Slot}
use Rattle.lk_domain.specs.declared.view.View.{View}
use Rattle.lk_pvdomain.proofs.ways.Frees.{freed_none, is_let}
use Rattle.lk_pvdomain.proofs.ways.Kept.{kept_cpu, let_cpu, let_rests, let_same, rests_of}
use Rattle.lk_pvdomain.specs.PvCalls.{HasTried, IsAsItWas, MayFree}
use Rattle.lk_pvdomain.specs.PvPaths.{Ended, Rests}
use Rattle.lk_pvdomain.specs.PvReleases.{has_freed}
use Rattle.lk_port.proofs.Names.{Domain, own_node, first_of, calls_of}
use Rattle.lk_port.proofs.{Ports.{named, none_out, other, ready}, Shares.{halting_in, halts_by, is_of, low_in, same_domain, still_in}}
use Rattle.lk_port.proofs.HaltingPorts as port
use Rattle.lk_port.proofs.port.Port.frees_halting.Goals as goal

pub free-met-requires : goal.free-met-requires
free-met-requires c =
    let me = c.args.self.now in
    let l = c.args.lock.index in
    let may = c.requires.may in
    let x = halting_in me.share c.requires.halts in
    let d = x.0 in
    let e : c.domain.result.now ≡ d.domain = c.domain.ensures ∙ same_domain me.share d x.1 in
    let r = port.rests me.share d me.notes.items me.pending me.cpu x.1 may.free c.stands.ensures in
    record {
      may = (
        own_node me.cpu,
        subst (λ (y : Domain). MayFree y l (own_node me.cpu) me.cpu.seat) (sym e)
            (record {
              rests = rests_of d me.cpu (is_of me.share d x.1 me.of) r.0;
              low = low_in me.share d x.1 may.lock;
              held = may.holds;
              home = λ first. r.1.out;
              value = none_out (calls_of me.cpu).holds l r.1.home;
            }),
      );
    }

pub invariant_of-self : goal.invariant_of-self
invariant_of-self c =
    let me = c.args.self.now in
    let l = c.args.lock.index in
    let own = own_node me.cpu in
    let s = first_of Unlock l me.cpu.seat in
    let may = c.requires.may in
    let x = halting_in me.share c.requires.halts in
    let d = x.0 in
    let of = is_of me.share d x.1 me.of in
    let e : c.domain.result.now ≡ d.domain = c.domain.ensures ∙ same_domain me.share d x.1 in
    let r = port.rests me.share d me.notes.items me.pending me.cpu x.1 may.free c.stands.ensures in
    let rests = subst (λ (y : Domain). Rests y own me.cpu.seat) (sym e) (rests_of d me.cpu of r.0) in
    let new = c.free-met.new.seat in
    let ended = subst (λ (y : Domain). Ended y Unlock l own s Frees new) e (c.free-met.ensures.freed c.if-met-eq-HELD.true own rests) in
    let t = is_let me.cpu.seat new ended in
    let k = let_cpu d me.cpu of new t in
    (k.numbered, ((λ y. absurd (k.awake y)), ((λ y. absurd (k.awake y)), (k.carried, tt))))

pub invariant_of-self-then-met-eq-HELD : goal.invariant_of-self-then-met-eq-HELD
invariant_of-self-then-met-eq-HELD c =
    let me = c.args.self.now in
    let l = c.args.lock.index in
    let own = own_node me.cpu in
    let s = first_of Unlock l me.cpu.seat in
    let may = c.requires.may in
    let x = halting_in me.share c.requires.halts in
    let d = x.0 in
    let of = is_of me.share d x.1 me.of in
    let e : c.domain.result.now ≡ d.domain = c.domain.ensures ∙ same_domain me.share d x.1 in
    let r = port.rests me.share d me.notes.items me.pending me.cpu x.1 may.free c.stands.ensures in
    let rests = subst (λ (y : Domain). Rests y own me.cpu.seat) (sym e) (rests_of d me.cpu of r.0) in
    let new = c.free-met.new.seat in
    let ended = subst (λ (y : Domain). Ended y Unlock l own s Frees new) e (c.free-met.ensures.freed c.if-met-eq-HELD.true own rests) in
    let t = is_let me.cpu.seat new ended in
    record {
      of = still_in me.share me.cpu _ (let_same me.cpu _ t refl) me.of;
      lasts = named c.requires.last (ready may may.free (freed_none d.domain l own me.cpu.seat new ended));
      stands = ∣ port.stands me.share d (set me.notes.items l false) me.pending _ x.1 may.free
          (port.released d l me.cpu new me.notes.items r.1 (low_in me.share d x.1 may.lock) ended) ∣₁;
    }

pub returns-then-met-eq-HELD-clause-freed : goal.returns-then-met-eq-HELD-clause-freed
returns-then-met-eq-HELD-clause-freed c is =
    let me = c.args.self.now in
    let l = c.args.lock.index in
    let own = own_node me.cpu in
    let s = first_of Unlock l me.cpu.seat in
    let may = c.requires.may in
    let x = halting_in me.share c.requires.halts in
    let d = x.0 in
    let of = is_of me.share d x.1 me.of in
    let e : c.domain.result.now ≡ d.domain = c.domain.ensures ∙ same_domain me.share d x.1 in
    let r = port.rests me.share d me.notes.items me.pending me.cpu x.1 may.free c.stands.ensures in
    let rests = subst (λ (y : Domain). Rests y own me.cpu.seat) (sym e) (rests_of d me.cpu of r.0) in
    let new = c.free-met.new.seat in
    let ended = subst (λ (y : Domain). Ended y Unlock l own s Frees new) e (c.free-met.ensures.freed c.if-met-eq-HELD.true own rests) in
    let t = is_let me.cpu.seat new ended in
    halts_by _ _ me.share d x.1 (record { ended = ended; none = freed_none d.domain l own me.cpu.seat new ended; rests = let_rests t })

pub frees_on-requires-clause-tried : goal.frees_on-requires-clause-tried
frees_on-requires-clause-tried c =
    let me = c.args.self.now in
    let l = c.args.lock.index in
    let own = own_node me.cpu in
    let s = first_of Unlock l me.cpu.seat in
    let may = c.requires.may in
    let x = halting_in me.share c.requires.halts in
    let d = x.0 in
    let of = is_of me.share d x.1 me.of in
    let e : c.domain.result.now ≡ d.domain = c.domain.ensures ∙ same_domain me.share d x.1 in
    let r = port.rests me.share d me.notes.items me.pending me.cpu x.1 may.free c.stands.ensures in
    let rests = subst (λ (y : Domain). Rests y own me.cpu.seat) (sym e) (rests_of d me.cpu of r.0) in
    (own, s, subst (λ (y : Domain). HasTried y l own s c.free-met.result c.free-met.new.seat) c.domain.ensures (c.free-met.ensures.tried own rests))

pub invariant_of-self-2 : goal.invariant_of-self-2
invariant_of-self-2 c =
    let me = c.args.self.now in
    let l = c.args.lock.index in
    let own = own_node me.cpu in
    let s = first_of Unlock l me.cpu.seat in
    let may = c.requires.may in
    let x = halting_in me.share c.requires.halts in
    let d = x.0 in
    let of = is_of me.share d x.1 me.of in
    let e : c.domain.result.now ≡ d.domain = c.domain.ensures ∙ same_domain me.share d x.1 in
    let r = port.rests me.share d me.notes.items me.pending me.cpu x.1 may.free c.stands.ensures in
    let rests = subst (λ (y : Domain). Rests y own me.cpu.seat) (sym e) (rests_of d me.cpu of r.0) in
    let new = c.frees_on.new.seat in
    let tried = subst (λ (y : Domain). HasTried y l own s c.free-met.result c.free-met.new.seat) c.domain.ensures (c.free-met.ensures.tried own rests) in
    let f = c.frees_on.ensures in
    let freed : has_freed c.frees_on.result ≡ true → Ended d.domain Unlock l own s Frees new =
    λ y. subst (λ (z : Domain). Ended z Unlock l own s Frees new) (same_domain me.share d x.1) (f.freed y own s tried) in
    let still : has_freed c.frees_on.result ≡ false → IsAsItWas me.cpu.seat new =
    λ y.
    let k = f.still y in
    let was = c.free-met.ensures.still c.if-met-eq-HELD.false k.0 in
    record { table = k.1.table ∙ was.table; id = k.1.id ∙ was.id; me = k.1.me ∙ was.me } in
    let k = kept_cpu d me.cpu of new (port.let_or_still d l me.cpu new (has_freed c.frees_on.result) freed still).2 in
    (k.numbered, ((λ y. absurd (k.awake y)), ((λ y. absurd (k.awake y)), (k.carried, tt))))

pub invariant_of-self-3 : goal.invariant_of-self-3
invariant_of-self-3 c =
    let me = c.args.self.now in
    let l = c.args.lock.index in
    let own = own_node me.cpu in
    let s = first_of Unlock l me.cpu.seat in
    let may = c.requires.may in
    let x = halting_in me.share c.requires.halts in
    let d = x.0 in
    let of = is_of me.share d x.1 me.of in
    let e : c.domain.result.now ≡ d.domain = c.domain.ensures ∙ same_domain me.share d x.1 in
    let r = port.rests me.share d me.notes.items me.pending me.cpu x.1 may.free c.stands.ensures in
    let rests = subst (λ (y : Domain). Rests y own me.cpu.seat) (sym e) (rests_of d me.cpu of r.0) in
    let new = c.frees_on.new.seat in
    let tried = subst (λ (y : Domain). HasTried y l own s c.free-met.result c.free-met.new.seat) c.domain.ensures (c.free-met.ensures.tried own rests) in
    let f = c.frees_on.ensures in
    let freed : has_freed c.frees_on.result ≡ true → Ended d.domain Unlock l own s Frees new =
    λ y. subst (λ (z : Domain). Ended z Unlock l own s Frees new) (same_domain me.share d x.1) (f.freed y own s tried) in
    let still : has_freed c.frees_on.result ≡ false → IsAsItWas me.cpu.seat new =
    λ y.
    let k = f.still y in
    let was = c.free-met.ensures.still c.if-met-eq-HELD.false k.0 in
    record { table = k.1.table ∙ was.table; id = k.1.id ∙ was.id; me = k.1.me ∙ was.me } in
    let k = port.let_or_still d l me.cpu new (has_freed c.frees_on.result) freed still in
    record {
      of = still_in me.share me.cpu _ (record { table = k.0; id = k.1; number = refl; who = k.2.who }) me.of;
      lasts = other;
      stands = ∣ port.stands me.share d (set me.notes.items l c.frees_on.new.note) me.pending _ x.1 may.free
          (port.let_stands d l me.cpu new (has_freed c.frees_on.result) freed still me.notes.items c.get_mut-note.result.now c.frees_on.new.note r
          (low_in me.share d x.1 may.lock) c.get_mut-note.ensures.value f.unmarked f.marked) ∣₁;
    }

pub returns-clause-freed : goal.returns-clause-freed
returns-clause-freed c is =
    let me = c.args.self.now in
    let l = c.args.lock.index in
    let own = own_node me.cpu in
    let s = first_of Unlock l me.cpu.seat in
    let may = c.requires.may in
    let x = halting_in me.share c.requires.halts in
    let d = x.0 in
    let of = is_of me.share d x.1 me.of in
    let e : c.domain.result.now ≡ d.domain = c.domain.ensures ∙ same_domain me.share d x.1 in
    let r = port.rests me.share d me.notes.items me.pending me.cpu x.1 may.free c.stands.ensures in
    let rests = subst (λ (y : Domain). Rests y own me.cpu.seat) (sym e) (rests_of d me.cpu of r.0) in
    let new = c.frees_on.new.seat in
    let tried = subst (λ (y : Domain). HasTried y l own s c.free-met.result c.free-met.new.seat) c.domain.ensures (c.free-met.ensures.tried own rests) in
    let f = c.frees_on.ensures in
    let freed : has_freed c.frees_on.result ≡ true → Ended d.domain Unlock l own s Frees new =
    λ y. subst (λ (z : Domain). Ended z Unlock l own s Frees new) (same_domain me.share d x.1) (f.freed y own s tried) in
    let still : has_freed c.frees_on.result ≡ false → IsAsItWas me.cpu.seat new =
    λ y.
    let k = f.still y in
    let was = c.free-met.ensures.still c.if-met-eq-HELD.false k.0 in
    record { table = k.1.table ∙ was.table; id = k.1.id ∙ was.id; me = k.1.me ∙ was.me } in
    halts_by _ _ me.share d x.1
    (record { ended = freed is; none = freed_none d.domain l own me.cpu.seat new (freed is); rests = let_rests (is_let me.cpu.seat new (freed is)) })

pub returns-clause-still : goal.returns-clause-still
returns-clause-still c is =
    let me = c.args.self.now in
    let l = c.args.lock.index in
    let own = own_node me.cpu in
    let s = first_of Unlock l me.cpu.seat in
    let may = c.requires.may in
    let x = halting_in me.share c.requires.halts in
    let d = x.0 in
    let of = is_of me.share d x.1 me.of in
    let e : c.domain.result.now ≡ d.domain = c.domain.ensures ∙ same_domain me.share d x.1 in
    let r = port.rests me.share d me.notes.items me.pending me.cpu x.1 may.free c.stands.ensures in
    let rests = subst (λ (y : Domain). Rests y own me.cpu.seat) (sym e) (rests_of d me.cpu of r.0) in
    let new = c.frees_on.new.seat in
    let tried = subst (λ (y : Domain). HasTried y l own s c.free-met.result c.free-met.new.seat) c.domain.ensures (c.free-met.ensures.tried own rests) in
    let f = c.frees_on.ensures in
    let freed : has_freed c.frees_on.result ≡ true → Ended d.domain Unlock l own s Frees new =
    λ y. subst (λ (z : Domain). Ended z Unlock l own s Frees new) (same_domain me.share d x.1) (f.freed y own s tried) in
    let still : has_freed c.frees_on.result ≡ false → IsAsItWas me.cpu.seat new =
    λ y.
    let k = f.still y in
    let was = c.free-met.ensures.still c.if-met-eq-HELD.false k.0 in
    record { table = k.1.table ∙ was.table; id = k.1.id ∙ was.id; me = k.1.me ∙ was.me } in
    let k = still is in
    record {
      halts = c.requires.halts;
      share = refl;
      cpu = record { table = k.table; id = k.id; number = refl; view = ap (λ (m : Me Slot View). m.0) k.me };
      pending = refl;
      notes = ap (λ (xs : List Bool). record { items = xs; room = me.notes.room })
          (ap (set me.notes.items l) (f.marked is) ∙ set-slice_get c.get_mut-note.result.now me.notes.items l c.get_mut-note.ensures.value);
    }
