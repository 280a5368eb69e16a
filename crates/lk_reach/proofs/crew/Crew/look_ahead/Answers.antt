use Rattle.std.proofs.Common.{List, sym, subst, slice_index_or}
use Rattle.lk_reach.proofs.Names.{slice_get-get_or, Setup, IsSuch, AreHelpers, HaveWays, MayLook}
use Rattle.lk_reach.proofs.Names.{SpaceValue, AreMade, Helper}
use Rattle.lk_reach.specs.Helped.{IsSent}
use Rattle.lk_reach.proofs.apart.Helped as helped
use Rattle.lk_reach.proofs.crew.Crew.look_ahead.Goals as goal

pub look_at-requires-clause-sent : goal.look_at-requires-clause-sent
look_at-requires-clause-sent g c κs outlives i d low =
    let p = c.args.plan.now in
    let b = c.args.book.now in
    let u = c.args.space.now in
    let hs = c.makes_many.new.self.helpers.list.items in
    let h = slice_index_or hs i d in
    let have = subst (λ (xs : List Helper). AreHelpers p c.args.self.now.machine.setup u xs) (sym c.makes_many.ensures.helpers)
    c.requires.helpers in
    let it = have i h (slice_get-get_or hs i d low) in
    let back = sym it.such.setup in
    subst (λ (w : SpaceValue). IsSent p b w h) (sym c.begin_look.ensures) (
      record {
        may = subst (λ (q : Setup). MayLook p u q) back c.requires.may;
        such = subst (λ (q : Setup). IsSuch q h.machine) back it.such;
        made = subst (λ (q : Setup). AreMade q u h.steps.made.items) back it.made;
      },
      subst (λ (q : Setup). HaveWays p b u q) back c.requires.ways,
    )

pub returns-then-not-makes_many-clause-helpers : goal.returns-then-not-makes_many-clause-helpers
returns-then-not-makes_many-clause-helpers g c =
    subst (λ (xs : List Helper). AreHelpers c.args.plan.now c.args.self.now.machine.setup c.args.space.now xs)
    (sym c.makes_many.ensures.helpers) c.requires.helpers

pub returns-then-count-least-clause-helpers : goal.returns-then-count-least-clause-helpers
returns-then-count-least-clause-helpers g c =
    subst (λ (xs : List Helper). AreHelpers c.args.plan.now c.args.self.now.machine.setup c.args.space.now xs)
    (sym c.makes_many.ensures.helpers) c.requires.helpers

pub returns-clause-helpers : goal.returns-clause-helpers
returns-clause-helpers g c =
    let p = c.args.plan.now in
    let z = c.args.self.now.machine.setup in
    let u = c.args.space.now in
    let hs = c.makes_many.new.self.helpers.list.items in
    let e = c.look_at.ensures in
    helped.have_looked p z u c.begin_look.new.self hs c.look_at.new.self.list.items
    (subst (λ (xs : List Helper). AreHelpers p z u xs) (sym c.makes_many.ensures.helpers) c.requires.helpers) e.count e.looked
