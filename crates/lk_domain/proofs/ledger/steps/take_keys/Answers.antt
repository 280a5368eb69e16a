use Rattle.std.proofs.Common.{◌≡◌, ◌+◌, ◌∷◌, [], inl, inr, ℕ, zero, suc, List, Bool, false, Option}
use Rattle.std.proofs.Common.{length, set, get_or, refl, sym, ap, ◌∙◌, subst, arith, length-append}
use Rattle.std.proofs.Common.{length-set, get_or-set_other}
use Rattle.std.specs.Slots.{slots_filled}
use Rattle.lk_domain.proofs.Names.{cases_eq, slots_items, get_elem?, some, some-injective, Slot}
use Rattle.lk_domain.proofs.Names.{FitsUnder, Key, homes_of, lodged}
use Rattle.lk_domain.proofs.{journals.Last.is_lodged, seats.Openings.each_more}
use Rattle.lk_domain.specs.Ends.{AreTaken}
use Rattle.lk_domain.proofs.ledger.steps.take_keys.Goals as goal

set_false : (f : List Bool) (i : ℕ) → get_or (set f i false) i false ≡ false
set_false [] i = refl
set_false (x ∷ xs) zero = refl
set_false (x ∷ xs) (suc i) = set_false xs i

-- one more slot is taken
taken_more : (n : ℕ) (f g : List Bool) → g ≡ set f n false → AreTaken n f → AreTaken (n + 1) g
taken_more n f g is was =
    subst (AreTaken (n + 1)) (sym is)
    (record {
      taken = λ i lt. elim (cases_eq i n) [
        | inl e ↦ ap (λ (j : ℕ). get_or (set f n false) j false) e ∙ set_false f n
        | inr ne ↦ get_or-set_other f n i false false ne ∙ was.taken i (omega (arith, lt, ne))
      ];
      left = λ i le lt. get_or-set_other f n i false false (λ e. omega (arith, le, e))
          ∙ was.left i (omega (arith, le)) (let z = length-set f n false in omega (arith, lt, z));
    })

pub key_in-requires : goal.key_in-requires
key_in-requires c =
    let inv = c.loop-home.invariant in
    let l = c.loop-home.home in
    let k = c.args.plan.now in
    let fit = c.requires.fit l (let a = c.loop-home-test.true in let b = c.slot_count-homes.ensures in omega (arith, a, b)) in
    let at : get_elem? (slots_items c.args.closed.now.slots) (1 + l) ≡ some c.take.result =
    ap (λ (xs : List Slot). get_elem? xs (1 + l)) (sym inv.same) ∙ c.take.ensures.value in
    let same : fit.0 ≡ c.take.result = some-injective fit.0 c.take.result (sym fit.1 ∙ at) in
    is_lodged k l c.take.result (subst (FitsUnder k l) same fit.2)

pub loop-home-preserved : goal.loop-home-preserved
loop-home-preserved c =
    let inv = c.loop-home.invariant in
    let l = c.loop-home.home in
    let items = ap (λ xs. xs.items) c.push.ensures in
    let old = c.loop-home.keys.items in
    let at : get_elem? (slots_items c.args.closed.now.slots) (1 + length old) ≡ some (lodged c.key_in.result) =
    ap (λ (n : ℕ). get_elem? (slots_items c.args.closed.now.slots) (1 + n)) inv.many
    ∙ (ap (λ (xs : List Slot). get_elem? xs (1 + l)) (sym inv.same) ∙ (c.take.ensures.value ∙ ap some c.key_in.ensures)) in
    record {
      slots = c.take.ensures.others.2 ∙ inv.slots;
      same = c.take.ensures.others.0 ∙ inv.same;
      taken = subst (λ (n : ℕ). AreTaken n (slots_filled c.take.new.self.slots)) (let z : (1 + l) + 1 ≡ 1 + (l + 1) = omega arith in z)
          (taken_more (1 + l) (slots_filled c.loop-home.closed.slots) (slots_filled c.take.new.self.slots) c.take.ensures.others.1 inv.taken);
      room = ap (λ xs. xs.room) c.push.ensures ∙ inv.room;
      many = ap length items ∙ (length-append old (c.key_in.result ∷ []) ∙ ap (λ (n : ℕ). n + 1) inv.many);
      each = λ i d lt. subst (λ (ys : List (Option Key)). get_elem? (slots_items c.args.closed.now.slots) (1 + i) ≡ some (lodged (get_or ys i d))) (sym items)
          (each_more (λ (j : ℕ) (y : Option Key). get_elem? (slots_items c.args.closed.now.slots) (1 + j) ≡ some (lodged y)) old c.key_in.result
          (λ j e less. inv.each j e (let z = inv.many in omega (arith, less, z))) at i d
          (let y = length-append old (c.key_in.result ∷ []) in let z = inv.many in omega (arith, lt, y, z)));
    }

pub returns-clause-keys : goal.returns-clause-keys
returns-clause-keys c =
    let inv = c.loop-home.invariant in
    let k = c.args.plan.now in
    let end : c.loop-home.home ≡ homes_of k =
    (let a = c.loop-home-test.false in let b = c.slot_count-homes.ensures in let d = c.loop-home.auto in omega (arith, a, b, d)) in (
      inv.many ∙ end,
      λ l d low.
          let fit = c.requires.fit l low in
          let at = inv.each l d (omega (arith, low, end)) in
          subst (FitsUnder k l) (some-injective fit.0 (lodged (get_or c.loop-home.keys.items l d)) (sym fit.1 ∙ at)) fit.2,
    )
