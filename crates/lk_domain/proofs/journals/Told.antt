-- What a processor's type says, after a step on the ledger.
use Rattle.std.proofs.Common.{◌≡◌, ℕ, List, ◌∷◌, ◌++◌, length, drop, Some, true, false, refl, sym}
use Rattle.std.proofs.Common.{ap, ◌∙◌, subst}
use Rattle.lk_domain.proofs.Names.{Me, Step, Entry, halts, Calls, are_calls, Slot, Ledger, Out}
use Rattle.lk_domain.proofs.Names.{IsNoted, locks_of, carried_of, carried_with, Who, Journal, Notes}
use Rattle.lk_domain.proofs.Names.{Entries, View}
use Rattle.lk_domain.proofs.journals.Grown.{drop_front}
use Rattle.lk_domain.specs.{Ledgers.brought, Plays.Brings}

-- while it keeps its calls
module _ (old new : Calls) (same : new ≡ old) where
  module _ (a b : Who) (who : b ≡ a) where
    awake : halts b.plan.mode ≡ false → halts a.plan.mode ≡ false
    awake on = sym (ap (λ (w : Who). halts w.plan.mode) who) ∙ on

    pub noted : {n : Notes} → (halts a.plan.mode ≡ false → IsNoted n (locks_of a.plan) old)
        → halts b.plan.mode ≡ false → IsNoted n (locks_of b.plan) new
    noted {n} h on = subst (λ (w : Who). IsNoted n (locks_of w.plan) new) (sym who)
        (subst (λ (c : Calls). IsNoted n (locks_of a.plan) c) (sym same) (h (awake on)))

    pub apart : (halts a.plan.mode ≡ false → are_calls old.frames ≡ true)
        → halts b.plan.mode ≡ false → are_calls new.frames ≡ true
    apart h on = ap (λ (c : Calls). are_calls c.frames) same ∙ h (awake on)

-- a seat whose ledger alone changed
module _ (m n : Me Slot View) (g : Ledger) (e : n ≡ (record m.0 { ledger = g }, m.1)) where
  pub calls : n.0.calls ≡ m.0.calls
  calls = ap (λ (x : Me Slot View). x.0.calls) e

  pub who : n.0.who ≡ m.0.who
  who = ap (λ (x : Me Slot View). x.0.who) e

  pub numbered : {p : ℕ} → m.0.who.number ≡ Some p → n.0.who.number ≡ Some p
  numbered h = ap (λ (x : Me Slot View). x.0.who.number) e ∙ h

  pub carried : carried_with m.0.who.outs g.out ≡ carried_of m.0 → m.1 ≡ carried_of m.0 → n.1 ≡ carried_of n.0
  carried out was =
      ap (λ (x : Me Slot View). x.1) e
      ∙ (was ∙ (sym out ∙ ap (λ (x : Me Slot View). carried_of x.0) (sym e)))

-- the journal is home
pub came_home : (st : Step Slot) (m n : Me Slot View) (x : ℕ) (v : View) (j : Journal) (o : Out) (p : ℕ)
    (es : List Entry) (xs : List (ℕ × Slot)) → Brings st m x n → m ≡ (v, (0, Some (Entries j)) ∷ xs)
    → v.ledger.out ≡ Some o → v.who.number ≡ Some p → j.entries.items ≡ o.list ++ es
    → n ≡ (record v { ledger = brought v.ledger p o es }, xs)
came_home st m n x v j o p es xs told e has is items =
    let e' : m ≡ (let y : Me Slot View = (v, (0, Some (Entries j)) ∷ xs) in y) = e in
    let t : n ≡ (record v { ledger = brought v.ledger p o (drop (length o.list) j.entries.items) }, xs) =
    subst (λ (y : Me Slot View). Brings st y x n) e' told o j p xs has refl is in
    let f : drop (length o.list) j.entries.items ≡ es = ap (λ (l : List Entry). drop (length o.list) l) items ∙ drop_front o.list es in
    t ∙ ap (λ (l : List Entry). let y : Me Slot View = (record v { ledger = brought v.ledger p o l }, xs) in y) f
