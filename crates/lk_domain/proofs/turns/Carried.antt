-- A row of a lock leaves a processor's number and plan, and what it carries.
use Rattle.std.proofs.Common.{◌≡◌, ℕ, Some, sym, ap, ◌∙◌, subst}
use Rattle.lk_domain.proofs.Names.{Me, Verb, Met, Word, acting, Slot, IsNoted, locks_of, MadeBy}
use Rattle.lk_domain.proofs.Names.{carried_of, own_number, Notes, Plan, View}
use Rattle.lk_domain.proofs.{rows.Fresh.turned_purse, seats.Places.carried_same}
use Rattle.lk_domain.specs.Plays.{Goes}

module _ (v : Verb) (l met : ℕ) (m n : Me Slot View) (made : MadeBy v l m met n) where
  pub numbered : {p : ℕ} → m.0.who.number ≡ Some p → n.0.who.number ≡ Some p
  numbered h = ap (λ (x : Me Slot View). x.0.who.number) made.seat ∙ h

  pub noted : {notes : Notes} → IsNoted notes (locks_of m.0.who.plan) n.0.calls → IsNoted notes (locks_of n.0.who.plan) n.0.calls
  noted {notes} h = subst (λ (k : Plan). IsNoted notes (locks_of k) n.0.calls) (sym (ap (λ (x : Me Slot View). x.0.who.plan) made.seat)) h

  pub out_same : n.0.ledger.out ≡ m.0.ledger.out
  out_same =
      ap (λ (x : Me Slot View). x.0.ledger.out) made.seat
      ∙ (turned_purse m.0.who.plan (own_number m.0.who.number) (acting m.0.who.plan.mode m.0.calls v l)
      (Word made.found) m.0.ledger).out

  pub carried : m.1 ≡ carried_of m.0 → n.1 ≡ carried_of n.0
  carried h =
      ap (λ (x : Me Slot View). x.1) made.seat
      ∙ (h ∙ carried_same m.0 n.0 (ap (λ (x : Me Slot View). x.0.who) made.seat) out_same)

-- a row of the newest call on the word of a node does so too
module _ (x : Met) (m n : Me Slot View) (went : Goes x m n) where
  pub node_numbered : {p : ℕ} → m.0.who.number ≡ Some p → n.0.who.number ≡ Some p
  node_numbered h = ap (λ (z : Me Slot View). z.0.who.number) went ∙ h

  pub node_noted : {notes : Notes} → IsNoted notes (locks_of m.0.who.plan) n.0.calls → IsNoted notes (locks_of n.0.who.plan) n.0.calls
  node_noted {notes} h = subst (λ (k : Plan). IsNoted notes (locks_of k) n.0.calls) (sym (ap (λ (z : Me Slot View). z.0.who.plan) went)) h

  node_out : n.0.ledger.out ≡ m.0.ledger.out
  node_out =
      ap (λ (z : Me Slot View). z.0.ledger.out) went
      ∙ (turned_purse m.0.who.plan (own_number m.0.who.number) m.0.calls x m.0.ledger).out

  pub node_carried : m.1 ≡ carried_of m.0 → n.1 ≡ carried_of n.0
  node_carried h =
      ap (λ (z : Me Slot View). z.1) went
      ∙ (h ∙ carried_same m.0 n.0 (ap (λ (z : Me Slot View). z.0.who) went) node_out)
