-- What is left of a processor's own after an exchange that may be tried again.
use Rattle.std.proofs.Common.{◌≡◌, ℕ, Some, true, refl, sym, ap, ◌∙◌, subst}
use Rattle.lk_domain.proofs.Names.{Me, dite, ℕ_discrete, LockName, Verb, are_calls, Slot, IsNoted}
use Rattle.lk_domain.proofs.Names.{locks_of, ActsIn, MadeBy, carried_of, arrives_by, Notes, View}
use Rattle.lk_domain.proofs.{turns.Noted.stays, words.Onward.{made_on, now_of, arrive_later}}
use Rattle.lk_domain.specs.Plays.{SwappedBy}
use Rattle.lk_domain.proofs.turns.Carried as row
use Rattle.lk_domain.proofs.turns.Stepped as stepped

-- the seat has its number and what it carries, and the notes are still of its calls
pub record Kept (notes : Notes) (m n : Me Slot View) : Type 0 where
  pub numbered : {p : ℕ} → m.0.who.number ≡ Some p → n.0.who.number ≡ Some p
  pub noted : IsNoted notes (locks_of n.0.who.plan) n.0.calls
  pub apart : are_calls n.0.calls.frames ≡ true
  pub carried : m.1 ≡ carried_of m.0 → n.1 ≡ carried_of n.0

module _ (v : Verb) (l : LockName) (expected met : ℕ) (m n : Me Slot View) (told : SwappedBy expected m met n)
    (notes : Notes) (was : IsNoted notes (locks_of m.0.who.plan) m.0.calls) (calm : are_calls m.0.calls.frames ≡ true)
    (acts : ActsIn (arrives_by v) m.0 v l) where
  -- the row was made
  pub made : met ≡ expected → MadeBy v l.index m met n
  made hit =
      made_on v l met m n (now_of (arrives_by v) m v l acts.acts (arrive_later v acts.acts.row acts.acts.is)) (told.made hit)

  after : met ≡ expected → Kept notes m n
  after hit =
      let t = stepped.arrives v l met m n (made hit) calm was.few acts in
      record {
        numbered = row.numbered v l.index met m n (made hit);
        noted = row.noted v l.index met m n (made hit) (stays notes (locks_of m.0.who.plan) m.0.calls n.0.calls l.index true was t.steps (t.on refl) t.was);
        apart = t.apart;
        carried = row.carried v l.index met m n (made hit);
      }

  before : n ≡ m → Kept notes m n
  before same =
      record {
        numbered = λ h. ap (λ (x : Me Slot View). x.0.who.number) same ∙ h;
        noted = subst (λ (x : Me Slot View). IsNoted notes (locks_of x.0.who.plan) x.0.calls) (sym same) was;
        apart = ap (λ (x : Me Slot View). are_calls x.0.calls.frames) same ∙ calm;
        carried = λ h. ap (λ (x : Me Slot View). x.1) same
            ∙ (h ∙ ap (λ (x : Me Slot View). carried_of x.0) (sym same));
      }

  pub swapped : Kept notes m n
  swapped = dite (ℕ_discrete met expected) after (λ ne. before (told.stands ne))
