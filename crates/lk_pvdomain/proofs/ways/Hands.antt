-- The rows of a front that has the lock and hands the lead on.
use Rattle.std.proofs.Common.{inr, ◌≡◌, ◌≢◌, ℕ, Option, Some, None, Bool, true, false, refl, sym}
use Rattle.std.proofs.Common.{ap, ◌∙◌, arith, ◌&&◌, not}
use Rattle.lk_pvdomain.proofs.Names.{TableId, Me, Fields, NodeName, Spins, LockName, is_node}
use Rattle.lk_pvdomain.proofs.Names.{node_of, Frame, E13, State, Verb, is_held, Named, Stated, Word}
use Rattle.lk_pvdomain.proofs.Names.{Outlook, Takes, Terms, lock_name, Slot, InCall, WentBy, went}
use Rattle.lk_pvdomain.proofs.Names.{state_number, Domain, View, AtOn, Owns, Start, SeesState}
use Rattle.lk_rows.specs.{declared.parts.Flag.Flag, declared.parts.Flag.TheVariants.{Go, Unset}}
use Rattle.lk_rows.specs.{declared.parts.Pc.TheVariants.{E14, E15, K1, K2, K3}, rows.Cna.is_last}
use Rattle.lk_law.specs.Leads.{Flagged, Linked}
use Rattle.lk_domain.specs.{NodePlays.SeesLink, NodeUses.{HandsTo, LooksBehind}}
use Rattle.lk_pvdomain.proofs.ways.Ways.{Goes, Ends, goes, ends, stands}
use Rattle.lk_pvdomain.specs.{PvPaths.{TookOn, Precedes}, PvPlays.AtLast}
use Rattle.lk_rows.specs.declared.parts.State.TheVariants as state

-- where each leads
module _ {t : Terms} {p : ℕ} {z : Outlook} (f : Frame) where
  E13_leaves : (x : Fields) → f.lock.wait ≡ false → is_last f x ≡ true → Ends t p z E13 f (Word x) (Takes Spins)
  E13_leaves x plain e = record { place = rw e (rw plain refl); grips = rw e refl; own = refl; wakes = refl }

  K1_leaves : (x : State) → f.lock.wait ≡ false → state_number x ≢ 1 → Ends t p z K1 f (Stated x) (Takes Spins)
  K1_leaves state.Running plain ne = record { place = rw plain refl; grips = refl; own = refl; wakes = refl }
  K1_leaves state.Halted plain ne = absurd (ne refl)
  K1_leaves state.Hashed plain ne = record { place = rw plain refl; grips = refl; own = refl; wakes = refl }

  K3_leaves : (x : Option NodeName) → f.lock.wait ≡ false → Ends t p z K3 f (Named x) (Takes Spins)
  K3_leaves x plain = record { place = rw plain refl; grips = refl; own = refl; wakes = refl }

module _ {t : Terms} {p : ℕ} {z : Outlook} {own : NodeName} (f : Frame) where
  E13_stays : (x : Fields) → is_last f x ≡ false → f.me ≡ Some own → Goes t p z E13 f (Word x) E14 (Owns own)
  E13_stays x e me = record { place = rw e refl; grip = rw e refl; lock = rw e refl; wakes = refl; has = rw e me }

  E14_waits : (x : Option NodeName) (b : Bool) → x ≡ None → f.me ≡ Some own → Goes t p z E14 f (Linked x b) E14 (Owns own)
  E14_waits x b e me = record { place = rw e refl; grip = rw e refl; lock = rw e refl; wakes = refl; has = rw e me }

  E14_sees : (x : Option NodeName) (b : Bool) (to : NodeName) → x ≡ Some to → f.me ≡ Some own → Goes t p z E14 f (Linked x b) E15 (Precedes own to)
  E14_sees x b to e me = record { place = rw e refl; grip = rw e refl; lock = rw e refl; wakes = refl; has = record { me = rw e me; next = rw e refl } }

module _ {t : Terms} {p : ℕ} {z : Outlook} {own to : NodeName} (f : Frame) where
  E15_hands : (x : Flag) → Precedes own to f → Goes t p z E15 f (Flagged x) K1 (Precedes own to)
  E15_hands x i = record { place = refl; grip = refl; lock = refl; wakes = refl; has = record { me = i.me; next = i.next } }

  K1_signs : (x : State) → state_number x ≡ 1 → Precedes own to f → Goes t p z K1 f (Stated x) K2 (Precedes own to)
  K1_signs state.Running e i = absurd (omega (arith, e))
  K1_signs state.Halted e i = record { place = refl; grip = refl; lock = refl; wakes = refl; has = record { me = i.me; next = i.next } }
  K1_signs state.Hashed e i = absurd (omega (arith, e))

  K2_signs : (x : Fields) → Precedes own to f → Goes t p z K2 f (Word x) K3 (Precedes own to)
  K2_signs x i = record { place = refl; grip = refl; lock = refl; wakes = refl; has = record { me = i.me; next = i.next } }

-- a lock that is none of a reader's
pub plain : (f : Frame) {l : ℕ} → f.lock ≡ lock_name l → f.lock.wait ≡ false
plain f e = ap (λ (n : LockName). n.wait) e

pub next_node : (f : Frame) (n : NodeName) → f.y ≡ Some n → node_of f.y ≡ n
next_node f n e = ap node_of e

-- what each asks, and does
module _ {d : Domain} {v : Verb} {l : ℕ} {own : NodeName} {s : Start} {ta : TableId} {ia : ℕ} {a : Me Slot View} where
  pub last_asks : AtOn d v l own s E13 (Owns own) ta ia a → InCall (AtLast own (lock_name l)) a.0
  last_asks w = (v, record { stands = stands w; me = w.has })

  pub behind_asks : AtOn d v l own s E14 (Owns own) ta ia a → InCall (LooksBehind own) a.0
  behind_asks w = (v, inr (record { lock = lock_name l; stands = stands w; me = w.has }))

  pub hand_asks : {to : NodeName} → AtOn d v l own s E15 (Precedes own to) ta ia a → InCall (HandsTo to Go) a.0
  hand_asks w = (v, inr (refl, record { lock = lock_name l; stands = stands w; y = w.has.next }))

module _ {d : Domain} {v : Verb} {l : ℕ} {own : NodeName} {s : Start} {ta tb : TableId} {ia ib : ℕ} {a b : Me Slot View}
    (same : (tb ≡ ta) × (ib ≡ ia)) where
  pub e13_leaves : {met : ℕ} → AtOn d v l own s E13 (Owns own) ta ia a → (k : WentBy a met b)
      → (is_held k.found.locked && not k.found.pending && is_node k.found.tail own) ≡ true → TookOn d v l own s tb ib b
  e13_leaves w k e = ends w same (Word k.found) k.seat (Takes Spins)
      (E13_leaves w.frame k.found (plain w.frame w.lock) ((λ i. is_held k.found.locked && not k.found.pending && is_node k.found.tail (node_of (w.has i))) ∙ e))

  pub e13_stays : {met : ℕ} → AtOn d v l own s E13 (Owns own) ta ia a → (k : WentBy a met b)
      → (is_held k.found.locked && not k.found.pending && is_node k.found.tail own) ≡ false → AtOn d v l own s E14 (Owns own) tb ib b
  e13_stays w k e = goes w same (Word k.found) k.seat E14 (Owns own)
      (E13_stays w.frame k.found ((λ i. is_held k.found.locked && not k.found.pending && is_node k.found.tail (node_of (w.has i))) ∙ e) w.has)

  pub e14_waits : {met : ℕ} → AtOn d v l own s E14 (Owns own) ta ia a → (k : SeesLink a met b) → k.found ≡ None → AtOn d v l own s E14 (Owns own) tb ib b
  e14_waits w k e = goes w same (Linked k.found k.mark) k.seat E14 (Owns own) (E14_waits w.frame k.found k.mark e w.has)

  pub e14_sees : {met : ℕ} {to : NodeName} → AtOn d v l own s E14 (Owns own) ta ia a → (k : SeesLink a met b) → k.found ≡ Some to
      → AtOn d v l own s E15 (Precedes own to) tb ib b
  e14_sees {to} w k e = goes w same (Linked k.found k.mark) k.seat E15 (Precedes own to) (E14_sees w.frame k.found k.mark to e w.has)

  pub e15_hands : {to : NodeName} → AtOn d v l own s E15 (Precedes own to) ta ia a → b ≡ (went a.0 (Flagged Unset), a.1)
      → AtOn d v l own s K1 (Precedes own to) tb ib b
  e15_hands {to} w step = goes w same (Flagged Unset) step K1 (Precedes own to) (E15_hands w.frame Unset w.has)

  pub k1_leaves : {to : NodeName} {met : ℕ} → AtOn d v l own s K1 (Precedes own to) ta ia a → SeesState a met b → met ≢ 1 → TookOn d v l own s tb ib b
  k1_leaves w k ne = ends w same (Stated k.found) k.seat (Takes Spins) (K1_leaves w.frame k.found (plain w.frame w.lock) (λ e. ne (k.word ∙ e)))

  pub k1_signs : {to : NodeName} {met : ℕ} → AtOn d v l own s K1 (Precedes own to) ta ia a → SeesState a met b → met ≡ 1
      → AtOn d v l own s K2 (Precedes own to) tb ib b
  k1_signs {to} w k e = goes w same (Stated k.found) k.seat K2 (Precedes own to) (K1_signs w.frame k.found (sym k.word ∙ e) w.has)

  pub k2_signs : {to : NodeName} {met : ℕ} → AtOn d v l own s K2 (Precedes own to) ta ia a → WentBy a met b → AtOn d v l own s K3 (Precedes own to) tb ib b
  k2_signs {to} w k = goes w same (Word k.found) k.seat K3 (Precedes own to) (K2_signs w.frame k.found w.has)

  pub k3_leaves : {to : NodeName} → AtOn d v l own s K3 (Precedes own to) ta ia a → b ≡ (went a.0 (Named None), a.1) → TookOn d v l own s tb ib b
  k3_leaves w step = ends w same (Named None) step (Takes Spins) (K3_leaves w.frame None (plain w.frame w.lock))
