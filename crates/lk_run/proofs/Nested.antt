-- What a handler leaves that takes a lock and frees it, as `Irq::poll` asks.
use Rattle.std.proofs.Common.{◌≡◌, ◌≢◌, ℕ, List, [], ◌∷◌, length, Bool, true, false, eqb, eq-eqb}
use Rattle.std.proofs.Common.{ne_eqb, inl, inr, refl, sym, ap, ◌∙◌, subst, arith, if◌then◌else◌}
use Rattle.std.proofs.Common.{◌&&◌, ◌||◌}
use Rattle.std.proofs.lemmas.Bool.{cases_Bool}
use Rattle.lk_run.proofs.Names.{same_lock, Manner, Verb, if-false, if-true, Calls, Mark, Terms}
use Rattle.lk_run.proofs.Names.{holds_in, lock_name, Ledger, AreKept, HasLooked, HasTaken, Passes}
use Rattle.lk_run.proofs.Names.{is_busy, ledger_of, Cpu}
use Rattle.lk_law.proofs.common.Sames.{same_lock-self}
use Rattle.lk_domain.specs.{Calls.{Hold, hold, moved_to, free_of}, Paths.HasFreed, Waits.Drops}

-- the locks that are held already are none of the one that is taken and freed
untouched : (k l : ℕ) (hs : List Hold) → holds_in hs l ≡ false
    → free_of k (lock_name l) (moved_to k (lock_name l) hs) ≡ hs
untouched k l [] none = refl
untouched k l (h ∷ hs) none = elim (cases_Bool (same_lock h.lock (lock_name l))) [
  | inl e ↦ absurd (let z : true ≡ false = sym (if-true (same_lock h.lock (lock_name l)) true (holds_in hs l) e) ∙ none in let y : ⊥ = cc z in y)
  | inr e ↦
      ap (λ (m : Hold). free_of k (lock_name l) (m ∷ moved_to k (lock_name l) hs))
      (if-false (same_lock h.lock (lock_name l)) (record h { ctx = k }) h e)
      ∙ (if-false ((eqb h.ctx k) && same_lock h.lock (lock_name l)) (free_of k (lock_name l) (moved_to k (lock_name l) hs))
      (h ∷ free_of k (lock_name l) (moved_to k (lock_name l) hs)) (ap (λ b. (eqb h.ctx k) && b) e ∙ off (eqb h.ctx k))
      ∙ ap (λ (xs : List Hold). h ∷ xs)
      (untouched k l hs (sym (if-false (same_lock h.lock (lock_name l)) true (holds_in hs l) e) ∙ none)))
]
  where
    off : (b : Bool) → (b && false) ≡ false
    off true = refl
    off false = refl

-- the calls that wait stand where they stood, and what was held is held
pub kept : {terms : Terms} {p : ℕ} {v : Verb} {l : ℕ} {m : Manner} {c d e : Calls}
    → holds_in c.holds l ≡ false → HasTaken terms p v l m c d → HasFreed l d e → AreKept c e
kept {terms} {p} {v} {l} {m} {c} {d} {e} none taken freed =
    record {
      frames = freed.frames ∙ taken.frames;
      holds = freed.holds ∙ (ap (λ (hs : List Hold). free_of k (lock_name l) (moved_to k (lock_name l) hs)) taken.holds
          ∙ (own ∙ untouched k l c.holds none));
      taken = let a = taken.taken in let b = freed.taken in omega arith;
    }
  where
    k : ℕ
    k = length d.frames

    h : Hold
    h = hold (length c.frames) (lock_name l) m d.taken

    own : free_of k (lock_name l) (moved_to k (lock_name l) (h ∷ c.holds)) ≡ free_of k (lock_name l) (moved_to k (lock_name l) c.holds)
    own =
        ap (λ (x : Hold). free_of k (lock_name l) (x ∷ moved_to k (lock_name l) c.holds))
        (if-true (same_lock (lock_name l) (lock_name l)) (record h { ctx = k }) h (same_lock-self (lock_name l)))
        ∙ if-true ((eqb k k) && same_lock (lock_name l) (lock_name l)) (free_of k (lock_name l) (moved_to k (lock_name l) c.holds))
        (record h { ctx = k } ∷ free_of k (lock_name l) (moved_to k (lock_name l) c.holds))
        (λ i. eq-eqb k k refl i && same_lock-self (lock_name l) i)

-- a lock other than lock 0 leaves the ledger as the handlers left it that came while it was waited
-- for
pub passed : {l : ℕ} {m : Manner} {c : Calls} {last : List Mark} {g : Ledger} {a b : Cpu}
    → l ≢ 0 → HasLooked l m c last g (ledger_of a) → Drops l a b → Passes (is_busy c) g (ledger_of b)
passed {l} {m} {c} {last} {g} {a} {b} ne looked drops =
    subst (Passes (is_busy c) g) (sym (drops.ledger ∙ (off (ledger_of a) _ ∙ (looked.now ∙ off looked.between _))))
    (subst (λ z. Passes (z || is_busy c) g looked.between) (ne_eqb l 0 ne) looked.passes)
  where
    off : (x y : Ledger) → (if (eqb l 0) && true then y else x) ≡ x
    off x y = ap (λ z. if z && true then y else x) (ne_eqb l 0 ne)
