-- The releases of readers and writers: what they ask, and what they do to what their processor keeps.
use Rattle.std.proofs.Common.{◌≡◌, ◌≢◌, ℕ, ◌<◌, List, [], length, Some, Bool, true, false, refl}
use Rattle.std.proofs.Common.{sym, ap, ◌∙◌, subst, if◌then◌else◌}
use Rattle.lk_domain.proofs.Names.{Me, RwFields, Manner, Reads, Writes, Rw, Pc, Z1, Z2, Verb}
use Rattle.lk_domain.proofs.Names.{RUnlock, WUnlock, halts, Shared, Calls, Hold, acting, are_calls}
use Rattle.lk_domain.proofs.Names.{begin, begun, holds_in, is_on, lock_name, moved_to, row_of}
use Rattle.lk_domain.proofs.Names.{terms_of, way_in, Slot, kind_at, ActsFor, SharedBy, own_number}
use Rattle.lk_domain.proofs.Names.{Plan, View}
use Rattle.lk_domain.proofs.{Freed.{not_unlocking, released, freed_else, moved_else}, Ways.IsSeat}
use Rattle.lk_domain.specs.{Calls.Terms, Turns.HasLeft}

-- the operation, its one row, and the manner in which the lock was held
pub data Lets : Verb → Pc → Manner → Type 0 where
  reader : Lets RUnlock Z1 Reads
  writer : Lets WUnlock Z2 Writes

-- no call that waits is one
pub begins : {v : Verb} {c : Pc} {m : Manner} → Lets v c m → (old : Calls) (l : ℕ) → are_calls old.frames ≡ true
    → is_on old.frames v l ≡ false
begins reader old l calm = not_unlocking RUnlock refl old.frames l calm
begins writer old l calm = not_unlocking WUnlock refl old.frames l calm

-- what it asks

module _ (k : Plan) (p l : ℕ) (w : View) (seat : IsSeat k p w) (calm : are_calls w.calls.frames ≡ true)
    (few : length w.calls.frames < 6) (fits : kind_at k l ≡ Rw) where
  -- no processor halts
  asleep : halts w.who.plan.mode ≡ true → ⊥
  asleep on = let z : true ≡ false = sym on ∙ (ap (λ (q : Plan). halts q.mode) seat.plan ∙ seat.awake) in cc z

  new_one : {v : Verb} {c : Pc} {m : Manner} → Lets v c m
      → (acting w.who.plan.mode w.calls v l).frames ≡ (begin w.who.plan.mode w.calls v l).frames
  new_one {v} lets =
      ap (λ b. (if b then w.calls else begin w.who.plan.mode w.calls v l).frames) (begins lets w.calls l calm)

  pub acts_leaving : {v : Verb} {c : Pc} {m : Manner} → Lets v c m → (kind : Pc → Bool) → kind c ≡ true
      → way_in w.calls.holds l ≡ Some m → ActsFor kind w v l
  acts_leaving reader kind is held =
      record {
        inside = false;
        acts = record {
          row = Z1;
          is = is;
          stands = record {
            frame = begun w.who.plan.mode (length w.calls.frames) RUnlock l;
            trail = [];
            rest = w.calls.frames;
            is = new_one reader;
            place = refl;
            lock = refl;
          };
          begins = λ _. (few, held, ap (λ (j : Plan). kind_at j l) seat.plan ∙ fits, λ on. absurd (asleep on));
        };
      }
  acts_leaving writer kind is held =
      record {
        inside = false;
        acts = record {
          row = Z2;
          is = is;
          stands = record {
            frame = begun w.who.plan.mode (length w.calls.frames) WUnlock l;
            trail = [];
            rest = w.calls.frames;
            is = new_one writer;
            place = refl;
            lock = refl;
          };
          begins = λ _. (few, held, ap (λ (j : Plan). kind_at j l) seat.plan ∙ fits, λ on. absurd (asleep on));
        };
      }

-- it is one step
ends : {v : Verb} {c : Pc} {m : Manner} → Lets v c m → (t : Terms) (p : ℕ) (old : Calls) (l : ℕ) (x : RwFields)
    → HasLeft c l old (row_of t p (begin t.mode old v l) (Shared x))
ends reader t p old l x =
    record { word = x; trail = refl; frames = refl; holds = refl; none = released (length old.frames) l old.holds; taken = refl }
ends writer t p old l x =
    record { word = x; trail = refl; frames = refl; holds = refl; none = released (length old.frames) l old.holds; taken = refl }

module _ {v : Verb} {c : Pc} {manner : Manner} (lets : Lets v c manner) (l met : ℕ) (m n : Me Slot View)
    (made : SharedBy v l m met n) (calm : are_calls m.0.calls.frames ≡ true) where
  abbrev old : Calls
  old = m.0.calls

  abbrev plan : Plan
  plan = m.0.who.plan

  -- the call begins, and makes its row
  pub acts : acting plan.mode old v l ≡ begin plan.mode old v l
  acts = ap (λ b. if b then old else begin plan.mode old v l) (begins lets old l calm)

  pub rowed : n.0.calls ≡ row_of (terms_of plan) (own_number m.0.who.number) (begin plan.mode old v l) (Shared made.found)
  rowed =
      ap (λ (x : Me Slot View). x.0.calls) made.seat
      ∙ ap (λ (z : Calls). row_of (terms_of plan) (own_number m.0.who.number) z (Shared made.found)) acts

  pub left : HasLeft c l old n.0.calls
  left =
      subst (λ (z : Calls). HasLeft c l old z) (sym rowed)
      (ends lets (terms_of plan) (own_number m.0.who.number) old l made.found)

  pub other_holds : (x : ℕ) → x ≢ l → holds_in n.0.calls.holds x ≡ holds_in old.holds x
  other_holds x ne =
      ap (λ (hs : List Hold). holds_in hs x) left.holds
      ∙ (freed_else (length old.frames) l x (moved_to (length old.frames) (lock_name l) old.holds) ne
      ∙ moved_else (length old.frames) l x old.holds)
