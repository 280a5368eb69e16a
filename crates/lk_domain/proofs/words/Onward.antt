-- What the step calls ask of a call that goes on, on the word of a spinlock or a wait lock.
use Rattle.std.proofs.Common.{◌≡◌, ℕ, ◌<◌, Bool, true, false, refl, sym, ap, ◌∙◌, subst, ◌&&◌, not}
use Rattle.lk_domain.proofs.Names.{Allows, Me, LockName, target, Frame, Pc, C10, F1, G2, G3, G4, G7}
use Rattle.lk_domain.proofs.Names.{G8, G9, N1, N2, P0, P1, P2, P3, P4, U1, V1, V2, Verb, Lock, Read}
use Rattle.lk_domain.proofs.Names.{Write, Word, Calls, acting, AllHome, Slot, is_first, layout_in}
use Rattle.lk_domain.proofs.Names.{locks_of, ActsOn, MadeBy, arrives_by, claims_by, clears_by}
use Rattle.lk_domain.proofs.Names.{frees_by, is_patient, is_watch, looks_by, pends_by, promotes_by}
use Rattle.lk_domain.proofs.Names.{queues_up, soles_by, stakes_by, takes_by, Stand, IsNumbered}
use Rattle.lk_domain.proofs.Names.{word_at, Plan, View}
use Rattle.lk_domain.proofs.Acting.{is_first_of, acting_now, acts_on, begins_on}
use Rattle.lk_domain.proofs.{words.LockPlays.{MayFree, WritesAt, plays_on}, words.OnWords.OnWord}
use Rattle.lk_domain.specs.{Plays.{WentBy, rowed}, Uses.AtWord}
use Rattle.lk_domain.proofs.words.LockPlays as plays

-- which rows are no first ones

pub watch_later : (c : Pc) (v : Verb) → is_watch c ≡ true → is_first_of c v ≡ false
watch_later V1 v h = refl
watch_later P0 v h = refl
watch_later P3 v h = refl
watch_later G2 v h = refl
watch_later G7 v h = refl
watch_later N1 v h = refl
watch_later _ v h = cc h

pub look_later : (v : Verb) (c : Pc) → is_patient v ≡ true → looks_by v c ≡ true → is_first_of c v ≡ false
look_later Lock c t h = watch_later c Lock h
look_later Read c t h = watch_later c Read h
look_later Write c t h = watch_later c Write h
look_later _ c t h = cc t

pub take_later : (v : Verb) (c : Pc) → queues_up v ≡ true → takes_by v c ≡ true → is_first_of c v ≡ false
take_later Read F1 t h = refl
take_later Read V2 t h = refl
take_later Read G3 t h = refl
take_later Read N2 t h = refl
take_later Write F1 t h = refl
take_later Write V2 t h = refl
take_later Write G3 t h = refl
take_later Write N2 t h = refl
take_later v c t h = cc (t, h)

pub free_later : (v : Verb) (c : Pc) → queues_up v ≡ true → frees_by v c ≡ true → is_first_of c v ≡ false
free_later Read U1 t h = refl
free_later Write U1 t h = refl
free_later v c t h = cc (t, h)

pub pend_later : (v : Verb) (c : Pc) → pends_by v c ≡ true → is_first_of c v ≡ false
pend_later v P1 h = refl
pend_later v _ h = cc h

pub clear_later : (v : Verb) (c : Pc) → clears_by v c ≡ true → is_first_of c v ≡ false
clear_later v P2 h = refl
clear_later v _ h = cc h

pub claim_later : (v : Verb) (c : Pc) → claims_by v c ≡ true → is_first_of c v ≡ false
claim_later v P4 h = refl
claim_later v _ h = cc h

pub arrive_later : (v : Verb) (c : Pc) → arrives_by v c ≡ true → is_first_of c v ≡ false
arrive_later v G4 h = refl
arrive_later v _ h = cc h

pub sole_later : (v : Verb) (c : Pc) → soles_by v c ≡ true → is_first_of c v ≡ false
sole_later v G8 h = refl
sole_later v _ h = cc h

pub stake_later : (v : Verb) (c : Pc) → stakes_by v c ≡ true → is_first_of c v ≡ false
stake_later v G9 h = refl
stake_later v _ h = cc h

pub promote_later : (v : Verb) (c : Pc) → promotes_by v c ≡ true → is_first_of c v ≡ false
promote_later v C10 h = refl
promote_later v _ h = cc h

-- the wait lock of lock 0 is not lock 0
pub wait_last : (v : Verb) (n : LockName) → queues_up v ≡ true → n.wait ≡ queues_up v → is_first n ≡ true → ⊥
wait_last v n t e h = by (Rattle.std.proofs.Common.eqb n.index 0) n.wait (e ∙ t) h
  where
    by : (a b : Bool) → b ≡ true → (a && not b) ≡ true → ⊥
    by a false e h = cc e
    by true true e h = cc h
    by false true e h = cc h

-- the newest call acts by its row
abbrev pub acts_at : (kind : Pc → Bool) (m : Me Slot View) (verb : Verb) (l : LockName) → AtWord kind verb l m.0 → ActsOn kind m.0 verb l
acts_at kind m verb l at =
    record {
      row = at.row;
      is = at.is;
      stands = acts_on m.0.calls verb l at.row at.stands m.0.who.plan.mode;
      begins = begins_on m.0.calls verb l at.row at.stands m.0.who.plan;
    }

-- a call that makes another row than its first acts on what it has
abbrev pub now_of : (kind : Pc → Bool) (m : Me Slot View) (v : Verb) (l : LockName) (acts : ActsOn kind m.0 v l)
    → is_first_of acts.row v ≡ false → acting m.0.who.plan.mode m.0.calls v l.index ≡ m.0.calls
now_of kind m v l acts later = acting_now m.0.who.plan.mode m.0.calls v l acts.row acts.stands later

-- what the calls ask, in which the word is named by its place
module _ (k plan : Plan) (slots id : ℕ) (m : Me Slot View) (number : IsNumbered m.0) (verb : Verb)
    (n : LockName) (i : ℕ) (same : k ≡ plan) (near : n.index < locks_of plan) (at : i ≡ word_at n) where
  pub asks_on : (kind : Pc → Bool) (acts : ActsOn kind m.0 verb n)
      → ((pc : Pc) → kind pc ≡ true → (fr : Frame) → OnWord (target pc fr))
      → (MayFree acts.row → AllHome n m.0)
      → acting m.0.who.plan.mode m.0.calls verb n.index ≡ m.0.calls → (f : ℕ → ℕ) → WritesAt (layout_in plan) acts.row acts.stands.frame f
      → Allows (Stand k) slots id m i f (WentBy m)
  asks_on kind acts on home now f writes =
      let low = subst (λ (x : Plan). n.index < locks_of x) (sym same) near in
      let word = on acts.row acts.is in
      subst (λ (x : ℕ). Allows (Stand k) slots id m x f (WentBy m)) (sym at)
      (plays_on k slots id m number verb n low acts.row acts.stands acts.begins word home (λ a x b. WentBy a x b) f
      (λ s both me. record {
        found = plays.y k slots id m number verb n low acts.row acts.stands acts.begins word home s both me;
        packs = plays.y_packable k slots id m number verb n low acts.row acts.stands acts.begins word home s both me;
        tail = plays.y_tail k slots id m number verb n low acts.row acts.stands acts.begins word home s both me;
        word = plays.y_word k slots id m number verb n low acts.row acts.stands acts.begins word home s both me;
        seat = ap (λ (c : Calls). (rowed m.0 c (Word (plays.y k slots id m number verb n low acts.row acts.stands acts.begins word home s both me)), m.1))
            now;
      }) (subst (λ (x : Plan). WritesAt (layout_in x) acts.row acts.stands.frame f) (sym same) writes))

-- such a step is one of the operation, on the lock
pub made_on : (v : Verb) (l : LockName) (met : ℕ) (m n : Me Slot View) → acting m.0.who.plan.mode m.0.calls v l.index ≡ m.0.calls
    → WentBy m met n → MadeBy v l.index m met n
made_on v l met m n now made =
    record {
      found = made.found;
      packs = made.packs;
      tail = made.tail;
      word = made.word;
      seat = made.seat
          ∙ ap (λ (c : Calls). (rowed m.0 c (Word made.found), m.1)) (sym now);
    }
