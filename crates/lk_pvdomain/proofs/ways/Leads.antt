-- The rows of a front that halts.
use Rattle.std.proofs.Common.{◌≡◌, ◌≢◌, ℕ, ◌-◌, ◌≤◌, ◌%◌, Option, Some, None, Bool, true, false}
use Rattle.std.proofs.Common.{eqb, eq-eqb, refl, sym, ap, ◌∙◌, arith, ◌&&◌, not}
use Rattle.std.proofs.lemmas.Bool.{ne_eqb}
use Rattle.lk_pvdomain.proofs.Names.{TableId, Me, Fields, Layout, Locked, Free, Held, Slow}
use Rattle.lk_pvdomain.proofs.Names.{NodeName, Frame, Pc, E1, E9, E12, E13, State, Verb, Marked}
use Rattle.lk_pvdomain.proofs.Names.{Met, Named, Stated, Word, acting_is, Calls, Outlook, Terms}
use Rattle.lk_pvdomain.proofs.Names.{lock_name, Slot, InCall, turns_by, turns_of, Acts, MadeBy}
use Rattle.lk_pvdomain.proofs.Names.{WentBy, made, went, state_number, Domain, View, AtOn, HaltedOn}
use Rattle.lk_pvdomain.proofs.Names.{Owns, Start, EmptiesAt, SeesState, erases, fills}
use Rattle.lk_word.specs.SpinWord.{packed, locked_number}
use Rattle.lk_rows.specs.declared.parts.Pc.TheVariants.{E2, E3, E4, E5, E6, E7, E8, E10, E11}
use Rattle.lk_rows.specs.{rows.Pv.is_slow_byte, rows.Spin.is_unlocked}
use Rattle.lk_domain.proofs.Acting.{acts_on, begins_on}
use Rattle.lk_domain.specs.{Plays.rowed, Uses.{UsesWord, uses}}
use Rattle.lk_domain.specs.declared.locks.moves.WordUse.{WordUse}
use Rattle.lk_pvdomain.proofs.Fails.{low_byte, head_again, head_failed, steal_again, steal_failed}
use Rattle.lk_pvdomain.proofs.ways.Ways.{Goes, goes, stands, rests}
use Rattle.lk_pvdomain.specs.{PvPaths.{Leads, Tries}, PvPlays.{AtFill, AtSeek}, PvRows.filled_with}
use Rattle.lk_rows.specs.declared.parts.State.TheVariants as state

pub un_off : (b : Bool) → not b ≡ false → b ≡ true
un_off true e = refl
un_off false e = cc e

pub un_on : (b : Bool) → not b ≡ true → b ≡ false
un_on false e = refl
un_on true e = cc e

slow_on : (a : Locked) → locked_number a ≡ 3 → is_slow_byte a ≡ true
slow_on Free e = absurd (omega (arith, e))
slow_on Held e = absurd (omega (arith, e))
slow_on Slow e = refl

slow_off : (a : Locked) → locked_number a ≢ 3 → is_slow_byte a ≡ false
slow_off Free ne = refl
slow_off Held ne = refl
slow_off Slow ne = absurd (ne refl)

slow_met : (layout : Layout) (x : Fields) (met : ℕ) → met ≡ packed layout x → met % 256 ≡ 3 → is_slow_byte x.locked ≡ true
slow_met layout x met is e = let h = low_byte layout x.locked x.pending x.tail in slow_on x.locked (omega (arith, is, h, e))

slow_missed : (layout : Layout) (x : Fields) (met : ℕ) → met ≡ packed layout x → met % 256 ≢ 3 → is_slow_byte x.locked ≡ false
slow_missed layout x met is ne = let h = low_byte layout x.locked x.pending x.tail in slow_off x.locked (λ e. ne (omega (arith, is, h, e)))

-- where each leads
module _ {t : Terms} {p : ℕ} {z : Outlook} {own : NodeName} (f : Frame) where
  E1_hashed : (x : State) → state_number x ≡ 2 → f.me ≡ Some own → Goes t p z E1 f (Stated x) E2 (Leads own true)
  E1_hashed state.Running e me = absurd (omega (arith, e))
  E1_hashed state.Halted e me = absurd (omega (arith, e))
  E1_hashed state.Hashed e me = record { place = refl; grip = refl; lock = refl; wakes = refl; has = record { me = me; hashed_is = refl } }

  E1_else : (x : State) → state_number x ≢ 2 → f.me ≡ Some own → Goes t p z E1 f (Stated x) E2 (Leads own false)
  E1_else state.Running ne me = record { place = refl; grip = refl; lock = refl; wakes = refl; has = record { me = me; hashed_is = refl } }
  E1_else state.Halted ne me = record { place = refl; grip = refl; lock = refl; wakes = refl; has = record { me = me; hashed_is = refl } }
  E1_else state.Hashed ne me = absurd (ne refl)

  E2_runs : {h : Bool} (x : State) → Leads own h f → Goes t p z E2 f (Stated x) E3 (Leads own h)
  E2_runs x i = record { place = refl; grip = refl; lock = refl; wakes = refl; has = record { me = i.me; hashed_is = i.hashed_is } }

  E3_presses : {h : Bool} (x : Fields) → Leads own h f → Goes t p z E3 f (Word x) E4 (Tries own h (turns_by t.mode z.threshold))
  E3_presses x i = record { place = refl; grip = refl; lock = refl; wakes = refl; has = record { me = i.me; hashed_is = i.hashed_is; left = refl } }

  E4_takes : {h : Bool} {n : ℕ} (x : Fields) → (is_unlocked x.locked && x.pending) ≡ true → Tries own h n f → Goes t p z E4 f (Word x) E13 (Owns own)
  E4_takes x e i = record { place = rw e refl; grip = rw e refl; lock = rw e refl; wakes = refl; has = rw e i.me }

  E4_last : {h : Bool} {n : ℕ} (x : Fields) → (is_unlocked x.locked && x.pending) ≡ false → n ≤ 1 → Tries own h n f
      → Goes t p z E4 f (Word x) E5 (Leads own h)
  E4_last x e low i =
      record {
        place = rw e (rw is refl);
        grip = rw e (rw is refl);
        lock = rw e (rw is refl);
        wakes = refl;
        has = record { me = rw e (rw is i.me); hashed_is = rw e (rw is i.hashed_is) };
      }
    where
      is : eqb (f.left - 1) 0 ≡ true
      is = eq-eqb (f.left - 1) 0 (let a = i.left in omega (arith, a, low))

  E4_again : {h : Bool} {n : ℕ} (x : Fields) → (is_unlocked x.locked && x.pending) ≡ false → (n - 1) ≢ 0 → Tries own h n f
      → Goes t p z E4 f (Word x) E4 (Tries own h (n - 1))
  E4_again {n} x e ne i =
      record {
        place = rw e (rw is refl);
        grip = rw e (rw is refl);
        lock = rw e (rw is refl);
        wakes = refl;
        has = record { me = rw e (rw is i.me); hashed_is = rw e (rw is i.hashed_is); left = rw e (rw is (ap (λ k. k - 1) i.left)) };
      }
    where
      is : eqb (f.left - 1) 0 ≡ false
      is = ap (λ k. eqb (k - 1) 0) i.left ∙ ne_eqb (n - 1) 0 ne

  E5_hashed : (x : Fields) → Leads own true f → Goes t p z E5 f (Word x) E10 (Leads own true)
  E5_hashed x i = let e = i.hashed_is in
      record { place = rw e refl; grip = refl; lock = refl; wakes = refl; has = record { me = i.me; hashed_is = i.hashed_is } }

  E5_else : (x : Fields) → Leads own false f → Goes t p z E5 f (Word x) E6 (Owns own)
  E5_else x i = let e = i.hashed_is in record { place = rw e refl; grip = refl; lock = refl; wakes = refl; has = i.me }

  E6_enters : (x : Option NodeName) → f.me ≡ Some own → Goes t p z E6 f (Named x) E7 (Owns own)
  E6_enters x me = record { place = refl; grip = refl; lock = refl; wakes = refl; has = me }

  E7_takes : (x : Fields) → is_unlocked x.locked ≡ true → f.me ≡ Some own → Goes t p z E7 f (Word x) E8 (Owns own)
  E7_takes x e me = record { place = rw e refl; grip = rw e refl; lock = rw e refl; wakes = refl; has = rw e me }

  E7_else : (x : Fields) → is_unlocked x.locked ≡ false → f.me ≡ Some own → Goes t p z E7 f (Word x) E10 (Leads own true)
  E7_else x e me = record { place = rw e refl; grip = rw e refl; lock = rw e refl; wakes = refl; has = record { me = rw e me; hashed_is = rw e refl } }

  E8_wins : (x : Fields) → f.me ≡ Some own → Goes t p z E8 f (Word x) E9 (Owns own)
  E8_wins x me = record { place = refl; grip = refl; lock = refl; wakes = refl; has = me }

  E9_empties : (x : Option NodeName) → f.me ≡ Some own → Goes t p z E9 f (Named x) E13 (Owns own)
  E9_empties x me = record { place = refl; grip = refl; lock = refl; wakes = refl; has = me }

  E10_tells : {h : Bool} (x : State) → Leads own h f → Goes t p z E10 f (Stated x) E11 (Leads own h)
  E10_tells x i = record { place = refl; grip = refl; lock = refl; wakes = refl; has = record { me = i.me; hashed_is = i.hashed_is } }

  E11_slow : {h : Bool} (x : Fields) → is_slow_byte x.locked ≡ true → Leads own h f → Goes t p z E11 f (Word x) E12 (Leads own h)
  E11_slow x e i = record { place = rw e refl; grip = refl; lock = refl; wakes = refl; has = record { me = i.me; hashed_is = i.hashed_is } }

  E11_else : {h : Bool} (x : Fields) → is_slow_byte x.locked ≡ false → Leads own h f → Goes t p z E11 f (Word x) E2 (Leads own h)
  E11_else x e i = record { place = rw e refl; grip = refl; lock = refl; wakes = refl; has = record { me = i.me; hashed_is = i.hashed_is } }

-- what each asks
module _ {d : Domain} {v : Verb} {l : ℕ} {own : NodeName} {s : Start} {c : Pc} {P : Frame → Type 0} {ta : TableId} {ia : ℕ}
    {a : Me Slot View} (w : AtOn d v l own s c P ta ia a) where
  pub word_asks : (how : WordUse) → uses how c ≡ true → InCall (UsesWord how (lock_name l)) a.0
  word_asks how is = (v, record { row = c; is = is; stands = stands w })

  pub fill_asks : (node : NodeName) → fills c ≡ true → filled_with c w.frame ≡ Some node → AtFill node (lock_name l) a.0
  fill_asks node is on = record { verb = v; row = c; is = is; stands = stands w; node_is = on }

  pub seek_asks : erases c ≡ true → AtSeek (lock_name l) a.0
  seek_asks is = record { verb = v; row = c; is = is; stands = stands w }

  abbrev pub acts : (kind : Pc → Bool) → kind c ≡ true → Acts kind a.0 v l
  acts kind is =
      record {
        row = c;
        is = is;
        stands = acts_on a.0.calls v (lock_name l) c (stands w) a.0.who.plan.mode;
        begins = begins_on a.0.calls v (lock_name l) c (stands w) a.0.who.plan;
      }

  -- a row of the call that goes on
  pub went_on : {b : Me Slot View} (x : Met) → b ≡ (made a.0 v l x, a.1) → b ≡ (went a.0 x, a.1)
  went_on x e = e ∙ ap (λ (k : Calls). (rowed a.0 k x, a.1)) (acting_is a.0.calls v (lock_name l) c (stands w) a.0.who.plan.mode)

-- what each does
module _ {d : Domain} {v : Verb} {l : ℕ} {own : NodeName} {s : Start} {ta tb : TableId} {ia ib : ℕ} {a b : Me Slot View}
    (same : (tb ≡ ta) × (ib ≡ ia)) where
  pub e1_hashed : {met : ℕ} → AtOn d v l own s E1 (Owns own) ta ia a → SeesState a met b → met ≡ 2 → AtOn d v l own s E2 (Leads own true) tb ib b
  e1_hashed w k e = goes w same (Stated k.found) k.seat E2 (Leads own true) (E1_hashed w.frame k.found (sym k.word ∙ e) w.has)

  pub e1_else : {met : ℕ} → AtOn d v l own s E1 (Owns own) ta ia a → SeesState a met b → met ≢ 2 → AtOn d v l own s E2 (Leads own false) tb ib b
  e1_else w k ne = goes w same (Stated k.found) k.seat E2 (Leads own false) (E1_else w.frame k.found (λ e. ne (k.word ∙ e)) w.has)

  pub e2_runs : {h : Bool} {met : ℕ} → AtOn d v l own s E2 (Leads own h) ta ia a → SeesState a met b → AtOn d v l own s E3 (Leads own h) tb ib b
  e2_runs {h} w k = goes w same (Stated k.found) k.seat E3 (Leads own h) (E2_runs w.frame k.found w.has)

  pub e3_presses : {h : Bool} {met : ℕ} → AtOn d v l own s E3 (Leads own h) ta ia a → WentBy a met b
      → AtOn d v l own s E4 (Tries own h (turns_of d.plan)) tb ib b
  e3_presses {h} w k = goes w same (Word k.found) k.seat E4 (Tries own h (turns_of d.plan)) (E3_presses w.frame k.found w.has)

  pub e4_takes : {h : Bool} {n met : ℕ} → AtOn d v l own s E4 (Tries own h n) ta ia a → MadeBy v l a met b → met % 512 ≡ 256
      → AtOn d v l own s E13 (Owns own) tb ib b
  e4_takes w k e = goes w same (Word k.found) (went_on w (Word k.found) k.seat) E13 (Owns own)
      (E4_takes w.frame k.found (un_off (is_unlocked k.found.locked && k.found.pending) (head_again _ k.found _ k.word e)) w.has)

  pub e4_last : {h : Bool} {n met : ℕ} → AtOn d v l own s E4 (Tries own h n) ta ia a → MadeBy v l a met b → met % 512 ≢ 256 → n ≤ 1
      → AtOn d v l own s E5 (Leads own h) tb ib b
  e4_last {h} w k ne low = goes w same (Word k.found) (went_on w (Word k.found) k.seat) E5 (Leads own h)
      (E4_last w.frame k.found (un_on (is_unlocked k.found.locked && k.found.pending) (head_failed _ k.found _ k.word ne)) low w.has)

  pub e4_again : {h : Bool} {n met : ℕ} → AtOn d v l own s E4 (Tries own h n) ta ia a → MadeBy v l a met b → met % 512 ≢ 256 → (n - 1) ≢ 0
      → AtOn d v l own s E4 (Tries own h (n - 1)) tb ib b
  e4_again {h} {n} w k ne more = goes w same (Word k.found) (went_on w (Word k.found) k.seat) E4 (Tries own h (n - 1))
      (E4_again w.frame k.found (un_on (is_unlocked k.found.locked && k.found.pending) (head_failed _ k.found _ k.word ne)) more w.has)

  pub e5_hashed : {met : ℕ} → AtOn d v l own s E5 (Leads own true) ta ia a → WentBy a met b → AtOn d v l own s E10 (Leads own true) tb ib b
  e5_hashed w k = goes w same (Word k.found) k.seat E10 (Leads own true) (E5_hashed w.frame k.found w.has)

  pub e5_else : {met : ℕ} → AtOn d v l own s E5 (Leads own false) ta ia a → WentBy a met b → AtOn d v l own s E6 (Owns own) tb ib b
  e5_else w k = goes w same (Word k.found) k.seat E6 (Owns own) (E5_else w.frame k.found w.has)

  pub e6_enters : AtOn d v l own s E6 (Owns own) ta ia a → b ≡ (went a.0 (Named None), a.1) → AtOn d v l own s E7 (Owns own) tb ib b
  e6_enters w step = goes w same (Named None) step E7 (Owns own) (E6_enters w.frame None w.has)

  pub e7_takes : {met : ℕ} → AtOn d v l own s E7 (Owns own) ta ia a → WentBy a met b → met % 256 ≡ 0 → AtOn d v l own s E8 (Owns own) tb ib b
  e7_takes w k e = goes w same (Word k.found) k.seat E8 (Owns own)
      (E7_takes w.frame k.found (un_off (is_unlocked k.found.locked) (steal_again _ k.found _ k.word e)) w.has)

  pub e7_else : {met : ℕ} → AtOn d v l own s E7 (Owns own) ta ia a → WentBy a met b → met % 256 ≢ 0 → AtOn d v l own s E10 (Leads own true) tb ib b
  e7_else w k ne = goes w same (Word k.found) k.seat E10 (Leads own true)
      (E7_else w.frame k.found (un_on (is_unlocked k.found.locked) (steal_failed _ k.found _ k.word ne)) w.has)

  pub e8_wins : {met : ℕ} → AtOn d v l own s E8 (Owns own) ta ia a → WentBy a met b → AtOn d v l own s E9 (Owns own) tb ib b
  e8_wins w k = goes w same (Word k.found) k.seat E9 (Owns own) (E8_wins w.frame k.found w.has)

  pub e9_empties : {m met : ℕ} → AtOn d v l own s E9 (Owns own) ta ia a → EmptiesAt m a met b → AtOn d v l own s E13 (Owns own) tb ib b
  e9_empties w k = goes w same (Named (Some k.node)) k.seat E13 (Owns own) (E9_empties w.frame (Some k.node) w.has)

  pub e10_tells : {h : Bool} {met : ℕ} → AtOn d v l own s E10 (Leads own h) ta ia a → SeesState a met b → AtOn d v l own s E11 (Leads own h) tb ib b
  e10_tells {h} w k = goes w same (Stated k.found) k.seat E11 (Leads own h) (E10_tells w.frame k.found w.has)

  pub e11_slow : {h : Bool} {met : ℕ} → AtOn d v l own s E11 (Leads own h) ta ia a → WentBy a met b → met % 256 ≡ 3
      → AtOn d v l own s E12 (Leads own h) tb ib b
  e11_slow {h} w k e = goes w same (Word k.found) k.seat E12 (Leads own h) (E11_slow w.frame k.found (slow_met _ k.found _ k.word e) w.has)

  pub e11_else : {h : Bool} {met : ℕ} → AtOn d v l own s E11 (Leads own h) ta ia a → WentBy a met b → met % 256 ≢ 3
      → AtOn d v l own s E2 (Leads own h) tb ib b
  e11_else {h} w k ne = goes w same (Word k.found) k.seat E2 (Leads own h) (E11_else w.frame k.found (slow_missed _ k.found _ k.word ne) w.has)

  pub e12_halts : {h : Bool} → AtOn d v l own s E12 (Leads own h) ta ia a → b ≡ (went a.0 (Marked false), a.1)
      → HaltedOn d v l own s E12 E2 (Leads own h) tb ib b
  e12_halts {h} w k = rests w same k refl refl refl E2 (Leads own h) refl refl (record { me = w.has.me; hashed_is = w.has.hashed_is })
