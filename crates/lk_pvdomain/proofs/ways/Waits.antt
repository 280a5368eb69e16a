-- The rows of a waiter that halts.
use Rattle.std.proofs.Common.{inr, ◌≡◌, ◌≢◌, ℕ, ◌-◌, ◌≤◌, Some, true, false, eqb, eq-eqb, refl, sym}
use Rattle.std.proofs.Common.{ap, ◌∙◌, arith}
use Rattle.std.proofs.lemmas.Bool.{ne_eqb}
use Rattle.lk_pvdomain.proofs.Names.{TableId, Me, NodeName, node_of, Frame, Pc, E1, W1, W6, W7}
use Rattle.lk_pvdomain.proofs.Names.{State, Halted, Hashed, Verb, Marked, Stated, Outlook, Terms}
use Rattle.lk_pvdomain.proofs.Names.{lock_name, Slot, InCall, turns_by, turns_of, went}
use Rattle.lk_pvdomain.proofs.Names.{state_number, Domain, View, AtOn, HaltedOn, Owns, Start}
use Rattle.lk_pvdomain.proofs.Names.{SeesState, halts_at}
use Rattle.lk_rows.specs.declared.parts.Flag.{Flag}
use Rattle.lk_rows.specs.declared.parts.Flag.TheVariants.{Unset, Go, Second}
use Rattle.lk_rows.specs.declared.parts.Pc.TheVariants.{W2, W3, W4, W5}
use Rattle.lk_rows.specs.declared.parts.State.TheVariants.{Running}
use Rattle.lk_law.specs.Leads.{Flagged}
use Rattle.lk_domain.specs.{NodePlays.SeesFlag, NodeUses.{LooksFlag, looks_flag}, Words.flag_number}
use Rattle.lk_pvdomain.proofs.ways.Ways.{Goes, goes, stands, rests}
use Rattle.lk_pvdomain.specs.{PvPaths.{Follows, Spares}, PvPlays.{AtState, AtTold, AtHalt}}
use Rattle.lk_pvdomain.specs.PvRows.{looks_state, stores_own, state_told, rouses, roused_to}
use Rattle.lk_pvdomain.specs.PvRows.{state_node}

-- where each leads
module _ {t : Terms} {p : ℕ} {z : Outlook} {own : NodeName} (f : Frame) where
  W1_set : (x : Flag) → flag_number x ≢ 0 → f.me ≡ Some own → Goes t p z W1 f (Flagged x) E1 (Owns own)
  W1_set Unset ne me = absurd (ne refl)
  W1_set Go ne me = record { place = refl; grip = refl; lock = refl; wakes = refl; has = me }
  W1_set (Second n) ne me = record { place = refl; grip = refl; lock = refl; wakes = refl; has = me }

module _ {t : Terms} {p : ℕ} {z : Outlook} {own prev : NodeName} (f : Frame) where
  W1_unset : (x : Flag) (n : ℕ) → flag_number x ≡ 0 → Spares own prev n f → Goes t p z W1 f (Flagged x) W2 (Spares own prev n)
  W1_unset Unset n e h = record { place = refl; grip = refl; lock = refl; wakes = refl; has = record { me = h.me; prev = h.prev; left = h.left } }
  W1_unset Go n e h = absurd (omega (arith, e))
  W1_unset (Second m) n e h = absurd (omega (arith, e))

  W2_stops : (x : State) (n : ℕ) → state_number x ≢ 0 → Spares own prev n f → Goes t p z W2 f (Stated x) W3 (Follows own prev)
  W2_stops Running n ne h = absurd (ne refl)
  W2_stops Halted n ne h = record { place = refl; grip = refl; lock = refl; wakes = refl; has = record { me = h.me; prev = h.prev } }
  W2_stops Hashed n ne h = record { place = refl; grip = refl; lock = refl; wakes = refl; has = record { me = h.me; prev = h.prev } }

  W2_last : (x : State) (n : ℕ) → state_number x ≡ 0 → n ≤ 1 → Spares own prev n f → Goes t p z W2 f (Stated x) W3 (Follows own prev)
  W2_last Halted n e low h = absurd (omega (arith, e))
  W2_last Hashed n e low h = absurd (omega (arith, e))
  W2_last Running n e low h =
      record { place = rw is refl; grip = rw is refl; lock = rw is refl; wakes = refl; has = record { me = rw is h.me; prev = rw is h.prev } }
    where
      is : eqb (f.left - 1) 0 ≡ true
      is = eq-eqb (f.left - 1) 0 (let a = h.left in omega (arith, a, low))

  W2_again : (x : State) (n : ℕ) → state_number x ≡ 0 → (n - 1) ≢ 0 → Spares own prev n f → Goes t p z W2 f (Stated x) W1 (Spares own prev (n - 1))
  W2_again Halted n e ne h = absurd (omega (arith, e))
  W2_again Hashed n e ne h = absurd (omega (arith, e))
  W2_again Running n e ne h =
      record {
        place = rw is refl;
        grip = rw is refl;
        lock = rw is refl;
        wakes = refl;
        has = record { me = rw is h.me; prev = rw is h.prev; left = rw is (ap (λ k. k - 1) h.left) };
      }
    where
      is : eqb (f.left - 1) 0 ≡ false
      is = ap (λ k. eqb (k - 1) 0) h.left ∙ ne_eqb (n - 1) 0 ne

  W3_halts : (x : State) → Follows own prev f → Goes t p z W3 f (Stated x) W4 (Follows own prev)
  W3_halts x h = record { place = refl; grip = refl; lock = refl; wakes = refl; has = record { me = h.me; prev = h.prev } }

  W4_set : (x : Flag) → flag_number x ≢ 0 → Follows own prev f → Goes t p z W4 f (Flagged x) W7 (Follows own prev)
  W4_set Unset ne h = absurd (ne refl)
  W4_set Go ne h = record { place = refl; grip = refl; lock = refl; wakes = refl; has = record { me = h.me; prev = h.prev } }
  W4_set (Second n) ne h = record { place = refl; grip = refl; lock = refl; wakes = refl; has = record { me = h.me; prev = h.prev } }

  W4_unset : (x : Flag) → flag_number x ≡ 0 → Follows own prev f → Goes t p z W4 f (Flagged x) W5 (Follows own prev)
  W4_unset Unset e h = record { place = refl; grip = refl; lock = refl; wakes = refl; has = record { me = h.me; prev = h.prev } }
  W4_unset Go e h = absurd (omega (arith, e))
  W4_unset (Second m) e h = absurd (omega (arith, e))

  W5_halted : (x : State) → state_number x ≡ 1 → Follows own prev f → Goes t p z W5 f (Stated x) W6 (Follows own prev)
  W5_halted Running e h = absurd (omega (arith, e))
  W5_halted Halted e h = record { place = refl; grip = refl; lock = refl; wakes = refl; has = record { me = h.me; prev = h.prev } }
  W5_halted Hashed e h = absurd (omega (arith, e))

  W5_else : (x : State) → state_number x ≢ 1 → Follows own prev f → Goes t p z W5 f (Stated x) W7 (Follows own prev)
  W5_else Running ne h = record { place = refl; grip = refl; lock = refl; wakes = refl; has = record { me = h.me; prev = h.prev } }
  W5_else Halted ne h = absurd (ne refl)
  W5_else Hashed ne h = record { place = refl; grip = refl; lock = refl; wakes = refl; has = record { me = h.me; prev = h.prev } }

  W7_wakes : (x : State) → Follows own prev f → Goes t p z W7 f (Stated x) W1 (Spares own prev (turns_by t.mode z.threshold))
  W7_wakes Running h = record { place = refl; grip = refl; lock = refl; wakes = refl; has = record { me = h.me; prev = h.prev; left = refl } }
  W7_wakes Halted h = record { place = refl; grip = refl; lock = refl; wakes = refl; has = record { me = h.me; prev = h.prev; left = refl } }
  W7_wakes Hashed h = record { place = refl; grip = refl; lock = refl; wakes = refl; has = record { me = h.me; prev = h.prev; left = refl } }

-- what each asks
module _ {d : Domain} {v : Verb} {l : ℕ} {own : NodeName} {s : Start} {c : Pc} {P : Frame → Type 0} {ta : TableId} {ia : ℕ}
    {a : Me Slot View} (w : AtOn d v l own s c P ta ia a) where
  pub flag_asks : looks_flag c ≡ true → w.frame.me ≡ Some own → InCall (LooksFlag d.plan own) a.0
  flag_asks is me = (v, inr (w.of.halting, record { lock = lock_name l; row = c; is = is; stands = stands w; me = me }))

  pub look_asks : (node : NodeName) → looks_state c ≡ true → state_node c w.frame ≡ node → AtState looks_state node a.0
  look_asks node is on = record { verb = v; lock = lock_name l; row = c; is = is; stands = stands w; node_is = on }

  pub told_asks : (node : NodeName) (state : State) → stores_own c ≡ true → state_node c w.frame ≡ node → state ≡ state_told c
      → AtTold stores_own state_told node state a.0
  told_asks node state is on e =
      record { at = record { verb = v; lock = lock_name l; row = c; is = is; stands = stands w; node_is = on }; told_is = e }

  pub rouse_asks : (node : NodeName) (state : State) → rouses c ≡ true → state_node c w.frame ≡ node → state ≡ roused_to c
      → AtTold rouses roused_to node state a.0
  rouse_asks node state is on e =
      record { at = record { verb = v; lock = lock_name l; row = c; is = is; stands = stands w; node_is = on }; told_is = e }

  pub halt_asks : halts_at c ≡ true → AtHalt a.0
  halt_asks is = record { verb = v; lock = lock_name l; row = c; is = is; stands = stands w }

-- what each does
module _ {d : Domain} {v : Verb} {l : ℕ} {own : NodeName} {s : Start} {ta tb : TableId} {ia ib : ℕ} {a b : Me Slot View}
    (same : (tb ≡ ta) × (ib ≡ ia)) where
  pub w1_set : {prev : NodeName} {n met : ℕ} → AtOn d v l own s W1 (Spares own prev n) ta ia a → SeesFlag a met b → met ≢ 0 → AtOn d v l own s E1 (Owns own) tb ib b
  w1_set w k ne = goes w same (Flagged k.found) k.seat E1 (Owns own) (W1_set w.frame k.found (λ e. ne (k.word ∙ e)) w.has.me)

module _ {d : Domain} {v : Verb} {l : ℕ} {own prev : NodeName} {s : Start} {ta tb : TableId} {ia ib : ℕ} {a b : Me Slot View}
    (same : (tb ≡ ta) × (ib ≡ ia)) where
  pub w1_unset : {n met : ℕ} → AtOn d v l own s W1 (Spares own prev n) ta ia a → SeesFlag a met b → met ≡ 0
      → AtOn d v l own s W2 (Spares own prev n) tb ib b
  w1_unset {n} w k e = goes w same (Flagged k.found) k.seat W2 (Spares own prev n) (W1_unset w.frame k.found n (sym k.word ∙ e) w.has)

  pub w2_stops : {n met : ℕ} → AtOn d v l own s W2 (Spares own prev n) ta ia a → SeesState a met b → met ≢ 0
      → AtOn d v l own s W3 (Follows own prev) tb ib b
  w2_stops {n} w k ne = goes w same (Stated k.found) k.seat W3 (Follows own prev) (W2_stops w.frame k.found n (λ e. ne (k.word ∙ e)) w.has)

  pub w2_last : {n met : ℕ} → AtOn d v l own s W2 (Spares own prev n) ta ia a → SeesState a met b → met ≡ 0 → n ≤ 1
      → AtOn d v l own s W3 (Follows own prev) tb ib b
  w2_last {n} w k e low = goes w same (Stated k.found) k.seat W3 (Follows own prev) (W2_last w.frame k.found n (sym k.word ∙ e) low w.has)

  pub w2_again : {n met : ℕ} → AtOn d v l own s W2 (Spares own prev n) ta ia a → SeesState a met b → met ≡ 0 → (n - 1) ≢ 0
      → AtOn d v l own s W1 (Spares own prev (n - 1)) tb ib b
  w2_again {n} w k e ne = goes w same (Stated k.found) k.seat W1 (Spares own prev (n - 1)) (W2_again w.frame k.found n (sym k.word ∙ e) ne w.has)

  pub w3_halts : {met : ℕ} → AtOn d v l own s W3 (Follows own prev) ta ia a → SeesState a met b → AtOn d v l own s W4 (Follows own prev) tb ib b
  w3_halts w k = goes w same (Stated k.found) k.seat W4 (Follows own prev) (W3_halts w.frame k.found w.has)

  pub w4_set : {met : ℕ} → AtOn d v l own s W4 (Follows own prev) ta ia a → SeesFlag a met b → met ≢ 0 → AtOn d v l own s W7 (Follows own prev) tb ib b
  w4_set w k ne = goes w same (Flagged k.found) k.seat W7 (Follows own prev) (W4_set w.frame k.found (λ e. ne (k.word ∙ e)) w.has)

  pub w4_unset : {met : ℕ} → AtOn d v l own s W4 (Follows own prev) ta ia a → SeesFlag a met b → met ≡ 0 → AtOn d v l own s W5 (Follows own prev) tb ib b
  w4_unset w k e = goes w same (Flagged k.found) k.seat W5 (Follows own prev) (W4_unset w.frame k.found (sym k.word ∙ e) w.has)

  pub w5_halted : {met : ℕ} → AtOn d v l own s W5 (Follows own prev) ta ia a → SeesState a met b → met ≡ 1 → AtOn d v l own s W6 (Follows own prev) tb ib b
  w5_halted w k e = goes w same (Stated k.found) k.seat W6 (Follows own prev) (W5_halted w.frame k.found (sym k.word ∙ e) w.has)

  pub w5_else : {met : ℕ} → AtOn d v l own s W5 (Follows own prev) ta ia a → SeesState a met b → met ≢ 1 → AtOn d v l own s W7 (Follows own prev) tb ib b
  w5_else w k ne = goes w same (Stated k.found) k.seat W7 (Follows own prev) (W5_else w.frame k.found (λ e. ne (k.word ∙ e)) w.has)

  pub w7_wakes : {met : ℕ} → AtOn d v l own s W7 (Follows own prev) ta ia a → SeesState a met b
      → AtOn d v l own s W1 (Spares own prev (turns_of d.plan)) tb ib b
  w7_wakes w k = goes w same (Stated k.found) k.seat W1 (Spares own prev (turns_of d.plan)) (W7_wakes w.frame k.found w.has)

  pub w6_halts : AtOn d v l own s W6 (Follows own prev) ta ia a → b ≡ (went a.0 (Marked false), a.1) → HaltedOn d v l own s W6 W7 (Follows own prev) tb ib b
  w6_halts w k = rests w same k refl refl refl W7 (Follows own prev) refl refl (record { me = w.has.me; prev = w.has.prev })

-- the node of a name that a frame has
pub before : (f : Frame) (n : NodeName) → f.prev ≡ Some n → node_of f.prev ≡ n
before f n e = ap node_of e

pub mine : (f : Frame) (n : NodeName) → f.me ≡ Some n → node_of f.me ≡ n
mine f n e = ap node_of e
