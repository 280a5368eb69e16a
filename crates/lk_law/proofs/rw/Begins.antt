-- A frame begins an operation, or comes, goes or changes without a place, in a world with
-- reader-writer locks.
use Rattle.std.proofs.Common.{◌≡◌, inl, inr, ℕ, Option, Some, None, true, false, arith, ap, refl}
use Rattle.std.proofs.Common.{sym, ◌∙◌, subst}
use Rattle.lk_law.proofs.Names.{cases_eq, LockHistory, Manner, Reads, Writes, Kind, Rw, Mode, Cna}
use Rattle.lk_law.proofs.Names.{Native, Pv, Virt, Waiter, first_place, rw_name, started, Frame, Pc}
use Rattle.lk_law.proofs.Names.{Op, Verb, Unlock, is_rw_row, HasNoPlace, RwAgrees, RwStep, RwPhase}
use Rattle.lk_law.proofs.Names.{announces, asks, is_counted, is_inner, Away, Unreads, Unwrites}
use Rattle.lk_law.proofs.Names.{RwFits, rw_helds, rw_own_phase, rw_phase_if, rw_phase_on, rw_phases}
use Rattle.lk_law.proofs.Names.{rw_waits, spin_part, put_frame, World}
use Rattle.lk_names.specs.declared.names.Kind.TheVariants.{Spin}
use Rattle.lk_rows.specs.Programs.{way_before, kind_of}
use Rattle.lk_rows.specs.declared.setup.Verb.TheVariants.{Lock, Try, Read, TryRead, RUnlock, Write}
use Rattle.lk_rows.specs.declared.setup.Verb.TheVariants.{TryWrite, WUnlock}
use Rattle.lk_law.proofs.common.Begins.{spin_begin_keeps, spin_end_keeps}
use Rattle.lk_law.proofs.{common.Cases.waiter_cases, common.Puts.put_moves, rw.Laws.rw_turn}
use Rattle.lk_law.proofs.rw.Phases.{rw_here, rw_else}
use Rattle.lk_law.specs.{RwPhase.biased, SoundWorld.rw_phase_at, WorldLaws.{BeginKeeps, EndKeeps}}

-- a frame goes from one phase to another for a reader-writer lock, and holds all as before
pub record RwTurns (r' : RwPhase) (h : Option Manner) : Type 0 where
  pub counts : biased r' ≡ false
  pub told : announces r' ≡ false
  pub outer : is_inner r' ≡ false
  pub out : asks r' ≡ true → h ≡ None
  pub unread : r' ≡ Unreads → h ≡ Some Reads
  pub unwrite : r' ≡ Unwrites → h ≡ Some Writes

pub turns_away : (h : Option Manner) → RwTurns Away h
turns_away h =
    record {
      counts = refl;
      told = refl;
      outer = refl;
      out = λ p. absurd (grind arith);
      unread = λ q. absurd (grind arith);
      unwrite = λ q. absurd (grind arith);
    }

-- whatever the frames, who goes from doing nothing to this phase keeps the lock's agreement
pub turn_rws : (m : World) {w : Waiter} {f : Option Frame} (g : Option Frame) {h : LockHistory}
    (i : ℕ) {r' : RwPhase}
    → m.frame w ≡ f → rw_phase_on i f ≡ Away → rw_phase_on i g ≡ r'
    → RwTurns r' (m.held w (rw_name i))
    → RwAgrees (m.rw i) (rw_phases m i) (rw_helds m i) (rw_waits m i) h
    → RwAgrees (m.rw i) (rw_phases (put_frame m w g) i) (rw_helds m i) (rw_waits m i) h
turn_rws m {w = w} {f = f} g i {r' = r'} live was now turn ok =
    let moves = put_moves m.frame w f g live in
    let step : RwStep (rw_phases m i) (rw_phases (put_frame m w g) i) (rw_helds m i) (rw_helds m i)
    (rw_waits m i) (rw_waits m i) w Away r' (rw_helds m i w) (rw_helds m i w) =
    record {
      acts = record {
        was = ap (rw_phase_on i) live ∙ was;
        now = ap (rw_phase_on i) moves.now ∙ now;
        others = λ u ne. ap (rw_phase_on i) (moves.others u ne);
      };
      holds = record { was = refl; now = refl; others = λ u ne. refl };
      others = λ u ne. refl;
      inner = ok.waiting.inner w ∙ ap is_inner (ap (rw_phase_on i) live ∙ was) ∙ sym turn.outer;
    } in
    rw_turn ok step refl (counted_same r' (rw_helds m i w) turn.counts) turn.told turn.out
    turn.unread turn.unwrite
  where
    counted_same : (q : RwPhase) (h : Option Manner) → biased q ≡ false
        → is_counted q h ≡ is_counted Away h
    counted_same q h b = grind (arith, b)

pub placeless_away : (i : ℕ) (f : Frame) → f.place ≡ None → rw_phase_on i (Some f) ≡ Away
placeless_away i f place =
    elim (cases_eq f.lock.index i) [
      | inl e ↦ rw_here i f e ∙ ap (λ (c : Option Pc). rw_phase_if c f.lock.wait) place
      | inr ne ↦ rw_else i f ne
    ]

absent_away : (i : ℕ) (f : Option Frame) → HasNoPlace f → rw_phase_on i f ≡ Away
absent_away i None p = refl
absent_away i (Some f) p = placeless_away i f p.0

-- what the first row of an operation is for a reader-writer lock
record RwFirst (k : Kind) (c : Pc) (way : Option Manner) : Type 0 where
  turns : RwTurns (rw_phase_at c false) way
  rw : is_rw_row c ≡ true → k ≡ Rw
  spin : is_rw_row c ≡ false → k ≡ Spin
  outer : is_rw_row c ≡ true → is_inner (rw_own_phase c) ≡ false

spin_first : (c : Pc) (way : Option Manner) → is_rw_row c ≡ false → rw_phase_at c false ≡ Away
    → RwFirst Spin c way
spin_first c way spin away =
    record {
      turns = subst (λ (r : RwPhase). RwTurns r way) (sym away) (turns_away way);
      rw = λ e. absurd (grind (arith, e, spin));
      spin = λ e. refl;
      outer = λ e. absurd (grind (arith, e, spin));
    }

rw_first : (mode : Mode) (v : Verb) → RwFirst (kind_of v) (first_place mode v) (way_before v)
rw_first mode Lock = spin_first _ _ refl refl
rw_first mode Try = spin_first _ _ refl refl
rw_first Virt Unlock = spin_first _ _ refl refl
rw_first Native Unlock = spin_first _ _ refl refl
rw_first Cna Unlock = spin_first _ _ refl refl
rw_first Pv Unlock = spin_first _ _ refl refl
rw_first mode Read =
    record {
      turns =
          record {
            counts = refl;
            told = refl;
            outer = refl;
            out = λ p. refl;
            unread = λ q. absurd (grind arith);
            unwrite = λ q. absurd (grind arith);
          };
      rw = λ e. refl;
      spin = λ e. cc;
      outer = λ e. refl;
    }
rw_first mode TryRead =
    record {
      turns =
          record {
            counts = refl;
            told = refl;
            outer = refl;
            out = λ p. refl;
            unread = λ q. absurd (grind arith);
            unwrite = λ q. absurd (grind arith);
          };
      rw = λ e. refl;
      spin = λ e. cc;
      outer = λ e. refl;
    }
rw_first mode Write =
    record {
      turns =
          record {
            counts = refl;
            told = refl;
            outer = refl;
            out = λ p. refl;
            unread = λ q. absurd (grind arith);
            unwrite = λ q. absurd (grind arith);
          };
      rw = λ e. refl;
      spin = λ e. cc;
      outer = λ e. refl;
    }
rw_first mode TryWrite =
    record {
      turns =
          record {
            counts = refl;
            told = refl;
            outer = refl;
            out = λ p. refl;
            unread = λ q. absurd (grind arith);
            unwrite = λ q. absurd (grind arith);
          };
      rw = λ e. refl;
      spin = λ e. cc;
      outer = λ e. refl;
    }
rw_first mode RUnlock =
    record {
      turns =
          record {
            counts = refl;
            told = refl;
            outer = refl;
            out = λ p. absurd (grind arith);
            unread = λ q. refl;
            unwrite = λ q. absurd (grind arith);
          };
      rw = λ e. refl;
      spin = λ e. cc;
      outer = λ e. refl;
    }
rw_first mode WUnlock =
    record {
      turns =
          record {
            counts = refl;
            told = refl;
            outer = refl;
            out = λ p. absurd (grind arith);
            unread = λ q. absurd (grind arith);
            unwrite = λ q. refl;
          };
      rw = λ e. refl;
      spin = λ e. cc;
      outer = λ e. refl;
    }

-- the frames fit after one has come, gone or changed
put_fits : (m : World) {w : Waiter} {f g : Option Frame} → m.frame w ≡ f
    → ((u : Waiter) (d : Frame) → m.frame u ≡ Some d → RwFits m.kind d)
    → ((d : Frame) → g ≡ Some d → RwFits m.kind d) → (u : Waiter) (d : Frame)
    → (put_frame m w g).frame u ≡ Some d → RwFits m.kind d
put_fits m {w = w} {f = f} {g = g} live fits fit u d p =
    let moves = put_moves m.frame w f g live in
    elim (waiter_cases u w) [
      | inl q ↦ fit d (sym moves.now ∙ ap (put_frame m w g).frame (sym q) ∙ p)
      | inr ne ↦ fits u d (sym (moves.others u ne) ∙ p)
    ]

-- a frame that begins an operation on a lock of its verb's kind fits
pub begun_fits : (kind : ℕ → Kind) (mode : Mode) (g : Frame) (o : Op) → kind o.lock ≡ kind_of o.verb
    → RwFits kind (started mode g o)
begun_fits kind mode g o is =
    record {
      rw = λ c e r. is ∙ first.rw (ap is_rw_row (sym (place_is c e)) ∙ r);
      inner = λ c e r i.
          absurd (let z = first.outer (ap is_rw_row (sym (place_is c e)) ∙ r) in
          let y = ap (λ (d : Pc). is_inner (rw_own_phase d)) (place_is c e) in
          grind (arith, z, y, i));
      spin = λ c e r s. is ∙ first.spin (ap is_rw_row (sym (place_is c e)) ∙ r);
      waits = λ q. cc;
      after = λ q. absurd (grind (arith, q));
    }
  where
    first : RwFirst (kind_of o.verb) (first_place mode o.verb) (way_before o.verb)
    first = rw_first mode o.verb

    place_is : (c : Pc) → Some (first_place mode o.verb) ≡ Some c → c ≡ first_place mode o.verb
    place_is c e = grind arith

pub begin_keeps : BeginKeeps
begin_keeps m hs w f g o sound live place held kind me =
    let first = rw_first m.mode o.verb in
    let s = started m.mode g o in
    record {
      spins = spin_begin_keeps m (spin_part m.kind hs) w f g o sound.spins live place held me;
      rws = λ i k. elim (cases_eq o.lock i) [
        | inl e ↦ turn_rws m {f = Some f} (Some s) i live (placeless_away i f place) (rw_here i s e)
            (subst (RwTurns (rw_phase_at (first_place m.mode o.verb) false))
            (sym held ∙ ap (λ (j : ℕ). m.held w (rw_name j)) e) first.turns) (sound.rws i k)
        | inr ne ↦ turn_rws m {f = Some f} (Some s) i live (placeless_away i f place)
            (rw_else i s ne) (turns_away (m.held w (rw_name i))) (sound.rws i k)
      ];
      fits = put_fits m {f = Some f} {g = Some s} live sound.fits
          (λ d e. subst (RwFits m.kind) (some_is s d e) (begun_fits m.kind m.mode g o kind));
    }
  where
    some_is : (a b : Frame) → Some a ≡ Some b → a ≡ b
    some_is a b e = grind arith

pub end_keeps : EndKeeps
end_keeps m hs w f g sound live none none' calm fit =
    record {
      spins = spin_end_keeps m (spin_part m.kind hs) w f g sound.spins live none none' calm;
      rws = λ i k.
          turn_rws m {f = f} g i live (absent_away i f none) (absent_away i g none')
          (turns_away (m.held w (rw_name i))) (sound.rws i k);
      fits = put_fits m {f = f} {g = g} live sound.fits fit;
    }
