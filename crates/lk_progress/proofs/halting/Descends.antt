-- Where processors halt, each row leaves its frame as it was, or leaves it fewer rows, or leads it on in its turn, or is
-- that of a head which goes around: the theorem.
use Rattle.std.proofs.Common.{◌≡◌, inl, inr, Option, Some, sym, ap, ◌∙◌, arith}
use Rattle.lk_progress.proofs.Names.{Pc, not-true, chooses, stays_awake, halting_left}
use Rattle.lk_progress.proofs.Names.{halting_left_at, halting_turn_at, halting_turn_if}
use Rattle.lk_progress.proofs.Names.{halting_turn_of}
use Rattle.lk_law.proofs.pv.Laws.{halts_flat}
use Rattle.lk_law.specs.Registers.{ChoiceFits, counts_turns, needs_hash}
use Rattle.lk_progress.proofs.halting.Turns.{pv}
use Rattle.lk_progress.specs.HaltingMeasure.{HaltingRowDescends}

pub halting_row_descends : (c : Pc) → HaltingRowDescends c
halting_row_descends c m hs w f ok on live at inner up =
    elim (pv m hs ok on w f live inner up c at
    (not-true (stays_awake c) (λ e. let z = fits.waking c at e in cc (z, on)))
    (not-true (chooses c) (λ e. let z = fits.choice c at e in let q = halts_flat m.mode on in cc (z, q)))
    (λ e. fits.turns c at (ap counts_turns e))
    (λ e. fits.turns c at (ap counts_turns e))
    (λ e. fits.hashed c at (ap needs_hash e))) [
      | inl z ↦ inl z
      | inr r ↦ elim r [
        | inl lt ↦ inr (inl (let n = left_now in omega (arith, lt, n)))
        | inr r ↦ elim r [
          | inl z ↦ inr (inr (inl (record {
            keeps = z.0;
            away = z.1;
            left = z.2 ∙ sym left_now;
            nearer = let lt = z.3 in let n = turn_now in omega (arith, lt, n);
          })))
          | inr z ↦ inr (inr (inr (record {
            robbed = z.0;
            keeps = z.1.keeps;
            halted = z.1.halted;
            pending = z.1.pending;
            links = z.1.links;
            away = z.2;
            left = z.3 ∙ sym left_now;
            same = z.4 ∙ sym turn_now;
          })))
        ]
      ]
    ]
  where
    fits : ChoiceFits m.mode f
    fits = (ok.registers w f live).choice

    left_now : halting_left f ≡ halting_left_at (Some c) f
    left_now = ap (λ (o : Option Pc). halting_left_at o f) at

    turn_now : halting_turn_of m w (Some f) ≡ halting_turn_at m w f c
    turn_now = ap (λ (o : Option Pc). halting_turn_if m w f o) at
