-- The rows on the word of a spinlock that need no queue, renamed.
use Rattle.std.proofs.Common.{◌≡◌, refl, true, ◌&&◌, not, if◌then◌else◌}
use Rattle.lk_renaming.proofs.Names.{Fields, Mode, Pv, Virt, Effect, looks, Frame, Pc, is_free}
use Rattle.lk_renaming.proofs.Names.{is_unlocked, spin_row, renamed_frame, renamed_word, Renaming}
use Rattle.lk_rows.specs.Row.{writes}
use Rattle.lk_rows.specs.declared.parts.Pc.TheVariants.{F1, T1, T2, V1, V2, P0, P1, P2, P3, P4, G1}
use Rattle.lk_rows.specs.rows.Spin.{to_queue, after_fast}
use Rattle.lk_renaming.proofs.Effects.{renamed_effect, choose, some-renamed}

-- the word is as free as before
pub free-renamed : (r : Renaming) (x : Fields) → is_free (renamed_word r x) ≡ is_free x
free-renamed r x = (λ i. is_unlocked x.locked && not x.pending && not (some-renamed r x.tail i))

module _ (r : Renaming) (f : Frame) (x : Fields) where
  abbrev result : Effect Fields → Effect Fields
  result o = renamed_effect r (λ w. renamed_word r w) o

  queue-renamed : to_queue (renamed_word r x) ≡ to_queue x
  queue-renamed = (λ i. if x.pending then G1 else (if some-renamed r x.tail i then G1 else P1))

  fast-renamed : (mode : Mode) → after_fast mode (renamed_word r x) ≡ after_fast mode x
  fast-renamed Virt = refl
  fast-renamed Pv = refl
  fast-renamed mode = (λ i. if is_unlocked x.locked && x.pending && not (some-renamed r x.tail i) then P0
      else queue-renamed i)

  pub spin_row-renamed : (mode : Mode) (c : Pc)
      → spin_row mode c (renamed_frame r f) (renamed_word r x) ≡ result (spin_row mode c f x)
  spin_row-renamed mode F1 =
      choose result (is_free (renamed_word r x)) (is_free x) _ _ _ _ (free-renamed r x) refl
      (λ i. looks (fast-renamed mode i))
  spin_row-renamed mode T1 =
      choose result (is_free (renamed_word r x)) (is_free x) _ _ _ _ (free-renamed r x) refl refl
  spin_row-renamed mode T2 =
      choose result (is_free (renamed_word r x)) (is_free x) _ _ _ _ (free-renamed r x) refl refl
  spin_row-renamed mode V1 = (λ i. looks (if free-renamed r x i then V2 else V1))
  spin_row-renamed mode V2 =
      choose result (is_free (renamed_word r x)) (is_free x) _ _ _ _ (free-renamed r x) refl refl
  spin_row-renamed mode P0 = (λ i. looks (queue-renamed i))
  spin_row-renamed mode P1 =
      (λ i. writes (record (renamed_word r x) { pending = true }) (if x.pending then G1
      else (if some-renamed r x.tail i then P2 else (if is_unlocked x.locked then P4 else P3))))
  spin_row-renamed mode c = refl
