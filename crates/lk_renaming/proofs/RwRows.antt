-- The rows of readers and writers, renamed: they name nobody.
use Rattle.std.proofs.Common.{◌≡◌, refl}
use Rattle.lk_renaming.proofs.Names.{RwFields, Mode, Effect, Frame, Pc, rw_row, renamed_frame}
use Rattle.lk_renaming.proofs.Names.{Renaming}
use Rattle.lk_rows.specs.declared.parts.Pc.TheVariants.{R1, R2, R5, Wr1, Wr3, Wr6, Y1, Y2, Y4, Y5}
use Rattle.lk_rows.specs.rows.Rw.{is_empty, is_open, is_cleared}
use Rattle.lk_renaming.proofs.Effects.{renamed_effect, choose}

module _ (r : Renaming) (f : Frame) (x : RwFields) where
  abbrev plain : Effect RwFields → Effect RwFields
  plain o = renamed_effect r (λ y. y) o

  pub rw_row-renamed : (mode : Mode) (c : Pc)
      → rw_row mode c (renamed_frame r f) x ≡ plain (rw_row mode c f x)
  rw_row-renamed mode R1 = choose plain (is_open x) (is_open x) _ _ _ _ refl refl refl
  rw_row-renamed mode R2 = choose plain x.writer x.writer _ _ _ _ refl refl refl
  rw_row-renamed mode R5 = choose plain x.writer x.writer _ _ _ _ refl refl refl
  rw_row-renamed mode Wr1 = choose plain (is_empty x) (is_empty x) _ _ _ _ refl refl refl
  rw_row-renamed mode Wr3 = choose plain (is_empty x) (is_empty x) _ _ _ _ refl refl refl
  rw_row-renamed mode Wr6 = choose plain (is_cleared x) (is_cleared x) _ _ _ _ refl refl refl
  rw_row-renamed mode Y1 = choose plain (is_open x) (is_open x) _ _ _ _ refl refl refl
  rw_row-renamed mode Y2 = choose plain (is_open x) (is_open x) _ _ _ _ refl refl refl
  rw_row-renamed mode Y4 = choose plain (is_empty x) (is_empty x) _ _ _ _ refl refl refl
  rw_row-renamed mode Y5 = choose plain (is_empty x) (is_empty x) _ _ _ _ refl refl refl
  rw_row-renamed mode c = refl
