-- Where the rows of readers and writers lead, in which no register lives.
use Rattle.std.proofs.Common.{ℕ, [], refl, ◌==◌}
use Rattle.lk_idle.proofs.Names.{RwFields, Mode, Pv, Frame, R1, R2, R5, Wr1, Wr2, Wr3, Wr5, Wr6, Y1}
use Rattle.lk_idle.proofs.Names.{Y2, Y4, Y5, rw_row, none_lives}
use Rattle.lk_rows.specs.rows.Rw.{is_open, is_empty, is_cleared, frees_wait}
use Rattle.lk_idle.proofs.{Branches.{Fine, pick, goes}, Leading.LeadsFine}

module _ (p : ℕ) (f : Frame) (mode : Mode) (x : RwFields) where
  frees : (mode : Mode) → LeadsFine p none_lives f (frees_wait mode)
  frees Pv = refl
  frees mode = refl

  pub R1-fine : Fine p none_lives f (rw_row mode R1 f x)
  R1-fine = pick (is_open x) _ _ (record { leads = tt }) (record {
    leads = goes p none_lives f (f.ctx == 0) _ _ [] refl refl;
  })

  pub R2-fine : Fine p none_lives f (rw_row mode R2 f x)
  R2-fine = pick x.writer _ _ (record { leads = refl }) (record { leads = tt })

  pub R5-fine : Fine p none_lives f (rw_row mode R5 f x)
  R5-fine = pick x.writer _ _ (record { leads = refl }) (record { leads = frees mode })

  pub Wr1-fine : Fine p none_lives f (rw_row mode Wr1 f x)
  Wr1-fine = pick (is_empty x) _ _ (record { leads = tt }) (record { leads = refl })

  pub Wr2-fine : Fine p none_lives f (rw_row mode Wr2 f x)
  Wr2-fine = record { leads = goes p none_lives f (is_empty x) _ _ [] refl refl }

  pub Wr3-fine : Fine p none_lives f (rw_row mode Wr3 f x)
  Wr3-fine = pick (is_empty x) _ _ (record { leads = frees mode }) (record { leads = refl })

  pub Wr5-fine : Fine p none_lives f (rw_row mode Wr5 f x)
  Wr5-fine = record { leads = goes p none_lives f (is_cleared x) _ _ [] refl refl }

  pub Wr6-fine : Fine p none_lives f (rw_row mode Wr6 f x)
  Wr6-fine = pick (is_cleared x) _ _ (record { leads = frees mode }) (record { leads = refl })

  pub Y1-fine : Fine p none_lives f (rw_row mode Y1 f x)
  Y1-fine = pick (is_open x) _ _ (record { leads = refl }) (record { leads = tt })

  pub Y2-fine : Fine p none_lives f (rw_row mode Y2 f x)
  Y2-fine = pick (is_open x) _ _ (record { leads = tt }) (record { leads = refl })

  pub Y4-fine : Fine p none_lives f (rw_row mode Y4 f x)
  Y4-fine = pick (is_empty x) _ _ (record { leads = refl }) (record { leads = tt })

  pub Y5-fine : Fine p none_lives f (rw_row mode Y5 f x)
  Y5-fine = pick (is_empty x) _ _ (record { leads = tt }) (record { leads = tt })
