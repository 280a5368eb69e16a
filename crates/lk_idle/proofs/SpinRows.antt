-- Where the rows on the word of a spinlock lead, in which no register lives.
use Rattle.std.proofs.Common.{ℕ, [], refl, ◌&&◌, not, is_some}
use Rattle.lk_idle.proofs.Names.{Fields, Mode, Pv, Goes, Frame, F1, P0, P1, P3, T1, T2, V1, V2}
use Rattle.lk_idle.proofs.Names.{is_unlocked, spin_row, none_lives}
use Rattle.lk_names.specs.declared.names.Mode.TheVariants.{Virt}
use Rattle.lk_rows.specs.rows.Spin.{is_free, to_queue, after_fast}
use Rattle.lk_idle.proofs.{Branches.{Fine, pick, goes}, Leading.LeadsFine}

module _ (p : ℕ) (f : Frame) (mode : Mode) (x : Fields) where
  queue : LeadsFine p none_lives f (Goes (to_queue x) [])
  queue = goes p none_lives f x.pending _ _ [] refl (goes p none_lives f (is_some x.tail) _ _ [] refl refl)

  fast : (mode : Mode) → LeadsFine p none_lives f (Goes (after_fast mode x) [])
  fast Virt = refl
  fast Pv = refl
  fast mode =
      goes p none_lives f (is_unlocked x.locked && x.pending && not (is_some x.tail)) _ _ [] refl queue

  pub F1-fine : Fine p none_lives f (spin_row mode F1 f x)
  F1-fine = pick (is_free x) _ _ (record { leads = tt }) (record { leads = fast mode })

  pub T1-fine : Fine p none_lives f (spin_row mode T1 f x)
  T1-fine = pick (is_free x) _ _ (record { leads = refl }) (record { leads = tt })

  pub T2-fine : Fine p none_lives f (spin_row mode T2 f x)
  T2-fine = pick (is_free x) _ _ (record { leads = tt }) (record { leads = tt })

  pub V1-fine : Fine p none_lives f (spin_row mode V1 f x)
  V1-fine = record { leads = goes p none_lives f (is_free x) _ _ [] refl refl }

  pub V2-fine : Fine p none_lives f (spin_row mode V2 f x)
  V2-fine = pick (is_free x) _ _ (record { leads = tt }) (record { leads = refl })

  pub P0-fine : Fine p none_lives f (spin_row mode P0 f x)
  P0-fine = record { leads = queue }

  pub P1-fine : Fine p none_lives f (spin_row mode P1 f x)
  P1-fine = record {
    leads = goes p none_lives f x.pending _ _ [] refl
        (goes p none_lives f (is_some x.tail) _ _ [] refl (goes p none_lives f (is_unlocked x.locked) _ _ [] refl refl));
  }

  pub P3-fine : Fine p none_lives f (spin_row mode P3 f x)
  P3-fine = record { leads = goes p none_lives f (is_unlocked x.locked) _ _ [] refl refl }
