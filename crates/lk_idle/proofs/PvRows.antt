-- Where the rows of the paravirtual lock lead.
use Rattle.std.proofs.Common.{ℕ, ◌-◌, true, Option, Some, None, List, [], ◌∷◌, refl, ◌&&◌, ◌==◌}
use Rattle.std.proofs.Common.{not, is_some}
use Rattle.lk_idle.proofs.Names.{Fields, NodeName, Change, Goes, Flag, Frame, E4, E5, E7, E11, E13}
use Rattle.lk_idle.proofs.Names.{E14, H1, H2, K1, U2, W1, W2, W4, W5, W7, State, pv_flag_row}
use Rattle.lk_idle.proofs.Names.{pv_next_row, pv_row, state_row, is_unlocked, none_lives}
use Rattle.lk_idle.proofs.Names.{second_lives, Lives}
use Rattle.lk_rows.specs.{Row.Tailed, rows.Cna.{is_held, is_last}}
use Rattle.lk_rows.specs.rows.Pv.{after_given_up, is_set, is_running, is_halted, is_slow_byte}
use Rattle.lk_idle.proofs.{Branches.{Fine, pick, goes}, Leading.LeadsFine}
use Rattle.lk_idle.specs.Lives.{prev_lives, y_lives, hashed_lives}

-- those that live where a waiter may steal, while it spins, and while a head spins
abbrev pub stealing_lives : Lives
stealing_lives = record second_lives { tailed = true }

abbrev pub spinning_lives : Lives
spinning_lives = record prev_lives { left = true }

abbrev pub trying_lives : Lives
trying_lives = record hashed_lives { left = true }

module _ (p : ℕ) (f : Frame) where
  gives_up : (l : Lives) (cs : List Change) → LeadsFine p l f (Goes H1 cs)
      → ((n : NodeName) → LeadsFine p l f (Goes (after_given_up (Some n)) cs)) → (me : Option NodeName)
      → LeadsFine p l f (Goes (after_given_up me) cs)
  gives_up l cs look join None = look
  gives_up l cs look join (Some n) = join n

  pub W1-fine : (x : Flag) → Fine p spinning_lives f (pv_flag_row W1 f x)
  W1-fine x = record { leads = goes p spinning_lives f (is_set x) _ _ [] refl refl }

  pub W4-fine : (x : Flag) → Fine p prev_lives f (pv_flag_row W4 f x)
  W4-fine x = pick (is_set x) _ _ (record { leads = refl }) (record { leads = refl })

  pub W2-fine : (spins : ℕ) (x : State) → Fine p spinning_lives f (state_row spins W2 f x)
  W2-fine spins x =
      pick (is_running x) _ _ (pick (f.left - 1 == 0) _ _ (record { leads = refl }) (record { leads = refl }))
      (record { leads = refl })

  pub W5-fine : (spins : ℕ) (x : State) → Fine p prev_lives f (state_row spins W5 f x)
  W5-fine spins x = record { leads = goes p prev_lives f (is_halted x) _ _ [] refl refl }

  pub W7-fine : (spins : ℕ) (x : State) → Fine p prev_lives f (state_row spins W7 f x)
  W7-fine spins x = pick (is_halted x) _ _ (record { leads = refl }) (record { leads = refl })

  pub K1-fine : (spins : ℕ) (x : State) → Fine p y_lives f (state_row spins K1 f x)
  K1-fine spins x = pick (is_halted x) _ _ (record { leads = refl }) (record { leads = tt })

  pub E14-fine : (x : Option NodeName) → Fine p none_lives f (pv_next_row E14 f x)
  E14-fine None = record { leads = refl }
  E14-fine (Some n) = record { leads = refl }

  module _ (spins : ℕ) (x : Fields) where
    pub H1-fine : Fine p second_lives f (pv_row spins H1 f x)
    H1-fine =
        let cs : List Change = Tailed (is_some x.tail) ∷ [] in
        record {
          leads = goes p second_lives f (is_unlocked x.locked && not x.pending) _ _ cs refl
              (goes p second_lives f (is_some x.tail && not x.pending) _ _ cs refl
              (gives_up second_lives cs refl (λ n. refl) f.me));
        }

    pub H2-fine : Fine p stealing_lives f (pv_row spins H2 f x)
    H2-fine = pick (is_unlocked x.locked) _ _ (record { leads = tt }) (record {
      leads = goes p stealing_lives f f.tailed _ _ [] refl (gives_up stealing_lives [] refl (λ n. refl) f.me);
    })

    pub E4-fine : Fine p trying_lives f (pv_row spins E4 f x)
    E4-fine =
        pick (is_unlocked x.locked && x.pending) _ _ (record { leads = refl })
        (pick (f.left - 1 == 0) _ _ (record { leads = refl }) (record { leads = refl }))

    pub E5-fine : Fine p hashed_lives f (pv_row spins E5 f x)
    E5-fine = record { leads = goes p hashed_lives f f.hashed _ _ [] refl refl }

    pub E7-fine : Fine p none_lives f (pv_row spins E7 f x)
    E7-fine = pick (is_unlocked x.locked) _ _ (record { leads = refl }) (record { leads = refl })

    pub E11-fine : Fine p hashed_lives f (pv_row spins E11 f x)
    E11-fine = record { leads = goes p hashed_lives f (is_slow_byte x.locked) _ _ [] refl refl }

    pub E13-fine : Fine p none_lives f (pv_row spins E13 f x)
    E13-fine = pick (is_last f x) _ _ (record { leads = tt }) (record { leads = refl })

    pub U2-fine : Fine p none_lives f (pv_row spins U2 f x)
    U2-fine = pick (is_held x.locked) _ _ (record { leads = tt }) (record { leads = refl })
