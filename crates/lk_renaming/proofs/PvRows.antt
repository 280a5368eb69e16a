-- The rows of the paravirtual lock, renamed.
use Rattle.std.proofs.Common.{◌≡◌, ℕ, ◌-◌, Option, Some, None, Bool, true, [], ◌∷◌, refl, ◌==◌}
use Rattle.std.proofs.Common.{◌&&◌, not, if◌then◌else◌}
use Rattle.lk_renaming.proofs.Names.{Fields, NodeName, Effect, Freed, Goes, Passes, Says, Tailed}
use Rattle.lk_renaming.proofs.Names.{Yields, looks, Flag, Frame, Pc, E1, E6, E13, E14, E15, K1, U4}
use Rattle.lk_renaming.proofs.Names.{U5, W1, W2, W4, W6, W7, State, is_held, is_last, halt_row}
use Rattle.lk_renaming.proofs.Names.{hash_row, kick_row, pv_flag_row, pv_next_row, pv_row}
use Rattle.lk_renaming.proofs.Names.{state_row, is_unlocked, AreNames, names_at, renamed_flag}
use Rattle.lk_renaming.proofs.Names.{renamed_frame, renamed_link, renamed_word, IsRenaming}
use Rattle.lk_renaming.proofs.Names.{Renaming}
use Rattle.lk_word.specs.declared.spin_word.Locked.TheVariants.{Free}
use Rattle.lk_rows.specs.Row.{PvKickUnlock, learns}
use Rattle.lk_rows.specs.declared.parts.Pc.TheVariants.{H1, H2, E4, E7, U2}
use Rattle.lk_rows.specs.rows.Pv.{after_given_up, after_glance, is_set, is_running, is_halted}
use Rattle.lk_renaming.proofs.ChoiceRows.{last-renamed}
use Rattle.lk_renaming.proofs.Effects.{renamed_effect, choose, some-renamed, named}
use Rattle.lk_names.specs.declared.events.What.TheVariants as what
use Rattle.lk_rows.specs.declared.parts.Flag.TheVariants as flag

module _ (r : Renaming) (f : Frame) where
  -- the rows on the word

  given_up-renamed : (o : Option NodeName) → after_given_up (renamed_link r o) ≡ after_given_up o
  given_up-renamed None = refl
  given_up-renamed (Some n) = refl

  module _ (n : ℕ) (is : IsRenaming n r) (spins : ℕ) (x : Fields) where
    abbrev result : Effect Fields → Effect Fields
    result o = renamed_effect r (λ w. renamed_word r w) o

    glance-renamed : after_glance (renamed_link r f.me) (renamed_word r x) ≡ after_glance f.me x
    glance-renamed = (λ i. if is_unlocked x.locked && not x.pending then H2
        else (if some-renamed r x.tail i && not x.pending then H1 else given_up-renamed f.me i))

    pub pv_row-renamed : (c : Pc) → AreNames (names_at c f)
        → pv_row spins c (renamed_frame r f) (renamed_word r x) ≡ result (pv_row spins c f x)
    pv_row-renamed H1 names = (λ i. learns (glance-renamed i) (Tailed (some-renamed r x.tail i)))
    pv_row-renamed H2 names =
        choose result (is_unlocked x.locked) (is_unlocked x.locked) _ _ _ _ refl refl
        (λ i. looks (if f.tailed then H1 else given_up-renamed f.me i))
    pv_row-renamed E4 names =
        choose result (is_unlocked x.locked && x.pending) (is_unlocked x.locked && x.pending) _ _ _ _ refl refl
        (choose result (f.left - 1 == 0) (f.left - 1 == 0) _ _ _ _ refl refl refl)
    pv_row-renamed E7 names =
        choose result (is_unlocked x.locked) (is_unlocked x.locked) _ _ _ _ refl refl refl
    pv_row-renamed E13 names =
        choose result (is_last (renamed_frame r f) (renamed_word r x)) (is_last f x) _ _ _ _
        (last-renamed r f n is x names.0) refl refl
    pv_row-renamed U2 names = choose result (is_held x.locked) (is_held x.locked) _ _ _ _ refl refl refl
    pv_row-renamed U4 names = (λ i. record {
      stores = Some (record (renamed_word r x) { locked = Free });
      leads = Yields U5 [];
      tells = Says (what.Release f.lock (Some (named r f.target names.0 i).cpu));
      counts = [];
    })
    pv_row-renamed c names = refl

  -- the rows on a flag and on a link

  set-renamed : (x : Flag) → is_set (renamed_flag r x) ≡ is_set x
  set-renamed flag.Unset = refl
  set-renamed flag.Go = refl
  set-renamed (flag.Second n) = refl

  pub pv_flag_row-renamed : (c : Pc) (x : Flag) → AreNames (names_at c f)
      → pv_flag_row c (renamed_frame r f) (renamed_flag r x)
      ≡ renamed_effect r (λ y. renamed_flag r y) (pv_flag_row c f x)
  pv_flag_row-renamed W1 x names = (λ i. looks (if set-renamed x i then E1 else W2))
  pv_flag_row-renamed W4 x names =
      choose (λ (o : Effect Flag). renamed_effect r (λ y. renamed_flag r y) o) (is_set (renamed_flag r x)) (is_set x)
      _ _ _ _ (set-renamed x) refl refl
  pv_flag_row-renamed E15 x names = (λ i. record {
    stores = Some flag.Go;
    leads = Goes K1 [];
    tells = Passes (named r f.y names.0 i) 0;
    counts = [];
  })
  pv_flag_row-renamed c x names = refl

  pub pv_next_row-renamed : (c : Pc) (x : Option NodeName)
      → pv_next_row c (renamed_frame r f) (renamed_link r x)
      ≡ renamed_effect r (λ y. renamed_link r y) (pv_next_row c f x)
  pv_next_row-renamed E14 None = refl
  pv_next_row-renamed E14 (Some n) = refl
  pv_next_row-renamed c x = refl

  -- the rows on a state

  abbrev plain : Effect State → Effect State
  plain o = renamed_effect r (λ y. y) o

  pub state_row-renamed : (spins : ℕ) (c : Pc) (x : State)
      → state_row spins c (renamed_frame r f) x ≡ plain (state_row spins c f x)
  state_row-renamed spins W2 x =
      choose plain (is_running x) (is_running x) _ _ _ _ refl
      (choose plain (f.left - 1 == 0) (f.left - 1 == 0) _ _ _ _ refl refl refl) refl
  state_row-renamed spins W7 x = choose plain (is_halted x) (is_halted x) _ _ _ _ refl refl refl
  state_row-renamed spins K1 x = choose plain (is_halted x) (is_halted x) _ _ _ _ refl refl refl
  state_row-renamed spins c x = refl

  -- the rows on the hash, on the own halt, and on a kick

  pub hash_row-renamed : (c : Pc) (x : Option NodeName)
      → hash_row c (renamed_frame r f) (renamed_link r x) ≡ renamed_effect r (λ y. renamed_link r y) (hash_row c f x)
  hash_row-renamed E6 x = refl
  hash_row-renamed c x = refl

  pub halt_row-renamed : (c : Pc) (x : Bool)
      → halt_row c (renamed_frame r f) x ≡ renamed_effect r (λ y. y) (halt_row c f x)
  halt_row-renamed W6 x = refl
  halt_row-renamed c x = refl

  pub kick_row-renamed : (c : Pc) (x : Bool) → AreNames (names_at c f)
      → kick_row c (renamed_frame r f) x ≡ renamed_effect r (λ y. y) (kick_row c f x)
  kick_row-renamed U5 x names = (λ i. record {
    stores = Some true;
    leads = Freed;
    tells = Says (what.Kick (named r f.target names.0 i).cpu);
    counts = PvKickUnlock ∷ [];
  })
  kick_row-renamed c x names = refl
