-- The rows in which a head chooses to whom it hands off, renamed.
use Rattle.std.proofs.Common.{◌≡◌, ℕ, ◌+◌, Option, Some, None, true, [], refl, ◌&&◌, not, is_some}
use Rattle.std.proofs.Common.{nat_lt, if◌then◌else◌}
use Rattle.lk_renaming.proofs.Names.{Fields, NodeName, Effect, Goes, Leaves, Nothing, Passes, Flag}
use Rattle.lk_renaming.proofs.Names.{Frame, Pc, C1, C2, C3, C7, C8, C10, handover_row, is_held}
use Rattle.lk_renaming.proofs.Names.{is_last, promotion_row, runs_row, search_row, second_row}
use Rattle.lk_renaming.proofs.Names.{AreNames, names_at, renamed_flag, renamed_frame, renamed_link}
use Rattle.lk_renaming.proofs.Names.{renamed_name, renamed_word, IsRenaming, Renaming}
use Rattle.lk_rows.specs.rows.Cna.{Sight, may_stay, flag_for}
use Rattle.lk_renaming.proofs.Effects.{renamed_effect, choose, some-renamed, named}
use Rattle.lk_renaming.proofs.QueueRows.{tail-renamed}

-- a head sees the same besides, and the same nodes are local to it
pub record SeesSame (r : Renaming) (s z : Sight) : Type 0 where
  pub runs : s.runs ≡ z.runs
  pub threshold : s.threshold ≡ z.threshold
  pub local : (n : NodeName) → s.local (renamed_name r n) ≡ z.local n

module _ (r : Renaming) (f : Frame) where
  abbrev link : Effect (Option NodeName) → Effect (Option NodeName)
  link o = renamed_effect r (λ y. renamed_link r y) o

  module _ (s z : Sight) (same : SeesSame r s z) where
    stay-renamed : may_stay s ≡ may_stay z
    stay-renamed = (λ i. nat_lt (same.runs i) (same.threshold i))

    pub search_row-renamed : (c : Pc) (x : Option NodeName)
        → search_row s c (renamed_frame r f) (renamed_link r x) ≡ link (search_row z c f x)
    search_row-renamed C1 None = by f.second
      where
        by : (o : Option NodeName) → search_row s C1 (record (renamed_frame r f) { second = renamed_link r o }) None
            ≡ link (search_row z C1 (record f { second = o }) None)
        by None = refl
        by (Some m) = refl
    search_row-renamed C1 (Some n) =
        choose link (may_stay s) (may_stay z) _ _ _ _ stay-renamed
        (choose link (s.local (renamed_name r n)) (z.local n) _ _ _ _ (same.local n) refl refl)
        (choose link (is_some (renamed_link r f.second)) (is_some f.second) _ _ _ _ (some-renamed r f.second) refl refl)
    search_row-renamed C2 None =
        choose link (is_some (renamed_link r f.second)) (is_some f.second) _ _ _ _ (some-renamed r f.second) refl refl
    search_row-renamed C2 (Some n) =
        choose link (s.local (renamed_name r n)) (z.local n) _ _ _ _ (same.local n)
        (choose link (is_some (renamed_link r f.second)) (is_some f.second) _ _ _ _ (some-renamed r f.second) refl refl)
        refl
    search_row-renamed c x = refl

    pub runs_row-renamed : (c : Pc) (x : ℕ)
        → runs_row s c (renamed_frame r f) x ≡ renamed_effect r (λ k. k) (runs_row z c f x)
    runs_row-renamed C7 x = (λ i. record {
      stores = Some (if some-renamed r f.second i then same.runs i + 1 else 0);
      leads = Goes C8 [];
      tells = Nothing;
      counts = [];
    })
    runs_row-renamed c x = refl

  pub second_row-renamed : (c : Pc) (x : Option NodeName)
      → second_row c (renamed_frame r f) (renamed_link r x) ≡ link (second_row c f x)
  second_row-renamed C3 x = refl
  second_row-renamed c x = refl

  flag_for-renamed : (o : Option NodeName) → flag_for (renamed_link r o) ≡ renamed_flag r (flag_for o)
  flag_for-renamed None = refl
  flag_for-renamed (Some n) = refl

  pub handover_row-renamed : (c : Pc) (x : Flag) → AreNames (names_at c f)
      → handover_row c (renamed_frame r f) (renamed_flag r x)
      ≡ renamed_effect r (λ y. renamed_flag r y) (handover_row c f x)
  handover_row-renamed C8 x names = (λ i. record {
    stores = Some (flag_for-renamed f.second i);
    leads = Leaves;
    tells = Passes (named r f.y names.0 i) f.k;
    counts = [];
  })
  handover_row-renamed c x names = refl

  module _ (n : ℕ) (is : IsRenaming n r) (x : Fields) where
    -- the tail is the own node, and the lock is held
    pub last-renamed : is_some f.me ≡ true → is_last (renamed_frame r f) (renamed_word r x) ≡ is_last f x
    last-renamed some = (λ i. is_held x.locked && not x.pending && tail-renamed r f n is x some i)

    pub promotion_row-renamed : (c : Pc) → AreNames (names_at c f)
        → promotion_row c (renamed_frame r f) (renamed_word r x)
        ≡ renamed_effect r (λ w. renamed_word r w) (promotion_row c f x)
    promotion_row-renamed C10 names =
        choose (λ (o : Effect Fields). renamed_effect r (λ w. renamed_word r w) o)
        (is_last (renamed_frame r f) (renamed_word r x)) (is_last f x) _ _ _ _ (last-renamed names.0) refl refl
    promotion_row-renamed c names = refl
