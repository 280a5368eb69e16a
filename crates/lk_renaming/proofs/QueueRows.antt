-- The rows of the queue, renamed.
use Rattle.std.proofs.Common.{◌≡◌, ℕ, ◌+◌, Option, Some, None, true, [], refl, ap, ◌∙◌, ◌&&◌, not}
use Rattle.std.proofs.Common.{is_some, nat_lt, if◌then◌else◌}
use Rattle.lk_renaming.proofs.Names.{Fields, NodeName, Mode, Pv, is_node, node_of, Effect, Enters}
use Rattle.lk_renaming.proofs.Names.{Leaves, Nothing, Passes, Says, looks, Flag, Frame, Pc, G5, G6}
use Rattle.lk_renaming.proofs.Names.{G7, G8, G10, G11, entry_row, flag_row, next_row, queue_row}
use Rattle.lk_renaming.proofs.Names.{is_free, is_unlocked, AreNames, names_at, renamed_flag}
use Rattle.lk_renaming.proofs.Names.{renamed_frame, renamed_link, renamed_word, IsRenaming}
use Rattle.lk_renaming.proofs.Names.{Renaming}
use Rattle.lk_names.specs.declared.events.What.TheVariants.{Arrive}
use Rattle.lk_rows.specs.declared.parts.Pc.TheVariants.{G2, G3, G4, G9, N1, N2}
use Rattle.lk_rows.specs.rows.Queue.{own_node, after_entry, entry_counts, after_arrival, is_sole}
use Rattle.lk_rows.specs.rows.Queue.{after_link}
use Rattle.lk_renaming.proofs.Effects.{renamed_effect, renamed_lead, choose, some-renamed, named}
use Rattle.lk_renaming.proofs.{Effects.is_node-renamed, SpinRows.free-renamed}
use Rattle.lk_rows.specs.declared.parts.Flag.TheVariants as flag

module _ (r : Renaming) (f : Frame) where
  -- the row on the number of frames in the slow path

  own-renamed : (p i : ℕ) → own_node (r.to p) i ≡ renamed_link r (own_node p i)
  own-renamed p i = choose (λ o. renamed_link r o) (nat_lt i 4) (nat_lt i 4) _ _ _ _ refl refl refl

  after_entry-renamed : (mode : Mode) (o : Option NodeName) → after_entry mode (renamed_link r o) ≡ after_entry mode o
  after_entry-renamed Pv o = refl
  after_entry-renamed mode None = refl
  after_entry-renamed mode (Some n) = refl

  pub entry_row-renamed : (mode : Mode) (p i : ℕ)
      → entry_row mode (r.to p) i ≡ renamed_effect r (λ k. k) (entry_row mode p i)
  entry_row-renamed mode p i =
      ap (λ (o : Option NodeName). record {
        stores = Some (i + 1);
        leads = Enters o (after_entry mode o);
        tells = Nothing;
        counts = entry_counts mode i;
      }) (own-renamed p i)
      ∙ (λ j. record {
        stores = Some (i + 1);
        leads = Enters (renamed_link r (own_node p i)) (after_entry-renamed mode (own_node p i) j);
        tells = Nothing;
        counts = entry_counts mode i;
      })

  -- the rows on a flag

  pub flag_row-renamed : (c : Pc) (x : Flag) → AreNames (names_at c f)
      → flag_row c (renamed_frame r f) (renamed_flag r x) ≡ renamed_effect r (λ y. renamed_flag r y) (flag_row c f x)
  flag_row-renamed G6 flag.Unset names = refl
  flag_row-renamed G6 flag.Go names = refl
  flag_row-renamed G6 (flag.Second n) names = refl
  flag_row-renamed G11 x names = (λ i. record {
    stores = Some flag.Go;
    leads = Leaves;
    tells = Passes (named r f.y names.0 i) 0;
    counts = [];
  })
  flag_row-renamed c x names = refl

  -- the rows on a link

  link-renamed : (mode : Mode) (spins : ℕ) → after_link mode spins ≡ renamed_lead r (after_link mode spins)
  link-renamed Pv spins = refl
  link-renamed mode spins = refl

  pub next_row-renamed : (mode : Mode) (spins : ℕ) (c : Pc) (x : Option NodeName)
      → next_row mode spins c (renamed_frame r f) (renamed_link r x)
      ≡ renamed_effect r (λ y. renamed_link r y) (next_row mode spins c f x)
  next_row-renamed mode spins G5 x = (λ i. record {
    stores = Some (renamed_link r f.me);
    leads = link-renamed mode spins i;
    tells = Nothing;
    counts = [];
  })
  next_row-renamed mode spins G10 None = refl
  next_row-renamed mode spins G10 (Some n) = refl
  next_row-renamed mode spins c x = refl

  -- the rows on the word

  module _ (n : ℕ) (is : IsRenaming n r) (x : Fields) where
    -- the tail is the own node
    pub tail-renamed : is_some f.me ≡ true
        → is_node (renamed_link r x.tail) (node_of (renamed_link r f.me)) ≡ is_node x.tail (node_of f.me)
    tail-renamed some =
        ap (λ k. is_node (renamed_link r x.tail) k) (named r f.me some)
        ∙ is_node-renamed r n is x.tail (node_of f.me)

    abbrev result : Effect Fields → Effect Fields
    result o = renamed_effect r (λ w. renamed_word r w) o

    arrival-renamed : (mode : Mode) (o : Option NodeName)
        → after_arrival mode (renamed_link r o) ≡ result (after_arrival mode o)
    arrival-renamed Pv None = refl
    arrival-renamed mode None = refl
    arrival-renamed mode (Some k) = refl

    pub queue_row-renamed : (mode : Mode) (c : Pc) → AreNames (names_at c f)
        → queue_row mode c (renamed_frame r f) (renamed_word r x) ≡ result (queue_row mode c f x)
    queue_row-renamed mode G2 names = (λ i. looks (if free-renamed r x i then G3 else G4))
    queue_row-renamed mode G3 names =
        choose result (is_free (renamed_word r x)) (is_free x) _ _ _ _ (free-renamed r x) refl refl
    queue_row-renamed mode G4 names = (λ i. record (arrival-renamed mode x.tail i) {
      stores = Some (record x { tail = renamed_link r f.me });
      tells = Says (Arrive f.lock);
    })
    queue_row-renamed mode G7 names = (λ i. looks (if is_unlocked x.locked && not x.pending
        then (if tail-renamed names.0 i && not (some-renamed r f.second i) then G8 else G9) else G7))
    queue_row-renamed mode G8 names =
        choose result (is_sole (renamed_frame r f) (renamed_word r x)) (is_sole f x) _ _ _ _
        (λ i. is_unlocked x.locked && not x.pending && tail-renamed names.0 i) refl refl
    queue_row-renamed mode N1 names = (λ i. looks (if free-renamed r x i then N2 else N1))
    queue_row-renamed mode N2 names =
        choose result (is_free (renamed_word r x)) (is_free x) _ _ _ _ (free-renamed r x) refl refl
    queue_row-renamed mode c names = refl
