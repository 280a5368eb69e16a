-- Each row does on the renamed machine what it does, renamed.
use Rattle.std.proofs.Common.{◌≡◌, ℕ, Option, Some, None, true, ap, refl, sym, ◌∙◌, subst, ◌||◌}
use Rattle.std.proofs.Common.{◌==◌, is_some}
use Rattle.lk_renaming.proofs.Names.{NodeName, Machine, top_frame, node_of, Effect, applied, Frame}
use Rattle.lk_renaming.proofs.Names.{Node, Pc, C1, C2, C3, C4, C5, C6, C7, C8, C9, E1, E2, E10, E14}
use Rattle.lk_renaming.proofs.Names.{E15, G5, G6, G10, G11, K1, U5, W1, W2, W4, W5, W7, Setup}
use Rattle.lk_renaming.proofs.Names.{handover_row, promotion_row, runs_row, search_row, second_row}
use Rattle.lk_renaming.proofs.Names.{halt_row, hash_row, kick_row, pv_flag_row, pv_next_row, pv_row}
use Rattle.lk_renaming.proofs.Names.{state_row, entry_row, flag_row, next_row, queue_row, rw_row}
use Rattle.lk_renaming.proofs.Names.{spin_row, AreNames, HasNames, names_at, renamed}
use Rattle.lk_renaming.proofs.Names.{renamed_answer, renamed_flag, renamed_frame, renamed_link}
use Rattle.lk_renaming.proofs.Names.{renamed_name, renamed_word, IsAmongAlike, Renaming}
use Rattle.lk_names.specs.Lawful.{is_local, stays}
use Rattle.lk_rows.specs.Machine.{word_at, rw_at, node_at, queued_at, entry_at, halted_at}
use Rattle.lk_rows.specs.{Machine.kicked_at, Moves.waiter_of}
use Rattle.lk_rows.specs.TopRow.{Target, SpinWord, QueueWord, Queued, FlagOf, NextOf, ChoiceWord}
use Rattle.lk_rows.specs.TopRow.{ChoiceFlag, ChoiceNext, SecondTailOf, RunsOf, PvWord, PvFlag}
use Rattle.lk_rows.specs.TopRow.{PvNext, StateOf, HashEntry, Halted, KickOf, RwWord, target}
use Rattle.lk_rows.specs.TopRow.{sight_at, row_on, row_at, row, on_word, on_rw, on_flag, on_next}
use Rattle.lk_rows.specs.TopRow.{on_second, on_runs, on_state, on_entry, on_halted, on_kicked}
use Rattle.lk_rows.specs.{TopRow.on_queued, declared.parts.Pc.TheVariants.W3}
use Rattle.lk_renaming.proofs.ChoiceRows.{SeesSame, search_row-renamed, second_row-renamed}
use Rattle.lk_renaming.proofs.ChoiceRows.{runs_row-renamed, handover_row-renamed}
use Rattle.lk_renaming.proofs.{ChoiceRows.promotion_row-renamed, Effects.{renamed_effect, named}}
use Rattle.lk_renaming.proofs.Leading.{applied-renamed}
use Rattle.lk_renaming.proofs.PvRows.{pv_row-renamed, pv_flag_row-renamed, pv_next_row-renamed}
use Rattle.lk_renaming.proofs.PvRows.{state_row-renamed, hash_row-renamed, halt_row-renamed}
use Rattle.lk_renaming.proofs.PvRows.{kick_row-renamed}
use Rattle.lk_renaming.proofs.QueueRows.{queue_row-renamed, entry_row-renamed, flag_row-renamed}
use Rattle.lk_renaming.proofs.{QueueRows.next_row-renamed, RwRows.rw_row-renamed}
use Rattle.lk_renaming.proofs.SpinRows.{spin_row-renamed}
use Rattle.lk_renaming.proofs.Stores.{Stores, word-stores, rw-stores, entry-stores, flag-stores}
use Rattle.lk_renaming.proofs.Stores.{next-stores, second-stores, runs-stores, state-stores}
use Rattle.lk_renaming.proofs.Stores.{halted-stores, kicked-stores, queued-stores}
use Rattle.lk_renaming.proofs.Writes.{Renames, word-renamed, rw-renamed, entry-renamed}
use Rattle.lk_renaming.proofs.Writes.{node-renamed, queued-renamed, halted-renamed, kicked-renamed}
use Rattle.lk_renaming.proofs.Writes.{top-renamed, waiter-renamed}

-- on what a row operates, renamed
renamed_target : Renaming → Target → Target
renamed_target r (FlagOf n) = FlagOf (renamed_name r n)
renamed_target r (NextOf n) = NextOf (renamed_name r n)
renamed_target r (ChoiceFlag n) = ChoiceFlag (renamed_name r n)
renamed_target r (ChoiceNext n) = ChoiceNext (renamed_name r n)
renamed_target r (SecondTailOf n) = SecondTailOf (renamed_name r n)
renamed_target r (RunsOf n) = RunsOf (renamed_name r n)
renamed_target r (PvFlag n) = PvFlag (renamed_name r n)
renamed_target r (PvNext n) = PvNext (renamed_name r n)
renamed_target r (StateOf n) = StateOf (renamed_name r n)
renamed_target r (KickOf p) = KickOf (r.to p)
renamed_target r t = t

target-renamed : (r : Renaming) (f : Frame) (c : Pc) → AreNames (names_at c f)
    → target c (renamed_frame r f) ≡ renamed_target r (target c f)
unfolding renamed_target
target-renamed r f G5 names = ap (λ n. NextOf n) (named r f.prev names.0)
target-renamed r f G6 names = ap (λ n. FlagOf n) (named r f.me names.0)
target-renamed r f G10 names = ap (λ n. NextOf n) (named r f.me names.0)
target-renamed r f G11 names = ap (λ n. FlagOf n) (named r f.y names.0)
target-renamed r f C1 names = ap (λ n. ChoiceNext n) (named r f.me names.0)
target-renamed r f C2 names = ap (λ n. ChoiceNext n) (named r f.b names.1.0)
target-renamed r f C3 names = ap (λ n. SecondTailOf n) (named r f.second names.0)
target-renamed r f C4 names = ap (λ n. ChoiceNext n) (named r f.t names.1.0)
target-renamed r f C5 names = ap (λ n. ChoiceNext n) (named r f.b names.1.0)
target-renamed r f C6 names = ap (λ n. SecondTailOf n) (named r f.second names.0)
target-renamed r f C7 names = ap (λ n. RunsOf n) (named r f.y names.1.0)
target-renamed r f C8 names = ap (λ n. ChoiceFlag n) (named r f.y names.0)
target-renamed r f C9 names = ap (λ n. ChoiceNext n) (named r f.t names.1.0)
target-renamed r f W1 names = ap (λ n. PvFlag n) (named r f.me names.0)
target-renamed r f W2 names = ap (λ n. StateOf n) (named r f.prev names.0)
target-renamed r f W3 names = ap (λ n. StateOf n) (named r f.me names.0)
target-renamed r f W4 names = ap (λ n. PvFlag n) (named r f.me names.0)
target-renamed r f W5 names = ap (λ n. StateOf n) (named r f.me names.0)
target-renamed r f W7 names = ap (λ n. StateOf n) (named r f.me names.0)
target-renamed r f E1 names = ap (λ n. StateOf n) (named r f.me names.0)
target-renamed r f E2 names = ap (λ n. StateOf n) (named r f.me names.0)
target-renamed r f E10 names = ap (λ n. StateOf n) (named r f.me names.0)
target-renamed r f E14 names = ap (λ n. PvNext n) (named r f.me names.0)
target-renamed r f E15 names = ap (λ n. PvFlag n) (named r f.y names.0)
target-renamed r f K1 names = ap (λ n. StateOf n) (named r f.y names.0)
target-renamed r f U5 names = ap (λ (n : NodeName). KickOf n.cpu) (named r f.target names.0)
target-renamed r f c names = refl

-- a row that reads the count in the own node has one
Sees : Target → Frame → Type 0
Sees (ChoiceNext n) f = is_some f.me ≡ true
Sees (RunsOf n) f = is_some f.me ≡ true
Sees t f = Unit {0}

sees : (f : Frame) (c : Pc) → AreNames (names_at c f) → Sees (target c f) f
unfolding Sees
sees f C1 names = names.0
sees f C2 names = names.0
sees f C4 names = names.0
sees f C5 names = names.0
sees f C7 names = names.0
sees f C9 names = names.0
sees f c names = tt

module _ (r : Renaming) (m : Machine) (is : Renames r m) (alike : IsAmongAlike m.setup r) (p : ℕ) (f : Frame) where
  -- whoever is on one socket stays so
  local-renamed : (n : NodeName)
      → is_local m.setup.format m.setup.topology.sockets.items (r.to p) (waiter_of (renamed r m) (renamed_name r n))
      ≡ is_local m.setup.format m.setup.topology.sockets.items p (waiter_of m n)
  local-renamed n =
      ap (λ u. is_local m.setup.format m.setup.topology.sockets.items (r.to p) u) (waiter-renamed r m is n)
      ∙ (λ i. stays m.setup.format (waiter_of m n).ctx || (alike.sockets p i == alike.sockets (waiter_of m n).cpu i))

  sight-renamed : is_some f.me ≡ true
      → SeesSame r (sight_at (renamed r m) (r.to p) (renamed_frame r f)) (sight_at m p f)
  sight-renamed some = record {
    runs =
        ap (λ k. (node_at (renamed r m) k).runs) (named r f.me some)
        ∙ ap (λ (x : Node). x.runs) (node-renamed r m is (node_of f.me));
    threshold = refl;
    local = local-renamed;
  }

  -- what a row does that stores into m
  stored-renamed : {A : Type 0} (h : A → A) (n k : Machine) (o : Effect A) → Stores r m n k
      → applied (renamed r m) k (r.to p) (renamed_frame r f) (renamed_effect r h o)
      ≡ renamed_answer r (applied m n p f o)
  stored-renamed h n k o s =
      ap (λ z. applied (renamed r m) z (r.to p) (renamed_frame r f) (renamed_effect r h o)) s.same
      ∙ applied-renamed r p h m n is s.kept
      (subst (λ (q : Setup). IsAmongAlike q r) (sym s.setup) alike) f o

  -- the row at a place, by what it operates on
  row_on-renamed : (c : Pc) → AreNames (names_at c f) → (t : Target) → Sees t f
      → row_on (renamed r m) (r.to p) (renamed_frame r f) c (renamed_target r t)
      ≡ renamed_answer r (row_on m p f c t)
  unfolding renamed_target Sees
  row_on-renamed c names SpinWord sight =
      let o = spin_row m.setup.mode c f (word_at m f.lock) in
      ap (λ x. on_word (renamed r m) (r.to p) (renamed_frame r f) (spin_row m.setup.mode c (renamed_frame r f) x))
      (word-renamed r m f.lock)
      ∙ ap (λ e. on_word (renamed r m) (r.to p) (renamed_frame r f) e)
      (spin_row-renamed r f (word_at m f.lock) m.setup.mode c)
      ∙ stored-renamed (λ w. renamed_word r w) _ _ o (word-stores r m is f o.stores)
  row_on-renamed c names QueueWord sight =
      let o = queue_row m.setup.mode c f (word_at m f.lock) in
      ap (λ x. on_word (renamed r m) (r.to p) (renamed_frame r f) (queue_row m.setup.mode c (renamed_frame r f) x))
      (word-renamed r m f.lock)
      ∙ ap (λ e. on_word (renamed r m) (r.to p) (renamed_frame r f) e)
      (queue_row-renamed r f _ is (word_at m f.lock) m.setup.mode c names)
      ∙ stored-renamed (λ w. renamed_word r w) _ _ o (word-stores r m is f o.stores)
  row_on-renamed c names Queued sight =
      let o = entry_row m.setup.mode p (queued_at m p) in
      ap (λ i. on_queued (renamed r m) (r.to p) (renamed_frame r f) (entry_row m.setup.mode (r.to p) i))
      (queued-renamed r m is p)
      ∙ ap (λ e. on_queued (renamed r m) (r.to p) (renamed_frame r f) e)
      (entry_row-renamed r f m.setup.mode p (queued_at m p))
      ∙ stored-renamed (λ k. k) _ _ o (queued-stores r m is p o.stores)
  row_on-renamed c names (FlagOf n) sight =
      let o = flag_row c f (node_at m n).flag in
      ap (λ (x : Node). on_flag (renamed r m) (r.to p) (renamed_frame r f) (renamed_name r n)
      (flag_row c (renamed_frame r f) x.flag)) (node-renamed r m is n)
      ∙ ap (λ e. on_flag (renamed r m) (r.to p) (renamed_frame r f) (renamed_name r n) e)
      (flag_row-renamed r f c (node_at m n).flag names)
      ∙ stored-renamed (λ y. renamed_flag r y) _ _ o (flag-stores r m is n o.stores)
  row_on-renamed c names (NextOf n) sight =
      let o = next_row m.setup.mode m.setup.spins c f (node_at m n).next in
      ap (λ (x : Node). on_next (renamed r m) (r.to p) (renamed_frame r f) (renamed_name r n)
      (next_row m.setup.mode m.setup.spins c (renamed_frame r f) x.next)) (node-renamed r m is n)
      ∙ ap (λ e. on_next (renamed r m) (r.to p) (renamed_frame r f) (renamed_name r n) e)
      (next_row-renamed r f m.setup.mode m.setup.spins c (node_at m n).next)
      ∙ stored-renamed (λ y. renamed_link r y) _ _ o (next-stores r m is n o.stores)
  row_on-renamed c names ChoiceWord sight =
      let o = promotion_row c f (word_at m f.lock) in
      ap (λ x. on_word (renamed r m) (r.to p) (renamed_frame r f) (promotion_row c (renamed_frame r f) x))
      (word-renamed r m f.lock)
      ∙ ap (λ e. on_word (renamed r m) (r.to p) (renamed_frame r f) e)
      (promotion_row-renamed r f _ is (word_at m f.lock) c names)
      ∙ stored-renamed (λ w. renamed_word r w) _ _ o (word-stores r m is f o.stores)
  row_on-renamed c names (ChoiceFlag n) sight =
      let o = handover_row c f (node_at m n).flag in
      ap (λ (x : Node). on_flag (renamed r m) (r.to p) (renamed_frame r f) (renamed_name r n)
      (handover_row c (renamed_frame r f) x.flag)) (node-renamed r m is n)
      ∙ ap (λ e. on_flag (renamed r m) (r.to p) (renamed_frame r f) (renamed_name r n) e)
      (handover_row-renamed r f c (node_at m n).flag names)
      ∙ stored-renamed (λ y. renamed_flag r y) _ _ o (flag-stores r m is n o.stores)
  row_on-renamed c names (ChoiceNext n) sight =
      let o = search_row (sight_at m p f) c f (node_at m n).next in
      ap (λ (x : Node). on_next (renamed r m) (r.to p) (renamed_frame r f) (renamed_name r n)
      (search_row (sight_at (renamed r m) (r.to p) (renamed_frame r f)) c (renamed_frame r f) x.next))
      (node-renamed r m is n)
      ∙ ap (λ e. on_next (renamed r m) (r.to p) (renamed_frame r f) (renamed_name r n) e)
      (search_row-renamed r f _ _ (sight-renamed sight) c (node_at m n).next)
      ∙ stored-renamed (λ y. renamed_link r y) _ _ o (next-stores r m is n o.stores)
  row_on-renamed c names (SecondTailOf n) sight =
      let o = second_row c f (node_at m n).second_tail in
      ap (λ (x : Node). on_second (renamed r m) (r.to p) (renamed_frame r f) (renamed_name r n)
      (second_row c (renamed_frame r f) x.second_tail)) (node-renamed r m is n)
      ∙ ap (λ e. on_second (renamed r m) (r.to p) (renamed_frame r f) (renamed_name r n) e)
      (second_row-renamed r f c (node_at m n).second_tail)
      ∙ stored-renamed (λ y. renamed_link r y) _ _ o (second-stores r m is n o.stores)
  row_on-renamed c names (RunsOf n) sight =
      let o = runs_row (sight_at m p f) c f (node_at m n).runs in
      ap (λ (x : Node). on_runs (renamed r m) (r.to p) (renamed_frame r f) (renamed_name r n)
      (runs_row (sight_at (renamed r m) (r.to p) (renamed_frame r f)) c (renamed_frame r f) x.runs))
      (node-renamed r m is n)
      ∙ ap (λ e. on_runs (renamed r m) (r.to p) (renamed_frame r f) (renamed_name r n) e)
      (runs_row-renamed r f _ _ (sight-renamed sight) c (node_at m n).runs)
      ∙ stored-renamed (λ y. y) _ _ o (runs-stores r m is n o.stores)
  row_on-renamed c names PvWord sight =
      let o = pv_row m.setup.spins c f (word_at m f.lock) in
      ap (λ x. on_word (renamed r m) (r.to p) (renamed_frame r f) (pv_row m.setup.spins c (renamed_frame r f) x))
      (word-renamed r m f.lock)
      ∙ ap (λ e. on_word (renamed r m) (r.to p) (renamed_frame r f) e)
      (pv_row-renamed r f _ is m.setup.spins (word_at m f.lock) c names)
      ∙ stored-renamed (λ w. renamed_word r w) _ _ o (word-stores r m is f o.stores)
  row_on-renamed c names (PvFlag n) sight =
      let o = pv_flag_row c f (node_at m n).flag in
      ap (λ (x : Node). on_flag (renamed r m) (r.to p) (renamed_frame r f) (renamed_name r n)
      (pv_flag_row c (renamed_frame r f) x.flag)) (node-renamed r m is n)
      ∙ ap (λ e. on_flag (renamed r m) (r.to p) (renamed_frame r f) (renamed_name r n) e)
      (pv_flag_row-renamed r f c (node_at m n).flag names)
      ∙ stored-renamed (λ y. renamed_flag r y) _ _ o (flag-stores r m is n o.stores)
  row_on-renamed c names (PvNext n) sight =
      let o = pv_next_row c f (node_at m n).next in
      ap (λ (x : Node). on_next (renamed r m) (r.to p) (renamed_frame r f) (renamed_name r n)
      (pv_next_row c (renamed_frame r f) x.next)) (node-renamed r m is n)
      ∙ ap (λ e. on_next (renamed r m) (r.to p) (renamed_frame r f) (renamed_name r n) e)
      (pv_next_row-renamed r f c (node_at m n).next)
      ∙ stored-renamed (λ y. renamed_link r y) _ _ o (next-stores r m is n o.stores)
  row_on-renamed c names (StateOf n) sight =
      let o = state_row m.setup.spins c f (node_at m n).state in
      ap (λ (x : Node). on_state (renamed r m) (r.to p) (renamed_frame r f) (renamed_name r n)
      (state_row m.setup.spins c (renamed_frame r f) x.state)) (node-renamed r m is n)
      ∙ ap (λ e. on_state (renamed r m) (r.to p) (renamed_frame r f) (renamed_name r n) e)
      (state_row-renamed r f m.setup.spins c (node_at m n).state)
      ∙ stored-renamed (λ y. y) _ _ o (state-stores r m is n o.stores)
  row_on-renamed c names HashEntry sight =
      let o = hash_row c f (entry_at m f.lock) in
      ap (λ x. on_entry (renamed r m) (r.to p) (renamed_frame r f) (hash_row c (renamed_frame r f) x))
      (entry-renamed r f.lock m)
      ∙ ap (λ e. on_entry (renamed r m) (r.to p) (renamed_frame r f) e) (hash_row-renamed r f c (entry_at m f.lock))
      ∙ stored-renamed (λ y. renamed_link r y) _ _ o (entry-stores r m is f.lock o.stores)
  row_on-renamed c names Halted sight =
      let o = halt_row c f (halted_at m p) in
      ap (λ b. on_halted (renamed r m) (r.to p) (renamed_frame r f) (halt_row c (renamed_frame r f) b))
      (halted-renamed r m is p)
      ∙ ap (λ e. on_halted (renamed r m) (r.to p) (renamed_frame r f) e) (halt_row-renamed r f c (halted_at m p))
      ∙ stored-renamed (λ y. y) _ _ o (halted-stores r m is p o.stores)
  row_on-renamed c names (KickOf q) sight =
      let o = kick_row c f (kicked_at m q) in
      ap (λ b. on_kicked (renamed r m) (r.to p) (renamed_frame r f) (r.to q) (kick_row c (renamed_frame r f) b))
      (kicked-renamed r m is q)
      ∙ ap (λ e. on_kicked (renamed r m) (r.to p) (renamed_frame r f) (r.to q) e)
      (kick_row-renamed r f c (kicked_at m q) names)
      ∙ stored-renamed (λ y. y) _ _ o (kicked-stores r m is q o.stores)
  row_on-renamed c names RwWord sight =
      let o = rw_row m.setup.mode c f (rw_at m f.lock.index) in
      ap (λ x. on_rw (renamed r m) (r.to p) (renamed_frame r f) (rw_row m.setup.mode c (renamed_frame r f) x))
      (rw-renamed r m f.lock.index)
      ∙ ap (λ e. on_rw (renamed r m) (r.to p) (renamed_frame r f) e)
      (rw_row-renamed r f (rw_at m f.lock.index) m.setup.mode c)
      ∙ stored-renamed (λ y. y) _ _ o (rw-stores r m is f.lock.index o.stores)

  row_at-renamed : (c : Option Pc) → ((d : Pc) → c ≡ Some d → AreNames (names_at d f))
      → row_at (renamed r m) (r.to p) (renamed_frame r f) c ≡ renamed_answer r (row_at m p f c)
  row_at-renamed None names = refl
  row_at-renamed (Some c) names =
      ap (λ t. row_on (renamed r m) (r.to p) (renamed_frame r f) c t) (target-renamed r f c (names c refl))
      ∙ row_on-renamed c (names c refl) (target c f) (sees f c (names c refl))

-- the row of the newest frame of a processor
pub row-renamed : (r : Renaming) (m : Machine) → Renames r m → IsAmongAlike m.setup r → (p : ℕ) → HasNames m p
    → row (renamed r m) (r.to p) ≡ renamed_answer r (row m p)
row-renamed r m is alike p names =
    ap (λ (f : Frame). row_at (renamed r m) (r.to p) f f.place) (top-renamed r m is p)
    ∙ row_at-renamed r m is alike p (top_frame m p) (top_frame m p).place names
