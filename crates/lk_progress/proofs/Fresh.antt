-- Behind a return of the secondary queue the next handoff moves nobody; and behind the exchange that empties
-- the queue nobody stands in one.
use Rattle.std.proofs.Common.{◌≡◌, ◌≢◌, ◌⊎◌, inl, inr, ℕ, ◌<◌, Some, None, Bool, true, false, []}
use Rattle.std.proofs.Common.{◌∷◌, refl, sym, ap, ◌∙◌, subst, length, slice_get, if◌then◌else◌}
use Rattle.lk_progress.proofs.Names.{Fields, LockHistory, same_lock, same_waiter, Act, Event, Flush}
use Rattle.lk_progress.proofs.Names.{Pass, Promote, Take, LockName, Waiter, next, processor_of}
use Rattle.lk_progress.proofs.Names.{Machine, top_frame, top_of, word_at, node_of, Answer, Goes}
use Rattle.lk_progress.proofs.Names.{Says, looks, row, target, Frame, Pc, C1, C7, C8, C9, C10, G8}
use Rattle.lk_progress.proofs.Names.{G9, is_last, is_sole, takes_out, waiter_cases, if-false}
use Rattle.lk_progress.proofs.Names.{if-true, not-true, same_waiter-else, same_waiter-self, halts}
use Rattle.lk_progress.proofs.Names.{may_halt, course_in, stored_in, ShowsAll, world, led, row_in}
use Rattle.lk_progress.proofs.Names.{stores_word, World, top_live}
use Rattle.lk_rows.specs.{Machine.frame_at, Moves.waiter_of, Row.{Nothing, Y, Second}}
use Rattle.lk_rows.specs.rows.Spin.{held_word}
use Rattle.lk_law.proofs.common.Sames.{same_lock-self}
use Rattle.lk_law.specs.Registers.{returns}
use Rattle.lk_progress.proofs.{Acted.{Acted, Idles, Makes, Comes, acted}, Moves.Moves}
use Rattle.lk_progress.proofs.Rows.{Put, row_moves, row_tells}
use Rattle.lk_progress.proofs.Told.{ToldRow, told_says, told_hands, tell_is}
use Rattle.lk_names.specs.declared.events.How.TheVariants as how

-- the frame of the waiter is about to hand off, and moves nobody
pub record MovesNobody (m : World) (u : Waiter) (l : LockName) : Type 0 where
  pub frame : Frame
  pub place : Pc
  pub live : m.frame u ≡ Some frame
  pub at : frame.place ≡ Some place
  pub chosen : (place ≡ C7) ⊎ (place ≡ C8)
  pub lock : frame.lock ≡ l
  pub none : frame.k ≡ 0

-- the head is
pub record Fresh (m : World) (h : LockHistory) (l : LockName) : Type 0 where
  pub by : Waiter
  pub front : slice_get h.main 0 ≡ Some by
  pub moves : MovesNobody m by l

module _ (m : Machine) (hs : LockName → LockHistory) (shows : ShowsAll m hs) (awake : halts m.setup.mode ≡ false)
    (l : LockName) where
  -- the newest frame goes to a place where it is about to hand off
  module _ (p : ℕ) (range : p < length m.cpus) (c d : Pc) (at : (top_frame m p).place ≡ Some c) (plain : may_halt c ≡ false) where
    abbrev w : Waiter
    w = top_of m p

    abbrev f : Frame
    f = top_frame m p

    abbrev g : Frame
    g = led f (course_in (world m) w f c (target c f)).leads

    live : frame_at m w ≡ Some f
    live = top_live m p hs shows range

    goes : g.place ≡ Some d → (d ≡ C7) ⊎ (d ≡ C8) → g.lock ≡ l → g.k ≡ 0 → MovesNobody (world (row m p).0) w l
    goes there two lock none =
        record {
          frame = g;
          place = d;
          live = r.2.follows.frame w ∙ if-true (same_waiter w w) r.2.now (frame_at r.0 w) (same_waiter-self w) ∙ now;
          at = there;
          chosen = two;
          lock = lock;
          none = none;
        }
      where
        r : (n : Machine) × Put m n (stored_in (world m) w f c (target c f)) × Moves n w f g (row m p).0
        r = row_moves m p hs shows range f c live at (shows.world.fits w f live).after

        now : r.2.now ≡ Some g
        now = elim r.2.turned [
          | inl t ↦ t.0
          | inr t ↦ absurd (let z : None ≡ Some d = sym t.0 ∙ there in cc z)
        ]

    -- and the others stay
    stays : (u : Waiter) → u ≢ w → frame_at (row m p).0 u ≡ frame_at m u
    stays u ne =
        r.2.follows.frame u ∙ if-false (same_waiter u w) r.2.now (frame_at r.0 u) (same_waiter-else u w ne) ∙ r.1.frames u
      where
        r : (n : Machine) × Put m n (stored_in (world m) w f c (target c f)) × Moves n w f g (row m p).0
        r = row_moves m p hs shows range f c live at (shows.world.fits w f live).after

  -- a row of another, or the row C7: the frame still moves nobody
  row_keeps : (u : Waiter) → MovesNobody (world m) u l → (p : ℕ) (c : Pc) → p < length m.cpus → (top_frame m p).place ≡ Some c
      → may_halt c ≡ false → (u ≡ top_of m p → c ≡ C8 → ⊥) → MovesNobody (world (row m p).0) u l
  row_keeps u now p c range at plain never = elim (waiter_cases u (top_of m p)) [
    | inr ne ↦ record {
      frame = now.frame;
      place = now.place;
      live = stays p range c c at plain u ne ∙ now.live;
      at = now.at;
      chosen = now.chosen;
      lock = now.lock;
      none = now.none;
    }
    | inl same ↦ subst (λ (v : Waiter). MovesNobody (world (row m p).0) v l) (sym same) (by same)
  ]
    where
      by : u ≡ top_of m p → MovesNobody (world (row m p).0) (top_of m p) l
      by same =
          goes p range C7 C8 (at ∙ ap (λ (x : Pc). Some x) seven) refl refl (inr refl)
          (ap (λ (f : Frame). f.lock) (sym is) ∙ now.lock) (ap (λ (f : Frame). f.k) (sym is) ∙ now.none)
        where
          is : now.frame ≡ top_frame m p
          is = (let z : Some now.frame ≡ Some (top_frame m p) =
              sym now.live ∙ ap (frame_at m) same ∙ top_live m p hs shows range in cc z)

          place : now.place ≡ c
          place = (let z : Some now.place ≡ Some c = sym now.at ∙ ap (λ (f : Frame). f.place) is ∙ at in cc z)

          seven : c ≡ C7
          seven = elim now.chosen [
            | inl e ↦ sym place ∙ e
            | inr e ↦ absurd (never same (sym place ∙ e))
          ]

  -- an act that tells of no handoff of this lock
  pub moves_keep : (u : Waiter) → MovesNobody (world m) u l → (a : Act) → processor_of a < length m.cpus
      → ((e : Event) → (next m a).1 ≡ Some e → (v : Waiter) (i : ℕ) → e.what ≢ Pass l v i)
      → MovesNobody (world (next m a).0) u l
  moves_keep u now a range never = by (acted m hs shows awake a range)
    where
      kept : (x : Machine) → frame_at x u ≡ frame_at m u → MovesNobody (world x) u l
      kept x e = record {
        frame = now.frame;
        place = now.place;
        live = e ∙ now.live;
        at = now.at;
        chosen = now.chosen;
        lock = now.lock;
        none = now.none;
      }

      by : Acted m (next m a) → MovesNobody (world (next m a).0) u l
      by (Idles same none) = kept (next m a).0 (same u)
      by (Comes v mode h absent settles others says) =
          kept (next m a).0 (others u (λ e. let z : None ≡ Some now.frame = sym absent ∙ ap (frame_at m) (sym e) ∙ now.live in cc z))
      by (Makes p c inside at is) =
          subst (λ (x : Answer). MovesNobody (world x.0) u l) (sym is)
          (row_keeps u now p c inside at plain no_C8)
        where
          live : frame_at m (top_of m p) ≡ Some (top_frame m p)
          live = top_live m p hs shows inside

          plain : may_halt c ≡ false
          plain = not-true (may_halt c)
              (λ q. let z = (shows.world.spins.registers (top_of m p) (top_frame m p) live).choice.halting c at q in cc (z, awake))

          no_C8 : u ≡ top_of m p → c ≡ C8 → ⊥
          no_C8 same eight = handing (top_frame m p) refl
            where
              handing : (f : Frame) → top_frame m p ≡ f → ⊥
              handing f q =
                  let here : frame_at m (top_of m p) ≡ Some f = live ∙ ap (λ (g : Frame). Some g) q in
                  let is_f : now.frame ≡ f =
                  (let z : Some now.frame ≡ Some f = sym now.live ∙ ap (frame_at m) same ∙ here in cc z) in
                  never (record { by = record { cpu = p; ctx = f.ctx }; what = Pass f.lock (waiter_of m (node_of f.y)) f.k })
                  (ap (λ (x : Answer). x.1) is
                  ∙ row_tells m p hs shows inside f C8 here
                  (ap (λ (g : Frame). g.place) (sym q) ∙ at ∙ ap (λ (d : Pc). Some d) eight))
                  (waiter_of m (node_of f.y)) f.k
                  (ap (λ (j : LockName). Pass j (waiter_of m (node_of f.y)) f.k) (ap (λ (g : Frame). g.lock) (sym is_f) ∙ now.lock))

  -- it hands off, and moves nobody
  pub hands_none : (u : Waiter) → MovesNobody (world m) u l → (a : Act) (e : Event) → ToldRow m a e → e.by ≡ u
      → (v : Waiter) (i : ℕ) → e.what ≡ Pass l v i → i ≡ 0
  hands_none u now a e r by v i is =
      let so = told_hands m a e r l v i is in
      elim so.row [
        | inr q ↦ q.1
        | inl q ↦
            let is_f : now.frame ≡ top_frame m r.cpu =
            (let z : Some now.frame ≡ Some (top_frame m r.cpu) =
            sym now.live ∙ ap (frame_at m) (sym by ∙ r.by) ∙ r.live in cc z) in
            q.1 ∙ ap (λ (g : Frame). g.k) (sym is_f) ∙ now.none
      ]

  -- behind a return of the secondary queue
  module _ (a : Act) (e : Event) (r : ToldRow m a e) where
    abbrev newest : Frame
    newest = top_frame m r.cpu

    none_at : (c : Pc) → r.place ≡ c → returns c newest.why ≡ true → newest.k ≡ 0
    none_at c q back =
        (shows.world.spins.registers (top_of m r.cpu) newest r.live).choice.nobody c (r.at ∙ ap (λ (d : Pc). Some d) q) back

    pub flushed : e.what ≡ Flush l → MovesNobody (world (next m a).0) e.by l
    flushed is =
        let so = told_says m a e r (Flush l) is (λ k v i q. cc q) in
        subst (λ (x : Answer). MovesNobody (world x.0) e.by l) (sym r.is)
        (subst (λ (v : Waiter). MovesNobody (world (row m r.cpu).0) v l) (sym r.by)
        (goes r.cpu r.range C9 C7 (r.at ∙ ap (λ (d : Pc). Some d) so.1) refl refl (inl refl) (sym so.0) (none_at C9 so.1 refl)))

    pub promoted : e.what ≡ Promote l → MovesNobody (world (next m a).0) e.by l
    promoted is =
        let so = told_says m a e r (Promote l) is (λ k v i q. cc q) in
        let at : newest.place ≡ Some C10 = r.at ∙ ap (λ (d : Pc). Some d) so.1 in
        let last : is_last newest (word_at m newest.lock) ≡ true = lasts (is_last newest (word_at m newest.lock)) refl (tells so.1) in
        let to : led newest (course_in (world m) (top_of m r.cpu) newest C10 (target C10 newest)).leads ≡ led newest (Goes C7 (Y newest.second ∷ Second None ∷ [])) =
        ap (λ (b : Bool). led newest (if b then record {
          stores = Some (record (word_at m newest.lock) { tail = newest.t });
          leads = Goes C7 (Y newest.second ∷ Second None ∷ []);
          tells = Says (Promote newest.lock);
          counts = [];
        } else looks C1).leads) last in
        subst (λ (x : Answer). MovesNobody (world x.0) e.by l) (sym r.is)
        (subst (λ (v : Waiter). MovesNobody (world (row m r.cpu).0) v l) (sym r.by)
        (goes r.cpu r.range C10 C7 at refl (ap (λ (g : Frame). g.place) to) (inl refl)
        (ap (λ (g : Frame). g.lock) to ∙ sym so.0) (ap (λ (g : Frame). g.k) to ∙ none_at C10 so.1 refl)))
      where
        tells : r.place ≡ C10 → (row_in (world m) (top_of m r.cpu) newest C10).1 ≡ Says (Promote l)
        tells q =
            ap (λ (d : Pc). (row_in (world m) (top_of m r.cpu) newest d).1) (sym q) ∙ r.row
            ∙ tell_is m r.cpu newest r.tell e (Promote l) r.tells is (λ k v i q. cc q)

        lasts : (b : Bool) → is_last newest (word_at m newest.lock) ≡ b → (row_in (world m) (top_of m r.cpu) newest C10).1 ≡ Says (Promote l)
            → is_last newest (word_at m newest.lock) ≡ true
        lasts true q t = q
        lasts false q t =
            absurd (let z : Nothing ≡ Says (Promote l) =
            ap (λ (b : Bool). (if b then record {
              stores = Some (record (word_at m newest.lock) { tail = newest.t });
              leads = Goes C7 (Y newest.second ∷ Second None ∷ []);
              tells = Says (Promote newest.lock);
              counts = [];
            } else looks C1).tells) (sym q) ∙ t in cc z)

-- Behind the exchange that empties the queue the word names no tail.
module _ (m : Machine) (hs : LockName → LockHistory) (shows : ShowsAll m hs) (awake : halts m.setup.mode ≡ false)
    (l : LockName) (a : Act) (e : Event) (r : ToldRow m a e) (is : e.what ≡ Take l how.Sole) where
  abbrev taker : Waiter
  taker = top_of m r.cpu

  abbrev own_frame : Frame
  own_frame = top_frame m r.cpu

  here : r.place ≡ G8
  here = (told_says m a e r (Take l how.Sole) is (λ k v i q. cc q)).1 refl

  own : l ≡ own_frame.lock
  own = (told_says m a e r (Take l how.Sole) is (λ k v i q. cc q)).0

  sole : is_sole own_frame (word_at m own_frame.lock) ≡ true
  sole = by (is_sole own_frame (word_at m own_frame.lock)) refl
      (ap (λ (d : Pc). (row_in (world m) taker own_frame d).1) (sym here) ∙ r.row
      ∙ tell_is m r.cpu own_frame r.tell e (Take l how.Sole) r.tells is (λ k v i q. cc q))
    where
      by : (b : Bool) → is_sole own_frame (word_at m own_frame.lock) ≡ b → (row_in (world m) taker own_frame G8).1 ≡ Says (Take l how.Sole) → is_sole own_frame (word_at m own_frame.lock) ≡ true
      by true q t = q
      by false q t =
          absurd (let z : Nothing ≡ Says (Take l how.Sole) =
          ap (λ (b : Bool). (if b then takes_out own_frame how.Sole else looks G9).tells) (sym q) ∙ t in cc z)

  pub sole_empties : ((world (next m a).0).word l).tail ≡ None
  sole_empties =
      ap (λ (y : Answer). (word_at y.0 l).tail) r.is
      ∙ ap (λ (y : Fields). y.tail) (z.2.follows.word l ∙ z.1.words l
      ∙ ap (λ (b : Bool). (stores_word (world m) own_frame.lock (if b then takes_out own_frame how.Sole else looks G9).stores).word l) sole
      ∙ ap (λ (b : Bool). if b then held_word else (world m).word l) (ap (λ (k : LockName). same_lock l k) (sym own) ∙ same_lock-self l))
    where
      z : (n : Machine) × Put m n (stored_in (world m) taker own_frame G8 (target G8 own_frame))
          × Moves n taker own_frame (led own_frame (course_in (world m) taker own_frame G8 (target G8 own_frame)).leads) (row m r.cpu).0
      z = row_moves m r.cpu hs shows r.range own_frame G8 r.live (r.at ∙ ap (λ (d : Pc). Some d) here) (shows.world.fits taker own_frame r.live).after
