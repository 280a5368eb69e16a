-- The rows of readers and writers keep every sound world.
use Rattle.std.proofs.Common.{◌==◌, ◌≡◌, ◌≢◌, ◌⊎◌, inl, inr, ℕ, Option, Some, None, Bool, true}
use Rattle.std.proofs.Common.{false, [], arith, ap, refl, sym, ◌∙◌}
use Rattle.lk_law.proofs.Names.{RwFields, LockHistory, told, Rules, Miss, Manner, Reads, Spins}
use Rattle.lk_law.proofs.Names.{Writes, LockName, Waiter, rw_name, wait_name, Done, Effect, Missed}
use Rattle.lk_law.proofs.Names.{Says, looks, misses, writes, Frame, Pc, R1, R2, R3, R4, R5, Wr1}
use Rattle.lk_law.proofs.Names.{Wr2, Wr3, Wr4, Wr5, Wr6, Y1, Y2, Y3, Y4, Y5, Z1, Z2, is_rw_row}
use Rattle.lk_law.proofs.Names.{Phase, has_lock, RwAgrees, RwPhase, announces, asks, is_counted}
use Rattle.lk_law.proofs.Names.{is_inner, Announces, Asks, Inside, Unreads, Unwrites, IsSoundWorld}
use Rattle.lk_law.proofs.Names.{rw_helds, rw_own_phase, rw_phases, rw_waits, row_in, World}
use Rattle.lk_law.proofs.Names.{RowKeeps}
use Rattle.lk_names.specs.{Lawful.OwnsUp, declared.events.RwHow.RwHow}
use Rattle.lk_names.specs.declared.events.What.TheVariants.{RTake, RRelease, WTake, WRelease}
use Rattle.lk_rows.specs.rows.Rw.{is_empty, is_open, is_cleared, one_more, one_less, written_word}
use Rattle.lk_rows.specs.rows.Rw.{rw_lock, admits, takes_written, queues_up, frees_wait, after_bias}
use Rattle.lk_law.proofs.common.Puts.{if_cases}
use Rattle.lk_law.proofs.rw.Goes.{OutcomeKept, RwKept, going_end, going_free, going_to, going_wait}
use Rattle.lk_law.proofs.rw.Goes.{rw_quiet, silent, says}
use Rattle.lk_law.proofs.rw.Kept.{rw_unstored, rw_stored, RwStands, rw_ok, rw_shown, rw_waits_here}
use Rattle.lk_law.proofs.rw.Laws.{rw_unheld, rw_holds_so, rw_turn, rw_bias, rw_unbias, rw_read}
use Rattle.lk_law.proofs.rw.Laws.{rw_admit, rw_write, rw_announce, rw_claim, rw_unread, rw_unwrite}
use Rattle.lk_law.specs.RwPhase.RwPhase.{Biases, Joins}
use Rattle.lk_names.specs.declared.events.RwHow.TheVariants as how

-- words

empty_word : (x : RwFields) → is_empty x ≡ true
    → x ≡ record { readers = 0; waiting = false; writer = false }
empty_word x h =
    let r : x.readers ≡ 0 = grind (arith, h) in
    let a : x.waiting ≡ false = grind (arith, h) in
    let b : x.writer ≡ false = grind (arith, h) in
    (λ i. record { readers = r i; waiting = a i; writer = b i })

cleared_word : (x : RwFields) → is_cleared x ≡ true
    → x ≡ record { readers = 0; waiting = true; writer = false }
cleared_word x h =
    let r : x.readers ≡ 0 = grind (arith, h) in
    let a : x.waiting ≡ true = grind (arith, h) in
    let b : x.writer ≡ false = grind (arith, h) in
    (λ i. record { readers = r i; waiting = a i; writer = b i })

open_word : (x : RwFields) → is_open x ≡ true → x.writer ≡ false
open_word x h = grind (arith, h)

-- The rows, each with a frame that stands at it. What all have in common is the waiter's phase, and
-- that who is on its way does not hold.

module _ (m : World) (hs : LockName → LockHistory) (rules : Rules) (w to : Waiter) (f : Frame) where
  abbrev i : ℕ
  i = f.lock.index

  abbrev x : RwFields
  x = m.rw i

  abbrev way : Option Manner
  way = m.held w (rw_name i)

  -- the outcome keeps the world sound
  abbrev Keeps : Effect RwFields → Type 0
  Keeps o = OutcomeKept m hs rules w to f o

  module _ {c : Pc} (at : RwStands m hs w f c) where
    ok : RwAgrees x (rw_phases m i) (rw_helds m i) (rw_waits m i) (hs (rw_name i))
    ok = rw_ok at

    old : way ≢ Some Spins
    old = ok.holds.unspun w

    none : asks (rw_own_phase c) ≡ true → way ≡ None
    none a = ok.holds.without w (ap asks (rw_shown at) ∙ a)

    kept_none : asks (rw_own_phase c) ≡ true → {way' : Option Manner} → way' ≡ way → way' ≡ None
    kept_none a e = e ∙ none a

    -- it looks, and goes on to a row where it is in the same phase
    look : (d : Pc) → is_rw_row d ≡ true → rw_own_phase d ≡ rw_own_phase c
        → asks (rw_own_phase c) ≡ true → Keeps (looks d)
    look d row same a =
        silent rules to at (going_to at d row (ap is_inner same) (rw_unstored m i) old)
        (λ phase' held' waits' step is.
        rw_turn ok step is (let b = is in grind (arith, same, b)) (ap announces same)
        (λ p. none a) (λ q. absurd (asks_not (rw_own_phase d) (ap asks same ∙ a) (inl q)))
        (λ q. absurd (asks_not (rw_own_phase d) (ap asks same ∙ a) (inr q))))
      where
        asks_not : (r : RwPhase) → asks r ≡ true → (r ≡ Unreads) ⊎ (r ≡ Unwrites) → ⊥
        asks_not r a (inl e) = grind (arith, a, e)
        asks_not r a (inr e) = grind (arith, a, e)

    -- the try has failed
    miss : rw_own_phase c ≡ Asks → Keeps (misses (Miss (rw_lock f)))
    miss was =
        says rules to at (going_end at (ap is_inner was) (rw_unstored m i) old)
        (Miss (rw_lock f)) refl tt tt
        (λ phase' held' waits' step is.
        rw_turn ok step is (let b = is in grind (arith, was, b)) (sym (ap announces was))
        (λ p. none (ap asks was)) (λ q. absurd (grind arith)) (λ q. absurd (grind arith)))

    -- the word has one reader more, which does not hold yet
    bias : (d : Pc) → is_rw_row d ≡ true → is_inner (rw_own_phase d) ≡ is_inner (rw_own_phase c)
        → asks (rw_own_phase c) ≡ true → is_counted (rw_own_phase c) None ≡ false
        → is_counted (rw_own_phase d) None ≡ true
        → announces (rw_own_phase d) ≡ announces (rw_own_phase c) → Keeps (writes (one_more x) d)
    bias d row inner a was now told =
        silent rules to at (going_to at d row inner (rw_stored m i (one_more x)) old)
        (λ phase' held' waits' step is.
        rw_bias ok step (none a) (kept_none a is) was now told
        (λ q. absurd (biased_not (rw_own_phase d) now (inl q)))
        (λ q. absurd (biased_not (rw_own_phase d) now (inr q))))
      where
        biased_not : (r : RwPhase) → is_counted r None ≡ true → (r ≡ Unreads) ⊎ (r ≡ Unwrites) → ⊥
        biased_not r a (inl e) = grind (arith, a, e)
        biased_not r a (inr e) = grind (arith, a, e)

    unheld : asks (rw_own_phase c) ≡ true → OwnsUp (hs (rw_name i)) w (RTake (rw_lock f) how.Fast)
    unheld a = rw_unheld ok.holds (hs (rw_name i)) w refl (none a)

    -- a reader comes in that was not counted
    read : (h : RwHow) → rw_own_phase c ≡ Asks → x.writer ≡ false
        → Keeps (admits f (Some (one_more x)) h Done)
    read h was unwritten =
        says rules to at
        (going_end at (ap is_inner was) (rw_stored m i (one_more x)) (λ e. grind arith))
        (RTake (rw_lock f) h) refl (unheld (ap asks was)) tt
        (λ phase' held' waits' step is.
        rw_read ok step unwritten (none (ap asks was)) is
        (ap (λ (r : RwPhase). is_counted r None) was) (ap announces was) refl)

    -- and one that was
    admit : rw_own_phase c ≡ Biases → x.writer ≡ false → Keeps (admits f None how.Irq Done)
    admit was unwritten =
        says rules to at (going_end at (ap is_inner was) (rw_unstored m i) (λ e. grind arith))
        (RTake (rw_lock f) how.Irq) refl (unheld (ap asks was)) tt
        (λ phase' held' waits' step is.
        rw_admit ok step unwritten (none (ap asks was)) is
        (ap (λ (r : RwPhase). is_counted r None) was) (ap announces was) refl)

    -- and one that has the wait lock
    join : rw_own_phase c ≡ Joins → x.writer ≡ false
        → Keeps (admits f None how.Queued (frees_wait m.mode))
    join was unwritten =
        says rules to at (going_free at (ap is_inner was) (rw_unstored m i) (λ e. grind arith))
        (RTake (rw_lock f) how.Queued) refl (unheld (ap asks was)) tt
        (λ phase' held' waits' step is.
        rw_admit ok step unwritten (none (ap asks was)) is
        (ap (λ (r : RwPhase). is_counted r None) was) (ap announces was) refl)

    -- a reader takes itself off, and the wait lock first
    retreat : rw_own_phase c ≡ Biases → Keeps (queues_up (Some (one_less x)) R4)
    retreat was =
        silent rules to at (going_wait at R4 (inl refl) (ap is_inner was)
        (rw_stored m i (one_less x)) old)
        (λ phase' held' waits' step is.
        rw_unbias ok step (none (ap asks was)) (kept_none (ap asks was) is)
        (ap (λ (r : RwPhase). is_counted r None) was) refl (sym (ap announces was))
        (λ e. grind arith) (λ e. grind arith))

    -- or fails in its try
    withdraw : rw_own_phase c ≡ Biases
        → Keeps (record {
          stores = Some (one_less x);
          leads = Missed;
          tells = Says (Miss (rw_lock f));
          counts = [];
        })
    withdraw was =
        says rules to at (going_end at (ap is_inner was) (rw_stored m i (one_less x)) old)
        (Miss (rw_lock f)) refl tt tt
        (λ phase' held' waits' step is.
        rw_unbias ok step (none (ap asks was)) (kept_none (ap asks was) is)
        (ap (λ (r : RwPhase). is_counted r None) was) refl (sym (ap announces was))
        (λ e. grind arith) (λ e. grind arith))

    -- a writer takes the wait lock first
    queue_up : rw_own_phase c ≡ Asks → Keeps (queues_up None Wr2)
    queue_up was =
        silent rules to at (going_wait at Wr2 (inr refl) (ap is_inner was) (rw_unstored m i) old)
        (λ phase' held' waits' step is.
        rw_turn ok step is (let b = is in grind (arith, was, b)) (sym (ap announces was))
        (λ p. none (ap asks was)) (λ q. absurd (grind arith)) (λ q. absurd (grind arith)))

    -- a writer takes the empty word
    write : (h : RwHow) → rw_own_phase c ≡ Asks → is_empty x ≡ true → Keeps (takes_written f h Done)
    write h was empty =
        says rules to at
        (going_end at (ap is_inner was) (rw_stored m i written_word) (λ e. grind arith))
        (WTake (rw_lock f) h) refl (unheld (ap asks was)) tt
        (λ phase' held' waits' step is.
        rw_write ok step (empty_word x empty) (none (ap asks was)) is
        (ap (λ (r : RwPhase). is_counted r None) was) (ap announces was) refl)

    -- with the wait lock
    write_queued : rw_own_phase c ≡ Inside → is_empty x ≡ true
        → Keeps (takes_written f how.Queued (frees_wait m.mode))
    write_queued was empty =
        says rules to at
        (going_free at (ap is_inner was) (rw_stored m i written_word) (λ e. grind arith))
        (WTake (rw_lock f) how.Queued) refl (unheld (ap asks was)) tt
        (λ phase' held' waits' step is.
        rw_write ok step (empty_word x empty) (none (ap asks was)) is
        (ap (λ (r : RwPhase). is_counted r None) was) (ap announces was) refl)

    -- a writer sets waiting
    announce : rw_own_phase c ≡ Inside → Keeps (writes (record x { waiting = true }) Wr5)
    announce was =
        silent rules to at (going_to at Wr5 refl (sym (ap is_inner was))
        (rw_stored m i (record x { waiting = true })) old)
        (λ phase' held' waits' step is.
        rw_announce ok step (none (ap asks was)) (kept_none (ap asks was) is)
        (ap (λ (r : RwPhase). is_counted r None) was) refl)

    -- one waiter has the wait lock at most
    only : is_inner (rw_own_phase c) ≡ true → (u : Waiter) → rw_waits m i u ≡ true → u ≡ w
    only inner u has =
        let o = at.sound.spins.agrees.locks (wait_name i) in
        let mine = o.hold.has w (has_by _ _ (rw_waits_here at ∙ inner)) in
        let other = o.hold.has u (has_by _ _ has) in
        grind (arith, mine, other)
      where
        has_by : (r : Phase) (h : Bool) → h ≡ true → has_lock r h ≡ true
        has_by r h e = grind (arith, e)

    -- the waiting writer takes the word
    claim : rw_own_phase c ≡ Announces → is_cleared x ≡ true
        → Keeps (takes_written f how.Queued (frees_wait m.mode))
    claim was cleared =
        says rules to at
        (going_free at (ap is_inner was) (rw_stored m i written_word) (λ e. grind arith))
        (WTake (rw_lock f) how.Queued) refl (unheld (ap asks was)) tt
        (λ phase' held' waits' step is.
        rw_claim ok step (cleared_word x cleared) (only (ap is_inner was)) (none (ap asks was))
        is (ap (λ (r : RwPhase). is_counted r None) was) refl)

    -- a reader releases, and the writer
    unread : rw_own_phase c ≡ Unreads
        → Keeps (record {
          stores = Some (one_less x);
          leads = Done;
          tells = Says (RRelease (rw_lock f));
          counts = [];
        })
    unread was =
        let has = ok.holds.unreads w (rw_shown at ∙ was) in
        says rules to at
        (going_end at (ap is_inner was) (rw_stored m i (one_less x)) (λ e. grind arith))
        (RRelease (rw_lock f)) refl (rw_holds_so ok.holds w Reads has) tt
        (λ phase' held' waits' step is. rw_unread ok step has is (ap announces was) refl)

    unwrite : rw_own_phase c ≡ Unwrites
        → Keeps (record {
          stores = Some (record x { writer = false });
          leads = Done;
          tells = Says (WRelease (rw_lock f));
          counts = [];
        })
    unwrite was =
        let has = ok.holds.unwrites w (rw_shown at ∙ was) in
        says rules to at
        (going_end at (ap is_inner was) (rw_stored m i (record x { writer = false }))
        (λ e. grind arith)) (WRelease (rw_lock f)) refl (rw_holds_so ok.holds w Writes has) tt
        (λ phase' held' waits' step is. rw_unwrite ok step has is was refl)

-- a frame that stands at a row of a reader or a writer
stands : (c : Pc) (row : is_rw_row c ≡ true) {m : World} {hs : LockName → LockHistory} {w : Waiter}
    {f : Frame}
    → IsSoundWorld m hs → m.frame w ≡ Some f → f.place ≡ Some c → RwStands m hs w f c
stands c row sound live place =
    record {
      sound = sound;
      live = live;
      place = place;
      row = row;
      idle = (rw_quiet c row).phase;
      fast = (rw_quiet c row).fast;
    }

-- who proves it of every frame that stands at the row has the law
by_frame : (c : Pc) → is_rw_row c ≡ true
    → ((m : World) (hs : LockName → LockHistory) (rules : Rules) (w to : Waiter) (f : Frame)
    → RwStands m hs w f c → RwKept m hs rules w to f (row_in m w f c).0 (row_in m w f c).1)
    → RowKeeps c
by_frame c row each m hs rules w to f sound mode newest live place goes =
    each m hs rules w to f (stands c row sound live place)

pub reader_first_keeps : RowKeeps R1
reader_first_keeps =
    by_frame R1 refl (λ m hs rules w to f at.
    let x = m.rw f.lock.index in
    if_cases (Keeps m hs rules w to f) (is_open x) (admits f (Some (one_more x)) how.Fast Done)
    (writes (one_more x) (after_bias f))
    (λ e. read m hs rules w to f at how.Fast refl (open_word x e))
    (λ e. if_cases (λ (d : Pc). Keeps m hs rules w to f (writes (one_more x) d)) (f.ctx == 0) R3
    R2 (λ q. bias m hs rules w to f at R3 refl refl refl refl refl refl)
    (λ q. bias m hs rules w to f at R2 refl refl refl refl refl refl)))

pub reader_spin_keeps : RowKeeps R2
reader_spin_keeps =
    by_frame R2 refl (λ m hs rules w to f at.
    let x = m.rw f.lock.index in
    if_cases (Keeps m hs rules w to f) (x.writer) (looks R2) (admits f None how.Irq Done)
    (λ e. look m hs rules w to f at R2 refl refl refl) (λ e. admit m hs rules w to f at refl e))

pub reader_retreat_keeps : RowKeeps R3
reader_retreat_keeps =
    by_frame R3 refl (λ m hs rules w to f at.
    let x = m.rw f.lock.index in
    retreat m hs rules w to f at refl)

pub reader_join_keeps : RowKeeps R4
reader_join_keeps =
    by_frame R4 refl (λ m hs rules w to f at.
    let x = m.rw f.lock.index in
    bias m hs rules w to f at R5 refl refl refl refl refl refl)

pub reader_wait_keeps : RowKeeps R5
reader_wait_keeps =
    by_frame R5 refl (λ m hs rules w to f at.
    let x = m.rw f.lock.index in
    if_cases (Keeps m hs rules w to f) (x.writer) (looks R5)
    (admits f None how.Queued (frees_wait m.mode))
    (λ e. look m hs rules w to f at R5 refl refl refl) (λ e. join m hs rules w to f at refl e))

pub writer_first_keeps : RowKeeps Wr1
writer_first_keeps =
    by_frame Wr1 refl (λ m hs rules w to f at.
    let x = m.rw f.lock.index in
    if_cases (Keeps m hs rules w to f) (is_empty x) (takes_written f how.Fast Done)
    (queues_up None Wr2) (λ e. write m hs rules w to f at how.Fast refl e)
    (λ e. queue_up m hs rules w to f at refl))

pub writer_look_keeps : RowKeeps Wr2
writer_look_keeps =
    by_frame Wr2 refl (λ m hs rules w to f at.
    let x = m.rw f.lock.index in
    if_cases (λ (d : Pc). Keeps m hs rules w to f (looks d)) (is_empty x) Wr3 Wr4
    (λ e. look m hs rules w to f at Wr3 refl refl refl)
    (λ e. look m hs rules w to f at Wr4 refl refl refl))

pub writer_swap_keeps : RowKeeps Wr3
writer_swap_keeps =
    by_frame Wr3 refl (λ m hs rules w to f at.
    let x = m.rw f.lock.index in
    if_cases (Keeps m hs rules w to f) (is_empty x) (takes_written f how.Queued (frees_wait m.mode))
    (looks Wr4) (λ e. write_queued m hs rules w to f at refl e)
    (λ e. look m hs rules w to f at Wr4 refl refl refl))

pub writer_announce_keeps : RowKeeps Wr4
writer_announce_keeps =
    by_frame Wr4 refl (λ m hs rules w to f at.
    let x = m.rw f.lock.index in
    announce m hs rules w to f at refl)

pub writer_wait_keeps : RowKeeps Wr5
writer_wait_keeps =
    by_frame Wr5 refl (λ m hs rules w to f at.
    let x = m.rw f.lock.index in
    if_cases (λ (d : Pc). Keeps m hs rules w to f (looks d)) (is_cleared x) Wr6 Wr5
    (λ e. look m hs rules w to f at Wr6 refl refl refl)
    (λ e. look m hs rules w to f at Wr5 refl refl refl))

pub writer_claim_keeps : RowKeeps Wr6
writer_claim_keeps =
    by_frame Wr6 refl (λ m hs rules w to f at.
    let x = m.rw f.lock.index in
    if_cases (Keeps m hs rules w to f) (is_cleared x)
    (takes_written f how.Queued (frees_wait m.mode)) (looks Wr5)
    (λ e. claim m hs rules w to f at refl e)
    (λ e. look m hs rules w to f at Wr5 refl refl refl))

pub reader_try_look_keeps : RowKeeps Y1
reader_try_look_keeps =
    by_frame Y1 refl (λ m hs rules w to f at.
    let x = m.rw f.lock.index in
    if_cases (Keeps m hs rules w to f) (is_open x) (looks Y2) (misses (Miss (rw_lock f)))
    (λ e. look m hs rules w to f at Y2 refl refl refl) (λ e. miss m hs rules w to f at refl))

pub reader_try_add_keeps : RowKeeps Y2
reader_try_add_keeps =
    by_frame Y2 refl (λ m hs rules w to f at.
    let x = m.rw f.lock.index in
    if_cases (Keeps m hs rules w to f) (is_open x) (admits f (Some (one_more x)) how.Try Done)
    (writes (one_more x) Y3) (λ e. read m hs rules w to f at how.Try refl (open_word x e))
    (λ e. bias m hs rules w to f at Y3 refl refl refl refl refl refl))

pub reader_try_fail_keeps : RowKeeps Y3
reader_try_fail_keeps =
    by_frame Y3 refl (λ m hs rules w to f at.
    let x = m.rw f.lock.index in
    withdraw m hs rules w to f at refl)

pub writer_try_look_keeps : RowKeeps Y4
writer_try_look_keeps =
    by_frame Y4 refl (λ m hs rules w to f at.
    let x = m.rw f.lock.index in
    if_cases (Keeps m hs rules w to f) (is_empty x) (looks Y5) (misses (Miss (rw_lock f)))
    (λ e. look m hs rules w to f at Y5 refl refl refl) (λ e. miss m hs rules w to f at refl))

pub writer_try_swap_keeps : RowKeeps Y5
writer_try_swap_keeps =
    by_frame Y5 refl (λ m hs rules w to f at.
    let x = m.rw f.lock.index in
    if_cases (Keeps m hs rules w to f) (is_empty x) (takes_written f how.Try Done)
    (misses (Miss (rw_lock f))) (λ e. write m hs rules w to f at how.Try refl e)
    (λ e. miss m hs rules w to f at refl))

pub reader_release_keeps : RowKeeps Z1
reader_release_keeps =
    by_frame Z1 refl (λ m hs rules w to f at.
    let x = m.rw f.lock.index in
    unread m hs rules w to f at refl)

pub writer_release_keeps : RowKeeps Z2
writer_release_keeps =
    by_frame Z2 refl (λ m hs rules w to f at.
    let x = m.rw f.lock.index in
    unwrite m hs rules w to f at refl)
