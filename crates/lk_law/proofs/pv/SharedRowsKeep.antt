-- The rows that all families share keep every sound world, also where processors halt.
use Rattle.std.proofs.Common.{◌≡◌, ◌≢◌, ◌⊎◌, inl, inr, ℕ, Option, Some, None, Bool, true, false, []}
use Rattle.std.proofs.Common.{◌∷◌, arith, ap, ◌+◌, refl, sym, ◌∙◌, subst, nat_lt, is_some}
use Rattle.lk_law.proofs.Names.{ltb-true, Fields, NodeName, taken, with_holder, IsOutside}
use Rattle.lk_law.proofs.Names.{TakesInOrder, How, Arrive, Miss, Take, Manner, Spins, Mode, Cna}
use Rattle.lk_law.proofs.Names.{Native, Pv, Virt, rest_node, node_of, Enters, Goes, Granted, Lead}
use Rattle.lk_law.proofs.Names.{Left, Missed, Nothing, Prev, Says, looks, misses, Frame, Node, Pc}
use Rattle.lk_law.proofs.Names.{E1, F1, G1, G4, G5, H1, T1, T2, W1, after_arrival, after_entry}
use Rattle.lk_law.proofs.Names.{after_link, after_fast, held_word, is_free, takes, halts, is_slow}
use Rattle.lk_law.proofs.Names.{has_node, queues, seeks, Seeks, phase_at, phase_of, post_at}
use Rattle.lk_law.proofs.Names.{snapshot, Kicks, Off, RegistersFit, SpinRowKeeps, lead_on, led}
use Rattle.lk_law.proofs.Names.{put_node, put_queued, put_word, World}
use Rattle.lk_law.proofs.common.Acting.{Acting, StandsIn, Kept, row_keeps_both, fit_here}
use Rattle.lk_law.proofs.common.Acting.{phase_here, phase_shown, slow_here, held_not, granted_place}
use Rattle.lk_law.proofs.common.Acting.{placeless_phase, quiet_phase, quiet_off}
use Rattle.lk_law.proofs.common.Allowed.{allow_take, allow_miss, allow_arrive}
use Rattle.lk_law.proofs.common.Begins.{place_off}
use Rattle.lk_law.proofs.common.Choices.{unchosen, fit_placeless, fit_quiet, fit_goes}
use Rattle.lk_law.proofs.common.Puts.{if_cases, put_word-here, put_number-here, put_number-else}
use Rattle.lk_law.proofs.{common.Puts.put_rewrites, common.Told.law_miss}
use Rattle.lk_law.proofs.common.TurnSteps.{node_plain, queued_plain, turn_stays, turn_enters}
use Rattle.lk_law.proofs.common.TurnSteps.{turn_own, turn_kept}
use Rattle.lk_law.proofs.common.Turns.{Turn, same_turn, word_turn, node_turn}
use Rattle.lk_law.proofs.pv.Acting.{fit_halting, halting_plain, hm_owed, hm_step, hm_step_as}
use Rattle.lk_law.proofs.pv.Acting.{hm_posted, hm_posted_as, hm_stays, hm_kept, flags_here}
use Rattle.lk_law.proofs.pv.SharedLaws.{law_turn_pv, law_take_pv, law_enter_pv, law_enter_bare_pv}
use Rattle.lk_law.proofs.pv.SharedLaws.{law_arrive_behind_pv, law_arrive_first_pv, law_link_pv}
use Rattle.lk_law.proofs.queue.ArriveRowsKeep.{own_node_here, arrive_awake, link_awake}
use Rattle.lk_law.proofs.{queue.EntryRowsKeep.entry_awake, spin.Laws.{turn_misses, turn_on}}
use Rattle.lk_law.proofs.spin.RowsKeep.{WordKept, free_word, fast_awake, try_look_awake}
use Rattle.lk_law.proofs.spin.RowsKeep.{try_take_awake}
use Rattle.lk_names.specs.declared.events.How.TheVariants as how

-- the row is before the lock, outside of the slow path
record IsOpen (c : Pc) : Type 0 where
  phase : (b : Bool) (prev y : NodeName) → phase_at c b prev y ≡ Seeks
  fast : is_slow (Some c) ≡ false
  post : (f : Frame) → post_at c f ≡ Off

open_F1 : IsOpen F1
open_F1 = record { phase = λ b p y. refl; fast = refl; post = λ f. refl }

open_T1 : IsOpen T1
open_T1 = record { phase = λ b p y. refl; fast = refl; post = λ f. refl }

open_T2 : IsOpen T2
open_T2 = record { phase = λ b p y. refl; fast = refl; post = λ f. refl }

module _ {a : Acting} {c : Pc} (at : StandsIn true a c) (early : IsOpen c) where
  seeks_here : phase_of a.frame ≡ Seeks
  seeks_here =
      phase_here at ∙ early.phase (is_some a.frame.me) (node_of a.frame.prev) (node_of a.frame.y)

  bare_here : a.frame.me ≡ None
  bare_here = (fit_here at).bare (ap has_node seeks_here)

  shown_seeks : (snapshot a.world).phase a.frame.lock a.by ≡ Seeks
  shown_seeks = phase_shown at ∙ seeks_here

  no_kick : (k : NodeName) → post_at c a.frame ≢ Kicks k
  no_kick k e = let z = early.post a.frame in grind (arith, z, e)

  -- the free word is taken by a waiter that is in no queue
  takes_pv : (h : How) → is_free (a.world.word a.frame.lock) ≡ true
      → taken (a.histories a.frame.lock) a.by h ≡ with_holder (a.histories a.frame.lock) a.by Spins
      → (IsOutside (a.histories a.frame.lock) a.by → TakesInOrder (a.histories a.frame.lock) a.by h)
      → WordKept a (takes a.frame h)
  takes_pv h free plain order =
      let m = a.world in
      let l = a.frame.lock in
      let g = led a.frame Granted in
      let t : Turn m (put_word m l held_word) a.by a.frame g (Some Spins) =
      word_turn at.live refl held_word in
      let low = free_word (m.word l) free in
      hm_kept at t (λ e. absurd (let z = early.post a.frame in grind (arith, z, e)))
      (halting_plain (put_word m l held_word) at.kind (flags_here at) at.sound.plain.runs)
      (fit_quiet g (granted_place at) bare_here) (Says (Take l h))
      (law_take_pv at.sound.agrees at.kind h
      (hm_step_as at t seeks_here (quiet_phase g (granted_place at))
      (put_word-here m.word l held_word) (held_not at (ap seeks seeks_here)) refl
      (hm_owed at t no_kick (λ p. refl)))
      (inl (turn_stays t refl ((granted_place at).fast ∙ sym (slow_here at ∙ early.fast))
      (λ p. refl))) (λ k. refl) refl refl low plain
      (hm_posted_as at t (early.post a.frame) (quiet_off g (granted_place at)) refl (λ p. refl)))
      (allow_take a.rules at.sound.agrees a.by l h (ap queues shown_seeks)
      (ap (λ (x : Fields). x.locked) low) plain order)

  -- the try has failed
  misses_pv : WordKept a (misses (Miss a.frame.lock))
  misses_pv =
      let m = a.world in
      let l = a.frame.lock in
      let g = led a.frame Missed in
      let t : Turn m m a.by a.frame g (m.held a.by l) = same_turn at.live refl in
      let held = held_not at (ap seeks seeks_here) in
      hm_kept at t (λ e. absurd (let z = early.post a.frame in grind (arith, z, e))) at.sound.plain
      (fit_placeless g refl bare_here) (Says (Miss l))
      (law_miss a.by l
      (law_turn_pv at.sound.agrees at.kind
      (hm_step_as at t seeks_here (placeless_phase g refl) refl held held
      (hm_owed at t no_kick (λ p. refl)))
      (turn_stays t refl (sym (slow_here at ∙ early.fast)) (λ p. refl)) (λ k. refl) turn_misses
      (hm_posted_as at t (early.post a.frame) (place_off g refl) refl (λ p. refl)) refl))
      (allow_miss a.rules at.sound.agrees a.by l)

  -- it looks, and goes on to the second look of a try, or to the entry
  opens_pv : (d : Pc) → IsOpen d → (d ≡ T2) ⊎ (d ≡ G1) → WordKept a (looks d)
  opens_pv d next which =
      let m = a.world in
      let l = a.frame.lock in
      let g : Frame = record a.frame { place = Some d } in
      let t : Turn m m a.by a.frame g (m.held a.by l) = same_turn at.live refl in
      let held = held_not at (ap seeks seeks_here) in
      let phase : phase_of g ≡ Seeks =
      next.phase (is_some a.frame.me) (node_of a.frame.prev) (node_of a.frame.y) in
      hm_kept at t (λ e. absurd (let z = early.post a.frame in grind (arith, z, e))) at.sound.plain
      (fits d which) Nothing
      (law_turn_pv at.sound.agrees at.kind
      (hm_step_as at t seeks_here phase refl held held (hm_owed at t no_kick (λ p. refl)))
      (turn_stays t refl (next.fast ∙ sym (slow_here at ∙ early.fast)) (λ p. refl)) (λ k. refl)
      turn_on (hm_posted_as at t (early.post a.frame) (next.post g) refl (λ p. refl)) refl) tt
    where
      fits : (d : Pc) → (d ≡ T2) ⊎ (d ≡ G1)
          → RegistersFit a.world.mode (record a.frame { place = Some d })
      fits d (inl e) =
          let P : Pc → Type 0 =
          λ q. RegistersFit a.world.mode (record a.frame { place = Some q }) in
          subst P (sym e)
          (fit_goes a.frame (record a.frame { place = Some T2 }) (fit_here at) refl
          (sym (ap has_node seeks_here)) (λ q. cc q) (λ q. cc q)
          (unchosen (record a.frame { place = Some T2 }) T2 refl refl (λ q. cc) (λ q. cc) (λ q. cc)
          (λ q. cc) (λ q. cc) (λ q. cc) (λ q. cc) (λ q. cc)))
      fits d (inr e) =
          let P : Pc → Type 0 =
          λ q. RegistersFit a.world.mode (record a.frame { place = Some q }) in
          subst P (sym e)
          (fit_goes a.frame (record a.frame { place = Some G1 }) (fit_here at) refl
          (sym (ap has_node seeks_here)) (λ q. cc q) (λ q. cc q)
          (unchosen (record a.frame { place = Some G1 }) G1 refl refl (λ q. cc) (λ q. cc) (λ q. cc)
          (λ q. cc) (λ q. cc) (λ q. cc) (λ q. cc) (λ q. cc)))

open_G1 : IsOpen G1
open_G1 = record { phase = λ b p y. refl; fast = refl; post = λ f. refl }

fast_pv : (mode : Mode) (x : Fields) → halts mode ≡ true → after_fast mode x ≡ G1
fast_pv Pv x on = refl
fast_pv Virt x on = cc
fast_pv Native x on = cc
fast_pv Cna x on = cc

pub fast_keeps : SpinRowKeeps F1
fast_keeps =
    row_keeps_both F1 fast_awake (λ a at goes.
    let x = a.world.word a.frame.lock in
    let P : Pc → Type 0 = λ d. WordKept a (looks d) in
    if_cases (WordKept a) (is_free x) (takes a.frame how.Fast) (looks (after_fast a.world.mode x))
    (λ e. takes_pv at open_F1 how.Fast e refl (λ p. p))
    (λ e. subst P (sym (fast_pv a.world.mode x at.kind))
    (opens_pv at open_F1 G1 open_G1 (inr refl))))

pub try_look_keeps : SpinRowKeeps T1
try_look_keeps =
    row_keeps_both T1 try_look_awake (λ a at goes.
    if_cases (WordKept a) (is_free (a.world.word a.frame.lock)) (looks T2)
    (misses (Miss a.frame.lock))
    (λ e. opens_pv at open_T1 T2 open_T2 (inl refl)) (λ e. misses_pv at open_T1))

pub try_swap_keeps : SpinRowKeeps T2
try_swap_keeps =
    row_keeps_both T2 try_take_awake (λ a at goes.
    if_cases (WordKept a) (is_free (a.world.word a.frame.lock)) (takes a.frame how.Try)
    (misses (Miss a.frame.lock))
    (λ e. takes_pv at open_T2 how.Try e refl (λ p. p)) (λ e. misses_pv at open_T2))

-- G1

entry_pv : (mode : Mode) (me : Option NodeName) → halts mode ≡ true → after_entry mode me ≡ H1
entry_pv Pv me on = refl
entry_pv Virt me on = cc
entry_pv Native me on = cc
entry_pv Cna me on = cc

module _ {a : Acting} (at : StandsIn true a G1) where
  abbrev number : ℕ
  number = a.world.queued a.by.cpu

  abbrev mine : NodeName
  mine = record { cpu = a.by.cpu; index = number }

  -- one more of the processor is in the slow path
  abbrev counted_on : World
  counted_on = put_queued a.world a.by.cpu (number + 1)

  abbrev way : Option Manner
  way = a.world.held a.by a.frame.lock

  -- the frame gets this node, or none, and looks whether it may steal
  abbrev EntryKept : Option NodeName → Pc → Type 0
  EntryKept me d = Kept a (lead_on counted_on a.by a.frame (Enters me d)) Nothing

  enter_pv : nat_lt number 4 ≡ true → EntryKept (Some mine) H1
  enter_pv room =
      let m = a.world in
      let f = a.frame in
      let n = put_node counted_on mine rest_node in
      let g : Frame = record f { me = Some mine; second = None; hashed = false; place = Some H1 } in
      let t : Turn m n a.by f g way =
      record {
        live = at.live;
        frames = refl;
        holds = refl;
        mode = refl;
        turns = refl;
        threshold = refl;
        format = refl;
        sockets = refl;
        entries = λ k ne. refl;
        halted = λ p h. inl h;
        lock = refl;
        words = λ k ne. refl;
      } in
      let held = held_not at (ap seeks (phase_here at)) in
      let enters =
      turn_enters t at.newest (slow_here at) refl
      (put_number-here m.queued a.by.cpu (number + 1))
      (λ q ne. put_number-else m.queued a.by.cpu q (number + 1) ne) in
      let fit : RegistersFit m.mode g =
      record {
        me = λ e. refl;
        bare = λ e. absurd (grind arith);
        met = λ e. absurd (grind arith);
        next = λ e. absurd (grind arith);
        choice = unchosen g H1 refl refl (λ e. at.kind) (λ e. cc) (λ e. cc) (λ e. cc) (λ e. cc)
            (λ e. cc) (λ e. refl) (λ e. cc);
      } in
      let plain = node_plain counted_on mine rest_node
      (queued_plain m a.by.cpu (number + 1) at.sound.plain) (omega arith) (λ flat k e. grind arith) in
      hm_kept at t (λ e. cc e) plain fit Nothing
      (law_enter_pv at.sound.agrees at.kind
      (hm_step at t refl held held (hm_owed at t (λ k e. cc e) (λ p. refl))) enters
      (ltb-true number 4 room) (turn_own t) (put_rewrites m.node mine rest_node)
      (hm_posted at t refl (λ p. refl))) tt

  enter_bare_pv : EntryKept None H1
  enter_bare_pv =
      let m = a.world in
      let f = a.frame in
      let n = counted_on in
      let g : Frame = record f { me = None; second = None; hashed = false; place = Some H1 } in
      let t : Turn m n a.by f g way =
      record {
        live = at.live;
        frames = refl;
        holds = refl;
        mode = refl;
        turns = refl;
        threshold = refl;
        format = refl;
        sockets = refl;
        entries = λ k ne. refl;
        halted = λ p h. inl h;
        lock = refl;
        words = λ k ne. refl;
      } in
      let held = held_not at (ap seeks (phase_here at)) in
      let enters =
      turn_enters t at.newest (slow_here at) refl
      (put_number-here m.queued a.by.cpu (number + 1))
      (λ q ne. put_number-else m.queued a.by.cpu q (number + 1) ne) in
      let fit : RegistersFit m.mode g =
      record {
        me = λ e. absurd (grind arith);
        bare = λ e. refl;
        met = λ e. absurd (grind arith);
        next = λ e. absurd (grind arith);
        choice = unchosen g H1 refl refl (λ e. at.kind) (λ e. cc) (λ e. cc) (λ e. cc) (λ e. cc)
            (λ e. cc) (λ e. refl) (λ e. cc);
      } in
      hm_kept at t (λ e. cc e) (queued_plain m a.by.cpu (number + 1) at.sound.plain) fit Nothing
      (law_enter_bare_pv at.sound.agrees at.kind
      (hm_step at t refl held held (hm_owed at t (λ k e. cc e) (λ p. refl))) enters (λ k. refl)
      (hm_posted at t refl (λ p. refl))) tt

pub enter_keeps : SpinRowKeeps G1
enter_keeps =
    row_keeps_both G1 entry_awake (λ a at goes.
    let mode = a.world.mode in
    let i = a.world.queued a.by.cpu in
    if_cases (λ (me : Option NodeName). EntryKept at me (after_entry mode me)) (nat_lt i 4)
    (Some (record { cpu = a.by.cpu; index = i })) None
    (λ room.
    subst (EntryKept at (Some (mine at))) (sym (entry_pv mode (Some (mine at)) at.kind))
    (enter_pv at room))
    (λ full. subst (EntryKept at None) (sym (entry_pv mode None at.kind)) (enter_bare_pv at)))

-- G4

arrives : Option NodeName → Lead
arrives None = Goes E1 []
arrives (Some p) = Goes G5 (Prev (Some p) ∷ [])

arrives_is : (mode : Mode) (tail : Option NodeName) → halts mode ≡ true
    → (after_arrival mode tail).leads ≡ arrives tail
unfolding arrives
arrives_is Pv None on = refl
arrives_is Pv (Some p) on = refl
arrives_is Virt tail on = cc
arrives_is Native tail on = cc
arrives_is Cna tail on = cc

module _ {a : Acting} (at : StandsIn true a G4) where
  -- it has not heard of a second queue
  unheard : a.frame.second ≡ None
  unheard = (fit_here at).choice.unaware G4 at.place refl

  abbrev joined : Fields
  joined = record (a.world.word a.frame.lock) { tail = a.frame.me }

  abbrev shown_joined : Fields
  shown_joined =
      record {
        locked = (a.world.word a.frame.lock).locked;
        pending = (a.world.word a.frame.lock).pending;
        tail = Some ((snapshot a.world).own a.by);
      }

  joined_is : joined ≡ shown_joined
  joined_is = ap (λ (t : Option NodeName). record (a.world.word a.frame.lock) { tail = t })
      (own_node_here at (ap has_node (phase_here at)))

  -- it joins the queue, and goes on
  abbrev ArriveKept : Lead → Type 0
  ArriveKept lead =
      Kept a (lead_on (put_word a.world a.frame.lock joined) a.by a.frame lead)
      (Says (Arrive a.frame.lock))

  arrive_first : (a.world.word a.frame.lock).tail ≡ None → ArriveKept (Goes E1 [])
  arrive_first none =
      let m = a.world in
      let l = a.frame.lock in
      let g : Frame = record a.frame { place = Some E1 } in
      let t : Turn m (put_word m l joined) a.by a.frame g (m.held a.by l) =
      word_turn at.live refl joined in
      let held = held_not at (ap seeks (phase_here at)) in
      hm_kept at t (λ e. cc e) (halting_plain (put_word m l joined) at.kind (flags_here at) at.sound.plain.runs)
      (fit_halting at at.kind g E1 refl refl refl refl (λ e. cc) (λ e. cc) (λ e. cc) (λ e. cc)
      (λ e. cc)) (Says (Arrive l))
      (law_arrive_first_pv at.sound.agrees at.kind
      (hm_step at t (put_word-here m.word l joined ∙ joined_is) held held
      (hm_owed at t (λ k e. cc e) (λ p. refl))) (hm_stays at t refl refl (λ p. refl))
      (λ k. refl)
      (turn_kept t ∙ unheard) none (hm_posted at t refl (λ p. refl)))
      (allow_arrive a.rules at.sound.agrees a.by l (phase_shown at ∙ phase_here at))

  arrive_behind : (p : NodeName) → (a.world.word a.frame.lock).tail ≡ Some p
      → ArriveKept (Goes G5 (Prev (Some p) ∷ []))
  arrive_behind p met =
      let m = a.world in
      let l = a.frame.lock in
      let g : Frame = record a.frame { prev = Some p; place = Some G5 } in
      let t : Turn m (put_word m l joined) a.by a.frame g (m.held a.by l) =
      word_turn at.live refl joined in
      let held = held_not at (ap seeks (phase_here at)) in
      hm_kept at t (λ e. cc e) (halting_plain (put_word m l joined) at.kind (flags_here at) at.sound.plain.runs)
      (fit_goes a.frame g (fit_here at) refl (sym (ap has_node (phase_here at))) (λ e. refl)
      (λ e. cc e) (unchosen g G5 refl refl (λ e. cc) (λ e. cc) (λ e. cc) (λ e. cc) (λ e. cc)
      (λ e. cc) (λ e. unheard) (λ e. cc))) (Says (Arrive l))
      (law_arrive_behind_pv at.sound.agrees at.kind
      (hm_step at t (put_word-here m.word l joined ∙ joined_is) held held
      (hm_owed at t (λ k e. cc e) (λ p. refl))) (hm_stays at t refl refl (λ p. refl))
      (λ k. refl)
      (turn_kept t ∙ unheard) met (hm_posted at t refl (λ p. refl)))
      (allow_arrive a.rules at.sound.agrees a.by l (phase_shown at ∙ phase_here at))

  arrive_kept : (tail : Option NodeName) → (a.world.word a.frame.lock).tail ≡ tail
      → ArriveKept (arrives tail)
  unfolding arrives
  arrive_kept None e = arrive_first e
  arrive_kept (Some p) e = arrive_behind p e

pub exchange_tail_keeps : SpinRowKeeps G4
exchange_tail_keeps =
    row_keeps_both G4 arrive_awake (λ a at goes.
    let tail = (a.world.word a.frame.lock).tail in
    subst (ArriveKept at) (sym (arrives_is a.world.mode tail at.kind)) (arrive_kept at tail refl))

-- G5

linked_is : (mode : Mode) (turns : ℕ) → halts mode ≡ true
    → after_link mode turns ≡ Goes W1 (Left turns ∷ [])
linked_is Pv turns on = refl
linked_is Virt turns on = cc
linked_is Native turns on = cc
linked_is Cna turns on = cc

pub link_keeps : SpinRowKeeps G5
link_keeps =
    row_keeps_both G5 link_awake (λ a at goes.
    let m = a.world in
    let p = node_of a.frame.prev in
    let y : Node = record (m.node p) { next = a.frame.me } in
    let g : Frame = record a.frame { left = m.turns; place = Some W1 } in
    let t : Turn m (put_node m p y) a.by a.frame g (m.held a.by a.frame.lock) =
    node_turn at.live refl p y in
    let held = held_not at (ap seeks (phase_here at)) in
    subst (λ (lead : Lead). Kept a (lead_on (put_node m p y) a.by a.frame lead) Nothing)
    (sym (linked_is m.mode m.turns at.kind))
    (hm_kept at t (λ e. cc e) (node_plain m p y at.sound.plain (at.sound.plain.runs p) (λ flat. at.sound.plain.flag flat p))
    (fit_halting at at.kind g W1 refl refl refl refl (λ e. cc) (λ e. cc)
    (λ e. (fit_here at).met at.place) (λ e. at.sound.turning) (λ e. cc)) Nothing
    (law_link_pv at.sound.agrees at.kind
    (hm_step at t refl held held (hm_owed at t (λ k e. cc e) (λ q. refl)))
    (hm_stays at t refl refl (λ q. refl)) (put_rewrites m.node p y)
    (ap (λ (o : Option NodeName). record (m.node p) { next = o })
    (own_node_here at (ap has_node (phase_here at)))) (hm_posted at t refl (λ q. refl))) tt))
