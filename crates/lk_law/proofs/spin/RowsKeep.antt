-- The rows on a word that need no queue keep every sound world.
use Rattle.std.proofs.Common.{◌≡◌, ◌≢◌, inl, Option, Some, None, Bool, true, false, arith, ap, refl}
use Rattle.std.proofs.Common.{sym, ◌∙◌, if◌then◌else◌, is_some, ◌&&◌, not}
use Rattle.lk_law.proofs.Names.{Fields, Locked, Free, Held, Slow, NodeName, taken, with_holder}
use Rattle.lk_law.proofs.Names.{IsOutside, TakesInOrder, How, Miss, Release, Take, Spins, Mode, Cna}
use Rattle.lk_law.proofs.Names.{Native, Pv, Virt, node_of, Effect, Freed, Granted, Missed, Says}
use Rattle.lk_law.proofs.Names.{looks, misses, Frame, Pc, F1, G1, G5, G11, P0, P1, T1, T2, U1, V1}
use Rattle.lk_law.proofs.Names.{V2, after_fast, held_word, is_free, is_unlocked, takes, to_queue}
use Rattle.lk_law.proofs.Names.{halts, chooses, is_slow, may_halt, has_node, queues, seeks}
use Rattle.lk_law.proofs.Names.{Releases, Seeks, phase_at, phase_of, post_at, snapshot, Off}
use Rattle.lk_law.proofs.Names.{hands_plainly, is_unaware, SpinRowKeeps, lead_on, led, put_word}
use Rattle.lk_law.proofs.Names.{stores_word}
use Rattle.lk_law.proofs.common.Acting.{Acting, StandsAwake, Kept, spin_row_keeps, fit_here}
use Rattle.lk_law.proofs.common.Acting.{phase_here, phase_shown, held_not, held_so, ReadAlike}
use Rattle.lk_law.proofs.common.Acting.{looks_kept, granted_place, Ending, ending_step}
use Rattle.lk_law.proofs.common.Acting.{ending_stays, ends_kept, awake_here, KeepsIn}
use Rattle.lk_law.proofs.common.Allowed.{allow_take, allow_miss, allow_release}
use Rattle.lk_law.proofs.{common.Choices.quiet_none, common.Puts.{if_cases, put_word-here}}
use Rattle.lk_law.proofs.{common.Told.law_miss, common.TurnSteps.word_plain}
use Rattle.lk_law.proofs.common.Turns.{same_turn, word_turn}
use Rattle.lk_law.proofs.spin.Laws.{law_turn, law_take, law_release, turn_misses}
use Rattle.lk_names.specs.declared.events.How.TheVariants as how

-- what a row on the word makes of a sound world by its outcome
abbrev pub WordKept : Acting → Effect Fields → Type 0
WordKept a o =
    Kept a (lead_on (stores_word a.world a.frame.lock o.stores) a.by a.frame o.leads) o.tells

-- the free word
pub free_word : (x : Fields) → is_free x ≡ true
    → x ≡ record { locked = Free; pending = false; tail = None }
free_word x h = go x.locked x.pending x.tail h
  where
    go : (b : Locked) (p : Bool) (t : Option NodeName)
        → (is_unlocked b && not p && not (is_some t)) ≡ true
        → ◌≡◌ {A = Fields} (record { locked = b; pending = p; tail = t })
        (record { locked = Free; pending = false; tail = None })
    go Free false None h = refl
    go Free false (Some n) h = cc
    go Free true t h = cc
    go Held p t h = cc
    go Slow p t h = cc

pub unlocked_free : (b : Locked) → is_unlocked b ≡ true → b ≡ Free
unlocked_free Free h = refl
unlocked_free Held h = cc
unlocked_free Slow h = cc

-- the row is before the lock, outside of the slow path
record IsEarly (c : Pc) : Type 0 where
  phase : (b : Bool) (prev y : NodeName) → phase_at c b prev y ≡ Seeks
  fast : is_slow (Some c) ≡ false
  unlinked : c ≢ G5
  unhanded : c ≢ G11
  post : (f : Frame) → post_at c f ≡ Off
  fixed : chooses c ≡ false
  awake : may_halt c ≡ false
  aware : is_unaware c ≡ false
  before : hands_plainly c ≡ false

early_V1 : IsEarly V1
early_V1 = record {
  phase = λ b p y. refl;
  fast = refl;
  unlinked = λ e. grind arith;
  unhanded = λ e. grind arith;
  post = λ f. refl;
  fixed = refl;
  awake = refl;
  aware = refl;
  before = refl;
}

early_P0 : IsEarly P0
early_P0 = record {
  phase = λ b p y. refl;
  fast = refl;
  unlinked = λ e. grind arith;
  unhanded = λ e. grind arith;
  post = λ f. refl;
  fixed = refl;
  awake = refl;
  aware = refl;
  before = refl;
}

early_P1 : IsEarly P1
early_P1 = record {
  phase = λ b p y. refl;
  fast = refl;
  unlinked = λ e. grind arith;
  unhanded = λ e. grind arith;
  post = λ f. refl;
  fixed = refl;
  awake = refl;
  aware = refl;
  before = refl;
}

early_G1 : IsEarly G1
early_G1 = record {
  phase = λ b p y. refl;
  fast = refl;
  unlinked = λ e. grind arith;
  unhanded = λ e. grind arith;
  post = λ f. refl;
  fixed = refl;
  awake = refl;
  aware = refl;
  before = refl;
}

early_F1 : IsEarly F1
early_F1 = record {
  phase = λ b p y. refl;
  fast = refl;
  unlinked = λ e. grind arith;
  unhanded = λ e. grind arith;
  post = λ f. refl;
  fixed = refl;
  awake = refl;
  aware = refl;
  before = refl;
}

early_T1 : IsEarly T1
early_T1 = record {
  phase = λ b p y. refl;
  fast = refl;
  unlinked = λ e. grind arith;
  unhanded = λ e. grind arith;
  post = λ f. refl;
  fixed = refl;
  awake = refl;
  aware = refl;
  before = refl;
}

early_T2 : IsEarly T2
early_T2 = record {
  phase = λ b p y. refl;
  fast = refl;
  unlinked = λ e. grind arith;
  unhanded = λ e. grind arith;
  post = λ f. refl;
  fixed = refl;
  awake = refl;
  aware = refl;
  before = refl;
}

early_V2 : IsEarly V2
early_V2 = record {
  phase = λ b p y. refl;
  fast = refl;
  unlinked = λ e. grind arith;
  unhanded = λ e. grind arith;
  post = λ f. refl;
  fixed = refl;
  awake = refl;
  aware = refl;
  before = refl;
}

early_alike : {c d : Pc} → IsEarly c → IsEarly d → ReadAlike c d
early_alike c d =
    record {
      phase = λ b p y. d.phase b p y ∙ sym (c.phase b p y);
      slow = d.fast ∙ sym c.fast;
      unlinked = d.unlinked;
      unhanded = d.unhanded;
      post = λ f. d.post _ ∙ sym (c.post f);
      was_fixed = c.fixed;
      fixed = d.fixed;
      awake = d.awake;
      unaware = λ e. absurd (grind (arith, d.aware, e));
      plainly = λ e. absurd (grind (arith, d.before, e));
    }

early_queue : (x : Fields) → IsEarly (to_queue x)
early_queue x =
    if_cases IsEarly x.pending G1 (if is_some x.tail then G1 else P1) (λ e. early_G1)
    (λ e. if_cases IsEarly (is_some x.tail) G1 P1 (λ t. early_G1) (λ t. early_P1))

early_fast : (mode : Mode) (x : Fields) → halts mode ≡ false → IsEarly (after_fast mode x)
early_fast Virt x awake = early_V1
early_fast Native x awake =
    if_cases IsEarly (is_unlocked x.locked && x.pending && not (is_some x.tail)) P0 (to_queue x)
    (λ e. early_P0) (λ e. early_queue x)
early_fast Cna x awake =
    if_cases IsEarly (is_unlocked x.locked && x.pending && not (is_some x.tail)) P0 (to_queue x)
    (λ e. early_P0) (λ e. early_queue x)
early_fast Pv x awake = cc

module _ {a : Acting} {c : Pc} (at : StandsAwake a c) (early : IsEarly c) where
  seeks_here : phase_of a.frame ≡ Seeks
  seeks_here =
      phase_here at ∙ early.phase (is_some a.frame.me) (node_of a.frame.prev) (node_of a.frame.y)

  bare_here : a.frame.me ≡ None
  bare_here = (fit_here at).bare (ap has_node seeks_here)

  shown_seeks : (snapshot a.world).phase a.frame.lock a.by ≡ Seeks
  shown_seeks = phase_shown at ∙ seeks_here

  -- the free word is taken by a waiter that is in no queue
  takes_kept : (h : How) → is_free (a.world.word a.frame.lock) ≡ true
      → taken (a.histories a.frame.lock) a.by h ≡ with_holder (a.histories a.frame.lock) a.by Spins
      → (IsOutside (a.histories a.frame.lock) a.by → TakesInOrder (a.histories a.frame.lock) a.by h)
      → WordKept a (takes a.frame h)
  takes_kept h free plain order =
      let m = a.world in
      let l = a.frame.lock in
      let n = put_word m l held_word in
      let g = led a.frame Granted in
      let on : Ending a n g Seeks held_word (Some Spins) =
      record {
        turn = word_turn at.live refl held_word;
        word = put_word-here m.word l held_word;
        plain = word_plain m l held_word at.sound.plain (λ e. grind arith);
        was = seeks_here;
        place = granted_place at;
        me = bare_here;
      } in
      ends_kept at on (Says (Take l h))
      (law_take at.sound.agrees (awake_here at) h
      (ending_step (awake_here at) on (held_not at (ap seeks seeks_here)) refl)
      (inl (ending_stays at on refl early.fast (λ p. refl))) (λ k. refl) refl refl
      (free_word (m.word l) free) plain)
      (allow_take a.rules at.sound.agrees a.by l h (ap queues shown_seeks)
      (ap (λ (x : Fields). x.locked) (free_word (m.word l) free)) plain order)

  -- the try has failed
  misses_kept : WordKept a (misses (Miss a.frame.lock))
  misses_kept =
      let m = a.world in
      let l = a.frame.lock in
      let g = led a.frame Missed in
      let way = m.held a.by l in
      let on : Ending a m g Seeks (m.word l) way =
      record {
        turn = same_turn at.live refl;
        word = refl;
        plain = at.sound.plain;
        was = seeks_here;
        place = quiet_none None refl;
        me = bare_here;
      } in
      let held = held_not at (ap seeks seeks_here) in
      ends_kept at on (Says (Miss l))
      (law_miss a.by l
      (law_turn at.sound.agrees (awake_here at) (ending_step (awake_here at) on held held)
      (ending_stays at on refl early.fast (λ p. refl)) (λ k. refl) turn_misses))
      (allow_miss a.rules at.sound.agrees a.by l)

  -- it looks, and goes on before the lock
  early_kept : (d : Pc) → IsEarly d → WordKept a (looks d)
  early_kept d e = looks_kept at d (early_alike early e)

pub fast_awake : KeepsIn false F1
fast_awake =
    (λ a at goes.
    let x = a.world.word a.frame.lock in
    if_cases (WordKept a) (is_free x) (takes a.frame how.Fast) (looks (after_fast a.world.mode x))
    (λ e. takes_kept at early_F1 how.Fast e refl (λ p. p))
    (λ e. early_kept at early_F1 (after_fast a.world.mode x)
    (early_fast a.world.mode x at.kind)))

pub try_look_awake : KeepsIn false T1
try_look_awake =
    (λ a at goes.
    if_cases (WordKept a) (is_free (a.world.word a.frame.lock)) (looks T2)
    (misses (Miss a.frame.lock))
    (λ e. early_kept at early_T1 T2 early_T2) (λ e. misses_kept at early_T1))

pub try_take_awake : KeepsIn false T2
try_take_awake =
    (λ a at goes.
    if_cases (WordKept a) (is_free (a.world.word a.frame.lock)) (takes a.frame how.Try)
    (misses (Miss a.frame.lock))
    (λ e. takes_kept at early_T2 how.Try e refl (λ p. p)) (λ e. misses_kept at early_T2))

pub loop_look_keeps : SpinRowKeeps V1
loop_look_keeps =
    spin_row_keeps V1 refl (λ a at goes.
    early_kept at early_V1 (if is_free (a.world.word a.frame.lock) then V2 else V1)
    (if_cases IsEarly (is_free (a.world.word a.frame.lock)) V2 V1 (λ e. early_V2) (λ e. early_V1)))

pub loop_swap_keeps : SpinRowKeeps V2
loop_swap_keeps =
    spin_row_keeps V2 refl (λ a at goes.
    if_cases (WordKept a) (is_free (a.world.word a.frame.lock)) (takes a.frame how.Virt) (looks V1)
    (λ e. takes_kept at early_V2 how.Virt e refl (λ p. p))
    (λ e. early_kept at early_V2 V1 early_V1))

pub pending_look_again_keeps : SpinRowKeeps P0
pending_look_again_keeps =
    spin_row_keeps P0 refl
    (λ a at goes.
    early_kept at early_P0 (to_queue (a.world.word a.frame.lock))
    (early_queue (a.world.word a.frame.lock)))

pub release_keeps : SpinRowKeeps U1
release_keeps =
    spin_row_keeps U1 refl (λ a at goes.
    let m = a.world in
    let l = a.frame.lock in
    let x : Fields = record (m.word l) { locked = Free } in
    let g = led a.frame Freed in
    let was = phase_here at in
    let on : Ending a (put_word m l x) g Releases x None =
    record {
      turn = word_turn at.live refl x;
      word = put_word-here m.word l x;
      plain = word_plain m l x at.sound.plain (λ e. grind arith);
      was = was;
      place = quiet_none None refl;
      me = (fit_here at).bare (ap has_node was);
    } in
    ends_kept at on (Says (Release l None))
    (law_release at.sound.agrees (awake_here at)
    (ending_step (awake_here at) on (held_so at was) refl)
    (ending_stays at on refl refl (λ p. refl)) (λ k. refl))
    (allow_release a.rules at.sound.agrees a.by l (phase_shown at ∙ was)))
