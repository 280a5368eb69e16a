-- The rows of a waiter that arrives, links and waits keep every sound world: G4 to G6.
use Rattle.std.proofs.Common.{◌≡◌, ◌≢◌, inl, inr, ℕ, Option, Some, None, Bool, true, false, [], ◌∷◌}
use Rattle.std.proofs.Common.{arith, ap, refl, sym, ◌∙◌, subst, is_some, ◌&&◌, not}
use Rattle.lk_law.proofs.Names.{Fields, NodeName, Arrive, Mode, Cna, Native, Pv, Virt, node_of}
use Rattle.lk_law.proofs.Names.{Effect, Goes, Lead, Nothing, Prev, Says, Flag, Frame, Node, Pc, G4}
use Rattle.lk_law.proofs.Names.{G5, G6, G7, G11, after_arrival, after_flag, after_link, halts}
use Rattle.lk_law.proofs.Names.{chooses, may_halt, has_node, leads, Leads, Links, Prepared, Waits}
use Rattle.lk_law.proofs.Names.{phase_of, post_at, snapshot, Off, SpinRowKeeps, lead_on, put_node}
use Rattle.lk_law.proofs.Names.{put_word, stores_flag}
use Rattle.lk_law.proofs.common.Acting.{Acting, StandsAwake, StandsIn, Kept, KeepsIn}
use Rattle.lk_law.proofs.common.Acting.{spin_row_keeps, fit_here, phase_here, phase_shown, own_here}
use Rattle.lk_law.proofs.common.Acting.{slow_here, ReadAlike, looks_kept, Going, going_step}
use Rattle.lk_law.proofs.common.Acting.{going_stays, goes_kept, LeadsTo, gone_on, word_going}
use Rattle.lk_law.proofs.common.Acting.{look_going, node_going, going_word, awake_here}
use Rattle.lk_law.proofs.{common.Allowed.allow_arrive, common.Choices.fixed_choice}
use Rattle.lk_law.proofs.common.Puts.{put_word-here, put_rewrites}
use Rattle.lk_law.proofs.common.TurnSteps.{turn_kept, word_plain}
use Rattle.lk_law.proofs.{common.Turns.{same_turn, word_turn}, common.Users.some_is}
use Rattle.lk_law.proofs.queue.Laws.{law_arrive, law_link, law_lead}
use Rattle.lk_law.specs.Cna.{node_in}
use Rattle.lk_rows.specs.declared.parts.Flag.TheVariants as flag

pub both-true : (a b : Bool) → (a && b) ≡ true → (a ≡ true) × (b ≡ true)
both-true true true h = (refl, refl)
both-true true false h = cc
both-true false b h = cc

pub not_true : (b : Bool) → not b ≡ true → b ≡ false
not_true true h = cc
not_true false h = refl

pub none_second : (o : Option NodeName) → not (is_some o) ≡ true → o ≡ None
none_second None h = refl
none_second (Some n) h = cc

-- the frame has a node, which is shown as its own
pub own_node_here : {b : Bool} {a : Acting} {c : Pc} (at : StandsIn b a c)
    → has_node (phase_of a.frame) ≡ true → a.frame.me ≡ Some ((snapshot a.world).own a.by)
own_node_here {a = a} at noded =
    some_is a.frame.me ((fit_here at).me noded) ∙ ap Some (sym (own_here at))

-- G4

arrives : Option NodeName → Lead
arrives None = Goes G7 []
arrives (Some p) = Goes G5 (Prev (Some p) ∷ [])

arrives_is : (mode : Mode) (tail : Option NodeName) → halts mode ≡ false
    → (after_arrival mode tail).leads ≡ arrives tail
unfolding arrives
arrives_is Virt None awake = refl
arrives_is Virt (Some p) awake = refl
arrives_is Native None awake = refl
arrives_is Native (Some p) awake = refl
arrives_is Cna None awake = refl
arrives_is Cna (Some p) awake = refl
arrives_is Pv tail awake = cc

to_lead : {mode : Mode} (f : Frame) → LeadsTo mode f G4 G7 Prepared Leads
to_lead f = record {
  was = refl;
  now = refl;
  on_way = refl;
  noded = refl;
  slow = refl;
  unlinked = λ e. grind arith;
  unhanded = λ e. grind arith;
  fixed = refl;
  awake = refl;
  unaware = λ e. cc;
  plainly = λ e. cc;
}

module _ {a : Acting} (at : StandsAwake a G4) where
  -- it has not heard of a second queue
  unheard : a.frame.second ≡ None
  unheard = (fit_here at).choice.unaware G4 at.place refl

  abbrev joined : Fields
  joined = record (a.world.word a.frame.lock) { tail = a.frame.me }

  joined_is : joined
      ≡ record {
        locked = (a.world.word a.frame.lock).locked;
        pending = (a.world.word a.frame.lock).pending;
        tail = Some ((snapshot a.world).own a.by);
      }
  joined_is = ap (λ (t : Option NodeName). record (a.world.word a.frame.lock) { tail = t })
      (own_node_here at (ap has_node (phase_here at)))

  -- it joins the queue, and goes on
  abbrev ArriveKept : Lead → Type 0
  ArriveKept lead =
      Kept a (lead_on (put_word a.world a.frame.lock joined) a.by a.frame lead)
      (Says (Arrive a.frame.lock))

  arrive_first : (a.world.word a.frame.lock).tail ≡ None → ArriveKept (Goes G7 [])
  arrive_first none =
      let on =
      going_word (word_going at (to_lead a.frame) joined (at.sound.plain.byte at.kind a.frame.lock))
      joined_is in
      goes_kept at on (Says (Arrive a.frame.lock))
      (law_arrive at.sound.agrees (awake_here at) (going_step at on) (going_stays on)
      (λ n. refl) (turn_kept on.turn ∙ unheard) (inl (none, refl)))
      (allow_arrive a.rules at.sound.agrees a.by a.frame.lock (phase_shown at ∙ phase_here at))

  arrive_behind : (p : NodeName) → (a.world.word a.frame.lock).tail ≡ Some p
      → ArriveKept (Goes G5 (Prev (Some p) ∷ []))
  arrive_behind p met =
      let m = a.world in
      let l = a.frame.lock in
      let g : Frame = record a.frame { prev = Some p; place = Some G5 } in
      let on : Going a (put_word m l joined) g Prepared (Links p) joined =
      record {
        turn = word_turn at.live refl joined;
        word = put_word-here m.word l joined;
        plain = word_plain m l joined at.sound.plain (at.sound.plain.byte at.kind l);
        was = phase_here at;
        now = refl;
        on_way = refl;
        noded = refl;
        me = refl;
        met = λ e. refl;
        next = λ e. absurd (grind arith);
        choice = fixed_choice g G5 refl refl refl (λ e. at.kind) (λ e. unheard) (λ e. cc);
        slow = sym (slow_here at);
        queued = λ q. refl;
      } in
      let on' = going_word on joined_is in
      goes_kept at on' (Says (Arrive l))
      (law_arrive at.sound.agrees (awake_here at) (going_step at on') (going_stays on')
      (λ n. refl) (turn_kept on'.turn ∙ unheard) (inr (p, met, refl)))
      (allow_arrive a.rules at.sound.agrees a.by l (phase_shown at ∙ phase_here at))

  arrive_kept : (tail : Option NodeName) → (a.world.word a.frame.lock).tail ≡ tail
      → ArriveKept (arrives tail)
  unfolding arrives
  arrive_kept None e = arrive_first e
  arrive_kept (Some p) e = arrive_behind p e

pub arrive_awake : KeepsIn false G4
arrive_awake =
    (λ a at goes.
    let tail = (a.world.word a.frame.lock).tail in
    subst (ArriveKept at) (sym (arrives_is a.world.mode tail at.kind)) (arrive_kept at tail refl))

-- G5

linked_is : (mode : Mode) (turns : ℕ) → halts mode ≡ false → after_link mode turns ≡ Goes G6 []
linked_is Virt turns awake = refl
linked_is Native turns awake = refl
linked_is Cna turns awake = refl
linked_is Pv turns awake = cc

to_wait : {mode : Mode} (f : Frame) → LeadsTo mode f G5 G6 (Links (node_of f.prev)) Waits
to_wait f = record {
  was = refl;
  now = refl;
  on_way = refl;
  noded = refl;
  slow = refl;
  unlinked = λ e. grind arith;
  unhanded = λ e. grind arith;
  fixed = refl;
  awake = refl;
  unaware = λ e. inl refl;
  plainly = λ e. cc;
}

pub link_awake : KeepsIn false G5
link_awake =
    (λ a at goes.
    let m = a.world in
    let p = node_of a.frame.prev in
    let y : Node = record (m.node p) { next = a.frame.me } in
    let on = node_going at (to_wait a.frame) p y (at.sound.plain.runs p)
    (λ flat. at.sound.plain.flag flat p) in
    subst (λ (lead : Lead). Kept a (lead_on (put_node m p y) a.by a.frame lead) Nothing)
    (sym (linked_is m.mode m.turns at.kind))
    (goes_kept at on Nothing
    (law_link at.sound.agrees (awake_here at) (going_step at on) (going_stays on)
    (put_rewrites m.node p y)
    (ap (λ (o : Option NodeName). record (m.node p) { next = o })
    (own_node_here at (ap has_node (phase_here at))))) tt))

-- G6

to_front : {mode : Mode} (f : Frame) → LeadsTo mode f G6 G7 Waits Leads
to_front f =
    record {
      was = refl;
      now = refl;
      on_way = refl;
      noded = refl;
      slow = refl;
      unlinked = λ e. grind arith;
      unhanded = λ e. grind arith;
      fixed = refl;
      awake = refl;
      unaware = λ e. cc;
      plainly = λ e. cc;
    }

pub alike_self : (c : Pc) → c ≢ G5 → c ≢ G11 → chooses c ≡ false → may_halt c ≡ false
    → ((f : Frame) → post_at c f ≡ Off) → ReadAlike c c
alike_self c unlinked unhanded fixed awake off =
    record {
      post = λ f. off _ ∙ sym (off f);
      phase = λ b p y. refl;
      slow = refl;
      unlinked = unlinked;
      unhanded = unhanded;
      was_fixed = fixed;
      fixed = fixed;
      awake = awake;
      unaware = λ q. q;
      plainly = λ q. q;
    }

module _ {a : Acting} (at : StandsAwake a G6) where
  abbrev mine : NodeName
  mine = node_of a.frame.me

  abbrev FlagKept : Effect Flag → Type 0
  FlagKept o = Kept a (lead_on (stores_flag a.world mine o.stores) a.by a.frame o.leads) o.tells

  wait_kept : (x : Flag) → (a.world.node mine).flag ≡ x → FlagKept (after_flag x)
  wait_kept flag.Unset e =
      looks_kept at G6 (alike_self G6 (λ q. grind arith) (λ q. grind arith) refl refl (λ f. refl))
  wait_kept flag.Go e =
      let on = look_going at (to_front a.frame) in
      let lead : leads Waits ((a.world.node ((snapshot a.world).own a.by)).flag) ≡ true =
      ap (λ (n : NodeName). leads Waits ((a.world.node n).flag)) (own_here at)
      ∙ ap (leads Waits) e in
      let named : (snapshot (gone_on a a.world (record a.frame { place = Some G7 }))).kept a.by
      ≡ node_in ((a.world.node ((snapshot a.world).own a.by)).flag) =
      turn_kept on.turn ∙ (fit_here at).choice.unaware G6 at.place refl
      ∙ sym (ap (λ (n : NodeName). node_in ((a.world.node n).flag)) (own_here at)
      ∙ ap node_in e) in
      goes_kept at on Nothing
      (law_lead at.sound.agrees (awake_here at) (going_step at on) (going_stays on) (λ n. refl)
      lead named (inl (refl, refl))) tt
  wait_kept (flag.Second n) e =
      let g : Frame = record a.frame { second = Some n; place = Some G7 } in
      let on : Going a a.world g Waits Leads (a.world.word a.frame.lock) =
      record {
        turn = same_turn at.live refl;
        word = refl;
        plain = at.sound.plain;
        was = phase_here at;
        now = refl;
        on_way = refl;
        noded = refl;
        me = refl;
        met = λ q. absurd (grind arith);
        next = λ q. absurd (grind arith);
        choice = fixed_choice g G7 refl refl refl (λ e. at.kind) (λ q. cc) (λ q. cc);
        slow = sym (slow_here at);
        queued = λ p. refl;
      } in
      let lead : leads Waits ((a.world.node ((snapshot a.world).own a.by)).flag) ≡ true =
      ap (λ (n : NodeName). leads Waits ((a.world.node n).flag)) (own_here at)
      ∙ ap (leads Waits) e in
      let named : (snapshot (gone_on a a.world g)).kept a.by ≡ node_in
      ((a.world.node ((snapshot a.world).own a.by)).flag) =
      turn_kept on.turn
      ∙ sym (ap (λ (n : NodeName). node_in ((a.world.node n).flag)) (own_here at) ∙ ap node_in e) in
      goes_kept at on Nothing
      (law_lead at.sound.agrees (awake_here at) (going_step at on) (going_stays on) (λ n. refl)
      lead named (inl (refl, refl))) tt

pub wait_keeps : SpinRowKeeps G6
wait_keeps =
    spin_row_keeps G6 refl (λ a at goes. wait_kept at (a.world.node (node_of a.frame.me)).flag refl)
