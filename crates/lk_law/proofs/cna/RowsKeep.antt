-- The rows of the choice of the next keep every sound world.
use Rattle.std.proofs.Common.{◌≡◌, ◌≢◌, ◌<◌, ◌⊎◌, inl, inr, ℕ, suc, Option, Some, None, Bool, true}
use Rattle.std.proofs.Common.{[], false, ◌∷◌, arith, ap, refl, sym, ◌∙◌, slice_get, if◌then◌else◌}
use Rattle.std.proofs.Common.{is_some, ◌+◌}
use Rattle.lk_law.proofs.Names.{ltb-true, Fields, NodeName, Waiter, node_of, A, B, Effect, K}
use Rattle.lk_law.proofs.Names.{Nothing, Reason, Y, Frame, Pc, C1, C2, C3, C4, C5, C6, C7, C8, C9}
use Rattle.lk_law.proofs.Names.{C10, G5, G11, Why, after_none, after_tail, may_stay, search_first}
use Rattle.lk_law.proofs.Names.{search_on, Knows, CnaAgrees, moves_aside, chooses, is_slow, Holds}
use Rattle.lk_law.proofs.Names.{kept_in, phase_at, phase_if, phase_of, post_at, post_if, post_on}
use Rattle.lk_law.proofs.Names.{snapshot, stage_at, stage_if, stage_on, stage_why, Off, ChoiceFits}
use Rattle.lk_law.proofs.Names.{Snapshot, SpinRowKeeps, IsPlain, Stage, hangs, tied, Skips, lead_on}
use Rattle.lk_law.proofs.Names.{sight_in, stores_next, stores_second, World}
use Rattle.lk_rows.specs.Row.{T, Second, learns_all}
use Rattle.lk_law.proofs.{cna.Front.tail_known, cna.Laws.{Twofold, here, front, law_search}}
use Rattle.lk_law.proofs.cna.Scan.{c1_skip, c1_pick, c1_flush, c1_promote, c2_skip, c2_meet}
use Rattle.lk_law.proofs.{cna.Scan.{c2_first, c2_flush, c2_pick}, cna.Seen.seen_as}
use Rattle.lk_law.proofs.cna.Tails.{c3_append, c3_flush, c3_promote}
use Rattle.lk_law.proofs.common.Acting.{Acting, StandsAwake, Kept, spin_row_keeps, fit_here}
use Rattle.lk_law.proofs.common.Acting.{phase_here, phase_shown, own_here, slow_here, Going}
use Rattle.lk_law.proofs.common.Acting.{gone_on, going_step, going_stays, goes_kept, awake_here}
use Rattle.lk_law.proofs.{common.Choices.choosing, common.Puts.if_cases}
use Rattle.lk_law.proofs.common.TurnSteps.{turn_stage, turn_kept, turn_post}
use Rattle.lk_law.proofs.{common.Turns.{Turn, same_turn}, common.Users.some_is}
use Rattle.lk_law.proofs.common.Worlds.{stage_on-here, post_on-off}
use Rattle.lk_law.proofs.{spin.Laws.{law_same, step_same}, spin.PendingRowsKeep.none_is}
use Rattle.lk_law.specs.Registers.{returns, knows_first, knows_last}
use Rattle.lk_rows.specs.declared.parts.Why.TheVariants as why

-- a row of the choice is one of a front that holds the lock
record IsChoice (c : Pc) : Type 0 where
  phase : (b : Bool) (prev y : NodeName) → phase_at c b prev y ≡ Holds
  slow : is_slow (Some c) ≡ true
  unlinked : c ≢ G5
  unhanded : c ≢ G11

is_choice : (c : Pc) → chooses c ≡ true → IsChoice c
is_choice C1 h = record { phase = λ b p y. refl; slow = refl; unlinked = λ e. grind arith; unhanded = λ e. grind arith }
is_choice C2 h = record { phase = λ b p y. refl; slow = refl; unlinked = λ e. grind arith; unhanded = λ e. grind arith }
is_choice C3 h = record { phase = λ b p y. refl; slow = refl; unlinked = λ e. grind arith; unhanded = λ e. grind arith }
is_choice C4 h = record { phase = λ b p y. refl; slow = refl; unlinked = λ e. grind arith; unhanded = λ e. grind arith }
is_choice C5 h = record { phase = λ b p y. refl; slow = refl; unlinked = λ e. grind arith; unhanded = λ e. grind arith }
is_choice C6 h = record { phase = λ b p y. refl; slow = refl; unlinked = λ e. grind arith; unhanded = λ e. grind arith }
is_choice C7 h = record { phase = λ b p y. refl; slow = refl; unlinked = λ e. grind arith; unhanded = λ e. grind arith }
is_choice C8 h = record { phase = λ b p y. refl; slow = refl; unlinked = λ e. grind arith; unhanded = λ e. grind arith }
is_choice C9 h = record { phase = λ b p y. refl; slow = refl; unlinked = λ e. grind arith; unhanded = λ e. grind arith }
is_choice C10 h = record { phase = λ b p y. refl; slow = refl; unlinked = λ e. grind arith; unhanded = λ e. grind arith }
is_choice _ h = cc

chooses_off : (c : Pc) (f : Frame) → chooses c ≡ true → post_at c f ≡ Off
chooses_off c f h = grind arith

module _ {a : Acting} {c : Pc} (at : StandsAwake a c) (on : chooses c ≡ true) where
  pub aside_here : moves_aside a.world.mode ≡ true
  aside_here = (fit_here at).choice.choice c at.place on

  pub holds_here : phase_of a.frame ≡ Holds
  holds_here = phase_here at ∙ (is_choice c on).phase (is_some a.frame.me) (node_of a.frame.prev) (node_of a.frame.y)

  pub holds_shown : (snapshot a.world).phase a.frame.lock a.by ≡ Holds
  holds_shown = phase_shown at ∙ holds_here

  pub stage_shown : (snapshot a.world).stage a.frame.lock a.by ≡ stage_at c a.frame
  stage_shown = ap (stage_on a.frame.lock) at.live ∙ stage_on-here a.frame.lock a.frame refl
      ∙ ap (λ (o : Option Pc). stage_if o a.frame) at.place

  pub kept_shown : (snapshot a.world).kept a.by ≡ a.frame.second
  kept_shown = ap kept_in at.live

  pub lists_here : Twofold (snapshot a.world) (a.histories a.frame.lock) a.frame.lock
  lists_here = here at.sound.agrees aside_here

  pub front_here : slice_get (a.histories a.frame.lock).main 0 ≡ Some a.by
  front_here = front at.sound.agrees holds_shown

  -- the front goes on: n is the world after its store, and d its next row
  pub choice_going : {n : World} {x : Fields} (g : Frame) (d : Pc)
      → Turn a.world n a.by a.frame g (a.world.held a.by a.frame.lock) → n.word a.frame.lock ≡ x
      → IsPlain n → ((p : ℕ) → n.queued p ≡ a.world.queued p) → g.place ≡ Some d → chooses d ≡ true
      → g.me ≡ a.frame.me → ChoiceFits a.world.mode g → Going a n g Holds Holds x
  choice_going g d turn word plain queued place goes me fits =
      let to = is_choice d goes in
      record {
        turn = turn;
        word = word;
        plain = plain;
        was = holds_here;
        now = ap (λ (o : Option Pc). phase_if o (is_some g.me) (node_of g.prev) (node_of g.y)) place
            ∙ to.phase (is_some g.me) (node_of g.prev) (node_of g.y);
        on_way = refl;
        noded = refl;
        me = me;
        met = λ q. absurd (to.unlinked (same G5 q));
        next = λ q. absurd (to.unhanded (same G11 q));
        choice = fits;
        slow = ap is_slow place ∙ to.slow ∙ sym (slow_here at ∙ (is_choice c on).slow);
        queued = queued;
      }
    where
      same : (e : Pc) → g.place ≡ Some e → d ≡ e
      same e q = let r : Some d ≡ Some e = sym place ∙ q in grind (arith, r)

-- the lists after a row of the choice, as the front then knows them
abbrev pub After : (a : Acting) (n : World) (g : Frame) → Type 0
After a n g =
    let s = snapshot a.world in
    let s' = snapshot (gone_on a n g) in
    let h = a.histories a.frame.lock in
    CnaAgrees (s.word a.frame.lock).tail (s.phase a.frame.lock) s.own n.node s.local s.threshold
    (s'.stage a.frame.lock) s'.kept h.main h.second h.passes

-- a row that only looks
module _ {a : Acting} {c : Pc} (at : StandsAwake a c) (on : chooses c ≡ true) (g : Frame) (d : Pc)
    (place : g.place ≡ Some d) (goes : chooses d ≡ true) (lock : g.lock ≡ a.frame.lock)
    (me : g.me ≡ a.frame.me) (fits : ChoiceFits a.world.mode g) where
  abbrev s : Snapshot
  s = snapshot a.world

  abbrev s' : Snapshot
  s' = snapshot (gone_on a a.world g)

  look_on : Going a a.world g Holds Holds (a.world.word a.frame.lock)
  look_on = choice_going at on g d (same_turn at.live lock) refl at.sound.plain (λ p. refl) place goes me fits

  pub look_now : s'.stage a.frame.lock a.by ≡ stage_at d g
  look_now = turn_stage look_on.turn ∙ ap (λ (o : Option Pc). stage_if o g) place

  pub look_kept : s'.kept a.by ≡ g.second
  look_kept = turn_kept look_on.turn

  pub look_others : (u : Waiter) → u ≢ a.by → s'.stage a.frame.lock u ≡ s.stage a.frame.lock u
  look_others = (going_step at look_on).stages a.frame.lock

  pub choice_kept : After a a.world g → Kept a (gone_on a a.world g) Nothing
  choice_kept lists =
      goes_kept at look_on Nothing
      (law_search at.sound.agrees (awake_here at) (aside_here at on) (going_step at look_on)
      (going_stays look_on) (λ k u ne p. refl) lists) tt

  pub choice_same : stage_at d g ≡ stage_at c a.frame → g.second ≡ a.frame.second
      → Kept a (gone_on a a.world g) Nothing
  choice_same stage kept =
      let knows : Knows s s' a.by a.frame.lock = record {
        stage = look_now ∙ stage ∙ sym (stage_shown at on);
        kept = look_kept ∙ kept ∙ sym (kept_shown at on);
        post = turn_post look_on.turn ∙ ap (λ (o : Option Pc). post_if o g) place
            ∙ chooses_off d g goes
            ∙ sym (ap (post_on a.frame.lock) at.live
            ∙ post_on-off a.frame.lock a.frame
            (ap (λ (o : Option Pc). post_if o a.frame) at.place ∙ chooses_off c a.frame on));
        entry = refl;
        kicked = λ p. refl;
      } in
      goes_kept at look_on Nothing
      (law_same at.sound.agrees
      (step_same (going_step at look_on) (going_stays look_on) knows (λ n. refl))) tt

-- C1

module _ {a : Acting} (at : StandsAwake a C1) where
  abbrev before : Snapshot
  before = snapshot a.world

  abbrev mine : NodeName
  mine = node_of a.frame.me

  abbrev NextKept : Effect (Option NodeName) → Type 0
  NextKept o = Kept a (lead_on (stores_next a.world mine o.stores) a.by a.frame o.leads) o.tells

  next_shown : (x : Option NodeName) → (a.world.node mine).next ≡ x
      → (a.world.node (before.own a.by)).next ≡ x
  next_shown x e = ap (λ (n : NodeName). (a.world.node n).next) (own_here at) ∙ e

  short_shown : may_stay (sight_in a.world a.by a.frame) ≡ true
      → (a.world.node (before.own a.by)).runs < a.world.threshold
  short_shown e = rw (own_here at) (ltb-true (a.world.node mine).runs a.world.threshold e)

  -- nobody is behind it, and nobody stands aside: it looks again
  first_again : NextKept (learns_all C1 (K 0 ∷ []))
  first_again =
      let g : Frame = record a.frame { k = 0; place = Some C1 } in
      choice_same at refl g C1 refl refl refl refl
      (choosing g C1 refl refl (aside_here at refl) (λ e. cc) (λ e. cc) (λ e. cc) (λ e. cc)
      (λ e. cc)) refl refl

  -- nobody is behind it: those that stand aside return as the rest
  first_promotes : is_some a.frame.second ≡ true
      → NextKept (learns_all C3 (K 0 ∷ Reason why.Promotion ∷ []))
  first_promotes some =
      let g : Frame = record a.frame { k = 0; why = why.Promotion; place = Some C3 } in
      let fits : ChoiceFits a.world.mode g =
      choosing g C3 refl refl (aside_here at refl) (λ e. some) (λ e. refl) (λ e. cc) (λ e. cc)
      (λ e. cc) in
      choice_kept at refl g C3 refl refl refl refl fits
      (c1_promote (lists_here at refl) (front_here at refl) (holds_shown at refl)
      (look_others at refl g C3 refl refl refl refl fits)
      (stage_shown at refl) (look_now at refl g C3 refl refl refl refl fits)
      (look_kept at refl g C3 refl refl refl refl fits ∙ sym (kept_shown at refl)))

  -- the next is local, or nobody stands aside: the lead goes to it
  first_picks : (n : NodeName) → (a.world.node mine).next ≡ Some n
      → (may_stay (sight_in a.world a.by a.frame) ≡ true) ⊎ (a.frame.second ≡ None)
      → NextKept (learns_all C7 (K 0 ∷ Y (Some n) ∷ []))
  first_picks n e may =
      let g : Frame = record a.frame { k = 0; y = Some n; place = Some C7 } in
      let fits : ChoiceFits a.world.mode g =
      choosing g C7 refl refl (aside_here at refl) (λ q. cc) (λ q. cc) (λ q. cc) (λ q. cc)
      (λ q. cc) in
      choice_kept at refl g C7 refl refl refl refl fits
      (c1_pick (lists_here at refl) (front_here at refl) (holds_shown at refl)
      (look_others at refl g C7 refl refl refl refl fits)
      n (stage_shown at refl) (look_now at refl g C7 refl refl refl refl fits)
      (look_kept at refl g C7 refl refl refl refl fits ∙ sym (kept_shown at refl))
      (next_shown (Some n) e)
      (elim may [ inl s ↦ inl (short_shown s) | inr none ↦ inr (kept_shown at refl ∙ none) ]))

  -- the next is not local: it is passed over
  first_skips : (n : NodeName) → (a.world.node mine).next ≡ Some n
      → may_stay (sight_in a.world a.by a.frame) ≡ true
      → (sight_in a.world a.by a.frame).local n ≡ false
      → NextKept (learns_all C2 (K 1 ∷ A (Some n) ∷ B (Some n) ∷ []))
  first_skips n e may far =
      let g : Frame = record a.frame { k = 1; a = Some n; b = Some n; place = Some C2 } in
      let fits : ChoiceFits a.world.mode g =
      choosing g C2 refl refl (aside_here at refl) (λ q. cc) (λ q. cc) (λ q. refl) (λ q. refl)
      (λ q. cc) in
      choice_kept at refl g C2 refl refl refl refl fits
      (c1_skip (lists_here at refl) (front_here at refl) (holds_shown at refl)
      (look_others at refl g C2 refl refl refl refl fits)
      n (stage_shown at refl) (look_now at refl g C2 refl refl refl refl fits)
      (look_kept at refl g C2 refl refl refl refl fits ∙ sym (kept_shown at refl))
      (next_shown (Some n) e) (seen_as at n false far) (short_shown may))

  -- the lead stayed long enough on this socket: those that stand aside return before the rest
  first_flushes : (n : NodeName) → (a.world.node mine).next ≡ Some n → is_some a.frame.second ≡ true
      → NextKept (learns_all C3 (K 0 ∷ A (Some n) ∷ Reason why.Flush ∷ []))
  first_flushes n e some =
      let g : Frame = record a.frame { k = 0; a = Some n; why = why.Flush; place = Some C3 } in
      let fits : ChoiceFits a.world.mode g =
      choosing g C3 refl refl (aside_here at refl) (λ q. some) (λ q. refl) (λ q. refl) (λ q. cc)
      (λ q. cc) in
      choice_kept at refl g C3 refl refl refl refl fits
      (c1_flush (lists_here at refl) (front_here at refl) (holds_shown at refl)
      (look_others at refl g C3 refl refl refl refl fits)
      n (stage_shown at refl) (look_now at refl g C3 refl refl refl refl fits)
      (look_kept at refl g C3 refl refl refl refl fits ∙ sym (kept_shown at refl))
      (next_shown (Some n) e))

  first_none_kept : (second : Option NodeName) → a.frame.second ≡ second
      → NextKept (after_none second)
  first_none_kept None e = first_again
  first_none_kept (Some m) e = first_promotes (ap is_some e)

  first_kept : (x : Option NodeName) → (a.world.node mine).next ≡ x
      → NextKept (search_first (sight_in a.world a.by a.frame) a.frame.second x)
  first_kept None e = first_none_kept a.frame.second refl
  first_kept (Some n) e =
      let sight = sight_in a.world a.by a.frame in
      let picks = learns_all C7 (K 0 ∷ Y (Some n) ∷ []) in
      let skips = learns_all C2 (K 1 ∷ A (Some n) ∷ B (Some n) ∷ []) in
      let flushes = learns_all C3 (K 0 ∷ A (Some n) ∷ Reason why.Flush ∷ []) in
      if_cases NextKept (may_stay sight) (if sight.local n then picks else skips)
      (if is_some a.frame.second then flushes else picks)
      (λ may.
      if_cases NextKept (sight.local n) picks skips (λ near. first_picks n e (inl may)) (λ far. first_skips n e may far))
      (λ long. if_cases NextKept (is_some a.frame.second) flushes picks
      (λ some. first_flushes n e some)
      (λ none. first_picks n e (inr (none_is a.frame.second none))))

pub choice_look_keeps : SpinRowKeeps C1
choice_look_keeps = spin_row_keeps C1 refl (λ a at goes. first_kept at (a.world.node (node_of a.frame.me)).next refl)

-- C2

module _ {a : Acting} (at : StandsAwake a C2) where
  abbrev from : Snapshot
  from = snapshot a.world

  abbrev past : NodeName
  past = node_of a.frame.b

  abbrev OnKept : Effect (Option NodeName) → Type 0
  OnKept o = Kept a (lead_on (stores_next a.world past o.stores) a.by a.frame o.leads) o.tells

  knows_a : is_some a.frame.a ≡ true
  knows_a = (fit_here at).choice.first C2 at.place refl

  knows_b : is_some a.frame.b ≡ true
  knows_b = (fit_here at).choice.last C2 at.place refl

  -- one more that is not local is passed over
  on_skips : (n : NodeName) → (a.world.node past).next ≡ Some n
      → (sight_in a.world a.by a.frame).local n ≡ false
      → OnKept (learns_all C2 (B (Some n) ∷ K (a.frame.k + 1) ∷ []))
  on_skips n e far =
      let g : Frame = record a.frame { b = Some n; k = a.frame.k + 1; place = Some C2 } in
      let fits : ChoiceFits a.world.mode g =
      choosing g C2 refl refl (aside_here at refl) (λ q. cc) (λ q. cc) (λ q. knows_a)
      (λ q. refl) (λ q. cc) in
      let more : a.frame.k + 1 ≡ suc a.frame.k = omega arith in
      choice_kept at refl g C2 refl refl refl refl fits
      (c2_skip (lists_here at refl) (front_here at refl) (holds_shown at refl)
      (look_others at refl g C2 refl refl refl refl fits)
      (node_of a.frame.a) past n a.frame.k (stage_shown at refl)
      (look_now at refl g C2 refl refl refl refl fits ∙ ap (Skips (node_of a.frame.a) n) more)
      (look_kept at refl g C2 refl refl refl refl fits ∙ sym (kept_shown at refl)) e
      (seen_as at n false far))

  -- a local one is found, and the second queue gets those that were passed over
  on_meets : (n : NodeName) → (a.world.node past).next ≡ Some n
      → (sight_in a.world a.by a.frame).local n ≡ true
      → is_some a.frame.second ≡ true → OnKept (learns_all C3 (Y (Some n) ∷ Reason why.Append ∷ []))
  on_meets n e near some =
      let g : Frame = record a.frame { y = Some n; why = why.Append; place = Some C3 } in
      let fits : ChoiceFits a.world.mode g =
      choosing g C3 refl refl (aside_here at refl) (λ q. some) (λ q. cc) (λ q. knows_a)
      (λ q. knows_b) (λ q. cc) in
      choice_kept at refl g C3 refl refl refl refl fits
      (c2_meet (lists_here at refl) (front_here at refl) (holds_shown at refl)
      (look_others at refl g C3 refl refl refl refl fits)
      (node_of a.frame.a) past n a.frame.k (stage_shown at refl)
      (look_now at refl g C3 refl refl refl refl fits)
      (look_kept at refl g C3 refl refl refl refl fits ∙ sym (kept_shown at refl)) e
      (seen_as at n true near))

  -- the same, and nobody stands aside yet
  on_ties : (n : NodeName) → (a.world.node past).next ≡ Some n
      → (sight_in a.world a.by a.frame).local n ≡ true
      → a.frame.second ≡ None → OnKept (learns_all C5 (Y (Some n) ∷ Second a.frame.a ∷ []))
  on_ties n e near none =
      let g : Frame = record a.frame { y = Some n; second = a.frame.a; place = Some C5 } in
      let fits : ChoiceFits a.world.mode g =
      choosing g C5 refl refl (aside_here at refl) (λ q. knows_a) (λ q. cc) (λ q. cc)
      (λ q. knows_b) (λ q. cc) in
      choice_kept at refl g C5 refl refl refl refl fits
      (c2_first (lists_here at refl) (front_here at refl) (holds_shown at refl)
      (look_others at refl g C5 refl refl refl refl fits)
      (node_of a.frame.a) past n a.frame.k (stage_shown at refl)
      (look_now at refl g C5 refl refl refl refl fits) (kept_shown at refl ∙ none)
      (look_kept at refl g C5 refl refl refl refl fits ∙ some_is a.frame.a knows_a) e
      (seen_as at n true near))

  -- nobody local is found: those that stand aside return
  on_flushes : is_some a.frame.second ≡ true → OnKept (learns_all C3 (K 0 ∷ Reason why.Flush ∷ []))
  on_flushes some =
      let g : Frame = record a.frame { k = 0; why = why.Flush; place = Some C3 } in
      let fits : ChoiceFits a.world.mode g =
      choosing g C3 refl refl (aside_here at refl) (λ q. some) (λ q. refl) (λ q. knows_a)
      (λ q. cc) (λ q. cc) in
      choice_kept at refl g C3 refl refl refl refl fits
      (c2_flush (lists_here at refl) (front_here at refl) (holds_shown at refl)
      (look_others at refl g C3 refl refl refl refl fits)
      (node_of a.frame.a) past a.frame.k (stage_shown at refl)
      (look_now at refl g C3 refl refl refl refl fits)
      (look_kept at refl g C3 refl refl refl refl fits ∙ sym (kept_shown at refl)))

  -- and where nobody does the lead goes to the first that was passed over
  on_picks : a.frame.second ≡ None → OnKept (learns_all C7 (K 0 ∷ Y a.frame.a ∷ []))
  on_picks none =
      let g : Frame = record a.frame { k = 0; y = a.frame.a; place = Some C7 } in
      let fits : ChoiceFits a.world.mode g =
      choosing g C7 refl refl (aside_here at refl) (λ q. cc) (λ q. cc) (λ q. cc) (λ q. cc)
      (λ q. cc) in
      choice_kept at refl g C7 refl refl refl refl fits
      (c2_pick (lists_here at refl) (front_here at refl) (holds_shown at refl)
      (look_others at refl g C7 refl refl refl refl fits)
      (node_of a.frame.a) past a.frame.k (stage_shown at refl)
      (look_now at refl g C7 refl refl refl refl fits) (kept_shown at refl ∙ none)
      (look_kept at refl g C7 refl refl refl refl fits ∙ none))

  on_kept : (x : Option NodeName) → (a.world.node past).next ≡ x
      → OnKept (search_on (sight_in a.world a.by a.frame) a.frame x)
  on_kept None e =
      if_cases OnKept (is_some a.frame.second) (learns_all C3 (K 0 ∷ Reason why.Flush ∷ []))
      (learns_all C7 (K 0 ∷ Y a.frame.a ∷ [])) on_flushes
      (λ none. on_picks (none_is a.frame.second none))
  on_kept (Some n) e =
      let meets = learns_all C3 (Y (Some n) ∷ Reason why.Append ∷ []) in
      let ties = learns_all C5 (Y (Some n) ∷ Second a.frame.a ∷ []) in
      if_cases OnKept ((sight_in a.world a.by a.frame).local n)
      (if is_some a.frame.second then meets else ties)
      (learns_all C2 (B (Some n) ∷ K (a.frame.k + 1) ∷ []))
      (λ near. if_cases OnKept (is_some a.frame.second) meets ties (λ some. on_meets n e near some)
      (λ none. on_ties n e near (none_is a.frame.second none)))
      (λ far. on_skips n e far)

pub choice_pass_over_keeps : SpinRowKeeps C2
choice_pass_over_keeps = spin_row_keeps C2 refl (λ a at goes. on_kept at (a.world.node (node_of a.frame.b)).next refl)

-- C3

module _ {a : Acting} (at : StandsAwake a C3) where
  abbrev head : NodeName
  head = node_of a.frame.second

  abbrev met_tail : Option NodeName
  met_tail = (a.world.node head).second_tail

  abbrev TailKept : Effect (Option NodeName) → Type 0
  TailKept o = Kept a (lead_on (stores_second a.world head o.stores) a.by a.frame o.leads) o.tells

  knows_head : is_some a.frame.second ≡ true
  knows_head = (fit_here at).choice.second C3 at.place refl

  head_kept : (snapshot a.world).kept a.by ≡ Some head
  head_kept = kept_shown at refl ∙ some_is a.frame.second knows_head

  why_shown : (y : Why) → a.frame.why ≡ y
      → (snapshot a.world).stage a.frame.lock a.by ≡ stage_why a.frame y
  why_shown y e = stage_shown at refl ∙ ap (stage_why a.frame) e

  -- the first of the second queue names the last
  tail_is : (g : Stage) → (snapshot a.world).stage a.frame.lock a.by ≡ g → tied g ≡ false
      → hangs g ≡ None → met_tail ≡ Some (node_of met_tail)
  tail_is g is loose free =
      let t = tail_known (lists_here at refl) (front_here at refl) (holds_shown at refl) is head loose free head_kept in
      some_is met_tail (ap is_some t.1)

  tail_appends : a.frame.why ≡ why.Append → TailKept (learns_all C4 (T met_tail ∷ []))
  tail_appends e =
      let g : Frame = record a.frame { t = met_tail; place = Some C4 } in
      let is = why_shown why.Append e in
      let fits : ChoiceFits a.world.mode g =
      choosing g C4 refl refl (aside_here at refl) (λ q. knows_head) (λ q. cc)
      (λ q. (fit_here at).choice.first C3 at.place (ap (knows_first C3) e))
      (λ q. (fit_here at).choice.last C3 at.place (ap (knows_last C3) e)) (λ q. cc) in
      choice_kept at refl g C4 refl refl refl refl fits
      (c3_append (lists_here at refl) (front_here at refl) (holds_shown at refl)
      (look_others at refl g C4 refl refl refl refl fits)
      (node_of a.frame.a) (node_of a.frame.b) a.frame.k (node_of a.frame.y) (node_of met_tail) head
      is (look_now at refl g C4 refl refl refl refl fits)
      (look_kept at refl g C4 refl refl refl refl fits ∙ sym (kept_shown at refl)) head_kept (tail_is _ is refl refl))

  tail_flushes : a.frame.why ≡ why.Flush → TailKept (learns_all C9 (T met_tail ∷ []))
  tail_flushes e =
      let g : Frame = record a.frame { t = met_tail; place = Some C9 } in
      let is = why_shown why.Flush e in
      let fits : ChoiceFits a.world.mode g =
      choosing g C9 refl refl (aside_here at refl) (λ q. knows_head)
      (λ q. (fit_here at).choice.nobody C3 at.place (ap (returns C3) e))
      (λ q. (fit_here at).choice.first C3 at.place (ap (knows_first C3) e)) (λ q. cc) (λ q. cc) in
      choice_kept at refl g C9 refl refl refl refl fits
      (c3_flush (lists_here at refl) (front_here at refl) (holds_shown at refl)
      (look_others at refl g C9 refl refl refl refl fits)
      (node_of a.frame.a) (node_of met_tail) head is (look_now at refl g C9 refl refl refl refl fits)
      (look_kept at refl g C9 refl refl refl refl fits ∙ sym (kept_shown at refl)) head_kept (tail_is _ is refl refl))

  tail_promotes : a.frame.why ≡ why.Promotion → TailKept (learns_all C10 (T met_tail ∷ []))
  tail_promotes e =
      let g : Frame = record a.frame { t = met_tail; place = Some C10 } in
      let is = why_shown why.Promotion e in
      let some = tail_is _ is refl refl in
      let fits : ChoiceFits a.world.mode g =
      choosing g C10 refl refl (aside_here at refl) (λ q. knows_head)
      (λ q. (fit_here at).choice.nobody C3 at.place (ap (returns C3) e))
      (λ q. cc) (λ q. cc) (λ q. ap is_some some) in
      choice_kept at refl g C10 refl refl refl refl fits
      (c3_promote (lists_here at refl) (front_here at refl) (holds_shown at refl)
      (look_others at refl g C10 refl refl refl refl fits)
      (node_of met_tail) head is (look_now at refl g C10 refl refl refl refl fits)
      (look_kept at refl g C10 refl refl refl refl fits ∙ sym (kept_shown at refl)) head_kept some)

  tail_kept : (y : Why) → a.frame.why ≡ y → TailKept (learns_all (after_tail y) (T met_tail ∷ []))
  tail_kept why.Append e = tail_appends e
  tail_kept why.Flush e = tail_flushes e
  tail_kept why.Promotion e = tail_promotes e

pub choice_find_tail_keeps : SpinRowKeeps C3
choice_find_tail_keeps = spin_row_keeps C3 refl (λ a at goes. tail_kept at a.frame.why refl)
