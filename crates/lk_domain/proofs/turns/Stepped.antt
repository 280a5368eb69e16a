-- What the step calls do to the calls of their processor.
use Rattle.std.proofs.Common.{◌≡◌, ◌⊎◌, inl, inr, ℕ, ◌≤◌, List, ◌∷◌, length, Some, Bool, true}
use Rattle.std.proofs.Common.{false, eqb, refl, sym, ap, ◌∙◌, subst, ◌||◌, Option, ◌&&◌, not}
use Rattle.lk_domain.proofs.Names.{Me, NodeName, LockName, Mode, target, Unset, Frame, Pc, C1, C2}
use Rattle.lk_domain.proofs.Names.{C8, C10, G1, G4, G8, G9, G10, G11, P1, P2, P4, U1, Verb, Lock}
use Rattle.lk_domain.proofs.Names.{Read, Try, Write, is_sole, is_slow, Flagged, Linked, Met, Number}
use Rattle.lk_domain.proofs.Names.{Word, IsThen, Calls, Outlook, Running, StandsOn, acting}
use Rattle.lk_domain.proofs.Names.{are_calls, row_of, running, sight_of, slow_in, slows, terms_of}
use Rattle.lk_domain.proofs.Names.{Slot, Steps, Enters, Hands, looks_behind, ActsIn, MadeBy}
use Rattle.lk_domain.proofs.Names.{arrives_by, claims_by, clears_by, frees_by, is_patient, looks_by}
use Rattle.lk_domain.proofs.Names.{pends_by, promotes_by, queues_up, soles_by, stakes_by, takes_by}
use Rattle.lk_domain.proofs.Names.{own_number, View}
use Rattle.lk_domain.proofs.Acting.{acting_is, acts_on, begins_on}
use Rattle.lk_domain.proofs.{Turned.{Turn, turn, is_opening, is_taking}, rows.Grips.IsOwn}
use Rattle.lk_domain.proofs.turns.Courses.{Outcome, look_kind, take_kind, free_kind, pend_kind}
use Rattle.lk_domain.proofs.turns.Courses.{clear_kind, claim_kind, arrive_kind, sole_kind}
use Rattle.lk_domain.proofs.turns.Courses.{stake_kind, promote_kind}
use Rattle.lk_domain.proofs.{words.Numbers.{look_on, take_on}, words.OnWords.{OnWord, on_word}}
use Rattle.lk_domain.specs.{NodePlays.AtRow, Plays.Goes, Rows.{looks_on, takes_on, take_holds}}
use Rattle.lk_domain.proofs.turns.Courses as course

-- the operations take their locks

pub patient_taking : (v : Verb) → is_patient v ≡ true → is_taking v ≡ true
patient_taking Lock h = refl
patient_taking Read h = refl
patient_taking Write h = refl
patient_taking _ h = cc h

queue_taking : (v : Verb) → queues_up v ≡ true → is_taking v ≡ true
queue_taking Read h = refl
queue_taking Write h = refl
queue_taking _ h = cc h

looks_taking : (v : Verb) (c : Pc) → looks_by v c ≡ true → is_taking v ≡ true
looks_taking Lock c h = refl
looks_taking Try c h = refl
looks_taking Read c h = refl
looks_taking Write c h = refl
looks_taking _ _ h = cc h

takes_taking : (v : Verb) (c : Pc) → takes_by v c ≡ true → is_taking v ≡ true
takes_taking Lock c h = refl
takes_taking Try c h = refl
takes_taking Read c h = refl
takes_taking Write c h = refl
takes_taking _ _ h = cc h

-- on the word of a lock
module _ (v : Verb) (l : LockName) (met : ℕ) (m n : Me Slot View) (made : MadeBy v l.index m met n)
    (calm : are_calls m.0.calls.frames ≡ true) (few : length m.0.calls.frames ≤ 6) where
  abbrev mode : Mode
  mode = m.0.who.plan.mode

  abbrev p : ℕ
  p = own_number m.0.who.number

  -- what the seat sees of the plan and of its count
  abbrev sight : Outlook
  sight = sight_of (terms_of m.0.who.plan) p (acting mode m.0.calls v l.index).runs

  turned : (kind : Pc → Bool) (acts : ActsIn kind m.0 v l) → is_taking v ≡ true
      → OnWord (target acts.acts.row acts.acts.stands.frame) → (waits slow taken : Bool)
      → Outcome mode p sight acts.acts.row acts.acts.stands.frame (Word made.found) waits slow taken
      → Turn m.0.calls n.0.calls l.index acts.acts.row waits slow taken
  turned kind acts takes on waits slow taken outcome =
      let a = acts.acts in
      turn m.0.who.plan p m.0.calls n.0.calls v l a.row (Word made.found) takes calm few a.stands a.begins
      (on_word (target a.row a.stands.frame) on) (ap (λ (x : Me Slot View). x.0.calls) made.seat)
      waits slow taken outcome

  module _ (kind : Pc → Bool) (acts : ActsIn kind m.0 v l) where
    -- the lock of the frame is a wait lock exactly inside a call of a reader or a writer
    inside : acts.acts.stands.frame.lock.wait ≡ queues_up v
    inside = ap (λ (z : LockName). z.wait) acts.acts.stands.lock ∙ acts.inside

    after : acts.acts.stands.frame.lock.wait ≡ true → IsThen acts.acts.stands.frame.then
    after e = acts.after (sym (ap (λ (z : LockName). z.wait) acts.acts.stands.lock) ∙ e)

    -- a row that is c
    row_of_kind : is_patient v ≡ true → (c : Pc) → c ≡ acts.acts.row → ((f : Frame) → OnWord (target c f))
        → (waits slow taken : Bool)
        → Outcome mode p sight c acts.acts.stands.frame (Word made.found) waits slow taken
        → Turn m.0.calls n.0.calls l.index c waits slow taken
    row_of_kind patient c is on waits slow taken outcome =
        subst (λ (z : Pc). Turn m.0.calls n.0.calls l.index z waits slow taken) (sym is)
        (turned kind acts (patient_taking v patient)
        (subst (λ (z : Pc). OnWord (target z acts.acts.stands.frame)) is (on acts.acts.stands.frame)) waits slow taken
        (subst (λ (z : Pc). Outcome mode p sight z acts.acts.stands.frame (Word made.found) waits slow taken) is outcome))

  -- after a look
  pub looks : (acts : ActsIn (looks_by v) m.0 v l)
      → Turn m.0.calls n.0.calls l.index acts.acts.row (looks_on v (eqb met 0)) (is_slow (Some acts.acts.row)) false
  looks acts =
      let a = acts.acts in
      turned (looks_by v) acts (looks_taking v a.row a.is) (look_on a.row a.stands.frame (look_kind v a.row a.is)) _ _ _
      (course.looked mode p a.stands.frame (queues_up v) (inside (looks_by v) acts) (after (looks_by v) acts) made.found _ v a.row met a.is made.word)

  -- after an exchange
  pub takes : (acts : ActsIn (takes_by v) m.0 v l)
      → Turn m.0.calls n.0.calls l.index acts.acts.row (takes_on v (eqb met 0))
      (is_slow (Some acts.acts.row) && not (eqb met 0)) (take_holds v (eqb met 0))
  takes acts =
      let a = acts.acts in
      turned (takes_by v) acts (takes_taking v a.row a.is) (take_on a.row a.stands.frame (take_kind v a.row a.is)) _ _ _
      (course.took mode p a.stands.frame (queues_up v) (inside (takes_by v) acts) (after (takes_by v) acts) made.found _ v a.row met refl a.is made.word)

  -- a wait lock is freed
  pub frees : queues_up v ≡ true → ActsIn (frees_by v) m.0 v l → Turn m.0.calls n.0.calls l.index U1 false false false
  frees queues acts =
      let a = acts.acts in
      let is : U1 ≡ a.row = (free_kind v a.row a.is).1 in
      subst (λ (z : Pc). Turn m.0.calls n.0.calls l.index z false false false) (sym is)
      (turned (frees_by v) acts (queue_taking v queues) (subst (λ (z : Pc). OnWord (target z a.stands.frame)) is tt) false false false
      (subst (λ (z : Pc). Outcome mode p sight z a.stands.frame (Word made.found) false false false) is
      (course.freed mode p a.stands.frame (queues_up v) (inside (frees_by v) acts) (after (frees_by v) acts) made.found queues)))

  -- the pending path, and the queue

  pub pends : ActsIn (pends_by v) m.0 v l → Turn m.0.calls n.0.calls l.index P1 true false false
  pends acts =
      let z = pend_kind v acts.acts.row acts.acts.is in
      row_of_kind (pends_by v) acts z.1 P1 z.2 (λ f. tt) true false false
      (course.pended mode p acts.acts.stands.frame (queues_up v) (inside (pends_by v) acts) (after (pends_by v) acts) made.found)

  pub clears : ActsIn (clears_by v) m.0 v l → Turn m.0.calls n.0.calls l.index P2 true false false
  clears acts =
      let z = clear_kind v acts.acts.row acts.acts.is in
      row_of_kind (clears_by v) acts z.1 P2 z.2 (λ f. tt) true false false
      (course.cleared mode p acts.acts.stands.frame (queues_up v) (inside (clears_by v) acts) (after (clears_by v) acts) made.found)

  pub claims : ActsIn (claims_by v) m.0 v l
      → Turn m.0.calls n.0.calls l.index P4 (queues_up v) false (not (queues_up v))
  claims acts =
      let z = claim_kind v acts.acts.row acts.acts.is in
      row_of_kind (claims_by v) acts z.1 P4 z.2 (λ f. tt) _ _ _
      (course.claimed mode p acts.acts.stands.frame (queues_up v) (inside (claims_by v) acts) (after (claims_by v) acts) made.found)

  pub arrives : ActsIn (arrives_by v) m.0 v l → Turn m.0.calls n.0.calls l.index G4 true true false
  arrives acts =
      let z = arrive_kind v acts.acts.row acts.acts.is in
      row_of_kind (arrives_by v) acts z.1 G4 z.2 (λ f. tt) true true false
      (course.arrived mode p acts.acts.stands.frame (queues_up v) (inside (arrives_by v) acts) (after (arrives_by v) acts) made.found)

  pub stakes : ActsIn (stakes_by v) m.0 v l → Turn m.0.calls n.0.calls l.index G9 true true false
  stakes acts =
      let z = stake_kind v acts.acts.row acts.acts.is in
      row_of_kind (stakes_by v) acts z.1 G9 z.2 (λ f. tt) true true false
      (course.staked mode p acts.acts.stands.frame (queues_up v) (inside (stakes_by v) acts) (after (stakes_by v) acts) made.found)

  -- a second queue returns to the lock's queue
  pub promotes : ActsIn (promotes_by v) m.0 v l → Turn m.0.calls n.0.calls l.index C10 true true false
  promotes acts =
      let z = promote_kind v acts.acts.row acts.acts.is in
      row_of_kind (promotes_by v) acts z.1 C10 z.2 (λ f. tt) true true false
      (course.promoted mode p acts.acts.stands.frame (queues_up v) (inside (promotes_by v) acts) (after (promotes_by v) acts) made.found _ refl)

  pub soles : (acts : ActsIn (soles_by v) m.0 v l) (b : Bool) → is_sole acts.acts.stands.frame made.found ≡ b
      → Turn m.0.calls n.0.calls l.index G8 (queues_up v || not b) (not b) (not (queues_up v) && b)
  soles acts b e =
      let z = sole_kind v acts.acts.row acts.acts.is in
      row_of_kind (soles_by v) acts z.1 G8 z.2 (λ f. tt) _ _ _
      (course.soled mode p acts.acts.stands.frame (queues_up v) (inside (soles_by v) acts) (after (soles_by v) acts) made.found b e)

  -- with what the processor notes and computes

  pub looks_noted : ActsIn (looks_by v) m.0 v l → (w s : Bool) → w ≡ looks_on v (eqb met 0)
      → s ≡ slow_in m.0.calls.frames l.index → Steps m.0.calls n.0.calls l.index w s false
  looks_noted acts w s e was =
      let t = looks acts in
      subst (λ (b : Bool). Steps m.0.calls n.0.calls l.index b s false) (sym e)
      (subst (λ (b : Bool). Steps m.0.calls n.0.calls l.index (looks_on v (eqb met 0)) b false) (sym (was ∙ t.was)) t.steps)

  pub takes_noted : ActsIn (takes_by v) m.0 v l → (w h s : Bool) → w ≡ takes_on v (eqb met 0)
      → h ≡ take_holds v (eqb met 0) → s ≡ slow_in m.0.calls.frames l.index
      → Steps m.0.calls n.0.calls l.index w (s && not (eqb met 0)) h
  takes_noted acts w h s e d was =
      let t = takes acts in
      subst (λ (b : Bool). Steps m.0.calls n.0.calls l.index b (s && not (eqb met 0)) h) (sym e)
      (subst (λ (b : Bool). Steps m.0.calls n.0.calls l.index (takes_on v (eqb met 0)) (s && not (eqb met 0)) b) (sym d)
      (subst (λ (b : Bool). Steps m.0.calls n.0.calls l.index (takes_on v (eqb met 0)) (b && not (eqb met 0)) (take_holds v (eqb met 0)))
      (sym (was ∙ t.was)) t.steps))

-- the marks of a row that ends a call on a spinlock, and goes on where it took a wait lock
pub noted_as : (old new : Calls) (l : ℕ) (v : Verb) (slow g : Bool) → g ≡ queues_up v
    → Steps old new l (queues_up v) slow (not (queues_up v)) → Steps old new l g slow (not g)
noted_as old new l v slow g e = subst (λ (b : Bool). Steps old new l b slow (not b)) (sym e)

-- the marks of one that has found whether it is alone
pub noted_sole : (old new : Calls) (l : ℕ) (v : Verb) (b g : Bool) → g ≡ queues_up v
    → Steps old new l (queues_up v || not b) (not b) (not (queues_up v) && b)
    → Steps old new l (g || not b) (not b) (not g && b)
noted_sole old new l v b g e = subst (λ (a : Bool). Steps old new l (a || not b) (not b) (not a && b)) (sym e)

-- what the seat sees in a call
abbrev sees : View → Verb → ℕ → Outlook
sees w v l = sight_of (terms_of w.who.plan) (own_number w.who.number) (acting w.who.plan.mode w.calls v l).runs

-- the rows that look at the own link

behind_own : (c : Pc) (f : Frame) → looks_behind c ≡ true → IsOwn (target c f)
behind_own G10 f h = tt
behind_own C1 f h = tt
behind_own _ f h = cc h

pub behind_slow : (c : Pc) → looks_behind c ≡ true → is_slow (Some c) ≡ true
behind_slow G10 h = refl
behind_slow C1 h = refl
behind_slow _ h = cc h

pub behind_later : (c : Pc) → looks_behind c ≡ true → is_opening c ≡ false
behind_later G10 h = refl
behind_later C1 h = refl
behind_later _ h = cc h

-- on the word of a node, by the newest call
module _ (v : Verb) (l : LockName) (m n : Me Slot View) (calm : are_calls m.0.calls.frames ≡ true)
    (few : length m.0.calls.frames ≤ 6) where
  goes : (c : Pc) (x : Met) (at : AtRow c v l m.0) → Goes x m n → IsOwn (target c at.stands.frame)
      → (waits slow taken : Bool)
      → Outcome m.0.who.plan.mode (own_number m.0.who.number) (sees m.0 v l.index) c at.stands.frame x waits slow taken
      → Turn m.0.calls n.0.calls l.index c waits slow taken
  goes c x at went unseen waits slow taken outcome =
      turn m.0.who.plan (own_number m.0.who.number) m.0.calls n.0.calls v l c x (patient_taking v at.patient) calm few
      (acts_on m.0.calls v l c at.stands m.0.who.plan.mode) (begins_on m.0.calls v l c at.stands m.0.who.plan) unseen
      (ap (λ (z : Me Slot View). z.0.calls) went
      ∙ ap (λ (z : Calls). row_of (terms_of m.0.who.plan) (own_number m.0.who.number) z x)
      (sym (acting_is m.0.calls v l c at.stands m.0.who.plan.mode)))
      waits slow taken outcome

  wait_of : {c : Pc} (at : AtRow c v l m.0) → at.stands.frame.lock.wait ≡ queues_up v
  wait_of at = ap (λ (z : LockName). z.wait) at.stands.lock ∙ at.inside

  then_of : {c : Pc} (at : AtRow c v l m.0) → at.stands.frame.lock.wait ≡ true → IsThen at.stands.frame.then
  then_of at e = at.after (sym (ap (λ (z : LockName). z.wait) at.stands.lock) ∙ e)

  -- the call has entered the slow path
  pub enters : (x : ℕ) → AtRow G1 v l m.0 → Enters m x n → Turn m.0.calls n.0.calls l.index G1 true true false
  enters x at went =
      goes G1 (Number (slows m.0.calls.frames)) at went tt true true false
      (course.entered m.0.who.plan.mode (own_number m.0.who.number) at.stands.frame (queues_up v) (wait_of at) (then_of at) (slows m.0.calls.frames))

  -- it has looked at a link: at its own, or at that of the last that it has passed over

  pub behind : (c : Pc) → looks_behind c ≡ true → (x : Option NodeName) (i : Bool) → AtRow c v l m.0 → Goes (Linked x i) m n
      → Turn m.0.calls n.0.calls l.index c true true false
  behind c is x i at went =
      goes c (Linked x i) at went (behind_own c at.stands.frame is) true true false
      (course.behind m.0.who.plan.mode (own_number m.0.who.number) at.stands.frame (queues_up v) (wait_of at) (then_of at) c is x i)

  pub skipped : (x : Option NodeName) (i : Bool) → AtRow C2 v l m.0 → Goes (Linked x i) m n
      → Turn m.0.calls n.0.calls l.index C2 true true false
  skipped x i at went =
      goes C2 (Linked x i) at went tt true true false
      (course.skipped m.0.who.plan.mode (own_number m.0.who.number) at.stands.frame (queues_up v) (wait_of at) (then_of at) x i)

  -- it has handed the lead on
  pub hands : (x : ℕ) (c : Pc) → (c ≡ G11) ⊎ (c ≡ C8) → AtRow c v l m.0 → Hands m x n
      → Turn m.0.calls n.0.calls l.index c (queues_up v) false (not (queues_up v))
  hands x c (inl e) =
      subst (λ (d : Pc). AtRow d v l m.0 → Hands m x n
      → Turn m.0.calls n.0.calls l.index d (queues_up v) false (not (queues_up v))) (sym e)
      (λ at told. goes G11 (Flagged Unset) at told.1 tt _ _ _
      (course.handed m.0.who.plan.mode (own_number m.0.who.number) at.stands.frame (queues_up v) (wait_of at) (then_of at) Unset))
  hands x c (inr e) =
      subst (λ (d : Pc). AtRow d v l m.0 → Hands m x n
      → Turn m.0.calls n.0.calls l.index d (queues_up v) false (not (queues_up v))) (sym e)
      (λ at told. goes C8 (Flagged Unset) at told.1 tt _ _ _
      (course.chosen m.0.who.plan.mode (own_number m.0.who.number) at.stands.frame (queues_up v) (wait_of at) (then_of at) Unset))

-- the lock of the newest call, as the processor notes it
pub newest : (c : Calls) (v : Verb) (l : LockName) (lock : ℕ) (pc : Pc) (stands : StandsOn c v l pc)
    → ((r : Running) (rs : List Running) → c.frames ≡ r ∷ rs → lock ≡ r.frame.lock.index) → l.index ≡ lock
newest c v l lock pc stands is =
    ap (λ (z : LockName). z.index) (sym stands.lock) ∙ sym (is (running v stands.frame stands.trail) stands.rest stands.is)
