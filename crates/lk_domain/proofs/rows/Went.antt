-- A call makes its row, and ends where the row ends it: what becomes of the world for which words and
-- seats stand.
use Rattle.std.proofs.Common.{◌≡◌, inr, ℕ, suc, ◌+◌, ◌≤◌, List, [], ◌∷◌, length, Option, Some, None}
use Rattle.std.proofs.Common.{Bool, true, false, eqb, eqb-true, refl, sym, ap, ◌∙◌, subst, arith}
use Rattle.std.proofs.Common.{if◌then◌else◌, ◌&&◌, is_some}
use Rattle.lk_domain.proofs.Names.{LockHistory, same_lock, Manner, LockName, Waiter, node_of, Lead}
use Rattle.lk_domain.proofs.Names.{Leaves, Yields, RwWord, Target, target, Frame, Pc, Verb}
use Rattle.lk_domain.proofs.Names.{if-false, if-true, same_lock-true, Course, RowDone, course_in}
use Rattle.lk_domain.proofs.Names.{held_lock, phase_if, phase_of, IsSoundWorld, led, World}
use Rattle.lk_domain.proofs.Names.{attended_stays, IsAttended, Calls, Frees, Grip, Mark, Running}
use Rattle.lk_domain.proofs.Names.{Stacked, Takes, Unchanged, after, frame_in, frames_after}
use Rattle.lk_domain.proofs.Names.{grip_led, grip_of, grip_told, held_in, holds_after, running}
use Rattle.lk_domain.proofs.Names.{Mirrors, waiter}
use Rattle.lk_names.specs.{Lawful.Rules, Names.same_waiter, declared.events.What.What}
use Rattle.lk_names.specs.declared.events.What.TheVariants.{RTake, RRelease, WTake, WRelease}
use Rattle.lk_rows.specs.Row.{Goes, Granted, Freed, Tell, Says, Change, with_change, changed_all}
use Rattle.lk_rows.specs.Row.{Prev, Second, Y, Left, A, B, K, T, Reason, Tailed, HashedIs, TargetIs}
use Rattle.lk_law.proofs.{common.EveryRow.every_row_keeps, common.Puts.same_waiter-else}
use Rattle.lk_law.proofs.{common.Sames.same_waiter-self, running.Leads.row_is_done}
use Rattle.lk_law.proofs.{running.Tells.lead_goes_on, rw.Begins.end_keeps}
use Rattle.lk_law.specs.{Leads.way_after, Phase.has_node, Phase.Phase.Idle}
use Rattle.lk_law.specs.Premises.{IsNewest, IsShallow}
use Rattle.lk_law.specs.Steps.{put_frame, row_in, way_led, way_told, told_event, told_on}
use Rattle.lk_waits.proofs.{Attended.row_keeps_attended, Quiet.placeless_quiet}
use Rattle.lk_domain.proofs.Stacks.{frame_in-above, frame_in-top, freed, and_parts}
use Rattle.lk_domain.proofs.rows.Begun.{Elsewhere, same_at, else_at}

if_if : {A : Type 0} (b : Bool) (x y z : A)
    → (if b then x else (if b then y else z)) ≡ (if b then x else z)
if_if true x y z = refl
if_if false x y z = refl

if_same : {A : Type 0} (b : Bool) (x y : A) → (b ≡ true → x ≡ y) → (if b then x else y) ≡ y
if_same true x y h = h refl
if_same false x y h = refl

-- what a grip makes of a way to hold
abbrev way_by : Grip → Option Manner → Option Manner
way_by Unchanged way = way
way_by (Takes m) way = Some m
way_by Frees way = None

-- a row does to the hold what its grip says
way_gripped : (t : Target) (o : Course) (way : Option Manner) → way_after t o way ≡ way_by (grip_of t o) way
way_gripped t o way = by t
  where
    leads : (lead : Lead) → way_led lead way ≡ way_by (grip_led lead) way
    leads Granted = refl
    leads Leaves = refl
    leads Freed = refl
    leads (Yields c cs) = refl
    leads _ = refl

    says : (what : What) → way_told (Says what) way ≡ way_by (grip_told (Says what)) way
    says (RTake l h) = refl
    says (WTake l h) = refl
    says (RRelease l) = refl
    says (WRelease l) = refl
    says _ = refl

    tells : (tell : Tell) → way_told tell way ≡ way_by (grip_told tell) way
    tells (Says what) = says what
    tells _ = refl

    by : (t : Target) → way_after t o way ≡ way_by (grip_of t o) way
    by RwWord = tells o.tells
    by _ = leads o.leads

-- the frame keeps its context
changed_ctx : (f : Frame) (c : Change) → (with_change f c).ctx ≡ f.ctx
changed_ctx f (Prev n) = refl
changed_ctx f (Second n) = refl
changed_ctx f (Y n) = refl
changed_ctx f (Left n) = refl
changed_ctx f (A n) = refl
changed_ctx f (B n) = refl
changed_ctx f (K n) = refl
changed_ctx f (T n) = refl
changed_ctx f (Reason n) = refl
changed_ctx f (Tailed b) = refl
changed_ctx f (HashedIs b) = refl
changed_ctx f (TargetIs n) = refl

all_ctx : (f : Frame) (cs : List Change) → (changed_all f cs).ctx ≡ f.ctx
all_ctx f [] = refl
all_ctx f (c ∷ cs) = all_ctx (with_change f c) cs ∙ changed_ctx f c

pub led_ctx : (f : Frame) (lead : Lead) → (led f lead).ctx ≡ f.ctx
led_ctx f (Goes c cs) = all_ctx f cs
led_ctx f (Yields c cs) = all_ctx f cs
led_ctx f _ = refl

-- a frame keeps the number of its lock
changed_lock : (f : Frame) (c : Change) → (with_change f c).lock ≡ f.lock
changed_lock f (Prev n) = refl
changed_lock f (Second n) = refl
changed_lock f (Y n) = refl
changed_lock f (Left n) = refl
changed_lock f (A n) = refl
changed_lock f (B n) = refl
changed_lock f (K n) = refl
changed_lock f (T n) = refl
changed_lock f (Reason n) = refl
changed_lock f (Tailed b) = refl
changed_lock f (HashedIs b) = refl
changed_lock f (TargetIs n) = refl

all_lock : (f : Frame) (cs : List Change) → (changed_all f cs).lock ≡ f.lock
all_lock f [] = refl
all_lock f (c ∷ cs) = all_lock (with_change f c) cs ∙ changed_lock f c

pub led_index : (f : Frame) (lead : Lead) → (led f lead).lock.index ≡ f.lock.index
led_index f (Goes c cs) = ap (λ (z : LockName). z.index) (all_lock f cs)
led_index f (Yields c cs) = ap (λ (z : LockName). z.index) (all_lock f cs)
led_index f _ = refl

-- the call is over where its frame has come to no place
abbrev pub ended : World → Waiter → Option Pc → World
ended n w None = put_frame n w None
ended n w (Some c) = n

-- After the row, and the end of the call if it ends: n is the world right after the row.
pub record Went (m n : World) (p : ℕ) (c : Calls) : Type 0 where
  pub world : World
  pub histories : LockName → LockHistory
  pub sound : IsSoundWorld world histories
  pub mirrors : Mirrors world p c
  pub mode : world.mode ≡ n.mode
  pub turns : world.turns ≡ n.turns
  pub threshold : world.threshold ≡ n.threshold
  pub format : world.format ≡ n.format
  pub sockets : world.sockets ≡ n.sockets
  pub kind : world.kind ≡ n.kind
  pub word : world.word ≡ n.word
  pub rw : world.rw ≡ n.rw
  pub node : world.node ≡ n.node
  pub queued : world.queued ≡ n.queued
  pub entry : world.entry ≡ n.entry
  pub halted : world.halted ≡ n.halted
  pub kicked : world.kicked ≡ n.kicked
  pub others : Elsewhere m world p
  pub attended : IsAttended m → IsAttended world

module _ (m : World) (hs : LockName → LockHistory) (ok : IsSoundWorld m hs)
    (p : ℕ) (c : Calls) (mirrors : Mirrors m p c)
    (stacked : Stacked c.frames) (few : length c.frames ≤ 6)
    (shallow : (q : ℕ) → IsShallow m q) (verb : Verb) (f : Frame)
    (t : List Mark) (rs : List Running) (is : c.frames ≡ running verb f t ∷ rs) (pc : Pc)
    (place : f.place ≡ Some pc) where
  abbrev w : Waiter
  w = waiter p f.ctx

  abbrev x : Target
  x = target pc f

  abbrev o : Course
  o = course_in m w f pc x

  abbrev n : World
  n = (row_in m w f pc).0

  stands : Stacked (running verb f t ∷ rs)
  stands = subst Stacked is stacked

  pub live : m.frame w ≡ Some f
  live = mirrors.frames f.ctx ∙ (ap (λ (xs : List Running). frame_in xs f.ctx) is ∙ frame_in-top (running verb f t) rs)

  below : frame_in rs f.ctx ≡ None
  below = frame_in-above rs f.ctx stands.1 (let e = stands.0 in omega arith)

  newest : IsNewest m w
  newest =
      record {
        above = λ e lt. mirrors.frames e
            ∙ (ap (λ (xs : List Running). frame_in xs e) is
            ∙ frame_in-above (running verb f t ∷ rs) e stands (let x = stands.0 in omega arith));
        low = let x = stands.0 in
            let y : length c.frames ≡ suc (length rs) = ap (λ (xs : List Running). length xs) is in omega arith;
        shallow = shallow;
      }

  abbrev rules : Rules
  rules = record { format = m.format; mode = m.mode; sockets = m.sockets; threshold = m.threshold }

  abbrev to : Waiter
  to = (lead_goes_on m _ w f pc ok.spins live place).0

  abbrev hs' : LockName → LockHistory
  hs' = told_on hs (told_event w f.lock to (row_in m w f pc).1)

  row_sound : IsSoundWorld n hs'
  row_sound =
      (every_row_keeps pc m hs rules w to f ok (record { format = refl; mode = refl; sockets = refl; threshold = refl })
      newest live place (lead_goes_on m _ w f pc ok.spins live place).1).0

  pub done : RowDone m n w f pc x o
  done = row_is_done m w f pc x

  abbrev g : Frame
  g = led f o.leads

  frame_was : (e : ℕ) → m.frame (waiter p e) ≡ (if eqb e f.ctx then Some f else frame_in rs e)
  frame_was e = mirrors.frames e ∙ ap (λ (xs : List Running). frame_in xs e) is

  frame_now : (e : ℕ) → n.frame (waiter p e) ≡ (if eqb e f.ctx then Some g else frame_in rs e)
  frame_now e =
      done.frame (waiter p e)
      ∙ ((λ i. if same_at p e f.ctx i then Some g else frame_was e i)
      ∙ if_if (eqb e f.ctx) (Some g) (Some f) (frame_in rs e))

  frames_go : (t' : List Mark) (e : ℕ) → n.frame (waiter p e) ≡ frame_in (running verb g t' ∷ rs) e
  frames_go t' e = frame_now e ∙ ap (λ (x : ℕ). if eqb e x then Some g else frame_in rs e) (sym (led_ctx f o.leads))

  frames_end : (e : ℕ) → (put_frame n w None).frame (waiter p e) ≡ frame_in rs e
  frames_end e =
      (λ i. if same_at p e f.ctx i then None else frame_now e i)
      ∙ (if_if (eqb e f.ctx) None (Some g) (frame_in rs e)
      ∙ if_same (eqb e f.ctx) None (frame_in rs e)
      (λ h. sym below ∙ ap (frame_in rs) (sym (eqb-true e f.ctx h))))

  abbrev l : LockName
  l = held_lock x f

  -- how the processor's contexts hold locks now
  held_now : (e : ℕ) (k : LockName) → n.held (waiter p e) k
      ≡ (if eqb e f.ctx && same_lock k l then way_by (grip_of x o) (held_in c.holds f.ctx l) else held_in c.holds e k)
  held_now e k =
      done.held (waiter p e) k
      ∙ ((λ i. if same_at p e f.ctx i && same_lock k l then way_after x o (mirrors.holds f.ctx l i)
      else mirrors.holds e k i)
      ∙ ap (λ (y : Option Manner). if eqb e f.ctx && same_lock k l then y else held_in c.holds e k)
      (way_gripped x o (held_in c.holds f.ctx l)))

  held_after : (e : ℕ) (k : LockName)
      → n.held (waiter p e) k ≡ held_in (holds_after (grip_of x o) f.ctx l (c.taken + 1) c.holds) e k
  held_after e k = held_now e k ∙ by (grip_of x o)
    where
      by : (y : Grip)
          → (if eqb e f.ctx && same_lock k l then way_by y (held_in c.holds f.ctx l) else held_in c.holds e k)
          ≡ held_in (holds_after y f.ctx l (c.taken + 1) c.holds) e k
      by Unchanged =
          if_same (eqb e f.ctx && same_lock k l) (held_in c.holds f.ctx l) (held_in c.holds e k)
          (λ h. let a = and_parts (eqb e f.ctx) (same_lock k l) h in
          sym (λ i. held_in c.holds (eqb-true e f.ctx a.0 i) (same_lock-true k l a.1 i)))
      by (Takes manner) = refl
      by Frees = sym (freed f.ctx l c.holds e k)

  row_others : Elsewhere m n p
  row_others u ne = (
    done.frame u ∙ if-false (same_waiter u w) (Some g) (m.frame u) (else_at u p f.ctx ne),
    λ k. done.held u k
        ∙ if-false (same_waiter u w && same_lock k l) (way_after x o (m.held w l)) (m.held u k)
        (ap (λ b. b && same_lock k l) (else_at u p f.ctx ne)),
  )

  end_others : Elsewhere m (put_frame n w None) p
  end_others u ne = (
    if-false (same_waiter u w) None (n.frame u) (else_at u p f.ctx ne) ∙ (row_others u ne).0,
    (row_others u ne).1,
  )

  end_sound : g.place ≡ None → IsSoundWorld (put_frame n w None) hs'
  end_sound none =
      let now : n.frame w ≡ Some g = done.frame w ∙ if-true (same_waiter w w) (Some g) (m.frame w) (same_waiter-self w) in
      let fit = row_sound.spins.registers w g now in
      let idle : phase_of g ≡ Idle = ap (λ q. phase_if q (is_some g.me) (node_of g.prev) (node_of g.y)) none in
      end_keeps n hs' w (Some g) None row_sound now (none, fit.bare (ap has_node idle)) tt
      (λ e. absurd (grind (arith, e))) (λ d e. absurd (grind (arith, e)))

  -- those that wait are attended after the row as before it, and after the end of the call
  row_attended : IsAttended m → IsAttended n
  row_attended = row_keeps_attended pc m _ w f ok.spins newest.above live place (ok.fits w f live).after

  end_attended : g.place ≡ None → IsAttended n → IsAttended (put_frame n w None)
  end_attended none =
      attended_stays n (put_frame n w None) w
      (record {
        words = λ j. refl;
        others = λ u ne. if-false (same_waiter u w) None (n.frame u) (same_waiter-else u w ne);
        either = inr (
          λ h e. absurd (none_some (sym (if-true (same_waiter w w) None (n.frame w) (same_waiter-self w)) ∙ e)),
          λ h e. placeless_quiet h (ap (λ (x : Frame). x.place) (sym (some_is (sym now ∙ e))) ∙ none),
        );
      })
      refl (λ a h. h) (λ q. refl)
    where
      now : n.frame w ≡ Some g
      now = done.frame w ∙ if-true (same_waiter w w) (Some g) (m.frame w) (same_waiter-self w)

      some_is : {a b : Frame} → Some a ≡ Some b → a ≡ b
      some_is e = cc e

      none_some : {a : Frame} → None ≡ Some a → ⊥
      none_some e = cc e

  -- the call goes where the row leads, or has ended
  pub goes : (t' : List Mark) → Went m n p (after verb f t' rs c x o)
  goes t' = by g.place refl
    where
      by : (q : Option Pc) → g.place ≡ q
          → Went m n p (record (after verb f t' rs c x o) { frames = frames_after verb g t' rs q; last = Rattle.lk_domain.specs.Calls.last_after t' c.last q })
      by None e = record {
        world = put_frame n w None;
        histories = hs';
        sound = end_sound e;
        mirrors = record { frames = frames_end; holds = held_after };
        mode = refl;
        turns = refl;
        threshold = refl;
        format = refl;
        sockets = refl;
        kind = refl;
        word = refl;
        rw = refl;
        node = refl;
        queued = refl;
        entry = refl;
        halted = refl;
        kicked = refl;
        others = end_others;
        attended = λ h. end_attended e (row_attended h);
      }
      by (Some d) e = record {
        world = n;
        histories = hs';
        sound = row_sound;
        mirrors = record { frames = frames_go t'; holds = held_after };
        mode = refl;
        turns = refl;
        threshold = refl;
        format = refl;
        sockets = refl;
        kind = refl;
        word = refl;
        rw = refl;
        node = refl;
        queued = refl;
        entry = refl;
        halted = refl;
        kicked = refl;
        others = row_others;
        attended = row_attended;
      }
