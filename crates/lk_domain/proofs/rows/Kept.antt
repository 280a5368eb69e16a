-- A step of a seat keeps the machine part of the rule, where the words afterwards are those of the new
-- world: what is the other processors'.
use Rattle.std.proofs.Common.{◌≡◌, ◌≢◌, ◌⊎◌, ⊎_elim, inl, inr, ℕ, zero, suc, ◌+◌, ◌<◌, ◌≤◌, List}
use Rattle.std.proofs.Common.{◌∷◌, ◌++◌, [], length, set, get_or, Option, Some, None, Bool, true}
use Rattle.std.proofs.Common.{false, refl, sym, ap, ◌∙◌, subst, arith, if◌then◌else◌, is_some}
use Rattle.lk_domain.proofs.Names.{cases_eq, at_set, set_else, State, get_elem?, some}
use Rattle.lk_domain.proofs.Names.{some-injective, some-ne-none, NodeName, LockHistory, Kind}
use Rattle.lk_domain.proofs.Names.{LockName, Mode, Waiter, node_of, Frame, Pc, Verb, halts}
use Rattle.lk_domain.proofs.Names.{IsSoundWorld, World, IsAttended, AreHeld, ArePlaced, Calls, Mark}
use Rattle.lk_domain.proofs.Names.{Rests, Running, Stacked, acting, begin, frames_after, is_on}
use Rattle.lk_domain.proofs.Names.{no_calls, releases, cpus_of, AreTold, IsStored, Mirrors, Runs}
use Rattle.lk_domain.proofs.Names.{SeatFits, Seeks, node_name, waiter, numbers, Who, node_number}
use Rattle.lk_domain.proofs.Names.{Part, Plan, View}
use mathlib.Core.Option.{Option as Maybe}
use Rattle.lk_domain.proofs.{Manners.held_above, Stacks.frame_in-above, rows.Begun.Elsewhere}
use Rattle.lk_domain.proofs.rows.Users.{AreRight, right_marks, marks_right}
use Rattle.lk_domain.proofs.seats.Totals.{total-same, apart}
use Rattle.lk_domain.specs.Runs.{IsReset, IsOfPlan, IsIdle, IsCounted, IsHashed, Sought}

-- a seat whose newest call has read its count acts by that call
pub acting_same : (mode : Mode) (c : Calls) (v : Verb) (l r : ℕ) → (acting mode c v l).runs ≡ Some r → acting mode c v l ≡ c
acting_same mode c v l r e = by (is_on c.frames v l) e
  where
    by : (b : Bool) → (if b then c else begin mode c v l).runs ≡ Some r → (if b then c else begin mode c v l) ≡ c
    by true h = refl
    by false h = cc h

-- a count is there where all counts are the same
pub counted_after : (m n : World) (c : Calls) → ((b : NodeName) → (n.node b).runs ≡ (m.node b).runs) → IsCounted m c → IsCounted n c
counted_after m n c same counted j x rs runs frames =
    let h = counted j x rs runs frames in
    record {
      row = h.row;
      place = h.place;
      front = h.front;
      is = same (node_of x.frame.me) ∙ h.is;
    }

pub set_at : {A : Type 0} (l : List A) (i : ℕ) (a b : A) → get_elem? l i ≡ some a
    → get_elem? (set l i b) i ≡ some b
set_at [] i a b e = absurd (some-ne-none a (sym e))
set_at (x ∷ xs) zero a b e = refl
set_at (x ∷ xs) (suc i) a b e = set_at xs i a b e

-- a call that has looked at no place of the hash has passed nothing by
pub unlooked : (k : Plan) (pairs : ℕ → ℕ) (l : ℕ) → Sought k pairs l 0 None
unlooked k pairs l =
    record { passed = λ i a lt. absurd (omega (arith, lt)); inside = omega arith; found = λ a e. absurd (none_some e) }
  where
    none_some : {a : NodeName} → None ≡ Some a → ⊥
    none_some e = cc e

-- a call that begins has halted nobody
pub acting_halted : (mode : Mode) (c : Calls) (v : Verb) (l : ℕ) → c.halted ≡ (acting mode c v l).halted
acting_halted mode c v l = by (is_on c.frames v l)
  where
    by : (b : Bool) → c.halted ≡ (if b then c else begin mode c v l).halted
    by true = refl
    by false = refl

-- the calls after a row are as the rule wants them

pub after_stacked : (v : Verb) (g : Frame) (t : List Mark) (rs : List Running) (q : Option Pc)
    → g.ctx ≡ length rs → Stacked rs → Stacked (frames_after v g t rs q)
after_stacked v g t rs None e s = s
after_stacked v g t rs (Some c) e s = (e, s)

pub after_few : (v : Verb) (g : Frame) (t : List Mark) (rs : List Running) (q : Option Pc)
    → length rs < 6 → length (frames_after v g t rs q) ≤ 6
after_few v g t rs None h = omega arith
after_few v g t rs (Some c) h = omega arith

pub fewer : (v : Verb) (g : Frame) (t : List Mark) (rs : List Running) (q : Option Pc)
    → suc (length rs) ≤ 1 → length (frames_after v g t rs q) ≤ 1
fewer v g t rs None h = omega arith
fewer v g t rs (Some c) h = omega arith

-- a call that goes on stands at a row
pub after_placed : (v : Verb) (g : Frame) (t : List Mark) (rs : List Running) (q : Option Pc)
    → g.place ≡ q → ArePlaced rs → ArePlaced (frames_after v g t rs q)
after_placed v g t rs None e h = h
after_placed v g t rs (Some c) e h = (ap is_some e, h)

pub after_rests : (v : Verb) (g : Frame) (t : List Mark) (rs : List Running) (q : Option Pc)
    → releases g ≡ false → Rests rs → Rests (frames_after v g t rs q)
after_rests v g t rs None calm h = h
after_rests v g t rs (Some c) calm h = (calm, h)

mirrors_else : (m n : World) (p q : ℕ) (c : Calls) → Elsewhere m n p → q ≢ p → Mirrors m q c
    → Mirrors n q c
mirrors_else m n p q c others ne s =
    record {
      frames = λ d. (others (waiter q d) ne).0 ∙ s.frames d;
      holds = λ d l. (others (waiter q d) ne).1 l ∙ s.holds d l;
    }

-- the contexts of a processor
idle_above : (n : World) (p : ℕ) (c : Calls) → SeatFits n p c → (w : Waiter) → 6 ≤ w.ctx → w.cpu ≡ p
    → IsIdle n w
idle_above n p c fit w high e =
    subst (λ (z : ℕ). IsIdle n (waiter z w.ctx)) (sym e) (
      fit.mirrors.frames w.ctx ∙ frame_in-above c.frames w.ctx fit.stacked (let x = fit.few in omega arith),
      λ l. fit.mirrors.holds w.ctx l ∙ held_above n.kind c.holds w.ctx l fit.held high,
    )

-- the words of the nodes to come of the other processors are as before
abbrev pub KeepsComing : World → World → ℕ → Type 0
KeepsComing m n p = (q : ℕ) (d : Calls) → q ≢ p → SeatFits m q d → (r : Part)
    → node_number r (n.node (node_name q (m.queued q))) ≡ node_number r (m.node (node_name q (m.queued q)))

-- What is there of halts and the hash after a step of the processor p: the hash is the map of the world's
-- entries, the other processors have halted as before, and who seeks an entry has not passed it by.
pub record Halting (k : Plan) {S : Type 0} (s : State S View) (st : Runs k s) (n : World) (pairs : ℕ → ℕ) (id p : ℕ) : Type 0 where
  pub hashed : halts k.mode ≡ true → IsHashed k n.entry pairs
  pub halted : (q : ℕ) → q ≢ p → n.halted q ≡ st.world.halted q
  pub seeks : (j : ℕ) (x : View) → get_elem? s.views j ≡ some x → j ≢ id → Seeks k pairs x.calls

-- so it is where the hash stays
pub halting_same : (k : Plan) {S : Type 0} (s : State S View) (st : Runs k s) (n : World) (id p : ℕ) → n.entry ≡ st.world.entry
    → ((q : ℕ) → q ≢ p → n.halted q ≡ st.world.halted q) → Halting k s st n st.pairs id p
halting_same k s st n id p entry halted =
    record {
      hashed = λ on. subst (λ (e : LockName → Option NodeName). IsHashed k e st.pairs) (sym entry) (st.hashed on);
      halted = halted;
      seeks = λ j x at ne. st.seeks j x at;
    }

-- and so are the counts that they have read
abbrev pub KeepsCounts : World → World → ℕ → Type 0
KeepsCounts m n p = (q : ℕ) (d : Calls) → q ≢ p → SeatFits m q d → IsCounted n d

-- and what their fronts were told
abbrev pub KeepsTold : World → World → ℕ → Type 0
KeepsTold m n p = (q : ℕ) (d : Calls) → q ≢ p → SeatFits m q d → AreTold n d.frames

-- it is the same seat, but for the values that it has out
pub record SameWho (w x : Who) : Type 0 where
  pub plan : x.plan ≡ w.plan
  pub number : x.number ≡ w.number
  pub ended : x.ended ≡ w.ended
  pub dealt : x.dealt ≡ w.dealt

module _ (k : Plan) {S : Type 0} (s : State S View) (st : Runs k s) (id : ℕ) (v : View)
    (me : get_elem? s.views id ≡ some v) (p : ℕ) (is : v.who.number ≡ Some p) where
  abbrev fits : SeatFits st.world p v.calls
  fits = st.seats id v p me is

  abbrev roll_of : ℕ
  roll_of = get_or s.words 0 0

  -- the marks of the links are right
  pub right : AreRight st.world st.marks
  right = right_marks st.world _ st.marks st.sound.spins st.marked

  -- The step of a seat that leaves who it is, but for the values that it has out, and the other
  -- processors' frames and holds and the nodes to come, as they are, keeps the rule.
  pub keeps_as : (n : World) (hs : LockName → LockHistory) (marks : NodeName → Bool) (pairs : ℕ → ℕ) (u : View) (ws : List ℕ)
      → IsSoundWorld n hs → IsAttended n → IsOfPlan k n → IsStored k n marks pairs ws → AreRight n marks → get_or ws 0 0 ≡ roll_of
      → Elsewhere st.world n p → ((q : ℕ) → q ≢ p → n.queued q ≡ st.world.queued q)
      → KeepsComing st.world n p → KeepsCounts st.world n p → KeepsTold st.world n p → SameWho v.who u.who
      → SeatFits n p u.calls
      → Halting k s st n pairs id p → Seeks k pairs u.calls
      → (homes : List (Maybe S))
      → Runs k {S = S} (record { words = ws; homes = homes; views = set s.views id u })
  keeps_as n hs marks pairs u ws sound attended of_plan stored marked roll others queued coming counts tolds who fit beside sought homes =
      let views = set s.views id u in
      let number : u.who.number ≡ Some p = who.number ∙ is in
      record {
        lawful = st.lawful;
        world = n;
        histories = hs;
        sound = sound;
        attended = attended;
        of_plan = of_plan;
        marks = marks;
        pairs = pairs;
        stored = stored;
        marked = marks_right n _ marks sound.spins marked;
        hashed = beside.hashed;
        seeks = λ j x at. ⊎_elim (λ a. subst (λ (y : View). Seeks k pairs y.calls) a.1 sought)
            (λ a. beside.seeks j x a.1 a.0) (at_set s.views id j u x at);
        seats = λ j x q at is'. ⊎_elim
            (λ t. let same : p ≡ q = number_is (sym number ∙ (ap (λ (y : View). y.who.number) t.1 ∙ is')) in
            subst (λ (y : View). SeatFits n q y.calls) t.1
            (subst (λ (y : ℕ). SeatFits n y u.calls) same fit))
            (λ t.
            let ne : q ≢ p = λ e. t.0 (apart s.views roll_of st.once id j v x p me t.1 is (is' ∙ ap Some e)) in
            let old = st.seats j x q t.1 is' in
            record {
              mirrors = mirrors_else st.world n p q x.calls others ne old.mirrors;
              stacked = old.stacked;
              few = old.few;
              placed = old.placed;
              rests = old.rests;
              held = subst (λ (kind : ℕ → Kind). AreHeld kind x.calls.holds) (sym (of_plan.kind ∙ sym st.of_plan.kind)) old.held;
              fresh = old.fresh;
              reset = subst (λ (i : ℕ). IsReset x.calls.ready (n.node (node_name q i))) (sym (queued q ne))
                  (λ r lt. coming q x.calls ne old r ∙ old.reset r lt);
              counted = counts q x.calls ne old;
              told = tolds q x.calls ne old;
              single = λ on. old.single (ap halts (st.of_plan.mode ∙ sym of_plan.mode) ∙ on);
              halted = beside.halted q ne ∙ old.halted;
            })
            (at_set s.views id j u x at);
        once = λ q. total-same (λ y. Rattle.lk_domain.specs.Views.times q (numbers y)) s.views id v u me
            (λ i. Rattle.lk_domain.specs.Views.times q (Rattle.lk_domain.specs.Views.listed (sym who.number i) ++ Rattle.std.proofs.Common.map Rattle.lk_domain.specs.Views.number_of (sym who.ended i)))
            ∙ (st.once q ∙ ap (Rattle.lk_domain.specs.Views.once_below q) (sym roll));
        blank = λ q none. let free : q ≢ p = λ e. none id u (set_at s.views id v u me) (number ∙ ap Some (sym e)) in
            mirrors_else st.world n p q no_calls others free
            (st.blank q (λ j x at is'. elim (cases_eq j id) [
              | inl e ↦ free (number_is (sym is' ∙ (ap (λ (z : View). z.who.number)
                  (some-injective x v (sym (subst (λ (i : ℕ). get_elem? s.views i ≡ some x) e at) ∙ me)) ∙ is)))
              | inr ne ↦ none j x (set_else s.views id j u ne ∙ at) is'
            ]));
        roll = subst (λ (r : ℕ). r ≤ cpus_of k) (sym roll) st.roll;
        six = λ w high. elim (cases_eq w.cpu p) [
          | inl e ↦ idle_above n p u.calls fit w high e
          | inr ne ↦ ((others w ne).0 ∙ (st.six w high).0, λ l. (others w ne).1 l ∙ (st.six w high).1 l)
        ];
        planned = λ j x q at e. ⊎_elim
            (λ a. ap (λ (z : View). z.who.plan) (sym a.1) ∙ (who.plan ∙ st.planned id v p me is))
            (λ a. st.planned j x q a.1 e) (at_set s.views id j u x at);
        silent = λ j x at none. ⊎_elim
            (λ a. absurd (some_none (sym number ∙ (ap (λ (z : View). z.who.number) a.1 ∙ none))))
            (λ a. st.silent j x a.1 none) (at_set s.views id j u x at);
        deals = λ j x q at is'. ⊎_elim
            (λ a. let d = st.deals id v q me (sym who.dealt ∙ (ap (λ (z : View). z.who.dealt) a.1 ∙ is')) in
            record { first = a.0 ∙ d.first; next = roll ∙ d.next; of_plan = ap (λ (z : View). z.who.plan) (sym a.1) ∙ (who.plan ∙ d.of_plan) })
            (λ a. let d = st.deals j x q a.1 is' in record { first = d.first; next = roll ∙ d.next; of_plan = d.of_plan })
            (at_set s.views id j u x at);
      }
    where
      number_is : {a b : ℕ} → Some a ≡ Some b → a ≡ b
      number_is e = grind (arith, e)

      some_none : {a : ℕ} → Some a ≡ None → ⊥
      some_none e = cc

  -- so does one that leaves who it is
  pub keeps : (n : World) (hs : LockName → LockHistory) (marks : NodeName → Bool) (pairs : ℕ → ℕ) (u : View) (ws : List ℕ)
      → IsSoundWorld n hs → IsAttended n → IsOfPlan k n → IsStored k n marks pairs ws → AreRight n marks → get_or ws 0 0 ≡ roll_of
      → Elsewhere st.world n p → ((q : ℕ) → q ≢ p → n.queued q ≡ st.world.queued q)
      → KeepsComing st.world n p → KeepsCounts st.world n p → KeepsTold st.world n p → u.who ≡ v.who
      → SeatFits n p u.calls
      → Halting k s st n pairs id p → Seeks k pairs u.calls
      → (homes : List (Maybe S))
      → Runs k {S = S} (record { words = ws; homes = homes; views = set s.views id u })
  keeps n hs marks pairs u ws sound attended of_plan stored marked roll others queued coming counts tolds who fit beside sought homes =
      keeps_as n hs marks pairs u ws sound attended of_plan stored marked roll others queued coming counts tolds
      (record {
        plan = ap (λ (x : Who). x.plan) who;
        number = ap (λ (x : Who). x.number) who;
        ended = ap (λ (x : Who). x.ended) who;
        dealt = ap (λ (x : Who). x.dealt) who;
      })
      fit beside sought homes
