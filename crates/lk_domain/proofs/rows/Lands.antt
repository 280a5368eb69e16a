-- A step that makes the row of a call keeps the machine part of the rule, where the words afterwards
-- are those of the world after the row.
use Rattle.std.proofs.Common.{◌≡◌, ◌⊎◌, inl, inr, ℕ, suc, ◌+◌, ◌<◌, List, ◌∷◌, ◌++◌, [], length}
use Rattle.std.proofs.Common.{set, get_or, Option, Some, None, Bool, true, false, refl, sym, ap}
use Rattle.std.proofs.Common.{◌∙◌, subst, arith, eqb, eq-eqb, ◌&&◌, ◌||◌, not, is_some}
use Rattle.lk_domain.proofs.Names.{cases_Bool, cases_eq, State, get_elem?, some, NodeName, Manner}
use Rattle.lk_domain.proofs.Names.{Kind, LockName, Waiter, is_node, node_of, Target, target, Frame}
use Rattle.lk_domain.proofs.Names.{Node, Pc, C1, C2, Verb, if-true, halts, is_rw_row, choice_node}
use Rattle.lk_domain.proofs.Names.{Course, Met, Named, RowDone, course_at, course_in, held_lock}
use Rattle.lk_domain.proofs.Names.{met_in, IsFree, looks_along, Uses, RwFits, led, sight_in, World}
use Rattle.lk_domain.proofs.Names.{AreFresh, AreHeld, ArePlaced, Begins, Calls, Mark, Outlook}
use Rattle.lk_domain.proofs.Names.{Rests, Running, Stacked, StandsOn, Suits, Takes, acting, after}
use Rattle.lk_domain.proofs.Names.{course, frame_in, frames_after, grip_of, holds_after, holds_in}
use Rattle.lk_domain.proofs.Names.{is_inner, is_leaving, is_seeking, mark, plain, read_at, releases}
use Rattle.lk_domain.proofs.Names.{row_at, row_of, row_on, running, sight_by, sight_of, terms_of}
use Rattle.lk_domain.proofs.Names.{told, told_in, waits_in, AreTold, IsStored, Runs, SeatFits}
use Rattle.lk_domain.proofs.Names.{Seeks, node_name, waiter, node_number, Plan, View}
use mathlib.Core.Option.{Option as Maybe}
use Rattle.lk_names.specs.{Lawful.{is_local, same_socket, stays}, declared.names.Format.Format}
use Rattle.lk_names.specs.declared.names.Format.TheVariants.{One, Two}
use Rattle.lk_law.proofs.{cna.Named.behind_is_used, common.Users.user_found}
use Rattle.lk_law.specs.{Leads.setting_in, Premises.IsShallow, Steps.{waiter_in, row_in}}
use Rattle.lk_domain.proofs.Manners.{after_held, after_fresh}
use Rattle.lk_domain.proofs.{Stacks.{frame_in-above, frame_in-top}, rows.Changes.halted_row}
use Rattle.lk_domain.proofs.rows.Grips.{IsOwn, own_lock, rw_target, takes_seeks, release_ends}
use Rattle.lk_domain.proofs.rows.Grips.{shared_calm, taken_over, taken_suits}
use Rattle.lk_domain.proofs.rows.Halts.{begins_none}
use Rattle.lk_domain.proofs.rows.Kept.{acting_same, counted_after, unlooked, acting_halted}
use Rattle.lk_domain.proofs.rows.Kept.{after_stacked, after_few, fewer, after_placed, after_rests}
use Rattle.lk_domain.proofs.rows.Kept.{KeepsComing, Halting, KeepsCounts, KeepsTold}
use Rattle.lk_domain.proofs.rows.Poised.{RestsBelow, Poised, poised}
use Rattle.lk_domain.proofs.rows.Sights.{IsSeen, Sees, SeesWhom, SeesSame, same_course}
use Rattle.lk_domain.proofs.rows.Sights.{unseen_cases}
use Rattle.lk_domain.proofs.rows.Users.{acting_frame, acting_told, after_cases, below_it, Grows}
use Rattle.lk_domain.proofs.rows.Users.{AreRight, KeepsMarks, marked_after, told_after, IsTrue}
use Rattle.lk_domain.proofs.{rows.Users.newest_told, rows.Went.{Went, led_ctx, led_index}}
use Rattle.lk_domain.proofs.{words.NodeWords.none_reset, words.Written.{renumbered, same_numbers}}
use Rattle.lk_domain.specs.{Calls.{mark_of, stays_by, setting, count_of}, Runs.IsHashed}
use Rattle.lk_domain.proofs.rows.Went as went
use Rattle.lk_domain.proofs.rows.Kept as rule

module _ (k : Plan) {S : Type 0} (s : State S View) (st : Runs k s) (id : ℕ) (v : View)
    (me : get_elem? s.views id ≡ some v) (p : ℕ) (is : v.who.number ≡ Some p) where
  abbrev fits : SeatFits st.world p v.calls
  fits = st.seats id v p me is

  abbrev roll_of : ℕ
  roll_of = get_or s.words 0 0

  module _ (verb : Verb) (l : LockName) (pc : Pc) (asks : Begins k v.calls verb l.index)
      (acts : StandsOn (acting k.mode v.calls verb l.index) verb l pc)
      (unseen : IsSeen pc (target pc acts.frame) (acting k.mode v.calls verb l.index).runs) where
    abbrev pub c : Calls
    c = acting k.mode v.calls verb l.index

    abbrev pub at : Poised st.world p c
    at = poised k st.world st.histories st.sound st.of_plan.kind st.of_plan.mode p v.calls fits verb l.index asks

    abbrev f : Frame
    f = acts.frame

    abbrev w : Waiter
    w = waiter p f.ctx

    -- the world in which the row is made, and that right after it
    abbrev pub m : World
    m = at.acted.world

    abbrev pub t : Target
    t = target pc f

    abbrev pub x : Met
    x = met_in m w f t

    abbrev pub n : World
    n = (row_in m w f pc).0

    abbrev pub trail : Met → List Mark
    trail y = acts.trail ++ mark pc y (read_at pc (sight_of (terms_of k) p c.runs)) ∷ []

    abbrev pub o : Course
    o = course_in m w f pc t

    stands : Stacked (running verb f acts.trail ∷ acts.rest)
    stands = subst Stacked acts.is at.stacked

    same_mode : m.mode ≡ k.mode
    same_mode = at.acted.same.mode ∙ st.of_plan.mode

    -- no processor has more than six calls
    shallow : (q : ℕ) → IsShallow m q
    shallow q d ge =
        elim (cases_eq q p) [
          | inl e ↦ ap (λ (r : ℕ). m.frame (waiter r d)) e
              ∙ (at.acted.mirrors.frames d
              ∙ frame_in-above c.frames d at.stacked (let few = at.few in omega (arith, few, ge)))
          | inr ne ↦ (at.acted.others (waiter q d) ne).0 ∙ (st.six (waiter q d) ge).0
        ]

    pub done : (y : Met) → Went m n p (after verb f (trail y) acts.rest c t o)
    done y =
        went.goes m at.acted.histories at.acted.sound p c at.acted.mirrors at.stacked at.few shallow
        verb f acts.trail acts.rest acts.is pc acts.place (trail y)

    pub live : m.frame w ≡ Some f
    live =
        went.live m at.acted.histories at.acted.sound p c at.acted.mirrors at.stacked at.few shallow
        verb f acts.trail acts.rest acts.is pc acts.place

    pub row_done : RowDone m n w f pc t o
    row_done =
        went.done m at.acted.histories at.acted.sound p c at.acted.mirrors at.stacked at.few shallow
        verb f acts.trail acts.rest acts.is pc acts.place

    -- what the seat sees
    abbrev pub z : Outlook
    z = sight_of (terms_of k) p c.runs

    -- who is met is local for the seat, by the mark of the link, where it is local for the row
    local_is : (mark : Bool) (n : NodeName) → mark ≡ is_inner (waiter_in m n).ctx
        → z.local mark n ≡ (sight_in m w f).local n
    local_is mark n true_ =
        let format : m.format ≡ k.format = at.acted.same.format ∙ st.of_plan.format in
        let sockets = at.acted.same.sockets ∙ st.of_plan.sockets in
        ap (λ (b : Bool). b || same_socket k.topology.sockets.items p n.cpu)
        (ap (stays_by k.format) true_ ∙ marks_stay k.format (waiter_in m n).ctx)
        ∙ (λ i. is_local (sym format i) (sym sockets i) p (waiter_in m n))
      where
        marks_stay : (format : Format) (c : ℕ) → stays_by format (is_inner c) ≡ stays format c
        marks_stay One c = refl
        marks_stay Two c = refl

    -- the count that it has read is still there
    pub counted : (r : ℕ) → c.runs ≡ Some r → (m.node (node_of f.me)).runs ≡ r
    counted r e =
        let on = acting_same k.mode v.calls verb l.index r e in
        ap (λ (g : NodeName → Node). (g (node_of f.me)).runs) at.acted.same.node
        ∙ (fits.counted r (running verb f acts.trail) acts.rest
        (ap (λ (d : Calls). d.runs) (sym on) ∙ e) (ap (λ (d : Calls). d.frames) (sym on) ∙ acts.is)).is

    counting : (o : Option ℕ) → c.runs ≡ o → is_some o ≡ true
        → (z.runs ≡ (sight_in m w f).runs) × (z.threshold ≡ (sight_in m w f).threshold)
    counting None e h = cc h
    counting (Some r) e h =
        let runs : z.runs ≡ (sight_in m w f).runs = ap count_of e ∙ sym (counted r e) in
        let threshold : z.threshold ≡ (sight_in m w f).threshold = sym (at.acted.same.threshold ∙ st.of_plan.threshold) in
        (runs, threshold)

    -- what a look along the links meets
    along_met : (d : Pc) → looks_along d ≡ true → met_in m w f (target d f) ≡ Named (m.node (node_of (choice_node d f))).next
    along_met C1 h = refl
    along_met C2 h = refl
    along_met _ h = cc h

    sees_whom : (y : Met) → plain y ≡ x → IsTrue m pc y → looks_along pc ≡ true → SeesWhom (sight_by z y) (sight_in m w f) x
    sees_whom y meets true_ along = subst (SeesWhom (sight_by z y) (sight_in m w f)) meets (by (plain y) refl)
      where
        name_is : {o o' : Option NodeName} → Named o ≡ Named o' → o ≡ o'
        name_is e = cc e

        by : (u : Met) → plain y ≡ u → SeesWhom (sight_by z y) (sight_in m w f) u
        by (Named (Some n)) e =
            let named : (m.node (node_of (choice_node pc f))).next ≡ Some n = name_is (sym (along_met pc along) ∙ (sym meets ∙ e)) in
            let user = behind_is_used m _ w f pc n at.acted.sound.spins live acts.place along named in
            local_is (mark_of y) n ((true_ along n e).1 user.0 user.1
            ∙ ap (λ (u : Waiter). is_inner u.ctx) (sym (user_found at.acted.sound.spins shallow user.0 n user.1)))
        by _ e = tt

    sees_same : (y : Met) (d : Pc) → (looks_along d ≡ true → SeesWhom (sight_by z y) (sight_in m w f) x) → Sees d c.runs
        → SeesSame d (sight_by z y) (sight_in m w f) x
    sees_same y C1 whom h = let s = counting c.runs refl h in (s.0, s.1, whom refl)
    sees_same y C2 whom h = whom refl
    sees_same y _ whom h = tt

    -- the row's course, as the seat computes it
    pub course_is : (y : Met) → plain y ≡ x → IsTrue m pc y → course k.mode p z pc f y ≡ o
    course_is y meets true_ =
        ap (course_at (setting k.mode p (sight_by z y)) pc f t) meets
        ∙ same_course (setting k.mode p (sight_by z y)) (setting_in m w f) pc f t x unseen.0 (sym same_mode)
        (sym (at.acted.same.turns ∙ st.of_plan.turns)) refl (sees_same y pc (sees_whom y meets true_) unseen.1)

    -- these are the calls after the row
    pub rowed : (y : Met) → plain y ≡ x → IsTrue m pc y → row_of (terms_of k) p c y ≡ after verb f (trail y) acts.rest c t o
    rowed y meets true_ =
        ap (λ (xs : List Running). row_on k.mode p z xs c y) acts.is
        ∙ (ap (λ q. row_at k.mode p z (running verb f acts.trail) acts.rest c y q) acts.place
        ∙ ap (after verb f (trail y) acts.rest c t) (course_is y meets true_))

    -- the frame fits its lock
    pub fitting : RwFits m.kind f
    fitting = at.acted.sound.fits w f live

    calm : releases (led f o.leads) ≡ false
    calm = elim (cases_Bool (is_rw_row pc)) [
      | inl e ↦ shared_calm m w f pc fitting acts.place e
      | inr e ↦ ap (λ b. b && not ((led f o.leads).lock.wait && not (is_leaving (led f o.leads).place))) (begins_none m w f pc fitting.after e)
    ]

    kinds : IsOwn t ⊎ (is_rw_row pc ≡ true)
    kinds = unseen_cases pc f unseen.0

    -- the lock that the row may take or free
    held_index : (held_lock t f).index ≡ f.lock.index
    held_index = elim kinds [
      | inl own ↦ ap (λ (z : LockName). z.index) (own_lock t f own)
      | inr h ↦ ap (λ (z : Target). (held_lock z f).index) (rw_target pc f h)
    ]

    -- the calls before the row, by its frame
    fresh_all : AreFresh (running verb f acts.trail ∷ acts.rest) c.holds
    fresh_all = subst (λ (rs : List Running). AreFresh rs c.holds) acts.is at.fresh

    waited : is_seeking (Some pc) ≡ true
        → (holds_in c.holds (held_lock t f).index ≡ false) × (waits_in acts.rest (held_lock t f).index ≡ false)
    waited h =
        subst (λ (j : ℕ). (holds_in c.holds j ≡ false) × (waits_in acts.rest j ≡ false)) (sym held_index)
        (fresh_all.0 (ap is_seeking acts.place ∙ h))

    -- a row that takes the lock finds that its processor does not hold it
    pub unheld_before : (y : Manner) → grip_of t o ≡ Takes y → holds_in c.holds (held_lock t f).index ≡ false
    unheld_before y e = (waited (takes_seeks m w f pc y e)).0

    fresh_now : (y : Met) → AreFresh (frames_after verb (led f o.leads) (trail y) acts.rest (led f o.leads).place)
        (holds_after (grip_of t o) f.ctx (held_lock t f) (c.taken + 1) c.holds)
    fresh_now y =
        after_fresh verb (led f o.leads) (trail y) acts.rest (led f o.leads).place (grip_of t o) f.ctx (held_lock t f) (c.taken + 1)
        c.holds (is_seeking (Some pc)) refl (led_index f o.leads ∙ sym held_index) waited (release_ends m w f pc)
        (λ y e. takes_seeks m w f pc y e) (taken_over m w f pc fitting acts.place kinds) fresh_all.1

    -- who uses a node where the call has begun used it before
    pub acted_frame : (u : Waiter) (b : NodeName) → (uses : Uses m u b) → st.world.frame u ≡ Some uses.0
    acted_frame u b uses =
        elim (cases_eq u.cpu p) [
          | inl e ↦
              let here : m.frame (waiter p u.ctx) ≡ Some uses.0 = subst (λ (q : ℕ). m.frame (waiter q u.ctx) ≡ Some uses.0) e uses.1 in
              subst (λ (q : ℕ). st.world.frame (waiter q u.ctx) ≡ Some uses.0) (sym e)
              (fits.mirrors.frames u.ctx
              ∙ acting_frame k.mode v.calls verb l.index u.ctx uses.0 b (sym (at.acted.mirrors.frames u.ctx) ∙ here) uses.2)
          | inr ne ↦ sym (at.acted.others u ne).0 ∙ uses.1
        ]

    abbrev pub was_used : (u : Waiter) (b : NodeName) → Uses m u b → Uses st.world u b
    was_used u b uses = (uses.0, acted_frame u b uses, uses.2)

    -- so the marks are right there, and what fronts were told is true
    pub marked_here : AreRight m st.marks
    marked_here =
        record {
          says = λ awake a b u e uses next there.
              (rule.right k s st id v me p is).says (ap halts (sym at.acted.same.mode) ∙ awake) a b u e (was_used u a uses)
              (ap (λ (g : NodeName → Node). (g a).next) (sym at.acted.same.node) ∙ next) (was_used e b there);
          bare = λ on. (rule.right k s st id v me p is).bare (ap halts (sym at.acted.same.mode) ∙ on);
        }

    pub told_here : AreTold m c.frames
    told_here d g e a b u at_d place on first knows uses =
        let y = acting_told k.mode v.calls verb l.index d g a b at_d knows in
        fits.told d g e a b u y.0 place on first y.1 (was_used u a uses)

    -- the frame keeps its node, or leaves it, or has got one that nobody used
    abbrev pub IsMine : Type 0
    IsMine = (b : NodeName) → is_node (led f o.leads).me b ≡ true
        → (is_node f.me b ≡ true) ⊎ (IsFree m b × ((n.node b).next ≡ None))

    -- the calls below that of the row
    rest_live : (d : ℕ) (g : Frame) → frame_in acts.rest d ≡ Some g → m.frame (waiter p d) ≡ Some g
    rest_live d g e =
        at.acted.mirrors.frames d ∙ (ap (λ (xs : List Running). frame_in xs d) acts.is
        ∙ (below_it (running verb f acts.trail) acts.rest d g stands e).0)

    rest_told : AreTold m acts.rest
    rest_told d g e a b u at_d place on first knows uses =
        let y = below_it (running verb f acts.trail) acts.rest d g stands at_d in
        told_here d g e a b u (ap (λ (xs : List Running). frame_in xs d) acts.is ∙ y.0) place on first
        (ap (λ (xs : List Running). told_in xs d) acts.is ∙ (y.1 ∙ knows)) uses

    -- and its own
    own_told : (e : Pc) (a : NodeName) (b : Bool) (u : Waiter) → f.place ≡ Some e
        → Rattle.lk_law.specs.Nodes.will_link e f.why ≡ true → f.a ≡ Some a
        → told acts.trail ≡ Some (a, b) → Uses m u a → b ≡ Rattle.lk_domain.specs.Calls.is_inner u.ctx
    own_told e a b u place on first knows uses =
        told_here f.ctx f e a b u
        (ap (λ (xs : List Running). frame_in xs f.ctx) acts.is ∙ frame_in-top (running verb f acts.trail) acts.rest)
        place on first
        (ap (λ (xs : List Running). told_in xs f.ctx) acts.is
        ∙ (if-true (eqb f.ctx f.ctx) (told acts.trail) (told_in acts.rest f.ctx) (eq-eqb f.ctx f.ctx refl) ∙ knows)) uses

    grows : (y : Met) → IsMine → Grows m (done y).world
    grows y mine u b uses =
        elim (cases_eq u.cpu p) [
          | inl e ↦ own e
          | inr ne ↦ inl (uses.0, sym ((done y).others u ne).0 ∙ uses.1, uses.2)
        ]
      where
        at_p : u.cpu ≡ p → frame_in (frames_after verb (led f o.leads) (trail y) acts.rest (led f o.leads).place) u.ctx ≡ Some uses.0
        at_p e =
            sym ((done y).mirrors.frames u.ctx)
            ∙ subst (λ (q : ℕ). (done y).world.frame (waiter q u.ctx) ≡ Some uses.0) e uses.1

        own : u.cpu ≡ p
            → Uses m u b ⊎ (IsFree m b × (((done y).world.node b).next ≡ None))
        own e =
            elim (after_cases verb (led f o.leads) (trail y) acts.rest (led f o.leads).place u.ctx uses.0 (at_p e)) [
              | inl j ↦ elim (mine b (ap (λ (g : Frame). is_node g.me b) (sym j.1) ∙ uses.2)) [
                | inl keeps' ↦
                    let ctx : u.ctx ≡ f.ctx = j.0 ∙ led_ctx f o.leads in
                    let here : m.frame u ≡ Some f = (λ i. m.frame (waiter (e i) (ctx i))) ∙ live in
                    inl (f, here, keeps')
                | inr free ↦ inr (free.0, ap (λ (g : NodeName → Node). (g b).next) (done y).node ∙ free.1)
              ]
              | inr j ↦
                  let here : m.frame u ≡ Some uses.0 = (λ i. m.frame (waiter (e i) u.ctx)) ∙ rest_live u.ctx uses.0 j.0 in
                  inl (uses.0, here, uses.2)
            ]

    told_now : (y : Met) → IsTrue m pc y → IsMine
        → AreTold (done y).world (frames_after verb (led f o.leads) (trail y) acts.rest (led f o.leads).place)
    told_now y true_ mine d g e a b u at_d place on first knows uses =
        let world = (done y).world in
        elim (after_cases verb (led f o.leads) (trail y) acts.rest (led f o.leads).place d g at_d) [
          | inl j ↦
              newest_told m world _ at.acted.sound.spins (grows y mine) w f live acts.trail y
              (read_at pc (sight_of (terms_of k) p c.runs)) own_told pc acts.place true_ e a b u
              (ap (λ (h : Frame). h.place) (sym j.1) ∙ place)
              (ap (λ (h : Frame). Rattle.lk_law.specs.Nodes.will_link e h.why) (sym j.1) ∙ on)
              (ap (λ (h : Frame). h.a) (sym j.1) ∙ first) (sym j.2 ∙ knows) uses
          | inr j ↦
              told_after m world _ at.acted.sound.spins (grows y mine) p acts.rest rest_live rest_told d g e a b u j.0 place on first
              (sym j.1 ∙ knows) uses
        ]

    told_others : (y : Met) → IsMine → KeepsTold st.world (done y).world p
    told_others y mine q e ne fit =
        told_after m (done y).world _ at.acted.sound.spins (grows y mine) q e.frames
        (λ j g at_j. (at.acted.others (waiter q j) ne).0 ∙ (fit.mirrors.frames j ∙ at_j))
        (λ j g i a b u at_j place on first knows uses. fit.told j g i a b u at_j place on first knows (was_used u a uses))

    -- the step of the call keeps the rule, where the words are those of the world after the row
    pub lands : (y : Met) → plain y ≡ x → IsTrue m pc y → IsMine → (marks : NodeName → Bool) → KeepsMarks m n marks
        → (pairs : ℕ → ℕ) → (u : View) → u.who ≡ v.who → u.calls ≡ row_of (terms_of k) p c y → (ws : List ℕ)
        → IsStored k n marks pairs ws → get_or ws 0 0 ≡ roll_of → KeepsComing st.world n p → KeepsCounts st.world n p
        → Halting k s st n pairs id p → (homes : List (Maybe S))
        → Runs k {S = S} (record { words = ws; homes = homes; views = set s.views id u })
    lands y meets true_ mine marks links pairs u who calls ws stored roll coming counts beside homes =
        let d = done y in
        let r = row_done in
        let is_after : u.calls ≡ after verb f (trail y) acts.rest c t o = calls ∙ rowed y meets true_ in
        let low : length acts.rest < 6 =
        let y : length c.frames ≡ suc (length acts.rest) = ap (λ (xs : List Running). length xs) acts.is in
        let z = at.few in omega arith in
        let below : Rests acts.rest = subst RestsBelow acts.is at.below in
        let same = at.acted.same in
        rule.keeps k s st id v me p is d.world d.histories marks pairs u ws d.sound (d.attended (at.acted.attended st.attended))
        (record {
          mode = d.mode ∙ (r.mode ∙ same_mode);
          turns = d.turns ∙ (r.turns ∙ (same.turns ∙ st.of_plan.turns));
          threshold = d.threshold ∙ (r.threshold ∙ (same.threshold ∙ st.of_plan.threshold));
          format = d.format ∙ (r.format ∙ (same.format ∙ st.of_plan.format));
          sockets = d.sockets ∙ (r.sockets ∙ (same.sockets ∙ st.of_plan.sockets));
          kind = d.kind ∙ (r.kind ∙ (same.kind ∙ st.of_plan.kind));
        })
        (renumbered k stored d.world (same_numbers k pairs n d.world d.word d.rw d.node d.kicked))
        (marked_after m d.world marks (d.mode ∙ r.mode) (grows y mine) (record {
          used = λ awake a b e uses next free. links.used awake a b e uses (ap (λ (g : NodeName → Node). (g a).next) (sym d.node) ∙ next) free;
          says = λ awake a b e i uses next there. links.says awake a b e i uses (ap (λ (g : NodeName → Node). (g a).next) (sym d.node) ∙ next) there;
          bare = links.bare;
        })) roll
        (λ y ne. ((d.others y ne).0 ∙ (at.acted.others y ne).0, λ j. (d.others y ne).1 j ∙ (at.acted.others y ne).1 j))
        (λ q ne. ap (λ (g : ℕ → ℕ). g q) d.queued ∙ (r.queued q ne ∙ ap (λ (g : ℕ → ℕ). g q) same.queued))
        (λ q e ne fit r. ap (λ (g : NodeName → Node). node_number r (g (node_name q (st.world.queued q)))) d.node
        ∙ coming q e ne fit r)
        (λ q e ne fit. counted_after n d.world e (λ b. ap (λ (g : NodeName → Node). (g b).runs) d.node) (counts q e ne fit))
        (told_others y mine)
        who
        (subst (λ (e : Calls). SeatFits d.world p e) (sym is_after) (record {
          mirrors = d.mirrors;
          stacked = after_stacked verb (led f o.leads) (trail y) acts.rest (led f o.leads).place (led_ctx f o.leads ∙ stands.0) stands.1;
          few = after_few verb (led f o.leads) (trail y) acts.rest (led f o.leads).place low;
          placed = after_placed verb (led f o.leads) (trail y) acts.rest (led f o.leads).place refl (subst ArePlaced acts.is at.placed).1;
          rests = after_rests verb (led f o.leads) (trail y) acts.rest (led f o.leads).place calm below;
          held = subst (λ (kind : ℕ → Kind). AreHeld kind (holds_after (grip_of t o) f.ctx (held_lock t f) (c.taken + 1) c.holds))
              (sym (d.kind ∙ (r.kind ∙ same.kind)))
              (after_held st.world.kind (grip_of t o) f.ctx (held_lock t f) (c.taken + 1) c.holds (let z = stands.0 in omega arith)
              (λ y e. (subst (λ (kind : ℕ → Kind). Suits kind (held_lock t f) y) same.kind (taken_suits m w f pc fitting acts.place kinds y e), λ _. unheld_before y e))
              at.held);
          fresh = fresh_now y;
          reset = none_reset _;
          counted = λ j y rs e. absurd (none_some e);
          told = told_now y true_ mine;
          single = λ on. fewer verb (led f o.leads) (trail y) acts.rest (led f o.leads).place
              (let y : length c.frames ≡ suc (length acts.rest) = ap (λ (xs : List Running). length xs) acts.is in
              let z = at.single (ap halts (sym (d.mode ∙ (r.mode ∙ same.mode))) ∙ on) in omega arith);
          halted = ap (λ (g : ℕ → Bool). g p) d.halted ∙ (ap (λ (g : ℕ → Bool). g p) r.halted
              ∙ halted_row k m w f pc c.halted (ap (λ (g : ℕ → Bool). g p) same.halted ∙ (fits.halted ∙ acting_halted k.mode v.calls verb l.index)));
        })) (record {
          hashed = λ on. subst (λ (e : LockName → Option NodeName). IsHashed k e pairs) (sym d.entry) (beside.hashed on);
          halted = λ q ne. ap (λ (g : ℕ → Bool). g q) d.halted ∙ beside.halted q ne;
          seeks = beside.seeks;
        }) (subst (Seeks k pairs) (sym is_after) (λ y rs e h. unlooked k pairs y.frame.lock.index)) homes
      where
        none_some : {a : ℕ} → None ≡ Some a → ⊥
        none_some e = cc e
