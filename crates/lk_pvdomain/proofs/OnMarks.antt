-- The steps on the kick word of a processor: a halt, and its end.
use Rattle.std.proofs.Common.{◌≡◌, ◌≢◌, inl, ℕ, ◌<◌, List, [], ◌∷◌, set, get_or, Option, Some, None}
use Rattle.std.proofs.Common.{Bool, true, false, eqb, eq-eqb, ne_eqb, refl, sym, ap, ◌∙◌, subst}
use Rattle.std.proofs.Common.{arith, if◌then◌else◌, ◌&&◌, not, is_some}
use Rattle.lk_pvdomain.proofs.Names.{get_elem?, some, NodeName, LockName, Waiter, node_of, target}
use Rattle.lk_pvdomain.proofs.Names.{Frame, Node, Pc, E12, G1, U5, W6, Verb, if-false}
use Rattle.lk_pvdomain.proofs.Names.{node_comes_at_entry, halts, Marked, enters, met_in, stored_in}
use Rattle.lk_pvdomain.proofs.Names.{World, in_plan, top_live, IsOwn, own_row, counted_after}
use Rattle.lk_pvdomain.proofs.Names.{Poised, IsSeen, bare_me, roll_stays, Begins, Calls, Running}
use Rattle.lk_pvdomain.proofs.Names.{StandsOn, acting, frame_in, row_of, terms_of, cpus_of, Runs}
use Rattle.lk_pvdomain.proofs.Names.{Seeks, node_name, seeks_entry, waiter, OfKick, node_number}
use Rattle.lk_pvdomain.proofs.Names.{Plan, View, woken, halts_at}
use Rattle.atomic_table.specs.Table.{State as Table}
use mathlib.Core.Option.{Option as Maybe}
use Rattle.lk_names.specs.Lawful.{Rules}
use Rattle.lk_rows.specs.Acts.{stands_halting, after_halt}
use Rattle.lk_law.proofs.pv.HaltLayers.{wake_keeps}
use Rattle.lk_law.specs.{Families.chooses, Premises.{IsNewest, roused}}
use Rattle.lk_law.specs.Steps.{put_halted, put_kicked}
use Rattle.lk_waits.proofs.Attended.{wake_attended}
use Rattle.lk_domain.proofs.{Stacks.frame_in-above, queue.LockSwaps.set_self}
use Rattle.lk_domain.proofs.{rows.Begun.{same_at, else_at}, rows.Changes.kick_changes}
use Rattle.lk_domain.proofs.{rows.Kept.halting_same, rows.Writes.row_step}
use Rattle.lk_domain.proofs.words.Written.{renumbered, same_numbers, written}
use Rattle.lk_domain.specs.Calls.{Stacked, AreFresh, begins_release, is_seeking, is_leaving}
use Rattle.lk_domain.specs.{Runs.{SeatFits, Mirrors}, Words.{with_mark, kick_at, mark_number}}
use Rattle.lk_pvdomain.proofs.Unmarked.{unseen_links, marks_stay, untold}
use Rattle.lk_pvdomain.specs.PvPlays.{stirred}
use Rattle.lk_domain.proofs.rows.Kept as rule
use Rattle.lk_domain.proofs.rows.Lands as lands

if_if : {A : Type 0} (b : Bool) (x y z : A) → (if b then x else (if b then y else z)) ≡ (if b then x else z)
if_if true x y z = refl
if_if false x y z = refl

pub halt_seen : (c : Pc) (f : Frame) (r : Option ℕ) → halts_at c ≡ true → IsSeen c (target c f) r
halt_seen W6 f r h = (tt, tt)
halt_seen E12 f r h = (tt, tt)
halt_seen _ f r h = cc h

halt_own : (c : Pc) (f : Frame) → halts_at c ≡ true → IsOwn (target c f)
halt_own W6 f h = tt
halt_own E12 f h = tt
halt_own _ f h = cc h

halt_entry : (c : Pc) → halts_at c ≡ true → c ≢ G1
halt_entry G1 h e = cc h
halt_entry _ h e = cc e

halt_met : (m : World) (w : Waiter) (f : Frame) (c : Pc) → halts_at c ≡ true → met_in m w f (target c f) ≡ Marked (m.halted w.cpu)
halt_met m w f W6 h = refl
halt_met m w f E12 h = refl
halt_met m w f _ h = cc h

halt_stored : (m : World) (w : Waiter) (f : Frame) (c : Pc) → halts_at c ≡ true
    → stored_in m w f c (target c f) ≡ put_halted m w.cpu true
halt_stored m w f W6 h = refl
halt_stored m w f E12 h = refl
halt_stored m w f _ h = cc h

-- where a halt may end
after_calm : (o : Option Pc) → stands_halting o ≡ true → begins_release (after_halt o) ≡ false
after_calm (Some W6) h = refl
after_calm (Some E12) h = refl
after_calm _ h = cc h

after_placed : (o : Option Pc) → stands_halting o ≡ true → is_some (after_halt o) ≡ true
after_placed (Some W6) h = refl
after_placed (Some E12) h = refl
after_placed _ h = cc h

was_seeking : (o : Option Pc) → stands_halting o ≡ true → is_seeking o ≡ true
was_seeking (Some W6) h = refl
was_seeking (Some E12) h = refl
was_seeking _ h = cc h

after_unsought : (o : Option Pc) → stands_halting o ≡ true → seeks_entry (after_halt o) ≡ false
after_unsought (Some W6) h = refl
after_unsought (Some E12) h = refl
after_unsought _ h = cc h

halting_unchosen : (o : Option Pc) (c : Pc) → o ≡ Some c → stands_halting o ≡ true → chooses c ≡ true → ⊥
halting_unchosen (Some W6) c e h k = let q : W6 ≡ c = same e in let z = ap chooses q ∙ k in cc z
  where
    same : {a b : Pc} → Some a ≡ Some b → a ≡ b
    same q = grind (arith, q)
halting_unchosen (Some E12) c e h k = let q : E12 ≡ c = same e in let z = ap chooses q ∙ k in cc z
  where
    same : {a b : Pc} → Some a ≡ Some b → a ≡ b
    same q = grind (arith, q)
halting_unchosen _ c e h k = cc h

abbrev top_place : List Running → Option Pc
top_place [] = None
top_place (r ∷ rs) = r.frame.place

module _ (k : Plan) {S : Type 0} (s : Table S View) (st : Runs k s) (id : ℕ) (v : View)
    (me : get_elem? s.views id ≡ some v) (p : ℕ) (is : v.who.number ≡ Some p)
    (halting : halts k.mode ≡ true) where
  abbrev fits : SeatFits st.world p v.calls
  fits = st.seats id v p me is

  -- the row by which the processor halts
  module _ (verb : Verb) (l : LockName) (pc : Pc) (asks : Begins k v.calls verb l.index)
      (acts : StandsOn (acting k.mode v.calls verb l.index) verb l pc) (on : halts_at pc ≡ true)
      (goes_on : acting k.mode v.calls verb l.index ≡ v.calls) (awake : v.calls.halted ≡ false) where
    abbrev pub unseen : IsSeen pc (target pc acts.frame) (acting k.mode v.calls verb l.index).runs
    unseen = halt_seen pc acts.frame (acting k.mode v.calls verb l.index).runs on

    abbrev f : Frame
    f = acts.frame

    abbrev w : Waiter
    w = waiter p f.ctx

    abbrev at : Poised st.world p (acting k.mode v.calls verb l.index)
    at = lands.at k s st id v me p is verb l pc asks acts unseen

    abbrev m : World
    m = at.acted.world

    abbrev n : World
    n = lands.n k s st id v me p is verb l pc asks acts unseen

    pub met_is : met_in m w f (target pc f) ≡ Marked false
    met_is =
        halt_met m w f pc on
        ∙ ap Marked (ap (λ (g : ℕ → Bool). g p) at.acted.same.halted ∙ (fits.halted ∙ awake))

    is_stored : stored_in m w f pc (target pc f) ≡ put_halted m p true
    is_stored = halt_stored m w f pc on

    -- the row gives no node
    row_bare : enters (lands.o k s st id v me p is verb l pc asks acts unseen).leads ≡ false
    row_bare =
        node_comes_at_entry m w f pc (own_row pc f (halt_own pc f on)) (lands.fitting k s st id v me p is verb l pc asks acts unseen).after (halt_entry pc on)

    nodes : n.node ≡ st.world.node
    nodes =
        (lands.row_done k s st id v me p is verb l pc asks acts unseen).node row_bare
        ∙ (ap (λ (z : World). z.node) is_stored ∙ at.acted.same.node)

    pub halt_step : (u : View) → u.who ≡ v.who
        → u.calls ≡ row_of (terms_of k) p (acting k.mode v.calls verb l.index) (Marked false) → (homes : List (Maybe S))
        → Runs k {S = S} (record {
          words = set s.words (kick_at k p) (get_or s.words (kick_at k p) 0);
          homes = homes;
          views = set s.views id u;
        })
    halt_step u who calls homes =
        let d = lands.row_done k s st id v me p is verb l pc asks acts unseen in
        let same = at.acted.same in
        subst (λ (ws : List ℕ). Runs k {S = S} (record { words = ws; homes = homes; views = set s.views id u }))
        (sym (set_self s.words (kick_at k p)))
        (lands.lands k s st id v me p is verb l pc asks acts unseen (Marked false) (sym met_is)
        (unseen_links m _ at.acted.sound.spins (ap halts (same.mode ∙ st.of_plan.mode) ∙ halting) w f pc
        (lands.live k s st id v me p is verb l pc asks acts unseen) acts.place (Marked false))
        (λ b mine. inl (bare_me f (lands.o k s st id v me p is verb l pc asks acts unseen).leads b row_bare mine))
        st.marks (marks_stay m n st.marks (ap halts (same.mode ∙ st.of_plan.mode) ∙ halting) (lands.marked_here k s st id v me p is verb l pc asks acts unseen))
        st.pairs u who calls s.words
        (renumbered k st.stored n (same_numbers k st.pairs st.world n (d.word ∙ (ap (λ (x : World). x.word) is_stored ∙ same.word))
        (d.rw ∙ (ap (λ (x : World). x.rw) is_stored ∙ same.rw)) nodes
        (d.kicked ∙ (ap (λ (x : World). x.kicked) is_stored ∙ same.kicked))))
        refl
        (λ q e ne fit r. ap (λ (g : NodeName → Node). node_number r (g (node_name q (st.world.queued q)))) nodes)
        (λ q e ne fit. counted_after st.world n e (λ b. ap (λ (g : NodeName → Node). (g b).runs) nodes) fit.counted)
        (halting_same k s st n id p (d.entry ∙ (ap (λ (x : World). x.entry) is_stored ∙ same.entry))
        (λ q ne. ap (λ (g : ℕ → Bool). g q) (d.halted ∙ ap (λ (x : World). x.halted) is_stored)
        ∙ (if-false (eqb q p) true (m.halted q) (ne_eqb q p ne) ∙ ap (λ (g : ℕ → Bool). g q) same.halted)))
        homes)

  -- the row by which a kick is remembered, which ends a release
  module _ (verb : Verb) (l : LockName) (asks : Begins k v.calls verb l.index)
      (acts : StandsOn (acting k.mode v.calls verb l.index) verb l U5)
      (near : (node_of acts.frame.target).cpu < cpus_of k) where
    abbrev q : ℕ
    q = (node_of acts.frame.target).cpu

    abbrev f₁ : Frame
    f₁ = acts.frame

    abbrev w₁ : Waiter
    w₁ = waiter p f₁.ctx

    abbrev at₁ : Poised st.world p (acting k.mode v.calls verb l.index)
    at₁ = lands.at k s st id v me p is verb l U5 asks acts (tt, tt)

    abbrev m₁ : World
    m₁ = at₁.acted.world

    -- whether one was remembered already
    abbrev pub kick_found : Bool
    kick_found = m₁.kicked q

    pub kick_is : get_or s.words (kick_at k q) 0 ≡ mark_number kick_found
    kick_is =
        st.stored.words (OfKick q) (halting, near) refl
        ∙ ap (λ (g : ℕ → Bool). mark_number (g q)) (sym at₁.acted.same.kicked)

    row_bare₁ : enters (lands.o k s st id v me p is verb l U5 asks acts (tt, tt)).leads ≡ false
    row_bare₁ = node_comes_at_entry m₁ w₁ f₁ U5 refl (lands.fitting k s st id v me p is verb l U5 asks acts (tt, tt)).after (λ e. cc e)

    pub kick_step : (u : View) → u.who ≡ v.who
        → u.calls ≡ row_of (terms_of k) p (acting k.mode v.calls verb l.index) (Marked kick_found) → (homes : List (Maybe S))
        → Runs k {S = S} (record { words = set s.words (kick_at k q) 1; homes = homes; views = set s.views id u })
    kick_step u who calls homes =
        row_step k s st id v me p is verb l U5 asks acts (tt, tt) (OfKick q) refl row_bare₁ (halting, near) (λ b r e. cc e)
        (Marked kick_found) refl (λ e. cc e) 1
        (sym (ap (λ b. mark_number (if b then true else m₁.kicked q)) (eq-eqb q q refl))) u who calls homes

  -- the kick is taken, which ends the halt of the processor's one call
  module _ (x : Running) (is_x : v.calls.frames ≡ x ∷ []) (asleep : v.calls.halted ≡ true) where
    abbrev y : Waiter
    y = waiter p x.frame.ctx

    abbrev gone : Frame
    gone = record x.frame { place = after_halt x.frame.place }

    abbrev x' : Running
    x' = record x { frame = gone }

    live : st.world.frame y ≡ Some x.frame
    live = top_live k s st id v me p is fits x [] is_x

    stacked : Stacked (x ∷ [])
    stacked = subst Stacked is_x fits.stacked

    newest : IsNewest st.world y
    newest =
        record {
          above = λ c lt. fits.mirrors.frames c
              ∙ (ap (λ (xs : List Running). frame_in xs c) is_x
              ∙ frame_in-above (x ∷ []) c stacked (let e = stacked.0 in omega (arith, e, lt)));
          low = let e = stacked.0 in omega (arith, e);
          shallow = λ q c ge. (st.six (waiter q c) ge).0;
        }

    abbrev rules : Rules
    rules = record { format = st.world.format; mode = st.world.mode; sockets = st.world.sockets; threshold = st.world.threshold }

    abbrev n' : World
    n' = put_kicked (roused st.world y x.frame) p false

    stood : stands_halting x.frame.place ≡ true
    stood = (wake_keeps st.world st.histories rules y x.frame st.sound newest live (fits.halted ∙ asleep)).0

    abbrev c' : Calls
    c' = record v.calls { frames = x' ∷ []; halted = false }

    pub woken_is : (woken v).calls ≡ c'
    woken_is = ap (λ (fs : List Running). record v.calls { frames = stirred fs; halted = false }) is_x

    mirrors' : Mirrors n' p c'
    mirrors' =
        record {
          frames = λ d. (λ i. if same_at p d x.frame.ctx i then Some gone else (fits.mirrors.frames d ∙ ap (λ (xs : List Running). frame_in xs d) is_x) i)
              ∙ if_if (eqb d x.frame.ctx) (Some gone) (Some x.frame) None;
          holds = fits.mirrors.holds;
        }

    on' : halts st.world.mode ≡ true
    on' = ap halts st.of_plan.mode ∙ halting

    fit' : SeatFits n' p c'
    fit' =
        record {
          mirrors = mirrors';
          stacked = (stacked.0, tt);
          few = omega arith;
          placed = (after_placed x.frame.place stood, tt);
          rests = (ap (λ b. b && not (gone.lock.wait && not (is_leaving gone.place))) (after_calm x.frame.place stood), tt);
          held = fits.held;
          fresh = (
            λ h. (subst (λ (rs : List Running). AreFresh rs v.calls.holds) is_x fits.fresh).0 (was_seeking x.frame.place stood),
            tt,
          );
          reset = fits.reset;
          counted = λ j z rs runs e. let o = fits.counted j x [] runs is_x in
              absurd (halting_unchosen x.frame.place o.row o.place stood o.front);
          told = untold n' _ (wake_keeps st.world st.histories rules y x.frame st.sound newest live (fits.halted ∙ asleep)).1.spins on' n' p (x' ∷ []) (λ d g at'. mirrors'.frames d ∙ at');
          single = λ _. omega arith;
          halted = ap (λ b. if b then false else st.world.halted p) (eq-eqb p p refl);
        }

    pub wake_step : (u : View) → u.who ≡ v.who → u.calls ≡ (woken v).calls → (homes : List (Maybe S))
        → Runs k {S = S} (record { words = set s.words (kick_at k p) 0; homes = homes; views = set s.views id u })
    wake_step u who calls homes =
        let low : p < cpus_of k = in_plan k s st id v me p is in
        let gone_on : World = roused st.world y x.frame in
        rule.keeps k s st id v me p is n' _ st.marks st.pairs u (set s.words (kick_at k p) 0)
        (wake_keeps st.world st.histories rules y x.frame st.sound newest live (fits.halted ∙ asleep)).1
        (wake_attended st.world _ y x.frame st.sound.spins newest live (fits.halted ∙ asleep) on' st.attended)
        (record {
          mode = st.of_plan.mode;
          turns = st.of_plan.turns;
          threshold = st.of_plan.threshold;
          format = st.of_plan.format;
          sockets = st.of_plan.sockets;
          kind = st.of_plan.kind;
        })
        (written k st.stored n' st.marks st.pairs (OfKick p) (halting, low) 0
        (sym (ap (λ b. mark_number (if b then false else st.world.kicked p)) (eq-eqb p p refl)))
        (λ z there read ne. ap (with_mark st.marks z) ((kick_changes k gone_on p p refl (Some false)).numbers st.pairs z ne
        ∙ same_numbers k st.pairs st.world gone_on refl refl refl refl z)))
        (record {
          says = λ off. absurd (let z : true ≡ false = sym on' ∙ off in cc z);
          bare = λ h. (rule.right k s st id v me p is).bare on';
        })
        (roll_stays k s.words (OfKick p) 0 (halting, low))
        (λ z ne. (if-false _ (Some gone) (st.world.frame z) (else_at z p x.frame.ctx ne), λ j. refl))
        (λ q ne. refl) (λ q d ne f r. refl) (λ q d ne f. counted_after st.world n' d (λ b. refl) f.counted)
        (λ q d ne f. untold st.world _ st.sound.spins on' n' q d.frames (λ j g at'. f.mirrors.frames j ∙ at')) who
        (subst (SeatFits n' p) (sym (calls ∙ woken_is)) fit')
        (halting_same k s st n' id p refl (λ q ne. if-false (eqb q p) false (st.world.halted q) (ne_eqb q p ne)))
        (subst (Seeks k st.pairs) (sym (calls ∙ woken_is)) (λ z rs e h. absurd (
        let q : seeks_entry (after_halt x.frame.place) ≡ seeks_entry z.frame.place = ap (λ (fs : List Running). seeks_entry (top_place fs)) e in
        let r : false ≡ true = sym (after_unsought x.frame.place stood) ∙ (q ∙ h) in cc r)))
        homes
