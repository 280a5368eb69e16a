-- What the steps on kick words ask.
use Rattle.std.proofs.Common.{◌≡◌, ℕ, ◌<◌, get_or, set, Some, Bool, true, false, refl, sym, ap, ◌∙◌}
use Rattle.std.proofs.Common.{subst, [], ◌∷◌}
use Rattle.lk_pvdomain.proofs.Names.{Allows, Me, keeps, get_elem?, dite, some, ℕ_discrete, LockName}
use Rattle.lk_pvdomain.proofs.Names.{node_of, target, Pc, E12, U5, W6, Verb, halts, Marked, Met}
use Rattle.lk_pvdomain.proofs.Names.{World, acting_is, stands, acts', asks, calls_are, kept}
use Rattle.lk_pvdomain.proofs.Names.{in_plan, IsSeen, MayFree, bare, Calls, Running, StandsOn}
use Rattle.lk_pvdomain.proofs.Names.{acting, terms_of, AllHome, Slot, turned, cpus_of, went, Runs}
use Rattle.lk_pvdomain.proofs.Names.{Stand, IsNumbered, OfKick, Plan, View, woken, halts_at}
use Rattle.atomic_table.specs.Table.{State as Table}
use Rattle.lk_law.specs.Leads.{held_lock}
use Rattle.lk_domain.proofs.Outs.{acting_holds}
use Rattle.lk_domain.proofs.journals.Purses.{alters_at, knows_after, knows_same}
use Rattle.lk_domain.proofs.{queue.NodePlays.planned, rows.Users.IsTrue}
use Rattle.lk_domain.proofs.{words.LockPlays.{acting_any, acting_sole}, words.Written.IsBare}
use Rattle.lk_domain.specs.{Calls.{grip_of, plain}, Keeps.{Keeps, Knows}, Plays.turned_of}
use Rattle.lk_domain.specs.{Views.own_number, Words.kick_at}
use Rattle.lk_pvdomain.proofs.Unmarked.{halt_off}
use Rattle.lk_pvdomain.specs.PvPlays.{Halts, Wakes, Kicks, AtHalt, AtKick}
use Rattle.lk_domain.proofs.rows.Fresh as fresh
use Rattle.lk_domain.proofs.rows.Lands as lands
use Rattle.lk_pvdomain.proofs.OnMarks as on

halt_frees : (c : Pc) → halts_at c ≡ true → MayFree c → ⊥
halt_frees W6 h t = cc t.3
halt_frees E12 h t = cc t.3
halt_frees _ h t = cc h

-- the row by which the processor halts: a look at its kick word
pub halt_plays : (k : Plan) (slots id : ℕ) (m : Me Slot View) (number : IsNumbered m.0) (v : Verb) (lock : LockName) (pc : Pc)
    → halts k.mode ≡ true → StandsOn m.0.calls v lock pc → halts_at pc ≡ true → m.0.calls.halted ≡ false
    → Allows (Stand k) slots id m (kick_at k number.0) (λ n. n) (Halts m)
halt_plays k slots id m number v lock pc halting acts has awake s both long me small =
    let p = number.0 in
    let st : Runs k s = both.runs in
    let go = acts' k id m number v lock pc acts s both me in
    let ask = asks k id m number v lock pc acts s both me in
    let same = acting_is m.0.calls v lock pc acts k.mode in
    let unseen = on.unseen k s st id m.0 me p number.1 halting v lock pc ask go has same awake in
    let met = on.met_is k s st id m.0 me p number.1 halting v lock pc ask go has same awake in
    let j : ℕ = kick_at k p in (
      went m.0 (Marked false),
      keeps,
      tt,
      record {
        runs = on.halt_step k s st id m.0 me p number.1 halting v lock pc ask go has same awake (went m.0 (Marked false)) refl
            (calls_are k id m number v lock pc acts s both me (Marked false)) s.homes;
        keeps = kept k id m number v lock pc acts s both me unseen (halt_frees pc has) (Marked false) (sym met) (λ e. absurd (halt_off pc has e)) j
            (get_or s.words j 0) (bare k st.lawful.accounts (OfKick p) (halting, in_plan k s st id m.0 me p number.1));
      },
      refl,
    )

-- the exchange that takes the kick ends the halt
pub wake_plays : (k : Plan) (slots id : ℕ) (m : Me Slot View) (number : IsNumbered m.0) (x : Running)
    → halts k.mode ≡ true → m.0.calls.frames ≡ x ∷ [] → m.0.calls.halted ≡ true
    → Allows (Stand k) slots id m (kick_at k number.0) (λ _. 0) (Wakes m)
wake_plays k slots id m number x halting is_x asleep s both long me small =
    let p = number.0 in
    let st : Runs k s = both.runs in
    let j : ℕ = kick_at k p in
    let bare = bare k st.lawful.accounts (OfKick p) (halting, in_plan k s st id m.0 me p number.1) in
    let n : ℕ = get_or s.words j 0 in
    dite (ℕ_discrete n 0)
    (λ none. (
      m.0,
      keeps,
      tt,
      stands k s both id m.0 me j 0 (sym none),
      record { wakes = λ ne. absurd (ne none); stays = λ _. refl },
    ))
    (λ some. (
      woken m.0,
      keeps,
      tt,
      record {
        runs = on.wake_step k s st id m.0 me p number.1 halting x is_x asleep (woken m.0) refl refl s.homes;
        keeps = alters_at k s both.keeps id m.0 (woken m.0) j 0 bare me refl
            (knows_same k both.keeps.journal m.0 (woken m.0) (both.keeps.knows id m.0 me) refl refl refl refl (λ l m is. is)) refl refl;
      },
      record { wakes = λ _. refl; stays = λ e. absurd (some e) },
    ))

-- the ledger part of a row of the newest call that may free its lock
module _ (k : Plan) (id : ℕ) (m : Me Slot View) (number : IsNumbered m.0) (v : Verb) (lock : LockName) (pc : Pc)
    (acts : StandsOn m.0.calls v lock pc) (home : AllHome lock m.0)
    (own : held_lock (target pc acts.frame) acts.frame ≡ lock) (s : Table Slot View) (both : Stand k s)
    (me : get_elem? s.views id ≡ some m.0)
    (unseen : IsSeen pc (target pc acts.frame) (acting k.mode m.0.calls v lock.index).runs) where
  abbrev x : Met
  x = lands.x k s both.runs id m.0 me number.0 number.1 v lock pc (asks k id m number v lock pc acts s both me)
      (acts' k id m number v lock pc acts s both me) unseen

  abbrev made_in : World
  made_in = lands.m k s both.runs id m.0 me number.0 number.1 v lock pc (asks k id m number v lock pc acts s both me)
      (acts' k id m number v lock pc acts s both me) unseen

  knows : (y : Met) → plain y ≡ x → IsTrue made_in pc y → Knows k both.keeps.journal (went m.0 y)
  knows y is true_ =
      let go = acts' k id m number v lock pc acts s both me in
      let ask = asks k id m number v lock pc acts s both me in
      let plan = planned k id m number v lock pc acts s both me in
      let c : Calls = acting k.mode m.0.calls v lock.index in
      let f = acts.frame in
      let t = target pc f in
      let u : View = went m.0 y in
      let o = lands.o k s both.runs id m.0 me number.0 number.1 v lock pc ask go unseen in
      let trail = lands.trail k s both.runs id m.0 me number.0 number.1 v lock pc ask go unseen y in
      let ledger : u.ledger ≡ turned m.0.ledger (held_lock t f) (grip_of t o) trail =
      (λ j. turned_of (terms_of (plan j)) (own_number (number.1 j)) m.0.calls y m.0.ledger)
      ∙ (ap (λ (z : Calls). turned_of (terms_of k) number.0 z y m.0.ledger) (sym (acting_is m.0.calls v lock pc acts k.mode))
      ∙ fresh.turns k s both.runs id m.0 me number.0 number.1 v lock pc ask go unseen y is true_ m.0.ledger) in
      let rowed =
      calls_are k id m number v lock pc acts s both me y
      ∙ lands.rowed k s both.runs id m.0 me number.0 number.1 v lock pc ask go unseen y is true_ in
      knows_after k both.keeps.journal m.0 u number.0 number.1 (both.keeps.knows id m.0 me) c f.ctx (held_lock t f) trail
      (acting_any k.mode m.0.calls v lock.index) (acting_sole k.mode m.0.calls v lock.index)
      (acting_holds k.mode m.0.calls v lock.index) refl (grip_of t o) ledger
      (ap (λ (z : Calls). z.holds) rowed)
      (fresh.fresh k s both.runs id m.0 me number.0 number.1 v lock pc ask go unseen)
      (λ e. subst (λ (z : LockName). AllHome z m.0) (sym own) home)

  pub kept_home : (y : Met) → plain y ≡ x → IsTrue made_in pc y → (j n : ℕ) → IsBare k j
      → Keeps k (record { words = set s.words j n; homes = s.homes; views = set s.views id (went m.0 y) })
  kept_home y is true_ j n bare =
      let purse : fresh.SamePurse m.0.ledger (went m.0 y).ledger =
      fresh.turned_purse m.0.who.plan (own_number m.0.who.number) m.0.calls y m.0.ledger in
      alters_at k s both.keeps id m.0 (went m.0 y) j n bare me purse.share (knows y is true_) purse.out refl

-- the row by which a kick is remembered
pub kick_plays : (k : Plan) (slots id : ℕ) (m : Me Slot View) (number : IsNumbered m.0) (v : Verb) (lock : LockName)
    → halts k.mode ≡ true → (acts : StandsOn m.0.calls v lock U5) → AllHome lock m.0
    → (node_of acts.frame.target).cpu < cpus_of k
    → Allows (Stand k) slots id m (kick_at k (node_of acts.frame.target).cpu) (λ _. 1) (Kicks m)
kick_plays k slots id m number v lock halting acts home near s both long me small =
    let p = number.0 in
    let st : Runs k s = both.runs in
    let go = acts' k id m number v lock U5 acts s both me in
    let ask = asks k id m number v lock U5 acts s both me in
    let j : ℕ = kick_at k (node_of acts.frame.target).cpu in
    let found : Bool = on.kick_found k s st id m.0 me p number.1 halting v lock ask go near in (
      went m.0 (Marked found),
      keeps,
      tt,
      record {
        runs = on.kick_step k s st id m.0 me p number.1 halting v lock ask go near (went m.0 (Marked found)) refl
            (calls_are k id m number v lock U5 acts s both me (Marked found)) s.homes;
        keeps = kept_home k id m number v lock U5 acts home acts.lock s both me (tt, tt) (Marked found) refl (λ e. cc e) j 1
            (bare k st.lawful.accounts (OfKick (node_of acts.frame.target).cpu) (halting, near));
      },
      record {
        found = found;
        word = on.kick_is k s st id m.0 me p number.1 halting v lock ask go near;
        seat = refl;
      },
    )

-- what the calls ask, in which the word is named by its place
module _ (k plan : Plan) (slots id : ℕ) (m : Me Slot View) (i : ℕ) (same : k ≡ plan) (halting : halts plan.mode ≡ true) where
  halting_here : halts k.mode ≡ true
  halting_here = ap (λ (q : Plan). halts q.mode) same ∙ halting

  module _ (cpu : ℕ) (at : i ≡ kick_at plan cpu) where
    where_is : i ≡ kick_at k cpu
    where_is = at ∙ ap (λ (q : Plan). kick_at q cpu) (sym same)

    pub halt_asks : m.0.who.number ≡ Some cpu → AtHalt m.0 → m.0.calls.halted ≡ false → Allows (Stand k) slots id m i (λ n. n) (Halts m)
    halt_asks number h awake =
        subst (λ (x : ℕ). Allows (Stand k) slots id m x (λ n. n) (Halts m)) (sym where_is)
        (halt_plays k slots id m (cpu, number) h.verb h.lock h.row halting_here h.stands h.is awake)

    pub wake_asks : m.0.who.number ≡ Some cpu → (x : Running) → m.0.calls.frames ≡ x ∷ [] → m.0.calls.halted ≡ true
        → Allows (Stand k) slots id m i (λ _. 0) (Wakes m)
    wake_asks number x is_x asleep =
        subst (λ (z : ℕ). Allows (Stand k) slots id m z (λ _. 0) (Wakes m)) (sym where_is)
        (wake_plays k slots id m (cpu, number) x halting_here is_x asleep)

    pub kick_asks : IsNumbered m.0 → cpu < cpus_of plan → AtKick cpu m.0 → Allows (Stand k) slots id m i (λ _. 1) (Kicks m)
    kick_asks number near h =
        subst (λ (z : ℕ). Allows (Stand k) slots id m z (λ _. 1) (Kicks m)) (sym (where_is ∙ ap (kick_at k) (sym h.target)))
        (kick_plays k slots id m number h.verb h.lock halting_here h.stands h.home
        (subst (λ (z : ℕ). z < cpus_of k) (sym h.target) (subst (λ (q : Plan). cpu < cpus_of q) (sym same) near)))
