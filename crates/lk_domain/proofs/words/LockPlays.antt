-- What the step calls on the words of locks ask.
use Rattle.std.proofs.Common.{◌≡◌, ℕ, ◌<◌, get_or, set, Bool, true, IfSome, refl, sym, ap, ◌∙◌}
use Rattle.std.proofs.Common.{subst, arith}
use Rattle.std.specs.Prelude.{unwrap_or}
use Rattle.lk_domain.proofs.Names.{Allows, Me, State, Step, keeps, get_elem?, some, IsPackable}
use Rattle.lk_domain.proofs.Names.{Fields, Layout, LockName, Mode, Waiter, target, Frame, Pc, Verb}
use Rattle.lk_domain.proofs.Names.{RUnlock, Unlock, WUnlock, if_cases, Word, course_in, held_lock}
use Rattle.lk_domain.proofs.Names.{World, Begins, Calls, Frees, StandsOn, acting, begin, grip_of}
use Rattle.lk_domain.proofs.Names.{is_on, lock_name, row_of, terms_of, AllHome, Keeps, Knows, Slot}
use Rattle.lk_domain.proofs.Names.{any_count, sole_count, turned, layout_in, locks_of, Acts, MadeBy}
use Rattle.lk_domain.proofs.Names.{made, turned_of, Runs, waiter, Stand, IsNumbered, own_number}
use Rattle.lk_domain.proofs.Names.{IsNode, OfLock, lock_at, word_at, Plan, View}
use Rattle.lk_word.specs.SpinWord.{packed}
use Rattle.lk_domain.proofs.{Outs.acting_holds, journals.Held.{moved_any, moved_sole}}
use Rattle.lk_domain.proofs.{journals.Purses.{alters_at, knows_after}, rows.Grips.own_lock}
use Rattle.lk_domain.proofs.rows.Sights.{IsSeen}
use Rattle.lk_domain.proofs.words.OnWords.{OnWord, word_stores, on_word, word_seen, KnownHere}
use Rattle.lk_domain.proofs.{words.OnWords.off_links, words.Written.bare}
use Rattle.lk_domain.specs.{Calls.StandsAt, Plays.Makes}
use Rattle.lk_domain.proofs.rows.Fresh as fresh
use Rattle.lk_domain.proofs.rows.Lands as lands
use Rattle.lk_domain.proofs.words.OnWords as on

-- what a step that writes f of the word has to do with the row
abbrev pub Writes : Layout → Pc → (ℕ → ℕ) → Type 0
Writes layout pc f = (mode : Mode) (fr : Frame) (y : Fields) → IsPackable layout y → KnownHere pc fr y
    → f (packed layout y) ≡ packed layout (unwrap_or (word_stores mode pc fr (target pc fr) y) y)

-- the same where that rests on the frame
abbrev pub WritesAt : Layout → Pc → Frame → (ℕ → ℕ) → Type 0
WritesAt layout pc fr f = (mode : Mode) (y : Fields) → IsPackable layout y → KnownHere pc fr y
    → f (packed layout y) ≡ packed layout (unwrap_or (word_stores mode pc fr (target pc fr) y) y)

-- the row may free its lock
abbrev pub MayFree : Pc → Type 0
MayFree pc = (w : World) × (u : Waiter) × (f : Frame)
    × (grip_of (target pc f) (course_in w u f pc (target pc f)) ≡ Frees)

-- a call that begins changes no count of holds
pub acting_any : (mode : Mode) (c : Calls) (v : Verb) (l : ℕ)
    → any_count (acting mode c v l).holds ≡ any_count c.holds
acting_any mode c v l =
    if_cases (λ (x : Calls). any_count x.holds ≡ any_count c.holds) (is_on c.frames v l) c (begin mode c v l)
    (λ _. refl) (λ _. by v)
  where
    by : (v : Verb) → any_count (begin mode c v l).holds ≡ any_count c.holds
    by Unlock = moved_any _ _ c.holds
    by RUnlock = moved_any _ _ c.holds
    by WUnlock = moved_any _ _ c.holds
    by _ = refl

pub acting_sole : (mode : Mode) (c : Calls) (v : Verb) (l : ℕ)
    → sole_count (acting mode c v l).holds ≡ sole_count c.holds
acting_sole mode c v l =
    if_cases (λ (x : Calls). sole_count x.holds ≡ sole_count c.holds) (is_on c.frames v l) c (begin mode c v l)
    (λ _. refl) (λ _. by v)
  where
    by : (v : Verb) → sole_count (begin mode c v l).holds ≡ sole_count c.holds
    by Unlock = moved_sole _ _ c.holds
    by RUnlock = moved_sole _ _ c.holds
    by WUnlock = moved_sole _ _ c.holds
    by _ = refl

-- the parts of one step on the word of a lock, and what it gives
module _ (k : Plan) (slots id : ℕ) (m : Me Slot View) (number : IsNumbered m.0) (verb : Verb)
    (l : LockName) (near : l.index < locks_of k) (pc : Pc)
    (acts : StandsOn (acting m.0.who.plan.mode m.0.calls verb l.index) verb l pc)
    (begins : Begins m.0.who.plan m.0.calls verb l.index) (word : (fr : Frame) → OnWord (target pc fr))
    (home : MayFree pc → AllHome l m.0) where
  module _ (s : State Slot View) (both : Stand k s) (me : get_elem? s.views id ≡ some m.0) where
    abbrev pub ok : Runs k s
    ok = both.runs

    pub planned : m.0.who.plan ≡ k
    planned = both.runs.planned id m.0 number.0 me number.1

    abbrev pub asked : Begins k m.0.calls verb l.index
    asked = subst (λ (j : Plan). Begins j m.0.calls verb l.index) planned begins

    abbrev pub acts' : StandsOn (acting k.mode m.0.calls verb l.index) verb l pc
    acts' = record {
      frame = acts.frame;
      trail = acts.trail;
      rest = acts.rest;
      is = ap (λ (q : Plan). (acting q.mode m.0.calls verb l.index).frames) (sym (both.runs.planned id m.0 number.0 me number.1)) ∙ acts.is;
      place = acts.place;
      lock = acts.lock;
    }

    abbrev pub on' : OnWord (target pc acts'.frame)
    on' = word acts'.frame

    abbrev unseen' : IsSeen pc (target pc acts'.frame) (acting k.mode m.0.calls verb l.index).runs
    unseen' = word_seen pc acts'.frame (acting k.mode m.0.calls verb l.index).runs on'

    abbrev pub y : Fields
    y = on.found k s ok id m.0 me number.0 number.1 verb l pc asked acts' near on'

    abbrev pub u : View
    u = made m.0 verb l.index (Word y)

    pub y_packs : IsPackable (layout_in k) y
    y_packs = on.found_packs k s ok id m.0 me number.0 number.1 verb l pc asked acts' near on'

    pub y_is : get_or s.words (word_at l) 0 ≡ packed (layout_in k) y
    y_is = on.found_is k s ok id m.0 me number.0 number.1 verb l pc asked acts' near on'

    met_is : lands.x k s ok id m.0 me number.0 number.1 verb l pc asked acts' unseen' ≡ Word y
    met_is = on.met_is k s ok id m.0 me number.0 number.1 verb l pc asked acts' near on'

    calls_are : u.calls ≡ row_of (terms_of k) number.0 (acting k.mode m.0.calls verb l.index) (Word y)
    calls_are = (λ j. row_of (terms_of (planned j)) (own_number (number.1 j)) (acting (planned j).mode m.0.calls verb l.index) (Word y))

    -- the machine part
    pub rows : (i : ℕ)
        → ((mode : Mode) → KnownHere pc acts.frame y → i ≡ packed (layout_in k) (unwrap_or (word_stores mode pc acts.frame (target pc acts.frame) y) y))
        → Runs k (record { words = set s.words (word_at l) i; homes = s.homes; views = set s.views id u })
    rows i writes =
        on.word_step k s ok id m.0 me number.0 number.1 verb l pc asked acts' near on' i
        (writes k.mode (on.known k s ok id m.0 me number.0 number.1 verb l pc asked acts' near on'))
        u refl calls_are s.homes

    -- the ledger part
    knows : Knows k both.keeps.journal u
    knows =
        let unseen = unseen' in
        let c : Calls = acting k.mode m.0.calls verb l.index in
        let f = acts'.frame in
        let t = target pc f in
        let o = lands.o k s ok id m.0 me number.0 number.1 verb l pc asked acts' unseen in
        let trail = lands.trail k s ok id m.0 me number.0 number.1 verb l pc asked acts' unseen (Word y) in
        let lock : held_lock t f ≡ l = own_lock t f (on_word t on') ∙ acts'.lock in
        let ledger : u.ledger ≡ turned m.0.ledger (held_lock t f) (grip_of t o) trail =
        (λ j. turned_of (terms_of (planned j)) (own_number (number.1 j)) (acting (planned j).mode m.0.calls verb l.index) (Word y) m.0.ledger)
        ∙ fresh.turns k s ok id m.0 me number.0 number.1 verb l pc asked acts' unseen (Word y) (sym met_is) (λ e. absurd (off_links pc acts'.frame on' e)) m.0.ledger in
        let holds = calls_are ∙ lands.rowed k s ok id m.0 me number.0 number.1 verb l pc asked acts' unseen (Word y) (sym met_is) (λ e. absurd (off_links pc acts'.frame on' e)) in
        knows_after k both.keeps.journal m.0 u number.0 number.1 (both.keeps.knows id m.0 me) c f.ctx (held_lock t f) trail
        (acting_any k.mode m.0.calls verb l.index) (acting_sole k.mode m.0.calls verb l.index)
        (acting_holds k.mode m.0.calls verb l.index) refl (grip_of t o) ledger
        (ap (λ (z : Calls). z.holds) holds)
        (fresh.fresh k s ok id m.0 me number.0 number.1 verb l pc asked acts' unseen)
        (λ e. subst (λ (z : LockName). AllHome z m.0) (sym lock)
        (home (lands.m k s ok id m.0 me number.0 number.1 verb l pc asked acts' unseen, waiter number.0 f.ctx, f, e)))

    pub keeps_on : (i : ℕ) → Keeps k (record { words = set s.words (word_at l) i; homes = s.homes; views = set s.views id u })
    keeps_on i =
        let purse : fresh.SamePurse m.0.ledger u.ledger =
        fresh.turned_purse m.0.who.plan (own_number m.0.who.number) (acting m.0.who.plan.mode m.0.calls verb l.index) (Word y) m.0.ledger in
        alters_at k s both.keeps id m.0 u (word_at l) i (bare k ok.lawful.accounts (OfLock l) near) me purse.share knows purse.out refl

    pub y_tail : IfSome y.tail (IsNode m.0.who.plan)
    y_tail =
        subst (λ (j : Plan). IfSome y.tail (IsNode j)) (sym planned)
        (on.found_tail k s ok id m.0 me number.0 number.1 verb l pc asked acts' near on')

    -- the same by the plan that the seat knows

    pub y_packable : IsPackable (layout_in m.0.who.plan) y
    y_packable = subst (λ (j : Plan). IsPackable (layout_in j) y) (sym planned) y_packs

    pub y_word : get_or s.words (word_at l) 0 ≡ packed (layout_in m.0.who.plan) y
    y_word = y_is ∙ ap (λ (j : Plan). packed (layout_in j) y) (sym planned)

    pub is_made : MadeBy verb l.index m (get_or s.words (word_at l) 0) (u, m.1)
    is_made =
        record {
          found = y;
          packs = y_packable;
          tail = y_tail;
          word = y_word;
          seat = refl;
        }

  -- a step that makes the row, whatever it meets, and tells what follows from it
  pub plays_on : (Tells : Me Slot View → ℕ → Me Slot View → Type 0) (f : ℕ → ℕ)
      → ((s : State Slot View) (both : Stand k s) (me : get_elem? s.views id ≡ some m.0)
      → Tells m (get_or s.words (word_at l) 0) (u s both me, m.1))
      → WritesAt (layout_in k) pc acts.frame f → Allows (Stand k) slots id m (word_at l) f (Tells m)
  plays_on Tells f tells writes s both long me small =
      let n : ℕ = get_or s.words (word_at l) 0 in (
        u s both me,
        keeps,
        tt,
        record {
          runs = rows s both me (f n) (λ mode known. ap f (y_is s both me) ∙ writes mode (y s both me) (y_packs s both me) known);
          keeps = keeps_on s both me (f n);
        },
        tells s both me,
      )

-- the same of a lock that is not a wait lock
module _ (k : Plan) (slots id : ℕ) (m : Me Slot View) (number : IsNumbered m.0) (verb : Verb)
    (l : ℕ) (near : l < locks_of k) (pc : Pc)
    (acts : StandsAt (acting m.0.who.plan.mode m.0.calls verb l) verb l pc)
    (begins : Begins m.0.who.plan m.0.calls verb l) (word : (fr : Frame) → OnWord (target pc fr))
    (home : MayFree pc → AllHome (lock_name l) m.0) where
  pub plays_at : (st : Step Slot) (f : ℕ → ℕ) → st.word ≡ lock_at l → WritesAt (layout_in k) pc acts.frame f
      → Allows (Stand k) slots id m (lock_at l) f (Makes verb st m)
  plays_at st f at writes =
      plays_on k slots id m number verb (lock_name l) near pc acts begins word home (Makes verb st) f
      (λ s both me j e. let same : l ≡ j = omega arith in
      subst (λ (z : ℕ). MadeBy verb z m (get_or s.words (lock_at l) 0)
      (u k slots id m number verb (lock_name l) near pc acts begins word home s both me, m.1)) same
      (is_made k slots id m number verb (lock_name l) near pc acts begins word home s both me)) writes

-- what the calls ask, in which the word is named by its place
module _ (k plan : Plan) (slots id : ℕ) (m : Me Slot View) (number : IsNumbered m.0) (verb : Verb)
    (l i : ℕ) (st : Step Slot) (same : k ≡ plan) (near : l < locks_of plan) (at : i ≡ lock_at l)
    (word : st.word ≡ i) where
  pub asks : (kind : Pc → Bool) → Acts kind m.0 verb l
      → ((pc : Pc) → kind pc ≡ true → (fr : Frame) → OnWord (target pc fr))
      → ((pc : Pc) → kind pc ≡ true → MayFree pc → AllHome (lock_name l) m.0)
      → (f : ℕ → ℕ) → ((pc : Pc) → kind pc ≡ true → Writes (layout_in plan) pc f)
      → Allows (Stand k) slots id m i f (Makes verb st m)
  asks kind acts on_word home f writes =
      subst (λ (x : ℕ). Allows (Stand k) slots id m x f (Makes verb st m)) (sym at)
      (plays_at k slots id m number verb l (subst (λ (x : Plan). l < locks_of x) (sym same) near) acts.row acts.stands acts.begins
      (on_word acts.row acts.is) (home acts.row acts.is) st f (word ∙ at)
      (subst (λ (x : Plan). WritesAt (layout_in x) acts.row acts.stands.frame f) (sym same)
      (λ mode y packs known. writes acts.row acts.is mode acts.stands.frame y packs known)))
