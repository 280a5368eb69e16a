-- What the step calls on the words of reader-writer locks ask.
use Rattle.std.proofs.Common.{◌≡◌, ◌⊎◌, ℕ, ◌<◌, get_or, set, None, Bool, true, false, inl, inr}
use Rattle.std.proofs.Common.{refl, sym, ap, ◌∙◌, subst, arith}
use Rattle.lk_domain.proofs.Names.{Allows, Me, State, Step, keeps, get_elem?, some, IsPackableRw}
use Rattle.lk_domain.proofs.Names.{RwFields, LockName, Mode, rw_name, Target, target, Frame, Pc, Z1}
use Rattle.lk_domain.proofs.Names.{Z2, Verb, is_rw_row, Shared, held_lock, RwKnown, Begins, Calls}
use Rattle.lk_domain.proofs.Names.{Frees, StandsOn, acting, grip_of, lock_name, row_of, terms_of}
use Rattle.lk_domain.proofs.Names.{AllHome, Keeps, Knows, Slot, is_first, turned, locks_of, made}
use Rattle.lk_domain.proofs.Names.{turned_of, Runs, waiter, ActsFor, SharedBy, Stand, out_in}
use Rattle.lk_domain.proofs.Names.{IsNumbered, own_number, OfLock, lock_at, Plan, View}
use Rattle.lk_word.specs.RwWord.{packed_rw}
use Rattle.lk_domain.proofs.{Outs.acting_holds, journals.Alone.{some_out, out_is}}
use Rattle.lk_domain.proofs.journals.Purses.{alters_at, knows_after}
use Rattle.lk_domain.proofs.{rows.Grips.{rw_target, frees_at}, rows.Sights.IsSeen}
use Rattle.lk_domain.proofs.{rw.OnShared.off_links, words.LockPlays.{acting_any, acting_sole}}
use Rattle.lk_domain.proofs.words.Written.{bare}
use Rattle.lk_domain.specs.RwPlays.{Shares}
use Rattle.lk_domain.proofs.rows.Fresh as fresh
use Rattle.lk_domain.proofs.rows.Lands as lands
use Rattle.lk_domain.proofs.rw.Numbers as numbers
use Rattle.lk_domain.proofs.rw.OnShared as on

first_index : (l : ℕ) → is_first (lock_name l) ≡ true → l ≡ 0
first_index l e = grind (arith, e)

-- what a step that writes g of the word has to do with the row
abbrev pub Writes : Pc → (ℕ → ℕ) → Type 0
Writes pc g = (mode : Mode) (fr : Frame) (y : RwFields) → IsPackableRw y → RwKnown pc y
    → g (packed_rw y) ≡ packed_rw (numbers.writes mode pc fr y)

-- the rows by which a reader and a writer leave, and what is at home before them: the values of the lock
-- before both, and the journal before that of a writer

abbrev pub IsLeaving : Pc → Type 0
IsLeaving pc = (pc ≡ Z1) ⊎ (pc ≡ Z2)

abbrev pub IsShut : ℕ → View → {pc : Pc} → IsLeaving pc → Type 0
IsShut l v (inl reads) = out_in v.calls.holds l ≡ false
IsShut l v (inr writes) = AllHome (lock_name l) v

pub reader_shut : (l : ℕ) (v : View) (pc : Pc) → (pc ≡ Z1 → out_in v.calls.holds l ≡ false) → (pc ≡ Z2 → ⊥)
    → (z : IsLeaving pc) → IsShut l v z
reader_shut l v pc value off (inl reads) = value reads
reader_shut l v pc value off (inr writes) = absurd (off writes)

pub writer_shut : (l : ℕ) (v : View) (pc : Pc) → AllHome (lock_name l) v → (pc ≡ Z1 → ⊥)
    → (z : IsLeaving pc) → IsShut l v z
writer_shut l v pc home off (inl reads) = absurd (off reads)
writer_shut l v pc home off (inr writes) = home

-- the parts of one step, and what it gives
module _ (k : Plan) (slots id : ℕ) (m : Me Slot View) (number : IsNumbered m.0) (verb : Verb)
    (n : LockName) (near : n.index < locks_of k) (pc : Pc)
    (acts : StandsOn (acting m.0.who.plan.mode m.0.calls verb n.index) verb n pc)
    (begins : Begins m.0.who.plan m.0.calls verb n.index) (row : is_rw_row pc ≡ true) where
  abbrev l : ℕ
  l = n.index

  module _ (s : State Slot View) (both : Stand k s) (me : get_elem? s.views id ≡ some m.0) where
    abbrev pub ok : Runs k s
    ok = both.runs

    pub planned : m.0.who.plan ≡ k
    planned = both.runs.planned id m.0 number.0 me number.1

    abbrev pub asked : Begins k m.0.calls verb l
    asked = subst (λ (j : Plan). Begins j m.0.calls verb l) planned begins

    abbrev pub acts' : StandsOn (acting k.mode m.0.calls verb l) verb n pc
    acts' = record {
      frame = acts.frame;
      trail = acts.trail;
      rest = acts.rest;
      is = ap (λ (q : Plan). (acting q.mode m.0.calls verb l).frames) (sym planned) ∙ acts.is;
      place = acts.place;
      lock = acts.lock;
    }

    abbrev unseen : IsSeen pc (target pc acts'.frame) (acting k.mode m.0.calls verb l).runs
    unseen = on.unseen k s ok id m.0 me number.0 number.1 verb n pc asked acts' near row

    abbrev pub y : RwFields
    y = on.found k s ok id m.0 me number.0 number.1 verb n pc asked acts' near row

    abbrev pub u : View
    u = made m.0 verb l (Shared y)

    pub y_packs : IsPackableRw y
    y_packs = on.found_packs k s ok id m.0 me number.0 number.1 verb n pc asked acts' near row

    pub y_is : get_or s.words (lock_at l) 0 ≡ packed_rw y
    y_is = on.found_is k s ok id m.0 me number.0 number.1 verb n pc asked acts' near row

    met_is : lands.x k s ok id m.0 me number.0 number.1 verb n pc asked acts' unseen ≡ Shared y
    met_is = on.met_is k s ok id m.0 me number.0 number.1 verb n pc asked acts' near row

    calls_are : u.calls ≡ row_of (terms_of k) number.0 (acting k.mode m.0.calls verb l) (Shared y)
    calls_are = (λ j. row_of (terms_of (planned j)) (own_number (number.1 j)) (acting (planned j).mode m.0.calls verb l) (Shared y))

    -- the machine part
    pub rows : (i : ℕ)
        → ((mode : Mode) → RwKnown pc y → i ≡ packed_rw (numbers.writes mode pc acts.frame y))
        → Runs k (record { words = set s.words (lock_at l) i; homes = s.homes; views = set s.views id u })
    rows i writes =
        on.shared_step k s ok id m.0 me number.0 number.1 verb n pc asked acts' near row i
        (writes k.mode (on.known k s ok id m.0 me number.0 number.1 verb n pc asked acts' near row))
        u refl calls_are s.homes

    abbrev t : Target
    t = target pc acts.frame

    abbrev frees : Type 0
    frees = grip_of t (lands.o k s ok id m.0 me number.0 number.1 verb n pc asked acts' unseen) ≡ Frees

    -- the ledger part
    knows : (frees → AllHome (lock_name l) m.0) → Knows k both.keeps.journal u
    knows home =
        let c : Calls = acting k.mode m.0.calls verb l in
        let f = acts'.frame in
        let o = lands.o k s ok id m.0 me number.0 number.1 verb n pc asked acts' unseen in
        let trail = lands.trail k s ok id m.0 me number.0 number.1 verb n pc asked acts' unseen (Shared y) in
        let lock : held_lock t f ≡ lock_name l =
        ap (λ (z : Target). held_lock z f) (rw_target pc f row) ∙ ap (λ (z : LockName). rw_name z.index) acts'.lock in
        let ledger : u.ledger ≡ turned m.0.ledger (held_lock t f) (grip_of t o) trail =
        (λ j. turned_of (terms_of (planned j)) (own_number (number.1 j)) (acting (planned j).mode m.0.calls verb l) (Shared y) m.0.ledger)
        ∙ fresh.turns k s ok id m.0 me number.0 number.1 verb n pc asked acts' unseen (Shared y) (sym met_is) (λ e. absurd (off_links pc row e)) m.0.ledger in
        let holds = calls_are ∙ lands.rowed k s ok id m.0 me number.0 number.1 verb n pc asked acts' unseen (Shared y) (sym met_is) (λ e. absurd (off_links pc row e)) in
        knows_after k both.keeps.journal m.0 u number.0 number.1 (both.keeps.knows id m.0 me) c f.ctx (held_lock t f) trail
        (acting_any k.mode m.0.calls verb l) (acting_sole k.mode m.0.calls verb l)
        (acting_holds k.mode m.0.calls verb l) refl (grip_of t o) ledger
        (ap (λ (z : Calls). z.holds) holds)
        (fresh.fresh k s ok id m.0 me number.0 number.1 verb n pc asked acts' unseen)
        (λ e. subst (λ (z : LockName). AllHome z m.0) (sym lock) (home e))

    pub keeps_on : (frees → AllHome (lock_name l) m.0) → (i : ℕ)
        → Keeps k (record { words = set s.words (lock_at l) i; homes = s.homes; views = set s.views id u })
    keeps_on home i =
        let purse : fresh.SamePurse m.0.ledger u.ledger =
        fresh.turned_purse m.0.who.plan (own_number m.0.who.number) (acting m.0.who.plan.mode m.0.calls verb l) (Shared y) m.0.ledger in
        alters_at k s both.keeps id m.0 u (lock_at l) i (bare k ok.lawful.accounts (OfLock (lock_name l)) near) me purse.share (knows home)
        purse.out refl

    pub is_made : SharedBy verb l m (get_or s.words (lock_at l) 0) (u, m.1)
    is_made =
        record {
          found = y;
          packs = y_packs;
          word = y_is;
          seat = refl;
          outside = on.outside k s ok id m.0 me number.0 number.1 verb n pc asked acts' near row;
        }

  -- a step that makes the row, whatever it meets
  pub plays : (st : Step Slot) (g : ℕ → ℕ) → st.word ≡ lock_at l
      → ((s : State Slot View) (both : Stand k s) (me : get_elem? s.views id ≡ some m.0)
      → frees s both me → AllHome (lock_name l) m.0)
      → Writes pc g → Allows (Stand k) slots id m (lock_at l) g (Shares verb st m)
  plays st g at home writes s both long me small =
      let x : ℕ = get_or s.words (lock_at l) 0 in (
        u s both me,
        keeps,
        tt,
        record {
          runs = rows s both me (g x) (λ mode known. ap g (y_is s both me) ∙ writes mode acts.frame (y s both me) (y_packs s both me) known);
          keeps = keeps_on s both me (home s both me) (g x);
        },
        λ j e. let same : l ≡ j = omega arith in
            subst (λ (z : ℕ). SharedBy verb z m x (u s both me, m.1)) same (is_made s both me),
      )

  unread : (s : State Slot View) (both : Stand k s) (me : get_elem? s.views id ≡ some m.0) → pc ≡ Z1 → l ≡ 0
      → m.0.ledger.out ≡ None
  unread s both me reads index =
      let none = on.unalone k s (ok s both me) id m.0 me number.0 number.1 verb n pc (asked s both me) (acts' s both me) near row reads index in
      elim (some_out m.0.ledger.out) [
        | inl h ↦ h
        | inr h ↦
            let sole = (both.keeps.knows id m.0 me).holder (out_is h.0 m.0.ledger.out h.1) in
            absurd (omega (arith, sole, none, acting_sole k.mode m.0.calls verb l))
      ]

  -- a row that frees a lock does so where all is at home: with a reader the journal never is out
  pub home : ((z : IsLeaving pc) → IsShut l m.0 z)
      → (s : State Slot View) (both : Stand k s) (me : get_elem? s.views id ≡ some m.0)
      → frees s both me → AllHome (lock_name l) m.0
  home shut s both me e =
      elim (frees_at (lands.m k s (ok s both me) id m.0 me number.0 number.1 verb n pc (asked s both me) (acts' s both me) (unseen s both me)) (waiter number.0 acts.frame.ctx)
      acts.frame pc row e) [
        | inl reads ↦ record {
          journal = λ first. unread s both me reads (first_index l first);
          value = λ plain. shut (inl reads);
        }
        | inr writes ↦ shut (inr writes)
      ]

-- what the calls ask, in which the word is named by its place
module _ (k plan : Plan) (slots id : ℕ) (m : Me Slot View) (number : IsNumbered m.0) (verb : Verb)
    (l i : ℕ) (st : Step Slot) (same : k ≡ plan) (near : l < locks_of plan) (at : i ≡ lock_at l)
    (word : st.word ≡ i) where
  pub asks : (kind : Pc → Bool) → ActsFor kind m.0 verb l
      → ((pc : Pc) → kind pc ≡ true → is_rw_row pc ≡ true)
      → ((pc : Pc) → kind pc ≡ true → (z : IsLeaving pc) → IsShut l m.0 z)
      → (g : ℕ → ℕ) → ((pc : Pc) → kind pc ≡ true → Writes pc g)
      → Allows (Stand k) slots id m i g (Shares verb st m)
  asks kind for rows shut g writes =
      let n : LockName = record { index = l; wait = for.inside } in
      let a = for.acts in
      let low = subst (λ (x : Plan). l < locks_of x) (sym same) near in
      let row = rows a.row a.is in
      subst (λ (x : ℕ). Allows (Stand k) slots id m x g (Shares verb st m)) (sym at)
      (plays k slots id m number verb n low a.row a.stands a.begins row st g (word ∙ at)
      (home k slots id m number verb n low a.row a.stands a.begins row (shut a.row a.is)) (writes a.row a.is))
