-- The steps on the word of a lock.
use Rattle.std.proofs.Common.{◌≡◌, ◌≢◌, inl, inr, ℕ, ◌<◌, List, set, Bool, true, get_or, Option}
use Rattle.std.proofs.Common.{Some, None, false, refl, sym, ap, ◌∙◌, arith, IfSome, if◌then◌else◌}
use Rattle.std.proofs.lemmas.Bool.{cases_lt}
use Rattle.std.specs.Prelude.{unwrap_or}
use Rattle.lk_domain.proofs.Names.{cases_eq, State, get_elem?, some, IsPackable, Fields, NodeName}
use Rattle.lk_domain.proofs.Names.{LockHistory, same_lock, Kind, LockName, Mode, Waiter, ChoiceWord}
use Rattle.lk_domain.proofs.Names.{PvWord, QueueWord, SpinWord, Target, target, Frame, Pc, C1, C2}
use Rattle.lk_domain.proofs.Names.{G1, H1, Verb, pv_row, if-true, same_lock-self, is_rw_row}
use Rattle.lk_domain.proofs.Names.{may_halt, Word, enters, met_in, stored_in, looks_along, phase_at}
use Rattle.lk_domain.proofs.Names.{IsSoundWorld, is_rw_name, World, Begins, StandsOn, acting}
use Rattle.lk_domain.proofs.Names.{row_of, terms_of, cpus_of, kind_at, layout_in, locks_of, Runs}
use Rattle.lk_domain.proofs.Names.{waiter, IsNode, OfLock, number_of, word_at, Plan, View}
use mathlib.Core.Option.{Option as Maybe}
use Rattle.lk_word.proofs.SpinWordLemmas.{from_narrow}
use Rattle.lk_word.specs.{RwWord.packed_rw, SpinWord.{packed, IsTailInRange}}
use Rattle.lk_rows.specs.{rows.Cna.promotion_row, rows.Queue.queue_row, rows.Spin.spin_row}
use Rattle.lk_law.proofs.{common.Knows.{row_knows, tail_is_used}, running.Calm.node_comes_at_entry}
use Rattle.lk_law.proofs.running.Nodes.{here}
use Rattle.lk_law.specs.{Families.stays_awake, Known.{Known, KnownHalting}, Phase.pends}
use Rattle.lk_law.specs.Steps.{stores_word}
use Rattle.lk_domain.proofs.{rows.Begun.Elsewhere, rows.Changes.IsAt}
use Rattle.lk_domain.proofs.{rows.Grips.{IsOwn, own_row, plain_name}, rows.Poised.Poised}
use Rattle.lk_domain.proofs.{rows.Sights.{IsSeen, Sees}, rows.Writes.row_step}
use Rattle.lk_domain.proofs.seats.Totals.{drawn, nobodys}
use Rattle.lk_domain.proofs.rows.Lands as lands

-- what is known of the word that a row meets: by one of a family that halts no processor, and by one of
-- the lock that halts them
pub record KnownHere (c : Pc) (f : Frame) (y : Fields) : Type 0 where
  pub awake : stays_awake c ≡ true → Known c y
  pub halting : may_halt c ≡ true → (e : Option NodeName) × KnownHalting c f y e
  -- who presses, or pends, meets pending set
  pub pressed : ((b : _) (x z : NodeName) → pends (phase_at c b x z) ≡ true) → y.pending ≡ true

-- the row is on the word of its lock
abbrev pub OnWord : Target → Type 0
OnWord SpinWord = Unit {0}
OnWord QueueWord = Unit {0}
OnWord ChoiceWord = Unit {0}
OnWord PvWord = Unit {0}
OnWord _ = ⊥

pub on_word : (t : Target) → OnWord t → IsOwn t
on_word SpinWord h = tt
on_word QueueWord h = tt
on_word ChoiceWord h = tt
on_word PvWord h = tt
on_word _ h = absurd h

pub word_seen : (c : Pc) (f : Frame) (r : Option ℕ) → OnWord (target c f) → IsSeen c (target c f) r
word_seen c f r h = (tt, sees c f h)
  where
    sees : (c : Pc) (f : Frame) → OnWord (target c f) → Sees c r
    sees C1 f h = absurd h
    sees _ f h = tt

not_entry : (c : Pc) (f : Frame) → OnWord (target c f) → c ≢ G1
not_entry G1 f h e = absurd h
not_entry _ f h e = cc e

-- what it stores
abbrev pub word_stores : Mode → Pc → Frame → Target → Fields → Option Fields
word_stores mode c f SpinWord y = (spin_row mode c f y).stores
word_stores mode c f QueueWord y = (queue_row mode c f y).stores
word_stores mode c f ChoiceWord y = (promotion_row c f y).stores
word_stores mode c f PvWord y = (pv_row 1 c f y).stores
word_stores mode c f _ y = None

met_word : (m : World) (w : Waiter) (f : Frame) (t : Target) → OnWord t
    → met_in m w f t ≡ Word (m.word f.lock)
met_word m w f SpinWord h = refl
met_word m w f QueueWord h = refl
met_word m w f ChoiceWord h = refl
met_word m w f PvWord h = refl
met_word m w f _ h = absurd h

-- what a row of the lock that halts processors stores does not rest on the turns
turns_stored : (a b : ℕ) (c : Pc) (f : Frame) (y : Fields) → (pv_row a c f y).stores ≡ (pv_row b c f y).stores
turns_stored a b H1 f y = refl
turns_stored a b _ f y = refl

word_of : (m : World) (w : Waiter) (f : Frame) (c : Pc) (t : Target) → OnWord t
    → stored_in m w f c t ≡ stores_word m f.lock (word_stores m.mode c f t (m.word f.lock))
word_of m w f c SpinWord h = refl
word_of m w f c QueueWord h = refl
word_of m w f c ChoiceWord h = refl
word_of m w f c PvWord h = ap (stores_word m f.lock) (turns_stored m.turns 1 c f (m.word f.lock))
word_of m w f c _ h = absurd h

word_here : (m : World) (l : LockName) (o : Option Fields)
    → (stores_word m l o).word l ≡ unwrap_or o (m.word l)
word_here m l None = refl
word_here m l (Some y) = if-true (same_lock l l) y (m.word l) (same_lock-self l)

-- it is that of the frame's lock
on_lock : (t : Target) (f : Frame) (l : LockName) → f.lock ≡ l → OnWord t → IsAt f t (OfLock l)
on_lock SpinWord f l e h = e
on_lock QueueWord f l e h = e
on_lock ChoiceWord f l e h = e
on_lock PvWord f l e h = e
on_lock _ f l e h = absurd h

-- a row on a word is no look along links
pub off_links : (c : Pc) (f : Frame) → OnWord (target c f) → looks_along c ≡ true → ⊥
off_links C1 f on h = on
off_links C2 f on h = on
off_links _ f on h = cc h

-- the number of a spinlock or a wait lock
pub plain_number : (k : Plan) (m : World) (pairs : ℕ → ℕ) (l : LockName) → is_rw_name (kind_at k) l ≡ false
    → number_of k m pairs (OfLock l) ≡ packed (layout_in k) (m.word l)
plain_number k m pairs l off =
    ap (λ (b : Bool). if b then packed_rw (m.rw l.index) else packed (layout_in k) (m.word l)) off

module _ (k : Plan) {S : Type 0} (s : State S View) (st : Runs k s) (id : ℕ) (v : View)
    (me : get_elem? s.views id ≡ some v) (p : ℕ) (is : v.who.number ≡ Some p) where
  -- only processors of the plan have frames
  pub seated : (m : World) → Elsewhere st.world m p → (u : Waiter) (g : Frame) → m.frame u ≡ Some g
      → u.cpu < cpus_of k
  seated m others u g has =
      elim (cases_eq u.cpu p) [
        | inl e ↦ let x = drawn s.views (get_or s.words 0 0) st.once id v p me is in let y = st.roll in omega arith
        | inr ne ↦ elim (cases_lt u.cpu (get_or s.words 0 0)) [
          | inl lt ↦ let y = st.roll in omega arith
          | inr ge ↦ let none : st.world.frame u ≡ None = (st.blank u.cpu (nobodys s.views (get_or s.words 0 0) st.once u.cpu (omega arith))).frames u.ctx in
              let same = (others u ne).0 in absurd (grind (arith, none, same, has))
        ]
      ]

  -- a word of the table has fields that pack
  pub packable : (m : World) (hs : LockName → LockHistory) → IsSoundWorld m hs
      → Elsewhere st.world m p → (l : LockName) → IsPackable (layout_in k) (m.word l)
  packable m hs ok others l = by (m.word l).tail refl
    where
      by : (o : Option NodeName) → (m.word l).tail ≡ o → IsTailInRange (layout_in k) o
      by None e = tt
      by (Some a) e =
          let t = tail_is_used m _ l a ok.spins e in
          let low = seated m others t.0 t.1.0 t.1.1 in
          let cpus = st.lawful.cpus in
          let cpu = t.2.cpu in let index = t.2.index in
          from_narrow (layout_in k) (Some a) (omega arith, omega arith)

  -- and its tail is a node of the domain
  pub tail_in : (m : World) (hs : LockName → LockHistory) → IsSoundWorld m hs
      → Elsewhere st.world m p → (l : LockName) → IfSome (m.word l).tail (IsNode k)
  tail_in m hs ok others l = by (m.word l).tail refl
    where
      by : (o : Option NodeName) → (m.word l).tail ≡ o → IfSome o (IsNode k)
      by None e = tt
      by (Some a) e =
          let t = tail_is_used m _ l a ok.spins e in
          let low = seated m others t.0 t.1.0 t.1.1 in
          record { cpu = let cpu = t.2.cpu in omega arith; index = t.2.index }

  module _ (verb : Verb) (l : LockName) (pc : Pc) (asks : Begins k v.calls verb l.index)
      (acts : StandsOn (acting k.mode v.calls verb l.index) verb l pc) (near : l.index < locks_of k)
      (on : OnWord (target pc acts.frame)) where
    abbrev pub unseen : IsSeen pc (target pc acts.frame) (acting k.mode v.calls verb l.index).runs
    unseen = word_seen pc acts.frame (acting k.mode v.calls verb l.index).runs on

    abbrev f : Frame
    f = acts.frame

    abbrev w : Waiter
    w = waiter p f.ctx

    abbrev at : Poised st.world p (acting k.mode v.calls verb l.index)
    at = lands.at k s st id v me p is verb l pc asks acts unseen

    abbrev pub m : World
    m = at.acted.world

    -- the word that the step meets
    abbrev pub found : Fields
    found = m.word f.lock

    row_is : is_rw_row pc ≡ false
    row_is = own_row pc acts.frame (on_word (target pc acts.frame) on)

    -- the lock of the row is no reader-writer lock
    pub plain_lock : is_rw_name (kind_at k) l ≡ false
    plain_lock =
        ap (is_rw_name (kind_at k)) (sym acts.lock)
        ∙ (ap (λ (g : ℕ → Kind). is_rw_name g f.lock) (sym (at.acted.same.kind ∙ st.of_plan.kind))
        ∙ plain_name m.kind f pc (lands.fitting k s st id v me p is verb l pc asks acts unseen) acts.place row_is)

    pub found_is : get_or s.words (word_at l) 0 ≡ packed (layout_in k) found
    found_is =
        st.stored.words (OfLock l) near refl ∙ (plain_number k st.world st.pairs l plain_lock
        ∙ λ i. packed (layout_in k) (sym at.acted.same.word i (sym acts.lock i)))

    pub found_packs : IsPackable (layout_in k) found
    found_packs = packable m at.acted.histories at.acted.sound at.acted.others f.lock

    pub found_tail : IfSome found.tail (IsNode k)
    found_tail = tail_in m at.acted.histories at.acted.sound at.acted.others f.lock

    pub known : KnownHere pc f found
    known =
        let live = lands.live k s st id v me p is verb l pc asks acts unseen in
        let z = row_knows pc m _ w f at.acted.sound.spins live acts.place in
        let choice = (at.acted.sound.spins.registers w f live).choice in
        record {
          awake = λ h. z.0 (choice.waking pc acts.place h);
          halting = λ h. (m.entry f.lock, z.2 (choice.halting pc acts.place h));
          pressed = λ h. (at.acted.sound.spins.agrees.locks f.lock).pend.set w
              (ap pends (here at.acted.sound.spins live acts.place) ∙ h _ _ _);
        }

    pub met_is : met_in m w f (target pc f) ≡ Word found
    met_is = met_word m w f (target pc f) on

    abbrev stores : Option Fields
    stores = word_stores m.mode pc f (target pc f) found

    -- the row gives no node
    row_bare : enters (lands.o k s st id v me p is verb l pc asks acts unseen).leads ≡ false
    row_bare =
        node_comes_at_entry m w f pc
        row_is
        (lands.fitting k s st id v me p is verb l pc asks acts unseen).after
        (not_entry pc f on)

    -- a step on a lock word that makes the row of the call, where it writes what the row stores
    pub word_step : (i : ℕ)
        → i ≡ packed (layout_in k) (unwrap_or (word_stores k.mode pc f (target pc f) found) found)
        → (u : View) → u.who ≡ v.who
        → u.calls ≡ row_of (terms_of k) p (acting k.mode v.calls verb l.index) (Word found) → (homes : List (Maybe S))
        → Runs k {S = S} (record { words = set s.words (word_at l) i; homes = homes; views = set s.views id u })
    word_step i writes u who calls homes =
        let after : World = stored_in m w f pc (target pc f) in
        let mode : k.mode ≡ m.mode = sym (at.acted.same.mode ∙ st.of_plan.mode) in
        let here : after.word l ≡ unwrap_or stores found =
        (λ j. (word_of m w f pc (target pc f) on j).word (sym acts.lock j)) ∙ word_here m f.lock stores in
        row_step k s st id v me p is verb l pc asks acts unseen (OfLock l) (on_lock (target pc f) f l acts.lock on) row_bare
        near (λ b r e. cc e) (Word found) (sym met_is) (λ e. absurd (off_links pc acts.frame on e)) i
        (writes
        ∙ (ap (λ (z : Mode). packed (layout_in k) (unwrap_or (word_stores z pc f (target pc f) found) found)) mode
        ∙ (ap (packed (layout_in k)) (sym here) ∙ sym (plain_number k after st.pairs l plain_lock))))
        u who calls homes
