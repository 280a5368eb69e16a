-- What the swaps of a byte ask that are made by exchanges of the whole word.
use Rattle.std.proofs.Common.{◌≡◌, ◌≢◌, inl, inr, ℕ, ◌+◌, ◌-◌, ◌%◌, ◌<◌, set, get_or, Option, None}
use Rattle.std.proofs.Common.{Bool, true, false, refl, sym, ap, ◌∙◌, subst, arith, eqb, eq-eqb}
use Rattle.std.proofs.Common.{ne_eqb, ⊎_elim, if◌then◌else◌, ◌&&◌, ◌==◌}
use Rattle.std.specs.Prelude.{unwrap_or}
use Rattle.lk_pvdomain.proofs.Names.{cases_Bool, Allows, Me, keeps, dite, ℕ_discrete, either}
use Rattle.lk_pvdomain.proofs.Names.{Fields, Layout, Locked, Free, Held, Slow, NodeName, LockName}
use Rattle.lk_pvdomain.proofs.Names.{Mode, target, Frame, Pc, H2, Verb, Lock, Unlock, Word, stands}
use Rattle.lk_pvdomain.proofs.Names.{MayFree, Begins, Frees, StandsOn, acting, lock_name, AllHome}
use Rattle.lk_pvdomain.proofs.Names.{Slot, layout_in, locks_of, made, Stand, IsNumbered, Plan, View}
use Rattle.lk_pvdomain.proofs.Names.{TriedBy, head_fails, release_fails, steal_fails, tries_release}
use Rattle.atomic_table.specs.Table.{Step, stepped}
use Rattle.lk_word.specs.SpinWord.{packed}
use Rattle.lk_rows.specs.{Row.Effect, declared.parts.Pc.TheVariants.{E4, U2}, rows.Pv.pv_row}
use Rattle.lk_domain.proofs.words.OnWords.{OnWord, word_stores}
use Rattle.lk_domain.specs.{Calls.grip_led, Plays.ActsOn, Words.{word_at, lock_at}}
use Rattle.lk_pvdomain.proofs.Fails.{tail_512, head_failed}
use Rattle.lk_pvdomain.specs.{PvPlays.Tries, PvRows.{tries_head, tries_steal}}
use Rattle.lk_domain.proofs.words.LockPlays as plays

module _ (k : Plan) (slots id : ℕ) (m : Me Slot View) (number : IsNumbered m.0) (verb : Verb)
    (l : LockName) (near : l.index < locks_of k) (pc : Pc)
    (acts : StandsOn (acting m.0.who.plan.mode m.0.calls verb l.index) verb l pc)
    (asks : Begins m.0.who.plan m.0.calls verb l.index) (word : (fr : Frame) → OnWord (target pc fr))
    (home : MayFree pc → AllHome l m.0) where
  pub tries : (fails : Fields → Bool) (old new : ℕ)
      → ((y : Fields) → packed (layout_in k) y ≡ old → new ≡ packed (layout_in k) (unwrap_or (pv_row 1 pc acts.frame y).stores y))
      → ((y : Fields) → fails y ≡ true → (pv_row 1 pc acts.frame y).stores ≡ None)
      → ((mode : Mode) (y : Fields) → word_stores mode pc acts.frame (target pc acts.frame) y ≡ (pv_row 1 pc acts.frame y).stores)
      → Allows (Stand k) slots id m (word_at l) (λ n. either (eqb n old) new n) (TriedBy fails verb l old m)
  tries fails old new writes misses over s both long me small =
      let n : ℕ = get_or s.words (word_at l) 0 in
      let y : Fields = plays.y k slots id m number verb l near pc acts asks word home s both me in
      let packs = plays.y_packable k slots id m number verb l near pc acts asks word home s both me in
      let tail = plays.y_tail k slots id m number verb l near pc acts asks word home s both me in
      let is : n ≡ packed (layout_in k) y = plays.y_is k slots id m number verb l near pc acts asks word home s both me in
      let named = plays.y_word k slots id m number verb l near pc acts asks word home s both me in
      let u : View = made m.0 verb l.index (Word y) in
      dite (ℕ_discrete n old)
      (λ hit. (
        u,
        keeps,
        tt,
        subst (λ (i : ℕ). Stand k (record { words = set s.words (word_at l) i; homes = s.homes; views = set s.views id u }))
            (sym (ap (λ b. either b new n) (eq-eqb n old hit)))
            (record {
              runs = plays.rows k slots id m number verb l near pc acts asks word home s both me new
                  (λ mode known. writes y (sym is ∙ hit) ∙ ap (λ (o : Option Fields). packed (layout_in k) (unwrap_or o y)) (sym (over mode y)));
              keeps = plays.keeps_on k slots id m number verb l near pc acts asks word home s both me new;
            }),
        record { found = y; packs = packs; tail = tail; word = named; makes = λ _. refl; stays = λ ne h. absurd (ne hit) },
      ))
      (λ miss. ⊎_elim
      (λ fail. (
        u,
        keeps,
        tt,
        subst (λ (i : ℕ). Stand k (record { words = set s.words (word_at l) i; homes = s.homes; views = set s.views id u }))
            (sym (ap (λ b. either b new n) (ne_eqb n old miss)))
            (record {
              runs = plays.rows k slots id m number verb l near pc acts asks word home s both me n
                  (λ mode known. is ∙ ap (λ (o : Option Fields). packed (layout_in k) (unwrap_or o y)) (sym (over mode y ∙ misses y fail)));
              keeps = plays.keeps_on k slots id m number verb l near pc acts asks word home s both me n;
            }),
        record {
          found = y;
          packs = packs;
          tail = tail;
          word = named;
          makes = λ _. refl;
          stays = λ ne h. absurd (let z : true ≡ false = sym fail ∙ h in cc z);
        },
      ))
      (λ goes. (
        m.0,
        keeps,
        tt,
        stands k s both id m.0 me (word_at l) (either (eqb n old) new n) (ap (λ b. either b new n) (ne_eqb n old miss)),
        record {
          found = y;
          packs = packs;
          tail = tail;
          word = named;
          makes = λ e. absurd (elim e [
            | inl hit ↦ miss hit
            | inr h ↦ let z : false ≡ true = sym goes ∙ h in cc z
          ]);
          stays = λ ne h. refl;
        },
      ))
      (cases_Bool (fails y)))

abbrev word_of : Locked → Bool → Option NodeName → Fields
word_of a b t = record { locked = a; pending = b; tail = t }

-- the numbers of what is stored

free_by : (layout : Layout) (f : Frame) (a : Locked) (b : Bool) (t : Option NodeName) (x : ℕ) → x % 256 ≡ 1 → packed layout (word_of a b t) ≡ x
    → x - 1 ≡ packed layout (unwrap_or (pv_row 1 U2 f (word_of a b t)).stores (word_of a b t))
unfolding packed
free_by layout f Held b t x low is = omega (arith, is)
free_by layout f Free true t x low is = let h = tail_512 layout t in absurd (omega (arith, is, low, h.1))
free_by layout f Free false t x low is = let h = tail_512 layout t in absurd (omega (arith, is, low, h.1))
free_by layout f Slow true t x low is = let h = tail_512 layout t in absurd (omega (arith, is, low, h.1))
free_by layout f Slow false t x low is = let h = tail_512 layout t in absurd (omega (arith, is, low, h.1))

head_by : (layout : Layout) (f : Frame) (a : Locked) (b : Bool) (t : Option NodeName) (x : ℕ) → x % 512 ≡ 256 → packed layout (word_of a b t) ≡ x
    → x - 255 ≡ packed layout (unwrap_or (pv_row 1 E4 f (word_of a b t)).stores (word_of a b t))
unfolding packed
head_by layout f Free true t x low is = omega (arith, is)
head_by layout f Free false t x low is = let h = tail_512 layout t in absurd (omega (arith, is, low, h.1))
head_by layout f Held true t x low is = let h = tail_512 layout t in absurd (omega (arith, is, low, h.1))
head_by layout f Held false t x low is = let h = tail_512 layout t in absurd (omega (arith, is, low, h.1))
head_by layout f Slow true t x low is = let h = tail_512 layout t in absurd (omega (arith, is, low, h.1))
head_by layout f Slow false t x low is = let h = tail_512 layout t in absurd (omega (arith, is, low, h.1))

steal_by : (layout : Layout) (f : Frame) (a : Locked) (b : Bool) (t : Option NodeName) (x : ℕ) → x % 256 ≡ 0 → packed layout (word_of a b t) ≡ x
    → x + 1 ≡ packed layout (unwrap_or (pv_row 1 H2 f (word_of a b t)).stores (word_of a b t))
unfolding packed
steal_by layout f Free b t x low is = omega (arith, is)
steal_by layout f Held true t x low is = let h = tail_512 layout t in absurd (omega (arith, is, low, h.1))
steal_by layout f Held false t x low is = let h = tail_512 layout t in absurd (omega (arith, is, low, h.1))
steal_by layout f Slow true t x low is = let h = tail_512 layout t in absurd (omega (arith, is, low, h.1))
steal_by layout f Slow false t x low is = let h = tail_512 layout t in absurd (omega (arith, is, low, h.1))

-- a swap that fails stores nothing

either_none : (b : Bool) (x y : Effect Fields) → x.stores ≡ None → y.stores ≡ None → (if b then x else y).stores ≡ None
either_none true x y h k = h
either_none false x y h k = k

free_misses : (f : Frame) (a : Locked) (b : Bool) (t : Option NodeName) → release_fails (word_of a b t) ≡ true
    → (pv_row 1 U2 f (word_of a b t)).stores ≡ None
free_misses f Held b t h = cc h
free_misses f Free b t h = refl
free_misses f Slow b t h = refl

head_misses : (f : Frame) (a : Locked) (b : Bool) (t : Option NodeName) → head_fails (word_of a b t) ≡ true
    → (pv_row 1 E4 f (word_of a b t)).stores ≡ None
head_misses f Free true t h = cc h
head_misses f Free false t h = either_none ((f.left - 1) == 0) _ _ refl refl
head_misses f Held b t h = either_none ((f.left - 1) == 0) _ _ refl refl
head_misses f Slow b t h = either_none ((f.left - 1) == 0) _ _ refl refl

steal_misses : (f : Frame) (a : Locked) (b : Bool) (t : Option NodeName) → steal_fails (word_of a b t) ≡ true
    → (pv_row 1 H2 f (word_of a b t)).stores ≡ None
steal_misses f Free b t h = cc h
steal_misses f Held b t h = refl
steal_misses f Slow b t h = refl

either_frees : (b : Bool) (x y : Effect Fields) → grip_led x.leads ≢ Frees → grip_led y.leads ≢ Frees
    → grip_led (if b then x else y).leads ≢ Frees
either_frees true x y h k = h
either_frees false x y h k = k

head_frees : MayFree E4 → ⊥
head_frees t =
    either_frees (Rattle.lk_rows.specs.rows.Spin.is_unlocked (t.0.word t.2.lock).locked && (t.0.word t.2.lock).pending) _ _
    (λ e. cc e) (either_frees ((t.2.left - 1) == 0) _ _ (λ e. cc e) (λ e. cc e)) t.3

steal_frees : MayFree H2 → ⊥
steal_frees t =
    either_frees (Rattle.lk_rows.specs.rows.Spin.is_unlocked (t.0.word t.2.lock).locked) _ _ (λ e. cc e) (λ e. cc e) t.3

-- an exchange of 0 for 0 stores what is there
as_it_is : (n : ℕ) → either (eqb n 0) 0 n ≡ n
as_it_is n =
    dite (ℕ_discrete n 0)
    (λ hit. ap (λ b. either b 0 n) (eq-eqb n 0 hit) ∙ sym hit)
    (λ miss. ap (λ b. either b 0 n) (ne_eqb n 0 miss))

-- each kind has one row

at_release : (c : Pc) → tries_release c ≡ true → c ≡ U2
at_release U2 h = refl
at_release _ h = cc h

at_head : (c : Pc) → tries_head c ≡ true → c ≡ E4
at_head E4 h = refl
at_head _ h = cc h

at_steal : (c : Pc) → tries_steal c ≡ true → c ≡ H2
at_steal H2 h = refl
at_steal _ h = cc h

-- what the calls ask, in which the word is named by its place
module _ (k plan : Plan) (slots id : ℕ) (m : Me Slot View) (number : IsNumbered m.0) (verb : Verb)
    (l : LockName) (i : ℕ) (same : k ≡ plan) (near : l.index < locks_of plan) (at : i ≡ word_at l) where
  low : l.index < locks_of k
  low = subst (λ (x : Plan). l.index < locks_of x) (sym same) near

  release_row : StandsOn (acting m.0.who.plan.mode m.0.calls verb l.index) verb l U2
      → Begins m.0.who.plan m.0.calls verb l.index → AllHome l m.0 → (x : ℕ) → x % 256 ≡ 1
      → Allows (Stand k) slots id m (word_at l) (λ n. either (eqb n x) (x - 1) n) (TriedBy release_fails verb l x m)
  release_row acts begins home x small =
      tries k slots id m number verb l low U2 acts begins (λ f. tt) (λ may. home) release_fails x (x - 1)
      (λ y is. free_by (layout_in k) acts.frame y.locked y.pending y.tail x small is)
      (λ y fail. free_misses acts.frame y.locked y.pending y.tail fail) (λ mode y. refl)

  pub release_asks : (acts : ActsOn tries_release m.0 verb l) → AllHome l m.0 → (x : ℕ) → x % 256 ≡ 1
      → Allows (Stand k) slots id m i (λ n. either (eqb n x) (x - 1) n) (TriedBy release_fails verb l x m)
  release_asks acts home x small =
      subst (λ (z : ℕ). Allows (Stand k) slots id m z (λ n. either (eqb n x) (x - 1) n) (TriedBy release_fails verb l x m)) (sym at)
      (release_row (subst (StandsOn (acting m.0.who.plan.mode m.0.calls verb l.index) verb l) (at_release acts.row acts.is) acts.stands) acts.begins home x small)

  head_row : StandsOn (acting m.0.who.plan.mode m.0.calls verb l.index) verb l E4
      → Begins m.0.who.plan m.0.calls verb l.index → (x : ℕ) → x % 512 ≡ 256
      → Allows (Stand k) slots id m (word_at l) (λ n. either (eqb n x) (x - 255) n) (TriedBy head_fails verb l x m)
  head_row acts begins x small =
      tries k slots id m number verb l low E4 acts begins (λ f. tt) (λ may. absurd (head_frees may)) head_fails x (x - 255)
      (λ y is. head_by (layout_in k) acts.frame y.locked y.pending y.tail x small is)
      (λ y fail. head_misses acts.frame y.locked y.pending y.tail fail) (λ mode y. refl)

  pub head_asks : (acts : ActsOn tries_head m.0 verb l) → (x : ℕ) → x % 512 ≡ 256
      → Allows (Stand k) slots id m i (λ n. either (eqb n x) (x - 255) n) (TriedBy head_fails verb l x m)
  head_asks acts x small =
      subst (λ (z : ℕ). Allows (Stand k) slots id m z (λ n. either (eqb n x) (x - 255) n) (TriedBy head_fails verb l x m)) (sym at)
      (head_row (subst (StandsOn (acting m.0.who.plan.mode m.0.calls verb l.index) verb l) (at_head acts.row acts.is) acts.stands) acts.begins x small)

  -- a look that stores what is there: at 0 the swap fails too
  head_idle : StandsOn (acting m.0.who.plan.mode m.0.calls verb l.index) verb l E4
      → Begins m.0.who.plan m.0.calls verb l.index
      → Allows (Stand k) slots id m (word_at l) (λ n. either (eqb n 0) 0 n) (TriedBy head_fails verb l 0 m)
  head_idle acts begins =
      tries k slots id m number verb l low E4 acts begins (λ f. tt) (λ may. absurd (head_frees may)) head_fails 0 0
      (λ y is. sym is ∙ ap (λ (o : Option Fields). packed (layout_in k) (unwrap_or o y))
      (sym (head_misses acts.frame y.locked y.pending y.tail (head_failed (layout_in k) y 0 (sym is) (λ e. omega (arith, e))))))
      (λ y fail. head_misses acts.frame y.locked y.pending y.tail fail) (λ mode y. refl)

  pub head_looks : (acts : ActsOn tries_head m.0 verb l) → Allows (Stand k) slots id m i (λ n. n) (TriedBy head_fails verb l 0 m)
  head_looks acts s both long me small =
      let t = subst (λ (z : ℕ). Allows (Stand k) slots id m z (λ n. either (eqb n 0) 0 n) (TriedBy head_fails verb l 0 m)) (sym at)
      (head_idle (subst (StandsOn (acting m.0.who.plan.mode m.0.calls verb l.index) verb l) (at_head acts.row acts.is) acts.stands) acts.begins)
      s both long me small in
      (t.0, t.1, t.2, subst (λ (n : ℕ). Stand k (stepped s i n id m.1 t.0 t.1)) (as_it_is (get_or s.words i 0)) t.3, t.4)

  steal_row : StandsOn (acting m.0.who.plan.mode m.0.calls verb l.index) verb l H2
      → Begins m.0.who.plan m.0.calls verb l.index → (x : ℕ) → x % 256 ≡ 0
      → Allows (Stand k) slots id m (word_at l) (λ n. either (eqb n x) (x + 1) n) (TriedBy steal_fails verb l x m)
  steal_row acts begins x small =
      tries k slots id m number verb l low H2 acts begins (λ f. tt) (λ may. absurd (steal_frees may)) steal_fails x (x + 1)
      (λ y is. steal_by (layout_in k) acts.frame y.locked y.pending y.tail x small is)
      (λ y fail. steal_misses acts.frame y.locked y.pending y.tail fail) (λ mode y. refl)

  pub steal_asks : (acts : ActsOn tries_steal m.0 verb l) → (x : ℕ) → x % 256 ≡ 0
      → Allows (Stand k) slots id m i (λ n. either (eqb n x) (x + 1) n) (TriedBy steal_fails verb l x m)
  steal_asks acts x small =
      subst (λ (z : ℕ). Allows (Stand k) slots id m z (λ n. either (eqb n x) (x + 1) n) (TriedBy steal_fails verb l x m)) (sym at)
      (steal_row (subst (StandsOn (acting m.0.who.plan.mode m.0.calls verb l.index) verb l) (at_steal acts.row acts.is) acts.stands) acts.begins x small)

-- the same of a lock by its number, as the step tells it
module _ (k plan : Plan) (slots id : ℕ) (m : Me Slot View) (number : IsNumbered m.0) (l i : ℕ) (st : Step Slot) (same : k ≡ plan)
    (near : l < locks_of plan) (at : i ≡ lock_at l) (word : st.word ≡ i) (x : ℕ) (first : st.first ≡ x) where
  told : (fails : Fields → Bool) (v : Verb) (f : ℕ → ℕ) → Allows (Stand k) slots id m i f (TriedBy fails v (lock_name l) x m)
      → Allows (Stand k) slots id m i f (Tries fails v st m)
  told fails v f allows s both long me small =
      let t = allows s both long me small in (
        t.0,
        t.1,
        t.2,
        t.3,
        λ j e. let here : l ≡ j = omega (arith, e, word, at) in
            subst (λ (z : ℕ). TriedBy fails v (lock_name z) st.first m (get_or s.words i 0) (t.0, Rattle.atomic_table.specs.Table.carried_after m.1 t.1)) here
            (subst (λ (z : ℕ). TriedBy fails v (lock_name l) z m (get_or s.words i 0) (t.0, Rattle.atomic_table.specs.Table.carried_after m.1 t.1)) (sym first) t.4),
      )

  pub release_told : x % 256 ≡ 1 → ActsOn tries_release m.0 Unlock (lock_name l) → AllHome (lock_name l) m.0
      → Allows (Stand k) slots id m i (λ n. either (eqb n x) (x - 1) n) (Tries release_fails Unlock st m)
  release_told small acts home = told release_fails Unlock (λ n. either (eqb n x) (x - 1) n)
      (release_asks k plan slots id m number Unlock (lock_name l) i same near at acts home x small)

  pub head_told : x % 512 ≡ 256 → ActsOn tries_head m.0 Lock (lock_name l)
      → Allows (Stand k) slots id m i (λ n. either (eqb n x) (x - 255) n) (Tries head_fails Lock st m)
  head_told small acts = told head_fails Lock (λ n. either (eqb n x) (x - 255) n)
      (head_asks k plan slots id m number Lock (lock_name l) i same near at acts x small)

  pub head_looked : ActsOn tries_head m.0 Lock (lock_name l) → x ≡ 0
      → Allows (Stand k) slots id m i (λ n. n) (Tries head_fails Lock st m)
  head_looked acts none = told head_fails Lock (λ n. n)
      (subst (λ (z : ℕ). Allows (Stand k) slots id m i (λ n. n) (TriedBy head_fails Lock (lock_name l) z m)) (sym none)
      (head_looks k plan slots id m number Lock (lock_name l) i same near at acts))

  pub steal_told : x % 256 ≡ 0 → ActsOn tries_steal m.0 Lock (lock_name l)
      → Allows (Stand k) slots id m i (λ n. either (eqb n x) (x + 1) n) (Tries steal_fails Lock st m)
  steal_told small acts = told steal_fails Lock (λ n. either (eqb n x) (x + 1) n)
      (steal_asks k plan slots id m number Lock (lock_name l) i same near at acts x small)
