-- What the step calls on the words of reader-writer locks do to the calls of their processor.
use Rattle.std.proofs.Common.{◌≡◌, inl, ℕ, ◌≤◌, length, Some, None, Bool, true, false, eqb, refl}
use Rattle.std.proofs.Common.{sym, ap, ◌∙◌, subst, arith, if◌then◌else◌, not}
use Rattle.lk_domain.proofs.Names.{Me, RwFields, Reads, Writes, LockName, Mode, Cna, Native, Pv}
use Rattle.lk_domain.proofs.Names.{Virt, first_place, rw_name, Effect, Target, target, Frame, Pc}
use Rattle.lk_domain.proofs.Names.{F1, R1, R2, R3, R4, R5, Wr1, Wr2, Wr3, Wr4, Wr5, Wr6, Y1, Y2, Y3}
use Rattle.lk_domain.proofs.Names.{Y4, Y5, Verb, Lock, RUnlock, Read, Try, TryRead, TryWrite}
use Rattle.lk_domain.proofs.Names.{Unlock, WUnlock, Write, is_cleared, is_empty, is_open, rw_row}
use Rattle.lk_domain.proofs.Names.{is_rw_row, is_slow, Course, Met, Shared, course_at, held_lock}
use Rattle.lk_domain.proofs.Names.{led, Grip, Outlook, Unchanged, acting, are_calls, course}
use Rattle.lk_domain.proofs.Names.{grip_of, grip_told, sight_by, sight_of, terms_of, Slot, IsNoted}
use Rattle.lk_domain.proofs.Names.{Steps, locks_of, ActsIn, carried_of, looks_by, ActsFor, SharedBy}
use Rattle.lk_domain.proofs.Names.{awaits_by, follows_by, joins_at, joins_by, leaves_by, quits_by}
use Rattle.lk_domain.proofs.Names.{seizes_at, seizes_by, watches_by, own_number, Notes, Plan, View}
use Rattle.lk_word.specs.RwWord.{packed_rw}
use Rattle.lk_names.specs.declared.events.What.TheVariants.{Miss}
use Rattle.lk_rows.specs.Row.{Done, looks, misses}
use Rattle.lk_rows.specs.rows.Rw.{takes_written, queues_up, frees_wait, rw_lock}
use Rattle.lk_law.specs.Leads.{course_of}
use Rattle.lk_domain.proofs.Turned.{Turn, turn_by, TakesIt, is_taking, is_opening}
use Rattle.lk_domain.proofs.{rows.Fresh.turned_purse, rows.Grips.rw_target}
use Rattle.lk_domain.proofs.rw.Numbers.{empty_test, cleared_test, writer_test, open_test, watch_row}
use Rattle.lk_domain.proofs.rw.Numbers.{join_row, quit_row, seize_row, await_row, follow_row}
use Rattle.lk_domain.proofs.{seats.Places.carried_same, turns.Courses.Comes, turns.Noted.stays}
use Rattle.lk_domain.specs.{Calls.setting, Rows.queues_up as queues, RwPlays.Watches}
use Rattle.lk_domain.specs.RwRows.{watches_at, watches_on, watch_takes, joins_on, join_takes}
use Rattle.lk_domain.specs.RwRows.{quits_on, seizes_on, on_shared}
use Rattle.lk_names.specs.declared.events.RwHow.TheVariants as how

-- what an effect makes of a call on the lock of the frame
record Makes (f : Frame) (e : Effect RwFields) (waits taken : Bool) : Type 0 where
  place : Comes waits false (led f e.leads).place
  holds : TakesIt f.lock.index taken (grip_told e.tells) (rw_name f.lock.index)

pick : (f : Frame) (b : Bool) (x y : Effect RwFields) (w w' t t' : Bool) → Makes f x w t → Makes f y w' t'
    → Makes f (if b then x else y) (if b then w else w') (if b then t else t')
pick f true x y w w' t t' h k = h
pick f false x y w w' t t' h k = k

same_as : (f : Frame) (e : Effect RwFields) (w w' t t' : Bool) → w ≡ w' → t ≡ t' → Makes f e w t → Makes f e w' t'
same_as f e w w' t t' a b h = subst (λ (x : Bool). Makes f e x t') a (subst (λ (x : Bool). Makes f e w x) b h)

if_self : (b : Bool) → (if b then true else false) ≡ b
if_self true = refl
if_self false = refl

if_not : (b : Bool) → (if b then false else true) ≡ not b
if_not true = refl
if_not false = refl

if_both : (b c : Bool) → (if b then c else c) ≡ c
if_both true c = refl
if_both false c = refl

not_not : (b : Bool) → not (not b) ≡ b
not_not true = refl
not_not false = refl

frees_next : (mode : Mode) → is_slow (Some (first_place mode Unlock)) ≡ false
frees_next Virt = refl
frees_next Native = refl
frees_next Cna = refl
frees_next Pv = refl

bias_next : (b : Bool) → is_slow (Some (if b then R3 else R2)) ≡ false
bias_next true = refl
bias_next false = refl

one_of : (b : Bool) (c d : Pc) → is_slow (Some c) ≡ false → is_slow (Some d) ≡ false
    → is_slow (Some (if b then c else d)) ≡ false
one_of true c d h k = h
one_of false c d h k = k

-- the row leaves its lock as it is
left : (l : ℕ) (j : LockName) → TakesIt l false Unchanged j
left l j = inl refl

module _ (mode : Mode) (f : Frame) (y : RwFields) where
  abbrev i : ℕ
  i = f.lock.index

  abbrev j : LockName
  j = rw_name i

  mk : {e : Effect RwFields} {w t : Bool} → Comes w false (led f e.leads).place
      → TakesIt i t (grip_told e.tells) j → Makes f e w t
  mk a b = record { place = a; holds = b }

  watched : (b : Bool) (v : Verb) (c : Pc) → watches_at b v c ≡ true
      → Makes f (rw_row mode c f y) (watches_on b v (packed_rw y)) (watch_takes v (packed_rw y))
  watched true Read R5 h =
      same_as f _ _ _ _ _ (if_both y.writer true) (if_not y.writer ∙ sym (writer_test y))
      (pick f y.writer _ _ true true false true (mk (R5, refl, refl) (left i j))
      (mk (first_place mode Unlock, refl, frees_next mode) (Reads, refl, refl)))
  watched false Read R2 h =
      same_as f _ _ _ _ _ (if_self y.writer ∙ (sym (not_not y.writer) ∙ ap not (sym (writer_test y)))) (if_not y.writer ∙ sym (writer_test y))
      (pick f y.writer _ _ true false false true (mk (R2, refl, refl) (left i j)) (mk (refl, refl) (Reads, refl, refl)))
  watched true Write Wr2 h = mk (_, refl, one_of (is_empty y) Wr3 Wr4 refl refl) (left i j)
  watched false Write Wr2 h = mk (_, refl, one_of (is_empty y) Wr3 Wr4 refl refl) (left i j)
  watched true Write Wr5 h = mk (_, refl, one_of (is_cleared y) Wr6 Wr5 refl refl) (left i j)
  watched false Write Wr5 h = mk (_, refl, one_of (is_cleared y) Wr6 Wr5 refl refl) (left i j)
  watched true TryRead Y1 h =
      same_as f _ _ _ _ _ (if_self (is_open y) ∙ sym (open_test y)) (if_both (is_open y) false)
      (pick f (is_open y) _ _ true false false false (mk (Y2, refl, refl) (left i j)) (mk (refl, refl) (left i j)))
  watched false TryRead Y1 h =
      same_as f _ _ _ _ _ (if_self (is_open y) ∙ sym (open_test y)) (if_both (is_open y) false)
      (pick f (is_open y) _ _ true false false false (mk (Y2, refl, refl) (left i j)) (mk (refl, refl) (left i j)))
  watched true TryWrite Y4 h =
      same_as f _ _ _ _ _ (if_self (is_empty y) ∙ sym (empty_test y)) (if_both (is_empty y) false)
      (pick f (is_empty y) _ _ true false false false (mk (Y5, refl, refl) (left i j)) (mk (refl, refl) (left i j)))
  watched false TryWrite Y4 h =
      same_as f _ _ _ _ _ (if_self (is_empty y) ∙ sym (empty_test y)) (if_both (is_empty y) false)
      (pick f (is_empty y) _ _ true false false false (mk (Y5, refl, refl) (left i j)) (mk (refl, refl) (left i j)))
  watched b _ _ h = cc h

  joined : (b : Bool) (v : Verb) (c : Pc) → joins_at b v c ≡ true
      → Makes f (rw_row mode c f y) (joins_on b v (packed_rw y)) (join_takes b v (packed_rw y))
  joined false Read R1 h =
      same_as f _ _ _ _ _ (if_not (is_open y) ∙ ap not (sym (open_test y))) (if_self (is_open y) ∙ sym (open_test y))
      (pick f (is_open y) _ _ false true true false (mk (refl, refl) (Reads, refl, refl))
      (mk (_, refl, bias_next (eqb f.ctx 0)) (left i j)))
  joined true Read R4 h = mk (R5, refl, refl) (left i j)
  joined false TryRead Y2 h =
      same_as f _ _ _ _ _ (if_not (is_open y) ∙ ap not (sym (open_test y))) (if_self (is_open y) ∙ sym (open_test y))
      (pick f (is_open y) _ _ false true true false (mk (refl, refl) (Reads, refl, refl)) (mk (Y3, refl, refl) (left i j)))
  joined true TryRead Y2 h =
      same_as f _ _ _ _ _ (if_not (is_open y) ∙ ap not (sym (open_test y))) (if_self (is_open y) ∙ sym (open_test y))
      (pick f (is_open y) _ _ false true true false (mk (refl, refl) (Reads, refl, refl)) (mk (Y3, refl, refl) (left i j)))
  joined b _ _ h = cc h

  quitted : (v : Verb) (c : Pc) → is_taking v ≡ true → quits_by v c ≡ true → Makes f (rw_row mode c f y) (quits_on v) false
  quitted Read R3 t h = mk (F1, refl, refl) (left i j)
  quitted TryRead Y3 t h = mk (refl, refl) (left i j)
  quitted RUnlock c t h = cc t
  quitted _ _ t h = cc h

  seized : (b : Bool) (v : Verb) (c : Pc) → seizes_at b v c ≡ true
      → Makes f (rw_row mode c f y) (seizes_on b v (packed_rw y)) (eqb (packed_rw y) 0)
  seized false Write Wr1 h =
      same_as f _ _ _ _ _ (if_not (is_empty y) ∙ ap not (sym (empty_test y))) (if_self (is_empty y) ∙ sym (empty_test y))
      (pick f (is_empty y) (takes_written f how.Fast Done) (queues_up None Wr2) false true true false (mk (refl, refl) (Writes, refl, refl)) (mk (F1, refl, refl) (left i j)))
  seized true Write Wr3 h =
      same_as f _ _ _ _ _ (if_both (is_empty y) true) (if_self (is_empty y) ∙ sym (empty_test y))
      (pick f (is_empty y) (takes_written f how.Queued (frees_wait mode)) (looks Wr4) true true true false (mk (first_place mode Unlock, refl, frees_next mode) (Writes, refl, refl))
      (mk (Wr4, refl, refl) (left i j)))
  seized false TryWrite Y5 h =
      same_as f _ _ _ _ _ (if_both (is_empty y) false) (if_self (is_empty y) ∙ sym (empty_test y))
      (pick f (is_empty y) (takes_written f how.Try Done) (misses (Miss (rw_lock f))) false false true false (mk (refl, refl) (Writes, refl, refl)) (mk (refl, refl) (left i j)))
  seized true TryWrite Y5 h =
      same_as f _ _ _ _ _ (if_both (is_empty y) false) (if_self (is_empty y) ∙ sym (empty_test y))
      (pick f (is_empty y) (takes_written f how.Try Done) (misses (Miss (rw_lock f))) false false true false (mk (refl, refl) (Writes, refl, refl)) (mk (refl, refl) (left i j)))
  seized b _ _ h = cc h

  awaited : (v : Verb) (c : Pc) → awaits_by v c ≡ true → Makes f (rw_row mode c f y) true false
  awaited Write Wr4 h = mk (Wr5, refl, refl) (left i j)
  awaited _ _ h = cc h

  followed : (v : Verb) (c : Pc) → follows_by v c ≡ true → Makes f (rw_row mode c f y) true (eqb (packed_rw y) 256)
  followed Write Wr6 h =
      same_as f _ _ _ _ _ (if_both (is_cleared y) true) (if_self (is_cleared y) ∙ sym (cleared_test y))
      (pick f (is_cleared y) (takes_written f how.Queued (frees_wait mode)) (looks Wr5) true true true false (mk (first_place mode Unlock, refl, frees_next mode) (Writes, refl, refl))
      (mk (Wr5, refl, refl) (left i j)))
  followed _ _ h = cc h

-- the operations that take
watch_taking : (b : Bool) (v : Verb) (c : Pc) → watches_at b v c ≡ true → is_taking v ≡ true
watch_taking b v c h = grind (arith, h)

join_taking : (b : Bool) (v : Verb) (c : Pc) → joins_at b v c ≡ true → is_taking v ≡ true
join_taking b v c h = grind (arith, h)

seize_taking : (b : Bool) (v : Verb) (c : Pc) → seizes_at b v c ≡ true → is_taking v ≡ true
seize_taking b v c h = grind (arith, h)

await_taking : (v : Verb) (c : Pc) → awaits_by v c ≡ true → is_taking v ≡ true
await_taking v c h = grind (arith, h)

follow_taking : (v : Verb) (c : Pc) → follows_by v c ≡ true → is_taking v ≡ true
follow_taking v c h = grind (arith, h)

-- none of these is a first row, and none is in the slow path
await_plain : (v : Verb) (c : Pc) → awaits_by v c ≡ true → (is_opening c ≡ false) × (is_slow (Some c) ≡ false)
await_plain Write Wr4 h = (refl, refl)
await_plain _ _ h = cc h

-- the kinds of the step calls are those of their seats' steps

pub watch_kind : (b : Bool) (v : Verb) (c : Pc) → watches_at b v c ≡ true → watches_by v c ≡ true
watch_kind b v c h = grind (arith, h)

pub join_kind : (b : Bool) (v : Verb) (c : Pc) → joins_at b v c ≡ true → joins_by v c ≡ true
join_kind b v c h = grind (arith, h)

pub seize_kind : (b : Bool) (v : Verb) (c : Pc) → seizes_at b v c ≡ true → seizes_by v c ≡ true
seize_kind b v c h = grind (arith, h)

-- the call of another kind
pub acts_as : (some all : Pc → Bool) → ((c : Pc) → some c ≡ true → all c ≡ true) → (w : View) (v : Verb) (l : ℕ)
    → ActsFor some w v l → ActsFor all w v l
acts_as some all more w v l acts =
    record {
      inside = acts.inside;
      acts = record {
        row = acts.acts.row;
        is = more acts.acts.row acts.acts.is;
        stands = acts.acts.stands;
        begins = acts.acts.begins;
      };
    }

module _ (v : Verb) (l met : ℕ) (m n : Me Slot View) (made : SharedBy v l m met n)
    (calm : are_calls m.0.calls.frames ≡ true) (few : length m.0.calls.frames ≤ 6) where
  abbrev mode' : Mode
  mode' = m.0.who.plan.mode

  abbrev p : ℕ
  p = own_number m.0.who.number

  goes : (kind : Pc → Bool) (acts : ActsFor kind m.0 v l) → is_taking v ≡ true → is_rw_row acts.acts.row ≡ true
      → (waits taken : Bool)
      → Makes acts.acts.stands.frame (rw_row mode' acts.acts.row acts.acts.stands.frame made.found) waits taken
      → Turn m.0.calls n.0.calls l acts.acts.row waits false taken
  goes kind acts takes row waits taken does =
      let c = acts.acts.row in
      let f = acts.acts.stands.frame in
      let x : Met = Shared made.found in
      let name : LockName = record { index = l; wait = acts.inside } in
      let index : f.lock.index ≡ l = ap (λ (z : LockName). z.index) acts.acts.stands.lock in
      let z : Outlook = sight_of (terms_of m.0.who.plan) p (acting mode' m.0.calls v l).runs in
      let is : course mode' p z c f x ≡ course_of (rw_row mode' c f made.found) =
      ap (λ (t : Target). course_at (setting mode' p (sight_by z x)) c f t x) (rw_target c f row) in
      turn_by m.0.who.plan p m.0.calls n.0.calls v name c x takes calm few acts.acts.stands acts.acts.begins
      (ap (λ (z : Me Slot View). z.0.calls) made.seat) waits false taken
      (subst (λ (o : Course). Comes waits false (led f o.leads).place) (sym is) does.place)
      (subst (λ (j : LockName). TakesIt l taken (grip_of (target c f) (course mode' p z c f x)) j)
      (sym (ap (λ (t : Target). held_lock t f) (rw_target c f row)))
      (subst (λ (y : Grip). TakesIt l taken y (rw_name f.lock.index))
      (sym (λ i. grip_of (rw_target c f row i) (is i)))
      (subst (λ (i : ℕ). TakesIt i taken (grip_told (rw_row mode' c f made.found).tells) (rw_name f.lock.index)) index does.holds)))

  -- after a look
  pub watch : (b : Bool) (acts : ActsFor (watches_at b v) m.0 v l)
      → Turn m.0.calls n.0.calls l acts.acts.row (watches_on b v met) false (watch_takes v met)
  watch b acts =
      subst (λ (k : ℕ). Turn m.0.calls n.0.calls l acts.acts.row (watches_on b v k) false (watch_takes v k)) (sym made.word)
      (goes (watches_at b v) acts (watch_taking b v acts.acts.row acts.acts.is)
      (watch_row v acts.acts.row (watch_kind b v acts.acts.row acts.acts.is)) _ _
      (watched mode' acts.acts.stands.frame made.found b v acts.acts.row acts.acts.is))

  -- after a reader more
  pub join : (b : Bool) (acts : ActsFor (joins_at b v) m.0 v l)
      → Turn m.0.calls n.0.calls l acts.acts.row (joins_on b v met) false (join_takes b v met)
  join b acts =
      subst (λ (k : ℕ). Turn m.0.calls n.0.calls l acts.acts.row (joins_on b v k) false (join_takes b v k)) (sym made.word)
      (goes (joins_at b v) acts (join_taking b v acts.acts.row acts.acts.is)
      (join_row v acts.acts.row (join_kind b v acts.acts.row acts.acts.is)) _ _
      (joined mode' acts.acts.stands.frame made.found b v acts.acts.row acts.acts.is))

  -- after a reader less
  pub quit : (acts : ActsFor (quits_by v) m.0 v l) → is_taking v ≡ true
      → Turn m.0.calls n.0.calls l acts.acts.row (quits_on v) false false
  quit acts takes =
      goes (quits_by v) acts takes (quit_row v acts.acts.row acts.acts.is) _ _
      (quitted mode' acts.acts.stands.frame made.found v acts.acts.row takes acts.acts.is)

  -- after an exchange of the empty word
  pub seize : (b : Bool) (acts : ActsFor (seizes_at b v) m.0 v l)
      → Turn m.0.calls n.0.calls l acts.acts.row (seizes_on b v met) false (eqb met 0)
  seize b acts =
      subst (λ (k : ℕ). Turn m.0.calls n.0.calls l acts.acts.row (seizes_on b v k) false (eqb k 0)) (sym made.word)
      (goes (seizes_at b v) acts (seize_taking b v acts.acts.row acts.acts.is)
      (seize_row v acts.acts.row (seize_kind b v acts.acts.row acts.acts.is)) _ _
      (seized mode' acts.acts.stands.frame made.found b v acts.acts.row acts.acts.is))

  -- waiting is set
  pub await : (acts : ActsFor (awaits_by v) m.0 v l) → Turn m.0.calls n.0.calls l acts.acts.row true false false
  await acts =
      goes (awaits_by v) acts (await_taking v acts.acts.row acts.acts.is) (await_row v acts.acts.row acts.acts.is) _ _
      (awaited mode' acts.acts.stands.frame made.found v acts.acts.row acts.acts.is)

  -- after an exchange of the word in which a writer alone waits
  pub follow : (acts : ActsFor (follows_by v) m.0 v l)
      → Turn m.0.calls n.0.calls l acts.acts.row true false (eqb met 256)
  follow acts =
      subst (λ (k : ℕ). Turn m.0.calls n.0.calls l acts.acts.row true false (eqb k 256)) (sym made.word)
      (goes (follows_by v) acts (follow_taking v acts.acts.row acts.acts.is) (follow_row v acts.acts.row acts.acts.is) _ _
      (followed mode' acts.acts.stands.frame made.found v acts.acts.row acts.acts.is))

  -- with what the processor notes and computes

  pub watch_noted : (b d : Bool) → d ≡ b → (acts : ActsFor (watches_at b v) m.0 v l) → (w t : Bool)
      → w ≡ watches_on d v met → t ≡ watch_takes v met → Steps m.0.calls n.0.calls l w false t
  watch_noted b d same acts w t waits takes =
      subst (λ (x : Bool). Steps m.0.calls n.0.calls l x false t) (sym (waits ∙ ap (λ (x : Bool). watches_on x v met) same))
      (subst (λ (x : Bool). Steps m.0.calls n.0.calls l (watches_on b v met) false x) (sym takes) (watch b acts).steps)

  pub join_noted : (b d : Bool) → d ≡ b → (acts : ActsFor (joins_at b v) m.0 v l) → (w t : Bool)
      → w ≡ joins_on d v met → t ≡ join_takes d v met → Steps m.0.calls n.0.calls l w false t
  join_noted b d same acts w t waits takes =
      subst (λ (x : Bool). Steps m.0.calls n.0.calls l x false t) (sym (waits ∙ ap (λ (x : Bool). joins_on x v met) same))
      (subst (λ (x : Bool). Steps m.0.calls n.0.calls l (joins_on b v met) false x)
      (sym (takes ∙ ap (λ (x : Bool). join_takes x v met) same)) (join b acts).steps)

  pub seize_noted : (b d : Bool) → d ≡ b → (acts : ActsFor (seizes_at b v) m.0 v l) → (w : Bool)
      → w ≡ seizes_on d v met → Steps m.0.calls n.0.calls l w false (eqb met 0)
  seize_noted b d same acts w waits =
      subst (λ (x : Bool). Steps m.0.calls n.0.calls l x false (eqb met 0)) (sym (waits ∙ ap (λ (x : Bool). seizes_on x v met) same))
      (seize b acts).steps

  -- waiting is set, or the reader is taken back: nothing is to be noted
  pub await_noted : (notes : Notes) (many : ℕ) → IsNoted notes many m.0.calls → ActsFor (awaits_by v) m.0 v l → IsNoted notes many n.0.calls
  await_noted notes many was acts =
      let t = await acts in
      let plain = await_plain v acts.acts.row acts.acts.is in
      stays notes many m.0.calls n.0.calls l false was t.steps (t.on plain.0) (t.was ∙ plain.1)

  -- what the seat has besides

  pub numbered : {q : ℕ} → m.0.who.number ≡ Some q → n.0.who.number ≡ Some q
  numbered h = ap (λ (x : Me Slot View). x.0.who.number) made.seat ∙ h

  pub noted : {notes : Notes} → IsNoted notes (locks_of m.0.who.plan) n.0.calls → IsNoted notes (locks_of n.0.who.plan) n.0.calls
  noted {notes} h = subst (λ (k : Plan). IsNoted notes (locks_of k) n.0.calls) (sym (ap (λ (x : Me Slot View). x.0.who.plan) made.seat)) h

  out_same : n.0.ledger.out ≡ m.0.ledger.out
  out_same =
      ap (λ (x : Me Slot View). x.0.ledger.out) made.seat
      ∙ (turned_purse m.0.who.plan (own_number m.0.who.number) (acting m.0.who.plan.mode m.0.calls v l)
      (Shared made.found) m.0.ledger).out

  pub carried : m.1 ≡ carried_of m.0 → n.1 ≡ carried_of n.0
  carried h =
      ap (λ (x : Me Slot View). x.1) made.seat
      ∙ (h ∙ carried_same m.0 n.0 (ap (λ (x : Me Slot View). x.0.who) made.seat) out_same)

quit_plain : (c : Pc) → quits_by Read c ≡ true → (is_opening c ≡ false) × (is_slow (Some c) ≡ false)
quit_plain R3 h = (refl, refl)
quit_plain _ h = cc h

pub quit_noted : (l met : ℕ) (m n : Me Slot View) (made : SharedBy Read l m met n)
    → are_calls m.0.calls.frames ≡ true → length m.0.calls.frames ≤ 6 → (notes : Notes) (many : ℕ)
    → IsNoted notes many m.0.calls → ActsFor (quits_by Read) m.0 Read l → IsNoted notes many n.0.calls
quit_noted l met m n made calm few notes many was acts =
    let t = quit Read l met m n made calm few acts refl in
    let plain = quit_plain acts.acts.row acts.acts.is in
    stays notes many m.0.calls n.0.calls l false was t.steps (t.on plain.0) (t.was ∙ plain.1)

-- which word a look is at

pub at_word : (w : View) (v : Verb) (n : LockName) → ActsIn (looks_by v) w v n → on_shared v n.wait ≡ false
at_word w v n acts = by v acts.acts.is acts.inside
  where
    by : (v : Verb) → looks_by v acts.acts.row ≡ true → n.wait ≡ queues v → on_shared v n.wait ≡ false
    by Lock h e = refl
    by Try h e = refl
    by Read h e = ap not e
    by Write h e = ap not e
    by _ h e = cc h

pub at_shared : (w : View) (v : Verb) (n : LockName) → Watches v n w → on_shared v n.wait ≡ true
at_shared w v n watches =
    by v (watch_kind (eqb (length w.calls.frames) 1) v watches.acts.acts.row watches.acts.acts.is)
  where
    by : (v : Verb) → watches_by v watches.acts.acts.row ≡ true → on_shared v n.wait ≡ true
    by Read h = ap not watches.plain
    by TryRead h = ap not watches.plain
    by Write h = ap not watches.plain
    by TryWrite h = ap not watches.plain
    by _ h = cc h

-- the operation of a step that one operation alone makes
pub as_one : (kind : Verb → Pc → Bool) (one : Verb) → ((v : Verb) (c : Pc) → kind v c ≡ true → v ≡ one)
    → (w : View) (v : Verb) (l : ℕ) → ActsFor (kind v) w v l → ActsFor (kind one) w one l
as_one kind one only w v l acts =
    subst (λ (z : Verb). ActsFor (kind z) w z l) (only v acts.acts.row acts.acts.is) acts

pub await_is : (v : Verb) (c : Pc) → awaits_by v c ≡ true → v ≡ Write
await_is v c h = grind (arith, h)

pub follow_is : (v : Verb) (c : Pc) → follows_by v c ≡ true → v ≡ Write
follow_is v c h = grind (arith, h)

pub leave_is : (v : Verb) (c : Pc) → leaves_by v c ≡ true → v ≡ WUnlock
leave_is v c h = grind (arith, h)
