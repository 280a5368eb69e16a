-- Who waits by the pending bit of a lock after an act, while somebody stands in its queue.
use Rattle.std.proofs.Common.{◌≡◌, ◌≢◌, ◌⊎◌, inl, inr, ℕ, ◌<◌, Option, Some, None, Bool, true}
use Rattle.std.proofs.Common.{false, List, [], refl, sym, ap, ◌∙◌, subst, arith, length, slice_get}
use Rattle.std.proofs.Common.{is_some}
use Rattle.lk_progress.proofs.Names.{cases_Bool, NodeName, LockHistory, same_waiter, Act, Event}
use Rattle.lk_progress.proofs.Names.{How, Take, Spin, LockName, Mode, Cna, Native, Pv, Virt, Waiter}
use Rattle.lk_progress.proofs.Names.{next, processor_of, Machine, top_frame, top_of, word_at}
use Rattle.lk_progress.proofs.Names.{first_place, node_of, started, Answer, Done, Enters, Freed}
use Rattle.lk_progress.proofs.Names.{Goes, Granted, Lead, Leaves, Missed, TakesWait, Yields, row}
use Rattle.lk_progress.proofs.Names.{target, Frame, Pc, F1, P3, P4, Verb, Lock, RUnlock, Read, Try}
use Rattle.lk_progress.proofs.Names.{TryRead, TryWrite, Unlock, WUnlock, Write, waiter_cases}
use Rattle.lk_progress.proofs.Names.{lists_none, if-false, if-true, not-true, same_waiter-else}
use Rattle.lk_progress.proofs.Names.{same_waiter-self, phase_on-here, LockAgrees, halts, may_halt}
use Rattle.lk_progress.proofs.Names.{course_in, stored_in, queues, phase_at, phase_if, phase_on}
use Rattle.lk_progress.proofs.Names.{snapshot, ShowsAll, world, is_rw_name, spin_part, led, World}
use Rattle.lk_progress.proofs.Names.{same_changed_all, top_live}
use Rattle.lk_names.specs.{History.no_history, declared.names.Kind.Kind}
use Rattle.lk_names.specs.declared.names.Kind.TheVariants.{Rw}
use Rattle.lk_rows.specs.{Machine.frame_at, Moves.rw_name}
use Rattle.lk_law.specs.{Phase.pends, SoundWorld.is_rw}
use Rattle.lk_progress.proofs.{Acted.{Acted, Idles, Makes, Comes, acted}, Moves.{Moves, Settles}}
use Rattle.lk_progress.proofs.{Rows.{Put, row_moves}, Told.{ToldRow, SaysSo, told_says}}
use Rattle.lk_progress.proofs.Watching.{turns, nobody_watches_anew}
use Rattle.lk_progress.specs.{InTurn.{WatchesNot, NobodyWatches}, Turns.is_watching}

-- no operation begins at such a row
pub first_not_watching : (mode : Mode) (v : Verb) → is_watching (first_place mode v) ≡ false
first_not_watching Virt Unlock = refl
first_not_watching Native Unlock = refl
first_not_watching Cna Unlock = refl
first_not_watching Pv Unlock = refl
first_not_watching mode Lock = refl
first_not_watching mode Try = refl
first_not_watching mode Read = refl
first_not_watching mode Write = refl
first_not_watching mode TryRead = refl
first_not_watching mode TryWrite = refl
first_not_watching mode RUnlock = refl
first_not_watching mode WUnlock = refl

settled_not : (l : LockName) (mode : Mode) (h : Frame) (o : Option Frame) → Settles mode h o → (g : Frame) → o ≡ Some g
    → WatchesNot l g
settled_not l mode h o (inl e) g q = λ c p k. absurd (let z : None ≡ Some g = sym e ∙ q in cc z)
settled_not l mode h o (inr (inl e)) g q = λ c p k.
    (let z : Some (record h { place = None }) ≡ Some g = sym e.0 ∙ q in
    let y : record h { place = None } ≡ g = cc z in
    absurd (let x : None ≡ Some c = ap (λ (f : Frame). f.place) y ∙ p in cc x))
settled_not l mode h o (inr (inr v)) g q = λ c p k.
    (let z : Some (started mode h v.0) ≡ Some g = sym v.1 ∙ q in
    let y : started mode h v.0 ≡ g = cc z in
    let x : Some (first_place mode v.0.verb) ≡ Some c = ap (λ (f : Frame). f.place) y ∙ p in
    let i : first_place mode v.0.verb ≡ c = cc x in
    subst (λ (d : Pc). is_watching d ≡ false) i (first_not_watching mode v.0.verb))

-- a row that leads there leaves its frame the lock
led_lock : (f : Frame) (lead : Lead) (c : Pc) → (led f lead).place ≡ Some c → is_watching c ≡ true
    → (led f lead).lock ≡ f.lock
led_lock f (Goes d cs) c p q = (same_changed_all f cs).lock
led_lock f (Yields d cs) c p q = (same_changed_all f cs).lock
led_lock f (Enters me d) c p q = refl
led_lock f Granted c p q = refl
led_lock f Freed c p q = refl
led_lock f Missed c p q = refl
led_lock f Done c p q = refl
led_lock f Leaves c p q = refl
led_lock f (TakesWait d) c p q =
    absurd (let z : Some F1 ≡ Some c = p in let y : F1 ≡ c = cc z in let x = ap is_watching y in cc (x, q))

pends_watching : (c : Pc) (b : Bool) (x y : NodeName) → is_watching c ≡ true → pends (phase_at c b x y) ≡ true
pends_watching P3 b x y e = refl
pends_watching P4 b x y e = refl
pends_watching _ b x y e = cc e

is_rw_true : (k : Kind) → is_rw k ≡ true → k ≡ Rw
is_rw_true Rw e = refl
is_rw_true Spin e = cc e

module _ (m : Machine) (hs : LockName → LockHistory) (shows : ShowsAll m hs) (l : LockName) where
  -- where somebody stands in a queue the lock is a spinlock, or a wait lock
  pub unshared_by : (is_rw ((world m).kind l.index) ≡ true → l ≡ rw_name l.index → ⊥) → is_rw_name (world m).kind l ≡ false
  unshared_by never = not-true (is_rw_name (world m).kind l) (λ e.
      let p : (l.wait ≡ false) × (is_rw ((world m).kind l.index) ≡ true) = grind (arith, e, cases_Bool l.wait) in
      never p.1 (λ i. record { index = l.index; wait = p.0 i }))

  pub not_shared : (i : ℕ) (u : Waiter) → slice_get (hs l).main i ≡ Some u → is_rw_name (world m).kind l ≡ false
  not_shared i u at = unshared_by (λ k name.
      let none : (hs l).main ≡ [] = ap (λ (k : LockName). (hs k).main) name
      ∙ (shows.world.rws l.index (is_rw_true ((world m).kind l.index) k)).main in
      let z : None ≡ Some u = sym (ap (λ (ws : List Waiter). slice_get ws i) none) ∙ at in cc z)

  pub not_shared_aside : (i : ℕ) (u : Waiter) → slice_get (hs l).second i ≡ Some u → is_rw_name (world m).kind l ≡ false
  not_shared_aside i u at = unshared_by (λ k name.
      let none : (hs l).second ≡ [] = ap (λ (k : LockName). (hs k).second) name
      ∙ (shows.world.rws l.index (is_rw_true ((world m).kind l.index) k)).second in
      let z : None ≡ Some u = sym (ap (λ (ws : List Waiter). slice_get ws i) none) ∙ at in cc z)

  pub spin_lock : is_rw_name (world m).kind l ≡ false → LockAgrees (snapshot (world m)) (hs l) l
  spin_lock e =
      subst (λ (h : LockHistory). LockAgrees (snapshot (world m)) h l)
      (if-false (is_rw_name (world m).kind l) no_history (hs l) e) (shows.world.spins.agrees.locks l)

  module _ (awake : halts m.setup.mode ≡ false) (unshared : is_rw_name (world m).kind l ≡ false)
      (z : Waiter) (standing : queues ((snapshot (world m)).phase l z) ≡ true) where
    agrees : LockAgrees (snapshot (world m)) (hs l) l
    agrees = spin_lock unshared

    tailed : ((world m).word l).tail ≡ None → ⊥
    tailed e = lists_none agrees.lists e z standing

    -- a row
    module _ (p : ℕ) (range : p < length m.cpus) (c : Pc) (place : (top_frame m p).place ≡ Some c) where
      abbrev w : Waiter
      w = top_of m p

      abbrev f : Frame
      f = top_frame m p

      abbrev k : Machine
      k = (row m p).0

      abbrev d : Frame
      d = led f (course_in (world m) w f c (target c f)).leads

      live : frame_at m w ≡ Some f
      live = top_live m p hs shows range

      unhalting : may_halt c ≡ false
      unhalting = not-true (may_halt c)
          (λ e. let z = (shows.world.spins.registers w f live).choice.halting c place e in cc (z, awake))

      led_not : (c ≡ P3 → f.lock ≡ l → ⊥) → WatchesNot l d
      led_not at_P3 e is same = not-true (is_watching e) (λ t.
          let own : f.lock ≡ l = sym (led_lock f (course_in (world m) w f c (target c f)).leads e is t) ∙ same in
          elim (nobody_watches_anew c (world m) (spin_part (world m).kind hs) w f e shows.world.spins awake live place
          (shows.world.fits w f live).after is t) [
            | inl three ↦ at_P3 three own
            | inr none ↦ tailed (ap (λ (j : LockName). ((world m).word j).tail) (sym own) ∙ none)
          ])

      -- nobody comes there but from P3
      row_watches : (c ≡ P3 → f.lock ≡ l → ⊥) → ((u : Waiter) → u ≢ w → (g : Frame) → frame_at m u ≡ Some g → WatchesNot l g)
          → NobodyWatches (world k) l
      row_watches at_P3 others u g lu = elim (waiter_cases u w) [
        | inr ne ↦ others u ne g
            (sym (r.2.follows.frame u ∙ if-false (same_waiter u w) r.2.now (frame_at r.0 u) (same_waiter-else u w ne) ∙ r.1.frames u) ∙ lu)
        | inl same ↦
            let at : r.2.now ≡ Some g =
            sym (r.2.follows.frame w ∙ if-true (same_waiter w w) r.2.now (frame_at r.0 w) (same_waiter-self w))
            ∙ ap (frame_at k) (sym same) ∙ lu in
            elim r.2.turned [
              | inl t ↦ (let q : Some d ≡ Some g = sym t.0 ∙ at in let y : d ≡ g = cc q in subst (WatchesNot l) y (led_not at_P3))
              | inr t ↦ settled_not l r.0.setup.mode t.1.0 r.2.now t.1.4 g at
            ]
      ]
        where
          r : (n : Machine) × Put m n (stored_in (world m) w f c (target c f)) × Moves n w f d k
          r = row_moves m p hs shows range f c live place (shows.world.fits w f live).after

      -- the waiter that has set pending is the only one
      pub late_over : c ≡ P4 → f.lock ≡ l → NobodyWatches (world k) l
      late_over four own = row_watches (λ three. let z : P4 ≡ P3 = sym four ∙ three in cc z)
          (λ u ne g lu e is same. not-true (is_watching e) (λ t.
          ne (agrees.pend.one u w (pending u g e lu is same t)
          (pending w f c live place own (ap is_watching four)))))
        where
          pending : (u : Waiter) (g : Frame) (e : Pc) → frame_at m u ≡ Some g → g.place ≡ Some e → g.lock ≡ l
              → is_watching e ≡ true → pends ((snapshot (world m)).phase l u) ≡ true
          pending u g e lu is same t =
              ap pends (ap (phase_on l) lu ∙ phase_on-here l g same
              ∙ ap (λ (o : Option Pc). phase_if o (is_some g.me) (node_of g.prev) (node_of g.y)) is)
              ∙ pends_watching e (is_some g.me) (node_of g.prev) (node_of g.y) t

    -- every act
    pub act_watches : NobodyWatches (world m) l → (a : Act) → processor_of a < length m.cpus → NobodyWatches (world (next m a).0) l
    act_watches watch a range = by (acted m hs shows awake a range)
      where
        by : Acted m (next m a) → NobodyWatches (world (next m a).0) l
        by (Idles same none) = λ u g lu. watch u g (sym (same u) ∙ lu)
        by (Makes p c inside at is) =
            subst (λ (x : Answer). NobodyWatches (world x.0) l) (sym is)
            (row_watches p inside c at
            (λ three own. let z = watch (top_of m p) (top_frame m p) (top_live m p hs shows inside) c at own in
            let y = ap is_watching three in cc (z, y))
            (λ u ne g lu. watch u g lu))
        by (Comes v mode h absent settles others says) = λ u g lu. elim (waiter_cases u v) [
          | inl i ↦ settled_not l mode h (frame_at (next m a).0 v) settles g (ap (frame_at (next m a).0) (sym i) ∙ lu)
          | inr ne ↦ watch u g (sym (others u ne) ∙ lu)
        ]

-- Of the takes to come so many are by the pending bit: one at most, and none where nobody waits by it.
pub record Late (m : World) (l : LockName) (late : ℕ) : Type 0 where
  pub two : (late ≡ 0) ⊎ (late ≡ 1)
  pub calm : late ≡ 0 → NobodyWatches m l

module _ (m : Machine) (hs : LockName → LockHistory) (shows : ShowsAll m hs) (l : LockName) (awake : halts m.setup.mode ≡ false)
    (unshared : is_rw_name (world m).kind l ≡ false) (z : Waiter) (standing : queues ((snapshot (world m)).phase l z) ≡ true)
    (late : ℕ) (some : Late (world m) l late) (a : Act) (range : processor_of a < length m.cpus) where
  pub late_keeps : Late (world (next m a).0) l late
  late_keeps = record {
    two = some.two;
    calm = λ e. act_watches m hs shows l awake unshared z standing (some.calm e) a range;
  }

  -- a take past the queue is by the pending bit, and no other is to come
  pub late_less : (e : Event) (way : How) → ToldRow m a e → e.what ≡ Take l way
      → (slice_get (hs l).main 0 ≡ Some e.by → ⊥)
      → (late ≡ 1) × Late (world (next m a).0) l 0
  late_less e way r what out = elim some.two [
    | inl none ↦ absurd (let q = some.calm none (top_of m r.cpu) (top_frame m r.cpu) r.live r.place r.at own in
        let y = ap is_watching four in cc (q, y))
    | inr one ↦ (
      one,
      record {
        two = inl refl;
        calm = λ x. subst (λ (y : Answer). NobodyWatches (world y.0) l) (sym r.is)
            (late_over m hs shows l awake unshared z standing r.cpu r.range r.place r.at four own);
      },
    )
  ]
    where
      so : SaysSo (word_at m (top_frame m r.cpu).lock) (top_frame m r.cpu) r.place (Take l way)
      so = told_says m a e r (Take l way) what (λ k v i q. cc q)

      own : (top_frame m r.cpu).lock ≡ l
      own = sym so.0

      turn : (slice_get (spin_part (world m).kind hs (top_frame m r.cpu).lock).main 0 ≡ Some (top_of m r.cpu)) ⊎ (r.place ≡ P4)
      turn = turns (world m) (spin_part (world m).kind hs) (top_of m r.cpu) z (top_frame m r.cpu) shows.world.spins r.live
          (ap (λ (j : LockName). queues ((snapshot (world m)).phase j z)) own ∙ standing) r.place way r.at
          (subst (λ (j : LockName). SaysSo (word_at m (top_frame m r.cpu).lock) (top_frame m r.cpu) r.place (Take j way)) (sym own) so)

      part : spin_part (world m).kind hs (top_frame m r.cpu).lock ≡ hs l
      part = ap (spin_part (world m).kind hs) own ∙ if-false (is_rw_name (world m).kind l) no_history (hs l) unshared

      four : r.place ≡ P4
      four = elim turn [
        | inr is ↦ is
        | inl front ↦ absurd (out (ap (λ (x : LockHistory). slice_get x.main 0) (sym part) ∙ front ∙ ap (λ (v : Waiter). Some v) (sym r.by)))
      ]
