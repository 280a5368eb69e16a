-- How many takes of a lock a waiter of its queue sees before its own.
use Rattle.std.proofs.Common.{◌≡◌, ◌≢◌, inl, inr, ℕ, suc, ◌<◌, ◌≤◌, ◌+◌, Option, Some, None, Bool}
use Rattle.std.proofs.Common.{true, false, List, [], ◌∷◌, ◌++◌, refl, sym, ap, ◌∙◌, subst, arith}
use Rattle.std.proofs.Common.{length, slice_get, if◌then◌else◌, Contains, slice_index_or}
use Rattle.lk_progress.proofs.Names.{cases_Bool, LockHistory, changed, history_of, Holds, InOrder}
use Rattle.lk_progress.proofs.Names.{Rules, same_lock, Act, Event, How, What, Arrive, Int, Take}
use Rattle.lk_progress.proofs.Names.{Holder, Spins, Spin, LockName, Mode, Waiter, next}
use Rattle.lk_progress.proofs.Names.{processor_of, Machine, IsLawfulSetup, at_rest, machine_after}
use Rattle.lk_progress.proofs.Names.{Setup, lists_main, LockAgrees, halts, sole, moves_aside}
use Rattle.lk_progress.proofs.Names.{with_event, ShowsLawful, queues, snapshot, world, is_rw_name}
use Rattle.lk_progress.proofs.Names.{acts_keep, setup_kept}
use Rattle.lk_names.proofs.ByIndex.{get-append_new}
use Rattle.lk_names.specs.{History.{lock_of, is_on, taken}, Lawful.{IsOutside, IsLawful}}
use Rattle.lk_abs.proofs.OneMore.{told_here, told_elsewhere, allowed_from_lawful}
use Rattle.lk_abs.proofs.Sameness.{is_on-true}
use Rattle.lk_abs.specs.Allowed.{IsAllowed}
use Rattle.lk_rows.specs.Rules.{rules_of}
use Rattle.lk_rows.specs.Run.{history, history_from, events_of, occurs, Occurrence}
use Rattle.lk_law.proofs.common.Sames.{same_lock-self, same_lock-true}
use Rattle.lk_law.specs.MachineLaws.{AreInRange}
use Rattle.lk_core.proofs.Runs.{runs_keep}
use Rattle.lk_progress.proofs.Ahead.{Sees, holds_sole, others, head_takes, sole_takes, late_takes}
use Rattle.lk_progress.proofs.Told.{ToldRow, told_row}
use Rattle.lk_progress.proofs.Watched.{not_shared, spin_lock, Late, late_keeps, late_less}
use Rattle.lk_progress.specs.InTurn.{is_take, takes, TakesNot, IsWaiting, history_after}
use Rattle.lk_progress.specs.InTurn.{FewTakesBefore, FewerUnwatched, FewTakesFromArrival}
use Rattle.lk_names.specs.declared.events.How.TheVariants as how

-- What each act has to keep: of a state in which a waiter sees at most n takes more before its own, one is
-- made in which it sees no more, and behind a take by another fewer.
pub record Counts (l : LockName) (w : Waiter) (F : Mode → Type 0) (P : Machine → List Event → ℕ → Type 0) : Type 0 where
  pub quiet : (m : Machine) (es : List Event) (n : ℕ)
      → ShowsLawful m es
      → F m.setup.mode
      → P m es n
      → (a : Act)
      → processor_of a < length m.cpus
      → (next m a).1 ≡ None
      → P (next m a).0 es n
  pub past : (m : Machine) (es : List Event) (n : ℕ)
      → ShowsLawful m es
      → F m.setup.mode
      → P m es n
      → (a : Act)
      → processor_of a < length m.cpus
      → (e : Event)
      → (next m a).1 ≡ Some e
      → ShowsLawful (next m a).0 (es ++ e ∷ [])
      → is_take l e.what ≡ false
      → P (next m a).0 (es ++ e ∷ []) n
  pub less : (m : Machine) (es : List Event) (n : ℕ)
      → ShowsLawful m es
      → F m.setup.mode
      → P m es n
      → (a : Act)
      → processor_of a < length m.cpus
      → (e : Event)
      → (next m a).1 ≡ Some e
      → ShowsLawful (next m a).0 (es ++ e ∷ [])
      → is_take l e.what ≡ true
      → e.by ≢ w
      → (j : ℕ) × (n ≡ suc j) × P (next m a).0 (es ++ e ∷ []) j

-- one act, and then the others
module _ (l : LockName) (w : Waiter) (F : Mode → Type 0) (P : Machine → List Event → ℕ → Type 0) (steps : Counts l w F P)
    (a : Act) (acts : List Act) (i n : ℕ) (m : Machine) (es : List Event) (shows : ShowsLawful m es) (fits : F m.setup.mode)
    (range : AreInRange (length m.cpus) (a ∷ acts)) (now : P m es n) where
  abbrev next_one : Machine
  next_one = (next m a).0

  abbrev rest : List Occurrence
  rest = history_from (suc i) (next m a).0 acts

  after : (o : Option Event) → (next m a).1 ≡ o → ShowsLawful next_one (with_event es o)
  after o e = subst (λ (x : Option Event). ShowsLawful next_one (with_event es x)) e (acts_keep m es a range.0 shows)

  inside : AreInRange (length (next m a).0.cpus) acts
  inside =
      subst (λ (i : ℕ). AreInRange i acts)
      (shows.shows.whole.cpus ∙ ap (λ (s : Setup). length s.topology.sockets.items) (sym (setup_kept m a))
      ∙ sym (after (next m a).1 refl).shows.whole.cpus) range.1

  one_act : ((j : ℕ) (fs : List Event) → ShowsLawful next_one fs → F (next m a).0.setup.mode → AreInRange (length (next m a).0.cpus) acts
      → P next_one fs j → TakesNot l w (events_of rest) → takes l (events_of rest) ≤ j)
      → (o : Option Event) → (next m a).1 ≡ o → TakesNot l w (events_of (occurs i (next m a).1 ++ rest))
      → takes l (events_of (occurs i (next m a).1 ++ rest)) ≤ n
  one_act others None e off =
      subst (λ (x : Option Event). takes l (events_of (occurs i x ++ rest)) ≤ n) (sym e)
      (others n es (after None e) (subst (λ (s : Setup). F s.mode) (sym (setup_kept m a)) fits) inside
      (steps.quiet m es n shows fits now a range.0 e)
      (subst (λ (x : Option Event). TakesNot l w (events_of (occurs i x ++ rest))) e off))
  one_act others (Some v) e off =
      subst (λ (x : Option Event). takes l (events_of (occurs i x ++ rest)) ≤ n) (sym e)
      (elim (cases_Bool (is_take l v.what)) [
        | inr never ↦
            let le = others n (es ++ v ∷ []) (after (Some v) e) (subst (λ (s : Setup). F s.mode) (sym (setup_kept m a)) fits) inside
            (steps.past m es n shows fits now a range.0 v e (after (Some v) e) never) off_now.1 in
            let sum : takes l (events_of (occurs i (Some v) ++ rest)) ≡ (if is_take l v.what then 1 else 0) + takes l (events_of rest) = refl in
            let z : ◌≡◌ {A = ℕ} (if is_take l v.what then 1 else 0) 0 = ap (λ (b : Bool). if b then 1 else 0) never in
            omega (arith, le, z, sum)
        | inl takes_it ↦
            let s = steps.less m es n shows fits now a range.0 v e (after (Some v) e) takes_it (off_now.0 takes_it) in
            let le = others s.0 (es ++ v ∷ []) (after (Some v) e) (subst (λ (s : Setup). F s.mode) (sym (setup_kept m a)) fits) inside
            s.2 off_now.1 in
            let sum : takes l (events_of (occurs i (Some v) ++ rest)) ≡ (if is_take l v.what then 1 else 0) + takes l (events_of rest) = refl in
            let z : ◌≡◌ {A = ℕ} (if is_take l v.what then 1 else 0) 1 = ap (λ (b : Bool). if b then 1 else 0) takes_it in
            let q = s.1 in
            omega (arith, le, z, q, sum)
      ])
    where
      off_now : TakesNot l w (v ∷ events_of rest)
      off_now = subst (λ (x : Option Event). TakesNot l w (events_of (occurs i x ++ rest))) e off

-- every run
pub few : (l : LockName) (w : Waiter) (F : Mode → Type 0) (P : Machine → List Event → ℕ → Type 0) → Counts l w F P
    → (acts : List Act) (i n : ℕ) (m : Machine) (es : List Event) → ShowsLawful m es
    → F m.setup.mode → AreInRange (length m.cpus) acts
    → P m es n → TakesNot l w (events_of (history_from i m acts))
    → takes l (events_of (history_from i m acts)) ≤ n
few l w F P steps [] i n m es shows fits range now off =
    let z : takes l (events_of (history_from i m [])) ≡ 0 = refl in omega (arith, z)
few l w F P steps (a ∷ acts) i n m es shows fits range now off =
    one_act l w F P steps a acts i n m es shows fits range now
    (λ j fs shown fit inside p not. few l w F P steps acts (suc i) j (next m a).0 fs shown fit inside p not)
    (next m a).1 refl off

-- an event that takes no spinlock is no take
pub not_take : (l : LockName) (what : What) → is_take l what ≡ false → lock_of what ≡ Some l → (k : LockName) (way : How) → what ≢ Take k way
not_take l what off on k way e =
    let same : k ≡ l = (let z : Some k ≡ Some l = ap lock_of (sym e) ∙ on in cc z) in
    let z : same_lock k l ≡ false = ap (is_take l) (sym e) ∙ off in
    let y : same_lock k l ≡ true = ap (λ (j : LockName). same_lock j l) same ∙ same_lock-self l in
    cc (z, y)

-- a take of the lock, in some way
pub take_is : (l : LockName) (what : What) → is_take l what ≡ true → (way : How) × (what ≡ Take l way)
take_is l (Take k way) e = (way, ap (λ (j : LockName). Take j way) (same_lock-true k l e))
take_is l _ e = cc e

-- In the families that move nobody aside: the waiter stands in the queue, and sees at most n takes more.
record Lives (l : LockName) (w : Waiter) (m : Machine) (es : List Event) (n : ℕ) : Type 0 where
  pub late : ℕ
  pub sees : Sees (history_of l es) w late n
  pub some : Late (world m) l late

abbrev IsFlat : Mode → Type 0
IsFlat mode = (halts mode ≡ false) × (moves_aside mode ≡ false)

module _ (l : LockName) (w : Waiter) (m : Machine) (es : List Event) (n : ℕ) (shows : ShowsLawful m es) (flat : IsFlat m.setup.mode)
    (now : Lives l w m es n) (a : Act) (range : processor_of a < length m.cpus) where
  abbrev hs : LockName → LockHistory
  hs = λ k. history_of k es

  abbrev h : LockHistory
  h = history_of l es

  abbrev rules : Rules
  rules = rules_of m.setup

  abbrev k : Machine
  k = (next m a).0

  unshared : is_rw_name (world m).kind l ≡ false
  unshared = not_shared m hs shows.shows l now.sees.before w now.sees.place

  agrees : LockAgrees (snapshot (world m)) h l
  agrees = spin_lock m hs shows.shows l unshared

  single : h.second ≡ []
  single = (agrees.lists.flat flat.1).single

  standing : queues ((snapshot (world m)).phase l w) ≡ true
  standing = lists_main agrees.lists now.sees.before w now.sees.place

  late_after : Late (world k) l now.late
  late_after = late_keeps m hs shows.shows l flat.0 unshared w standing now.late now.some a range

  -- nothing is told
  lives_on : Lives l w k es n
  lives_on = record { late = now.late; sees = now.sees; some = late_after }

  module _ (e : Event) (told : (next m a).1 ≡ Some e) (after : ShowsLawful k (es ++ e ∷ [])) where
    -- the holders after the event
    holds_after : (x : Option Waiter) × ((history_of l (es ++ e ∷ [])).holders ≡ sole x)
    holds_after =
        let kind : is_rw_name (world k).kind l ≡ false =
        ap (λ (s : Setup). is_rw_name (λ i. slice_index_or s.locks.items i Spin) l) (setup_kept m a) ∙ unshared in
        let z = spin_lock k (λ j. history_of j (es ++ e ∷ [])) after.shows l kind in
        (z.holder, z.holders)

    abbrev joined : List Holder
    joined = h.holders ++ record { waiter = e.by; manner = Spins } ∷ []

    lawful : IsLawful rules (es ++ e ∷ [])
    lawful = subst (λ (s : Setup). IsLawful (rules_of s) (es ++ e ∷ [])) (setup_kept m a) after.lawful

    -- another event
    lives_past : is_take l e.what ≡ false → Lives l w k (es ++ e ∷ []) n
    lives_past off = record { late = now.late; sees = seen; some = late_after }
      where
        seen : Sees (history_of l (es ++ e ∷ [])) w now.late n
        seen = elim (cases_Bool (is_on l (lock_of e.what))) [
          | inr out ↦ subst (λ (x : LockHistory). Sees x w now.late n) (sym (told_elsewhere l es e out)) now.sees
          | inl on ↦
              let named = is_on-true l (lock_of e.what) on in
              let here = told_here l es e named in
              let ok : IsAllowed rules h e.by e.what = allowed_from_lawful rules es e lawful l named in
              subst (λ (x : LockHistory). Sees x w now.late n) (sym here)
              (others rules h e.by w now.late n flat.1 agrees.holder agrees.holders single now.sees e.what holds_after.0
              (not_take l e.what off named) ok.ordered ok.owned
              (ap (λ (x : LockHistory). x.holders) (sym here) ∙ holds_after.1))
        ]

    -- a take by another
    lives_less : is_take l e.what ≡ true → e.by ≢ w → (j : ℕ) × (n ≡ suc j) × Lives l w k (es ++ e ∷ []) j
    lives_less t ne = by taking.0 taking.1
      where
        taking : (way : How) × (e.what ≡ Take l way)
        taking = take_is l e.what t

        named : lock_of e.what ≡ Some l
        named = ap lock_of taking.1

        ok : IsAllowed rules h e.by e.what
        ok = allowed_from_lawful rules es e lawful l named

        r : ToldRow m a e
        r = told_row m hs shows.shows flat.0 a range e told (λ q. let z : Int ≡ Take l taking.0 = sym q ∙ taking.1 in cc z)

        -- by the pending bit
        past : (way : How) → e.what ≡ Take l way → IsOutside h e.by → taken h e.by way ≡ record h { holders = joined }
            → (j : ℕ) × (n ≡ suc j) × Lives l w k (es ++ e ∷ []) j
        past way is out same =
            let here : history_of l (es ++ e ∷ []) ≡ record h { holders = joined } =
            told_here l es e named ∙ ap (changed h e.by) is ∙ same in
            let less = late_less m hs shows.shows l flat.0 unshared w standing now.late now.some a range e way r is
            (λ front. out.0 (first h.main front)) in
            let s = late_takes rules h e.by w now.late n flat.1 agrees.holder agrees.holders single now.sees ne holds_after.0
            (ap (λ (x : LockHistory). x.holders) (sym here) ∙ holds_after.1) 0 less.0 in (
              s.0,
              s.1,
              record { late = 0; sees = subst (λ (x : LockHistory). Sees x w 0 s.0) (sym here) s.2; some = less.1 },
            )
          where
            first : (ws : List Waiter) → slice_get ws 0 ≡ Some e.by → Contains ws e.by
            first [] q = cc q
            first (v ∷ ws) q = (0, omega arith, (let z : v ≡ e.by = cc q in z))

        by : (way : How) → e.what ≡ Take l way → (j : ℕ) × (n ≡ suc j) × Lives l w k (es ++ e ∷ []) j
        by how.Head is =
            let here : history_of l (es ++ e ∷ []) ≡ taken h e.by how.Head = told_here l es e named ∙ ap (changed h e.by) is in
            let s = head_takes rules h e.by w now.late n flat.1 agrees.holder agrees.holders single now.sees ne holds_after.0
            (ap (λ (x : LockHistory). x.holders) (sym here) ∙ holds_after.1) (subst (InOrder rules h e.by) is ok.ordered) in (
              s.0,
              s.1,
              record { late = now.late; sees = subst (λ (x : LockHistory). Sees x w now.late s.0) (sym here) s.2; some = late_after },
            )
        by how.Sole is =
            let here : history_of l (es ++ e ∷ []) ≡ taken h e.by how.Sole = told_here l es e named ∙ ap (changed h e.by) is in
            let s = sole_takes rules h e.by w now.late n flat.1 agrees.holder agrees.holders single now.sees ne holds_after.0
            (ap (λ (x : LockHistory). x.holders) (sym here) ∙ holds_after.1) (subst (InOrder rules h e.by) is ok.ordered) in (
              s.0,
              s.1,
              record { late = now.late; sees = subst (λ (x : LockHistory). Sees x w now.late s.0) (sym here) s.2; some = late_after },
            )
        by how.Fast is = past how.Fast is (subst (InOrder rules h e.by) is ok.ordered) refl
        by how.Try is = past how.Try is (subst (InOrder rules h e.by) is ok.ordered) refl
        by how.Pending is = past how.Pending is (subst (InOrder rules h e.by) is ok.ordered) refl
        by how.Virt is = past how.Virt is (subst (InOrder rules h e.by) is ok.ordered) refl
        by how.Retry is = past how.Retry is (subst (InOrder rules h e.by) is ok.ordered) refl
        by how.NoNode is = past how.NoNode is (subst (InOrder rules h e.by) is ok.ordered) refl
        by how.Steal is = past how.Steal is (subst (InOrder rules h e.by) is ok.ordered) refl

counts : (l : LockName) (w : Waiter) → Counts l w IsFlat (Lives l w)
counts l w = record {
  quiet = λ m es n shows flat now a range told. lives_on l w m es n shows flat now a range;
  past = λ m es n shows flat now a range e told after off. lives_past l w m es n shows flat now a range e told after off;
  less = λ m es n shows flat now a range e told after t ne. lives_less l w m es n shows flat now a range e told after t ne;
}

pub setup_after : (acts : List Act) (m : Machine) → (machine_after m acts).setup ≡ m.setup
setup_after [] m = refl
setup_after (a ∷ acts) m = setup_after acts (next m a).0 ∙ setup_kept m a

pub not_yet : (h : LockHistory) (w : Waiter) → ¬ Holds h w → h.holders ≢ sole (Some w)
not_yet h w yet e = yet (Spins, holds_sole w h.holders e)

-- after the first acts
module _ (setup : Setup) (acts : List Act) (ok : IsLawfulSetup setup)
    (range : AreInRange (length setup.topology.sockets.items) acts) where
  abbrev pub m : Machine
  m = machine_after (at_rest setup) acts

  abbrev pub es : List Event
  es = events_of (history (at_rest setup) acts)

  pub shows : ShowsLawful m es
  shows = runs_keep setup acts ok range

  pub same : m.setup ≡ setup
  same = setup_after acts (at_rest setup)

  pub in_range : (more : List Act) → AreInRange (length setup.topology.sockets.items) more → AreInRange (length m.cpus) more
  in_range more r = subst (λ (i : ℕ). AreInRange i more)
      (sym (shows.shows.whole.cpus ∙ ap (λ (s : Setup). length s.topology.sockets.items) same)) r

  -- and one act more, which tells of an arrival
  module _ (a : Act) (more : List Act) (l : LockName) (w : Waiter)
      (inside : AreInRange (length setup.topology.sockets.items) (a ∷ more))
      (told : (next m a).1 ≡ Some (record { by = w; what = Arrive l })) where
    abbrev v : Event
    v = record { by = w; what = Arrive l }

    both : AreInRange (length m.cpus) (a ∷ more)
    both = in_range (a ∷ more) inside

    pub arrived : ShowsLawful (next m a).0 (es ++ v ∷ [])
    arrived = subst (λ (x : Option Event). ShowsLawful (next m a).0 (with_event es x)) told (acts_keep m es a both.0 shows)

    pub range_after : AreInRange (length (next m a).0.cpus) more
    range_after = subst (λ (i : ℕ). AreInRange i more)
        (shows.shows.whole.cpus ∙ ap (λ (s : Setup). length s.topology.sockets.items) (sym (setup_kept m a))
        ∙ sym arrived.shows.whole.cpus) both.1

    pub told_arrival : history_of l (es ++ v ∷ []) ≡ changed (history_of l es) w (Arrive l)
    told_arrival = told_here l es v refl

    pub arrives : InOrder (rules_of (next m a).0.setup) (history_of l es) w (Arrive l)
    arrives = (allowed_from_lawful (rules_of (next m a).0.setup) es v arrived.lawful l refl).ordered

from_waiting : (setup : Setup) (acts more : List Act) (l : LockName) (w : Waiter) (before late : ℕ)
    → IsLawfulSetup setup → IsFlat setup.mode
    → AreInRange (length setup.topology.sockets.items) acts → AreInRange (length setup.topology.sockets.items) more
    → IsWaiting (history_after setup acts l) w before
    → Late (world (machine_after (at_rest setup) acts)) l late
    → TakesNot l w (events_of (history (machine_after (at_rest setup) acts) more))
    → takes l (events_of (history (machine_after (at_rest setup) acts) more)) ≤ before + late
from_waiting setup acts more l w before late ok flat range inside waits some off =
    few l w IsFlat (Lives l w) (counts l w) more 1 (before + late) (machine_after (at_rest setup) acts)
    (events_of (history (at_rest setup) acts)) (shows setup acts ok range)
    (subst (λ (s : Setup). IsFlat s.mode) (sym (same setup acts ok range)) flat) (in_range setup acts ok range more inside)
    (record {
      late = late;
      sees = record {
        before = before;
        place = waits.place;
        yet = not_yet (history_after setup acts l) w waits.yet;
        count = inl (omega arith);
      };
      some = some;
    }) off

pub few_takes_before : FewTakesBefore
few_takes_before setup acts more l w before ok awake plain range inside waits off =
    from_waiting setup acts more l w before 1 ok (awake, plain) range inside waits
    (record { two = inr refl; calm = λ e. absurd (omega (arith, e)) }) off

pub fewer_unwatched : FewerUnwatched
fewer_unwatched setup acts more l w before ok awake plain range inside waits calm off =
    let le = from_waiting setup acts more l w before 0 ok (awake, plain) range inside waits
    (record { two = inl refl; calm = λ e. calm }) off in
    omega (arith, le)

pub few_takes_from_arrival : FewTakesFromArrival
few_takes_from_arrival setup acts more a l w ok awake plain range inside told off =
    let hs : LockHistory = history_after setup acts l in
    let here = told_arrival setup acts ok range a more l w inside told in
    few l w IsFlat (Lives l w) (counts l w) more 1 (length (history_after setup acts l).main + 1)
    (next (machine_after (at_rest setup) acts) a).0
    (events_of (history (at_rest setup) acts) ++ record { by = w; what = Arrive l } ∷ [])
    (arrived setup acts ok range a more l w inside told)
    (subst (λ (s : Setup). IsFlat s.mode) (sym (setup_kept (machine_after (at_rest setup) acts) a ∙ same setup acts ok range)) (awake, plain))
    (range_after setup acts ok range a more l w inside told)
    (record {
      late = 1;
      sees = record {
        before = length (history_after setup acts l).main;
        place = ap (λ (x : LockHistory). slice_get x.main (length (history_after setup acts l).main)) here
            ∙ get-append_new (history_after setup acts l).main w;
        yet = λ e. not_yet (history_after setup acts l) w (arrives setup acts ok range a more l w inside told).1
            (ap (λ (x : LockHistory). x.holders) (sym here) ∙ e);
        count = inl (omega arith);
      };
      some = record { two = inr refl; calm = λ e. absurd (omega (arith, e)) };
    }) off
