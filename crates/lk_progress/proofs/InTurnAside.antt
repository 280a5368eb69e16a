-- How many takes of a lock a waiter sees before its own, where waiters are moved aside.
use Rattle.std.proofs.Common.{◌≡◌, ◌≢◌, inl, inr, ℕ, zero, suc, ◌<◌, ◌≤◌, ◌+◌, ◌*◌, Some, None}
use Rattle.std.proofs.Common.{true, false, List, [], ◌∷◌, ◌++◌, refl, sym, ap, ◌∙◌, subst, arith}
use Rattle.std.proofs.Common.{length, slice_get, drop, take, replicate, Contains, slice_index_or}
use Rattle.std.proofs.Common.{map}
use Rattle.lk_progress.proofs.Names.{cases_Bool, get-append_old, get-drop_one, LockHistory, changed}
use Rattle.lk_progress.proofs.Names.{history_of, InOrder, Rules, Act, Event, How, What, Arrive}
use Rattle.lk_progress.proofs.Names.{Flush, Halt, Int, Kick, Leave, Miss, Nudge, Pass, Promote}
use Rattle.lk_progress.proofs.Names.{RRelease, RTake, Release, Take, WRelease, WTake, Wake, Holder}
use Rattle.lk_progress.proofs.Names.{Spins, Spin, LockName, Mode, Waiter, next, processor_of}
use Rattle.lk_progress.proofs.Names.{Machine, at_rest, machine_after, Setup, lists_main, lists_none}
use Rattle.lk_progress.proofs.Names.{if-false, LockAgrees, halts, ShowsLawful, queues, snapshot}
use Rattle.lk_progress.proofs.Names.{world, is_rw_name, spin_part, setup_kept}
use Rattle.lk_names.proofs.ByIndex.{get-append_new, get_cases, get_past, get_within}
use Rattle.lk_names.specs.History.{no_history, lock_of, is_on, taken}
use Rattle.lk_names.specs.Lawful.{IsOutside, IsLawful}
use Rattle.lk_abs.proofs.OneMore.{told_here, told_elsewhere, allowed_from_lawful, counts_fit}
use Rattle.lk_abs.proofs.Sameness.{is_on-true, is_on-from}
use Rattle.lk_abs.specs.Allowed.{IsAllowed}
use Rattle.lk_rows.specs.{Rules.rules_of, Run.{history, events_of}}
use Rattle.lk_law.proofs.{cna.Knows.passes_are_bounded, common.Families.lists_second}
use Rattle.lk_progress.proofs.AheadAside.{Sees, Costs, Heads, Queued, Next, Aside, IsOther, up}
use Rattle.lk_progress.proofs.AheadAside.{stand, others, hands, rejoins, head_takes, late_takes}
use Rattle.lk_progress.proofs.Fresh.{Fresh, moves_keep, hands_none, flushed, promoted, sole_empties}
use Rattle.lk_progress.proofs.InTurn.{Counts, few, not_take, take_is, not_yet, shows, same}
use Rattle.lk_progress.proofs.InTurn.{in_range, arrived, range_after, told_arrival, arrives}
use Rattle.lk_progress.proofs.Told.{ToldRow, told_row, told_says}
use Rattle.lk_progress.proofs.Watched.{not_shared, not_shared_aside, spin_lock, Late, late_keeps}
use Rattle.lk_progress.proofs.Watched.{late_less}
use Rattle.lk_progress.specs.InTurn.{is_take, history_after, StandsBehind, InMain, IsAside}
use Rattle.lk_progress.specs.InTurn.{FewTakesAside, FewTakesAsideFromArrival}
use Rattle.lk_names.specs.declared.events.How.TheVariants as how

-- The waiter stands in a queue, and sees at most n takes more.
record Lives (t : ℕ) (l : LockName) (w : Waiter) (m : Machine) (es : List Event) (n : ℕ) : Type 0 where
  pub late : ℕ
  pub sees : Sees (history_of l es) w (Fresh (world m) (history_of l es) l) t late n
  pub some : Late (world m) l late
  pub threshold : m.setup.threshold ≡ t

abbrev IsAwake : Mode → Type 0
IsAwake mode = halts mode ≡ false

module _ (t : ℕ) (l : LockName) (w : Waiter) (m : Machine) (es : List Event) (n : ℕ) (shows : ShowsLawful m es) (awake : IsAwake m.setup.mode)
    (now : Lives t l w m es n) (a : Act) (range : processor_of a < length m.cpus) where
  abbrev hs : LockName → LockHistory
  hs = λ k. history_of k es

  abbrev h : LockHistory
  h = history_of l es

  abbrev rules : Rules
  rules = rules_of m.setup

  abbrev k : Machine
  k = (next m a).0

  abbrev Now : Type 0
  Now = Fresh (world m) h l

  unshared : is_rw_name (world m).kind l ≡ false
  unshared = by now.sees.costs
    where
      by : Costs h w Now t now.sees.cost → is_rw_name (world m).kind l ≡ false
      by (Heads f) = not_shared m hs shows.shows l 0 w f
      by (Queued i at le) = not_shared m hs shows.shows l (suc i) w at
      by (Next i at f le) = not_shared m hs shows.shows l (suc i) w at
      by (Aside s p at q le) = not_shared_aside m hs shows.shows l s w at

  agrees : LockAgrees (snapshot (world m)) h l
  agrees = spin_lock m hs shows.shows l unshared

  standing : queues ((snapshot (world m)).phase l w) ≡ true
  standing = by now.sees.costs
    where
      by : Costs h w Now t now.sees.cost → queues ((snapshot (world m)).phase l w) ≡ true
      by (Heads f) = lists_main agrees.lists 0 w f
      by (Queued i at le) = lists_main agrees.lists (suc i) w at
      by (Next i at f le) = lists_main agrees.lists (suc i) w at
      by (Aside s p at q le) = lists_second agrees.lists s w at

  counted : length h.passes ≡ length h.second
  counted = sym (counts_fit rules es shows.lawful.ordered l)

  late_after : Late (world k) l now.late
  late_after = late_keeps m hs shows.shows l awake unshared w standing now.late now.some a range

  threshold_after : k.setup.threshold ≡ t
  threshold_after = ap (λ (s : Setup). s.threshold) (setup_kept m a) ∙ now.threshold

  -- the head still moves nobody
  keeps : (x : LockHistory) → ((v : Waiter) → slice_get h.main 0 ≡ Some v → slice_get x.main 0 ≡ Some v)
      → ((e : Event) → (next m a).1 ≡ Some e → (v : Waiter) (i : ℕ) → e.what ≢ Pass l v i)
      → Now → Fresh (world k) x l
  keeps x front never f =
      record { by = f.by; front = front f.by f.front; moves = moves_keep m hs shows.shows awake l f.by f.moves a range never }

  -- nothing is told
  lives_on : (next m a).1 ≡ None → Lives t l w k es n
  lives_on none = record {
    late = now.late;
    sees = stand rules h w w Now t now.late n agrees.holder agrees.holders counted now.sees (Fresh (world k) h l)
        (keeps h (λ v e. e) (λ e told. absurd (let z : None ≡ Some e = sym none ∙ told in cc z))) h refl refl (λ i v e. e) refl;
    some = late_after;
    threshold = threshold_after;
  }

  module _ (e : Event) (told : (next m a).1 ≡ Some e) (after : ShowsLawful k (es ++ e ∷ [])) where
    abbrev x : LockHistory
    x = history_of l (es ++ e ∷ [])

    agrees_after : LockAgrees (snapshot (world k)) x l
    agrees_after =
        spin_lock k (λ j. history_of j (es ++ e ∷ [])) after.shows l
        (ap (λ (s : Setup). is_rw_name (λ i. slice_index_or s.locks.items i Spin) l) (setup_kept m a) ∙ unshared)

    abbrev joined : List Holder
    joined = h.holders ++ record { waiter = e.by; manner = Spins } ∷ []

    lawful : IsLawful rules (es ++ e ∷ [])
    lawful = subst (λ (s : Setup). IsLawful (rules_of s) (es ++ e ∷ [])) (setup_kept m a) after.lawful

    -- the event is another
    same_event : (f : Event) → (next m a).1 ≡ Some f → f ≡ e
    same_event f q = (let z : Some f ≡ Some e = sym q ∙ told in cc z)

    module _ (named : lock_of e.what ≡ Some l) where
      here : x ≡ changed h e.by e.what
      here = told_here l es e named

      ok : IsAllowed rules h e.by e.what
      ok = allowed_from_lawful rules es e lawful l named

      r : ToldRow m a e
      r = told_row m hs shows.shows awake a range e told
          (λ q. let z : None ≡ Some l = ap lock_of (sym q) ∙ named in cc z)

      kept_first : (ws second : List Waiter) (v : Waiter) → slice_get ws 0 ≡ Some v
          → slice_get (take 1 ws ++ (second ++ drop 1 ws)) 0 ≡ Some v
      kept_first [] second v q = cc q
      kept_first (y ∷ ws) second v q = q

      -- each count of handoffs is at most the threshold
      bounded : (v : Waiter) (i : ℕ) → e.what ≡ Pass l v i → (j q : ℕ)
          → slice_get (map (λ n. suc n) (h.passes ++ replicate i 0)) j ≡ Some q → q ≤ t
      bounded v i is j q at =
          subst (λ (z : ℕ). q ≤ z) threshold_after
          (passes_are_bounded (world k) (spin_part (world k).kind (λ y. history_of y (es ++ e ∷ []))) l after.shows.world.spins j q
          (ap (λ (y : LockHistory). slice_get y.passes j)
          (if-false (is_rw_name (world k).kind l) no_history x
          (ap (λ (s : Setup). is_rw_name (λ i. slice_index_or s.locks.items i Spin) l) (setup_kept m a) ∙ unshared)
          ∙ here ∙ ap (changed h e.by) is) ∙ at))

      abbrev After : Type 0
      After = Fresh (world k) x l

      -- another event of this lock
      seen_other : IsOther e.what → (fresh : Now → After) → Sees x w After t now.late n
      seen_other other fresh =
          subst (λ (y : LockHistory). Sees y w After t now.late n) (sym here)
          (others rules h e.by w Now t now.late n agrees.holder agrees.holders counted now.sees After fresh e.what agrees_after.holder
          other ok.ordered ok.owned (ap (λ (y : LockHistory). y.holders) (sym here) ∙ agrees_after.holders))

      fresh_other : ((v : Waiter) (i : ℕ) → e.what ≢ Pass l v i)
          → ((v : Waiter) → slice_get h.main 0 ≡ Some v → slice_get x.main 0 ≡ Some v) → Now → After
      fresh_other never front = keeps x front (λ f q v i is. never v i (ap (λ (y : Event). y.what) (sym (same_event f q)) ∙ is))

      mains : {what : What} → e.what ≡ what → (changed h e.by e.what).main ≡ (changed h e.by what).main
      mains is = ap (λ (y : What). (changed h e.by y).main) is

      -- another that leaves the main queue
      seen_same : IsOther e.what → ((v : Waiter) (i : ℕ) → e.what ≢ Pass l v i) → (changed h e.by e.what).main ≡ h.main
          → Sees x w After t now.late n
      seen_same other never main =
          seen_other other (fresh_other never
          (λ v f. ap (λ (y : LockHistory). slice_get y.main 0) here ∙ ap (λ (ws : List Waiter). slice_get ws 0) main ∙ f))

      seen_here : (what : What) → e.what ≡ what → is_take l e.what ≡ false → Sees x w After t now.late n
      seen_here (Take k way) is off = absurd (not_take l e.what off named k way is)
      seen_here (Pass k v i) is off =
          let lock : k ≡ l = (let z : Some k ≡ Some l = ap lock_of (sym is) ∙ named in cc z) in
          let is_l : e.what ≡ Pass l v i = is ∙ ap (λ (j : LockName). Pass j v i) lock in
          let order : InOrder rules h e.by (Pass l v i) = subst (InOrder rules h e.by) is_l ok.ordered in
          subst (λ (y : LockHistory). Sees y w After t now.late n) (sym (here ∙ ap (changed h e.by) is_l))
          (hands rules h e.by w Now t now.late n agrees.holder agrees.holders counted now.sees After i
          (λ f. hands_none m hs shows.shows awake l f.by f.moves a e r
          (let z : Some e.by ≡ Some f.by = sym order.0 ∙ f.front in cc z) v i is_l)
          order.0 order.1 (bounded v i is_l) v order.3)
      seen_here (Flush k) is off =
          let lock : k ≡ l = (let z : Some k ≡ Some l = ap lock_of (sym is) ∙ named in cc z) in
          let is_l : e.what ≡ Flush l = is ∙ ap (λ (j : LockName). Flush j) lock in
          let order : InOrder rules h e.by (Flush l) = subst (InOrder rules h e.by) is_l ok.ordered in
          let at = here ∙ ap (changed h e.by) is_l in
          subst (λ (y : LockHistory). Sees y w After t now.late n) (sym at)
          (rejoins rules h e.by w Now t now.late n agrees.holder agrees.holders counted now.sees After
          (record {
            by = e.by;
            front = ap (λ (y : LockHistory). slice_get y.main 0) at ∙ kept_first h.main h.second e.by order.0;
            moves = flushed m hs shows.shows awake l a e r is_l;
          }) order.0 order.1)
      seen_here (Promote k) is off =
          let lock : k ≡ l = (let z : Some k ≡ Some l = ap lock_of (sym is) ∙ named in cc z) in
          let is_l : e.what ≡ Promote l = is ∙ ap (λ (j : LockName). Promote j) lock in
          let order : InOrder rules h e.by (Promote l) = subst (InOrder rules h e.by) is_l ok.ordered in
          let at = here ∙ ap (changed h e.by) is_l in
          subst (λ (y : LockHistory). Sees y w After t now.late n) (sym at)
          (rejoins rules h e.by w Now t now.late n agrees.holder agrees.holders counted now.sees After
          (record {
            by = e.by;
            front = ap (λ (y : LockHistory). slice_get y.main 0) at ∙ kept_first h.main h.second e.by order.0;
            moves = promoted m hs shows.shows awake l a e r is_l;
          }) order.0 order.1)
      seen_here (Leave k) is off = absurd (told_says m a e r (Leave k) is (λ j v i q. cc q))
      seen_here (Arrive k) is off =
          seen_other (subst IsOther (sym is) tt) (fresh_other (λ v i q. let z = sym is ∙ q in cc z)
          (λ v f. ap (λ (y : LockHistory). slice_get y.main 0) (here ∙ ap (changed h e.by) is)
          ∙ get-append_old h.main e.by 0 v f))
      seen_here (Release k owing) is off = seen_same (subst IsOther (sym is) tt) (λ v i q. let z = sym is ∙ q in cc z) (mains is)
      seen_here (Miss k) is off = seen_same (subst IsOther (sym is) tt) (λ v i q. let z = sym is ∙ q in cc z) (mains is)
      seen_here (Kick p) is off = seen_same (subst IsOther (sym is) tt) (λ v i q. let z = sym is ∙ q in cc z) (mains is)
      seen_here (Halt k) is off = seen_same (subst IsOther (sym is) tt) (λ v i q. let z = sym is ∙ q in cc z) (mains is)
      seen_here (Wake k) is off = seen_same (subst IsOther (sym is) tt) (λ v i q. let z = sym is ∙ q in cc z) (mains is)
      seen_here Int is off = seen_same (subst IsOther (sym is) tt) (λ v i q. let z = sym is ∙ q in cc z) (mains is)
      seen_here Nudge is off = seen_same (subst IsOther (sym is) tt) (λ v i q. let z = sym is ∙ q in cc z) (mains is)
      seen_here (RTake k way) is off = seen_same (subst IsOther (sym is) tt) (λ v i q. let z = sym is ∙ q in cc z) (mains is)
      seen_here (RRelease k) is off = seen_same (subst IsOther (sym is) tt) (λ v i q. let z = sym is ∙ q in cc z) (mains is)
      seen_here (WTake k way) is off = seen_same (subst IsOther (sym is) tt) (λ v i q. let z = sym is ∙ q in cc z) (mains is)
      seen_here (WRelease k) is off = seen_same (subst IsOther (sym is) tt) (λ v i q. let z = sym is ∙ q in cc z) (mains is)

    -- no take
    lives_past : is_take l e.what ≡ false → Lives t l w k (es ++ e ∷ []) n
    lives_past off = record { late = now.late; sees = seen; some = late_after; threshold = threshold_after }
      where
        seen : Sees x w (Fresh (world k) x l) t now.late n
        seen = elim (cases_Bool (is_on l (lock_of e.what))) [
          | inl on ↦ seen_here (is_on-true l (lock_of e.what) on) e.what refl off
          | inr out ↦
              let same = told_elsewhere l es e out in
              subst (λ (y : LockHistory). Sees y w (Fresh (world k) x l) t now.late n) (sym same)
              (stand rules h w w Now t now.late n agrees.holder agrees.holders counted now.sees (Fresh (world k) x l)
              (keeps x (λ v f. ap (λ (y : LockHistory). slice_get y.main 0) same ∙ f)
              (λ f q v i is. let on : is_on l (lock_of e.what) ≡ true =
              is_on-from l (lock_of e.what) (ap (λ (y : Event). lock_of y.what) (sym (same_event f q)) ∙ ap lock_of is) in cc (on, out)))
              h refl refl (λ i v e. e) refl)
        ]

    -- a take by another
    lives_less : is_take l e.what ≡ true → e.by ≢ w → (j : ℕ) × (n ≡ suc j) × Lives t l w k (es ++ e ∷ []) j
    lives_less takes_it ne = by taking.0 taking.1
      where
        taking : (way : How) × (e.what ≡ Take l way)
        taking = take_is l e.what takes_it

        named : lock_of e.what ≡ Some l
        named = ap lock_of taking.1

        -- the queues stay
        still : (way : How) → e.what ≡ Take l way → taken h e.by way ≡ record h { holders = joined }
            → (x ≡ record h { holders = joined }) × (Now → Fresh (world k) x l)
        still way is same =
            let at : x ≡ record h { holders = joined } = here named ∙ ap (changed h e.by) is ∙ same in (
              at,
              keeps x (λ v f. ap (λ (y : LockHistory). slice_get y.main 0) at ∙ f)
                  (λ f q v i z. let y : Take l way ≡ Pass l v i =
                  sym is ∙ ap (λ (y : Event). y.what) (sym (same_event f q)) ∙ z in cc y),
            )

        -- by the pending bit
        past : (way : How) → e.what ≡ Take l way → IsOutside h e.by → taken h e.by way ≡ record h { holders = joined }
            → (j : ℕ) × (n ≡ suc j) × Lives t l w k (es ++ e ∷ []) j
        past way is out same =
            let at = still way is same in
            let less = late_less m hs shows.shows l awake unshared w standing now.late now.some a range e way (r named) is
            (λ front. out.0 (first h.main front)) in
            let s = late_takes rules h e.by w Now t now.late n agrees.holder agrees.holders counted now.sees ne agrees_after.holder
            (ap (λ (y : LockHistory). y.holders) (sym at.0) ∙ agrees_after.holders) (Fresh (world k) x l) at.1 0 less.0 in (
              s.0,
              s.1,
              record {
                late = 0;
                sees = subst (λ (y : LockHistory). Sees y w (Fresh (world k) x l) t 0 s.0) (sym at.0) s.2;
                some = less.1;
                threshold = threshold_after;
              },
            )
          where
            first : (ws : List Waiter) → slice_get ws 0 ≡ Some e.by → Contains ws e.by
            first [] q = cc q
            first (v ∷ ws) q = (0, omega arith, (let z : v ≡ e.by = cc q in z))

        by : (way : How) → e.what ≡ Take l way → (j : ℕ) × (n ≡ suc j) × Lives t l w k (es ++ e ∷ []) j
        by how.Head is =
            let at = still how.Head is refl in
            let s = head_takes rules h e.by w Now t now.late n agrees.holder agrees.holders counted now.sees ne agrees_after.holder
            (ap (λ (y : LockHistory). y.holders) (sym at.0) ∙ agrees_after.holders) (Fresh (world k) x l) at.1
            (subst (InOrder rules h e.by) is (ok named).ordered) in (
              s.0,
              s.1,
              record {
                late = now.late;
                sees = subst (λ (y : LockHistory). Sees y w (Fresh (world k) x l) t now.late s.0) (sym at.0) s.2;
                some = late_after;
                threshold = threshold_after;
              },
            )
        by how.Sole is = absurd (stood now.sees.costs)
          where
            front : slice_get h.main 0 ≡ Some e.by
            front = subst (InOrder rules h e.by) is (ok named).ordered

            gone : x ≡ taken h e.by how.Sole
            gone = here named ∙ ap (changed h e.by) is

            nobody : (v : Waiter) → queues ((snapshot (world k)).phase l v) ≡ true → ⊥
            nobody = lists_none agrees_after.lists (sole_empties m hs shows.shows awake l a e (r named) is)

            in_main : (i : ℕ) → slice_get h.main (suc i) ≡ Some w → ⊥
            in_main i at =
                nobody w (lists_main agrees_after.lists i w
                (ap (λ (y : LockHistory). slice_get y.main i) gone ∙ get-drop_one h.main i ∙ at))

            stood : Costs h w Now t now.sees.cost → ⊥
            stood (Heads f) = ne (let z : Some e.by ≡ Some w = sym front ∙ f in cc z)
            stood (Queued i at le) = in_main i at
            stood (Next i at f le) = in_main i at
            stood (Aside s p at q le) =
                nobody w (lists_second agrees_after.lists s w (ap (λ (y : LockHistory). slice_get y.second s) gone ∙ at))
        by how.Fast is = past how.Fast is (subst (InOrder rules h e.by) is (ok named).ordered) refl
        by how.Try is = past how.Try is (subst (InOrder rules h e.by) is (ok named).ordered) refl
        by how.Pending is = past how.Pending is (subst (InOrder rules h e.by) is (ok named).ordered) refl
        by how.Virt is = past how.Virt is (subst (InOrder rules h e.by) is (ok named).ordered) refl
        by how.Retry is = past how.Retry is (subst (InOrder rules h e.by) is (ok named).ordered) refl
        by how.NoNode is = past how.NoNode is (subst (InOrder rules h e.by) is (ok named).ordered) refl
        by how.Steal is = past how.Steal is (subst (InOrder rules h e.by) is (ok named).ordered) refl

counts : (t : ℕ) (l : LockName) (w : Waiter) → Counts l w IsAwake (Lives t l w)
counts t l w = record {
  quiet = λ m es n shows awake now a range told. lives_on t l w m es n shows awake now a range told;
  past = λ m es n shows awake now a range e told after off. lives_past t l w m es n shows awake now a range e told after off;
  less = λ m es n shows awake now a range e told after takes_it ne. lives_less t l w m es n shows awake now a range e told after takes_it ne;
}

-- what a waiter costs at first
costs_first : (h : LockHistory) (w : Waiter) (fresh : Type 0) (t before : ℕ) → length h.passes ≡ length h.second
    → StandsBehind h w before → Costs h w fresh t (before * suc t)
costs_first h w fresh t before counted (InMain zero at is) = Heads at
costs_first h w fresh t before counted (InMain (suc i) at is) =
    Queued i at
    (let z : before ≡ suc (i + length h.second) = omega (arith, is) in
    let e : before * suc t ≡ suc (i + length h.second) * suc t = ap (λ (y : ℕ). y * suc t) z in omega (arith, e))
costs_first h w fresh t before counted (IsAside s at is) = elim (get_cases h.passes s) [
  | inl none ↦ absurd (let a = get_past h.passes s none in let b = get_within h.second s w at in omega (arith, a, b, counted))
  | inr some ↦
      Aside s some.0 at some.1
      (let e : before * suc t ≡ suc s * suc t = ap (λ (y : ℕ). y * suc t) (is ∙ (let z : s + 1 ≡ suc s = omega arith in z)) in
      let f : suc s * suc t ≡ suc t + s * suc t = up s (suc t) in omega (arith, e, f))
]

pub few_takes_aside : FewTakesAside
few_takes_aside setup acts more l w before ok awake range inside behind yet off =
    let le = few l w IsAwake (Lives setup.threshold l w) (counts setup.threshold l w) more 1 (before * suc setup.threshold + 1)
    (machine_after (at_rest setup) acts) (events_of (history (at_rest setup) acts)) (shows setup acts ok range)
    (subst (λ (s : Setup). IsAwake s.mode) (sym (same setup acts ok range)) awake) (in_range setup acts ok range more inside)
    (record {
      late = 1;
      sees = record {
        cost = before * suc setup.threshold;
        costs = costs_first (history_after setup acts l) w
            (Fresh (world (machine_after (at_rest setup) acts)) (history_after setup acts l) l) setup.threshold before
            (sym (counts_fit (rules_of (machine_after (at_rest setup) acts).setup) (events_of (history (at_rest setup) acts))
            (shows setup acts ok range).lawful.ordered l)) behind;
        yet = not_yet (history_after setup acts l) w yet;
        count = inl (omega arith);
      };
      some = record { two = inr refl; calm = λ e. absurd (omega (arith, e)) };
      threshold = ap (λ (s : Setup). s.threshold) (same setup acts ok range);
    }) off in
    let z : setup.threshold + 1 ≡ suc setup.threshold = omega arith in
    let e : before * (setup.threshold + 1) ≡ before * suc setup.threshold = ap (λ (y : ℕ). before * y) z in
    omega (arith, le, e)

pub few_takes_aside_from_arrival : FewTakesAsideFromArrival
few_takes_aside_from_arrival setup acts more a l w ok awake range inside told off =
    let h : LockHistory = history_after setup acts l in
    let here = told_arrival setup acts ok range a more l w inside told in
    let t : ℕ = setup.threshold in
    let same_after = setup_kept (machine_after (at_rest setup) acts) a ∙ same setup acts ok range in
    let le = few l w IsAwake (Lives setup.threshold l w) (counts setup.threshold l w) more 1
    ((length (history_after setup acts l).main + length (history_after setup acts l).second) * suc setup.threshold + 1)
    (next (machine_after (at_rest setup) acts) a).0
    (events_of (history (at_rest setup) acts) ++ record { by = w; what = Arrive l } ∷ [])
    (arrived setup acts ok range a more l w inside told)
    (subst (λ (s : Setup). IsAwake s.mode) (sym same_after) awake)
    (range_after setup acts ok range a more l w inside told)
    (record {
      late = 1;
      sees = record {
        cost = (length (history_after setup acts l).main + length (history_after setup acts l).second) * suc setup.threshold;
        costs = subst
            (λ (y : LockHistory). Costs y w (Fresh (world (next (machine_after (at_rest setup) acts) a).0)
            (history_of l (events_of (history (at_rest setup) acts) ++ record { by = w; what = Arrive l } ∷ [])) l)
            setup.threshold ((length (history_after setup acts l).main + length (history_after setup acts l).second) * suc setup.threshold))
            (sym here)
            (costs_first (changed (history_after setup acts l) w (Arrive l)) w
            (Fresh (world (next (machine_after (at_rest setup) acts) a).0)
            (history_of l (events_of (history (at_rest setup) acts) ++ record { by = w; what = Arrive l } ∷ [])) l) setup.threshold
            (length (history_after setup acts l).main + length (history_after setup acts l).second)
            (sym (counts_fit (rules_of (machine_after (at_rest setup) acts).setup) (events_of (history (at_rest setup) acts))
            (shows setup acts ok range).lawful.ordered l))
            (InMain (length (history_after setup acts l).main) (get-append_new (history_after setup acts l).main w) refl));
        yet = λ e. not_yet (history_after setup acts l) w (arrives setup acts ok range a more l w inside told).1
            (ap (λ (x : LockHistory). x.holders) (sym here) ∙ e);
        count = inl (omega arith);
      };
      some = record { two = inr refl; calm = λ e. absurd (omega (arith, e)) };
      threshold = ap (λ (s : Setup). s.threshold) same_after;
    }) off in
    let z : setup.threshold + 1 ≡ suc setup.threshold = omega arith in
    let e : (length (history_after setup acts l).main + length (history_after setup acts l).second) * (setup.threshold + 1)
    ≡ (length (history_after setup acts l).main + length (history_after setup acts l).second) * suc setup.threshold =
    ap (λ (y : ℕ). (length (history_after setup acts l).main + length (history_after setup acts l).second) * y) z in
    omega (arith, le, e)
