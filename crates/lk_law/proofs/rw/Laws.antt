-- The laws of the rows of readers and writers over one lock: what each does to the word, the phases
-- and the history, and that its event is allowed.
use Rattle.std.proofs.Common.{Contains, ◌≡◌, ◌≢◌, inl, inr, ℕ, zero, ◌+◌, ◌-◌, suc, Option, Some}
use Rattle.std.proofs.Common.{None, Bool, true, false, List, [], ◌∷◌, ◌++◌, slice_get, cond, arith}
use Rattle.std.proofs.Common.{ap, refl, sym, ◌∙◌}
use Rattle.std.proofs.lemmas.List.Sums.{sum_by-cons}
use Rattle.std.proofs.lemmas.Option.{slice_get_within, get_or_from_slice_get}
use Rattle.std.specs.List.{count_by}
use Rattle.lk_law.proofs.Names.{RwFields, LockHistory, with_holder, without_holder, IsShared}
use Rattle.lk_law.proofs.Names.{same_waiter, Holder, Manner, Reads, Spins, Writes, Waiter}
use Rattle.lk_law.proofs.Names.{HoldsAgree, RwAgrees, RwStep, RwPhase, announces, asks, is_counted}
use Rattle.lk_law.proofs.Names.{rests, Announces, Unreads, Unwrites}
use Rattle.lk_names.specs.Lawful.{Holds, writes}
use Rattle.lk_law.proofs.common.Holders.{contains_at}
use Rattle.lk_law.proofs.rw.Each.{each_nobody, each_one, without_first}
use Rattle.lk_law.proofs.rw.Hold.{counted_keep, counted_more, counted_less, rw_hold_keep}
use Rattle.lk_law.proofs.rw.Hold.{rw_hold_read, rw_hold_write, rw_hold_unread, rw_hold_unwrite}
use Rattle.lk_law.proofs.rw.Hold.{waiting_keep, waiting_set, waiting_clear}

-- where each holder reads, none writes
none_write : (xs : List Holder)
    → ((i : ℕ) (x : Holder) → slice_get xs i ≡ Some x → x.manner ≡ Reads) → count_by writes xs ≡ 0
none_write [] each = refl
none_write (x ∷ xs) each =
    let m = each zero x refl in
    let rest = none_write xs (λ i y p. each (suc i) y p) in
    let e : count_by writes (x ∷ xs) ≡ cond (writes x) 1 0 + count_by writes xs =
    sum_by-cons (λ y. cond (writes y) 1 0) x xs in
    grind (arith, e, m, rest)

manner_known : (m : Manner) → m ≢ Spins → m ≢ Writes → m ≡ Reads
manner_known Spins a b = absurd (a refl)
manner_known Reads a b = refl
manner_known Writes a b = absurd (b refl)

module _ {b : Bool} {phase : Waiter → RwPhase} {held : Waiter → Option Manner}
    {holders : List Holder} (ok : HoldsAgree b phase held holders) where
  -- only readers hold the lock, or one waiter alone
  pub rw_shared : IsShared holders
  rw_shared = by_writer b refl
    where
      by_writer : (c : Bool) → b ≡ c → IsShared holders
      by_writer false e =
          inl (none_write holders (λ i x p.
          let so = ok.each.inside i x p in
          manner_known x.manner (λ q. ok.unspun x.waiter (so ∙ ap Some q))
          (λ q. absurd (let z = ok.writes x.waiter (so ∙ ap Some q) in grind (arith, z, e)))))
      by_writer true e =
          let s = ok.written e in
          inr (each_one (record { waiter = s.0; manner = Writes }) ok.each s.1
          (λ x p. let same = ok.alone s.0 x.waiter x.manner s.1 p in
          let m : x.manner ≡ Writes = (let q = ap held same in grind (arith, q, p, s.1)) in
          (λ i. record { waiter = same i; manner = m i })))

  -- who is not to hold does not
  pub rw_unheld : (h : LockHistory) (w : Waiter) → h.holders ≡ holders → held w ≡ None → ¬ Holds h w
  rw_unheld h w e none c =
      let p = contains_at h.holders (record { waiter = w; manner = c.0 }) c.1 in
      let so =
      ok.each.inside p.0 (record { waiter = w; manner = c.0 })
      (ap (λ (xs : List Holder). slice_get xs p.0) (sym e) ∙ p.1) in
      grind (arith, so, none)

  -- and who is to hold does
  pub rw_holds_so : (w : Waiter) (m : Manner) → held w ≡ Some m
      → Contains holders (record { waiter = w; manner = m })
  rw_holds_so w m so = let p = ok.each.place (record { waiter = w; manner = m }) so in
      at_contains holders (record { waiter = w; manner = m }) p.0 p.1
    where
      at_contains : (xs : List Holder) (x : Holder) (i : ℕ) → slice_get xs i ≡ Some x
          → Contains xs x
      at_contains xs x i p = (i, slice_get_within xs i x p, get_or_from_slice_get xs i x x p)

quiet : (r : RwPhase) → rests r ≡ true → announces r ≡ false
quiet r p = grind arith

module _ {x : RwFields} {phase phase' : Waiter → RwPhase} {held held' : Waiter → Option Manner}
    {waits waits' : Waiter → Bool} {w : Waiter} {r r' : RwPhase} {h h' : Option Manner}
    {t : LockHistory} (ok : RwAgrees x phase held waits t)
    (step : RwStep phase phase' held held' waits waits' w r r' h h') where
  -- nobody holds the lock whose word counts no reader and has no writer
  rw_nobody : x.readers ≡ 0 → x.writer ≡ false → (u : Waiter) (m : Manner) → held u ≡ Some m → ⊥
  rw_nobody bare unwritten u m p =
      let reads = manner_known m (λ q. ok.holds.unspun u (p ∙ ap Some q))
      (λ q. absurd
      (let z = ok.holds.writes u (p ∙ ap Some q) in grind (arith, z, unwritten))) in
      each_nobody ok.readers.each (sym ok.readers.number ∙ bare) u
      (counted_by (phase u) (held u) (p ∙ ap Some reads))
    where
      counted_by : (q : RwPhase) (m : Option Manner) → m ≡ Some Reads → is_counted q m ≡ true
      counted_by q m e = grind (arith, e)

  -- A row that changes neither the word nor the hold.
  pub rw_turn : h' ≡ h → is_counted r' h' ≡ is_counted r h → announces r' ≡ announces r
      → (asks r' ≡ true → h ≡ None) → (r' ≡ Unreads → h ≡ Some Reads)
      → (r' ≡ Unwrites → h ≡ Some Writes) → RwAgrees x phase' held' waits' t
  rw_turn same counts told out reads writes =
      record {
        counted = ok.counted;
        readers = counted_keep step ok.readers counts;
        holds = rw_hold_keep step ok.holds same out reads writes;
        waiting = waiting_keep step ok.waiting told;
        main = ok.main;
        second = ok.second;
        passes = ok.passes;
      }

  -- The waiter is counted among the readers, and does not hold yet.
  pub rw_bias : h ≡ None → h' ≡ None → is_counted r None ≡ false → is_counted r' None ≡ true
      → announces r' ≡ announces r → (r' ≢ Unreads) → (r' ≢ Unwrites)
      → RwAgrees (record x { readers = x.readers + 1 }) phase' held' waits' t
  rw_bias none none' was now told reads writes =
      record {
        counted = ok.counted ++ w ∷ [];
        readers =
            counted_more step ok.readers (ap (is_counted r) none ∙ was)
            (ap (is_counted r') none' ∙ now);
        holds =
            rw_hold_keep step ok.holds (none' ∙ sym none) (λ p. none) (λ p. absurd (reads p))
            (λ p. absurd (writes p));
        waiting = waiting_keep step ok.waiting told;
        main = ok.main;
        second = ok.second;
        passes = ok.passes;
      }

  -- It takes itself off again.
  pub rw_unbias : h ≡ None → h' ≡ None → is_counted r None ≡ true → is_counted r' None ≡ false
      → announces r' ≡ announces r → (r' ≢ Unreads) → (r' ≢ Unwrites)
      → RwAgrees (record x { readers = x.readers - 1 }) phase' held' waits' t
  rw_unbias none none' was now told reads writes =
      record {
        counted = without_first (λ u. same_waiter u w) ok.counted;
        readers =
            counted_less step ok.readers (ap (is_counted r) none ∙ was)
            (ap (is_counted r') none' ∙ now);
        holds =
            rw_hold_keep step ok.holds (none' ∙ sym none) (λ p. none) (λ p. absurd (reads p))
            (λ p. absurd (writes p));
        waiting = waiting_keep step ok.waiting told;
        main = ok.main;
        second = ok.second;
        passes = ok.passes;
      }

  -- It is counted and holds as a reader, beside no writer.
  pub rw_read : x.writer ≡ false → h ≡ None → h' ≡ Some Reads → is_counted r None ≡ false
      → announces r ≡ false → rests r' ≡ true
      → RwAgrees (record x { readers = x.readers + 1 }) phase' held' waits' (with_holder t w Reads)
  rw_read unwritten none has was told away =
      record {
        counted = ok.counted ++ w ∷ [];
        readers =
            counted_more step ok.readers (ap (is_counted r) none ∙ was) (grind (arith, has, away));
        holds = rw (unwritten) (rw_hold_read step (rw unwritten at ok.holds) none has away);
        waiting = waiting_keep step ok.waiting (quiet r' away ∙ sym told);
        main = ok.main;
        second = ok.second;
        passes = ok.passes;
      }

  -- It was counted, and holds from now on.
  pub rw_admit : x.writer ≡ false → h ≡ None → h' ≡ Some Reads → is_counted r None ≡ true
      → announces r ≡ false → rests r' ≡ true
      → RwAgrees x phase' held' waits' (with_holder t w Reads)
  rw_admit unwritten none has was told away =
      record {
        counted = ok.counted;
        readers = counted_keep step ok.readers
            (let a : is_counted r h ≡ true = ap (is_counted r) none ∙ was in
            grind (arith, has, away, a));
        holds = rw (unwritten) (rw_hold_read step (rw unwritten at ok.holds) none has away);
        waiting = waiting_keep step ok.waiting (quiet r' away ∙ sym told);
        main = ok.main;
        second = ok.second;
        passes = ok.passes;
      }

  -- It takes the empty word as the writer.
  pub rw_write : x ≡ record { readers = 0; waiting = false; writer = false } → h ≡ None
      → h' ≡ Some Writes → is_counted r None ≡ false → announces r ≡ false → rests r' ≡ true
      → RwAgrees (record { readers = 0; waiting = false; writer = true }) phase' held' waits'
      (with_holder t w Writes)
  rw_write empty none has was told away =
      record {
        counted = ok.counted;
        readers = rw (ap (λ (y : RwFields). y.readers) empty) at
            (counted_keep step ok.readers
            (let a : is_counted r h ≡ false = ap (is_counted r) none ∙ was in
            grind (arith, has, away, a)));
        holds = rw_hold_write step ok.holds
            (rw_nobody (ap (λ (y : RwFields). y.readers) empty)
            (ap (λ (y : RwFields). y.writer) empty)) none has away;
        waiting =
            waiting_keep step (rw (ap (λ (y : RwFields). y.waiting) empty) at ok.waiting)
            (quiet r' away ∙ sym told);
        main = ok.main;
        second = ok.second;
        passes = ok.passes;
      }

  -- With the wait lock it sets waiting.
  pub rw_announce : h ≡ None → h' ≡ None → is_counted r None ≡ false → r' ≡ Announces
      → RwAgrees (record x { waiting = true }) phase' held' waits' t
  rw_announce none none' was now =
      record {
        counted = ok.counted;
        readers = counted_keep step ok.readers
            (let a : is_counted r h ≡ false = ap (is_counted r) none ∙ was in
            grind (arith, none', now, a));
        holds = rw_hold_keep step ok.holds (none' ∙ sym none) (λ p. none)
            (λ p. absurd (grind (arith, p, now))) (λ p. absurd (grind (arith, p, now)));
        waiting = waiting_set step ok.waiting now;
        main = ok.main;
        second = ok.second;
        passes = ok.passes;
      }

  -- With the wait lock it takes the word that only it waits for.
  pub rw_claim : x ≡ record { readers = 0; waiting = true; writer = false }
      → ((u : Waiter) → waits u ≡ true → u ≡ w) → h ≡ None → h' ≡ Some Writes
      → is_counted r None ≡ false → rests r' ≡ true
      → RwAgrees (record { readers = 0; waiting = false; writer = true }) phase' held' waits'
      (with_holder t w Writes)
  rw_claim alone one none has was away =
      record {
        counted = ok.counted;
        readers = rw (ap (λ (y : RwFields). y.readers) alone) at
            (counted_keep step ok.readers
            (let a : is_counted r h ≡ false = ap (is_counted r) none ∙ was in
            grind (arith, has, away, a)));
        holds = rw_hold_write step ok.holds
            (rw_nobody (ap (λ (y : RwFields). y.readers) alone)
            (ap (λ (y : RwFields). y.writer) alone)) none has away;
        waiting = waiting_clear step ok.waiting one (quiet r' away);
        main = ok.main;
        second = ok.second;
        passes = ok.passes;
      }

  -- The reader releases.
  pub rw_unread : h ≡ Some Reads → h' ≡ None → announces r ≡ false → rests r' ≡ true
      → RwAgrees (record x { readers = x.readers - 1 }) phase' held' waits'
      (without_holder t w Reads)
  rw_unread has none told away =
      record {
        counted = without_first (λ u. same_waiter u w) ok.counted;
        readers =
            counted_less step ok.readers (grind (arith, has, counted_by r h has))
            (grind (arith, none, away));
        holds = rw_hold_unread step ok.holds has none away;
        waiting = waiting_keep step ok.waiting (quiet r' away ∙ sym told);
        main = ok.main;
        second = ok.second;
        passes = ok.passes;
      }
    where
      counted_by : (q : RwPhase) (m : Option Manner) → m ≡ Some Reads → is_counted q m ≡ true
      counted_by q m e = grind (arith, e)

  -- The writer releases.
  pub rw_unwrite : h ≡ Some Writes → h' ≡ None → r ≡ Unwrites → rests r' ≡ true
      → RwAgrees (record x { writer = false }) phase' held' waits' (without_holder t w Writes)
  rw_unwrite has none was away =
      record {
        counted = ok.counted;
        readers = counted_keep step ok.readers (grind (arith, has, none, was, away));
        holds = rw_hold_unwrite step ok.holds has none away;
        waiting = waiting_keep step ok.waiting (grind (arith, was, away));
        main = ok.main;
        second = ok.second;
        passes = ok.passes;
      }
