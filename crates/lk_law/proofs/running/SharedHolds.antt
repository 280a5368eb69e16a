-- A hold of a reader-writer lock goes from one context to another.
use Rattle.std.proofs.Common.{◌≡◌, ◌≢◌, ◌⊎◌, inl, inr, ℕ, ◌+◌, ◌-◌, Option, Some, None, Bool, true}
use Rattle.std.proofs.Common.{false, List, [], ◌∷◌, ◌++◌, arith, ap, refl, sym, ◌∙◌, subst}
use Rattle.std.proofs.Common.{if◌then◌else◌, ◌&&◌}
use Rattle.lk_law.proofs.Names.{cases_Bool, cases_eq, LockHistory, no_history, without, same_lock}
use Rattle.lk_law.proofs.Names.{same_waiter, Holder, Manner, Reads, Spins, Writes, Rw, LockName}
use Rattle.lk_law.proofs.Names.{Waiter, rw_name, wait_name, HoldsAgree, RwAgrees, RwStep, RwPhase}
use Rattle.lk_law.proofs.Names.{is_counted, is_inner, rests, Announces, Asks, Away, Frees, Inside}
use Rattle.lk_law.proofs.Names.{Unreads, Unwrites, spins, IsSoundWorld, is_rw_name, rw_helds}
use Rattle.lk_law.proofs.Names.{rw_phases, rw_waits, spin_part, IsSoundSpinWorld, put_held, World}
use Rattle.lk_law.proofs.common.Cases.{waiter_cases, lock_cases}
use Rattle.lk_law.proofs.common.Puts.{if-true, if-false, same_lock-else, same_waiter-else}
use Rattle.lk_law.proofs.common.Sames.{same_lock-self, same_waiter-self}
use Rattle.lk_law.proofs.rw.Each.{each_nobody, without_first}
use Rattle.lk_law.specs.{Holds.{ShareMoves, hands_share, shared_by}, RwAgree.ReadersAgree}
use Rattle.lk_law.specs.{RwPhase.RwPhase.{Biases, Joins}, SoundWorld.is_rw}
use Rattle.lk_law.proofs.rw.Hold as hold

-- one waiter's hold of one lock changes
module _ (m : World) (w : Waiter) (l : LockName) (o : Option Manner) where
  abbrev m' : World
  m' = put_held m w l o

  pub put_here : m'.held w l ≡ o
  put_here =
      if-true (same_waiter w w && same_lock l l) o (m.held w l)
      (λ i. same_waiter-self w i && same_lock-self l i)

  pub put_waiters : (u : Waiter) (k : LockName) → u ≢ w → m'.held u k ≡ m.held u k
  put_waiters u k ne = off (same_waiter u w) (same_lock k l) (m.held u k) (same_waiter-else u w ne)
    where
      off : (a b : Bool) (x : Option Manner) → a ≡ false → (if a && b then o else x) ≡ x
      off true b x e = absurd (cc e)
      off false b x e = refl

  pub put_locks : (u : Waiter) (k : LockName) → k ≢ l → m'.held u k ≡ m.held u k
  put_locks u k ne = off (same_waiter u w) (same_lock k l) (m.held u k) (same_lock-else k l ne)
    where
      off : (a b : Bool) (x : Option Manner) → b ≡ false → (if a && b then o else x) ≡ x
      off true true x e = absurd (cc e)
      off true false x e = refl
      off false b x e = refl

-- what that is for a reader-writer lock
wait_apart : (i j : ℕ) → wait_name i ≢ rw_name j
wait_apart i j e = let z : true ≡ false = ap (λ (l : LockName). l.wait) e in cc z

put_step : (m : World) (w : Waiter) (i : ℕ) (o : Option Manner)
    → rw_waits m i w ≡ is_inner (rw_phases m i w)
    → RwStep (rw_phases m i) (rw_phases m i) (rw_helds m i) (rw_helds (put_held m w (rw_name i) o) i)
    (rw_waits m i) (rw_waits (put_held m w (rw_name i) o) i) w (rw_phases m i w) (rw_phases m i w)
    (rw_helds m i w) o
put_step m w i o inner =
    record {
      acts = record { was = refl; now = refl; others = λ u ne. refl };
      holds = record {
        was = refl;
        now = put_here m w (rw_name i) o;
        others = λ u ne. put_waiters m w (rw_name i) o u (rw_name i) ne;
      };
      others = λ u ne. ap spins (put_waiters m w (rw_name i) o u (wait_name i) ne);
      inner = ap spins (put_locks m w (rw_name i) o w (wait_name i) (wait_apart i i)) ∙ inner;
    }

module _ (m : World) (hs : LockName → LockHistory) (ok : IsSoundWorld m hs) (i : ℕ) (kind : m.kind i ≡ Rw)
    (way : Manner) (u v : Waiter) (has : m.held u (rw_name i) ≡ Some way)
    (free : m.held v (rw_name i) ≡ None) (calm_u : rests (rw_phases m i u) ≡ true)
    (calm_v : rests (rw_phases m i v) ≡ true) where
  abbrev l : LockName
  l = rw_name i

  -- the world in which nobody has that hold, and the world after it
  abbrev m1 : World
  m1 = put_held m u l None

  abbrev m2 : World
  m2 = hands_share m i way u v

  agrees : RwAgrees (m.rw i) (rw_phases m i) (rw_helds m i) (rw_waits m i) (hs l)
  agrees = ok.rws i kind

  unspun : way ≢ Spins
  unspun e = agrees.holds.unspun u (has ∙ ap Some e)

  apart : v ≢ u
  apart e = let z : Some way ≡ None = sym has ∙ (ap (λ (x : Waiter). m.held x l) (sym e) ∙ free) in cc z

  helds_else : (x : Waiter) (k : LockName) → k ≢ l → m2.held x k ≡ m.held x k
  helds_else x k ne = put_locks m1 v l (Some way) x k ne ∙ put_locks m u l None x k ne

  waits_same : (j : ℕ) → rw_waits m2 j ≡ rw_waits m j
  waits_same j = (λ s x. spins (helds_else x (wait_name j) (wait_apart j i) s))

  -- the two steps
  one : RwStep (rw_phases m i) (rw_phases m i) (rw_helds m i) (rw_helds m1 i) (rw_waits m i) (rw_waits m1 i) u
      (rw_phases m i u) (rw_phases m i u) (rw_helds m i u) None
  one = put_step m u i None (agrees.waiting.inner u)

  two : RwStep (rw_phases m i) (rw_phases m i) (rw_helds m1 i) (rw_helds m2 i) (rw_waits m1 i) (rw_waits m2 i) v
      (rw_phases m i v) (rw_phases m i v) (rw_helds m1 i v) (Some way)
  two = put_step m1 v i (Some way) (ap spins (put_locks m u l None v (wait_name i) (wait_apart i i)) ∙ agrees.waiting.inner v)

  unheld_now : rw_helds m1 i v ≡ None
  unheld_now = put_waiters m u l None v l apart ∙ free

  -- who wants nothing more of the lock is counted where it holds as a reader
  counted_by : (r : RwPhase) → rests r ≡ true → is_counted r None ≡ false
  counted_by Away e = refl
  counted_by Frees e = refl
  counted_by _ e = cc e

  reads_counted : (r : RwPhase) → is_counted r (Some Reads) ≡ true
  reads_counted Away = refl
  reads_counted Asks = refl
  reads_counted Biases = refl
  reads_counted Inside = refl
  reads_counted Joins = refl
  reads_counted Announces = refl
  reads_counted Frees = refl
  reads_counted Unreads = refl
  reads_counted Unwrites = refl

  writes_counted : (r : RwPhase) → is_counted r (Some Writes) ≡ is_counted r None
  writes_counted r = refl

  readers : way ≡ Reads → (counted : List Waiter) → ReadersAgree (m.rw i).readers (rw_phases m i) (rw_helds m i) counted
      → (xs : List Waiter) × ReadersAgree (m.rw i).readers (rw_phases m i) (rw_helds m2 i) xs
  readers reads counted o =
      let r = rw_phases m i u in
      let s = rw_phases m i v in
      let was : is_counted r (rw_helds m i u) ≡ true = ap (is_counted r) (has ∙ ap Some reads) ∙ reads_counted r in
      let less = hold.counted_less one o was (counted_by r calm_u) in
      let more = hold.counted_more two less
      (ap (is_counted s) unheld_now ∙ counted_by s calm_v)
      (ap (λ (w : Manner). is_counted s (Some w)) reads ∙ reads_counted s) in
      let some : (m.rw i).readers ≢ 0 = λ e. each_nobody o.each (sym o.number ∙ e) u was in
      let same : (m.rw i).readers - 1 + 1 ≡ (m.rw i).readers = omega (arith, some) in
      (_, subst (λ (n : ℕ). ReadersAgree n (rw_phases m i) (rw_helds m2 i) (without_first (λ x. same_waiter x u) counted ++ v ∷ [])) same more)

  -- it holds as a reader, beside no writer
  reading : way ≡ Reads → (m.rw i).writer ≡ false
  reading reads = elim (cases_Bool (m.rw i).writer) [
    | inl e ↦
        let s = agrees.holds.written e in
        let same : u ≡ s.0 = agrees.holds.alone s.0 u way s.1 has in
        let z : Some Reads ≡ Some Writes = ap Some (sym reads) ∙ (sym has ∙ (ap (λ (x : Waiter). m.held x l) same ∙ s.1)) in
        absurd (cc z)
    | inr e ↦ e
  ]

  -- as the writer, beside nobody
  nobody : way ≡ Writes → (x : Waiter) (n : Manner) → rw_helds m1 i x ≡ Some n → ⊥
  nobody writes x n h = elim (waiter_cases x u) [
    | inl e ↦
        let z : None ≡ Some n = sym (put_here m u l None) ∙ (ap (λ (y : Waiter). rw_helds m1 i y) (sym e) ∙ h) in
        cc z
    | inr ne ↦ ne (agrees.holds.alone u x n (has ∙ ap Some writes) (sym (put_waiters m u l None x l ne) ∙ h))
  ]

  abbrev after : List Holder
  after = without u way (hs l).holders ++ record { waiter = v; manner = way } ∷ []

  holders : (way ≡ Reads) ⊎ (way ≡ Writes) → HoldsAgree (m.rw i).writer (rw_phases m i) (rw_helds m2 i) after
  holders (inl reads) =
      let off = reading reads in
      let less = hold.rw_hold_unread one agrees.holds (has ∙ ap Some reads) refl calm_u in
      subst (λ (w : Manner). HoldsAgree (m.rw i).writer (rw_phases m i) (rw_helds m2 i) (without u w (hs l).holders ++ record { waiter = v; manner = w } ∷ [])) (sym reads)
      (subst (λ (b : Bool). HoldsAgree b (rw_phases m i) (rw_helds m2 i) (without u Reads (hs l).holders ++ record { waiter = v; manner = Reads } ∷ [])) (sym off)
      (hold.rw_hold_read two (subst (λ (b : Bool). HoldsAgree b (rw_phases m i) (rw_helds m1 i) (without u Reads (hs l).holders)) off less)
      unheld_now (ap Some reads) calm_v))
  holders (inr writes) =
      let on = agrees.holds.writes u (has ∙ ap Some writes) in
      let less = hold.rw_hold_unwrite one agrees.holds (has ∙ ap Some writes) refl calm_u in
      subst (λ (w : Manner). HoldsAgree (m.rw i).writer (rw_phases m i) (rw_helds m2 i) (without u w (hs l).holders ++ record { waiter = v; manner = w } ∷ [])) (sym writes)
      (subst (λ (b : Bool). HoldsAgree b (rw_phases m i) (rw_helds m2 i) (without u Writes (hs l).holders ++ record { waiter = v; manner = Writes } ∷ [])) (sym on)
      (hold.rw_hold_write two less (nobody writes) unheld_now (ap Some writes) calm_v))

  counted : (way ≡ Reads) ⊎ (way ≡ Writes) → (xs : List Waiter) × ReadersAgree (m.rw i).readers (rw_phases m i) (rw_helds m2 i) xs
  counted (inl reads) = readers reads agrees.counted agrees.readers
  counted (inr writes) =
      let r = rw_phases m i u in
      let s = rw_phases m i v in (
        agrees.counted,
        hold.counted_keep two
            (hold.counted_keep one agrees.readers (sym (ap (is_counted r) (has ∙ ap Some writes) ∙ writes_counted r)))
            (ap (λ (w : Manner). is_counted s (Some w)) writes ∙ (writes_counted s ∙ ap (is_counted s) (sym unheld_now))),
      )

  kinds : (way ≡ Reads) ⊎ (way ≡ Writes)
  kinds = by way unspun
    where
      by : (w : Manner) → w ≢ Spins → (w ≡ Reads) ⊎ (w ≡ Writes)
      by Spins ne = absurd (ne refl)
      by Reads ne = inl refl
      by Writes ne = inr refl

  -- the lock itself
  here : RwAgrees (m.rw i) (rw_phases m i) (rw_helds m2 i) (rw_waits m2 i) (shared_by hs i way u v l)
  here =
      let c = counted kinds in
      subst (λ (h : LockHistory). RwAgrees (m.rw i) (rw_phases m i) (rw_helds m2 i) (rw_waits m2 i) h)
      (sym (if-true (same_lock l l) (record (hs l) { holders = after }) (hs l) (same_lock-self l)))
      (record {
        counted = c.0;
        readers = c.1;
        holds = holders kinds;
        waiting = hold.waiting_keep two (hold.waiting_keep one agrees.waiting refl) refl;
        main = agrees.main;
        second = agrees.second;
        passes = agrees.passes;
      })

  -- the other reader-writer locks
  there : (j : ℕ) → m.kind j ≡ Rw → j ≢ i
      → RwAgrees (m.rw j) (rw_phases m j) (rw_helds m2 j) (rw_waits m2 j) (shared_by hs i way u v (rw_name j))
  there j k ne =
      let name : rw_name j ≢ l = λ e. ne (ap (λ (x : LockName). x.index) e) in
      let helds : rw_helds m j ≡ rw_helds m2 j = (λ s x. sym (helds_else x (rw_name j) name) s) in
      let told : hs (rw_name j) ≡ shared_by hs i way u v (rw_name j) =
      sym (if-false (same_lock (rw_name j) l) (record (hs (rw_name j)) { holders = without u way (hs (rw_name j)).holders ++ record { waiter = v; manner = way } ∷ [] }) (hs (rw_name j)) (same_lock-else (rw_name j) l name)) in
      subst (λ (h : LockHistory). RwAgrees (m.rw j) (rw_phases m j) (rw_helds m2 j) (rw_waits m2 j) h) told
      (subst (λ (g : Waiter → Bool). RwAgrees (m.rw j) (rw_phases m j) (rw_helds m2 j) g (hs (rw_name j))) (sym (waits_same j))
      (subst (λ (g : Waiter → Option Manner). RwAgrees (m.rw j) (rw_phases m j) g (rw_waits m j) (hs (rw_name j))) helds (ok.rws j k)))

  -- spinlocks and wait locks are held as before
  spun_not : (o : Option Manner) → o ≢ Some Spins → spins o ≡ false
  spun_not None ne = refl
  spun_not (Some Spins) ne = absurd (ne refl)
  spun_not (Some Reads) ne = refl
  spun_not (Some Writes) ne = refl

  spins_same : (x : Waiter) (k : LockName) → spins (m2.held x k) ≡ spins (m.held x k)
  spins_same x k = elim (lock_cases k l) [
    | inl e ↦
        subst (λ (z : LockName). spins (m2.held x z) ≡ spins (m.held x z)) (sym e)
        (spun_not (m2.held x l) ((holders kinds).unspun x) ∙ sym (spun_not (m.held x l) (agrees.holds.unspun x)))
    | inr ne ↦ ap spins (helds_else x k ne)
  ]

  spin_sound : IsSoundSpinWorld m2 (spin_part m.kind hs)
  spin_sound =
      let s = ok.spins in
      record {
        plain = record { byte = s.plain.byte; flag = s.plain.flag; runs = s.plain.runs };
        turning = s.turning;
        agrees = record {
          locks = λ k.
              let o = s.agrees.locks k in
              let held : ◌≡◌ {A = Waiter → Bool} (λ x. spins (m2.held x k)) (λ x. spins (m.held x k)) =
              (λ j x. spins_same x k j) in
              record {
                holder = o.holder;
                holders = o.holders;
                hold = rw held o.hold;
                pend = o.pend;
                posts = λ on. record { posts = (o.posts on).posts; suits = (o.posts on).suits };
                lists = o.lists;
              };
          nodes = s.agrees.nodes;
          alone = s.agrees.alone;
          sleeper = s.agrees.sleeper;
        };
        registers = s.registers;
        asleep = s.asleep;
        resting = s.resting;
      }

  part_same : spin_part m.kind (shared_by hs i way u v) ≡ spin_part m.kind hs
  part_same = (λ j k. each k j)
    where
      each : (k : LockName) → spin_part m.kind (shared_by hs i way u v) k ≡ spin_part m.kind hs k
      each k = elim (lock_cases k l) [
        | inl e ↦
            let on : is_rw_name m.kind k ≡ true = ap (is_rw_name m.kind) e ∙ ap is_rw kind in
            if-true (is_rw_name m.kind k) no_history (shared_by hs i way u v k) on
            ∙ sym (if-true (is_rw_name m.kind k) no_history (hs k) on)
        | inr ne ↦
            ap (λ (h : LockHistory). if is_rw_name m.kind k then no_history else h)
            (if-false (same_lock k l) (record (hs k) { holders = without u way (hs k).holders ++ record { waiter = v; manner = way } ∷ [] }) (hs k) (same_lock-else k l ne))
      ]

pub share_moves : ShareMoves
share_moves m hs i way u v ok kind has free calm_u calm_v =
    record {
      spins = subst (IsSoundSpinWorld (hands_share m i way u v)) (sym (part_same m hs ok i kind way u v has free calm_u calm_v))
          (spin_sound m hs ok i kind way u v has free calm_u calm_v);
      rws = λ j k. elim (cases_eq j i) [
        | inl e ↦
            subst (λ (z : ℕ). RwAgrees (m.rw z) (rw_phases m z) (rw_helds (hands_share m i way u v) z) (rw_waits (hands_share m i way u v) z)
            (shared_by hs i way u v (rw_name z))) (sym e) (here m hs ok i kind way u v has free calm_u calm_v)
        | inr ne ↦ there m hs ok i kind way u v has free calm_u calm_v j k ne
      ];
      fits = ok.fits;
    }
