-- How a spinlock is held: by one waiter at most, and from one context to another.
use Rattle.std.proofs.Common.{◌≡◌, ◌≢◌, inl, inr, ℕ, Option, Some, None, Bool, true, false, arith}
use Rattle.std.proofs.Common.{ap, refl, sym, ◌∙◌, subst, if◌then◌else◌, ◌&&◌}
use Rattle.lk_law.proofs.Names.{LockHistory, no_history, same_lock, same_waiter, Manner, Spins}
use Rattle.lk_law.proofs.Names.{Kind, Rw, LockName, Waiter, rw_name, wait_name, LockAgrees, sole}
use Rattle.lk_law.proofs.Names.{Phase, has_lock, Idle, snapshot, RwAgrees, HolderAgrees, Snapshot}
use Rattle.lk_law.proofs.Names.{spins, is_rw_name, rw_helds, rw_phases, rw_waits, spin_part}
use Rattle.lk_law.proofs.Names.{IsSoundSpinWorld, World}
use Rattle.lk_names.specs.declared.names.Kind.TheVariants.{Spin}
use Rattle.lk_law.proofs.common.Cases.{waiter_cases, lock_cases}
use Rattle.lk_law.proofs.common.Puts.{if-true, if-false, same_lock-else, same_waiter-else}
use Rattle.lk_law.proofs.common.Sames.{same_lock-self, same_waiter-self}
use Rattle.lk_law.specs.{Holds.{HolderIsOne, HoldMoves, hands_hold, held_by}, SoundWorld.is_rw}

holding : (r : Phase) (h : Bool) → h ≡ true → has_lock r h ≡ true
holding r h e = grind arith

pub holder_is_one : HolderIsOne
holder_is_one m hs l u v ok hu hv =
    let o = (ok.agrees.locks l).hold in
    let a = o.has u (holding ((snapshot m).phase l u) (spins (m.held u l)) (ap spins hu)) in
    let b = o.has v (holding ((snapshot m).phase l v) (spins (m.held v l)) (ap spins hv)) in
    grind (arith, a, b)

module _ (m : World) (l : LockName) (u v : Waiter) where
  abbrev s : Snapshot
  s = snapshot m

  abbrev s' : Snapshot
  s' = snapshot (hands_hold m l u v)

  held_else : (x : Waiter) (k : LockName) → k ≢ l → s'.held x k ≡ s.held x k
  held_else x k ne =
      let off = same_lock-else k l ne in
      missed (same_waiter x v) (same_lock k l) (Some Spins) _ off
      ∙ missed (same_waiter x u) (same_lock k l) None (m.held x k) off
    where
      missed : (a b : Bool) (x y : Option Manner) → b ≡ false → (if a && b then x else y) ≡ y
      missed true b x y e = if-false b x y e
      missed false b x y e = refl

  held_here : (x : Waiter)
      → s'.held x l
      ≡ (if same_waiter x v then Some Spins else (if same_waiter x u then None else m.held x l))
  held_here x = rw (same_lock-self l) (both (same_waiter x v) (same_waiter x u) (m.held x l))
    where
      both : (a b : Bool) (x : Option Manner)
          → (if (a && true) then Some Spins else (if (b && true) then None else x))
          ≡ (if a then Some Spins else (if b then None else x))
      both true b x = refl
      both false true x = refl
      both false false x = refl

  held_by_v : s'.held v l ≡ Some Spins
  held_by_v = held_here v ∙ if-true (same_waiter v v) (Some Spins) _ (same_waiter-self v)

  held_away : (x : Waiter) → x ≢ v → (x ≡ u → s'.held x l ≡ None) × (x ≢ u → s'.held x l ≡ m.held x l)
  held_away x ne =
      let a = held_here x ∙ if-false (same_waiter x v) (Some Spins) _ (same_waiter-else x v ne) in (
        (λ e. a ∙ if-true (same_waiter x u) None (m.held x l) (subst (λ (y : Waiter). same_waiter x y ≡ true) e (same_waiter-self x))),
        (λ d. a ∙ if-false (same_waiter x u) None (m.held x l) (same_waiter-else x u d)),
      )

  -- the lock has the other holder
  holder_moves : HolderAgrees (m.word l).locked (s.phase l) (λ x. spins (s.held x l)) (Some u)
      → s.phase l u ≡ Idle → s.phase l v ≡ Idle
      → HolderAgrees (m.word l).locked (s'.phase l) (λ x. spins (s'.held x l)) (Some v)
  holder_moves o idle_u idle_v =
      record {
        free = λ e. grind (arith, o.free e);
        taken = λ e. grind arith;
        has = λ x h. elim (waiter_cases x v) [
          | inl e ↦ ap Some (sym e)
          | inr ne ↦ let a = held_away x ne in elim (waiter_cases x u) [
            | inl e ↦ let i : s.phase l x ≡ Idle = ap (s.phase l) e ∙ idle_u in
                absurd (grind (arith, a.0 e, i, h))
            | inr d ↦ absurd (let mine = o.has x (grind (arith, a.1 d, h)) in d (grind (arith, mine)))
          ]
        ];
        had = λ x e. let same : v ≡ x = grind arith in
            subst (λ (y : Waiter). has_lock (s.phase l y) (spins (s'.held y l)) ≡ true) same
            (holding (s.phase l v) (spins (s'.held v l)) (ap spins held_by_v));
        without = λ x h. elim (waiter_cases x v) [
          | inl e ↦ let i : s.phase l x ≡ Idle = ap (s.phase l) e ∙ idle_v in absurd (grind (arith, i, h))
          | inr ne ↦ let a = held_away x ne in elim (waiter_cases x u) [
            | inl e ↦ ap spins (a.0 e)
            | inr d ↦ ap spins (a.1 d) ∙ o.without x h
          ]
        ];
        releases = λ x h. elim (waiter_cases x v) [
          | inl e ↦ let i : s.phase l x ≡ Idle = ap (s.phase l) e ∙ idle_v in absurd (grind (arith, i, h))
          | inr ne ↦ let a = held_away x ne in elim (waiter_cases x u) [
            | inl e ↦ let i : s.phase l x ≡ Idle = ap (s.phase l) e ∙ idle_u in absurd (grind (arith, i, h))
            | inr d ↦ ap spins (a.1 d) ∙ o.releases x h
          ]
        ];
      }

  spin_hold_moves : (hs : LockName → LockHistory) → IsSoundSpinWorld m hs
      → m.held u l ≡ Some Spins → s.phase l u ≡ Idle → s.phase l v ≡ Idle
      → IsSoundSpinWorld (hands_hold m l u v) (held_by hs l v)
  spin_hold_moves hs ok has idle_u idle_v =
      record {
        plain = record { byte = ok.plain.byte; flag = ok.plain.flag; runs = ok.plain.runs };
        turning = ok.turning;
        agrees = record {
          locks = λ k. elim (lock_cases k l) [ inl e ↦ subst (λ (z : LockName). LockAgrees s' (held_by hs l v z) z) (sym e) here | inr ne ↦ there k ne ];
          nodes = ok.agrees.nodes;
          alone = ok.agrees.alone;
          sleeper = ok.agrees.sleeper;
        };
        registers = ok.registers;
        asleep = ok.asleep;
        resting = ok.resting;
      }
    where
      here : LockAgrees s' (held_by hs l v l) l
      here =
          let o = ok.agrees.locks l in
          let mine : o.holder ≡ Some u = o.hold.has u (holding (s.phase l u) (spins (m.held u l)) (ap spins has)) in
          subst (λ (h : LockHistory). LockAgrees s' h l)
          (sym (if-true (same_lock l l) (record (hs l) { holders = sole (Some v) }) (hs l) (same_lock-self l)))
          (record {
            holder = Some v;
            holders = refl;
            hold = holder_moves
                (subst (HolderAgrees (m.word l).locked (s.phase l) (λ x. spins (s.held x l))) mine
                o.hold) idle_u idle_v;
            pend = o.pend;
            posts = λ on. record { posts = (o.posts on).posts; suits = (o.posts on).suits };
            lists = o.lists;
          })

      there : (k : LockName) → k ≢ l → LockAgrees s' (held_by hs l v k) k
      there k ne =
          let o = ok.agrees.locks k in
          let held : ◌≡◌ {A = Waiter → Bool} (λ x. spins (s'.held x k)) (λ x. spins (s.held x k)) =
          (λ i x. spins (held_else x k ne i)) in
          subst (λ (h : LockHistory). LockAgrees s' h k)
          (sym (if-false (same_lock k l) (record (hs k) { holders = sole (Some v) }) (hs k) (same_lock-else k l ne)))
          (record {
            holder = o.holder;
            holders = o.holders;
            hold = rw held o.hold;
            pend = o.pend;
            posts = λ on. record { posts = (o.posts on).posts; suits = (o.posts on).suits };
            lists = o.lists;
          })

-- the histories of spinlocks, where a spinlock changes its holder
part_moves : (kind : ℕ → Kind) (hs : LockName → LockHistory) (l : LockName) (v : Waiter)
    → kind l.index ≡ Spin → held_by (spin_part kind hs) l v ≡ spin_part kind (held_by hs l v)
part_moves kind hs l v spin = (λ i k. each k i)
  where
    spun : (b : Bool) (q : Kind) → q ≡ Spin → (b && is_rw q) ≡ false
    spun true q e = ap is_rw e
    spun false q e = refl

    each : (k : LockName) → held_by (spin_part kind hs) l v k ≡ spin_part kind (held_by hs l v) k
    each k = elim (lock_cases k l) [
      | inl e ↦
          let off : is_rw_name kind k ≡ false = spun _ (kind k.index) (ap (λ (z : LockName). kind z.index) e ∙ spin) in
          let x = if-false (is_rw_name kind k) no_history (hs k) off in
          let y = if-false (is_rw_name kind k) no_history (held_by hs l v k) off in
          ap (λ (h : LockHistory). if same_lock k l then record h { holders = sole (Some v) } else h) x ∙ sym y
      | inr ne ↦
          let off = same_lock-else k l ne in
          let x = if-false (same_lock k l) (record (spin_part kind hs k) { holders = sole (Some v) }) (spin_part kind hs k) off in
          let y = if-false (same_lock k l) (record (hs k) { holders = sole (Some v) }) (hs k) off in
          x ∙ ap (λ (h : LockHistory). if is_rw_name kind k then no_history else h) (sym y)
    ]

pub hold_moves : HoldMoves
hold_moves m hs l u v ok plain spin has idle_u idle_v =
    record {
      spins = subst (IsSoundSpinWorld (hands_hold m l u v)) (part_moves m.kind hs l v spin)
          (spin_hold_moves m l u v (spin_part m.kind hs) ok.spins has idle_u idle_v);
      rws = λ i k. shared i k (apart i k);
      fits = ok.fits;
    }
  where
    apart : (i : ℕ) → m.kind i ≡ Rw → rw_name i ≢ l
    apart i k e = let z = ap (λ (x : LockName). m.kind x.index) e in grind (arith, z, k, spin)

    waits_apart : (i : ℕ) → wait_name i ≢ l
    waits_apart i e = let z = ap (λ (x : LockName). x.wait) e in grind (arith, z, plain)

    shared : (i : ℕ) → m.kind i ≡ Rw → rw_name i ≢ l
        → RwAgrees (m.rw i) (rw_phases m i) (rw_helds (hands_hold m l u v) i)
        (rw_waits (hands_hold m l u v) i) (held_by hs l v (rw_name i))
    shared i k ne =
        let helds : rw_helds m i ≡ rw_helds (hands_hold m l u v) i = (λ j x. sym (held_else m l u v x (rw_name i) ne) j) in
        let waits : rw_waits m i ≡ rw_waits (hands_hold m l u v) i = (λ j x. spins (sym (held_else m l u v x (wait_name i) (waits_apart i)) j)) in
        let told : hs (rw_name i) ≡ held_by hs l v (rw_name i) =
        sym (if-false (same_lock (rw_name i) l) (record (hs (rw_name i)) { holders = sole (Some v) }) (hs (rw_name i)) (same_lock-else (rw_name i) l ne)) in
        subst (λ (h : LockHistory). RwAgrees (m.rw i) (rw_phases m i) (rw_helds (hands_hold m l u v) i) (rw_waits (hands_hold m l u v) i) h) told
        (subst (λ (g : Waiter → Bool). RwAgrees (m.rw i) (rw_phases m i) (rw_helds (hands_hold m l u v) i) g (hs (rw_name i))) waits
        (subst (λ (g : Waiter → Option Manner). RwAgrees (m.rw i) (rw_phases m i) g (rw_waits m i) (hs (rw_name i))) helds (ok.rws i k)))
