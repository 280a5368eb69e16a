-- What is read of a machine after a write to one processor's record, or to one lock's.
use Rattle.std.proofs.Common.{◌≡◌, ◌≢◌, ℕ, Option, Some, None, Bool, true, false, inl, inr, arith}
use Rattle.std.proofs.Common.{ap, ◌<◌, refl, sym, ◌∙◌, subst, slice_get, length, get_or, set}
use Rattle.std.proofs.Common.{if◌then◌else◌}
use Rattle.std.proofs.lemmas.List.{get_or-set_same, get_or-set_other, set_past}
use Rattle.std.specs.Prelude.{unwrap_or}
use Rattle.lk_core.proofs.Names.{cases_eq, cases_lt, get_or_past, slice_get_past, Fields, same_lock}
use Rattle.lk_core.proofs.Names.{same_waiter, LockName, Waiter, CpuState, LockState, Machine}
use Rattle.lk_core.proofs.Names.{no_cpu, rest_frame, rest_lock, top_frame, top_of, Frame}
use Rattle.lk_core.proofs.Names.{lock_cases, waiter_cases, same_lock-else, same_waiter-else}
use Rattle.lk_core.proofs.Names.{same_lock-self, same_waiter-self}
use Rattle.lk_rows.specs.Machine.{cpu_at, lock_at, word_at, frame_at, depth_at, set_cpu, set_lock}
use Rattle.lk_rows.specs.Machine.{set_word}

-- the record of a processor after one was written
pub cpu_same : (m : Machine) (p : ℕ) (c : CpuState) → p < length m.cpus
    → cpu_at (set_cpu m p c) p ≡ c
unfolding cpu_at set_cpu
cpu_same m p c h = get_or-set_same m.cpus p c no_cpu h

pub cpu_other : (m : Machine) (p q : ℕ) (c : CpuState) → q ≢ p
    → cpu_at (set_cpu m p c) q ≡ cpu_at m q
unfolding cpu_at set_cpu
cpu_other m p q c h = get_or-set_other m.cpus p q c no_cpu h

-- what a write leaves in a processor's record stays everywhere
pub cpu_part : {A : Type 0} (F : CpuState → A) (m : Machine) (p : ℕ) (c : CpuState)
    → F c ≡ F (cpu_at m p) → (q : ℕ) → F (cpu_at (set_cpu m p c) q) ≡ F (cpu_at m q)
unfolding cpu_at set_cpu
cpu_part F m p c e q =
    elim (cases_eq q p) [
      | inl s ↦ elim (cases_lt p (length m.cpus)) [
        | inl lt ↦ ap (λ n. F (get_or (set m.cpus p c) n no_cpu)) s
            ∙ ap F (get_or-set_same m.cpus p c no_cpu lt) ∙ e
            ∙ ap (λ n. F (get_or m.cpus n no_cpu)) (sym s)
        | inr ge ↦ ap (λ cs. F (get_or cs q no_cpu)) (set_past m.cpus p c ge)
      ]
      | inr ne ↦ ap F (get_or-set_other m.cpus p q c no_cpu ne)
    ]

-- what is true of the record that was written, and of the other ones
pub cpu_each : (P : CpuState → Type 0) (m : Machine) (p : ℕ) (c : CpuState) → p < length m.cpus
    → P c → (q : ℕ) → (q ≢ p → P (cpu_at m q)) → P (cpu_at (set_cpu m p c) q)
cpu_each P m p c lt here q others =
    elim (cases_eq q p) [
      | inl s ↦ subst (λ (r : ℕ). P (cpu_at (set_cpu m p c) r)) (sym s)
          (subst P (sym (cpu_same m p c lt)) here)
      | inr ne ↦ subst P (sym (cpu_other m p q c ne)) (others ne)
    ]

-- the frames after a write that changes those of one processor at one place
pub frame_changed : (m : Machine) (w : Waiter) (c : CpuState) (o : Option Frame)
    → w.cpu < length m.cpus → slice_get c.frames w.ctx ≡ o
    → ((i : ℕ) → i ≢ w.ctx → slice_get c.frames i ≡ slice_get (cpu_at m w.cpu).frames i)
    → (u : Waiter) → frame_at (set_cpu m w.cpu c) u ≡ (if same_waiter u w then o else frame_at m u)
unfolding frame_at
frame_changed m w c o lt here others u =
    elim (waiter_cases u w) [
      | inl e ↦
          let P : Waiter → Type 0 =
          λ v. frame_at (set_cpu m w.cpu c) v ≡ (if same_waiter v w then o else frame_at m v) in
          subst P (sym e)
          (ap (λ (d : CpuState). slice_get d.frames w.ctx) (cpu_same m w.cpu c lt) ∙ here
          ∙ sym (ap (λ (b : Bool). if b then o else frame_at m w) (same_waiter-self w)))
      | inr ne ↦ kept ne
          ∙ sym (ap (λ (b : Bool). if b then o else frame_at m u) (same_waiter-else u w ne))
    ]
  where
    kept : u ≢ w → frame_at (set_cpu m w.cpu c) u ≡ frame_at m u
    kept ne =
        elim (cases_eq u.cpu w.cpu) [
          | inl e ↦
              let P : ℕ → Type 0 = λ q.
              slice_get (cpu_at (set_cpu m w.cpu c) q).frames u.ctx ≡ slice_get
              (cpu_at m q).frames u.ctx in
              subst P (sym e)
              (ap (λ (d : CpuState). slice_get d.frames u.ctx) (cpu_same m w.cpu c lt)
              ∙ others u.ctx (λ x. ne (λ i. record { cpu = e i; ctx = x i })))
          | inr n ↦ ap (λ (d : CpuState). slice_get d.frames u.ctx) (cpu_other m w.cpu u.cpu c n)
        ]

-- a frame stands only on a processor of the machine
pub frame_within : (m : Machine) (u : Waiter) (f : Frame) → frame_at m u ≡ Some f
    → u.cpu < length m.cpus
unfolding frame_at cpu_at
frame_within m u f h =
    elim (cases_lt u.cpu (length m.cpus)) [
      | inl lt ↦ lt
      | inr ge ↦
          let past : get_or m.cpus u.cpu no_cpu ≡ no_cpu = get_or_past m.cpus u.cpu no_cpu ge in
          let none : slice_get (get_or m.cpus u.cpu no_cpu).frames u.ctx ≡ None =
          ap (λ (d : CpuState). slice_get d.frames u.ctx) past in
          absurd (grind (arith, none, h))
    ]

-- no frame is above the top
pub above_top : (m : Machine) (p c : ℕ) → (top_of m p).ctx < c
    → frame_at m (record { cpu = p; ctx = c }) ≡ None
unfolding depth_at frame_at
above_top m p c h = slice_get_past (cpu_at m p).frames c (omega arith)

pub top_frame-is : (m : Machine) (p : ℕ) (f : Frame) → frame_at m (top_of m p) ≡ Some f
    → top_frame m p ≡ f
top_frame-is m p f h = ap (λ (o : Option Frame). unwrap_or o rest_frame) h

-- what a write leaves in a lock's record stays
pub lock_part : {A : Type 0} (F : LockState → A) (m : Machine) (i : ℕ) (y : LockState)
    → F y ≡ F (lock_at m i) → (j : ℕ) → F (lock_at (set_lock m i y) j) ≡ F (lock_at m j)
unfolding lock_at set_lock
lock_part F m i y e q =
    elim (cases_eq q i) [
      | inl s ↦ elim (cases_lt i (length m.locks)) [
        | inl lt ↦ ap (λ n. F (get_or (set m.locks i y) n rest_lock)) s
            ∙ ap F (get_or-set_same m.locks i y rest_lock lt) ∙ e
            ∙ ap (λ n. F (get_or m.locks n rest_lock)) (sym s)
        | inr ge ↦ ap (λ cs. F (get_or cs q rest_lock)) (set_past m.locks i y ge)
      ]
      | inr ne ↦ ap F (get_or-set_other m.locks i q y rest_lock ne)
    ]

pub lock_same : (m : Machine) (i : ℕ) (y : LockState) → i < length m.locks
    → lock_at (set_lock m i y) i ≡ y
unfolding lock_at set_lock
lock_same m i y h = get_or-set_same m.locks i y rest_lock h

pub lock_other : (m : Machine) (i j : ℕ) (y : LockState) → j ≢ i
    → lock_at (set_lock m i y) j ≡ lock_at m j
unfolding lock_at set_lock
lock_other m i j y h = get_or-set_other m.locks i j y rest_lock h

abbrev pick : Bool → LockState → Fields
pick b y = if b then y.wait else y.spin

abbrev put : Bool → LockState → Fields → LockState
put b y x = if b then record y { wait = x } else record y { spin = x }

pick-put_same : (b : Bool) (y : LockState) (x : Fields) → pick b (put b y x) ≡ x
pick-put_same true y x = refl
pick-put_same false y x = refl

pick-put_other : (a b : Bool) (y : LockState) (x : Fields) → a ≢ b → pick a (put b y x) ≡ pick a y
pick-put_other true true y x h = absurd (h refl)
pick-put_other false false y x h = absurd (h refl)
pick-put_other true false y x h = refl
pick-put_other false true y x h = refl

-- the words after one was written
pub word_set_word : (m : Machine) (l : LockName) (x : Fields) → l.index < length m.locks
    → (k : LockName) → word_at (set_word m l x) k ≡ (if same_lock k l then x else word_at m k)
unfolding word_at set_word
word_set_word m l x lt k =
    let y : LockState = put l.wait (lock_at m l.index) x in
    elim (lock_cases k l) [
      | inl e ↦
          let P : LockName → Type 0 =
          λ j. pick j.wait (lock_at (set_lock m l.index y) j.index)
          ≡ (if same_lock j l then x else pick j.wait (lock_at m j.index)) in
          subst P (sym e)
          (ap (pick l.wait) (lock_same m l.index y lt)
          ∙ pick-put_same l.wait (lock_at m l.index) x
          ∙ sym (ap (λ (b : Bool). if b then x else word_at m l) (same_lock-self l)))
      | inr ne ↦ kept y refl ne
          ∙ sym (ap (λ (b : Bool). if b then x else word_at m k) (same_lock-else k l ne))
    ]
  where
    kept : (y : LockState) → y ≡ put l.wait (lock_at m l.index) x → k ≢ l
        → pick k.wait (lock_at (set_lock m l.index y) k.index) ≡ pick k.wait (lock_at m k.index)
    kept y is ne =
        elim (cases_eq k.index l.index) [
          | inl e ↦ lock_part (pick k.wait) m l.index y
              (ap (pick k.wait) is
              ∙ pick-put_other k.wait l.wait (lock_at m l.index) x
              (λ q. ne (λ i. record { index = e i; wait = q i }))) k.index
          | inr z ↦ ap (pick k.wait) (lock_other m l.index k.index y z)
        ]
