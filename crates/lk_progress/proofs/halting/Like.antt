-- While heads go around, a machine stays like it was to all others.
use Rattle.std.proofs.Common.{◌≡◌, ◌≢◌, ◌⊎◌, inl, inr, ℕ, ◌<◌, ◌-◌, Option, Some, None, true, refl}
use Rattle.std.proofs.Common.{sym, ap, ◌∙◌, subst, length}
use Rattle.std.specs.Prelude.{unwrap_or}
use Rattle.lk_progress.proofs.Names.{cases_Bool, cases_eq, NodeName, LockHistory, LockName, Waiter}
use Rattle.lk_progress.proofs.Names.{Machine, halted_at, kicked_at, rw_at, top_frame, top_of}
use Rattle.lk_progress.proofs.Names.{word_at, target, Frame, Pc, course_in, ShowsAll, world}
use Rattle.lk_progress.proofs.Names.{spin_part, led, goes_around, top_live, GoesAround}
use Rattle.lk_rows.specs.Machine.{rest_frame, frame_at, depth_at, node_at}
use Rattle.lk_progress.proofs.HaltingSteps.{bool_same, held_same}
use Rattle.lk_progress.proofs.{halting.Around.{RoundOn, robbed_on}, halting.Potential.Circles}

-- k is m, but for heads that go around in both, their states, and whether their locks are pending
pub record LikeHalting (m k : Machine) : Type 0 where
  pub setup : k.setup ≡ m.setup
  pub cpus : length k.cpus ≡ length m.cpus
  pub depth : (p : ℕ) → depth_at k p ≡ depth_at m p
  pub byte : (l : LockName) → (word_at k l).locked ≡ (word_at m l).locked
  pub tail : (l : LockName) → (word_at k l).tail ≡ (word_at m l).tail
  pub rw : (i : ℕ) → rw_at k i ≡ rw_at m i
  pub links : (n : NodeName) → (node_at k n).next ≡ (node_at m n).next
  pub halted : (p : ℕ) → halted_at k p ≡ halted_at m p
  pub kicked : (p : ℕ) → kicked_at k p ≡ kicked_at m p
  pub tops : (p : ℕ)
      → (top_frame k p ≡ top_frame m p)
      ⊎ (GoesAround m p × GoesAround k p × ((top_frame k p).lock ≡ (top_frame m p).lock))
  pub pending : (l : LockName)
      → ((p : ℕ) → GoesAround m p → (top_frame m p).lock ≡ l → ⊥)
      → (word_at k l).pending ≡ (word_at m l).pending

pub like_self : (m : Machine) → LikeHalting m m
like_self m = record {
  setup = refl;
  cpus = refl;
  depth = λ p. refl;
  byte = λ l. refl;
  tail = λ l. refl;
  rw = λ i. refl;
  links = λ n. refl;
  halted = λ p. refl;
  kicked = λ p. refl;
  tops = λ p. inl refl;
  pending = λ l none. refl;
}

-- a frame that goes around does so where it is the same, and so is the byte
around_by : (m k : Machine) → ((l : LockName) → (word_at k l).locked ≡ (word_at m l).locked) → (p : ℕ) → top_frame k p ≡ top_frame m p
    → GoesAround k p → GoesAround m p
around_by m k byte p same t = record {
  place = t.place;
  here = ap (λ (f : Frame). f.place) (sym same) ∙ t.here;
  robbed = (
    t.robbed.0,
    ap (λ (f : Frame). f.hashed) (sym same) ∙ t.robbed.1,
    ap (λ (f : Frame). (word_at m f.lock).locked) (sym same) ∙ sym (byte (top_frame k p).lock) ∙ t.robbed.2,
  );
}

module _ (m k : Machine) (like : LikeHalting m k) where
  -- who goes around in the one does in the other, on the same lock
  pub around_back : (p : ℕ) → GoesAround k p → GoesAround m p × ((top_frame k p).lock ≡ (top_frame m p).lock)
  around_back p t = elim (like.tops p) [
    | inl same ↦ (around_by m k like.byte p same t, ap (λ (f : Frame). f.lock) same)
    | inr z ↦ (z.0, z.2)
  ]

  pub around_on : (p : ℕ) → GoesAround m p → GoesAround k p × ((top_frame k p).lock ≡ (top_frame m p).lock)
  around_on p t = elim (like.tops p) [
    | inl same ↦ (around_by k m (λ l. sym (like.byte l)) p (sym same) t, ap (λ (f : Frame). f.lock) same)
    | inr z ↦ (z.1, z.2)
  ]

  pub like_sym : LikeHalting k m
  like_sym = record {
    setup = sym like.setup;
    cpus = sym like.cpus;
    depth = λ p. sym (like.depth p);
    byte = λ l. sym (like.byte l);
    tail = λ l. sym (like.tail l);
    rw = λ i. sym (like.rw i);
    links = λ n. sym (like.links n);
    halted = λ p. sym (like.halted p);
    kicked = λ p. sym (like.kicked p);
    tops = λ p. elim (like.tops p) [ inl same ↦ inl (sym same) | inr z ↦ inr (z.1, z.0, sym z.2) ];
    pending = λ l none. sym (like.pending l (λ p t e. let z = around_on p t in none p z.0 (z.1 ∙ e)));
  }

pub like_then : (a b c : Machine) → LikeHalting a b → LikeHalting b c → LikeHalting a c
like_then a b c s t = record {
  setup = t.setup ∙ s.setup;
  cpus = t.cpus ∙ s.cpus;
  depth = λ p. t.depth p ∙ s.depth p;
  byte = λ l. t.byte l ∙ s.byte l;
  tail = λ l. t.tail l ∙ s.tail l;
  rw = λ i. t.rw i ∙ s.rw i;
  links = λ n. t.links n ∙ s.links n;
  halted = λ p. t.halted p ∙ s.halted p;
  kicked = λ p. t.kicked p ∙ s.kicked p;
  tops = λ p. elim (s.tops p) [
    | inl same ↦ elim (t.tops p) [
      | inl now ↦ inl (now ∙ same)
      | inr z ↦ (let back = around_back a b s p z.0 in inr (back.0, z.1, z.2 ∙ back.1))
    ]
    | inr y ↦ (let on = around_on b c t p y.1 in inr (y.0, on.0, on.1 ∙ y.2))
  ];
  pending = λ l none. t.pending l (λ p y e. let z = around_back a b s p y in none p z.0 (sym z.1 ∙ e)) ∙ s.pending l none;
}

-- whether a head goes around is decided
pub around_or : (m : Machine) (p : ℕ) → GoesAround m p ⊎ (GoesAround m p → ⊥)
around_or m p = by (top_frame m p).place refl
  where
    by : (o : Option Pc) → (top_frame m p).place ≡ o → GoesAround m p ⊎ (GoesAround m p → ⊥)
    by None e = inr (λ t. let z = t.here in cc (e, z))
    by (Some c) e = elim (cases_Bool (goes_around c)) [
      | inr no_round ↦ inr (λ t. let z : Some t.place ≡ Some c = sym t.here ∙ e in
          let y : t.place ≡ c = cc z in
          let x : goes_around c ≡ true = ap goes_around (sym y) ∙ t.robbed.0 in cc (x, no_round))
      | inl g ↦ elim (bool_same (top_frame m p).hashed true) [
        | inr ne ↦ inr (λ t. ne t.robbed.1)
        | inl h ↦ elim (held_same (word_at m (top_frame m p).lock).locked) [
          | inr ne ↦ inr (λ t. ne t.robbed.2)
          | inl b ↦ inl (record { place = c; here = e; robbed = (g, h, b) })
        ]
      ]
    ]

module _ (m n : Machine) (hs : LockName → LockHistory) (shows : ShowsAll m hs) (p : ℕ) (range : p < length m.cpus)
    (setup : n.setup ≡ m.setup) (cpus : length n.cpus ≡ length m.cpus) (z : Circles m n p) where
  top_same : (q : ℕ) → top_of n q ≡ top_of m q
  top_same q = ap (λ (i : ℕ). record { cpu = q; ctx = i - 1 }) (z.depth q)

  top_now : top_frame n p ≡ led (top_frame m p)
      (course_in (world m) (top_of m p) (top_frame m p) z.around.place (target z.around.place (top_frame m p))).leads
  top_now = ap (λ (u : Waiter). unwrap_or (frame_at n u) rest_frame) (top_same p)
      ∙ ap (λ (o : Option Frame). unwrap_or o rest_frame) z.here

  on : RoundOn (top_frame m p) (led (top_frame m p)
      (course_in (world m) (top_of m p) (top_frame m p) z.around.place (target z.around.place (top_frame m p))).leads) z.around.place
  on = robbed_on (world m) (spin_part (world m).kind hs) shows.world.spins (top_of m p) (top_frame m p) (top_live m p hs shows range)
      z.around.place z.around.here z.around.robbed

  pub round_now : RoundOn (top_frame m p) (top_frame n p) z.around.place
  round_now = subst (λ (g : Frame). RoundOn (top_frame m p) g z.around.place) (sym top_now) on

  around_now : GoesAround n p
  around_now =
      let r = round_now in
      record {
        place = r.place;
        here = r.here;
        robbed = (
          r.around,
          r.hashed,
          ap (λ (l : LockName). (word_at n l).locked) r.lock ∙ z.keeps.byte (top_frame m p).lock ∙ z.around.robbed.2,
        );
      }

  pub others_same : (q : ℕ) → q ≢ p → top_frame n q ≡ top_frame m q
  others_same q ne =
      ap (λ (u : Waiter). unwrap_or (frame_at n u) rest_frame) (top_same q)
      ∙ ap (λ (o : Option Frame). unwrap_or o rest_frame) (z.others (top_of m q) (λ e. ne (ap (λ (u : Waiter). u.cpu) e)))

  -- a head that goes around leaves the machine as it is to all others
  pub circle_like : LikeHalting m n
  circle_like = record {
    setup = setup;
    cpus = cpus;
    depth = z.depth;
    byte = z.keeps.byte;
    tail = z.keeps.tail;
    rw = z.keeps.rw;
    links = z.links;
    halted = z.halted;
    kicked = z.keeps.kicked;
    tops = λ q. elim (cases_eq q p) [
      | inl e ↦ subst (λ (i : ℕ). (top_frame n i ≡ top_frame m i)
          ⊎ (GoesAround m i × GoesAround n i × ((top_frame n i).lock ≡ (top_frame m i).lock))) (sym e)
          (inr (z.around, around_now, round_now.lock))
      | inr ne ↦ inl (others_same q ne)
    ];
    pending = λ l none. z.pending l (λ e. none p z.around (sym e));
  }
