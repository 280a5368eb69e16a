-- Where a row leads that is none of a reader or a writer.
use Rattle.std.proofs.Common.{◌≡◌, inl, inr, Option, Some, None, Bool, true, false, refl, ap, arith}
use Rattle.std.proofs.Common.{if◌then◌else◌, is_some, ◌&&◌, ◌-◌, ◌==◌, not}
use Rattle.lk_domain.proofs.Names.{cases_Bool, NodeName, Waiter, node_of, Effect, target, Frame, Pc}
use Rattle.lk_domain.proofs.Names.{H1, U2, U3, U4, W1, is_held, is_set, is_unlocked, is_rw_row}
use Rattle.lk_domain.proofs.Names.{may_halt, course_in, IsThen, led, World, begins_release}
use Rattle.lk_rows.specs.declared.parts.Pc.TheVariants.{H2, W2, W3, W4, W5, W6, W7, E1, E2, E3, E4}
use Rattle.lk_rows.specs.declared.parts.Pc.TheVariants.{E5, E6, E7, E8, E9, E10, E11, E12, E13, E14}
use Rattle.lk_rows.specs.{declared.parts.Pc.TheVariants.{E15, K1, K2, K3, U5}, rows.Cna.is_last}
use Rattle.lk_rows.specs.rows.Pv.{pv_after_next, is_running, is_halted, is_slow_byte}
use Rattle.lk_rows.specs.rows.Pv.{after_given_up}
use Rattle.lk_law.proofs.running.Calm.{row_is_calm}
use Rattle.lk_law.specs.Leads.{is_release}

-- a row that is none of a reader or a writer leads to no first row of a release
weaker : (o : Option Pc) → is_release o ≡ false → begins_release o ≡ false
weaker None h = refl
weaker (Some c) h = grind (arith, h)

module _ (m : World) (w : Waiter) (f : Frame) where
  -- where a frame goes on that has the lock
  after : (f.lock.wait ≡ true → IsThen f.then) → begins_release (if f.lock.wait then f.then else None) ≡ false
  after inner =
      elim (cases_Bool f.lock.wait) [
        | inl e ↦ rw e (elim (inner e) [ inl q ↦ ap begins_release q | inr q ↦ ap begins_release q ])
        | inr e ↦ rw e refl
      ]

  either : {A : Type 0} (b : Bool) (x y : Effect A) → begins_release (led f x.leads).place ≡ false
      → begins_release (led f y.leads).place ≡ false
      → begins_release (led f (if b then x else y).leads).place ≡ false
  either true x y h k = h
  either false x y h k = k

  place : (b : Bool) (c d : Pc) → begins_release (Some c) ≡ false → begins_release (Some d) ≡ false
      → begins_release (Some (if b then c else d)) ≡ false
  place true c d h k = h
  place false c d h k = k

  given : (me : Option NodeName) → begins_release (Some (after_given_up me)) ≡ false
  given None = refl
  given (Some n) = refl

  next : (x : Option NodeName) → begins_release (led f (pv_after_next x).leads).place ≡ false
  next None = refl
  next (Some n) = refl

  halting : (c : Pc) → may_halt c ≡ true → (f.lock.wait ≡ true → IsThen f.then)
      → begins_release (led f (course_in m w f c (target c f)).leads).place ≡ false
  halting H1 h inner =
      place (is_unlocked (m.word f.lock).locked && not (m.word f.lock).pending) _ _ refl
      (glance (is_some (m.word f.lock).tail && not (m.word f.lock).pending))
    where
      glance : (b : Bool) → begins_release (Some (if b then H1 else after_given_up f.me)) ≡ false
      glance true = refl
      glance false = given f.me
  halting H2 h inner = either (is_unlocked (m.word f.lock).locked) _ _ (after inner) (tailed f.tailed)
    where
      tailed : (b : Bool) → begins_release (Some (if b then H1 else after_given_up f.me)) ≡ false
      tailed true = refl
      tailed false = given f.me
  halting W1 h inner = place (is_set (m.node (node_of f.me)).flag) E1 W2 refl refl
  halting W2 h inner =
      either (is_running (m.node (node_of f.prev)).state) _ _ (either ((f.left - 1) == 0) _ _ refl refl) refl
  halting W3 h inner = refl
  halting W4 h inner = either (is_set (m.node (node_of f.me)).flag) _ _ refl refl
  halting W5 h inner = place (is_halted (m.node (node_of f.me)).state) W6 W7 refl refl
  halting W6 h inner = refl
  halting W7 h inner = either (is_halted (m.node (node_of f.me)).state) _ _ refl refl
  halting E1 h inner = refl
  halting E2 h inner = refl
  halting E3 h inner = refl
  halting E4 h inner =
      either (is_unlocked (m.word f.lock).locked && (m.word f.lock).pending) _ _ refl
      (either ((f.left - 1) == 0) _ _ refl refl)
  halting E5 h inner = place f.hashed E10 E6 refl refl
  halting E6 h inner = refl
  halting E7 h inner = either (is_unlocked (m.word f.lock).locked) _ _ refl refl
  halting E8 h inner = refl
  halting E9 h inner = refl
  halting E10 h inner = refl
  halting E11 h inner = place (is_slow_byte (m.word f.lock).locked) E12 E2 refl refl
  halting E12 h inner = refl
  halting E13 h inner = either (is_last f (m.word f.lock)) _ _ (after inner) refl
  halting E14 h inner = next (m.node (node_of f.me)).next
  halting E15 h inner = refl
  halting K1 h inner = either (is_halted (m.node (node_of f.y)).state) _ _ refl (after inner)
  halting K2 h inner = refl
  halting K3 h inner = after inner
  halting U2 h inner = either (is_held (m.word f.lock).locked) _ _ refl refl
  halting U3 h inner = refl
  halting U4 h inner = refl
  halting U5 h inner = refl
  halting _ h inner = cc h

pub begins_none : (m : World) (w : Waiter) (f : Frame) (c : Pc) → (f.lock.wait ≡ true → IsThen f.then)
    → is_rw_row c ≡ false
    → begins_release (led f (course_in m w f c (target c f)).leads).place ≡ false
begins_none m w f c inner spin = elim (cases_Bool (may_halt c)) [
  | inl on ↦ halting m w f c on inner
  | inr off ↦ weaker _ (row_is_calm m w f c (record { awake = off; spin = spin }) inner)
]
