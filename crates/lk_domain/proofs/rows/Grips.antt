-- What a row takes, and where it then leads.
use Rattle.std.proofs.Common.{◌≡◌, ◌≢◌, ◌⊎◌, inl, inr, Some, Bool, true, false, refl, sym, ap, ◌∙◌}
use Rattle.std.proofs.Common.{arith, if◌then◌else◌, ◌&&◌, not}
use Rattle.lk_domain.proofs.Names.{cases_Bool, RwFields, Fields, Manner, Spins, LockName, Mode, Cna}
use Rattle.lk_domain.proofs.Names.{Native, Pv, Virt, Waiter, first_place, Effect, Lead, Leaves}
use Rattle.lk_domain.proofs.Names.{Yields, RwWord, Target, target, Frame, Pc, R1, R2, R3, R4, R5}
use Rattle.lk_domain.proofs.Names.{U1, U2, U3, U4, Wr1, Wr2, Wr3, Wr4, Wr5, Wr6, Y1, Y2, Y3, Y4, Y5}
use Rattle.lk_domain.proofs.Names.{Z1, Z2, Unlock, is_held, is_cleared, is_empty, is_open, rw_row}
use Rattle.lk_domain.proofs.Names.{is_rw_row, Course, course_in, enters, held_lock, RwFits, is_rw}
use Rattle.lk_domain.proofs.Names.{is_rw_name, led, World, Frees, Suits, Takes, begins_release}
use Rattle.lk_domain.proofs.Names.{grip_led, grip_of, grip_told, is_leaving, is_seeking, releases}
use Rattle.lk_names.specs.declared.events.What.{What}
use Rattle.lk_names.specs.declared.events.What.TheVariants.{RTake, RRelease, WTake, WRelease}
use Rattle.lk_rows.specs.{Row.{Granted, Freed, Tell, Says}, declared.parts.Pc.TheVariants.U5}
use Rattle.lk_law.specs.{RwPhase.is_inner, SoundWorld.rw_own_phase}
use Rattle.lk_domain.specs.Calls.{is_spun}

-- on what a row of a spinlock or a wait lock operates
abbrev pub IsOwn : Target → Type 0
IsOwn RwWord = ⊥
IsOwn _ = Unit {0}

-- the lock of such a row is its frame's
pub own_lock : (t : Target) (f : Frame) → IsOwn t → held_lock t f ≡ f.lock
own_lock RwWord f h = absurd h
own_lock _ f h = refl

-- it is no row of a reader or a writer
pub own_row : (c : Pc) (f : Frame) → IsOwn (target c f) → is_rw_row c ≡ false
own_row R1 f h = absurd h
own_row R2 f h = absurd h
own_row R3 f h = absurd h
own_row R4 f h = absurd h
own_row R5 f h = absurd h
own_row Wr1 f h = absurd h
own_row Wr2 f h = absurd h
own_row Wr3 f h = absurd h
own_row Wr4 f h = absurd h
own_row Wr5 f h = absurd h
own_row Wr6 f h = absurd h
own_row Y1 f h = absurd h
own_row Y2 f h = absurd h
own_row Y3 f h = absurd h
own_row Y4 f h = absurd h
own_row Y5 f h = absurd h
own_row Z1 f h = absurd h
own_row Z2 f h = absurd h
own_row _ f h = refl

-- and such a row is on the word of a reader-writer lock
pub rw_target : (c : Pc) (f : Frame) → is_rw_row c ≡ true → target c f ≡ RwWord
rw_target c f h = grind (arith, h)

-- a spinlock is taken as one
pub takes_spins : (t : Target) (o : Course) (y : Manner) → IsOwn t → grip_of t o ≡ Takes y → y ≡ Spins
takes_spins t o y h e = by t h e
  where
    lead : (x : Lead) → grip_led x ≡ Takes y → y ≡ Spins
    lead Granted e = cc e
    lead Leaves e = cc e
    lead Freed e = cc e
    lead (Yields c cs) e = cc e
    lead _ e = cc e

    by : (t : Target) → IsOwn t → grip_of t o ≡ Takes y → y ≡ Spins
    by RwWord h e = absurd h
    by _ h e = lead o.leads e

-- a reader-writer lock is taken as a reader or as the writer
takes_shared : (tell : Tell) (y : Manner) → grip_told tell ≡ Takes y → is_spun y ≡ false
takes_shared (Says what) y e = says what e
  where
    says : (what : What) → grip_told (Says what) ≡ Takes y → is_spun y ≡ false
    says (RTake l h) e = cc e
    says (WTake l h) e = cc e
    says (RRelease l) e = cc e
    says (WRelease l) e = cc e
    says _ e = cc e
takes_shared _ y e = cc e

-- a lock on which a row of a spinlock acts is a spinlock or a wait lock
pub plain_name : (kind : _) (f : Frame) (c : Pc) → RwFits kind f → f.place ≡ Some c → is_rw_row c ≡ false
    → is_rw_name kind f.lock ≡ false
plain_name kind f c fits place row =
    elim (cases_Bool f.lock.wait) [
      | inl e ↦ ap (λ b. not b && is_rw (kind f.lock.index)) e
      | inr e ↦ ap (λ b. not b && is_rw (kind f.lock.index)) e ∙ ap is_rw (fits.spin c place row e)
    ]

module _ (m : World) (w : Waiter) (f : Frame) (c : Pc) where
  abbrev t : Target
  t = target c f

  abbrev o : Course
  o = course_in m w f c t

  -- a release takes nothing
  pub takes_seeks : (y : Manner) → grip_of t o ≡ Takes y → is_seeking (Some c) ≡ true
  takes_seeks y e = by c e
    where
      freed : (b : Bool) (x z : Effect Fields) → grip_led x.leads ≢ Takes y → grip_led z.leads ≢ Takes y
          → grip_led (if b then x else z).leads ≢ Takes y
      freed true x z h k = h
      freed false x z h k = k

      by : (c : Pc) → grip_of (target c f) (course_in m w f c (target c f)) ≡ Takes y
          → is_seeking (Some c) ≡ true
      by U1 e = cc e
      by U2 e = absurd (freed (is_held (m.word f.lock).locked) _ _ (λ q. cc q) (λ q. cc q) e)
      by U3 e = cc e
      by U4 e = cc e
      by U5 e = cc e
      by Z1 e = cc e
      by Z2 e = cc e
      by _ e = refl

  -- and its call seeks nothing after it
  pub release_ends : is_seeking (Some c) ≡ false → is_seeking (led f o.leads).place ≡ false
  release_ends h = by c h
    where
      either_ends : (b : Bool) (x z : Effect Fields) → is_seeking (led f x.leads).place ≡ false
          → is_seeking (led f z.leads).place ≡ false
          → is_seeking (led f (if b then x else z).leads).place ≡ false
      either_ends true x z h k = h
      either_ends false x z h k = k

      by : (c : Pc) → is_seeking (Some c) ≡ false
          → is_seeking (led f (course_in m w f c (target c f)).leads).place ≡ false
      by U1 h = refl
      by U2 h = either_ends (is_held (m.word f.lock).locked) _ _ refl refl
      by U3 h = refl
      by U4 h = refl
      by U5 h = refl
      by Z1 h = refl
      by Z2 h = refl
      by _ h = cc h

-- What a row of a reader or a writer does: where it takes its lock, its call ends or frees the wait
-- lock, and it comes to the release of no other lock.
record Mild (f : Frame) (e : Effect RwFields) : Type 0 where
  over : (y : Manner) → grip_told e.tells ≡ Takes y → is_seeking (led f e.leads).place ≡ false
  calm : releases (led f e.leads) ≡ false
  bare : enters e.leads ≡ false

either : (f : Frame) (b : Bool) (x y : Effect RwFields) → Mild f x → Mild f y → Mild f (if b then x else y)
either f true x y h k = h
either f false x y h k = k

frees : (mode : Mode) → is_seeking (Some (first_place mode Unlock)) ≡ false
frees Virt = refl
frees Native = refl
frees Cna = refl
frees Pv = refl

frees_calm : (mode : Mode) (b : Bool) → b ≡ true
    → (begins_release (Some (first_place mode Unlock))
    && not (b && not (is_leaving (Some (first_place mode Unlock))))) ≡ false
frees_calm Virt b e = rw e refl
frees_calm Native b e = rw e refl
frees_calm Cna b e = rw e refl
frees_calm Pv b e = rw e refl

bias_place : (b : Bool) → begins_release (Some (if b then R3 else R2)) ≡ false
bias_place true = refl
bias_place false = refl

empty_place : (b : Bool) (c d : Pc) → begins_release (Some c) ≡ false
    → begins_release (Some d) ≡ false
    → begins_release (Some (if b then c else d)) ≡ false
empty_place true c d h k = h
empty_place false c d h k = k

calm_of : (a b : Bool) → a ≡ false → (a && b) ≡ false
calm_of true b h = cc h
calm_of false b h = refl

mild : (mode : Mode) (c : Pc) (f : Frame) (x : RwFields) → is_rw_row c ≡ true
    → (is_inner (rw_own_phase c) ≡ true → f.lock.wait ≡ true) → Mild f (rw_row mode c f x)
mild mode R1 f x h inner = either f (is_open x) _ _ (record { over = λ y e. refl; calm = refl; bare = refl })
    (record { over = λ y e. cc e; calm = calm_of _ _ (bias_place (Rattle.std.proofs.Common.eqb f.ctx 0)); bare = refl })
mild mode R2 f x h inner = either f x.writer _ _ (record { over = λ y e. cc e; calm = refl; bare = refl }) (record { over = λ y e. refl; calm = refl; bare = refl })
mild mode R3 f x h inner = record { over = λ y e. cc e; calm = refl; bare = refl }
mild mode R4 f x h inner = record { over = λ y e. cc e; calm = refl; bare = refl }
mild mode R5 f x h inner = either f x.writer _ _ (record { over = λ y e. cc e; calm = refl; bare = refl })
    (record { over = λ y e. frees mode; calm = frees_calm mode f.lock.wait (inner refl); bare = refl })
mild mode Wr1 f x h inner = either f (is_empty x) _ _ (record { over = λ y e. refl; calm = refl; bare = refl }) (record { over = λ y e. cc e; calm = refl; bare = refl })
mild mode Wr2 f x h inner = record { over = λ y e. cc e; calm = calm_of _ _ (empty_place (is_empty x) Wr3 Wr4 refl refl); bare = refl }
mild mode Wr3 f x h inner = either f (is_empty x) _ _
    (record { over = λ y e. frees mode; calm = frees_calm mode f.lock.wait (inner refl); bare = refl }) (record { over = λ y e. cc e; calm = refl; bare = refl })
mild mode Wr4 f x h inner = record { over = λ y e. cc e; calm = refl; bare = refl }
mild mode Wr5 f x h inner = record { over = λ y e. cc e; calm = calm_of _ _ (empty_place (is_cleared x) Wr6 Wr5 refl refl); bare = refl }
mild mode Wr6 f x h inner = either f (is_cleared x) _ _
    (record { over = λ y e. frees mode; calm = frees_calm mode f.lock.wait (inner refl); bare = refl }) (record { over = λ y e. cc e; calm = refl; bare = refl })
mild mode Y1 f x h inner = either f (is_open x) _ _ (record { over = λ y e. cc e; calm = refl; bare = refl }) (record { over = λ y e. cc e; calm = refl; bare = refl })
mild mode Y2 f x h inner = either f (is_open x) _ _ (record { over = λ y e. refl; calm = refl; bare = refl }) (record { over = λ y e. cc e; calm = refl; bare = refl })
mild mode Y3 f x h inner = record { over = λ y e. cc e; calm = refl; bare = refl }
mild mode Y4 f x h inner = either f (is_empty x) _ _ (record { over = λ y e. cc e; calm = refl; bare = refl }) (record { over = λ y e. cc e; calm = refl; bare = refl })
mild mode Y5 f x h inner = either f (is_empty x) _ _ (record { over = λ y e. refl; calm = refl; bare = refl }) (record { over = λ y e. cc e; calm = refl; bare = refl })
mild mode Z1 f x h inner = record { over = λ y e. cc e; calm = refl; bare = refl }
mild mode Z2 f x h inner = record { over = λ y e. cc e; calm = refl; bare = refl }
mild mode _ f x h inner = cc h

-- it frees its lock at the two releases alone
shared_frees : (mode : Mode) (c : Pc) (f : Frame) (x : RwFields) → grip_told (rw_row mode c f x).tells ≡ Frees
    → (c ≡ Z1) ⊎ (c ≡ Z2)
shared_frees mode c f x e = by c e
  where
    pick : (b : Bool) (x y : Effect RwFields) → (grip_told x.tells ≡ Frees → ⊥) → (grip_told y.tells ≡ Frees → ⊥)
        → grip_told (if b then x else y).tells ≡ Frees → ⊥
    pick true x y h k e = h e
    pick false x y h k e = k e

    by : (c : Pc) → grip_told (rw_row mode c f x).tells ≡ Frees → (c ≡ Z1) ⊎ (c ≡ Z2)
    by Z1 e = inl refl
    by Z2 e = inr refl
    by R1 e = absurd (pick (is_open x) _ _ (λ h. cc h) (λ h. cc h) e)
    by R2 e = absurd (pick x.writer _ _ (λ h. cc h) (λ h. cc h) e)
    by R5 e = absurd (pick x.writer _ _ (λ h. cc h) (λ h. cc h) e)
    by Wr1 e = absurd (pick (is_empty x) _ _ (λ h. cc h) (λ h. cc h) e)
    by Wr3 e = absurd (pick (is_empty x) _ _ (λ h. cc h) (λ h. cc h) e)
    by Wr6 e = absurd (pick (is_cleared x) _ _ (λ h. cc h) (λ h. cc h) e)
    by Y1 e = absurd (pick (is_open x) _ _ (λ h. cc h) (λ h. cc h) e)
    by Y2 e = absurd (pick (is_open x) _ _ (λ h. cc h) (λ h. cc h) e)
    by Y4 e = absurd (pick (is_empty x) _ _ (λ h. cc h) (λ h. cc h) e)
    by Y5 e = absurd (pick (is_empty x) _ _ (λ h. cc h) (λ h. cc h) e)
    by _ e = cc e

pub frees_at : (m : World) (w : Waiter) (f : Frame) (c : Pc) → is_rw_row c ≡ true
    → grip_of (target c f) (course_in m w f c (target c f)) ≡ Frees → (c ≡ Z1) ⊎ (c ≡ Z2)
frees_at m w f c h e =
    shared_frees m.mode c f (m.rw f.lock.index)
    (sym (λ i. grip_of (rw_target c f h i) (course_in m w f c (rw_target c f h i))) ∙ e)

-- a spinlock's row that takes a plain lock ends its call
own_over : (t : Target) (f : Frame) (o : Course) (y : Manner) → IsOwn t → grip_of t o ≡ Takes y
    → f.lock.wait ≡ false → is_seeking (led f o.leads).place ≡ false
own_over t f o y h e plain = by t h e
  where
    lead : (x : Lead) → grip_led x ≡ Takes y → is_seeking (led f x).place ≡ false
    lead Granted e = rw plain refl
    lead Leaves e = rw plain refl
    lead Freed e = cc e
    lead (Yields c cs) e = cc e
    lead _ e = cc e

    by : (t : Target) → IsOwn t → grip_of t o ≡ Takes y → is_seeking (led f o.leads).place ≡ false
    by RwWord h e = absurd h
    by _ h e = lead o.leads e

-- in a world, by a frame that fits it
module _ (m : World) (w : Waiter) (f : Frame) (c : Pc) (fits : RwFits m.kind f) (place : f.place ≡ Some c) where
  abbrev x : Target
  x = target c f

  abbrev q : Course
  q = course_in m w f c x

  rw_is : is_rw_row c ≡ true → q ≡ course_in m w f c RwWord
  rw_is h = ap (course_in m w f c) (rw_target c f h)

  rw_mild : (h : is_rw_row c ≡ true) → Mild f (rw_row m.mode c f (m.rw f.lock.index))
  rw_mild h = mild m.mode c f (m.rw f.lock.index) h (fits.inner c place h)

  -- a row of a reader or a writer comes to no release but that of the wait lock
  pub shared_calm : is_rw_row c ≡ true → releases (led f q.leads) ≡ false
  shared_calm h = ap (λ (z : Course). releases (led f z.leads)) (rw_is h) ∙ (rw_mild h).calm

  -- and gives no node
  pub shared_bare : is_rw_row c ≡ true → enters q.leads ≡ false
  shared_bare h = ap (λ (z : Course). enters z.leads) (rw_is h) ∙ (rw_mild h).bare

  -- where a row takes another lock than a wait lock, its call has it then
  pub taken_over : IsOwn x ⊎ (is_rw_row c ≡ true) → (y : Manner) → grip_of x q ≡ Takes y
      → (held_lock x f).wait ≡ false → is_seeking (led f q.leads).place ≡ false
  taken_over (inl own) y e plain = own_over x f q y own e (sym (ap (λ (z : LockName). z.wait) (own_lock x f own)) ∙ plain)
  taken_over (inr h) y e plain =
      ap (λ (z : Course). is_seeking (led f z.leads).place) (rw_is h)
      ∙ (rw_mild h).over y (sym (λ i. grip_of (rw_target c f h i) (course_in m w f c (rw_target c f h i))) ∙ e)

  -- it takes it in a manner of its kind
  pub taken_suits : IsOwn x ⊎ (is_rw_row c ≡ true) → (y : Manner) → grip_of x q ≡ Takes y
      → Suits m.kind (held_lock x f) y
  taken_suits (inl own) y e =
      let plain : is_rw_name m.kind (held_lock x f) ≡ false =
      ap (is_rw_name m.kind) (own_lock x f own) ∙ plain_name m.kind f c fits place (own_row c f own) in
      ap is_spun (takes_spins x q y own e) ∙ ap not (sym plain)
  taken_suits (inr h) y e =
      let told = takes_shared (rw_row m.mode c f (m.rw f.lock.index)).tells y
      (sym (λ i. grip_of (rw_target c f h i) (course_in m w f c (rw_target c f h i))) ∙ e) in
      told
      ∙ sym (ap (λ (z : Target). not (is_rw_name m.kind (held_lock z f))) (rw_target c f h) ∙ ap (λ k. not (is_rw k)) (fits.rw c place h))
